-- What contracts of helper functions cite. (What evaluation asks is Evaluable of paths, and what it promises Selection of rows.)
pub mod Relations
pub mod Places
