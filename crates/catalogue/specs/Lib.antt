-- Views in order (document 02, note 3): what the order is, what the entries promise, and what that means for the views.
pub mod Order
pub mod Answers
pub mod Exact
-- What only contracts of helper functions cite.
pub mod Helpers
