-- Sets of numbers as words of bits, where the facts of a kind stand, and the left words that the facts of a state have.
pub mod BitSet
pub mod Kinds
pub mod Index
