-- Plain mathematics that no part of the papers speaks of, below every other proof:
-- BoolLaws (tests, and choices by a test), FiniteLaws (searches below n: any, all, count, least), CountLaws (numbering what
-- passes a test), SumLaws (sums, and counts by rows, columns and keys), TableLaws (a table cell by cell), BitLaws (the bits of a
-- number), SetLaws (sets as numbers), AllLaws (all entries of a list, membership), ListLaws (an entry and its place), Filling
-- (lists that a loop fills or changes), LoopLaws (loops to a fixed point) and TurnLaws (a turn more), RangeLaws (chains over a
-- range or a slice), Ascending (ascending lists), Update (a function changed at one argument).
pub mod BoolLaws
pub mod FiniteLaws
pub mod CountLaws
pub mod SumLaws
pub mod TableLaws
pub mod BitLaws
pub mod SetLaws
pub mod AllLaws
pub mod ListLaws
pub mod Filling
pub mod LoopLaws
pub mod TurnLaws
pub mod RangeLaws
pub mod Ascending
pub mod Update
