-- Arrays that a loop fills or a closure makes, and sets of views as words.
mod FilledLaws
mod FromFnLaws
mod SetLaws
-- The order, how it is found, and what it means.
mod OrderLaws
mod ArrangeLaws
-- What is known of the pairs, and the answers by it.
pub mod KnownLaws
mod ComparedLaws
pub mod AnswerLaws
pub mod Exactness
-- Orders worked out by hand.
mod Examples
