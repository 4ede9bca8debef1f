-- What C gets of an answer: the number that a call returns, 0 or the refusal's, and the out value after the call, which a refused call
-- leaves as it was. Of three out values the record Named stands for them together.
use Rattle.std.specs.Prelude.{ℕ, suc, ◌<◌, ◌^◌, Option, Some, None, Result, Ok, Err, ◌≡◌}
use Rattle.records.specs.declared.refusal.Refusal.{Refusal}
use Rattle.records.specs.Refusal.{returned}

-- what the answer shows, or the value before the call
abbrev pub written : {A B : Type 0} → (A → B) → Result A Refusal → B → B
written show (Ok x) before = show x
written show (Err r) before = before

pub record GivenTo {A B : Type 0} (show : A → B) (answer : Result A Refusal) (before : B) (number : ℕ) (after : B) : Type 0 where
  pub returns : number ≡ returned answer
  pub writes : after ≡ written show answer before

-- 0 for none, one more than the number that there is
abbrev pub one_more : Option ℕ → ℕ
one_more None = 0
one_more (Some k) = suc k

-- one more than the number in the answer is a word of 64 bits
abbrev pub PlaceFits : Result (Option ℕ) Refusal → Type 0
PlaceFits (Ok None) = Unit {0}
PlaceFits (Ok (Some k)) = suc k < 2 ^ 64
PlaceFits (Err r) = Unit {0}
