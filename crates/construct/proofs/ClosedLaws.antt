-- The query's facts, read kind by kind, are all that it asks.
use mathlib.Core.List.{List}
use Prim.Native.Nat.{ℕ}
use native.Mathlib.Omega.{arith}
use mathlib.Core.Path.{◌≡◌}
use Rattle.records.specs.Marks.{used_marks}
use Rattle.chase.specs.Task.{nodes}
use Rattle.chase.specs.Primary.{primary}
use Rattle.primary.specs.Formed.{Becomes}
use Rattle.primary.specs.Asked.{query_task, Asks}
use Rattle.primary.proofs.SettleLaws.{asks_facts}
use Rattle.asked.specs.declared.words.Kind.TheVariants.{Members, Edges}
use Rattle.asked.specs.declared.words.Words.{Words}
use Rattle.asked.specs.declared.ties.Tied.{Tied}
use Rattle.asked.specs.Listed.{listed}
use Rattle.asked.specs.Answer.{Asked, IsTied}
use Rattle.construct.specs.Closed.{Pair, Closed, MarksOf}

module _ (s q : List ℕ) (ok : Pair s q) (ms : Words) (qs : Tied) (es : Words) (a : Asked s q Members ms) (b : IsTied s q qs) (c : Asked s q Edges es) where
  pub asks : Asks s q (listed ms) (listed qs.ties) (listed es)
  asks =
      record {
        legal = ok.schema_accepted;
        sound = ok.query_accepted;
        classes = a.says;
        tied = b.says;
        related = c.says;
      }

  pub closed_by : (r l : List ℕ) → Becomes (nodes (query_task s q)) r l (primary (query_task s q)) → Closed s q r l (listed es)
  closed_by r l z =
      record { prime = z; edges = c.says; inside = (asks_facts s q (listed ms) (listed qs.ties) (listed es) asks).edges }

  pub marks_by : (used : ℕ) → used ≡ used_marks q → MarksOf s q (record { used = used; nodes = qs.nodes })
  marks_by used e = record { used = e; room = b.room; nodes = λ k h. b.marks k (omega arith) }
