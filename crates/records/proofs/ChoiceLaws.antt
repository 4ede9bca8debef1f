-- Legal states and concepts without marks ignore the choice for the marks (legal_choosing, in_choosing). So for a view without
-- marks held is "for every legal state and every choice" (held_choices).
use Prim.Native.Nat.{ℕ}
use mathlib.Core.Logic.{◌↔◌}
use Rattle.records.specs.declared.schema.Axiom.{Axiom}
use Rattle.records.specs.declared.schema.Axiom.TheVariants.{Subclass, Typing, Necessary, Single, Relates}
use Rattle.records.specs.State.{State}
use Rattle.records.specs.Schema.{Schema, Holds, Legal}
use Rattle.records.specs.Concept.{Direction, forward, backward, Concept, class, everything, constant, both, reached, common, mark, Path, empty, step}
use Rattle.records.specs.Semantics.{Steps, In, Leads}
use Rattle.records.specs.Subsumption.{Held}
use Rattle.records.specs.Choice.{choosing, HeldForEach, Unmarked, UnmarkedPath}

module _ (I : State) (f : ℕ → ℕ) where
  holds_choosing : (x : Axiom) → Holds I x → Holds (choosing f I) x
  holds_choosing (Subclass A B) h = h
  holds_choosing (Typing A P B) h = h
  holds_choosing (Necessary A P) h = h
  holds_choosing (Single A P) h = h
  holds_choosing (Relates P A B) h = h

  pub legal_choosing : (S : Schema) → Legal S I → Legal S (choosing f I)
  legal_choosing S legal =
      record {
        names = record { inside = legal.names.inside; apart = legal.names.apart };
        holds = λ i h. holds_choosing (S.axiom_at i) (legal.holds i h);
      }

  steps_choosing : (r : Direction) (P d e : ℕ) → Steps I r P d e → Steps (choosing f I) r P d e
  steps_choosing forward P d e x = x
  steps_choosing backward P d e x = x

  mutual
    chosen : (C : Concept) (d : ℕ) → Unmarked C → In I C d → In (choosing f I) C d
    chosen (class A) d u x = x
    chosen everything d u x = x
    chosen (constant a) d u x = x
    chosen (both C D) d u x = (chosen C d u.0 x.0, chosen D d u.1 x.1)
    chosen (reached p) d u x = (x.0, x.1, led p d x.0 u x.2)
    chosen (common p q) d u x = (x.0, x.1, (led p d x.0 u.0 x.2.0, led q d x.0 u.1 x.2.1))
    chosen (mark k) d u x = absurd u

    led : (p : Path) (d e : ℕ) → UnmarkedPath p → Leads I p d e → Leads (choosing f I) p d e
    led empty d e u x = x
    led (step p r P C) d e u x =
        (x.0, x.1, (led p d x.0 u.0 x.2.0, steps_choosing r P x.0 e x.2.1, chosen C e u.1 x.2.2))

-- back by the choice that was there before
pub in_choosing : (I : State) (f : ℕ → ℕ) (C : Concept) (d : ℕ) → Unmarked C → In I C d ↔ In (choosing f I) C d
in_choosing I f C d u = (chosen I f C d u, chosen (choosing f I) I.marks C d u)

pub held_choices : (S : Schema) (query view : Concept) → Unmarked view → Held S query view ↔ HeldForEach S query view
held_choices S query view u = (
  λ held I legal f d h x.
      (in_choosing I f view d u).1 (held (choosing f I) (legal_choosing I f S legal) d h x),
  λ held I legal d h x. held I legal I.marks d h x,
)
