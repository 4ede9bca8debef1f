-- Held is reflexive and transitive, and open is what held is not: so two verdicts may settle a third.
use Rattle.records.specs.Schema.{Schema}
use Rattle.records.specs.Concept.{Concept}
use Rattle.records.specs.Subsumption.{Open, Held}

module _ (S : Schema) where
  -- every concept is held by itself
  pub held_self : (C : Concept) → Held S C C
  held_self C I legal d inside c = c

  -- what is held by a second that is held by a third is held by the third
  pub held_through : (C D E : Concept) → Held S C D → Held S D E → Held S C E
  held_through C D E h k I legal d inside c = k I legal d inside (h I legal d inside c)

  pub held_not_open : (C D : Concept) → Held S C D → Open S C D → ⊥
  held_not_open C D h o =
      let (I, d, x) = o in
      x.outside (h I x.legal d x.selected.0 x.selected.1)

  -- an object in C and outside D is in what holds C and outside what D holds
  pub open_through : (B C D E : Concept) → Held S C B → Open S C D → Held S E D → Open S B E
  open_through B C D E h o k =
      let (I, d, x) = o in (
        I,
        d,
        record {
          legal = x.legal;
          selected = (x.selected.0, h I x.legal d x.selected.0 x.selected.1);
          outside = λ e. x.outside (k I x.legal d x.selected.0 e);
        },
      )
