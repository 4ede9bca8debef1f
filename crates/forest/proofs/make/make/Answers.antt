-- A value that is lacking goes into the next word, with the classes that are forced on it.
use Prim.Native.Nat.{ℕ}
use native.Mathlib.Omega.{arith}
use mathlib.Core.Path.{sym, ap, ◌∙◌}
use Rattle.records.specs.SchemaRecord.{schema_of}
use Rattle.chase.specs.Axioms.{image}
use Rattle.forest.proofs.GrowLaws.{make_idle, make_room, make_one}
use Rattle.forest.proofs.make.make.Goals as goal

pub returns-then-not-lacks : goal.returns-then-not-lacks
returns-then-not-lacks c = make_idle c.requires (sym (c.lacks.ensures _ c.requires.known.needing) ∙ c.if-not-lacks.true)

pub bounds-objects-n : goal.bounds-objects-n
bounds-objects-n c = omega (arith, make_room c.requires (sym (c.lacks.ensures _ c.requires.known.needing) ∙ c.if-not-lacks.false), c.requires.kept.laid.room)

pub returns : goal.returns
returns c = rw c.word.ensures (make_one c.requires (sym (c.lacks.ensures _ c.requires.known.needing) ∙ c.if-not-lacks.false) _ (omega arith) (c.image-set.ensures ∙ ap (λ (i : ℕ). image (schema_of c.args.schema.now) i c.args.need.attribute) c.classes_at.ensures))
