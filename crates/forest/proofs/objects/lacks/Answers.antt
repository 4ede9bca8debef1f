-- The tests of the definition, the dear one last.
use mathlib.Core.Path.{sym, ◌∙◌}
use Rattle.forest.proofs.ReadLaws.{lacks_needless, lacks_asked, lacks_value}
use Rattle.forest.proofs.objects.lacks.Goals as goal

pub returns-then-not-meets : goal.returns-then-not-meets
returns-then-not-meets c = λ S tied. lacks_needless _ _ _ c.requires.0.laid c.args.edges.now _ _ _ c.requires.2 S tied (rw (← c.classes_at.ensures, ← c.meets.ensures) c.if-not-meets.true)

pub returns-then-asks : goal.returns-then-asks
returns-then-asks c = λ S tied. lacks_asked _ _ _ c.requires.0.laid c.args.edges.now _ _ _ c.requires.2 S tied (sym (c.asks.ensures _ _) ∙ c.if-asks.true)

pub returns : goal.returns
returns c = λ S tied. lacks_value _ _ _ c.requires.0.laid c.args.edges.now _ _ _ c.requires.2 S tied _ _ c.is_none.ensures (rw (← c.classes_at.ensures, ← c.meets.ensures) c.if-not-meets.false) (sym (c.asks.ensures _ _) ∙ c.if-asks.false) (c.kid.ensures c.args.edges.now)
