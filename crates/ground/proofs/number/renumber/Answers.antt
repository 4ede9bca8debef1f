-- The edges passed are renumbered.
use Rattle.std.proofs.Common.{map, ap, ◌∙◌, arith}
use Rattle.records.proofs.General.Filling.{changed_more, changed_all}
use Rattle.primary.specs.Words.{edge_of}
use Rattle.ground.proofs.EdgeLaws.{edge_next, words_edges}
use Rattle.ground.specs.Numbers.{renumber_word}
use Rattle.ground.proofs.number.renumber.Goals as goal

pub renumbered-requires : goal.renumbered-requires
renumbered-requires c = (
  c.requires.0,
  c.requires.1,
  edge_next _ (renumber_word c.args.reps.now) c.args.edges.now _ _ c.loop-edge-test.true c.requires.2 c.loop-edge.invariant,
)

pub loop-edge-preserved : goal.loop-edge-preserved
loop-edge-preserved c = rw c.renumbered.ensures (changed_more (renumber_word c.args.reps.now) _ _ _ (omega arith) c.loop-edge.invariant)

pub returns : goal.returns
returns c =
    ap (map edge_of) (c.loop-edge.invariant ∙ changed_all (renumber_word c.args.reps.now) c.args.edges.now _ c.loop-edge-test.false)
    ∙ words_edges _ c.requires.0 c.requires.1 c.args.edges.now c.requires.2
