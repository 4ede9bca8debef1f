-- The index of the facts passed grows by the next left word (Indexed of IndexLaws).
use mathlib.Core.Path.{◌≡◌, refl, ◌∙◌}
use native.Mathlib.Nat.{le_antisymm}
use native.Mathlib.Omega.{arith}
use Rattle.records.specs.Layout.{state_layout, left_at}
use Rattle.index.specs.Index.{table_words}
use Rattle.index.proofs.IndexLaws.{indexed_none, indexed_more, indexed_past, indexed_all}
use Rattle.index.proofs.left.index.Goals as goal
use Rattle.index.proofs.left.index.Goals.{then-b-lt-TABLE_BITS, else-b-lt-TABLE_BITS}

pub loop-i-init : goal.loop-i-init
loop-i-init c = (omega arith, indexed_none _ table_words refl)

pub loop-i-preserved : goal.loop-i-preserved
loop-i-preserved c =
    let z = c.loop-i.invariant.1 in
    let e : c.left-b.result ≡ left_at state_layout c.args.words.now c.loop-i.i =
    rw (← c.state_layout.ensures.value) c.left-b.ensures.value
    in (
      omega arith,
      elim c.if-b-lt-TABLE_BITS.branch [
        | then-b-lt-TABLE_BITS w ↦ rw w.seen-is (indexed_more _ z e w.insert.ensures)
        | else-b-lt-TABLE_BITS w ↦ rw w.seen-is (indexed_past _ z e w.if-b-lt-TABLE_BITS.false)
      ],
    )

pub returns : goal.returns
returns c = indexed_all _ c.loop-i.invariant.1 (le_antisymm c.loop-i.invariant.0 c.loop-i-test.false ∙ c.facts-n.ensures.value)
