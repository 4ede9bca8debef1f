-- The words passed are joined (Filled); what a turn reads is still as it was.
use Rattle.rows.proofs.BlockLaws.{joined_word}
use Rattle.rows.specs.Rows.{Filled}
use Rattle.rows.specs.Selection.{set_words}
use Prim.Native.Nat.{◌*◌}
use Rattle.rows.proofs.blocks.join.Given as goal

abbrev pub invariant-loop-j : goal.invariant-loop-j
invariant-loop-j l = Filled (joined_word l.initial.rows l.r l.set) (l.r * set_words) l.j l.initial.rows l.rows
