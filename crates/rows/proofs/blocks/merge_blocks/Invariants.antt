-- The blocks passed are put in (Merging).
use Rattle.rows.proofs.BlockLaws.{Merging}
use Prim.Native.Nat.{◌≤◌}
use Rattle.rows.proofs.blocks.merge_blocks.Given as goal

abbrev pub invariant-loop-c : goal.invariant-loop-c
invariant-loop-c l = (l.c ≤ l.blocks) × Merging l.blocks l.initial.rows l.r l.s l.c l.rows
