-- The table of the edges passed.
use lib.ListN.{take}
use Rattle.candidate.specs.Tables.{Origins}
use Rattle.candidate.proofs.tables.origins.Given as goal

abbrev pub invariant-loop-edge : goal.invariant-loop-edge
invariant-loop-edge l = Origins (take l.edge-index l.edges) l.attribute l.table
