-- The row's words are copied.
use native.Mathlib.Omega.{arith}
use Prim.Native.Nat.{◌*◌}
use Rattle.rows.specs.Selection.{set_words}
use Rattle.rows.proofs.RowLaws.{filled_part, put_of}
use Rattle.rows.proofs.sets.put.Goals as goal

pub returns : goal.returns
returns c =
    put_of (filled_part (c.args.r * set_words) set_words _ c.args.set.now (omega arith) c.copy_from_slice.ensures.after c.requires.set_len c.requires.set_words_in_bounds)
