-- Some object lacks a value.
use borrow.Author.Rules.{rules}
use native.Mathlib.Omega.{arith}
use Prim.Native.Nat.{ℕ}
use mathlib.Core.Bool.{Bool, false, ◌&&◌, ◌||◌, not}
use mathlib.Core.Path.{◌∙◌, sym, refl}
use Rattle.std.proofs.Common.{tests}
use Rattle.std.specs.Prelude.{None, is_some}
use lib.ListN.{get_or}
use Rattle.chase.specs.ClassSet.{meets}
use Rattle.ground.specs.Objects.{classes_in}
use Rattle.records.proofs.General.RangeLaws.{any_below}
use Rattle.forest.proofs.ObjectLaws.{size_laid, classes_laid}
use Rattle.candidate.proofs.SearchLaws.{lacks_any}
use Rattle.candidate.proofs.TableLaws.{lacks_is, looked_up}
use Rattle.candidate.proofs.number.lacks_one.Goals as goal

pub returns : goal.returns
returns c = λ S m.
    let test : ℕ → Bool = λ x. meets (classes_in (get_or c.args.objects.now x 0)) c.args.mask && not (get_or c.origins-from.result x false || is_some (get_or c.kids-made.result x None)) in
    any_below {test = test} c.any.ensures.ran (λ x b q k. search (rules, tests))
    ∙ lacks_any S _ _ _ _ test (size_laid _ _ _ c.requires.laid c.args.objects.now c.args.edges.now)
    (λ d l. lacks_is S _ _ _ d _ _ _ _ _ refl (sym (classes_laid S _ _ _ c.requires.laid c.args.edges.now _ l))
    (looked_up S d m c.origins-from.ensures c.kids-made.ensures (omega (arith, c.requires.laid.fits))))
