-- The sizes are stored, and the rest is lent to be filled.
use native.Mathlib.Omega.{arith}
use mathlib.Core.Path.{refl, sym, ◌∙◌}
use Prim.Native.Nat.{ℕ}
use lib.ListN.{length, length-set}
use Rattle.records.proofs.EncodingLaws.{state_words, state_length}
use Rattle.encoding.proofs.WriteLaws.{sized_room, write_all}
use Rattle.encoding.proofs.states.write.Goals as goal

pub bounds-lent-0 : goal.bounds-lent-0
bounds-lent-0 c = omega (arith, c.requires, state_words (length c.args.facts.now))

pub bounds-lent-1 : goal.bounds-lent-1
bounds-lent-1 c = omega (arith, c.requires, state_words (length c.args.facts.now), length-set {A = ℕ})

pub bounds-lent-2 : goal.bounds-lent-2
bounds-lent-2 c = omega (arith, c.requires, state_words (length c.args.facts.now), length-set {A = ℕ})

pub slice_bounds-fill-count : goal.slice_bounds-fill-count
slice_bounds-fill-count c = omega (arith, c.requires, state_words (length c.args.facts.now), length-set {A = ℕ})

pub slice_bounds-fill-start : goal.slice_bounds-fill-start
slice_bounds-fill-start c = omega (arith, c.requires, state_words (length c.args.facts.now), length-set {A = ℕ})

pub fill-requires : goal.fill-requires
fill-requires c = sized_room c.args.lent.now c.args.objects (length c.args.facts.now) c.class_facts_in.result _ c.requires.2

pub returns : goal.returns
returns c =
    let a = c.args in
    record {
      value = sym (state_length a.objects a.facts.now ∙ state_words (length a.facts.now));
      lent_after =
          write_all c.args.lent.now a.objects (length a.facts.now) c.class_facts_in.result a.objects a.facts.now c.fill.new.to c.requires.2
          refl refl c.class_facts_in.ensures.0 c.fill.ensures;
    }
