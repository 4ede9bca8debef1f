-- The ground is laid, the query's edges are renumbered, the view is walked and the objects are counted (ArraysLaws).
use borrow.Author.Rules.{rules}
use Rattle.construct.proofs.ArraysLaws.{reps_few, laid_by, ground_few, ground_kept, arrays_by}
use Rattle.construct.proofs.from_primary.Goals as goal

pub lay-ground-requires : goal.lay-ground-requires
lay-ground-requires c =
    let (ok, closed, size) = c.requires in
    (closed.prime.formed, reps_few _ _ _ ok _ _ closed.prime, size)

pub renumber-requires : goal.renumber-requires
renumber-requires c =
    let (ok, closed, size) = c.requires in
    (closed.prime.formed.inside, reps_few _ _ _ ok _ _ closed.prime, rw closed.prime.size closed.inside)

pub walks-made-requires : goal.walks-made-requires
walks-made-requires c =
    let (ok, closed, size) = c.requires in
    let ground = c.lay-ground.ensures in
    let edges = c.renumber.ensures in
    let after = c.renumber.new.edges in (
      ok.schema_accepted,
      ok.view_accepted,
      ground_kept _ _ _ ok _ _ after _ _ (laid_by closed ground edges),
      ground_few _ _ _ ok _ _ after _ _ (laid_by closed ground edges),
    )

pub returns : goal.returns
returns c = let (ok, closed, size) = c.requires in
    let ground = c.lay-ground.ensures in
    let edges = c.renumber.ensures in
    record { arrays = arrays_by _ _ _ ok _ _ _ _ _ (laid_by closed ground edges) _ _ c.walks-made.ensures _ c.count_objects-total.ensures; kept = search rules }
