use Rattle.std.proofs.Common.{rules, None, Some, ◌∙◌, refl}
use Rattle.std.proofs.lemmas.List.Sorted.{IsPartitionPoint-from_clause}
use Rattle.hy_session.specs.Seeking.{comes_before}
use Rattle.hy_session.proofs.OrderedPlaces.{found_place, parted_places}
use Rattle.hy_session.proofs.Results.{got, got_none}
use Rattle.hy_session.proofs.seeking.first_place.Goals as goal

pub returns-in_err-get : goal.returns-in_err-get
returns-in_err-get c =
    let places = c.args.places.now in
    let at = c.partition_point-at.result in
    c.from_residual.ensures
    ∙ found_place c.args.table c.args.from places at None c.requires c.partition_point-at.ensures.bound
    (IsPartitionPoint-from_clause (comes_before c.args.table c.args.from) _ _ c.partition_point-at.ensures.partitioned
    (parted_places c.args.table c.args.from places c.requires) (λ a r q k. search rules))
    (got_none places places at at refl refl c.in_err-get.ensures.lookup.0)

pub returns : goal.returns
returns c =
    let places = c.args.places.now in
    let at = c.partition_point-at.result in
    c.position_in.ensures
    ∙ found_place c.args.table c.args.from places at (Some c.in_ok-get.field-0.now) c.requires c.partition_point-at.ensures.bound
    (IsPartitionPoint-from_clause (comes_before c.args.table c.args.from) _ _ c.partition_point-at.ensures.partitioned
    (parted_places c.args.table c.args.from places c.requires) (λ a r q k. search rules))
    (got places places at at c.in_ok-get.field-0.now refl refl c.in_ok-get.ensures.lookup.0 c.in_ok-get.ensures.lookup.1)
