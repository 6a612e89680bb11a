use Rattle.std.proofs.Common.{◌≤◌, ℕ, List, length, refl, ap, ◌∙◌, subst, arith}
use Rattle.std.proofs.lemmas.List.{length-set}
use Rattle.hy_undo.specs.Places.{Place}
use Rattle.hy_undo.specs.Chunks.{Everywhere, AtOwn, StampedPlace}
use Rattle.hy_undo.specs.Steps.{PlacesStep, stamped_place}
use Rattle.hy_value.specs.declared.Kind.{Kind}
use Rattle.hy_chunk.specs.Fields.{nth}
use Rattle.hy_chunk.specs.Settled.{IsReleased}
use Rattle.hy_chunk.specs.Views.{Whole, with_places}
use Rattle.hy_chunk.proofs.Settling.{not_own}
use Rattle.hy_chunk.proofs.Walking.{Leaves, walk_begins, walk_goes_on, walk_ends}
use Rattle.hy_chunk.proofs.Wholes.{whole_of, still_whole}
use Rattle.hy_chunk.proofs.chunk.Chunk.stamp.Goals as goal

-- what is released has no record of the transaction
leaves : (steps : PlacesStep) (id time before : ℕ) → before ≤ id → Leaves (stamped_place id time) (IsReleased before)
leaves steps id time before late p released = (steps.commits id time p).others (not_own before id p.chain late released)

pub loop-place-init : goal.loop-place-init
loop-place-init c =
    let old = c.self.inside.positions.places in
    let settled = c.look_for.new.self in
    let found = c.look_for.ensures in
    let settles = found.settles old c.versioned_part-part.ensures.others (c.reach.ensures old c.self.invariant.settles) in
    record {
      table = refl;
      first = refl;
      key = refl;
      kinds = refl;
      next = c.self.invariant.next_wide;
      wide = c.self.invariant.wide;
      walked = walk_begins (stamped_place c.args.id c.args.time) (IsReleased settled.before) settled.uncommitted old c.next_uncommitted-place.result
          (leaves c.places_step.ensures c.args.id c.args.time settled.before found.before) settles.released c.next_uncommitted-place.ensures;
      settles = settles;
      before = found.before;
      room = omega arith;
    }

pub next_uncommitted-place-requires-in-loop-place : goal.next_uncommitted-place-requires-in-loop-place
next_uncommitted-place-requires-in-loop-place c =
    let done = c.stamp_at.ensures in
    let now = c.loop-place.self-inside.positions.places in
    let place = c.loop-place.place in
    let size = ap (λ (ps : List Place). length ps) done.places ∙ length-set now place (stamped_place c.args.id c.args.time (nth now place)) in
    omega (arith, done.settles.released.size, size, c.loop-place.invariant.walked.size, c.loop-place-test.true, c.len-end.ensures)

pub loop-place-preserved : goal.loop-place-preserved
loop-place-preserved c =
    let v = c.loop-place.invariant in
    let settled = c.stamp_at.new.settled in
    let done = c.stamp_at.ensures in
    let late : settled.before ≤ c.args.id = omega (arith, done.before, v.before) in
    record {
      table = v.table;
      first = v.first;
      key = done.key ∙ v.key;
      kinds = done.kinds ∙ v.kinds;
      next = v.next;
      wide = v.wide;
      walked = walk_goes_on (stamped_place c.args.id c.args.time) (IsReleased settled.before) settled.uncommitted c.self.inside.positions.places
          c.loop-place.self-inside.positions.places c.stamp_at.new.positions.places c.loop-place.place c.next_uncommitted-place-in-loop-place.result
          (leaves c.places_step.ensures c.args.id c.args.time settled.before late) v.walked
          (omega (arith, v.walked.size, c.loop-place-test.true, c.len-end.ensures)) done.places done.settles.released
          c.next_uncommitted-place-in-loop-place.ensures;
      settles = done.settles;
      before = late;
      room = omega (arith, v.room, done.room);
    }

pub invariant_of-self : goal.invariant_of-self
invariant_of-self c =
    let v = c.loop-place.invariant in
    still_whole c.self.inside.first (length c.self.inside.positions.places) (length c.self.inside.positions.kinds) (length c.self.inside.seen.row)
    (length c.self.inside.next.row)
    c.loop-place.self-inside.first (length c.loop-place.self-inside.positions.places) (length c.loop-place.self-inside.positions.kinds)
    (length c.loop-place.self-inside.seen.row) (length c.loop-place.self-inside.next.row)
    c.self.invariant v.first v.walked.size (ap (λ (kinds : List Kind). length kinds) v.kinds) v.wide v.next v.settles

pub returns-clause-all : goal.returns-clause-all
returns-clause-all c =
    let v = c.loop-place.invariant in
    let now = c.loop-place.self-inside.positions in
    (λ i. whole_of (v.table i) (v.first i) (v.key i) (v.kinds i) now.places now.room) ∙ ap (λ (w : Whole). with_places w now.places now.room) c.self.view_is

pub returns-clause-places : goal.returns-clause-places
returns-clause-places c =
    let old = c.self.inside.positions.places in
    let new = c.loop-place.self-inside.positions.places in
    subst (λ (places : List Place). Everywhere (AtOwn c.args.id (StampedPlace c.args.id c.args.time)) places new)
    (ap (λ (w : Whole). w.shown.places) c.self.view_is)
    (walk_ends (AtOwn c.args.id (StampedPlace c.args.id c.args.time)) (stamped_place c.args.id c.args.time)
    old new c.loop-place.place c.loop-place.invariant.walked (omega (arith, c.loop-place-test.false, c.len-end.ensures))
    (λ k l. c.places_step.ensures.commits c.args.id c.args.time (nth old k)))
