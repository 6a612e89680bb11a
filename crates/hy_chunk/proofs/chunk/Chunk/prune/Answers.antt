use Rattle.std.proofs.Common.{◌≤◌, List, length, refl, sym, ap, ◌∙◌, subst, arith}
use Rattle.std.specs.List.{AllByRecursion}
use Rattle.std.proofs.lemmas.List.{length-set}
use Rattle.hy_chain.specs.Chains.{Falls}
use Rattle.hy_prune.specs.declared.Cover.{Cover}
use Rattle.hy_prune.specs.Fates.{watermark_of}
use Rattle.hy_undo.specs.Places.{Place}
use Rattle.hy_undo.specs.Chunks.{Everywhere, Pruned}
use Rattle.hy_undo.specs.Steps.{pruned_place}
use Rattle.hy_value.specs.declared.Kind.{Kind}
use Rattle.hy_chunk.specs.declared.settled.Settled.{Settled}
use Rattle.hy_chunk.specs.Fields.{nth}
use Rattle.hy_chunk.specs.Settled.{IsAtRest, Settles}
use Rattle.hy_chunk.specs.Views.{Held, Whole, with_places}
use Rattle.hy_chunk.proofs.Mapped.{all_at}
use Rattle.hy_chunk.proofs.Settling.{rest_unpruned}
use Rattle.hy_chunk.proofs.Walking.{Leaves, walk_begins, walk_goes_on, walk_ends}
use Rattle.hy_chunk.proofs.Wholes.{whole_of, still_whole}
use Rattle.hy_chunk.proofs.chunk.Chunk.prune.Goals as goal

-- what is at rest stays as it is
leaves : (cover : Cover) (settled : Settled) → watermark_of cover ≤ settled.after → Leaves (pruned_place cover) (IsAtRest settled.after)
leaves cover settled late p rest = rest_unpruned cover settled.after p late rest

pub loop-place-init : goal.loop-place-init
loop-place-init c =
    let old = c.self.inside.positions.places in
    let cover = c.args.cover.now in
    let settled = c.look_below.new.self in
    let found = c.look_below.ensures in
    let late : watermark_of cover ≤ settled.after = omega (arith, c.watermark.ensures, found.after) in
    let settles = found.settles old c.versioned_part-part.ensures.others c.self.invariant.settles in
    record {
      table = refl;
      first = refl;
      key = refl;
      kinds = refl;
      next = c.self.invariant.next_wide;
      wide = c.self.invariant.wide;
      walked = walk_begins (pruned_place cover) (IsAtRest settled.after) settled.unpruned old c.next_unpruned-place.result (leaves cover settled late)
          settles.at_rest c.next_unpruned-place.ensures;
      settles = settles;
      after = late;
      room = omega arith;
    }

pub next_unpruned-place-requires-in-loop-place : goal.next_unpruned-place-requires-in-loop-place
next_unpruned-place-requires-in-loop-place c =
    let done = c.prune_at-emptied.ensures in
    let now = c.loop-place.self-inside.positions.places in
    let place = c.loop-place.place in
    let size = ap (λ (ps : List Place). length ps) done.places ∙ length-set now place (pruned_place c.args.cover.now (nth now place)) in
    omega (arith, done.settles.at_rest.size, size, c.loop-place.invariant.walked.size, c.loop-place-test.true, c.len-end.ensures)

pub loop-place-preserved : goal.loop-place-preserved
loop-place-preserved c =
    let v = c.loop-place.invariant in
    let cover = c.args.cover.now in
    let settled = c.prune_at-emptied.new.settled in
    let done = c.prune_at-emptied.ensures in
    let late : watermark_of cover ≤ settled.after = done.after v.after in
    record {
      table = v.table;
      first = v.first;
      key = done.key ∙ v.key;
      kinds = done.kinds ∙ v.kinds;
      next = v.next;
      wide = v.wide;
      walked = walk_goes_on (pruned_place cover) (IsAtRest settled.after) settled.unpruned c.self.inside.positions.places
          c.loop-place.self-inside.positions.places c.prune_at-emptied.new.positions.places c.loop-place.place c.next_unpruned-place-in-loop-place.result
          (leaves cover settled late) v.walked (omega (arith, v.walked.size, c.loop-place-test.true, c.len-end.ensures)) done.places done.settles.at_rest
          c.next_unpruned-place-in-loop-place.ensures;
      settles = done.settles;
      after = late;
      room = omega (arith, v.room, done.room);
    }

pub invariant_of-self : goal.invariant_of-self
invariant_of-self c =
    let v = c.loop-place.invariant in
    let old = c.self.inside in
    let now = c.loop-place.self-inside in
    let new = c.narrow_where.new.positions in
    still_whole old.first (length old.positions.places) (length old.positions.kinds) (length old.seen.row) (length old.next.row)
    now.first (length new.places) (length new.kinds) (length now.seen.row) (length now.next.row)
    c.self.invariant v.first (ap (λ (h : Held). length h.places) c.narrow_where.ensures ∙ v.walked.size)
    (ap (λ (h : Held). length h.kinds) c.narrow_where.ensures ∙ ap (λ (kinds : List Kind). length kinds) v.kinds) v.wide v.next
    (subst (λ (h : Held). Settles now.settled h.places) (sym c.narrow_where.ensures) v.settles)

pub returns-clause-all : goal.returns-clause-all
returns-clause-all c =
    let v = c.loop-place.invariant in
    let now = c.narrow_where.new.positions in
    let kinds = ap (λ (h : Held). h.kinds) c.narrow_where.ensures ∙ v.kinds in
    let key = ap (λ (h : Held). h.key) c.narrow_where.ensures ∙ v.key in
    (λ i. whole_of (v.table i) (v.first i) (key i) (kinds i) now.places now.room) ∙ ap (λ (w : Whole). with_places w now.places now.room) c.self.view_is

pub returns-clause-places : goal.returns-clause-places
returns-clause-places c =
    let old = c.self.inside.positions.places in
    let now = c.loop-place.self-inside.positions.places in
    let new = c.narrow_where.new.positions.places in
    let cover = c.args.cover.now in
    let was = ap (λ (w : Whole). w.shown.places) c.self.view_is in
    let falls = subst (AllByRecursion (λ (p : Place). Falls p.chain)) (sym was) c.requires in
    let done : Everywhere (Pruned cover) old now =
    walk_ends (Pruned cover) (pruned_place cover) old now c.loop-place.place
    c.loop-place.invariant.walked (omega (arith, c.loop-place-test.false, c.len-end.ensures))
    (λ k l. c.places_step.ensures.prunes cover (nth old k) (all_at (λ (p : Place). Falls p.chain) old k falls l)) in
    subst (λ (places : List Place). Everywhere (Pruned cover) places new) was
    (subst (λ (h : Held). Everywhere (Pruned cover) old h.places) (sym c.narrow_where.ensures) done)
