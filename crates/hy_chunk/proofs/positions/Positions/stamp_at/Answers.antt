use Rattle.std.proofs.Common.{false, [], get_or, ap, arith}
use Rattle.hy_chain.specs.Chains.{stamped}
use Rattle.hy_chunk.proofs.Spared.{spare_changed, stamped_spares}
use Rattle.hy_chunk.proofs.Ranges.{covers_less, stamped_none}
use Rattle.std.proofs.lemmas.List.{get_or_read}
use Rattle.hy_chunk.specs.Views.{Held}
use Rattle.hy_chunk.proofs.Places.{Fields, fields, in_live, in_deaths, in_chains}
use Rattle.hy_chunk.proofs.StampAt.{stamped_sound, stamped_places}
use Rattle.hy_chunk.proofs.positions.Positions.stamp_at.Goals as goal

pub head-newest-requires : goal.head-newest-requires
head-newest-requires c =
    let f : Fields = fields c.self.inside in
    in_chains f c.self.inside.columns.kinds c.self.inside.spare c.args.self.now.places (ap (λ (h : Held). h.places) c.self.view_is)
    c.self.invariant.sound c.args.place c.requires

pub index-requires : goal.index-requires
index-requires c =
    let f : Fields = fields c.self.inside in
    omega (
      arith,
      in_live f c.self.inside.columns.kinds c.self.inside.spare c.args.self.now.places (ap (λ (h : Held). h.places) c.self.view_is)
          c.self.invariant.sound c.args.place c.requires,
      c.self.inside.live.ok.0,
    )

pub index-requires-2 : goal.index-requires-2
index-requires-2 c =
    let f : Fields = fields c.self.inside in
    omega (
      arith,
      in_deaths f c.self.inside.columns.kinds c.self.inside.spare c.args.self.now.places
          (ap (λ (h : Held). h.places) c.self.view_is) c.self.invariant.sound c.args.place c.requires,
      c.self.inside.deaths.ok.0,
    )

pub put_time-requires : goal.put_time-requires
put_time-requires c =
    let f : Fields = fields c.self.inside in
    omega (
      arith,
      in_deaths f c.self.inside.columns.kinds c.self.inside.spare c.args.self.now.places
          (ap (λ (h : Held). h.places) c.self.view_is) c.self.invariant.sound c.args.place c.requires,
      c.self.inside.deaths.ok.0,
    )

pub stamp_own-requires : goal.stamp_own-requires
stamp_own-requires c =
    let f : Fields = fields c.self.inside in
    in_chains f c.self.inside.columns.kinds c.self.inside.spare c.args.self.now.places (ap (λ (h : Held). h.places) c.self.view_is)
    c.self.invariant.sound c.args.place c.requires

pub invariant_of-self : goal.invariant_of-self
invariant_of-self c =
    let f : Fields = fields c.self.inside in
    let live = get_or_read f.live c.args.place c.index.result.now
    (in_live f c.self.inside.columns.kinds c.self.inside.spare c.args.self.now.places (ap (λ (h : Held). h.places) c.self.view_is)
    c.self.invariant.sound c.args.place c.requires) c.index.ensures false in
    let old = get_or_read f.deaths c.args.place c.index-2.result.now
    (in_deaths f c.self.inside.columns.kinds c.self.inside.spare c.args.self.now.places (ap (λ (h : Held). h.places) c.self.view_is)
    c.self.invariant.sound c.args.place c.requires) c.index-2.ensures 0 in
    record {
      sound = stamped_sound f c.self.inside.columns.kinds c.self.inside.spare c.args.self.now.places
          (ap (λ (h : Held). h.places) c.self.view_is) c.self.invariant.sound c.args.place c.requires c.args.id c.args.time
          c.put_time.new.times.items c.stamp_own.new.self.chains
          c.head-newest.result c.index.result.now c.index-2.result.now c.death_after-death.result c.head-newest.ensures live old
          c.death_after-death.ensures c.put_time.ensures c.stamp_own.ensures.chains;
      vacated = c.self.invariant.vacated;
      numbered = c.self.invariant.numbered;
      keyed = c.self.invariant.keyed;
      indexed = c.self.invariant.indexed;
      spared = spare_changed c.self.inside.key f.chains c.stamp_own.new.self.chains c.args.place
          (stamped c.args.id c.args.time (get_or f.chains c.args.place []))
          c.stamp_own.ensures.chains c.self.invariant.spared (λ k e s. stamped_spares k c.args.id c.args.time (get_or f.chains c.args.place []) s);
      covered = covers_less c.self.inside.versioned f.chains c.stamp_own.new.self.chains c.args.place
          (stamped c.args.id c.args.time (get_or f.chains c.args.place []))
          c.self.invariant.covered c.stamp_own.ensures.chains (stamped_none c.args.id c.args.time (get_or f.chains c.args.place []));
    }

pub returns-clause-places : goal.returns-clause-places
returns-clause-places c =
    let f : Fields = fields c.self.inside in
    let live = get_or_read f.live c.args.place c.index.result.now
    (in_live f c.self.inside.columns.kinds c.self.inside.spare c.args.self.now.places (ap (λ (h : Held). h.places) c.self.view_is)
    c.self.invariant.sound c.args.place c.requires) c.index.ensures false in
    let old = get_or_read f.deaths c.args.place c.index-2.result.now
    (in_deaths f c.self.inside.columns.kinds c.self.inside.spare c.args.self.now.places (ap (λ (h : Held). h.places) c.self.view_is)
    c.self.invariant.sound c.args.place c.requires) c.index-2.ensures 0 in
    stamped_places f c.self.inside.columns.kinds c.self.inside.spare c.args.self.now.places (ap (λ (h : Held). h.places) c.self.view_is)
    c.self.invariant.sound c.args.place c.requires c.args.id c.args.time c.put_time.new.times.items c.stamp_own.new.self.chains
    c.head-newest.result c.index.result.now c.index-2.result.now c.death_after-death.result c.head-newest.ensures live old
    c.death_after-death.ensures c.put_time.ensures c.stamp_own.ensures.chains
