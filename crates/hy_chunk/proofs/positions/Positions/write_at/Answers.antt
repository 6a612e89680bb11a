use Rattle.hy_chunk.proofs.Ranges.{still_numbered, covers_less, without_none}
use Rattle.hy_chunk.proofs.Indexing.{same_key}
use Rattle.hy_chunk.proofs.Spared.{spare_changed, spares_at, same_at, taken_spares, noted_spares, without_spares}
use Rattle.hy_chunk.specs.Keyed.{SameKey}
use Rattle.hy_undo.specs.Places.{Place}
use Rattle.hy_value.specs.declared.Value.{Value}
use Rattle.std.proofs.Common.{◌≡◌, ℕ, Bool, true, false, List, [], ◌∷◌, length, get_or, Option, None, sym, ap, ◌∙◌, subst, arith}
use Rattle.std.specs.Prelude.{◌&&◌, not}
use Rattle.std.proofs.Math.ListN.{set}
use Rattle.hy_value.specs.declared.Kind.{Kind}
use Rattle.hy_chain.specs.Chains.{Undo, newest, without_own}
use Rattle.hy_undo.specs.Images.{Image}
use Rattle.hy_chunk.specs.Keyed.{key_kind}
use Rattle.hy_chunk.specs.Views.{Held}
use Rattle.hy_chunk.specs.Sound.{FitsRow}
use Rattle.hy_chunk.proofs.Places.{Fields, fields, at, nth_is, in_rows, in_live, in_chains, fits_there}
use Rattle.hy_chunk.specs.Noting.{own_stamp}
use Rattle.std.proofs.lemmas.List.{length-set, set-get_or}
use Rattle.hy_chunk.proofs.WriteAt.{taken_fits, written_sound, written_places, written}
use Rattle.hy_chunk.proofs.Vacating.{in_vacant, shows_put}
use Rattle.hy_chunk.proofs.Overwriting.{used_there}
use Rattle.hy_undo.specs.Chunks.{is_own}
use Rattle.hy_chunk.proofs.positions.Positions.write_at.Goals as goal

pub head-newest-requires : goal.head-newest-requires
head-newest-requires c =
    let f : Fields = fields c.self.inside in
    in_chains f c.self.inside.columns.kinds c.self.inside.spare c.args.self.now.places (ap (λ (h : Held). h.places) c.self.view_is)
    c.self.invariant.sound c.args.place c.requires.within

pub take_image-image-requires-clause-within : goal.take_image-image-requires-clause-within
take_image-image-requires-clause-within c =
    let f : Fields = fields c.self.inside in
    in_chains f c.self.inside.columns.kinds c.self.inside.spare c.args.self.now.places (ap (λ (h : Held). h.places) c.self.view_is)
    c.self.invariant.sound c.args.place c.requires.within

pub exchange_row-requires-clause-within : goal.exchange_row-requires-clause-within
exchange_row-requires-clause-within c =
    let f : Fields = fields c.self.inside in
    in_rows f c.self.inside.columns.kinds c.self.inside.spare c.args.self.now.places (ap (λ (h : Held). h.places) c.self.view_is)
    c.self.invariant.sound c.args.place c.requires.within

pub exchange_row-requires-clause-old : goal.exchange_row-requires-clause-old
exchange_row-requires-clause-old c =
    let f : Fields = fields c.self.inside in
    (fits_there f c.self.inside.columns.kinds c.self.inside.spare c.args.self.now.places (ap (λ (h : Held). h.places) c.self.view_is)
    c.self.invariant.sound c.args.place c.requires.within).row

pub exchange_row-requires-clause-image : goal.exchange_row-requires-clause-image
exchange_row-requires-clause-image c =
    let f : Fields = fields c.self.inside in
    taken_fits f c.self.inside.columns.kinds c.self.inside.spare c.args.self.now.places (ap (λ (h : Held). h.places) c.self.view_is)
    c.self.invariant.sound c.args.place c.requires.within c.args.viewer.now c.args.label c.args.version.now
    (subst (λ (ks : List Kind). FitsRow ks c.args.version.now.row) (sym (ap (λ (h : Held). h.kinds) c.self.view_is)) c.requires.fits)
    c.requires.live c.take_image-image.result (c.take_image-image.ensures.image c.self.inside.columns.kinds c.self.invariant.sound.ready)

pub exchange_row-requires-clause-free : goal.exchange_row-requires-clause-free
exchange_row-requires-clause-free c = c.take_image-image.ensures.free c.self.inside.columns.kinds c.self.invariant.sound.ready

pub put_flag-requires : goal.put_flag-requires
put_flag-requires c =
    let f : Fields = fields c.self.inside in
    omega (
      arith,
      in_live f c.self.inside.columns.kinds c.self.inside.spare c.args.self.now.places (ap (λ (h : Held). h.places) c.self.view_is)
          c.self.invariant.sound c.args.place c.requires.within,
      c.self.inside.live.ok.0,
    )

pub push_covered-requires-clause-within : goal.push_covered-requires-clause-within
push_covered-requires-clause-within c =
    let f : Fields = fields c.self.inside in
    omega (
      arith,
      in_chains f c.self.inside.columns.kinds c.self.inside.spare c.args.self.now.places
          (ap (λ (h : Held). h.places) c.self.view_is) c.self.invariant.sound c.args.place c.requires.within,
      ap
          (λ (cs : List (List (Undo Image))). length cs) c.take_image-image.ensures.chains,
      length-set f.chains c.args.place
          (without_own c.args.viewer.now.id (get_or f.chains c.args.place [])),
    )

pub set-requires : goal.set-requires
set-requires c =
    let f : Fields = fields c.self.inside in
    in_vacant c.args.place f.used f.live c.self.inside.vacant c.self.invariant.vacated
    (in_live f c.self.inside.columns.kinds c.self.inside.spare c.args.self.now.places (ap (λ (h : Held). h.places) c.self.view_is)
    c.self.invariant.sound c.args.place c.requires.within)

pub invariant_of-self : goal.invariant_of-self
invariant_of-self c =
    let f : Fields = fields c.self.inside in
    let view = ap (λ (h : Held). h.places) c.self.view_is in
    let inside = in_rows f c.self.inside.columns.kinds c.self.inside.spare c.args.self.now.places view c.self.invariant.sound c.args.place
    c.requires.within in
    let same : SameKey c.self.inside.key c.args.version.now.row (get_or f.rows c.args.place []) =
    subst (λ (key : Option ℕ). SameKey key c.args.version.now.row (get_or f.rows c.args.place [])) (sym (ap (λ (h : Held). h.key) c.self.view_is))
    (subst (λ (p : Place). SameKey c.args.self.now.key c.args.version.now.row p.version.row)
    (nth_is f c.args.self.now.places c.args.place view c.requires.within) c.requires.same_key) in
    let there = nth_is f c.args.self.now.places c.args.place view c.requires.within in
    let used : get_or f.used c.args.place false ≡ true =
    used_there c.args.viewer.now.id (at f c.args.place)
    (subst (λ (p : Place). is_own c.args.viewer.now.id (newest p.chain) ≡ false → p.version.live ≡ true) there c.requires.live)
    (fits_there f c.self.inside.columns.kinds c.self.inside.spare c.args.self.now.places view c.self.invariant.sound c.args.place c.requires.within).unused in
    record {
      sound = written_sound f c.self.inside.columns.kinds c.self.inside.spare c.args.self.now.places
          (ap (λ (h : Held). h.places) c.self.view_is) c.self.invariant.sound c.args.place c.requires.within c.args.viewer.now c.args.label
          c.args.version.now (subst (λ (ks : List Kind). FitsRow ks c.args.version.now.row) (sym (ap (λ (h : Held). h.kinds) c.self.view_is))
          c.requires.fits) c.requires.live c.take_image-image.result
          (c.take_image-image.ensures.image c.self.inside.columns.kinds c.self.invariant.sound.ready) c.places_step.ensures
          c.exchange_row.new.columns.kinds c.exchange_row.ensures.kinds
          c.exchange_row.new.columns.rows c.put_flag.new.flags.items c.exchange_row.new.image c.stamp_over-stamp.result
          c.take_image-image.new.chains.chains c.push_covered.new.chains.chains
          c.exchange_row.new.spare
          (c.exchange_row.ensures.ready c.self.inside.columns.kinds (c.take_image-image.ensures.ready c.self.inside.columns.kinds c.self.invariant.sound.ready))
          c.exchange_row.ensures.rows c.put_flag.ensures c.exchange_row.ensures.values c.exchange_row.ensures.live
          (c.stamp_over-stamp.ensures ∙ ap (own_stamp c.args.label c.args.viewer.now.id) c.head-newest.ensures) c.take_image-image.ensures.chains
          c.push_covered.ensures.chains;
      vacated = shows_put c.args.place f.used f.live c.self.inside.vacant f.used c.put_flag.new.flags.items c.set.new.self
          (get_or f.used c.args.place false) c.args.version.now.live
          (in_live f c.self.inside.columns.kinds c.self.inside.spare c.args.self.now.places view c.self.invariant.sound c.args.place c.requires.within)
          (c.self.invariant.sound.uses ∙ sym c.self.invariant.sound.lives) c.self.invariant.vacated (sym (set-get_or f.used c.args.place false))
          c.put_flag.ensures
          (c.set.ensures ∙ ap (λ (b : Bool). set c.self.inside.vacant c.args.place (not (b && c.args.version.now.live))) (sym used));
      numbered = still_numbered f.rows c.exchange_row.new.columns.rows c.args.place c.args.version.now.row c.exchange_row.ensures.rows
          c.self.invariant.numbered;
      keyed = c.self.invariant.keyed ∙ ap (λ (ks : List Kind). key_kind ks c.self.inside.key) (sym c.exchange_row.ensures.kinds);
      indexed = same_key c.self.inside.key f.rows c.exchange_row.new.columns.rows f.used c.self.inside.index c.args.place c.args.version.now.row inside
          c.exchange_row.ensures.rows same c.self.invariant.indexed;
      spared = spare_changed c.self.inside.key c.take_image-image.new.chains.chains c.push_covered.new.chains.chains c.args.place
          (record { stamp = c.stamp_over-stamp.result; image = c.exchange_row.new.image } ∷ get_or c.take_image-image.new.chains.chains c.args.place [])
          c.push_covered.ensures.chains
          (spare_changed c.self.inside.key f.chains c.take_image-image.new.chains.chains c.args.place
          (without_own c.args.viewer.now.id (get_or f.chains c.args.place []))
          c.take_image-image.ensures.chains c.self.invariant.spared (λ k e s. without_spares k c.args.viewer.now.id (get_or f.chains c.args.place []) s))
          (λ k e s. (
            ap (λ (values : List (Option Value)). get_or values k None) c.exchange_row.ensures.values
                ∙ noted_spares (get_or f.rows c.args.place []) c.args.version.now.row c.take_image-image.result.values k
                (same_at c.self.inside.key c.args.version.now.row (get_or f.rows c.args.place []) k e same)
                (ap (λ (x : Image). get_or x.values k None) (c.take_image-image.ensures.image c.self.inside.columns.kinds c.self.invariant.sound.ready)
                ∙ taken_spares k (length c.self.inside.columns.kinds) c.args.viewer.now.id (get_or f.chains c.args.place [])
                (spares_at c.self.inside.key f.chains k e c.self.invariant.spared c.args.place)),
            s,
          ));
      covered = c.push_covered.ensures.covered
          (covers_less c.self.inside.versioned f.chains c.take_image-image.new.chains.chains c.args.place
          (without_own c.args.viewer.now.id (get_or f.chains c.args.place []))
          c.self.invariant.covered c.take_image-image.ensures.chains (without_none c.args.viewer.now.id (get_or f.chains c.args.place [])));
    }

pub returns-clause-places : goal.returns-clause-places
returns-clause-places c =
    let f : Fields = fields c.self.inside in
    written_places f c.self.inside.columns.kinds c.self.inside.spare c.args.self.now.places (ap (λ (h : Held). h.places) c.self.view_is)
    c.self.invariant.sound c.args.place c.requires.within c.args.viewer.now c.args.label c.args.version.now
    (subst (λ (ks : List Kind). FitsRow ks c.args.version.now.row) (sym (ap (λ (h : Held). h.kinds) c.self.view_is)) c.requires.fits)
    c.requires.live c.take_image-image.result
    (c.take_image-image.ensures.image c.self.inside.columns.kinds c.self.invariant.sound.ready) c.places_step.ensures
    c.exchange_row.new.columns.kinds c.exchange_row.ensures.kinds
    c.exchange_row.new.columns.rows c.put_flag.new.flags.items c.exchange_row.new.image c.stamp_over-stamp.result
    c.take_image-image.new.chains.chains c.push_covered.new.chains.chains
    c.exchange_row.new.spare
    (c.exchange_row.ensures.ready c.self.inside.columns.kinds (c.take_image-image.ensures.ready c.self.inside.columns.kinds c.self.invariant.sound.ready))
    c.exchange_row.ensures.rows c.put_flag.ensures c.exchange_row.ensures.values c.exchange_row.ensures.live
    (c.stamp_over-stamp.ensures ∙ ap (own_stamp c.args.label c.args.viewer.now.id) c.head-newest.ensures) c.take_image-image.ensures.chains
    c.push_covered.ensures.chains

pub returns-clause-written : goal.returns-clause-written
returns-clause-written c =
    let f : Fields = fields c.self.inside in
    written f c.self.inside.columns.kinds c.self.inside.spare c.args.self.now.places (ap (λ (h : Held). h.places) c.self.view_is)
    c.self.invariant.sound c.args.place c.requires.within c.args.viewer.now c.args.label c.args.version.now
    (subst (λ (ks : List Kind). FitsRow ks c.args.version.now.row) (sym (ap (λ (h : Held). h.kinds) c.self.view_is)) c.requires.fits)
    c.requires.live c.take_image-image.result
    (c.take_image-image.ensures.image c.self.inside.columns.kinds c.self.invariant.sound.ready) c.places_step.ensures
    c.exchange_row.new.columns.kinds c.exchange_row.ensures.kinds
    c.exchange_row.new.columns.rows c.put_flag.new.flags.items c.exchange_row.new.image c.stamp_over-stamp.result
    c.take_image-image.new.chains.chains c.push_covered.new.chains.chains
    c.exchange_row.new.spare
    (c.exchange_row.ensures.ready c.self.inside.columns.kinds (c.take_image-image.ensures.ready c.self.inside.columns.kinds c.self.invariant.sound.ready))
    c.exchange_row.ensures.rows c.put_flag.ensures c.exchange_row.ensures.values c.exchange_row.ensures.live
    (c.stamp_over-stamp.ensures ∙ ap (own_stamp c.args.label c.args.viewer.now.id) c.head-newest.ensures) c.take_image-image.ensures.chains
    c.push_covered.ensures.chains

pub push_covered-requires-clause-numbered : goal.push_covered-requires-clause-numbered
push_covered-requires-clause-numbered c =
    let f : Fields = fields c.self.inside in
    omega (
      arith,
      in_rows f c.self.inside.columns.kinds c.self.inside.spare c.args.self.now.places (ap (λ (h : Held). h.places) c.self.view_is)
          c.self.invariant.sound c.args.place c.requires.within,
      c.self.invariant.numbered,
    )
