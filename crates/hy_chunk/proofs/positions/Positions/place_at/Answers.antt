use Rattle.std.proofs.Common.{Bool, true, List, [], ◌∷◌, length, get_or, None, refl, sym, ap, ◌∙◌, subst, arith}
use Rattle.hy_chunk.proofs.Ranges.{still_numbered, covers_less}
use Rattle.hy_chunk.proofs.Indexing.{same_fields}
use Rattle.hy_chunk.proofs.Spared.{spare_changed, blank_at}
use Rattle.std.proofs.Math.ListN.{set}
use Rattle.hy_value.specs.declared.Kind.{Kind}
use Rattle.hy_chain.specs.Chains.{Undo}
use Rattle.hy_undo.specs.Images.{Image}
use Rattle.hy_chunk.specs.Keyed.{key_kind}
use Rattle.hy_chunk.specs.Views.{Held}
use Rattle.hy_chunk.specs.Sound.{FitsRow}
use Rattle.hy_chunk.proofs.Places.{Fields, fields, in_rows, in_live, in_used, in_chains, fits_there}
use Rattle.std.proofs.lemmas.List.{length-set}
use Rattle.hy_chunk.proofs.PlaceAt.{placed_sound, placed_places, placed}
use Rattle.hy_chunk.proofs.Vacating.{in_vacant, shows_put}
use Rattle.hy_chunk.proofs.positions.Positions.place_at.Goals as goal

pub clear-requires : goal.clear-requires
clear-requires c =
    let f : Fields = fields c.self.inside in
    in_chains f c.self.inside.columns.kinds c.self.inside.spare c.args.self.now.places (ap (λ (h : Held). h.places) c.self.view_is)
    c.self.invariant.sound c.args.place c.requires.within

pub put_row-requires-clause-within : goal.put_row-requires-clause-within
put_row-requires-clause-within c =
    let f : Fields = fields c.self.inside in
    in_rows f c.self.inside.columns.kinds c.self.inside.spare c.args.self.now.places (ap (λ (h : Held). h.places) c.self.view_is)
    c.self.invariant.sound c.args.place c.requires.within

pub put_row-requires-clause-old : goal.put_row-requires-clause-old
put_row-requires-clause-old c =
    let f : Fields = fields c.self.inside in
    (fits_there f c.self.inside.columns.kinds c.self.inside.spare c.args.self.now.places (ap (λ (h : Held). h.places) c.self.view_is)
    c.self.invariant.sound c.args.place c.requires.within).row

pub put_flag-requires : goal.put_flag-requires
put_flag-requires c =
    let f : Fields = fields c.self.inside in
    omega (
      arith,
      in_live f c.self.inside.columns.kinds c.self.inside.spare c.args.self.now.places (ap (λ (h : Held). h.places) c.self.view_is)
          c.self.invariant.sound c.args.place c.requires.within,
      c.self.inside.live.ok.0,
    )

pub put_flag-requires-2 : goal.put_flag-requires-2
put_flag-requires-2 c =
    let f : Fields = fields c.self.inside in
    omega (
      arith,
      in_used f c.self.inside.columns.kinds c.self.inside.spare c.args.self.now.places (ap (λ (h : Held). h.places) c.self.view_is)
          c.self.invariant.sound c.args.place c.requires.within,
      c.self.inside.used.ok.0,
    )

pub push_covered-requires-clause-within : goal.push_covered-requires-clause-within
push_covered-requires-clause-within c =
    let f : Fields = fields c.self.inside in
    omega (
      arith,
      in_chains f c.self.inside.columns.kinds c.self.inside.spare c.args.self.now.places
          (ap (λ (h : Held). h.places) c.self.view_is) c.self.invariant.sound c.args.place c.requires.within,
      ap
          (λ (cs : List (List (Undo Image))). length cs) c.clear.ensures.chains,
      length-set f.chains c.args.place [],
    )

pub set-requires : goal.set-requires
set-requires c =
    let f : Fields = fields c.self.inside in
    in_vacant c.args.place f.used f.live c.self.inside.vacant c.self.invariant.vacated
    (in_live f c.self.inside.columns.kinds c.self.inside.spare c.args.self.now.places (ap (λ (h : Held). h.places) c.self.view_is)
    c.self.invariant.sound c.args.place c.requires.within)

pub invariant_of-self : goal.invariant_of-self
invariant_of-self c =
    let f : Fields = fields c.self.inside in
    record {
      sound = placed_sound f c.self.inside.columns.kinds c.self.inside.spare c.args.self.now.places
          (ap (λ (h : Held). h.places) c.self.view_is) c.self.invariant.sound c.args.place c.requires.within c.places_step.ensures c.args.viewer.now
          c.args.label c.args.row.now (subst (λ (ks : List Kind). FitsRow ks c.args.row.now) (sym (ap (λ (h : Held). h.kinds) c.self.view_is))
          c.requires.fits) c.put_row.new.columns.kinds c.put_row.ensures.kinds
          c.put_row.new.columns.rows c.put_flag.new.flags.items c.put_flag-2.new.flags.items c.take_spare-image.result c.clear.new.self.chains
          c.push_covered.new.chains.chains
          c.take_spare-image.new.spare (c.take_spare-image.ensures.ready c.self.inside.columns.kinds c.self.invariant.sound.ready)
          (c.take_spare-image.ensures.image c.self.inside.columns.kinds c.self.invariant.sound.ready)
          c.put_row.ensures.rows c.put_flag.ensures c.put_flag-2.ensures c.clear.ensures.chains c.push_covered.ensures.chains;
      vacated = shows_put c.args.place f.used f.live c.self.inside.vacant c.put_flag-2.new.flags.items c.put_flag.new.flags.items c.set.new.self true true
          (in_live f c.self.inside.columns.kinds c.self.inside.spare c.args.self.now.places (ap (λ (h : Held). h.places) c.self.view_is)
          c.self.invariant.sound c.args.place c.requires.within) (c.self.invariant.sound.uses ∙ sym c.self.invariant.sound.lives)
          c.self.invariant.vacated c.put_flag-2.ensures c.put_flag.ensures c.set.ensures;
      numbered = still_numbered f.rows c.put_row.new.columns.rows c.args.place c.args.row.now c.put_row.ensures.rows c.self.invariant.numbered;
      keyed = c.put_key.ensures.kind ∙ (c.self.invariant.keyed ∙ ap (λ (ks : List Kind). key_kind ks c.self.inside.key) (sym c.put_row.ensures.kinds));
      indexed = same_fields c.self.inside.key (set f.rows c.args.place c.args.row.now) c.put_row.new.columns.rows (set c.as_slice.result.now c.args.place true)
          c.put_flag-2.new.flags.items c.put_key.new.index c.put_row.ensures.rows
          (c.put_flag-2.ensures ∙ ap (λ (us : List Bool). set us c.args.place true) (sym c.as_slice.ensures.value)) c.put_key.ensures.indexed;
      spared = spare_changed c.self.inside.key c.clear.new.self.chains c.push_covered.new.chains.chains c.args.place
          (record { stamp = record { owner = c.args.label; mark = c.args.viewer.now.id }; image = c.take_spare-image.result } ∷ get_or
          c.clear.new.self.chains c.args.place [])
          c.push_covered.ensures.chains
          (spare_changed c.self.inside.key f.chains c.clear.new.self.chains c.args.place [] c.clear.ensures.chains c.self.invariant.spared (λ k e s. tt))
          (λ k e s. (
            ap (λ (x : Image). get_or x.values k None)
                (c.take_spare-image.ensures.image c.self.inside.columns.kinds c.self.invariant.sound.ready)
                ∙ blank_at (length c.self.inside.columns.kinds) k,
            s,
          ));
      covered = c.push_covered.ensures.covered
          (covers_less c.self.inside.versioned f.chains c.clear.new.self.chains c.args.place [] c.self.invariant.covered c.clear.ensures.chains (λ e. refl));
    }

pub returns-clause-places : goal.returns-clause-places
returns-clause-places c =
    let f : Fields = fields c.self.inside in
    placed_places f c.self.inside.columns.kinds c.self.inside.spare c.args.self.now.places (ap (λ (h : Held). h.places) c.self.view_is)
    c.self.invariant.sound c.args.place c.requires.within c.places_step.ensures c.args.viewer.now c.args.label c.args.row.now
    (subst (λ (ks : List Kind). FitsRow ks c.args.row.now) (sym (ap (λ (h : Held). h.kinds) c.self.view_is)) c.requires.fits)
    c.put_row.new.columns.kinds c.put_row.ensures.kinds
    c.put_row.new.columns.rows c.put_flag.new.flags.items c.put_flag-2.new.flags.items c.take_spare-image.result c.clear.new.self.chains
    c.push_covered.new.chains.chains
    c.take_spare-image.new.spare (c.take_spare-image.ensures.ready c.self.inside.columns.kinds c.self.invariant.sound.ready)
    (c.take_spare-image.ensures.image c.self.inside.columns.kinds c.self.invariant.sound.ready)
    c.put_row.ensures.rows c.put_flag.ensures c.put_flag-2.ensures c.clear.ensures.chains c.push_covered.ensures.chains

pub returns-clause-placed : goal.returns-clause-placed
returns-clause-placed c =
    let f : Fields = fields c.self.inside in
    placed f c.self.inside.columns.kinds c.self.inside.spare c.args.self.now.places (ap (λ (h : Held). h.places) c.self.view_is)
    c.self.invariant.sound c.args.place c.requires.within c.places_step.ensures c.args.viewer.now c.args.label c.args.row.now
    (subst (λ (ks : List Kind). FitsRow ks c.args.row.now) (sym (ap (λ (h : Held). h.kinds) c.self.view_is)) c.requires.fits)
    c.put_row.new.columns.kinds c.put_row.ensures.kinds
    c.put_row.new.columns.rows c.put_flag.new.flags.items c.put_flag-2.new.flags.items c.take_spare-image.result c.clear.new.self.chains
    c.push_covered.new.chains.chains
    c.take_spare-image.new.spare (c.take_spare-image.ensures.ready c.self.inside.columns.kinds c.self.invariant.sound.ready)
    (c.take_spare-image.ensures.image c.self.inside.columns.kinds c.self.invariant.sound.ready)
    c.put_row.ensures.rows c.put_flag.ensures c.put_flag-2.ensures c.clear.ensures.chains c.push_covered.ensures.chains

pub push_covered-requires-clause-numbered : goal.push_covered-requires-clause-numbered
push_covered-requires-clause-numbered c =
    let f : Fields = fields c.self.inside in
    omega (
      arith,
      in_rows f c.self.inside.columns.kinds c.self.inside.spare c.args.self.now.places (ap (λ (h : Held). h.places) c.self.view_is)
          c.self.invariant.sound c.args.place c.requires.within,
      c.self.invariant.numbered,
    )

pub put_key-requires-clause-within : goal.put_key-requires-clause-within
put_key-requires-clause-within c =
    let f : Fields = fields c.self.inside in
    in_rows f c.self.inside.columns.kinds c.self.inside.spare c.args.self.now.places (ap (λ (h : Held). h.places) c.self.view_is)
    c.self.invariant.sound c.args.place c.requires.within

pub put_key-requires-clause-fits : goal.put_key-requires-clause-fits
put_key-requires-clause-fits c =
    let f : Fields = fields c.self.inside in
    (fits_there f c.self.inside.columns.kinds c.self.inside.spare c.args.self.now.places (ap (λ (h : Held). h.places) c.self.view_is)
    c.self.invariant.sound c.args.place c.requires.within).row

pub put_key-requires-clause-as_many : goal.put_key-requires-clause-as_many
put_key-requires-clause-as_many c = ap (λ (us : List Bool). length us) c.as_slice.ensures.value ∙ c.self.invariant.sound.uses

pub put_key-requires-clause-indexed : goal.put_key-requires-clause-indexed
put_key-requires-clause-indexed c =
    same_fields c.self.inside.key c.self.inside.columns.rows c.self.inside.columns.rows c.self.inside.used.items c.as_slice.result.now c.self.inside.index
    refl c.as_slice.ensures.value c.self.invariant.indexed

pub put_key-requires-clause-row : goal.put_key-requires-clause-row
put_key-requires-clause-row c =
    subst (λ (ks : List Kind). FitsRow ks c.args.row.now) (sym (ap (λ (h : Held). h.kinds) c.self.view_is)) c.requires.fits
