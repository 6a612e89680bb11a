use Rattle.std.specs.Prelude.{◌||◌, ◌==◌, not}
use Rattle.std.proofs.Math.ListN.{set}
use Rattle.std.proofs.lemmas.Bool.{and_parts}
use Rattle.hy_value.specs.declared.Value.{Value}
use Rattle.hy_undo.specs.declared.version.Version.{Version}
use Rattle.hy_undo.specs.Images.{put_back}
use Rattle.hy_chunk.proofs.Indexing.{same_fields, same_key}
use Rattle.hy_chunk.proofs.Spared.{spare_changed, undone_same_key, without_spares}
use Rattle.hy_chain.specs.Chains.{without_own}
use Rattle.hy_chunk.proofs.Ranges.{still_numbered, covers_less, without_none}
use Rattle.std.proofs.Common.{Bool, false, List, [], get_or, length, refl, sym, ap, ◌∙◌}
use Rattle.std.proofs.lemmas.List.{get_or_read}
use Rattle.hy_value.specs.declared.Kind.{Kind}
use Rattle.hy_chunk.specs.Keyed.{key_kind}
use Rattle.hy_chunk.specs.Views.{Held}
use Rattle.hy_chunk.proofs.Over.{fits_length}
use Rattle.hy_chunk.proofs.Places.{Fields, fields, in_rows, in_live, in_used, in_deaths, in_chains, fits_there}
use Rattle.hy_chunk.proofs.UndoAt.{left_places, left_sound, version_fits, undone_sound, undone_places}
use Rattle.hy_chunk.proofs.Vacating.{in_vacant, shows_put}
use Rattle.hy_chunk.proofs.positions.Positions.undo_at.Goals as goal

pub pop_own-requires : goal.pop_own-requires
pop_own-requires c =
    let f : Fields = fields c.self.inside in
    in_chains f c.self.inside.columns.kinds c.self.inside.spare c.args.self.now.places (ap (λ (h : Held). h.places) c.self.view_is)
    c.self.invariant.sound c.args.place c.requires.within

pub returns-in_default-clause-places : goal.returns-in_default-clause-places
returns-in_default-clause-places c =
    let f : Fields = fields c.self.inside in
    left_places f c.self.inside.columns.kinds c.self.inside.spare c.args.self.now.places (ap (λ (h : Held). h.places) c.self.view_is)
    c.self.invariant.sound c.args.place c.requires.within c.args.id c.pop_own.new.self.chains c.pop_own.ensures.chains
    (sym c.pop_own.ensures.image ∙ c.in_default.is)

pub put_row-requires-clause-new : goal.put_row-requires-clause-new
put_row-requires-clause-new c =
    let f : Fields = fields c.self.inside in
    version_fits f c.self.inside.columns.kinds c.self.inside.spare c.args.self.now.places (ap (λ (h : Held). h.places) c.self.view_is)
    c.self.invariant.sound c.args.place c.requires.within c.args.id c.pop_own.new.self.chains c.pop_own.ensures.chains c.in-Some.image
    c.in-Some.ensures.image c.read.new.row c.args.version.now.live c.apply.new.base c.read.ensures c.apply.ensures

pub invariant_of-self : goal.invariant_of-self
invariant_of-self c =
    let f : Fields = fields c.self.inside in
    record {
      sound = left_sound f c.self.inside.columns.kinds c.self.inside.spare c.args.self.now.places (ap (λ (h : Held). h.places) c.self.view_is)
          c.self.invariant.sound c.args.place c.requires.within c.args.id c.pop_own.new.self.chains c.pop_own.ensures.chains
          (sym c.pop_own.ensures.image ∙ c.in_default.is);
      vacated = c.self.invariant.vacated;
      numbered = c.self.invariant.numbered;
      keyed = c.self.invariant.keyed;
      indexed = c.self.invariant.indexed;
      spared = spare_changed c.self.inside.key f.chains c.pop_own.new.self.chains c.args.place (without_own c.args.id (get_or f.chains c.args.place []))
          c.pop_own.ensures.chains c.self.invariant.spared (λ k e s. without_spares k c.args.id (get_or f.chains c.args.place []) s);
      covered = covers_less c.self.inside.versioned f.chains c.pop_own.new.self.chains c.args.place (without_own c.args.id (get_or f.chains c.args.place []))
          c.self.invariant.covered c.pop_own.ensures.chains (without_none c.args.id (get_or f.chains c.args.place []));
    }

pub set-requires : goal.set-requires
set-requires c =
    let f : Fields = fields c.self.inside in
    in_vacant c.args.place f.used f.live c.self.inside.vacant c.self.invariant.vacated
    (in_live f c.self.inside.columns.kinds c.self.inside.spare c.args.self.now.places (ap (λ (h : Held). h.places) c.self.view_is)
    c.self.invariant.sound c.args.place c.requires.within)

pub invariant_of-self-2 : goal.invariant_of-self-2
invariant_of-self-2 c =
    let f : Fields = fields c.self.inside in
    let used = get_or_read f.used c.args.place c.index.result.now
    (in_used f c.self.inside.columns.kinds c.self.inside.spare c.args.self.now.places (ap (λ (h : Held). h.places) c.self.view_is)
    c.self.invariant.sound c.args.place c.requires.within) c.index.ensures false in
    let death = get_or_read f.deaths c.args.place c.index-2.result.now
    (in_deaths f c.self.inside.columns.kinds c.self.inside.spare c.args.self.now.places (ap (λ (h : Held). h.places) c.self.view_is)
    c.self.invariant.sound c.args.place c.requires.within) c.index-2.ensures 0 in
    record {
      sound = undone_sound f c.self.inside.columns.kinds c.self.inside.spare c.args.self.now.places
          (ap (λ (h : Held). h.places) c.self.view_is) c.self.invariant.sound c.args.place c.requires.within c.args.id c.pop_own.new.self.chains
          c.pop_own.ensures.chains c.in-Some.image c.in-Some.ensures.image c.read.new.row c.args.version.now.live c.apply.new.base c.read.ensures
          c.apply.ensures
          c.put_row.new.columns.kinds c.put_row.ensures.kinds c.put_row.new.columns.rows c.put_flag.new.flags.items c.put_flag-2.new.flags.items
          c.index.result.now c.used_after-used.result c.index-2.result.now c.put_row.ensures.rows c.put_flag.ensures used death
          c.used_after-used.ensures c.put_flag-2.ensures;
      vacated = shows_put c.args.place f.used f.live c.self.inside.vacant c.put_flag-2.new.flags.items c.put_flag.new.flags.items c.set.new.self
          c.used_after-used.result c.apply.new.base.live
          (in_live f c.self.inside.columns.kinds c.self.inside.spare c.args.self.now.places (ap (λ (h : Held). h.places) c.self.view_is)
          c.self.invariant.sound c.args.place c.requires.within) (c.self.invariant.sound.uses ∙ sym c.self.invariant.sound.lives)
          c.self.invariant.vacated c.put_flag-2.ensures c.put_flag.ensures
          (c.set.ensures ∙ ap (λ (b : Bool). set c.self.inside.vacant c.args.place b) c.is_vacant.ensures);
      numbered = still_numbered f.rows c.put_row.new.columns.rows c.args.place c.apply.new.base.row c.put_row.ensures.rows c.self.invariant.numbered;
      keyed = c.keep_key.ensures.kind ∙ (c.self.invariant.keyed ∙ ap (λ (ks : List Kind). key_kind ks c.self.inside.key) (sym c.put_row.ensures.kinds));
      indexed = same_key c.self.inside.key f.rows c.put_row.new.columns.rows c.put_flag-2.new.flags.items c.keep_key.new.index c.args.place c.apply.new.base.row
          (in_rows f c.self.inside.columns.kinds c.self.inside.spare c.args.self.now.places (ap (λ (h : Held). h.places) c.self.view_is)
          c.self.invariant.sound c.args.place c.requires.within) c.put_row.ensures.rows
          (undone_same_key c.self.inside.key f.chains c.args.place c.args.id c.in-Some.image c.apply.new.base (get_or f.rows c.args.place [])
          c.self.invariant.spared
          c.in-Some.ensures.image (ap (λ (v : Version). v.row) c.apply.ensures ∙ ap (λ (r : List Value). put_back r c.in-Some.image.values) c.read.ensures))
          (same_fields c.self.inside.key f.rows f.rows (set c.as_slice.result.now c.args.place c.used_after-used.result) c.put_flag-2.new.flags.items
          c.keep_key.new.index
          refl (c.put_flag-2.ensures ∙ ap (λ (us : List Bool). set us c.args.place c.used_after-used.result) (sym c.as_slice.ensures.value))
          c.keep_key.ensures.indexed);
      spared = spare_changed c.self.inside.key f.chains c.pop_own.new.self.chains c.args.place (without_own c.args.id (get_or f.chains c.args.place []))
          c.pop_own.ensures.chains c.self.invariant.spared (λ k e s. without_spares k c.args.id (get_or f.chains c.args.place []) s);
      covered = covers_less c.self.inside.versioned f.chains c.pop_own.new.self.chains c.args.place (without_own c.args.id (get_or f.chains c.args.place []))
          c.self.invariant.covered c.pop_own.ensures.chains (without_none c.args.id (get_or f.chains c.args.place []));
    }

pub returns-clause-places : goal.returns-clause-places
returns-clause-places c =
    let f : Fields = fields c.self.inside in
    let used = get_or_read f.used c.args.place c.index.result.now
    (in_used f c.self.inside.columns.kinds c.self.inside.spare c.args.self.now.places (ap (λ (h : Held). h.places) c.self.view_is)
    c.self.invariant.sound c.args.place c.requires.within) c.index.ensures false in
    let death = get_or_read f.deaths c.args.place c.index-2.result.now
    (in_deaths f c.self.inside.columns.kinds c.self.inside.spare c.args.self.now.places (ap (λ (h : Held). h.places) c.self.view_is)
    c.self.invariant.sound c.args.place c.requires.within) c.index-2.ensures 0 in
    undone_places f c.self.inside.columns.kinds c.self.inside.spare c.args.self.now.places (ap (λ (h : Held). h.places) c.self.view_is)
    c.self.invariant.sound c.args.place c.requires.within c.args.id c.pop_own.new.self.chains c.pop_own.ensures.chains c.in-Some.image
    c.in-Some.ensures.image c.read.new.row c.args.version.now.live c.apply.new.base c.read.ensures c.apply.ensures
    c.put_row.new.columns.kinds c.put_row.ensures.kinds c.put_row.new.columns.rows c.put_flag.new.flags.items c.put_flag-2.new.flags.items
    c.index.result.now c.used_after-used.result c.index-2.result.now c.put_row.ensures.rows c.put_flag.ensures used death c.used_after-used.ensures
    c.put_flag-2.ensures

pub returns-clause-width : goal.returns-clause-width
returns-clause-width c =
    let f : Fields = fields c.self.inside in
    let kinds = ap (λ (h : Held). length h.kinds) c.self.view_is in
    fits_length c.self.inside.columns.kinds c.apply.new.base.row
    (version_fits f c.self.inside.columns.kinds c.self.inside.spare c.args.self.now.places (ap (λ (h : Held). h.places) c.self.view_is)
    c.self.invariant.sound c.args.place c.requires.within c.args.id c.pop_own.new.self.chains c.pop_own.ensures.chains c.in-Some.image
    c.in-Some.ensures.image c.read.new.row c.args.version.now.live c.apply.new.base c.read.ensures c.apply.ensures) ∙ kinds

pub keep_key-requires-clause-within : goal.keep_key-requires-clause-within
keep_key-requires-clause-within c =
    let f : Fields = fields c.self.inside in
    in_rows f c.self.inside.columns.kinds c.self.inside.spare c.args.self.now.places (ap (λ (h : Held). h.places) c.self.view_is)
    c.self.invariant.sound c.args.place c.requires.within

pub keep_key-requires-clause-fits : goal.keep_key-requires-clause-fits
keep_key-requires-clause-fits c =
    let f : Fields = fields c.self.inside in
    (fits_there f c.self.inside.columns.kinds c.self.inside.spare c.args.self.now.places (ap (λ (h : Held). h.places) c.self.view_is)
    c.self.invariant.sound c.args.place c.requires.within).row

pub keep_key-requires-clause-as_many : goal.keep_key-requires-clause-as_many
keep_key-requires-clause-as_many c = ap (λ (us : List Bool). length us) c.as_slice.ensures.value ∙ c.self.invariant.sound.uses

pub keep_key-requires-clause-was_used : goal.keep_key-requires-clause-was_used
keep_key-requires-clause-was_used c =
    let f : Fields = fields c.self.inside in
    let used = get_or_read f.used c.args.place c.index.result.now
    (in_used f c.self.inside.columns.kinds c.self.inside.spare c.args.self.now.places (ap (λ (h : Held). h.places) c.self.view_is)
    c.self.invariant.sound c.args.place c.requires.within) c.index.ensures false in
    λ e. ap (λ (us : List Bool). get_or us c.args.place false) c.as_slice.ensures.value
    ∙ (sym used ∙ (and_parts c.index.result.now (c.apply.new.base.live || not (c.index-2.result.now == 0)) (sym c.used_after-used.ensures ∙ e)).0)

pub keep_key-requires-clause-indexed : goal.keep_key-requires-clause-indexed
keep_key-requires-clause-indexed c =
    same_fields c.self.inside.key c.self.inside.columns.rows c.self.inside.columns.rows c.self.inside.used.items c.as_slice.result.now c.self.inside.index
    refl c.as_slice.ensures.value c.self.invariant.indexed
