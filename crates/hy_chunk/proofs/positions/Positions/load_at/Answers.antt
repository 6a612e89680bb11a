use Rattle.std.proofs.Common.{Bool, true, List, length, refl, sym, ap, ◌∙◌, subst, arith}
use Rattle.std.proofs.Math.ListN.{set}
use Rattle.hy_chunk.proofs.Indexing.{same_fields}
use Rattle.hy_value.specs.declared.Kind.{Kind}
use Rattle.hy_chunk.specs.Keyed.{key_kind}
use Rattle.hy_chunk.specs.Views.{Held}
use Rattle.hy_chunk.specs.Sound.{FitsRow}
use Rattle.hy_chunk.proofs.Places.{Fields, fields, in_rows, in_live, in_used, fits_there}
use Rattle.hy_chunk.proofs.Ranges.{still_numbered}
use Rattle.hy_chunk.proofs.LoadAt.{loaded_sound, loaded_places}
use Rattle.hy_chunk.proofs.Vacating.{in_vacant, shows_put}
use Rattle.hy_chunk.proofs.positions.Positions.load_at.Goals as goal

pub put_row-requires-clause-within : goal.put_row-requires-clause-within
put_row-requires-clause-within c =
    let f : Fields = fields c.self.inside in
    in_rows f c.self.inside.columns.kinds c.self.inside.spare c.args.self.now.places (ap (λ (h : Held). h.places) c.self.view_is)
    c.self.invariant.sound c.args.place c.requires.within

pub put_row-requires-clause-old : goal.put_row-requires-clause-old
put_row-requires-clause-old c =
    let f : Fields = fields c.self.inside in
    (fits_there f c.self.inside.columns.kinds c.self.inside.spare c.args.self.now.places (ap (λ (h : Held). h.places) c.self.view_is)
    c.self.invariant.sound c.args.place c.requires.within).row

pub put_flag-requires : goal.put_flag-requires
put_flag-requires c =
    let f : Fields = fields c.self.inside in
    omega (
      arith,
      in_live f c.self.inside.columns.kinds c.self.inside.spare c.args.self.now.places (ap (λ (h : Held). h.places) c.self.view_is)
          c.self.invariant.sound c.args.place c.requires.within,
      c.self.inside.live.ok.0,
    )

pub put_flag-requires-2 : goal.put_flag-requires-2
put_flag-requires-2 c =
    let f : Fields = fields c.self.inside in
    omega (
      arith,
      in_used f c.self.inside.columns.kinds c.self.inside.spare c.args.self.now.places (ap (λ (h : Held). h.places) c.self.view_is)
          c.self.invariant.sound c.args.place c.requires.within,
      c.self.inside.used.ok.0,
    )

pub set-requires : goal.set-requires
set-requires c =
    let f : Fields = fields c.self.inside in
    in_vacant c.args.place f.used f.live c.self.inside.vacant c.self.invariant.vacated
    (in_live f c.self.inside.columns.kinds c.self.inside.spare c.args.self.now.places (ap (λ (h : Held). h.places) c.self.view_is)
    c.self.invariant.sound c.args.place c.requires.within)

pub invariant_of-self : goal.invariant_of-self
invariant_of-self c =
    let f : Fields = fields c.self.inside in
    record {
      sound = loaded_sound f c.self.inside.columns.kinds c.self.inside.spare c.args.self.now.places
          (ap (λ (h : Held). h.places) c.self.view_is) c.self.invariant.sound c.args.place c.requires.within c.args.row.now
          (subst (λ (ks : List Kind). FitsRow ks c.args.row.now) (sym (ap (λ (h : Held). h.kinds) c.self.view_is)) c.requires.fits)
          c.put_row.new.columns.kinds c.put_row.ensures.kinds c.put_row.new.columns.rows c.put_flag.new.flags.items c.put_flag-2.new.flags.items
          c.put_row.ensures.rows c.put_flag.ensures c.put_flag-2.ensures;
      vacated = shows_put c.args.place f.used f.live c.self.inside.vacant c.put_flag-2.new.flags.items c.put_flag.new.flags.items c.set.new.self true true
          (in_live f c.self.inside.columns.kinds c.self.inside.spare c.args.self.now.places (ap (λ (h : Held). h.places) c.self.view_is)
          c.self.invariant.sound c.args.place c.requires.within) (c.self.invariant.sound.uses ∙ sym c.self.invariant.sound.lives)
          c.self.invariant.vacated c.put_flag-2.ensures c.put_flag.ensures c.set.ensures;
      numbered = still_numbered f.rows c.put_row.new.columns.rows c.args.place c.args.row.now c.put_row.ensures.rows c.self.invariant.numbered;
      keyed = c.put_key.ensures.kind ∙ (c.self.invariant.keyed ∙ ap (λ (ks : List Kind). key_kind ks c.self.inside.key) (sym c.put_row.ensures.kinds));
      indexed = same_fields c.self.inside.key (set f.rows c.args.place c.args.row.now) c.put_row.new.columns.rows (set c.as_slice.result.now c.args.place true)
          c.put_flag-2.new.flags.items c.put_key.new.index c.put_row.ensures.rows
          (c.put_flag-2.ensures ∙ ap (λ (us : List Bool). set us c.args.place true) (sym c.as_slice.ensures.value)) c.put_key.ensures.indexed;
      spared = c.self.invariant.spared;
      covered = c.self.invariant.covered;
    }

pub returns-clause-places : goal.returns-clause-places
returns-clause-places c =
    let f : Fields = fields c.self.inside in
    loaded_places f c.self.inside.columns.kinds c.self.inside.spare c.args.self.now.places (ap (λ (h : Held). h.places) c.self.view_is)
    c.self.invariant.sound c.args.place c.requires.within c.args.row.now
    (subst (λ (ks : List Kind). FitsRow ks c.args.row.now) (sym (ap (λ (h : Held). h.kinds) c.self.view_is)) c.requires.fits)
    c.put_row.new.columns.kinds c.put_row.ensures.kinds c.put_row.new.columns.rows c.put_flag.new.flags.items c.put_flag-2.new.flags.items
    c.put_row.ensures.rows c.put_flag.ensures c.put_flag-2.ensures

pub put_key-requires-clause-within : goal.put_key-requires-clause-within
put_key-requires-clause-within c =
    let f : Fields = fields c.self.inside in
    in_rows f c.self.inside.columns.kinds c.self.inside.spare c.args.self.now.places (ap (λ (h : Held). h.places) c.self.view_is)
    c.self.invariant.sound c.args.place c.requires.within

pub put_key-requires-clause-fits : goal.put_key-requires-clause-fits
put_key-requires-clause-fits c =
    let f : Fields = fields c.self.inside in
    (fits_there f c.self.inside.columns.kinds c.self.inside.spare c.args.self.now.places (ap (λ (h : Held). h.places) c.self.view_is)
    c.self.invariant.sound c.args.place c.requires.within).row

pub put_key-requires-clause-as_many : goal.put_key-requires-clause-as_many
put_key-requires-clause-as_many c = ap (λ (us : List Bool). length us) c.as_slice.ensures.value ∙ c.self.invariant.sound.uses

pub put_key-requires-clause-indexed : goal.put_key-requires-clause-indexed
put_key-requires-clause-indexed c =
    same_fields c.self.inside.key c.self.inside.columns.rows c.self.inside.columns.rows c.self.inside.used.items c.as_slice.result.now c.self.inside.index
    refl c.as_slice.ensures.value c.self.invariant.indexed

pub put_key-requires-clause-row : goal.put_key-requires-clause-row
put_key-requires-clause-row c =
    subst (λ (ks : List Kind). FitsRow ks c.args.row.now) (sym (ap (λ (h : Held). h.kinds) c.self.view_is)) c.requires.fits
