use Rattle.std.proofs.Common.{◌≡◌, ◌<◌, List, length, sym, ap, ◌∙◌, subst, arith}
use Rattle.hy_prune.specs.Fates.{watermark_of}
use Rattle.hy_undo.specs.Places.{Place}
use Rattle.hy_undo.specs.Chunks.{Placed}
use Rattle.hy_chunk.specs.Steps.{least_free, IsPut}
use Rattle.hy_chunk.proofs.Over.{fits_length}
use Rattle.hy_chunk.proofs.TextRoom.{texts_fit}
use Rattle.hy_chunk.proofs.Frees.{put_there}
use Rattle.hy_chunk.specs.Views.{Whole}
use Rattle.hy_chunk.proofs.chunk.Chunk.place.Goals as goal

pub place_at-requires-clause-within : goal.place_at-requires-clause-within
place_at-requires-clause-within c =
    omega (arith, c.first_free-place.ensures.within, c.if-place-len.false, c.len.ensures, ap (λ (w : Whole). length w.shown.places) c.self.view_is)

pub overflow_cast-pos : goal.overflow_cast-pos
overflow_cast-pos c =
    omega (
      arith,
      c.first_free-place.ensures.within,
      c.if-place-len.false,
      c.len.ensures,
      ap (λ (w : Whole). length w.shown.places) c.self.view_is,
      c.self.invariant.numbered,
    )

pub overflow_add-pos : goal.overflow_add-pos
overflow_add-pos c =
    omega (
      arith,
      c.first_free-place.ensures.within,
      c.if-place-len.false,
      c.len.ensures,
      ap (λ (w : Whole). length w.shown.places) c.self.view_is,
      c.self.invariant.numbered,
    )

pub note_reserved-requires-clause-after : goal.note_reserved-requires-clause-after
note_reserved-requires-clause-after c = omega (arith, fits_length c.args.self.now.kinds c.args.row.now c.requires.fits, c.requires.wide)

pub note_reserved-requires-clause-texts_after : goal.note_reserved-requires-clause-texts_after
note_reserved-requires-clause-texts_after c = omega (arith, texts_fit c.args.self.now.kinds c.args.row.now c.requires.fits, c.requires.long)

pub returns-clause-places : goal.returns-clause-places
returns-clause-places c =
    let w = watermark_of c.args.cover.now in
    let does = Placed c.args.viewer.now c.args.label w c.args.row.now in
    let olds = c.self.inside.positions.places in
    let news = c.place_at.new.self.places in
    let k = c.first_free-place.result in
    let view : olds ≡ c.args.self.now.shown.places = ap (λ (x : Whole). x.shown.places) c.self.view_is in
    let is : k ≡ least_free w olds = c.first_free-place.ensures.least ∙ ((λ i. least_free (c.watermark.ensures i) (sym view i))) in
    let within : k < length olds =
    omega (arith, c.first_free-place.ensures.within, c.if-place-len.false, c.len.ensures, ap (λ (x : Whole). length x.shown.places) c.self.view_is) in
    subst (λ (places : List Place). IsPut (least_free w places) does places news) view
    (put_there does w olds news k is within c.place_at.ensures.places (c.place_at.ensures.placed w))
