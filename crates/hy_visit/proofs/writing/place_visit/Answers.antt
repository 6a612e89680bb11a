use Rattle.std.proofs.Common.{ap}
use Rattle.hy_prune.specs.Fates.{watermark_of}
use Rattle.hy_chunk.specs.Steps.{least_free}
use Rattle.hy_chunk.specs.Views.{Whole}
use Rattle.hy_notes.specs.Noted.{Noted}
use Rattle.hy_visit.proofs.Placed.{none_done, place_done, short_placed}
use Rattle.hy_visit.proofs.writing.place_visit.Goals as goal

pub returns-in-Ok-clause-done : goal.returns-in-Ok-clause-done
returns-in-Ok-clause-done c =
    place_done c.args.writer.now c.args.row.now c.args.chunk.now.shown c.prune_first.new.chunk.shown c.place.new.self.shown
    c.args.changes.now.notes c.place.new.changes.notes c.args.changes.now.levels c.place.new.changes.levels c.in-Ok.pos c.prune_first.ensures.pruned
    (ap (λ (w : Whole). w.shown.table) c.prune_first.ensures.all) c.in-Ok.ensures.pos c.in-Ok.ensures.there
    (ap (λ (w : Whole). w.shown) c.place.ensures.all) c.in-Ok.ensures.places c.in-Ok.ensures.noted c.in-Ok.ensures.levels

pub returns-in-Err-clause-done : goal.returns-in-Err-clause-done
returns-in-Err-clause-done c =
    none_done c.args.writer.now c.args.row.now c.args.chunk.now.shown c.prune_first.new.chunk.shown c.place.new.self.shown
    c.args.changes.now.notes c.place.new.changes.notes c.args.changes.now.levels c.place.new.changes.levels c.prune_first.ensures.pruned
    c.in-Err.ensures.none (ap (λ (w : Whole). w.shown) c.in-Err.ensures.kept.0)
    (ap (λ (n : Noted). n.notes) c.in-Err.ensures.kept.1) (ap (λ (n : Noted). n.levels) c.in-Err.ensures.kept.1)

pub returns-in-Ok-clause-short : goal.returns-in-Ok-clause-short
returns-in-Ok-clause-short c = λ does late.
    let writer = c.args.writer.now in
    let between = c.prune_first.new.chunk.shown.places in
    short_placed writer.cover.now writer.viewer writer.label c.args.row.now (least_free (watermark_of writer.cover.now) between) between
    c.place.new.self.shown.places late (c.prune_first.ensures.short does) c.in-Ok.ensures.places
