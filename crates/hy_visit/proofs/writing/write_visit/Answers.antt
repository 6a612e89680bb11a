use Rattle.std.proofs.Common.{ap, arith}
use Rattle.hy_chunk.specs.Views.{Whole}
use Rattle.hy_chunk.specs.Writes.{sets_of}
use Rattle.hy_event.specs.Writing.{cells_by}
use Rattle.hy_visit.proofs.KeptCandidates.{candidates_stay}
use Rattle.hy_visit.proofs.Shortened.{short_becomes}
use Rattle.hy_visit.proofs.Written.{comes_to, write_done}
use Rattle.hy_visit.proofs.writing.write_visit.Goals as goal

pub returns-clause-done : goal.returns-clause-done
returns-clause-done c =
    let writer = c.args.writer.now in
    let sets = sets_of c.args.kind in
    let between = c.prune_first.new.chunk in
    let new = c.write.new.self in
    let here = comes_to writer sets c.args.pred.now between new c.args.changes.now c.write.new.changes c.write.result
    (ap (λ (w : Whole). w.shown) c.write.ensures.all) c.write.ensures.done c.write.ensures.levels c.write.ensures.refused c.write.ensures.kept in
    write_done writer sets c.args.pred.now between new c.args.changes.now c.write.new.changes c.args.chunk.now.shown c.write.result
    c.prune_first.ensures.pruned (ap (λ (w : Whole). w.shown.table) c.prune_first.ensures.all) here

pub returns-clause-short : goal.returns-clause-short
returns-clause-short c = λ does late.
    let writer = c.args.writer.now in
    let sets = sets_of c.args.kind in
    let between = c.prune_first.new.chunk in
    let new = c.write.new.self in
    let here = comes_to writer sets c.args.pred.now between new c.args.changes.now c.write.new.changes c.write.result
    (ap (λ (w : Whole). w.shown) c.write.ensures.all) c.write.ensures.done c.write.ensures.levels c.write.ensures.refused c.write.ensures.kept in
    short_becomes writer.cover.now writer.viewer writer.label late (cells_by sets c.args.pred.now writer.viewer between.shown) between.shown new.shown
    (c.prune_first.ensures.short does) here.chunk

pub write-requires-clause-candidates : goal.write-requires-clause-candidates
write-requires-clause-candidates c =
    let writer = c.args.writer.now in
    candidates_stay writer.prunes writer.cover.now c.args.pred.now c.args.chunk.now.shown c.prune_first.new.chunk.shown c.args.places.now
    c.prune_first.ensures.pruned c.requires.candidates

pub write-requires-clause-room : goal.write-requires-clause-room
write-requires-clause-room c = omega (arith, c.requires.room, c.prune_first.ensures.room)

pub returns-clause-room : goal.returns-clause-room
returns-clause-room c = omega (arith, c.prune_first.ensures.room, c.write.ensures.room)
