use Rattle.std.proofs.Common.{◌≡◌, ◌≤◌, ℕ, List, ap, sym, ◌∙◌, subst}
use Rattle.hy_stamp.specs.declared.Viewer.{Viewer}
use Rattle.hy_undo.specs.Chunks.{ChunkData}
use Rattle.hy_chunk.specs.Candidates.{AreCandidates}
use Rattle.hy_chunk.specs.Views.{Whole}
use Rattle.hy_chunk.specs.Writes.{sets_of}
use Rattle.hy_session.specs.Savepoints.{savepoints}
use Rattle.hy_session.specs.Written.{Wrote, kept_as}
use Rattle.hy_session.proofs.OpenSavepoints.{mapped_long}
use Rattle.hy_session.proofs.WriteVisits.{viewer_so, wrote_so}
use Rattle.hy_session.proofs.writing.write_chunk.Goals as goal

pub returns-clause-done : goal.returns-clause-done
returns-clause-done c = λ session now names is noted.
    let write = c.args.write.now in
    let same : c.reserve_writes.new.chunk.shown ≡ c.args.chunk.now.shown =
    ap (λ (w : Whole). w.shown) c.reserve_writes.ensures.all ∙ ap (λ (w : Whole). w.shown) c.find_candidates.ensures.all in
    let did : Wrote session now write.table (sets_of write.kind) write.pred.now c.reserve_writes.new.chunk.shown c.write_visit-answer.result
    c.write_visit-answer.new.chunk.shown (kept_as names c.write_visit-answer.new.changes.notes c.write_visit-answer.new.changes.levels) =
    wrote_so session now _ write.table _ _ _ _ _ _ names (sets_of write.kind) write.pred.now _ c.write_visit-answer.ensures.done
    (record {
      viewer = c.viewer.ensures ∙ viewer_so session now c.args.visitor.now.id c.args.start is.id noted.starts;
      label = is.label;
      cover = sym noted.covers;
      prunes = is.prunes;
    })
    (ap (λ (o : ChunkData). o.table) same ∙ sym c.requires.table) (c.reserve_writes.ensures.notes ∙ sym noted.noted)
    (ap (savepoints names) c.reserve_writes.ensures.levels ∙ sym noted.saved) in
    subst
    (λ (o : ChunkData). Wrote session now write.table (sets_of write.kind) write.pred.now o c.write_visit-answer.result c.write_visit-answer.new.chunk.shown
    (kept_as names c.write_visit-answer.new.changes.notes c.write_visit-answer.new.changes.levels))
    same did

pub returns-clause-long : goal.returns-clause-long
returns-clause-long c = mapped_long _ _ _ _ c.write_visit-answer.ensures.done.in_each c.reserve_writes.ensures.levels

pub returns-clause-short : goal.returns-clause-short
returns-clause-short c = λ does.
    c.write_visit-answer.ensures.short does (subst (λ (v : Viewer). c.args.cover.now.next ≤ v.id) (sym c.viewer.ensures) c.requires.ready.early)

pub write_visit-answer-requires-clause-candidates : goal.write_visit-answer-requires-clause-candidates
write_visit-answer-requires-clause-candidates c =
    let pred = c.args.write.now.pred.now in
    let same : c.reserve_writes.new.chunk.shown ≡ c.args.chunk.now.shown =
    ap (λ (w : Whole). w.shown) c.reserve_writes.ensures.all ∙ ap (λ (w : Whole). w.shown) c.find_candidates.ensures.all in
    let found = c.in_ok-places.places.items in
    subst (λ (places : List ℕ). AreCandidates pred c.reserve_writes.new.chunk.shown.key c.reserve_writes.new.chunk.shown.places places)
    (sym c.as_slice.ensures.value)
    (subst (λ (o : ChunkData). AreCandidates pred o.key o.places found) (sym same) c.in_ok-places.ensures.found)
