use Rattle.std.proofs.Common.{◌≡◌, ◌≤◌, List, ap, sym, ◌∙◌, subst}
use Rattle.hy_stamp.specs.declared.Viewer.{Viewer}
use Rattle.hy_value.specs.declared.Value.{Value}
use Rattle.hy_undo.specs.Chunks.{ChunkData}
use Rattle.hy_chunk.specs.Views.{Whole}
use Rattle.hy_session.specs.Savepoints.{savepoints}
use Rattle.hy_session.specs.Written.{Came, kept_as}
use Rattle.hy_session.proofs.OpenSavepoints.{mapped_long}
use Rattle.hy_session.proofs.WriteVisits.{came_so, viewer_so}
use Rattle.hy_session.proofs.inserting.place_in.Goals as goal

pub returns-clause-done : goal.returns-clause-done
returns-clause-done c = λ session now names is noted.
    let insertion = c.args.insertion.now in
    let row = c.in_ok-row.row in
    let old = c.args.chunk.now.shown in
    let kept = kept_as names c.place_visit.new.changes.notes c.place_visit.new.changes.levels in
    let same : c.reserve_writes.new.chunk.shown ≡ old = ap (λ (w : Whole). w.shown) c.reserve_writes.ensures.all in
    let did : Came session now insertion.table row c.reserve_writes.new.chunk.shown c.place_visit.result c.place_visit.new.chunk.shown kept =
    came_so session now _ insertion.table _ _ _ _ _ _ names row _ c.place_visit.ensures.done
    (record {
      viewer = c.viewer.ensures ∙ viewer_so session now c.args.visitor.now.id c.args.start is.id noted.starts;
      label = is.label;
      cover = sym noted.covers;
      prunes = is.prunes;
    })
    (ap (λ (o : ChunkData). o.table) same ∙ sym c.requires.table) (c.reserve_writes.ensures.notes ∙ sym noted.noted)
    (ap (savepoints names) c.reserve_writes.ensures.levels ∙ sym noted.saved) in
    let came : Came session now insertion.table row old c.place_visit.result c.place_visit.new.chunk.shown kept =
    subst (λ (o : ChunkData). Came session now insertion.table row o c.place_visit.result c.place_visit.new.chunk.shown kept) same did in
    subst (λ (r : List Value). Came session now insertion.table r old c.place_visit.result c.place_visit.new.chunk.shown kept) c.in_ok-row.ensures came

pub returns-clause-long : goal.returns-clause-long
returns-clause-long c = mapped_long _ _ _ _ c.place_visit.ensures.done.in_each c.reserve_writes.ensures.levels

pub returns-clause-short : goal.returns-clause-short
returns-clause-short c = λ does.
    c.place_visit.ensures.short does (subst (λ (v : Viewer). c.args.cover.now.next ≤ v.id) (sym c.viewer.ensures) c.requires.ready.early)
