use Rattle.std.proofs.Common.{◌≡◌, ℕ, ◌+◌, Bool, true, List, length, ap, sym, ◌∙◌, subst}
use Rattle.std.specs.List.{AllByRecursion}
use Rattle.hy_value.specs.declared.change.Change.{Change}
use Rattle.hy_notes.specs.Notes.{Ascends, is_between}
use Rattle.hy_stamp.specs.declared.Viewer.{Viewer}
use Rattle.hy_undo.specs.Chunks.{ChunkData}
use Rattle.hy_chunk.specs.Views.{Whole}
use Rattle.hy_visit.specs.Backing.{AreOfChunk, MayAllGoBack}
use Rattle.hy_event.specs.declared.Open.{Open}
use Rattle.hy_event.specs.Backing.{cells_back}
use Rattle.hy_event.specs.Sessions.{notes_since}
use Rattle.hy_protocol.specs.declared.Phase.TheVariants.{Working}
use Rattle.hy_session.specs.Savepoints.{notes_in_chunk, savepoints}
use Rattle.hy_session.specs.Written.{kept_as}
use Rattle.hy_session.proofs.BackVisits.{back_so, may_by_others, since_ascends}
use Rattle.hy_session.proofs.OpenSavepoints.{mapped_long}
use Rattle.hy_session.proofs.StatementVisits.{added_one}
use Rattle.hy_session.proofs.VisitTurns.{moved_to}
use Rattle.hy_session.proofs.WriteVisits.{viewer_so}
use Rattle.hy_session.proofs.backing.go_back.Goals as goal

pub back_visit-requires-clause-order : goal.back_visit-requires-clause-order
back_visit-requires-clause-order c =
    let now = c.args.now.now in
    let name = c.args.name.now in
    let chunk = c.args.chunk.now.shown in
    let stands : AreOfChunk chunk (notes_in_chunk (notes_since now name) chunk) =
    c.notes_of_a_chunk_stand.ensures chunk (notes_since now name) (since_ascends now name c.requires.order) in
    subst Ascends (sym (c.as_slice.ensures ∙ c.in_ok-since.ensures)) stands.order

pub back_visit-requires-clause-within : goal.back_visit-requires-clause-within
back_visit-requires-clause-within c =
    let now = c.args.now.now in
    let name = c.args.name.now in
    let chunk = c.args.chunk.now.shown in
    let stands : AreOfChunk chunk (notes_in_chunk (notes_since now name) chunk) =
    c.notes_of_a_chunk_stand.ensures chunk (notes_since now name) (since_ascends now name c.requires.order) in
    let same : c.reserve_writes.new.chunk.shown ≡ chunk = ap (λ (w : Whole). w.shown) c.reserve_writes.ensures.all in
    subst (λ (o : ChunkData). AllByRecursion (λ (note : Change). is_between o.table o.first (o.first + length o.places) note ≡ true) c.as_slice.result.now)
    (sym same)
    (subst (λ (l : List Change). AllByRecursion (λ (note : Change). is_between chunk.table chunk.first (chunk.first + length chunk.places) note ≡ true) l)
    (sym (c.as_slice.ensures ∙ c.in_ok-since.ensures)) stands.within)

pub back_visit-requires-clause-may : goal.back_visit-requires-clause-may
back_visit-requires-clause-may c =
    let now = c.args.now.now in
    let name = c.args.name.now in
    let chunk = c.args.chunk.now in
    let since : List Change = c.as_slice.result.now in
    let same : cells_back since chunk.shown ≡ cells_back (notes_since now name) chunk.shown =
    ap (λ (l : List Change). cells_back l chunk.shown) (c.as_slice.ensures ∙ c.in_ok-since.ensures)
    ∙ c.notes_of_a_chunk_tell.ensures chunk.shown (notes_since now name) in
    let may : MayAllGoBack chunk.kinds chunk.shown.key c.args.visitor.now.id since chunk.shown =
    may_by_others chunk.kinds chunk.shown.key c.args.visitor.now.id since (notes_since now name) chunk.shown same c.requires.may in
    subst (λ (w : Whole). MayAllGoBack w.kinds w.shown.key c.viewer.result.id since w.shown) (sym c.reserve_writes.ensures.all)
    (subst (λ (id : ℕ). MayAllGoBack chunk.kinds chunk.shown.key id since chunk.shown) (sym (ap (λ (v : Viewer). v.id) c.viewer.ensures)) may)

pub returns-clause-event : goal.returns-clause-event
returns-clause-event c = λ session is opened.
    let now = c.args.now.now in
    let name = c.args.name.now in
    let chunk = c.args.chunk.now.shown in
    let since : List Change = c.as_slice.result.now in
    let kept = kept_as c.now.inside.saved c.back_visit.new.changes.notes c.back_visit.new.changes.levels in
    let next : ℕ = c.in_ok-visited.visited in
    back_so session now _ _ c.args.visited next name chunk c.back_visit.new.chunk.shown since c.reserve_writes.new.notes.notes c.back_visit.new.changes.notes
    c.reserve_writes.new.notes.levels c.back_visit.new.changes.levels c.now.inside.saved c.reserve_writes.new.chunk.shown
    (ap (λ (w : Whole). w.shown) c.reserve_writes.ensures.all)
    c.back_visit.ensures.done
    (record {
      viewer = c.viewer.ensures ∙ viewer_so session now c.args.visitor.now.id c.now.inside.start is.id (ap (λ (v : Open). v.start) (sym c.now.view_is));
      label = is.label;
      cover = ap (λ (v : Open). v.cover) c.now.view_is;
      prunes = is.prunes;
    })
    (ap (λ (l : List Change). cells_back l chunk) (c.as_slice.ensures ∙ c.in_ok-since.ensures)
    ∙ c.notes_of_a_chunk_tell.ensures chunk (notes_since now name))
    (c.reserve_writes.ensures.notes ∙ ap (λ (v : Open). v.notes) c.now.view_is)
    (ap (savepoints c.now.inside.saved) c.reserve_writes.ensures.levels ∙ ap (λ (v : Open). v.saved) c.now.view_is)
    opened
    (added_one c.args.visited next _ c.checked_add.result c.checked_add.ensures c.in_ok-visited.ensures.ok_part)
    (ap (λ (v : Open). moved_to v kept (Working next 0)) c.now.view_is)
