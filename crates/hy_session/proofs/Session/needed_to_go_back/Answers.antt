use Rattle.std.proofs.Common.{◌≡◌, ℕ, List, [], Option, None, Some, map, sym, ap, ◌∙◌}
use Rattle.std.specs.Prelude.{slice_get}
use Rattle.hy_bound.specs.Savepoints.{newest}
use Rattle.hy_value.specs.declared.change.Change.{Change}
use Rattle.hy_event.specs.Needs.{chunk_or_core}
use Rattle.hy_event.specs.Sessions.{chunks_from, place_noted, savepoint_of}
use Rattle.hy_event.specs.declared.Open.{Open}
use Rattle.hy_event.specs.declared.SavedNotes.{SavedNotes}
use Rattle.hy_session.proofs.OpenSavepoints.{newest_is, since_newest, since_none}
use Rattle.hy_session.proofs.OrderedNotes.{since_rises}
use Rattle.hy_session.proofs.WrittenChunks.{none_written}
use Rattle.hy_session.proofs.Session.needed_to_go_back.Goals as goal

pub left_of_written-requires : goal.left_of_written-requires
left_of_written-requires c = since_rises c.args.now.now.saved c.in-Some.number c.requires

pub returns-in-Some : goal.returns-in-Some
returns-in-Some c =
    let session = c.args.self.now in
    let saved = c.args.now.now.saved in
    let name = c.args.name.now in
    let shown : saved ≡ _ = ap (λ (v : Open). v.saved) (sym c.now.view_is) in
    let is : newest name (map savepoint_of saved) ≡ Some c.in-Some.number =
    ap (λ (list : List SavedNotes). newest name (map savepoint_of list)) shown
    ∙ (sym (newest_is name c.now.inside.saved c.now.inside.notes.levels c.now.invariant)
    ∙ (ap (λ (n : List ℕ). newest n c.now.inside.saved) (sym c.text.ensures)
    ∙ (ap (newest c.text.result.now) (sym c.as_slice.ensures) ∙ (sym c.newest_savepoint.ensures.number ∙ c.in-Some.is)))) in
    c.left_of_written.ensures
    ∙ ap (λ (notes : List Change). chunk_or_core (slice_get (chunks_from session (map place_noted notes) 0 session.shapes) c.args.visited))
    (sym (since_newest name saved c.in-Some.number is))

pub returns-in-None : goal.returns-in-None
returns-in-None c =
    let session = c.args.self.now in
    let saved = c.args.now.now.saved in
    let name = c.args.name.now in
    let shown : saved ≡ _ = ap (λ (v : Open). v.saved) (sym c.now.view_is) in
    let none : newest name (map savepoint_of saved) ≡ None =
    ap (λ (list : List SavedNotes). newest name (map savepoint_of list)) shown
    ∙ (sym (newest_is name c.now.inside.saved c.now.inside.notes.levels c.now.invariant)
    ∙ (ap (λ (n : List ℕ). newest n c.now.inside.saved) (sym c.text.ensures)
    ∙ (ap (newest c.text.result.now) (sym c.as_slice.ensures) ∙ (sym c.newest_savepoint.ensures.number ∙ c.in-None.is)))) in
    sym (ap (λ (notes : List Change). chunk_or_core (slice_get (chunks_from session (map place_noted notes) 0 session.shapes) c.args.visited))
    (since_none name saved none)
    ∙ ap (λ (chunks : List (ℕ × ℕ)). chunk_or_core (slice_get chunks c.args.visited)) (none_written session 0 session.shapes))
