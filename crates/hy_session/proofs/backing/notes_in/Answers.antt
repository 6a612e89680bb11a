use Rattle.std.proofs.Common.{◌≡◌, ℕ, ◌+◌, List, [], None, Some, length, ap, sym, ◌∙◌}
use Rattle.std.specs.Prelude.{filter, slice_index_or}
use Rattle.hy_value.specs.declared.change.Change.{Change}
use Rattle.hy_bound.specs.Savepoints.{Saved, newest}
use Rattle.hy_notes.specs.Notes.{is_between}
use Rattle.hy_event.specs.declared.Open.{Open}
use Rattle.hy_event.specs.Sessions.{notes_since}
use Rattle.hy_session.specs.Savepoints.{notes_in_chunk}
use Rattle.hy_session.proofs.BackVisits.{added, in_chunk, since_level, since_nothing}
use Rattle.hy_session.proofs.Results.{ok_maps}
use Rattle.hy_session.proofs.backing.notes_in.Goals as goal

pub returns-in_default : goal.returns-in_default
returns-in_default c =
    let now = c.args.now.now in
    let name = c.args.name.now in
    let chunk = c.args.chunk.now.shown in
    let names = c.now.inside.saved in
    let none : None ≡ newest name names =
    sym c.in_default.is ∙ (c.newest_savepoint.ensures.number ∙ (ap (λ (n : List ℕ). newest n c.as_slice.result.now) c.text.ensures
    ∙ ap (λ (all : List (Saved (Unit {0}))). newest name all) c.as_slice.ensures)) in
    c.new.ensures
    ∙ ap (λ (notes : List Change). notes_in_chunk notes chunk)
    (sym (since_nothing name names c.now.inside.notes.levels now c.now.invariant (ap (λ (v : Open). v.saved) c.now.view_is) none))

pub returns : goal.returns
returns c =
    let now = c.args.now.now in
    let name = c.args.name.now in
    let chunk = c.args.chunk.now.shown in
    let names = c.now.inside.saved in
    let levels = c.now.inside.notes.levels in
    let number : ℕ = c.in-Some.number in
    let behind : ℕ = c.in_ok-behind.behind in
    let found : Some number ≡ newest name names =
    sym c.in-Some.is ∙ (c.newest_savepoint.ensures.number ∙ (ap (λ (n : List ℕ). newest n c.as_slice.result.now) c.text.ensures
    ∙ ap (λ (all : List (Saved (Unit {0}))). newest name all) c.as_slice.ensures)) in
    let level : slice_index_or levels number [] ≡ notes_since now name =
    since_level name names levels now number c.now.invariant (ap (λ (v : Open). v.saved) c.now.view_is) found in
    let first : c.from-first.result ≡ chunk.first = c.from-first.ensures ∙ c.first.ensures in
    let end : behind ≡ chunk.first + length chunk.places =
    added c.from-first.result c.len.result behind _ c.checked_add.result c.checked_add.ensures c.in_ok-behind.ensures.ok_part
    ∙ (ap (λ (n : ℕ). n + c.len.result) first ∙ ap (λ (n : ℕ). chunk.first + n) c.len.ensures) in
    ok_maps c.notes_since.result
    (λ (list : List Change). list ≡ filter (is_between c.table.result c.from-first.result behind) (slice_index_or levels number []))
    (λ (list : List Change). list ≡ notes_in_chunk (notes_since now name) chunk)
    (λ list is. in_chunk list (slice_index_or levels number []) (notes_since now name) c.table.result c.from-first.result behind chunk is c.table.ensures
    first end level)
    c.notes_since.ensures
