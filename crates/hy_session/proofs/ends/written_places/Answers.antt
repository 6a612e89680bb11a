use Rattle.std.proofs.Common.{◌≡◌, map, ap, sym, ◌∙◌, List, subst, ⊎_elim}
use Rattle.std.specs.Prelude.{IfOk}
use Rattle.hy_value.specs.declared.change.Change.{Change}
use Rattle.hy_notes.specs.declared.NotedPlace.{NotedPlace}
use Rattle.hy_render.specs.declared.Place.{Place}
use Rattle.hy_protocol.specs.declared.Phase.{Phase}
use Rattle.hy_event.specs.declared.Open.{Open}
use Rattle.hy_event.specs.Sessions.{place_noted, written_in}
use Rattle.hy_session.specs.Seeking.{written_place}
use Rattle.hy_session.proofs.NotedSeeks.{written_noted}
use Rattle.hy_session.proofs.ends.written_places.Goals as goal

pub returns-in_ok-noted-in-Working : goal.returns-in_ok-noted-in-Working
returns-in_ok-noted-in-Working c =
    let now = c.args.now.now in
    let noted = c.now.inside.notes.notes in
    let phase : c.now.inside.phase ≡ now.phase = ap (λ (v : Open). v.phase) c.now.view_is in
    let notes : noted ≡ now.notes = ap (λ (v : Open). v.notes) c.now.view_is in
    let same : map written_place c.as_slice-in-Working.result.now ≡ map place_noted now.notes =
    ap (λ (places : List NotedPlace). map written_place places) (c.as_slice-in-Working.ensures ∙ c.in_ok-noted-in-Working.ensures)
    ∙ (written_noted noted ∙ ap (λ (changes : List Change). map place_noted changes) notes) in
    subst (λ (places : List Place). IfOk c.places_of.result (λ found. found ≡ places))
    (same ∙ sym (⊎_elim (λ w. ap (λ (p : Phase). written_in now p) (sym phase ∙ w.2)) (λ w. ap (λ (p : Phase). written_in now p) (sym phase ∙ w.2))
    c.in-Working.is)) c.places_of.ensures
