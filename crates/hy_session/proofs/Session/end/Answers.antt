use Rattle.std.proofs.Common.{◌≡◌, ◌∷◌, ◌++◌, ℕ, List, [], Option, Some, map, length, sym, ap, ◌∙◌}
use Rattle.std.specs.Prelude.{if◌then◌else◌}
use Rattle.std.specs.List.{range_with_len}
use Rattle.hy_bound.specs.declared.Bound.{Bound}
use Rattle.hy_bound.specs.declared.Reply.{Reply}
use Rattle.hy_event.specs.declared.SessionData.{SessionData}
use Rattle.hy_event.specs.declared.Open.{Open}
use Rattle.hy_event.specs.Ended.{placed_in, statements_in}
use Rattle.hy_event.specs.Sessions.{label_of, txn_at}
use Rattle.hy_protocol.specs.Turns.{is_stamping}
use Rattle.hy_session.proofs.Endings.{ended_by, outcome_by, placed_of}
use Rattle.hy_session.proofs.Session.end.Goals as goal

pub returns-clause-after : goal.returns-clause-after
returns-clause-after c =
    let session = c.args.self.now in
    let now = c.in-Some.now in
    let label = c.label-label.result in
    let wrote = c.places_by_phase.result in
    let placed = c.count_placed_each-placed.result in
    let done = c.push_reserved.new.self.items in
    let opened : session.now ≡ Some now = ap (λ (s : SessionData). s.now) (sym c.self.view_is) ∙ sym c.in-Some.ensures.value in
    let labelled : label ≡ label_of session = c.label-label.ensures ∙ ap label_of c.self.view_is in
    let wrote_is : wrote ≡ (if is_stamping now.phase then now.wrote else c.args.places) =
    c.places_by_phase.ensures ∙ ap (λ (v : Open). if is_stamping v.phase then v.wrote else c.args.places) c.now.view_is in
    let counted : List Bound → List (Option ℕ) → ℕ → List ℕ =
    λ statements took tables. map (λ table. placed_in table statements took) (range_with_len 0 tables) in
    let placed_is : placed ≡ placed_of session now =
    c.count_placed_each-placed.ensures
    ∙ (ap (λ (all : List Bound). counted all c.as_slice.result.now c.len-tables.result)
    (c.statements.ensures ∙ ap (λ (s : SessionData). statements_in (txn_at s)) c.self.view_is)
    ∙ (ap (λ (took : List (Option ℕ)). counted (statements_in (txn_at session)) took c.len-tables.result)
    (c.as_slice.ensures.value ∙ ap (λ (v : Open). v.took) c.now.view_is)
    ∙ ap (counted (statements_in (txn_at session)) now.took) (c.len-tables.ensures ∙ ap (λ (s : SessionData). length s.shapes) c.self.view_is))) in
    let put : done ≡ session.done ++ outcome_by now c.args.ending label wrote placed ∷ [] =
    c.push_reserved.ensures.items
    ∙ (ap (λ (replies : List Reply). c.self.inside.done.items ++ record {
      label = label;
      start = c.now.inside.prefix;
      replies = replies;
      ending = c.args.ending;
      wrote = wrote;
      placed = placed;
    } ∷ []) c.from_vec.ensures
    ∙ (ap (λ (v : Open). c.self.inside.done.items ++ outcome_by v c.args.ending label wrote placed ∷ []) c.now.view_is
    ∙ ap (λ (s : SessionData). s.done ++ outcome_by now c.args.ending label wrote placed ∷ []) c.self.view_is)) in
    ap (λ (s : SessionData). record s { done = done; now = c.take.new.self }) c.self.view_is
    ∙ (ap (λ (open_one : Option Open). record session { done = done; now = open_one }) c.take.ensures.after
    ∙ ended_by session now c.args.ending label c.args.places wrote placed done opened labelled (c.requires.places now opened) wrote_is placed_is put)
