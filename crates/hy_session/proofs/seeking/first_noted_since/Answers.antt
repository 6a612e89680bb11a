use Rattle.std.proofs.Common.{◌≡◌, List, [], None, Some, map, sym, ap, ◌∙◌}
use Rattle.std.specs.Prelude.{slice_get, slice_index_or}
use Rattle.std.specs.Option.{option_map}
use Rattle.std.specs.List.{prefix_len}
use Rattle.hy_value.specs.declared.change.Change.{Change}
use Rattle.hy_notes.specs.Notes.{below, place_of}
use Rattle.hy_render.specs.declared.Place.{Place}
use Rattle.hy_event.specs.declared.Open.{Open}
use Rattle.hy_session.specs.Savepoints.{noted_since}
use Rattle.hy_session.specs.Seeking.{of_table}
use Rattle.hy_session.proofs.NotedSeeks.{found_noted}
use Rattle.hy_session.proofs.OpenSavepoints.{level_is}
use Rattle.hy_session.proofs.seeking.first_noted_since.Goals as goal

pub returns-in_err-noted : goal.returns-in_err-noted
returns-in_err-noted c =
    let since : slice_index_or c.now.inside.notes.levels c.args.number [] ≡ noted_since c.args.now.now.saved c.args.number =
    sym (level_is c.now.inside.saved c.now.inside.notes.levels c.args.number c.now.invariant) ∙ ap (λ (v : Open). noted_since v.saved c.args.number) c.now.view_is in
    c.from_residual.ensures
    ∙ found_noted c.args.table c.args.from (noted_since c.args.now.now.saved c.args.number) None c.requires
    (sym c.in_err-noted.was ∙ (c.first_since.ensures
    ∙ ap (λ (notes : List Change). option_map place_of (slice_get notes (prefix_len (below c.args.table c.args.from) notes))) since))

pub returns : goal.returns
returns c =
    let since : slice_index_or c.now.inside.notes.levels c.args.number [] ≡ noted_since c.args.now.now.saved c.args.number =
    sym (level_is c.now.inside.saved c.now.inside.notes.levels c.args.number c.now.invariant) ∙ ap (λ (v : Open). noted_since v.saved c.args.number) c.now.view_is in
    c.position_in.ensures
    ∙ (ap (λ (place : Place). of_table c.args.table (Some place)) c.place_of.ensures
    ∙ found_noted c.args.table c.args.from (noted_since c.args.now.now.saved c.args.number) (Some c.in_ok-noted.noted) c.requires
    (sym c.in_ok-noted.was ∙ (c.first_since.ensures
    ∙ ap (λ (notes : List Change). option_map place_of (slice_get notes (prefix_len (below c.args.table c.args.from) notes))) since)))
