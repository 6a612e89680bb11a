use Rattle.std.proofs.Common.{None, Some, ◌∙◌, ap, sym}
use Rattle.hy_render.specs.declared.Place.{Place}
use Rattle.hy_session.specs.Seeking.{of_table}
use Rattle.hy_session.proofs.NotedSeeks.{found_noted}
use Rattle.hy_session.proofs.seeking.first_noted.Goals as goal

pub returns-in_err-noted : goal.returns-in_err-noted
returns-in_err-noted c =
    c.from_residual.ensures
    ∙ found_noted c.args.table c.args.from c.args.notes.now.notes None c.requires (sym c.in_err-noted.was ∙ c.first_from.ensures)

pub returns : goal.returns
returns c =
    c.position_in.ensures
    ∙ (ap (λ (place : Place). of_table c.args.table (Some place)) c.place_of.ensures
    ∙ found_noted c.args.table c.args.from c.args.notes.now.notes (Some c.in_ok-noted.noted) c.requires (sym c.in_ok-noted.was ∙ c.first_from.ensures))
