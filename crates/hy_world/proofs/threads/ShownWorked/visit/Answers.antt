use Rattle.std.proofs.Common.{subst, sym}
use Rattle.hy_threads.specs.Visits.{Visits}
use Rattle.hy_threads.specs.declared.worked.Visited.{Visited}
use Rattle.hy_world.specs.Shared.{HasToWait, IsVisit}
use Rattle.hy_world.proofs.VisitsLeave.{visit_told, numbered}
use Rattle.hy_world.proofs.threads.ShownWorked.visit.Goals as goal

pub returns-clause-visited : goal.returns-clause-visited
returns-clause-visited g c =
    let session = c.args.session.now in
    let part = c.args.part.now in
    let after = c.visit_part.new.session in
    let new = c.visit_part.new.part in
    subst (λ (visited : Visited). Visits (IsVisit c.args.number) HasToWait visited session part after new) (sym c.to_visited.ensures)
    (visit_told c.args.number session part c.in_ok-visit_part.field-0 after new (numbered session c.args.number c.requires.need)
    c.in_ok-visit_part.ensures.visit c.visit_part.ensures.types)
