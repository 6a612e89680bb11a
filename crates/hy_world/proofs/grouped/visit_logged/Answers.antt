use Rattle.std.proofs.Common.{subst, sym}
use Rattle.hy_threads.specs.Visits.{Visits}
use Rattle.hy_threads.specs.declared.worked.Visited.{Visited}
use Rattle.hy_world.specs.declared.grouped.LoggedPart.{LoggedPart}
use Rattle.hy_world.specs.Grouped.{HasToWaitLogged, IsLoggedVisit, MayVisitLogged}
use Rattle.hy_world.proofs.GroupedVisits.{chunk_part, chunk_told, with_session}
use Rattle.hy_world.proofs.grouped.visit_logged.Goals as goal

pub returns-in_ok-visit_part-in-Chunk-clause-visited : goal.returns-in_ok-visit_part-in-Chunk-clause-visited
returns-in_ok-visit_part-in-Chunk-clause-visited g c =
    let d = g.D.Disk in
    let s = c.args.session.now in
    let after = c.visit_part.new.session in
    let new = c.visit_part.new.part in
    let may = subst (MayVisitLogged d.image s) c.in-Chunk.is c.requires.may in
    subst (λ (p : LoggedPart _). Visits (IsLoggedVisit d.clock d.image d.image_since d.faults c.args.number) HasToWaitLogged c.to_visited.result s p
    (with_session s after) (chunk_part new)) (sym c.in-Chunk.is)
    (subst (λ (visited : Visited). Visits (IsLoggedVisit d.clock d.image d.image_since d.faults c.args.number) HasToWaitLogged visited s
    (chunk_part c.in-Chunk.part) (with_session s after) (chunk_part new)) (sym c.to_visited.ensures)
    (chunk_told d.clock d.image d.image_since d.faults c.args.number s c.in-Chunk.part new c.in_ok-visit_part-in-Chunk.field-0 after may.0 may.1
    c.requires.needed c.in_ok-visit_part-in-Chunk.ensures.visit c.visit_part.ensures.types))
