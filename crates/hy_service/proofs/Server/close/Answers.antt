use Rattle.std.proofs.Common.{◌≡◌, ◌++◌, subst}
use Rattle.hy_render.specs.Report.{final_text}
use Rattle.hy_service.specs.Knowing.{ServerData}
use Rattle.hy_service.proofs.Closing.{can_open, closed_outcome, closed_text, has_closed}
use Rattle.hy_service.proofs.Server.close.Goals as goal

pub take_world-requires : goal.take_world-requires
take_world-requires c = can_open c.services_are_sound.ensures c.requires.0 c.args.self.now c.requires.1

pub returns-clause-outcome : goal.returns-clause-outcome
returns-clause-outcome c = λ lines knows.
    let laws = c.open_ones_are_dropped.ensures in
    closed_outcome c.services_are_sound.ensures c.ends_are_the_machines.ensures laws.all laws.ends laws.runs lines c.args.self.now _ _ _ _ knows
    (has_closed c.services_are_sound.ensures lines c.args.self.now c.take_world.new.self c.in_ok-world.world c.drop_open_ones.new.world _ _ _ knows
    c.take_world.ensures.same.0 c.in_ok-world.ensures.knows c.in_ok-drop_open_ones.ensures c.in_ok-outcome.ensures.tells)

pub returns-clause-told : goal.returns-clause-told
returns-clause-told c = λ lines knows.
    let laws = c.open_ones_are_dropped.ensures in
    let closed = has_closed c.services_are_sound.ensures lines c.args.self.now c.take_world.new.self c.in_ok-world.world c.drop_open_ones.new.world
    _ _ c.in_ok-outcome.outcome knows c.take_world.ensures.same.0 c.in_ok-world.ensures.knows c.in_ok-drop_open_ones.ensures c.in_ok-outcome.ensures.tells in
    closed_text lines c.args.self.now _ _ _ _ c.in_ok-outcome.outcome closed
    (closed_outcome c.services_are_sound.ensures c.ends_are_the_machines.ensures laws.all laws.ends laws.runs lines c.args.self.now _ _ _ _ knows closed)
    (subst (λ (s : ServerData). c.print_final.new.out.items ≡ c.drop_open_ones.new.out.items ++ final_text s.names c.in_ok-outcome.outcome)
    c.self.view_is c.in_ok-print_final.ensures.ok)
