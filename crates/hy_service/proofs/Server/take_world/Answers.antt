use Rattle.hy_service.specs.Knowing.{ServerData}
use Rattle.hy_service.proofs.OpenedWorlds.{knows_if_seen}
use Rattle.hy_service.proofs.Server.take_world.Goals as goal

pub returns-in-None-clause-knows : goal.returns-in-None-clause-knows
returns-in-None-clause-knows c = λ service unused knows.
    let s = c.self.inside in
    let old : ServerData = record { options = s.options; prunes = s.prunes; desk = s.desk; names = s.names; world = s.world; log = s.log } in
    knows_if_seen c.open.result service old c.args.self.now c.open.new.self c.take.new.self c.self.view_is unused c.in-None.ensures.value knows
    c.open.ensures.shows c.open.ensures.kinds c.open.ensures.opened
