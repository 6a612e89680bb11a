use Rattle.hy_service.specs.Knowing.{KnowsSessions}
use Rattle.hy_service.specs.Service.{Service}
use Rattle.hy_service.specs.Sound.{IsSound}
use Rattle.hy_service.proofs.Dropping.{HasDropped}
use Rattle.hy_service.proofs.Server.drop_open_ones.Given as goal

-- of each service that the server knows, the sessions before this one are dropped
abbrev pub invariant-loop-number : goal.invariant-loop-number
invariant-loop-number l = (service : Service) → IsSound l.self.options service → KnowsSessions l.self.options service l.self.desk l.self.names l.fn.world
    → HasDropped l.self.options service l.number l.world l.fn.out.items l.out.items
