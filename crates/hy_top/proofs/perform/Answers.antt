use Rattle.std.proofs.Common.{Some, ap}
use Rattle.hy_top.proofs.ServingCalls.{serves_so}
use Rattle.hy_top.proofs.perform.Goals as goal

pub unreachable-requires : goal.unreachable-requires
unreachable-requires g c = serves_so _ _ _ _ (ap Some c.in-Serve.is) c.requires.script
