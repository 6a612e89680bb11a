use Rattle.std.proofs.Common.{sym}
use Rattle.hy_world.proofs.WorldFields.{ended_steps}
use Rattle.hy_world.proofs.world.World.step.Goals as goal

pub returns-in-Done-clause-step : goal.returns-in-Done-clause-step
returns-in-Done-clause-step c = ended_steps c.ended_stay_as_they_are.ensures c.args.self.now c.args.number (sym c.in-Done.ensures)
