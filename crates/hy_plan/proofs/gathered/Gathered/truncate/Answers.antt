use Rattle.hy_plan.proofs.Firsts.{seen_less, seen_all}
use Rattle.hy_plan.proofs.gathered.Gathered.truncate.Goals as goal

pub returns-then-len-self : goal.returns-then-len-self
returns-then-len-self c = seen_less c.args.len c.self.inside.len c.self.inside.columns.items c.args.self.now c.if-len-self.true c.self.view_is

pub returns-else-len-self : goal.returns-else-len-self
returns-else-len-self c = seen_all c.args.len c.self.inside.len c.self.inside.columns.items c.args.self.now c.if-len-self.false c.self.view_is
