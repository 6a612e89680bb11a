use Rattle.std.proofs.Common.{arith}
use Rattle.hy_bound.proofs.savepoints.keep_open.Goals as goal

pub overflow_add-number : goal.overflow_add-number
overflow_add-number c = let less = c.in-Some.ensures.within in omega (arith, less)
