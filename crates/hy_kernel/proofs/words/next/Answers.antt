use Rattle.std.proofs.Common.{arith}
use Rattle.hy_kernel.proofs.Lowest.{within_bits}
use Rattle.hy_kernel.proofs.words.next.Goals as goal

pub returns-in-Some-clause-within : goal.returns-in-Some-clause-within
returns-in-Some-clause-within c =
    let less = within_bits c.args.words.now c.args.bits c.loop-k.k c.loop-k.skipped c.in-Some.bit c.requires.lies c.in-Some.ensures.found in
    omega (arith, less)
