use Rattle.std.proofs.Common.{ap, ◌/◌}
use Rattle.std.proofs.Math.Nat.{mod-add-mod}
use Rattle.hy_gen.specs.Draws.{next_state, drawn}
use Rattle.hy_gen.proofs.draws.Draws.draw.Goals as goal

pub returns-clause-drawn : goal.returns-clause-drawn
unfolding drawn next_state
returns-clause-drawn c = ap (λ n. n / 4294967296) (mod-add-mod _ 18446744073709551616 1442695040888963407)

pub returns-clause-moved : goal.returns-clause-moved
unfolding next_state
returns-clause-moved c = mod-add-mod _ 18446744073709551616 1442695040888963407
