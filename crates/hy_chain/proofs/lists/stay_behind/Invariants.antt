use Rattle.std.proofs.Common.{◌≡◌, ◌-◌, Some}
use Rattle.hy_chain.specs.Links.{walk}
use Rattle.hy_chain.specs.Settling.{stays_whole}
use Rattle.hy_chain.proofs.lists.stay_behind.Given as goal

-- whether what lies from here on stays whole is whether all does
abbrev pub invariant-loop-passed : goal.invariant-loop-passed
invariant-loop-passed g l =
    stays_whole l.cover (Some l.kept) (walk l.nodes (l._passed-end - l._passed) l.key)
    ≡ stays_whole l.cover (Some l.newer) (walk l.nodes l.fn.head.len l.fn.head.key)
