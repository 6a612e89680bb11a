use Rattle.std.proofs.Common.{◌≡◌, ◌-◌, ◌^◌, ◌<◌, take}
use Rattle.std.specs.Prelude.{IfSome}
use Rattle.hy_bound.specs.Savepoints.{newest}
use Rattle.hy_bound.proofs.savepoints.newest_savepoint.Given as goal

-- the newest so far
abbrev pub invariant-loop-number : goal.invariant-loop-number
invariant-loop-number l = (l.found ≡ newest l.name (take l.number l.savepoints)) × IfSome l.found (λ number. number < 2 ^ 64 - 1)
