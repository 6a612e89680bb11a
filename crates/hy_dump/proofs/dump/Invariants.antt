use Rattle.std.proofs.Common.{◌≡◌, ◌++◌, drop}
use Rattle.hy_dump.specs.Dump.{dump, dump_from}
use Rattle.hy_dump.proofs.dump.Given as goal

-- what stands there and what is left give the whole
abbrev pub invariant-loop-number : goal.invariant-loop-number
invariant-loop-number l =
    l.out.items ++ dump_from l.tables l.number (drop l.number l.catalog) ≡ l.fn.out.items ++ dump l.catalog l.tables
