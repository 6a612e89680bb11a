use Rattle.std.proofs.Common.{◌≡◌, ◌≤◌, length}
use Rattle.hy_outside.specs.Telling.{Gives}
use Rattle.hy_outside.proofs.read_all.Given as goal

abbrev pub invariant-turns : goal.invariant-turns
invariant-turns g l = record {
  advanced : l.counter ≤ length l.bytes.items;
  within : length l.bytes.items ≤ l.limit;
  given : Gives (g.R.Source.rest l.fn.source) (g.R.Source.rest l.source) l.bytes.items;
  steady : g.R.Source.faults l.source ≡ g.R.Source.faults l.fn.source;
}
