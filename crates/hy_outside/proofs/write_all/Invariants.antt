use Rattle.std.proofs.Common.{◌≡◌, ◌≤◌, length, take}
use Rattle.hy_outside.specs.Telling.{Takes}
use Rattle.hy_outside.proofs.write_all.Given as goal

abbrev pub invariant-turns : goal.invariant-turns
invariant-turns g l = record {
  advanced : l.counter ≤ l.done;
  within : l.done ≤ length l.bytes;
  taken : Takes (g.W.Sink.written l.fn.sink) (g.W.Sink.written l.sink) (take l.done l.bytes);
  steady : g.W.Sink.faults l.sink ≡ g.W.Sink.faults l.fn.sink;
}
