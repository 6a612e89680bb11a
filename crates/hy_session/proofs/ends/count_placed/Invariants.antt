use Rattle.std.proofs.Common.{◌≡◌, ◌+◌, ◌≤◌, drop}
use Rattle.hy_event.specs.Ended.{placed_in}
use Rattle.hy_session.proofs.ends.count_placed.Given as goal

abbrev pub invariant-loop-i : goal.invariant-loop-i
invariant-loop-i l = record {
  counted : l.count + placed_in l.table (drop l.i l.statements) (drop l.i l.took) ≡ placed_in l.table l.statements l.took;
  few : l.count ≤ l.i;
}
