use Rattle.std.proofs.Common.{◌≤◌, ◌-◌, length}
use Rattle.hy_script.proofs.Runs.{ReadsOn}
use Rattle.hy_script.proofs.statements.Given as goal

abbrev pub decreases-loop-end : goal.decreases-loop-end
decreases-loop-end l = length l.script - l.at

abbrev pub invariant-loop-end : goal.invariant-loop-end
invariant-loop-end l = record {
  within : l.at ≤ length l.script;
  whole : ReadsOn l.script l.options l.sofar l.at;
}
