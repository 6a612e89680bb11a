use Rattle.std.proofs.Common.{arith}
use Rattle.hy_machine.specs.declared.Setting.{Setting}
use Rattle.hy_machine.specs.States.{State}
use Rattle.hy_machine.specs.Runs.{IsReached, RunsEnd}
use Rattle.hy_machine.specs.Measures.{measure_of}
use Rattle.hy_machine.specs.Kept.{Kept}
use Rattle.hy_lawful.specs.Kept.{ReachedAreKept}
use Rattle.hy_stepping.specs.Bounds.{BoundsAreEnough, most_turns}
use Rattle.hy_stepping.specs.Runnable.{IsRunnable}
use Rattle.hy_stepping.proofs.EnoughSteps.{repeated_same, rounds_end}
use Rattle.hy_stepping.proofs.Measures.{first_of_shapes, session_few, measure_few}
use Rattle.hy_stepping.proofs.bounds_are_enough.Goals as goal

enough : RunsEnd → ReachedAreKept → BoundsAreEnough
enough ends are_kept = record {
  steps = λ setting state number runnable reached.
      let left = session_few setting state number runnable (kept setting state runnable reached) in
      omega (arith, left);
  rounds = λ setting state runnable reached.
      let left = measure_few setting state runnable (kept setting state runnable reached) in
      repeated_same (measure_of setting state) most_turns setting state (omega (arith, left)) (rounds_end ends setting state reached);
}
  where
    kept : (setting : Setting) (state : State) → IsRunnable setting → IsReached setting state → Kept setting state
    kept setting state runnable reached = are_kept setting state (first_of_shapes setting runnable) reached

pub returns : goal.returns
returns c = enough c.runs_are_steps.ensures.ends c.reached_states_are_kept.ensures
