use Rattle.std.proofs.Common.{◌∙◌, refl, sym, subst}
use Rattle.hy_world.proofs.Logs.{logs_then, nothing_done, ok_is_no_error}
use Rattle.hy_world.proofs.RunsLeft.{Ahead, if_err}
use Rattle.hy_world.proofs.Loops.{round_left, a_round, round_ahead, round_goes_on, round_breaks_off}
use Rattle.hy_world.proofs.world.World.run_round.Goals as goal

pub loop-number-init : goal.loop-number-init
loop-number-init g c = record {
  ahead = subst (λ n. Ahead (round_left n 0) a_round c.args.self.now c.args.self.now) (sym c.session_count-number-end.ensures)
      (round_ahead c.args.self.now c.reached_states_are_kept.ensures);
  kept = c.requires.kept;
  stays = refl;
  logs = nothing_done g.D.Disk.clock g.D.Disk.image_since _ _;
  steady = refl;
}

pub returns-in_err-step_whole-clause-under_way : goal.returns-in_err-step_whole-clause-under_way
returns-in_err-step_whole-clause-under_way g c =
    if_err c.from_residual.result _
    (round_breaks_off c.session_count-number-end.result c.loop-number.number c.args.self.now c.loop-number.self c.step_whole.new.self
    c.loop-number-test.true c.loop-number.invariant.ahead c.in_err-step_whole.ensures.under_way)

pub returns-in_err-step_whole-clause-logs : goal.returns-in_err-step_whole-clause-logs
returns-in_err-step_whole-clause-logs g c =
    logs_then g.D.Disk.clock g.D.Disk.image_since _ _ _ _ _ _ c.loop-number.invariant.logs c.step_whole.ensures.logs

pub loop-number-preserved : goal.loop-number-preserved
loop-number-preserved g c = record {
  ahead = round_goes_on c.session_count-number-end.result c.loop-number.number c.args.self.now c.loop-number.self c.step_whole.new.self
      c.loop-number-test.true c.loop-number.invariant.ahead c.in_ok-step_whole.ensures.follows;
  kept = c.in_ok-step_whole.ensures.kept;
  stays = c.in_ok-step_whole.ensures.stays ∙ c.loop-number.invariant.stays;
  logs = logs_then g.D.Disk.clock g.D.Disk.image_since _ _ _ _ _ _ c.loop-number.invariant.logs c.step_whole.ensures.logs;
  steady = c.in_ok-step_whole.ensures.steady (ok_is_no_error _ _) ∙ c.loop-number.invariant.steady;
}
