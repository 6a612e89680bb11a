use Rattle.std.proofs.Common.{◌≡◌, ◌∙◌, true, false, rules, tests}
use Rattle.hy_stepping.specs.Bounds.{most_turns}
use Rattle.hy_stepping.specs.Outcomes.{are_done}
use Rattle.hy_world.proofs.Logs.{logs_then, ok_is_no_error}
use Rattle.hy_world.proofs.RunsLeft.{if_err}
use Rattle.hy_world.proofs.Loops.{rounds_go_on, rounds_end, rounds_over, rounds_break_off}
use Rattle.hy_world.proofs.world.World.run_rounds.Goals as goal

pub returns-then-is_done-clause-follows : goal.returns-then-is_done-clause-follows
returns-then-is_done-clause-follows g c =
    let over : are_done c.loop-round.self.sessions ≡ true = first_of (cc, search (rules, tests)) in
    rounds_end c.ends_are_the_machines.ensures most_turns c.loop-round._round c.args.self.now c.loop-round.self over c.loop-round.invariant.ahead

pub returns-in_err-run_round-clause-under_way : goal.returns-in_err-run_round-clause-under_way
returns-in_err-run_round-clause-under_way g c =
    let left : are_done c.loop-round.self.sessions ≡ false = first_of (cc, search (rules, tests)) in
    if_err c.from_residual.result _
    (rounds_break_off c.ends_are_the_machines.ensures most_turns c.loop-round._round c.args.self.now c.loop-round.self c.run_round.new.self
    c.loop-round-test.true left c.loop-round.invariant.ahead c.in_err-run_round.ensures.under_way)

pub returns-in_err-run_round-clause-logs : goal.returns-in_err-run_round-clause-logs
returns-in_err-run_round-clause-logs g c =
    logs_then g.D.Disk.clock g.D.Disk.image_since _ _ _ _ _ _ c.loop-round.invariant.logs c.run_round.ensures.logs

pub loop-round-preserved : goal.loop-round-preserved
loop-round-preserved g c =
    let left : are_done c.loop-round.self.sessions ≡ false = first_of (cc, search (rules, tests)) in
    record {
      ahead = rounds_go_on c.ends_are_the_machines.ensures most_turns c.loop-round._round c.args.self.now c.loop-round.self c.run_round.new.self
          c.loop-round-test.true left c.loop-round.invariant.ahead c.in_ok-run_round.ensures.follows;
      kept = c.in_ok-run_round.ensures.kept;
      stays = c.in_ok-run_round.ensures.stays ∙ c.loop-round.invariant.stays;
      logs = logs_then g.D.Disk.clock g.D.Disk.image_since _ _ _ _ _ _ c.loop-round.invariant.logs c.run_round.ensures.logs;
      steady = c.in_ok-run_round.ensures.steady (ok_is_no_error _ _) ∙ c.loop-round.invariant.steady;
    }

pub returns-clause-follows : goal.returns-clause-follows
returns-clause-follows g c =
    rounds_over most_turns c.loop-round._round c.args.self.now c.loop-round.self c.loop-round-test.false c.loop-round.invariant.ahead
