use Rattle.std.proofs.Common.{◌≡◌, ◌∙◌, List, true, false, arith, rules, sym, subst, tests}
use Rattle.std.proofs.lemmas.Grind.{common_steps}
use Rattle.hy_journal.specs.declared.Entry.{Entry}
use Rattle.hy_machine.specs.Runs.{is_moved}
use Rattle.hy_world.specs.Logged.{IsKept, Logs}
use Rattle.hy_world.proofs.RunsLeft.{if_err}
use Rattle.hy_world.proofs.Loops.{whole_moves_on, whole_goes_on, whole_stops, whole_over, whole_breaks_off}
use Rattle.hy_world.proofs.Logs.{logs_then, ok_is_no_error}
use Rattle.hy_world.proofs.world.World.step_whole.Goals as goal

pub step_logged-requires : goal.step_logged-requires
step_logged-requires g c = record {
  kept = subst (λ (entries : List Entry). IsKept g.D.Disk.image entries c.loop-turn.log c.loop-turn.disk) (sym c.pass.ensures.entries) c.loop-turn.invariant.kept;
}

pub returns-in_err-stepped-clause-under_way : goal.returns-in_err-stepped-clause-under_way
returns-in_err-stepped-clause-under_way g c =
    if_err c.from_residual.result _
    (whole_breaks_off c.args.number c.loop-turn._turn c.args.self.now c.pass.new.self c.step_logged.new.self c.wholes_are_steps.ensures
    (whole_moves_on c.args.number c.loop-turn._turn c.args.self.now c.loop-turn.self c.pass.new.self c.wholes_are_steps.ensures c.loop-turn.invariant.on_way
    c.pass.ensures.moves)
    c.in_err-stepped.ensures.under_way)

pub returns-in_err-stepped-clause-logs : goal.returns-in_err-stepped-clause-logs
returns-in_err-stepped-clause-logs g c =
    logs_then g.D.Disk.clock g.D.Disk.image_since _ _ _ _ _ _ c.loop-turn.invariant.logs
    (subst (λ (entries : List Entry). Logs g.D.Disk.clock g.D.Disk.image_since entries c.step_logged.new.self.core.entries c.loop-turn.disk c.step_logged.new.disk)
    c.pass.ensures.entries c.step_logged.ensures.logs)

pub returns-in_err-stepped-clause-kinds : goal.returns-in_err-stepped-clause-kinds
returns-in_err-stepped-clause-kinds g c = c.in_err-stepped.ensures.kinds ∙ (c.pass.ensures.kinds ∙ c.loop-turn.invariant.kinds)

pub returns-then-not-has_moved-clause-kinds : goal.returns-then-not-has_moved-clause-kinds
returns-then-not-has_moved-clause-kinds g c = c.in_ok-stepped.ensures.kinds ∙ (c.pass.ensures.kinds ∙ c.loop-turn.invariant.kinds)

pub returns-clause-kinds : goal.returns-clause-kinds
returns-clause-kinds g c = c.loop-turn.invariant.kinds

pub returns-then-not-has_moved-clause-follows : goal.returns-then-not-has_moved-clause-follows
returns-then-not-has_moved-clause-follows g c =
    let stopped : is_moved c.in_ok-stepped.stepped ≡ false = first_of (cc, grind (arith, common_steps), search (rules, tests)) in
    whole_stops c.args.number c.loop-turn._turn c.in_ok-stepped.stepped c.args.self.now c.pass.new.self c.step_logged.new.self c.wholes_are_steps.ensures
    stopped
    (whole_moves_on c.args.number c.loop-turn._turn c.args.self.now c.loop-turn.self c.pass.new.self c.wholes_are_steps.ensures c.loop-turn.invariant.on_way
    c.pass.ensures.moves)
    c.in_ok-stepped.ensures.step

pub returns-then-not-has_moved-clause-logs : goal.returns-then-not-has_moved-clause-logs
returns-then-not-has_moved-clause-logs g c =
    logs_then g.D.Disk.clock g.D.Disk.image_since _ _ _ _ _ _ c.loop-turn.invariant.logs
    (subst (λ (entries : List Entry). Logs g.D.Disk.clock g.D.Disk.image_since entries c.step_logged.new.self.core.entries c.loop-turn.disk c.step_logged.new.disk)
    c.pass.ensures.entries c.step_logged.ensures.logs)

pub loop-turn-preserved : goal.loop-turn-preserved
loop-turn-preserved g c =
    let moved : is_moved c.in_ok-stepped.stepped ≡ true = first_of (cc, grind (arith, common_steps), search (rules, tests)) in
    record {
      on_way = whole_goes_on c.args.number c.loop-turn._turn c.in_ok-stepped.stepped c.args.self.now c.pass.new.self c.step_logged.new.self
          c.wholes_are_steps.ensures moved
          (whole_moves_on c.args.number c.loop-turn._turn c.args.self.now c.loop-turn.self c.pass.new.self c.wholes_are_steps.ensures
          c.loop-turn.invariant.on_way c.pass.ensures.moves)
          c.in_ok-stepped.ensures.step;
      kinds = c.in_ok-stepped.ensures.kinds ∙ (c.pass.ensures.kinds ∙ c.loop-turn.invariant.kinds);
      kept = c.in_ok-stepped.ensures.kept;
      stays = c.in_ok-stepped.ensures.stays ∙ c.loop-turn.invariant.stays;
      logs = logs_then g.D.Disk.clock g.D.Disk.image_since _ _ _ _ _ _ c.loop-turn.invariant.logs
          (subst (λ (entries : List Entry). Logs g.D.Disk.clock g.D.Disk.image_since entries c.step_logged.new.self.core.entries c.loop-turn.disk c.step_logged.new.disk)
          c.pass.ensures.entries c.step_logged.ensures.logs);
      steady = c.in_ok-stepped.ensures.steady (ok_is_no_error _ _) ∙ c.loop-turn.invariant.steady;
    }

pub returns-clause-follows : goal.returns-clause-follows
returns-clause-follows g c =
    whole_over c.args.number c.loop-turn._turn c.args.self.now c.loop-turn.self c.loop-turn-test.false c.loop-turn.invariant.on_way
