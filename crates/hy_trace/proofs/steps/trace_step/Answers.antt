use Rattle.std.proofs.Common.{◌≡◌, ◌++◌, subst}
use Rattle.std.specs.Fmt.{decimal}
use Rattle.hy_render.specs.Report.{word}
use Rattle.hy_trace.specs.Trace.{at_words}
use Rattle.hy_trace.specs.declared.standing.At.{At}
use Rattle.hy_trace.proofs.Written.{step_written}
use Rattle.hy_trace.proofs.steps.trace_step.Goals as goal

pub returns : goal.returns
returns c =
    let printed = subst (λ (at : At). c.print_standing.new.out.items
    ≡ c.args.out.now.items ++ (word (decimal c.in_ok-next.next) ++ word (at_words c.args.names.now at))) c.stands-at.ensures c.in_ok-print_standing.ensures in
    step_written c.sessions_stand.ensures c.sessions_tell.ensures c.reached_states_are_kept.ensures c.args.names.now c.args.number c.in_ok-stepped.stepped
    c.args.world.now c.step.new.self c.args.count.now c.in_ok-next.next c.args.out.now.items c.print_standing.new.out.items c.print_told.new.out.items
    c.in_ok-stepped.ensures.step c.in_ok-next.ensures printed c.in_ok-print_told.ensures
