use Rattle.std.proofs.Common.{length, sym, subst, Err}
use Rattle.hy_script.specs.Reading.{Says}
use Rattle.hy_script.proofs.Runs.{went_on, within, ended, halted}
use Rattle.hy_script.proofs.statements.Goals as goal

pub loop-end-preserved : goal.loop-end-preserved
loop-end-preserved c = record {
  within = (within c.loop-end.at (length c.args.script.now) c.in-Ok-GoOn.end c.in-Ok-GoOn.field-0 c.in-Ok-GoOn.field-0-is c.in-Ok-GoOn.ensures.goes).1;
  whole = went_on c.args.script.now c.args.options.now c.loop-end.sofar c.step.new.self c.loop-end.at c.in-Ok-GoOn.end c.in-Ok-GoOn.field-0 c.in-Ok-GoOn.field-0-is c.loop-end.invariant.whole c.in-Ok-GoOn.ensures.comes;
}

pub returns-in-Ok-End : goal.returns-in-Ok-End
returns-in-Ok-End c = ended c.args.script.now c.args.options.now c.loop-end.sofar c.step.new.self c.loop-end.at c.in_ok-into_script-in-Ok-End.field-0 c.in-Ok-End.field-0 c.in-Ok-End.field-0-is c.loop-end.invariant.whole c.in-Ok-End.ensures.comes c.in_ok-into_script-in-Ok-End.ensures

pub returns-in-Err : goal.returns-in-Err
returns-in-Err c =
    subst (λ error. Says (Err error) c.args.script.now c.args.options.now) (sym c.error_of.ensures)
    (halted c.args.script.now c.args.options.now c.loop-end.sofar c.step.new.self c.loop-end.at c.in-Err.halt c.loop-end.invariant.whole c.in-Err.ensures.comes)
