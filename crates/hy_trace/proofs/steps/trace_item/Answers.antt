use Rattle.std.proofs.Common.{◌≡◌, true, false, Result, Ok, Err, rules, tests}
use Rattle.std.specs.Prelude.{OnOk}
use Rattle.hy_trace.proofs.Loops.{whole_item, single_item}
use Rattle.hy_trace.proofs.steps.trace_item.Goals as goal

on_ok : {T E : Type 0} (r : Result T E) (P Q : Type 0) → (P → Q) → OnOk r P → OnOk r Q
on_ok (Ok x) P Q f h = f h
on_ok (Err e) P Q f h = tt

pub returns-then-item : goal.returns-then-item
returns-then-item c =
    let whole : c.args.item.whole ≡ true = first_of (cc, search (rules, tests)) in
    on_ok c.trace_whole.result _ _
    (whole_item c.args.names.now c.args.item c.args.world.now c.trace_whole.new.world (c.args.count.now, c.args.out.now.items)
    (c.trace_whole.new.count, c.trace_whole.new.out.items) whole) c.trace_whole.ensures

pub returns : goal.returns
returns c =
    let single : c.args.item.whole ≡ false = first_of (cc, search (rules, tests)) in
    single_item c.args.names.now c.args.item c.in_ok-trace_step.field-0 c.args.world.now c.trace_step.new.world (c.args.count.now, c.args.out.now.items)
    (c.trace_step.new.count, c.trace_step.new.out.items) single c.in_ok-trace_step.ensures
