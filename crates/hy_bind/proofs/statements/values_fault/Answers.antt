use Rattle.std.proofs.Common.{◌+◌, drop, ap, sym, ◌∙◌, arith}
use Rattle.hy_bind.specs.Refusals.{first_of}
use Rattle.hy_bind.specs.Statements.{values_fault}
use Rattle.hy_bind.proofs.Firsts.{first_more}
use Rattle.hy_bind.proofs.Fitting.{values_next, values_left}
use Rattle.hy_bind.proofs.statements.values_fault.Goals as goal

pub loop-i-preserved : goal.loop-i-preserved
loop-i-preserved c =
    let script = c.args.script.now in
    let columns = c.args.columns.now in
    let values = c.args.values.now in
    let i = c.loop-i.i in
    let found = c.in-Some.ensures.lookup in
    let next = values_next script columns values i c.index-columns-i.result c.in-Some.value.now (omega arith) c.index-columns-i.is (found.3).0 found.1 in
    let rest = values_fault script (drop (i + 1) columns) (drop (i + 1) values) in
    let e = first_more c.loop-i.fault c.value_fault.result rest (values_fault script (drop i columns) (drop i values)) (values_fault script columns values)
    (next ∙ ap (λ one. first_of one rest) (sym c.value_fault.ensures)) c.loop-i.invariant in
    cc

pub returns : goal.returns
returns c =
    let left = values_left c.args.script.now c.args.columns.now c.args.values.now c.loop-i.i (omega arith) in
    let h = c.loop-i.invariant in
    cc
