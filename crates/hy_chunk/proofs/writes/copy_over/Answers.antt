use Rattle.std.proofs.Common.{◌<◌, List, length, sym, ap, ◌∙◌, arith}
use Rattle.std.proofs.Math.ListN.{set}
use Rattle.std.proofs.lemmas.List.{length-set}
use Rattle.hy_value.specs.Refs.{referred}
use Rattle.hy_value.specs.declared.Value.{Value}
use Rattle.hy_chunk.proofs.Over.{over_more, over_all, copied_at}
use Rattle.hy_chunk.proofs.writes.copy_over.Goals as goal

pub loop-column-preserved : goal.loop-column-preserved
loop-column-preserved c =
    let row = c.args.row.now in
    let k = c.loop-column.column in
    let x = referred c.refer.result in
    let less : k < length row = omega (arith, c.loop-column-test.true, c.len-column-end.ensures) in
    let at = copied_at c.as_slice.result.now row k c.index-as_slice-column.result x c.refer.ensures c.index-as_slice-column.is c.as_slice.ensures less in
    record {
      next = c.set.ensures
          ∙ (ap (λ (xs : List Value). set xs k x) c.loop-column.invariant.next ∙ over_more k row c.args.next.now x less (sym c.requires) at);
      size = ap (λ (xs : List Value). length xs) c.set.ensures ∙ (length-set c.loop-column.next k x ∙ c.loop-column.invariant.size);
    }

pub returns : goal.returns
returns c =
    c.loop-column.invariant.next
    ∙ over_all c.loop-column.column c.args.row.now c.args.next.now (sym c.requires) (omega (arith, c.loop-column-test.false, c.len-column-end.ensures))
