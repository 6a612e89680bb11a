use Rattle.std.proofs.Common.{◌≡◌, ◌<◌, List, length, get_or, sym, ap, ◌∙◌, arith}
use Rattle.std.proofs.Math.ListN.{set}
use Rattle.std.proofs.lemmas.List.{length-set}
use Rattle.hy_value.specs.Refs.{referred}
use Rattle.hy_value.specs.declared.Value.{Value}
use Rattle.hy_chunk.proofs.Over.{over_more, over_all}
use Rattle.hy_chunk.proofs.writes.copy_kept.Goals as goal

pub refer-requires : goal.refer-requires
refer-requires c = omega (arith, c.loop-column-test.true, c.len-column-end.ensures)

pub loop-column-preserved : goal.loop-column-preserved
loop-column-preserved c =
    let row = c.args.row.now in
    let k = c.loop-column.column in
    let x = referred c.refer.result in
    let less : k < length row = omega (arith, c.loop-column-test.true, c.len-column-end.ensures) in
    let at : x ≡ get_or row k x = c.refer.ensures x in
    record {
      next = c.set.ensures
          ∙ (ap (λ (xs : List Value). set xs k x) c.loop-column.invariant.next ∙ over_more k row c.args.next.now x less (sym c.requires) at);
      size = ap (λ (xs : List Value). length xs) c.set.ensures ∙ (length-set c.loop-column.next k x ∙ c.loop-column.invariant.size);
    }

pub returns : goal.returns
returns c =
    c.loop-column.invariant.next
    ∙ over_all c.loop-column.column c.args.row.now c.args.next.now (sym c.requires) (omega (arith, c.loop-column-test.false, c.len-column-end.ensures))
