use Rattle.std.proofs.Common.{◌≡◌, ℕ, ◌<◌, ◌≤◌, length, arith, rules}
use Rattle.hy_explain.specs.Choosing.{is_chosen}
use Rattle.hy_explain.proofs.Names.{none_more, one_more}
use Rattle.hy_explain.proofs.words.put_names.Goals as goal

pub loop-number-preserved : goal.loop-number-preserved
loop-number-preserved c =
    let below : c.loop-number.number < length c.args.columns.now = search rules in
    one_more (is_chosen c.args.choice) c.args.columns.now c.loop-number.number c.index-columns-number.result _ c.loop-number.came c.has.result c.in_ok-came.came
    c.as_bytes.result.now c.loop-number.out.items c.put_name.new.out.items _ below c.index-columns-number.is c.has.ensures c.in_ok-came.ensures.came
    c.as_bytes.ensures.bytes c.in_ok-came.ensures.put c.loop-number.invariant

pub returns : goal.returns
returns c =
    let past : length c.args.columns.now ≤ c.loop-number.number = search rules in
    none_more (is_chosen c.args.choice) c.args.columns.now c.loop-number.number c.loop-number.came c.loop-number.out.items _ past c.loop-number.invariant
