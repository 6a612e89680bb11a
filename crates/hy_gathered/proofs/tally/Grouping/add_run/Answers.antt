use Rattle.std.proofs.Common.{◌≡◌, ◌<◌, List, [], length, get_or, ap, ◌∙◌, sym, arith, rules, to_z, of_z, ℤ}
use mir.Syntax.{w128}
use Rattle.hy_value.specs.declared.Value.{Value}
use Rattle.hy_gathered.specs.Groups.{groups_by}
use Rattle.hy_gathered.specs.Tally.{Tallied, with_amount}
use Rattle.hy_gathered.proofs.RowGroups.{row_counted}
use Rattle.hy_gathered.proofs.Shared.{run_none}
use Rattle.hy_gathered.proofs.Summed.{value_is}
use Rattle.hy_gathered.proofs.tally.Grouping.add_run.Goals as goal

pub loop-index-init : goal.loop-index-init
loop-index-init c = record {
  order = omega arith;
  rows = omega arith;
  groups = λ rows is. is ∙ ap (groups_by c.args.self) (sym (run_none c.args.from rows c.args.piece.now.rows));
}

pub loop-index-preserved : goal.loop-index-preserved
loop-index-preserved c =
    let grouping = c.args.self in
    let piece = c.args.piece.now.rows in
    let index = c.loop-index.index in
    let row : List Value = get_or piece index [] in
    let key = c.new-key.result in
    let keyed =
    value_is key grouping.columns grouping.width grouping.key row c.new-key.ensures.columns c.new-key.ensures.width c.new-key.ensures.column in
    let amount : ℤ = c.in_ok-amount.amount in
    let same : to_z w128 (of_z w128 amount) ≡ amount = search rules in
    let added = c.in_ok-add.ensures.ok in
    let rows = ap (λ (t : Tallied). t.rows) added in
    let groups = ap (λ (t : Tallied). t.groups) added ∙ ap (with_amount c.loop-index.tally.groups c.in_ok-value.value) same in
    let below : index < length piece = omega (arith, c.loop-index-test.true, c.requires.run) in
    record {
      order = omega (arith, c.loop-index.invariant.order);
      rows = omega (arith, rows, c.loop-index.invariant.rows, c.loop-index.invariant.order);
      groups = λ others is.
          row_counted grouping others piece c.args.from index c.in_ok-value.value amount c.loop-index.tally.groups c.add.new.self.groups
          c.loop-index.invariant.order below (c.loop-index.invariant.groups others is)
          (c.in_ok-value.ensures ∙ keyed)
          (c.in_ok-amount.ensures.value ∙ c.summed-summed.ensures row) groups;
    }
