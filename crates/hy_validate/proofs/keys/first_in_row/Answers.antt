use Rattle.std.proofs.Common.{rules, ◌≡◌, ◌+◌, List, Option, Some, sym, arith, subst}
use Rattle.std.specs.Option.{option_copied}
use Rattle.hy_value.specs.declared.Value.{Value}
use Rattle.hy_value.specs.declared.Value.TheVariants.{Null}
use Rattle.hy_value.specs.Refs.{referred}
use Rattle.hy_bound.specs.Predicate.{column_of}
use Rattle.hy_validate.specs.Keys.{HasTrue}
use Rattle.hy_validate.specs.TreeHits.{is_hit_number, Finds, earlier_of}
use Rattle.hy_validate.proofs.Sought.{HasBelow, one_column_more, all_columns}
use Rattle.hy_validate.proofs.keys.first_in_row.Goals as goal

pub loop-column-preserved : goal.loop-column-preserved
loop-column-preserved c =
    let is_hit = is_hit_number c.args.records.now c.args.change.now in
    let table = c.args.change.now.table in
    let places = c.args.keyed.now.places.items in
    let row = c.in_ok-values.values.now in
    let value = referred c.refer-value.result in
    let column = c.loop-column.column in
    let there : option_copied c.args.row ≡ Some row = search rules in
    let is : column_of row column ≡ value = sym (c.refer-value.ensures Null) in
    let less : c.earlier-first.result ≡ earlier_of c.loop-column.first c.first_of_value.result = search rules in
    subst (λ (o : Option (List Value)). Finds is_hit (HasBelow (column + 1) table o places) c.earlier-first.result) (sym there)
    (subst (Finds is_hit (HasBelow (column + 1) table (Some row) places)) (sym less)
    (one_column_more is_hit table column row value places c.loop-column.first c.first_of_value.result is
    (subst (λ (o : Option (List Value)). Finds is_hit (HasBelow column table o places) c.loop-column.first) there c.loop-column.invariant)
    c.first_of_value.ensures))

pub returns : goal.returns
returns c =
    let is_hit = is_hit_number c.args.records.now c.args.change.now in
    let table = c.args.change.now.table in
    let places = c.args.keyed.now.places.items in
    let row = c.in_ok-values.values.now in
    let there : option_copied c.args.row ≡ Some row = search rules in
    subst (λ (o : Option (List Value)). Finds is_hit (HasTrue table o places) c.loop-column.first) (sym there)
    (all_columns is_hit table c.loop-column.column row places c.loop-column.first (omega arith)
    (subst (λ (o : Option (List Value)). Finds is_hit (HasBelow c.loop-column.column table o places) c.loop-column.first) there c.loop-column.invariant))
