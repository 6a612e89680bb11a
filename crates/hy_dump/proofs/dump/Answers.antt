use Rattle.std.proofs.Common.{◌≡◌, ℕ, ◌<◌, ◌++◌, List, length, get_or, subst}
use Rattle.std.specs.List.{flat_map}
use Rattle.hy_value.specs.declared.Value.{Value}
use Rattle.hy_schema.specs.declared.TableDef.{TableDef}
use Rattle.hy_dump.specs.Dump.{insert_line}
use Rattle.hy_dump.proofs.Pieces.{table_put}
use Rattle.hy_dump.proofs.dump.Goals as goal

pub loop-number-preserved : goal.loop-number-preserved
loop-number-preserved c =
    let number : ℕ = c.loop-number.number in
    let table : TableDef = c.table-item.result in
    let defined = c.tables-table-items.ensures in
    table_put c.args.tables.now _ _ _ _ c.args.catalog.now number table
    (subst (λ (tables : List TableDef). number < length tables) defined c.loop-number-test.true)
    (subst (λ (tables : List TableDef). table ≡ get_or tables number table) defined c.table-item.is)
    c.loop-number.invariant c.in_ok-put_create.ensures
    (subst (λ (rows : List (List Value)). c.put_rows.new.out.items ≡ c.put_create.new.out.items ++ flat_map (insert_line table.name) rows)
    c.rows_of.ensures c.in_ok-put_rows.ensures)
