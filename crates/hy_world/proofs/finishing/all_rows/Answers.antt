use Rattle.std.proofs.Common.{ap, ◌∙◌}
use Rattle.std.proofs.lemmas.List.{get_or_default}
use Rattle.hy_bound.specs.declared.Shape.{Shape}
use Rattle.hy_bound.specs.Records.{no_shape}
use Rattle.hy_world.proofs.ReadBack.{tables_more}
use Rattle.hy_world.proofs.finishing.all_rows.Goals as goal

pub loop-table-preserved : goal.loop-table-preserved
loop-table-preserved c = record {
  tables = c.in_ok-push.ensures.ok
      ∙ tables_more c.args.viewer.now c.args.chunks.now.items c.loop-table.chunks.items c.args.shapes.now c.args.per_table c.loop-table.table _
      c.loop-table.tables c.in_ok-table_rows.field-0 c.loop-table.invariant.kept c.loop-table.invariant.tables
      (ap (λ (shape : Shape). shape.width) (get_or_default c.args.shapes.now c.loop-table.table _ no_shape c.loop-table-test.true))
      c.in_ok-table_rows.ensures.rows;
  kept = c.in_ok-table_rows.ensures.kept ∙ c.loop-table.invariant.kept;
}
