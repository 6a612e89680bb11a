use Rattle.hy_script.proofs.Definitions.{room, none_defined, keys_there, rows_fit, table_defined, row_defined}
use Rattle.hy_bind.specs.Shapes.{catalog_shapes}
use Rattle.hy_script.proofs.fitting.accepted_definitions_fit.Goals as goal

pub returns : goal.returns
returns c = record {
  first = λ options. none_defined (room options);
  table = table_defined;
  row = row_defined c.order_is_total.ensures.values c.bound_statements_fit.ensures;
  rows = λ options sofar. rows_fit (room options) (catalog_shapes sofar.catalog) sofar.stocks;
  keys = λ options sofar. keys_there (room options) (catalog_shapes sofar.catalog) sofar.stocks;
}
