use Rattle.hy_setting.proofs.BoundTypes.{row_given, statement_bound}
use Rattle.hy_setting.proofs.CatalogTypes.{tables_typed}
use Rattle.hy_setting.proofs.what_is_bound_is_typed.Goals as goal

pub returns : goal.returns
returns c = record { tables = tables_typed; rows = row_given; statements = statement_bound }
