use Rattle.std.proofs.Common.{refl}
use Rattle.hy_plan.specs.ColumnSets.{bits_where, columns_where, named_columns}
use Rattle.hy_event.proofs.examples.a_join_gathers_by_key.Goals as goal

pub returns-clause-passes : goal.returns-clause-passes
unfolding bits_where columns_where named_columns
returns-clause-passes c = record { chunk = refl; turn = refl }

pub returns-clause-answers : goal.returns-clause-answers
unfolding bits_where columns_where named_columns
returns-clause-answers c = record { chunk = refl; turn = refl }
