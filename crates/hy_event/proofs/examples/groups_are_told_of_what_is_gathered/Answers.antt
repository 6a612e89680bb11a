use Rattle.std.proofs.Common.{refl}
use Rattle.hy_plan.specs.ColumnSets.{bits_where, columns_where, named_columns}
use Rattle.hy_event.proofs.examples.groups_are_told_of_what_is_gathered.Goals as goal

pub returns-clause-gathers : goal.returns-clause-gathers
unfolding bits_where columns_where named_columns
returns-clause-gathers c = record { chunk = refl; turn = refl }

pub returns-clause-answers : goal.returns-clause-answers
unfolding bits_where columns_where named_columns
returns-clause-answers c = record { chunk = refl; turn = refl }
