-- That wrong orders and wrong final tables are refused.
use Rattle.std.proofs.Common.{refl, arith}
use Rattle.hy_lawful.specs.Outcomes.{is_label}
use Rattle.hy_cases.specs.Wrong.{WrongOrders}
use Rattle.hy_cases.proofs.Differ.{differ, same_list, same_option, same_ending, same_rows}

pub wrong_orders : WrongOrders
wrong_orders = record {
  entry_twice = λ claim. differ (same_option same_ending) claim.order.1.0 refl refl;
  entry_missing = λ claim. differ (same_option is_label) claim.committed.0.stands refl refl;
  entry_of_one_that_was_refused = λ claim. differ (same_option same_ending) claim.order.1.0 refl refl;
  entry_of_one_that_rolled_back = λ claim. differ (same_option same_ending) claim.order.0 refl refl;
  entry_of_one_that_read = λ claim. differ (same_option same_ending) claim.order.0 refl refl;
  entry_of_nobody = λ claim. differ (same_option same_ending) claim.order.0 refl refl;
  entries_exchanged = λ claim. differ (same_option is_label) claim.committed.0.stands refl refl;
  rank_of_another = λ claim. differ (same_option is_label) claim.committed.1.0.stands refl refl;
  rank_behind_the_end = λ claim. differ (same_option is_label) claim.committed.0.stands refl refl;
  last_change_not_in_the_tables = record { lawful = search arith parts 12; refused = λ claim. differ (same_list same_rows) claim.tables refl refl };
  first_change_not_in_the_tables = record { lawful = search arith parts 12; refused = λ claim. differ (same_list same_rows) claim.tables refl refl };
  undone_change_in_the_tables = record { lawful = search arith parts 12; refused = λ claim. differ (same_list same_rows) claim.tables refl refl };
  undone_insert_in_the_tables = record { lawful = search arith parts 12; refused = λ claim. differ (same_list same_rows) claim.tables refl refl };
  deleted_row_in_the_tables = record { lawful = search arith parts 12; refused = λ claim. differ (same_list same_rows) claim.tables refl refl };
  rows_of_a_table_do_not_ascend = record { lawful = search arith parts 12; refused = λ claim. differ (same_list same_rows) claim.tables refl refl };
  table_missing = record { lawful = search arith parts 12; refused = λ claim. differ (same_list same_rows) claim.tables refl refl };
  table_too_many = record { lawful = search arith parts 12; refused = λ claim. differ (same_list same_rows) claim.tables refl refl };
}
