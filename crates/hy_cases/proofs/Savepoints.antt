-- That wrong outcomes of scripts with savepoints are refused.
use Rattle.std.proofs.Common.{refl, arith}
use Rattle.hy_cases.specs.Wrong.{WrongSavepoints}
use Rattle.hy_cases.proofs.Computed.{computed}
use Rattle.hy_cases.proofs.Differ.{differ, not_true, same_list, same_option, same_number, same_cause, same_replies, same_row, same_rows}

pub wrong_savepoints : WrongSavepoints
unfolding computed
wrong_savepoints = record {
  taken_back_write_committed = record { lawful = search arith parts 12; refused = λ claim. differ (same_option same_row) claim.leaves.0.0 refl refl };
  no_change_where_it_was_taken_back = record { lawful = search arith parts 12; refused = λ claim. not_true (claim.changed.0 0 0 refl) };
  taken_back_not_written = record { lawful = search arith parts 12; refused = λ claim. not_true (claim.wrote.0 0 0) };
  position_given_back = record { lawful = search arith parts 12; refused = λ claim. differ same_replies claim.replays.0.gives refl refl };
  record_dropped = record { lawful = search arith parts 12; refused = λ claim. differ same_replies claim.replays.0.gives refl refl };
  names_the_savepoint = record { lawful = search arith parts 12; refused = λ claim. differ (same_option same_cause) claim.refusals.0.hit refl refl };
  goes_back_to_the_start = record { lawful = search arith parts 12; refused = λ claim. differ same_replies claim.replies.0 refl refl };
  delete_not_taken_back = record { lawful = search arith parts 12; refused = λ claim. differ same_replies claim.replies.0 refl refl };
  insert_not_taken_back = record {
    lawful = search arith parts 12;
    refused = λ claim. differ (same_list same_rows) (claim.history 1 (omega arith)) refl refl;
  };
  insert_taken_back_not_counted = record { lawful = search arith parts 12; refused = λ claim. differ (same_list same_number) claim.inserted.0 refl refl };
  goes_back_to_the_oldest_of_a_name = record { lawful = search arith parts 12; refused = λ claim. differ same_replies claim.replies.0 refl refl };
  goes_back_to_one_that_was_released = record { lawful = search arith parts 12; refused = λ claim. differ same_replies claim.replies.0 refl refl };
  told_back_for_saved = record { lawful = search arith parts 12; refused = λ claim. differ same_replies claim.replies.0 refl refl };
}
