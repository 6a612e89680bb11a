-- That wrong replies are refused: they are not those of the start.
use Rattle.std.proofs.Common.{refl, arith}
use Rattle.hy_cases.specs.Wrong.{WrongReplies}
use Rattle.hy_cases.proofs.Serial.{not_all_answered_is_serial}
use Rattle.hy_cases.proofs.Differ.{differ, same_replies, same_number}

pub wrong_replies : WrongReplies
wrong_replies = record {
  newest_state_told_to_an_old_reader = record { lawful = search arith parts 12; refused = λ claim. differ same_replies claim.replies.1.0 refl refl };
  non_repeatable_read = record { lawful = search arith parts 12; refused = λ claim. differ same_replies claim.replies.1.0 refl refl };
  intermediate_read = record { lawful = search arith parts 12; refused = λ claim. differ same_replies claim.replies.1.0 refl refl };
  old_state_told_to_a_new_reader = record { lawful = search arith parts 12; refused = λ claim. differ same_replies claim.replies.1.1.0 refl refl };
  dirty_read = record { lawful = search arith parts 12; refused = λ claim. differ same_replies claim.replies.1.0 refl refl };
  dirty_read_of_an_insert = record { lawful = search arith parts 12; refused = λ claim. differ same_replies claim.replies.1.0 refl refl };
  own_write_not_seen = record { lawful = search arith parts 12; refused = λ claim. differ same_replies claim.replies.0 refl refl };
  deleted_row_told = record { lawful = search arith parts 12; refused = λ claim. differ same_replies claim.replies.0 refl refl };
  row_left_out = record { lawful = search arith parts 12; refused = λ claim. differ same_replies claim.replies.0 refl refl };
  row_told_twice = record { lawful = search arith parts 12; refused = λ claim. differ same_replies claim.replies.0 refl refl };
  rows_do_not_ascend = record { lawful = search arith parts 12; refused = λ claim. differ same_replies claim.replies.0 refl refl };
  other_row_than_asked_for = record { lawful = search arith parts 12; refused = λ claim. differ same_replies claim.replies.0 refl refl };
  more_columns_than_asked_for = record { lawful = search arith parts 12; refused = λ claim. differ same_replies claim.replies.0 refl refl };
  wrong_sum = record { lawful = search arith parts 12; refused = λ claim. differ same_replies claim.replies.0 refl refl };
  wrong_count = record { lawful = search arith parts 12; refused = λ claim. differ same_replies claim.replies.1.0 refl refl };
  replies_exchanged = record { lawful = search arith parts 12; refused = λ claim. differ same_replies claim.replies.0 refl refl };
  reply_too_many = λ claim. differ same_number claim.endings.0.answers refl refl;
  reply_too_few = record { serial = not_all_answered_is_serial; refused = λ claim. differ same_number claim.endings.0.answers refl refl };
  wrong_group = record { lawful = search arith parts 12; refused = λ claim. differ same_replies claim.replies.0 refl refl };
  inserted_where_the_key_was_there = record { lawful = search arith parts 12; refused = λ claim. differ same_replies claim.replies.0 refl refl };
  duplicate_where_the_key_was_not_there = record { lawful = search arith parts 12; refused = λ claim. differ same_replies claim.replies.0 refl refl };
  updated_two_for_one = record { lawful = search arith parts 12; refused = λ claim. differ same_replies claim.replies.0 refl refl };
  deleted_none_for_one = record { lawful = search arith parts 12; refused = λ claim. differ same_replies claim.replies.0 refl refl };
  deleted_for_updated = record { lawful = search arith parts 12; refused = λ claim. differ same_replies claim.replies.0 refl refl };
}
