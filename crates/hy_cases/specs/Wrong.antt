-- Outcomes that the engine never gives, each made from a right one by what its name says.
use Rattle.std.specs.Prelude.{[], ◌∷◌, None, Some}
use Rattle.hy_bound.specs.declared.Reply.TheVariants.{Inserted, Duplicate, Updated, Deleted, Saved, Back, Released}
use Rattle.hy_bound.specs.declared.Ending.TheVariants.{Committed, Read, RolledBack, Conflict, Invalid, Range, Full}
use Rattle.hy_cases.specs.Words.{int, greatest, minus, row, overdrawn, pointed, a1, a2, b1, b2, c1, at, change, told, entry}
use Rattle.hy_cases.specs.Words.{rows, balance, total, group, groups}
use Rattle.hy_cases.specs.Words.{commits, rolls_back, read_all, read_balance, sum_balances, insert, set_balance, add_to_balance}
use Rattle.hy_cases.specs.Scripts.{hundreds}
use Rattle.hy_cases.specs.Right.{reader, group_reader, writer, own_write, own_delete, new_row, came_and_went, all_written, duplicate, no_room}
use Rattle.hy_cases.specs.Right.{out_of_range, own_row_out_of_range, chunk_before, own_commit}
use Rattle.hy_cases.specs.Right.{insert_undone, different_rows, old_reader, before_and_after, undone_unseen, conflict}
use Rattle.hy_cases.specs.Right.{undone_rival, undone_before, place_given_back, skew_refused, phantom_refused}
use Rattle.hy_cases.specs.Right.{hit_without_effect, first_hit_named, refused_then_reads, room_taken, join_refused, join_passed_by}
use Rattle.hy_cases.specs.Right.{held_though_taken_back, held_without_a_record, records_stay, own_write_kept, newest_counts}
use Rattle.hy_cases.specs.Cases.{IsUnlawful, IsNotLawful, IsNotSerial, with_programs, with_txns, with_order, with_tables}
use Rattle.hy_cases.specs.Cases.{with_start, with_replies, with_ending, with_wrote, with_placed, with_changes}

-- ---- what is told

pub record WrongReplies : Type 0 where
  pub newest_state_told_to_an_old_reader : IsNotSerial (with_replies b1 (balance 90 ∷ balance 90 ∷ []) old_reader)
  pub non_repeatable_read : IsNotSerial (with_replies b1 (balance 100 ∷ balance 90 ∷ []) old_reader)
  pub intermediate_read : IsNotSerial (with_replies b1 (balance 50 ∷ balance 50 ∷ []) old_reader)
  pub old_state_told_to_a_new_reader : IsNotSerial (with_replies b2 (balance 100 ∷ []) before_and_after)
  pub dirty_read : IsNotSerial (with_replies b1 (balance 90 ∷ []) undone_unseen)
  pub dirty_read_of_an_insert : IsNotSerial (with_replies b1 (rows (row 1 100 ∷ row 2 100 ∷ row 3 70 ∷ []) ∷ []) insert_undone)
  pub own_write_not_seen : IsNotSerial (with_replies a1 (Updated 1 ∷ balance 100 ∷ []) own_write)
  pub deleted_row_told : IsNotSerial (with_replies a1 (Deleted 1 ∷ rows hundreds ∷ []) own_delete)
  pub row_left_out : IsNotSerial (with_replies a1 (rows (row 1 100 ∷ []) ∷ balance 40 ∷ total 140 ∷ []) reader)
  pub row_told_twice : IsNotSerial (with_replies a1 (rows (row 1 100 ∷ row 1 100 ∷ row 2 40 ∷ []) ∷ balance 40 ∷ total 140 ∷ []) reader)
  pub rows_do_not_ascend : IsNotSerial (with_replies a1 (rows (row 2 40 ∷ row 1 100 ∷ []) ∷ balance 40 ∷ total 140 ∷ []) reader)
  pub other_row_than_asked_for : IsNotSerial (with_replies a1 (rows (row 1 100 ∷ row 2 40 ∷ []) ∷ balance 100 ∷ total 140 ∷ []) reader)
  pub more_columns_than_asked_for : IsNotSerial (with_replies a1 (rows (row 1 100 ∷ row 2 40 ∷ []) ∷ rows (row 2 40 ∷ []) ∷ total 140 ∷ []) reader)
  pub wrong_sum : IsNotSerial (with_replies a1 (rows (row 1 100 ∷ row 2 40 ∷ []) ∷ balance 40 ∷ total 141 ∷ []) reader)
  pub wrong_count : IsNotSerial (with_replies b1 (total 3 ∷ Updated 1 ∷ []) phantom_refused)
  pub replies_exchanged : IsNotSerial (with_replies a1 (rows (row 1 100 ∷ row 2 40 ∷ []) ∷ total 140 ∷ balance 40 ∷ []) reader)
  pub reply_too_many : IsUnlawful (with_replies a1 (Updated 1 ∷ Updated 1 ∷ []) writer)
  pub reply_too_few : IsNotLawful (with_replies a1 (rows (row 1 100 ∷ row 2 40 ∷ []) ∷ balance 40 ∷ []) reader)
  pub wrong_group : IsNotSerial (with_replies a1 (groups (group 40 2 ∷ group 100 2 ∷ []) ∷ []) group_reader)
  pub inserted_where_the_key_was_there : IsNotSerial (with_replies a1 (Inserted ∷ []) duplicate)
  pub duplicate_where_the_key_was_not_there : IsNotSerial (with_replies a1 (Duplicate ∷ []) new_row)
  pub updated_two_for_one : IsNotSerial (with_replies a1 (Updated 2 ∷ []) writer)
  pub deleted_none_for_one : IsNotSerial (with_replies a1 (Deleted 0 ∷ rows (row 2 100 ∷ []) ∷ []) own_delete)
  pub deleted_for_updated : IsNotSerial (with_replies a1 (Deleted 1 ∷ []) writer)

-- ---- who has an outcome, and where it starts

pub record WrongStarts : Type 0 where
  pub transaction_missing : IsUnlawful
      (with_txns (told a1 0 (Updated 1 ∷ []) (Committed 0) (at 0 0 ∷ []) (0 ∷ []) ∷ told b1 0 (balance 100 ∷ []) Read [] (0 ∷ []) ∷ []) before_and_after)
  pub transaction_twice : IsUnlawful (with_txns (told a1 0 (Updated 1 ∷ []) RolledBack (at 0 0 ∷ []) (0 ∷ [])
      ∷ told b1 0 (balance 100 ∷ []) Read [] (0 ∷ []) ∷ told b1 0 (balance 100 ∷ []) Read [] (0 ∷ []) ∷ []) undone_unseen)
  pub transactions_exchanged : IsUnlawful
      (with_txns (told b1 0 (balance 100 ∷ []) Read [] (0 ∷ []) ∷ told a1 0 (Updated 1 ∷ []) RolledBack (at 0 0 ∷ []) (0 ∷ []) ∷ []) undone_unseen)
  pub start_behind_the_end : IsUnlawful (with_start b1 1 undone_unseen)
  pub start_falls_in_a_session : IsUnlawful
      (with_start b1 1 (with_replies b1 (balance 90 ∷ []) (with_start b2 0 (with_replies b2 (balance 100 ∷ []) before_and_after))))
  pub start_before_the_commit_of_the_session : IsNotLawful (with_start a2 0 (with_replies a2 (balance 100 ∷ []) own_commit))
  pub start_behind_the_own_commit : IsUnlawful (with_start a1 1 writer)

-- ---- the commit order and the final tables

pub record WrongOrders : Type 0 where
  pub entry_twice : IsUnlawful
      (with_order (entry a1 (change 0 0 (Some (row 1 100)) (Some (row 1 90)) ∷ []) ∷ entry a1 [] ∷ []) writer)
  pub entry_missing : IsUnlawful (with_order [] (with_tables (hundreds ∷ []) writer))
  pub entry_of_one_that_was_refused : IsUnlawful
      (with_order (entry a1 (change 0 0 (Some (row 1 100)) (Some (row 1 110)) ∷ []) ∷ entry b1 [] ∷ []) conflict)
  pub entry_of_one_that_rolled_back : IsUnlawful (with_order (entry a1 [] ∷ []) insert_undone)
  pub entry_of_one_that_read : IsUnlawful (with_order (entry a1 [] ∷ []) reader)
  pub entry_of_nobody : IsUnlawful (with_order (entry c1 [] ∷ []) reader)
  pub entries_exchanged : IsUnlawful
      (with_order (entry b1 (change 0 1 (Some (row 2 100)) (Some (row 2 80)) ∷ []) ∷ entry a1 (change 0 0 (Some (row 1 100)) (Some (row 1 90)) ∷ []) ∷ [])
      different_rows)
  pub rank_of_another : IsUnlawful (with_ending b1 (Committed 0) different_rows)
  pub rank_behind_the_end : IsUnlawful (with_ending a1 (Committed 1) writer)
  pub last_change_not_in_the_tables : IsNotSerial (with_tables ((row 1 90 ∷ row 2 100 ∷ []) ∷ []) different_rows)
  pub first_change_not_in_the_tables : IsNotSerial (with_tables ((row 1 100 ∷ row 2 80 ∷ []) ∷ []) different_rows)
  pub undone_change_in_the_tables : IsNotSerial (with_tables ((row 1 90 ∷ row 2 100 ∷ []) ∷ []) undone_unseen)
  pub undone_insert_in_the_tables : IsNotSerial (with_tables ((row 1 100 ∷ row 2 100 ∷ row 3 70 ∷ []) ∷ []) insert_undone)
  pub deleted_row_in_the_tables : IsNotSerial (with_tables ((row 1 100 ∷ row 2 100 ∷ []) ∷ []) own_delete)
  pub rows_of_a_table_do_not_ascend : IsNotSerial (with_tables ((row 2 100 ∷ row 1 90 ∷ []) ∷ []) writer)
  pub table_missing : IsNotSerial (with_tables [] writer)
  pub table_too_many : IsNotSerial (with_tables ((row 1 90 ∷ row 2 100 ∷ []) ∷ [] ∷ []) writer)

-- ---- who has committed what

pub record WrongCommits : Type 0 where
  pub lost_update_committed : IsNotSerial (with_ending b1 (Committed 1) (with_replies b1 (Updated 1 ∷ []) (with_wrote b1 (at 0 0 ∷ [])
      (with_order (entry a1 (change 0 0 (Some (row 1 100)) (Some (row 1 110)) ∷ []) ∷ entry b1 (change 0 0 (Some (row 1 100)) (Some (row 1 105)) ∷ []) ∷ [])
      (with_tables ((row 1 105 ∷ row 2 100 ∷ []) ∷ []) conflict)))))
  pub update_over_one_that_was_not_seen : IsNotSerial (with_ending b1 (Committed 1) (with_replies b1 (Updated 1 ∷ []) (with_wrote b1 (at 0 0 ∷ [])
      (with_order (entry a1 (change 0 0 (Some (row 1 100)) (Some (row 1 110)) ∷ []) ∷ entry b1 (change 0 0 (Some (row 1 110)) (Some (row 1 115)) ∷ []) ∷ [])
      (with_tables ((row 1 115 ∷ row 2 100 ∷ []) ∷ []) conflict)))))
  pub write_skew_committed : IsNotSerial (with_ending b1 (Committed 1)
      (with_order (entry a1 (change 0 0 (Some (row 1 100)) (Some (overdrawn 1 50)) ∷ [])
      ∷ entry b1 (change 0 1 (Some (row 2 100)) (Some (overdrawn 2 50)) ∷ []) ∷ [])
      (with_tables ((overdrawn 1 50 ∷ overdrawn 2 50 ∷ []) ∷ []) skew_refused)))
  pub phantom_missed : IsNotSerial (with_ending b1 (Committed 1)
      (with_order (entry a1 (change 0 2 None (Some (row 3 70)) ∷ []) ∷ entry b1 (change 0 0 (Some (row 1 100)) (Some (row 1 90)) ∷ []) ∷ [])
      (with_tables ((row 1 90 ∷ row 2 100 ∷ row 3 70 ∷ []) ∷ []) phantom_refused)))
  pub hit_passed_over : IsNotSerial (with_ending b1 (Committed 1)
      (with_order (entry a1 (change 0 0 (Some (row 1 100)) (Some (row 1 90)) ∷ []) ∷ entry b1 (change 0 1 (Some (row 2 100)) (Some (row 2 80)) ∷ []) ∷ [])
      (with_tables ((row 1 90 ∷ row 2 80 ∷ []) ∷ []) hit_without_effect)))
  pub hit_of_a_join_passed_over : IsNotSerial (with_ending b1 (Committed 1)
      (with_order (entry a1 (change 0 1 (Some (row 2 100)) (Some (row 2 90)) ∷ []) ∷ entry b1 (change 1 1 None (Some (row 2 1)) ∷ []) ∷ [])
      (with_tables ((row 1 100 ∷ row 2 90 ∷ []) ∷ (row 1 2 ∷ row 2 1 ∷ []) ∷ []) join_refused)))
  pub reader_committed : IsUnlawful (with_ending a1 (Committed 0) (with_order (entry a1 [] ∷ []) reader))
  pub rollback_committed : IsUnlawful (with_ending a1 (Committed 0)
      (with_order (entry a1 (change 0 0 (Some (row 1 100)) (Some (row 1 90)) ∷ []) ∷ []) (with_tables ((row 1 90 ∷ row 2 100 ∷ []) ∷ []) undone_unseen)))
  pub committed_before_all_was_answered : IsUnlawful (with_replies a1 (Updated 1 ∷ []) own_write)
  pub writer_only_read : IsUnlawful (with_ending a1 Read (with_order [] (with_tables (hundreds ∷ []) writer)))
  pub rollback_only_read : IsUnlawful (with_programs ((rolls_back (read_all 0 ∷ read_balance 0 2 ∷ sum_balances 0 ∷ []) ∷ []) ∷ []) reader)
  pub commit_rolled_back : IsNotLawful (with_ending a1 RolledBack (with_order [] (with_tables (hundreds ∷ []) writer)))
  pub rolled_back_before_all_was_answered : IsUnlawful (with_replies a1 [] insert_undone)

-- ---- who is refused

pub record WrongConflicts : Type 0 where
  pub names_one_that_wrote_nothing : IsNotSerial (with_ending b1 (Conflict 0 0 c1) conflict)
  pub names_itself : IsUnlawful (with_ending b1 (Conflict 0 0 b1) conflict)
  pub names_one_of_its_session : IsUnlawful
      (with_txns (told a1 0 (Updated 1 ∷ []) RolledBack (at 0 0 ∷ []) (0 ∷ []) ∷ told a2 0 [] (Conflict 0 1 a1) [] (0 ∷ [])
      ∷ told b1 0 (Updated 1 ∷ []) (Committed 0) (at 0 0 ∷ []) (0 ∷ []) ∷ [])
      (with_order (entry b1 (change 0 0 (Some (row 1 100)) (Some (row 1 80)) ∷ []) ∷ []) (with_tables ((row 1 80 ∷ row 2 100 ∷ []) ∷ []) undone_before)))
  pub names_nobody : IsUnlawful (with_ending b1 (Conflict 0 0 b2) conflict)
  pub names_one_before_the_start : IsNotSerial (with_start b1 1 conflict)
  pub names_one_that_found_no_row : IsNotSerial (with_ending b1 (Conflict 0 2 a1) (with_replies b1 [] (with_wrote b1 []
      (with_order (entry c1 (change 0 2 None (Some (row 3 70)) ∷ []) ∷ [])
      (with_tables ((row 1 100 ∷ row 2 100 ∷ row 3 70 ∷ []) ∷ []) place_given_back)))))
  pub names_one_that_was_over : IsNotSerial (with_ending b1 (Conflict 0 0 a1) (with_replies b1 [] (with_wrote b1 []
      (with_order (entry a2 (change 0 1 (Some (row 2 100)) (Some (row 2 90)) ∷ []) ∷ []) (with_tables ((row 1 100 ∷ row 2 90 ∷ []) ∷ []) undone_before)))))
  pub at_a_row_that_is_not_selected : IsNotSerial (with_ending b1 (Conflict 0 0 a1) (with_replies b1 [] (with_wrote b1 []
      (with_order (entry a1 (change 0 0 (Some (row 1 100)) (Some (row 1 90)) ∷ []) ∷ []) (with_tables ((row 1 90 ∷ row 2 100 ∷ []) ∷ []) different_rows)))))
  pub at_a_row_that_it_wrote : IsNotSerial
      (with_programs ((rolls_back (set_balance 0 1 90 ∷ []) ∷ []) ∷ (commits (set_balance 0 1 80 ∷ set_balance 0 1 70 ∷ []) ∷ []) ∷ [])
      (with_replies b1 (Updated 1 ∷ []) (with_wrote b1 (at 0 0 ∷ []) undone_rival)))
  pub in_another_table : IsUnlawful (with_ending b1 (Conflict 1 0 a1) conflict)
  pub of_a_select : IsUnlawful (with_ending b1 (Conflict 0 0 a1) (with_replies b1 [] old_reader))

pub record WrongInvalids : Type 0 where
  pub without_a_hit : IsNotSerial (with_ending b1 (Invalid 0 0 a1 1)
      (with_order (entry a1 (change 0 0 (Some (row 1 100)) (Some (row 1 90)) ∷ []) ∷ []) (with_tables ((row 1 90 ∷ row 2 100 ∷ []) ∷ []) different_rows)))
  pub without_a_hit_of_a_join : IsNotSerial (with_ending b1 (Invalid 0 0 a1 1)
      (with_order (entry a1 (change 0 0 (Some (row 1 100)) (Some (row 1 90)) ∷ []) ∷ [])
      (with_tables ((row 1 90 ∷ row 2 100 ∷ []) ∷ (row 1 2 ∷ []) ∷ []) join_passed_by)))
  pub names_the_second_hit : IsNotSerial (with_ending b1 (Invalid 0 1 c1 1) first_hit_named)
  pub names_another_position : IsNotSerial (with_ending b1 (Invalid 0 1 a1 1) phantom_refused)
  pub names_another_statement : IsNotSerial (with_ending b1 (Invalid 0 0 a1 2) skew_refused)
  pub names_no_statement : IsUnlawful (with_ending b1 (Invalid 0 0 a1 0) skew_refused)
  pub names_a_statement_that_is_not_there : IsUnlawful (with_ending b1 (Invalid 0 0 a1 3) skew_refused)
  pub names_nobody : IsUnlawful (with_ending b1 (Invalid 0 0 c1 1) skew_refused)
  pub names_one_before_the_start : IsUnlawful (with_start b1 1 (with_replies b1 (total 50 ∷ Updated 1 ∷ []) skew_refused))
  pub names_one_that_came_later : IsNotSerial (with_start b2 0 (with_replies b2 (balance 100 ∷ []) refused_then_reads))
  pub writes_over_what_was_committed : IsNotSerial (with_programs
      ((commits (sum_balances 0 ∷ add_to_balance 0 1 (minus 150) ∷ []) ∷ [])
      ∷ (commits (sum_balances 0 ∷ add_to_balance 0 1 (minus 10) ∷ []) ∷ []) ∷ [])
      (with_wrote b1 (at 0 0 ∷ []) skew_refused))
  pub before_all_was_answered : IsUnlawful (with_replies b1 (total 200 ∷ []) skew_refused)
  pub of_a_reader : IsUnlawful (with_ending b1 (Invalid 0 0 a1 1) old_reader)
  pub of_a_rollback : IsUnlawful (with_programs
      ((commits (sum_balances 0 ∷ add_to_balance 0 1 (minus 150) ∷ []) ∷ [])
      ∷ (rolls_back (sum_balances 0 ∷ add_to_balance 0 2 (minus 150) ∷ []) ∷ []) ∷ []) skew_refused)

pub record WrongRefusals : Type 0 where
  pub full_with_room_left : IsNotLawful (with_txns (told a1 0 [] (Full 0) [] (0 ∷ []) ∷ []) (with_order [] (with_tables (hundreds ∷ []) new_row)))
  pub full_though_the_place_was_given_back : IsUnlawful
      (with_programs ((rolls_back (insert 0 (row 2 50) ∷ []) ∷ commits (set_balance 0 1 90 ∷ []) ∷ []) ∷ (commits (insert 0 (row 3 70) ∷ []) ∷ []) ∷ [])
      (with_txns (told a1 0 (Inserted ∷ []) RolledBack (at 0 1 ∷ []) (1 ∷ []) ∷ told a2 0 (Updated 1 ∷ []) (Committed 0) (at 0 0 ∷ []) (0 ∷ [])
      ∷ told b1 1 [] (Full 0) [] (0 ∷ []) ∷ [])
      (with_order (entry a2 (change 0 0 (Some (row 1 100)) (Some (row 1 90)) ∷ []) ∷ []) (with_tables ((row 1 90 ∷ []) ∷ []) room_taken))))
  pub full_though_the_key_is_there : IsNotSerial (with_programs ((commits (insert 0 (row 1 50) ∷ []) ∷ []) ∷ []) no_room)
  pub full_in_another_table : IsUnlawful (with_ending a1 (Full 1) no_room)
  pub full_for_an_update : IsUnlawful (with_txns (told a1 0 [] (Full 0) [] (0 ∷ []) ∷ []) (with_order [] (with_tables (hundreds ∷ []) writer)))
  pub out_of_range_where_it_stays_in_range : IsNotSerial
      (with_txns (told a1 0 [] (Range 0 0) [] (0 ∷ []) ∷ []) (with_order [] (with_tables (hundreds ∷ []) writer)))
  pub out_of_range_at_another_row : IsNotSerial
      (with_programs ((commits (add_to_balance 0 2 (int greatest) ∷ []) ∷ []) ∷ [])
      (with_txns (told a1 0 [] (Range 0 0) [] (0 ∷ []) ∷ []) out_of_range))
  pub out_of_range_at_a_row_that_it_wrote : IsNotSerial (with_ending a1 (Range 0 0) out_of_range)
  pub out_of_range_at_a_row_that_it_inserted : IsNotSerial
      (with_programs ((commits (insert 0 (row 3 70) ∷ add_to_balance 0 1 (int greatest) ∷ []) ∷ []) ∷ []) own_row_out_of_range)
  pub out_of_range_for_a_delete : IsUnlawful (with_txns (told a1 0 [] (Range 0 0) [] (0 ∷ []) ∷ []) (with_order [] (with_tables (hundreds ∷ []) own_delete)))

-- ---- what is written and changed

pub record WrongWrites : Type 0 where
  pub position_too_many : IsNotSerial (with_wrote a1 (at 0 0 ∷ at 0 1 ∷ []) writer)
  pub position_too_few : IsNotSerial (with_wrote a1 [] undone_unseen)
  pub chunk_before_not_written : IsNotSerial (with_wrote a1 [] chunk_before)
  pub chunk_of_the_refusal_written : IsNotSerial (with_wrote a1 (at 0 0 ∷ at 0 1 ∷ []) chunk_before)
  pub reader_wrote : IsNotSerial
      (with_programs ((rolls_back (set_balance 0 1 90 ∷ []) ∷ []) ∷ (rolls_back (read_balance 0 1 ∷ []) ∷ []) ∷ [])
      (with_ending b1 RolledBack (with_wrote b1 (at 0 0 ∷ []) undone_unseen)))
  pub position_behind_the_table : IsUnlawful (with_wrote a1 (at 0 3 ∷ []) insert_undone)
  pub position_of_no_table : IsUnlawful (with_wrote a1 (at 1 2 ∷ []) insert_undone)
  pub position_twice : IsUnlawful (with_wrote a1 (at 0 0 ∷ at 0 0 ∷ []) writer)
  pub positions_do_not_ascend : IsUnlawful (with_wrote a1 (at 0 1 ∷ at 0 0 ∷ []) all_written)
  pub place_of_an_insert_not_written : IsNotSerial (with_wrote a1 [] insert_undone)
  pub insert_placed_on_a_row : IsNotSerial (with_wrote a1 (at 0 0 ∷ []) insert_undone)
  pub placed_one_too_few : IsNotSerial (with_placed a1 (0 ∷ []) new_row)
  pub placed_one_too_many : IsNotSerial (with_placed a1 (2 ∷ []) new_row)
  pub duplicate_placed : IsNotSerial (with_programs ((rolls_back (insert 0 (row 1 50) ∷ []) ∷ []) ∷ [])
      (with_ending a1 RolledBack (with_wrote a1 (at 0 2 ∷ []) (with_placed a1 (1 ∷ []) duplicate))))

pub record WrongChanges : Type 0 where
  pub not_from_what_stands : IsNotSerial (with_changes b1 (change 0 1 (Some (row 2 99)) (Some (row 2 80)) ∷ []) different_rows)
  pub from_nothing_where_a_row_stands : IsNotSerial (with_changes a1 (change 0 0 None (Some (row 1 90)) ∷ []) writer)
  pub from_nothing_to_nothing : IsNotSerial (with_changes a1 (change 0 2 None None ∷ []) came_and_went)
  pub where_nothing_was_written : IsNotSerial
      (with_changes a1 (change 0 0 (Some (row 1 100)) (Some (row 1 90)) ∷ change 0 1 (Some (row 2 100)) (Some (row 2 100)) ∷ []) writer)
  pub to_another_row : IsNotSerial (with_changes a1 (change 0 0 (Some (row 1 100)) (Some (row 1 91)) ∷ []) writer)
  pub to_rows_exchanged : IsNotSerial (with_changes a1
      (change 0 0 (Some (row 1 100)) (Some (row 2 101)) ∷ change 0 1 (Some (row 2 100)) (Some (row 1 101)) ∷ []) all_written)
  pub to_another_row_than_inserted : IsNotSerial (with_changes a1 (change 0 2 None (Some (row 3 71)) ∷ []) new_row)
  pub to_nothing_for_an_update : IsNotSerial (with_changes a1 (change 0 0 (Some (row 1 100)) None ∷ []) writer)
  pub missing : IsNotSerial (with_changes a1 [] writer)
  pub missing_where_the_row_stays_as_it_was : IsNotSerial (with_programs ((commits (set_balance 0 1 100 ∷ []) ∷ []) ∷ [])
      (with_changes a1 [] (with_tables (hundreds ∷ []) writer)))
  pub twice : IsUnlawful (with_changes a1
      (change 0 0 (Some (row 1 100)) (Some (row 1 90)) ∷ change 0 0 (Some (row 1 90)) (Some (row 1 90)) ∷ []) writer)
  pub do_not_ascend : IsUnlawful (with_changes a1
      (change 0 1 (Some (row 2 100)) (Some (row 2 101)) ∷ change 0 0 (Some (row 1 100)) (Some (row 1 101)) ∷ []) all_written)
  pub behind_the_table : IsUnlawful (with_changes a1 (change 0 3 None (Some (row 3 70)) ∷ []) new_row)

-- ---- what is saved, taken back and released

pub record WrongSavepoints : Type 0 where
  pub taken_back_write_committed : IsNotSerial (with_changes a1 (change 0 0 (Some (row 1 100)) (Some (row 1 90)) ∷ [])
      (with_tables ((row 1 90 ∷ row 2 100 ∷ []) ∷ []) held_though_taken_back))
  pub no_change_where_it_was_taken_back : IsNotSerial (with_changes a1 [] held_though_taken_back)
  pub taken_back_not_written : IsNotSerial (with_wrote a1 [] newest_counts)
  pub position_given_back : IsNotSerial (with_ending a1 (Committed 1) (with_wrote a1 (at 1 0 ∷ [])
      (with_ending b1 (Committed 0) (with_replies b1 (Updated 1 ∷ []) (with_wrote b1 (at 0 0 ∷ [])
      (with_order (entry b1 (change 0 0 (Some (pointed 1 100 0)) (Some (pointed 1 100 9)) ∷ []) ∷ entry a1 (change 1 0 None (Some (row 7 7)) ∷ []) ∷ [])
      (with_tables ((pointed 1 100 9 ∷ []) ∷ (row 7 7 ∷ []) ∷ []) held_without_a_record)))))))
  pub record_dropped : IsNotSerial (with_ending a1 (Committed 1)
      (with_order (entry b1 (change 0 0 (Some (row 1 100)) (Some (row 1 5)) ∷ []) ∷ entry a1 (change 1 0 None (Some (row 7 7)) ∷ []) ∷ [])
      (with_tables ((row 1 5 ∷ row 2 100 ∷ []) ∷ (row 7 7 ∷ []) ∷ []) records_stay)))
  pub names_the_savepoint : IsNotSerial (with_ending a1 (Invalid 0 0 b1 1) records_stay)
  pub goes_back_to_the_start : IsNotSerial
      (with_replies a1 (Updated 1 ∷ Saved ∷ Deleted 1 ∷ Inserted ∷ Back ∷ rows hundreds ∷ []) own_write_kept)
  pub delete_not_taken_back : IsNotSerial
      (with_replies a1 (Updated 1 ∷ Saved ∷ Deleted 1 ∷ Inserted ∷ Back ∷ rows (row 1 90 ∷ []) ∷ []) own_write_kept)
  pub insert_not_taken_back : IsNotSerial (with_changes a1 (change 0 0 (Some (row 1 100)) (Some (row 1 90))
      ∷ change 0 1 (Some (row 2 100)) (Some (row 2 100)) ∷ change 0 2 None (Some (row 3 70)) ∷ [])
      (with_tables ((row 1 90 ∷ row 2 100 ∷ row 3 70 ∷ []) ∷ []) own_write_kept))
  pub insert_taken_back_not_counted : IsNotSerial (with_placed a1 (0 ∷ []) own_write_kept)
  pub goes_back_to_the_oldest_of_a_name : IsNotSerial (with_replies a1
      (Saved ∷ Updated 1 ∷ Saved ∷ Updated 1 ∷ Back ∷ balance 100 ∷ Released ∷ Back ∷ balance 100 ∷ []) newest_counts)
  pub goes_back_to_one_that_was_released : IsNotSerial (with_replies a1
      (Saved ∷ Updated 1 ∷ Saved ∷ Updated 1 ∷ Back ∷ balance 90 ∷ Released ∷ Back ∷ balance 90 ∷ []) newest_counts)
  pub told_back_for_saved : IsNotSerial (with_replies a1
      (Back ∷ Updated 1 ∷ Saved ∷ Updated 1 ∷ Back ∷ balance 90 ∷ Released ∷ Back ∷ balance 100 ∷ []) newest_counts)
