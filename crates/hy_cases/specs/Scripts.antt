-- The scripts of the cases: tables of two or three places, and sessions a, b and c of one or two transactions.
use Rattle.std.specs.Prelude.{ℕ, List, [], ◌∷◌}
use Rattle.hy_value.specs.declared.Value.{Value}
use Rattle.hy_machine.specs.declared.Setting.{Setting}
use Rattle.hy_cases.specs.Words.{int, greatest, minus, row, accounts, one_table, two_tables, commits, only_reads, rolls_back, read_all, read_numbers}
use Rattle.hy_cases.specs.Words.{read_balance, sum_balances, pointed, pointed_accounts, read_points_at, set_points, saves, goes_back, releases}
use Rattle.hy_cases.specs.Words.{count_accounts, count_over, count_by_balance, sum_of_named, insert, set_balance, add_to_balance, add_to_all, delete}

-- the accounts 1 and 2 with 100 each
abbrev pub hundreds : List (List Value)
hundreds = row 1 100 ∷ row 2 100 ∷ []

-- ---- one transaction

abbrev pub reads : Setting
reads = one_table 2 (row 1 100 ∷ row 2 40 ∷ []) ((commits (read_all 0 ∷ read_balance 0 2 ∷ sum_balances 0 ∷ []) ∷ []) ∷ [])

abbrev pub reads_groups : Setting
reads_groups = one_table 3 (row 1 100 ∷ row 2 40 ∷ row 3 100 ∷ []) ((only_reads (count_by_balance 0 ∷ []) ∷ []) ∷ [])

abbrev pub writes : Setting
writes = one_table 2 hundreds ((commits (set_balance 0 1 90 ∷ []) ∷ []) ∷ [])

abbrev pub reads_what_it_wrote : Setting
reads_what_it_wrote = one_table 2 hundreds ((commits (set_balance 0 1 90 ∷ read_balance 0 1 ∷ []) ∷ []) ∷ [])

abbrev pub reads_what_it_deleted : Setting
reads_what_it_deleted = one_table 2 hundreds ((commits (delete 0 1 ∷ read_all 0 ∷ []) ∷ []) ∷ [])

abbrev pub inserts : Setting
inserts = one_table 3 hundreds ((commits (insert 0 (row 3 70) ∷ []) ∷ []) ∷ [])

abbrev pub inserts_and_deletes : Setting
inserts_and_deletes = one_table 3 hundreds ((commits (insert 0 (row 3 70) ∷ delete 0 3 ∷ []) ∷ []) ∷ [])

abbrev pub adds_to_all : Setting
adds_to_all = one_table 2 hundreds ((commits (add_to_all 0 (int 1) ∷ []) ∷ []) ∷ [])

abbrev pub inserts_again : Setting
inserts_again = one_table 3 hundreds ((commits (insert 0 (row 1 50) ∷ []) ∷ []) ∷ [])

abbrev pub inserts_without_room : Setting
inserts_without_room = one_table 2 hundreds ((commits (insert 0 (row 3 70) ∷ []) ∷ []) ∷ [])

-- the greatest number is added to 100
abbrev pub adds_too_much : Setting
adds_too_much = one_table 2 hundreds ((commits (set_balance 0 1 90 ∷ add_to_balance 0 2 (int greatest) ∷ []) ∷ []) ∷ [])

-- a new row with the greatest number, and then 1 more to each
abbrev pub inserts_and_adds : Setting
inserts_and_adds = one_table 3 hundreds ((commits (insert 0 (row 3 greatest) ∷ add_to_all 0 (int 1) ∷ []) ∷ []) ∷ [])

-- two numbers go out of range
abbrev pub adds_to_two : Setting
adds_to_two = one_table 2 (row 1 greatest ∷ row 2 greatest ∷ []) ((commits (add_to_all 0 (int 1) ∷ []) ∷ []) ∷ [])

-- two new rows, one with the greatest number, and then 1 more to each
abbrev pub inserts_two_and_adds : Setting
inserts_two_and_adds =
    one_table 4 hundreds ((commits (insert 0 (row 3 70) ∷ insert 0 (row 4 greatest) ∷ add_to_all 0 (int 1) ∷ []) ∷ []) ∷ [])

-- more places than are needed
abbrev pub inserts_with_room : Setting
inserts_with_room = one_table 4 hundreds ((commits (insert 0 (row 3 70) ∷ []) ∷ []) ∷ [])

-- two chunks of one place; 1 is added to the greatest number
abbrev pub adds_to_two_chunks : Setting
adds_to_two_chunks = record {
  chunks = 2;
  rows = 1;
  shapes = accounts ∷ [];
  first = (row 1 100 ∷ row 2 greatest ∷ []) ∷ [];
  programs = (commits (add_to_all 0 (int 1) ∷ []) ∷ []) ∷ [];
}

-- ---- two transactions of one session

abbrev pub writes_then_reads : Setting
writes_then_reads = one_table 2 hundreds ((commits (set_balance 0 1 90 ∷ []) ∷ commits (read_balance 0 1 ∷ []) ∷ []) ∷ [])

abbrev pub deletes_then_inserts : Setting
deletes_then_inserts = one_table 2 hundreds ((commits (delete 0 1 ∷ []) ∷ commits (insert 0 (row 3 70) ∷ read_all 0 ∷ []) ∷ []) ∷ [])

abbrev pub deletes_then_inserts_with_room : Setting
deletes_then_inserts_with_room = one_table 3 hundreds ((commits (delete 0 1 ∷ []) ∷ commits (insert 0 (row 3 70) ∷ []) ∷ []) ∷ [])

-- ---- two or three sessions

abbrev pub no_sessions : Setting
no_sessions = one_table 2 hundreds []

abbrev pub inserts_and_rolls_back : Setting
inserts_and_rolls_back =
    one_table 3 hundreds ((rolls_back (insert 0 (row 3 70) ∷ []) ∷ []) ∷ (commits (read_all 0 ∷ []) ∷ []) ∷ [])

abbrev pub write_different_rows : Setting
write_different_rows =
    one_table 2 hundreds ((commits (set_balance 0 1 90 ∷ []) ∷ []) ∷ (commits (set_balance 0 2 80 ∷ []) ∷ []) ∷ [])

abbrev pub write_different_tables : Setting
write_different_tables = two_tables 2 (row 1 100 ∷ []) (row 1 7 ∷ [])
    ((commits (insert 1 (row 2 8) ∷ []) ∷ []) ∷ (commits (set_balance 0 1 90 ∷ []) ∷ []) ∷ [])

abbrev pub one_writes_one_reads : Setting
one_writes_one_reads = one_table 2 hundreds
    ((commits (set_balance 0 1 50 ∷ set_balance 0 1 90 ∷ []) ∷ []) ∷ (commits (read_balance 0 1 ∷ read_balance 0 1 ∷ []) ∷ []) ∷ [])

abbrev pub one_reads_twice : Setting
one_reads_twice = one_table 2 hundreds
    ((commits (set_balance 0 1 90 ∷ []) ∷ []) ∷ (commits (read_balance 0 1 ∷ []) ∷ commits (read_balance 0 1 ∷ []) ∷ []) ∷ [])

abbrev pub one_undoes_one_reads : Setting
one_undoes_one_reads =
    one_table 2 hundreds ((rolls_back (set_balance 0 1 90 ∷ []) ∷ []) ∷ (commits (read_balance 0 1 ∷ []) ∷ []) ∷ [])

-- a and b add to one balance, c reads it
abbrev pub add_to_one : Setting
add_to_one = one_table 2 hundreds
    ((commits (add_to_balance 0 1 (int 10) ∷ []) ∷ []) ∷ (commits (add_to_balance 0 1 (int 5) ∷ []) ∷ []) ∷ (commits (read_balance 0 1 ∷ []) ∷ []) ∷ [])

abbrev pub set_one_and_undo : Setting
set_one_and_undo =
    one_table 2 hundreds ((rolls_back (set_balance 0 1 90 ∷ []) ∷ []) ∷ (commits (set_balance 0 1 80 ∷ []) ∷ []) ∷ [])

-- a undoes what it did to account 1 and goes on with account 2; b sets account 1
abbrev pub undo_and_go_on : Setting
undo_and_go_on = one_table 2 hundreds
    ((rolls_back (set_balance 0 1 90 ∷ []) ∷ commits (set_balance 0 2 90 ∷ []) ∷ []) ∷ (commits (set_balance 0 1 80 ∷ []) ∷ []) ∷ [])

-- both sum all balances, and take 150 from one account each
abbrev pub skew : Setting
skew = one_table 2 hundreds
    ((commits (sum_balances 0 ∷ add_to_balance 0 1 (minus 150) ∷ []) ∷ [])
    ∷ (commits (sum_balances 0 ∷ add_to_balance 0 2 (minus 150) ∷ []) ∷ []) ∷ [])

-- a inserts an account; b counts the accounts and writes another
abbrev pub count_and_insert : Setting
count_and_insert = one_table 3 hundreds
    ((commits (insert 0 (row 3 70) ∷ []) ∷ []) ∷ (commits (count_accounts 0 ∷ set_balance 0 1 90 ∷ []) ∷ []) ∷ [])

-- a sets a balance; b reads the numbers of the accounts and sets another balance
abbrev pub read_other_column : Setting
read_other_column = one_table 2 hundreds
    ((commits (set_balance 0 1 90 ∷ []) ∷ []) ∷ (commits (read_numbers 0 ∷ set_balance 0 2 80 ∷ []) ∷ []) ∷ [])

-- a sets a balance of over 50 to another one of over 50; b counts those, and sets another balance
abbrev pub count_what_stays : Setting
count_what_stays = one_table 2 hundreds
    ((commits (set_balance 0 1 90 ∷ []) ∷ []) ∷ (commits (count_over 0 50 ∷ set_balance 0 2 80 ∷ []) ∷ []) ∷ [])

-- a and c set a balance each; b sums all, and sets a third
abbrev pub sum_and_write : Setting
sum_and_write = one_table 3 (row 1 100 ∷ row 2 100 ∷ row 3 100 ∷ [])
    ((commits (set_balance 0 1 90 ∷ []) ∷ []) ∷ (commits (sum_balances 0 ∷ set_balance 0 3 70 ∷ []) ∷ []) ∷ (commits (set_balance 0 2 80 ∷ []) ∷ []) ∷ [])

-- a sets a balance; b reads it and sets another; then b reads it again
abbrev pub read_write_and_read : Setting
read_write_and_read = one_table 2 hundreds
    ((commits (set_balance 0 1 90 ∷ []) ∷ [])
    ∷ (commits (read_balance 0 1 ∷ set_balance 0 2 80 ∷ []) ∷ commits (read_balance 0 1 ∷ []) ∷ []) ∷ [])

-- a inserts and undoes it; c inserts, and b writes the row of c
abbrev pub insert_where_one_was_undone : Setting
insert_where_one_was_undone = one_table 3 hundreds
    ((rolls_back (insert 0 (row 4 50) ∷ []) ∷ []) ∷ (commits (set_balance 0 3 90 ∷ []) ∷ []) ∷ (commits (insert 0 (row 3 70) ∷ []) ∷ []) ∷ [])

-- a takes the last place and undoes it; b inserts too
abbrev pub take_the_last_place : Setting
take_the_last_place =
    one_table 2 (row 1 100 ∷ []) ((rolls_back (insert 0 (row 2 50) ∷ []) ∷ []) ∷ (commits (insert 0 (row 3 70) ∷ []) ∷ []) ∷ [])

-- a takes a place and undoes it, twice; b inserts too
abbrev pub take_a_place_twice : Setting
take_a_place_twice = one_table 3 (row 1 100 ∷ [])
    ((rolls_back (insert 0 (row 2 50) ∷ []) ∷ rolls_back (insert 0 (row 2 50) ∷ []) ∷ []) ∷ (commits (insert 0 (row 3 70) ∷ []) ∷ []) ∷ [])

-- both add to all balances
abbrev pub add_to_both : Setting
add_to_both = one_table 2 hundreds ((commits (add_to_all 0 (int 1) ∷ []) ∷ []) ∷ (commits (add_to_all 0 (int 2) ∷ []) ∷ []) ∷ [])

-- a sets the second balance; b adds to both, and to the first too much
abbrev pub set_one_and_add_too_much : Setting
set_one_and_add_too_much = one_table 2 (row 1 greatest ∷ row 2 100 ∷ [])
    ((commits (set_balance 0 2 90 ∷ []) ∷ []) ∷ (commits (add_to_all 0 (int 1) ∷ []) ∷ []) ∷ [])

-- a inserts, and then sets a balance; b inserts and sets the same balance
abbrev pub insert_and_set : Setting
insert_and_set = one_table 3 hundreds
    ((commits (insert 0 (row 3 70) ∷ []) ∷ rolls_back (set_balance 0 1 90 ∷ []) ∷ [])
    ∷ (commits (insert 0 (row 4 50) ∷ set_balance 0 1 80 ∷ []) ∷ []) ∷ [])

-- a sets the balance of an account; b sums the balances of the accounts that table 1 names, which is account 2, and inserts
abbrev pub set_and_join : ℕ → Setting
set_and_join account = two_tables 2 hundreds (row 1 2 ∷ [])
    ((commits (set_balance 0 account 90 ∷ []) ∷ []) ∷ (commits (sum_of_named 1 ∷ insert 1 (row 2 1) ∷ []) ∷ []) ∷ [])

-- ---- savepoints

-- a sets a balance and takes that back; b sets it
abbrev pub takes_back : Setting
takes_back = one_table 2 hundreds
    ((commits (saves ∷ set_balance 0 1 90 ∷ goes_back ∷ []) ∷ []) ∷ (commits (set_balance 0 1 80 ∷ []) ∷ []) ∷ [])

-- a sets a balance, reads the points of the accounts that have it, takes it back and inserts; b sets the points
abbrev pub reads_by_what_it_takes_back : Setting
reads_by_what_it_takes_back = record {
  chunks = 1;
  rows = 2;
  shapes = pointed_accounts ∷ accounts ∷ [];
  first = (pointed 1 100 0 ∷ []) ∷ [] ∷ [];
  programs =
      (commits (saves ∷ set_balance 0 1 1 ∷ read_points_at 0 1 ∷ goes_back ∷ insert 1 (row 7 7) ∷ []) ∷ [])
      ∷ (commits (set_points 0 1 9 ∷ []) ∷ []) ∷ [];
}

-- a counts behind a savepoint, goes back and inserts; b sets a balance that was counted
abbrev pub counts_and_goes_back : Setting
counts_and_goes_back = two_tables 2 hundreds []
    ((commits (saves ∷ count_over 0 50 ∷ goes_back ∷ insert 1 (row 7 7) ∷ []) ∷ []) ∷ (commits (set_balance 0 1 5 ∷ []) ∷ []) ∷ [])

-- one sets a balance, and takes back what it deletes and inserts behind a savepoint
abbrev pub goes_back_to_what_it_wrote : Setting
goes_back_to_what_it_wrote = one_table 3 hundreds
    ((commits (set_balance 0 1 90 ∷ saves ∷ delete 0 2 ∷ insert 0 (row 3 70) ∷ goes_back ∷ read_all 0 ∷ []) ∷ []) ∷ [])

-- two savepoints of one name: one goes back to the newer, releases it, and goes back to the older
abbrev pub goes_back_twice : Setting
goes_back_twice = one_table 2 hundreds ((rolls_back (saves ∷ set_balance 0 1 90 ∷ saves ∷ set_balance 0 1 80 ∷ goes_back ∷ read_balance 0 1
    ∷ releases ∷ goes_back ∷ read_balance 0 1 ∷ []) ∷ []) ∷ [])
