-- Outcomes that the engine gives: they are lawful and serializable.
use Rattle.std.specs.Prelude.{List, [], ◌∷◌, None, Some}
use Rattle.hy_bound.specs.declared.Reply.TheVariants.{Inserted, Duplicate, Updated, Deleted, Saved, Back, Released}
use Rattle.hy_bound.specs.declared.schedule.Item.{Item}
use Rattle.hy_bound.specs.declared.Ending.TheVariants.{Committed, Read, RolledBack, Conflict, Invalid, Range, Full}
use Rattle.hy_cases.specs.Words.{int, greatest, row, overdrawn, pointed, goes, a1, a2, b1, b2, c1, at, change, told, entry, rows, balance, total, group, groups}
use Rattle.hy_cases.specs.Scripts as script
use Rattle.hy_cases.specs.Scripts.{hundreds}
use Rattle.hy_cases.specs.Cases.{Case, IsRight}

-- ---- one transaction

-- one that only reads: rows ascend, and a sum is of all of them
abbrev pub reader : Case
reader = record {
  setting = script.reads;
  outcome = record {
    txns = told a1 0 (rows (row 1 100 ∷ row 2 40 ∷ []) ∷ balance 40 ∷ total 140 ∷ []) Read [] (0 ∷ []) ∷ [];
    order = [];
    tables = (row 1 100 ∷ row 2 40 ∷ []) ∷ [];
  };
}

-- one that counts the rows of each balance
abbrev pub group_reader : Case
group_reader = record {
  setting = script.reads_groups;
  outcome = record {
    txns = told a1 0 (groups (group 40 1 ∷ group 100 2 ∷ []) ∷ []) Read [] (0 ∷ []) ∷ [];
    order = [];
    tables = (row 1 100 ∷ row 2 40 ∷ row 3 100 ∷ []) ∷ [];
  };
}

-- one that writes
abbrev pub writer : Case
writer = record {
  setting = script.writes;
  outcome = record {
    txns = told a1 0 (Updated 1 ∷ []) (Committed 0) (at 0 0 ∷ []) (0 ∷ []) ∷ [];
    order = entry a1 (change 0 0 (Some (row 1 100)) (Some (row 1 90)) ∷ []) ∷ [];
    tables = (row 1 90 ∷ row 2 100 ∷ []) ∷ [];
  };
}

-- one that reads what it wrote
abbrev pub own_write : Case
own_write = record {
  setting = script.reads_what_it_wrote;
  outcome = record {
    txns = told a1 0 (Updated 1 ∷ balance 90 ∷ []) (Committed 0) (at 0 0 ∷ []) (0 ∷ []) ∷ [];
    order = entry a1 (change 0 0 (Some (row 1 100)) (Some (row 1 90)) ∷ []) ∷ [];
    tables = (row 1 90 ∷ row 2 100 ∷ []) ∷ [];
  };
}

-- one that doesn't see the row that it deleted
abbrev pub own_delete : Case
own_delete = record {
  setting = script.reads_what_it_deleted;
  outcome = record {
    txns = told a1 0 (Deleted 1 ∷ rows (row 2 100 ∷ []) ∷ []) (Committed 0) (at 0 0 ∷ []) (0 ∷ []) ∷ [];
    order = entry a1 (change 0 0 (Some (row 1 100)) None ∷ []) ∷ [];
    tables = (row 2 100 ∷ []) ∷ [];
  };
}

-- an INSERT at a free place
abbrev pub new_row : Case
new_row = record {
  setting = script.inserts;
  outcome = record {
    txns = told a1 0 (Inserted ∷ []) (Committed 0) (at 0 2 ∷ []) (1 ∷ []) ∷ [];
    order = entry a1 (change 0 2 None (Some (row 3 70)) ∷ []) ∷ [];
    tables = (row 1 100 ∷ row 2 100 ∷ row 3 70 ∷ []) ∷ [];
  };
}

-- a row that comes and goes in one transaction is no change, though its place was written
abbrev pub came_and_went : Case
came_and_went = record {
  setting = script.inserts_and_deletes;
  outcome = record {
    txns = told a1 0 (Inserted ∷ Deleted 1 ∷ []) (Committed 0) (at 0 2 ∷ []) (1 ∷ []) ∷ [];
    order = entry a1 [] ∷ [];
    tables = hundreds ∷ [];
  };
}

-- one that writes all rows
abbrev pub all_written : Case
all_written = record {
  setting = script.adds_to_all;
  outcome = record {
    txns = told a1 0 (Updated 2 ∷ []) (Committed 0) (at 0 0 ∷ at 0 1 ∷ []) (0 ∷ []) ∷ [];
    order = entry a1 (change 0 0 (Some (row 1 100)) (Some (row 1 101)) ∷ change 0 1 (Some (row 2 100)) (Some (row 2 101)) ∷ []) ∷ [];
    tables = (row 1 101 ∷ row 2 101 ∷ []) ∷ [];
  };
}

-- an INSERT of a key that is there: nothing is written, so the transaction is one that read
abbrev pub duplicate : Case
duplicate = record {
  setting = script.inserts_again;
  outcome = record {
    txns = told a1 0 (Duplicate ∷ []) Read [] (0 ∷ []) ∷ [];
    order = [];
    tables = hundreds ∷ [];
  };
}

-- an INSERT into a table that has no place left
abbrev pub no_room : Case
no_room = record {
  setting = script.inserts_without_room;
  outcome = record {
    txns = told a1 0 [] (Full 0) [] (0 ∷ []) ∷ [];
    order = [];
    tables = hundreds ∷ [];
  };
}

-- an UPDATE to a number that is too large, after one that is undone
abbrev pub out_of_range : Case
out_of_range = record {
  setting = script.adds_too_much;
  outcome = record {
    txns = told a1 0 (Updated 1 ∷ []) (Range 0 1) (at 0 0 ∷ []) (0 ∷ []) ∷ [];
    order = [];
    tables = hundreds ∷ [];
  };
}

-- an UPDATE to a number that is too large, of a row that was inserted before
abbrev pub own_row_out_of_range : Case
own_row_out_of_range = record {
  setting = script.inserts_and_adds;
  outcome = record {
    txns = told a1 0 (Inserted ∷ []) (Range 0 2) (at 0 2 ∷ []) (1 ∷ []) ∷ [];
    order = [];
    tables = hundreds ∷ [];
  };
}

-- an UPDATE that has written the chunk before the one in which a number is too large
abbrev pub chunk_before : Case
chunk_before = record {
  setting = script.adds_to_two_chunks;
  outcome = record {
    txns = told a1 0 [] (Range 0 1) (at 0 0 ∷ []) (0 ∷ []) ∷ [];
    order = [];
    tables = (row 1 100 ∷ row 2 greatest ∷ []) ∷ [];
  };
}

-- ---- two transactions of one session

-- a session reads what it has committed
abbrev pub own_commit : Case
own_commit = record {
  setting = script.writes_then_reads;
  outcome = record {
    txns =
        told a1 0 (Updated 1 ∷ []) (Committed 0) (at 0 0 ∷ []) (0 ∷ [])
        ∷ told a2 1 (balance 90 ∷ []) Read [] (0 ∷ []) ∷ [];
    order = entry a1 (change 0 0 (Some (row 1 100)) (Some (row 1 90)) ∷ []) ∷ [];
    tables = (row 1 90 ∷ row 2 100 ∷ []) ∷ [];
  };
}

-- a deleted row leaves its place to a row that is inserted later
abbrev pub place_used_again : Case
place_used_again = record {
  setting = script.deletes_then_inserts;
  outcome = record {
    txns =
        told a1 0 (Deleted 1 ∷ []) (Committed 0) (at 0 0 ∷ []) (0 ∷ [])
        ∷ told a2 1 (Inserted ∷ rows (row 2 100 ∷ row 3 70 ∷ []) ∷ []) (Committed 1) (at 0 0 ∷ []) (1 ∷ []) ∷ [];
    order =
        entry a1 (change 0 0 (Some (row 1 100)) None ∷ [])
        ∷ entry a2 (change 0 0 None (Some (row 3 70)) ∷ []) ∷ [];
    tables = (row 2 100 ∷ row 3 70 ∷ []) ∷ [];
  };
}

-- ---- two or three sessions

-- a script without transactions
abbrev pub nothing : Case
nothing = record { setting = script.no_sessions; outcome = record { txns = []; order = []; tables = hundreds ∷ [] } }

-- an INSERT that is rolled back, and isn't seen
abbrev pub insert_undone : Case
insert_undone = record {
  setting = script.inserts_and_rolls_back;
  outcome = record {
    txns =
        told a1 0 (Inserted ∷ []) RolledBack (at 0 2 ∷ []) (1 ∷ [])
        ∷ told b1 0 (rows hundreds ∷ []) Read [] (0 ∷ []) ∷ [];
    order = [];
    tables = hundreds ∷ [];
  };
}

-- two that write different rows at the same time
abbrev pub different_rows : Case
different_rows = record {
  setting = script.write_different_rows;
  outcome = record {
    txns =
        told a1 0 (Updated 1 ∷ []) (Committed 0) (at 0 0 ∷ []) (0 ∷ [])
        ∷ told b1 0 (Updated 1 ∷ []) (Committed 1) (at 0 1 ∷ []) (0 ∷ []) ∷ [];
    order =
        entry a1 (change 0 0 (Some (row 1 100)) (Some (row 1 90)) ∷ [])
        ∷ entry b1 (change 0 1 (Some (row 2 100)) (Some (row 2 80)) ∷ []) ∷ [];
    tables = (row 1 90 ∷ row 2 80 ∷ []) ∷ [];
  };
}

-- two that write different tables at the same time
abbrev pub different_tables : Case
different_tables = record {
  setting = script.write_different_tables;
  outcome = record {
    txns =
        told a1 0 (Inserted ∷ []) (Committed 0) (at 1 1 ∷ []) (0 ∷ 1 ∷ [])
        ∷ told b1 0 (Updated 1 ∷ []) (Committed 1) (at 0 0 ∷ []) (0 ∷ 0 ∷ []) ∷ [];
    order =
        entry a1 (change 1 1 None (Some (row 2 8)) ∷ [])
        ∷ entry b1 (change 0 0 (Some (row 1 100)) (Some (row 1 90)) ∷ []) ∷ [];
    tables = (row 1 90 ∷ []) ∷ (row 1 7 ∷ row 2 8 ∷ []) ∷ [];
  };
}

-- a reader that began before a commit reads, before it and after it, what was there at its start
abbrev pub old_reader : Case
old_reader = record {
  setting = script.one_writes_one_reads;
  outcome = record {
    txns =
        told a1 0 (Updated 1 ∷ Updated 1 ∷ []) (Committed 0) (at 0 0 ∷ []) (0 ∷ [])
        ∷ told b1 0 (balance 100 ∷ balance 100 ∷ []) Read [] (0 ∷ []) ∷ [];
    order = entry a1 (change 0 0 (Some (row 1 100)) (Some (row 1 90)) ∷ []) ∷ [];
    tables = (row 1 90 ∷ row 2 100 ∷ []) ∷ [];
  };
}

-- a session reads before a commit and after it
abbrev pub before_and_after : Case
before_and_after = record {
  setting = script.one_reads_twice;
  outcome = record {
    txns =
        told a1 0 (Updated 1 ∷ []) (Committed 0) (at 0 0 ∷ []) (0 ∷ [])
        ∷ told b1 0 (balance 100 ∷ []) Read [] (0 ∷ [])
        ∷ told b2 1 (balance 90 ∷ []) Read [] (0 ∷ []) ∷ [];
    order = entry a1 (change 0 0 (Some (row 1 100)) (Some (row 1 90)) ∷ []) ∷ [];
    tables = (row 1 90 ∷ row 2 100 ∷ []) ∷ [];
  };
}

-- a reader of what another one wrote and undoes
abbrev pub undone_unseen : Case
undone_unseen = record {
  setting = script.one_undoes_one_reads;
  outcome = record {
    txns =
        told a1 0 (Updated 1 ∷ []) RolledBack (at 0 0 ∷ []) (0 ∷ [])
        ∷ told b1 0 (balance 100 ∷ []) Read [] (0 ∷ []) ∷ [];
    order = [];
    tables = hundreds ∷ [];
  };
}

-- two add to one balance at the same time: the second is refused; a third one reads
abbrev pub conflict : Case
conflict = record {
  setting = script.add_to_one;
  outcome = record {
    txns =
        told a1 0 (Updated 1 ∷ []) (Committed 0) (at 0 0 ∷ []) (0 ∷ [])
        ∷ told b1 0 [] (Conflict 0 0 a1) [] (0 ∷ [])
        ∷ told c1 0 (balance 100 ∷ []) Read [] (0 ∷ []) ∷ [];
    order = entry a1 (change 0 0 (Some (row 1 100)) (Some (row 1 110)) ∷ []) ∷ [];
    tables = (row 1 110 ∷ row 2 100 ∷ []) ∷ [];
  };
}

-- they do so one after another, and then the third one reads: all go well
abbrev pub in_turn : Case
in_turn = record {
  setting = script.add_to_one;
  outcome = record {
    txns =
        told a1 0 (Updated 1 ∷ []) (Committed 0) (at 0 0 ∷ []) (0 ∷ [])
        ∷ told b1 1 (Updated 1 ∷ []) (Committed 1) (at 0 0 ∷ []) (0 ∷ [])
        ∷ told c1 2 (balance 115 ∷ []) Read [] (0 ∷ []) ∷ [];
    order =
        entry a1 (change 0 0 (Some (row 1 100)) (Some (row 1 110)) ∷ [])
        ∷ entry b1 (change 0 0 (Some (row 1 110)) (Some (row 1 115)) ∷ []) ∷ [];
    tables = (row 1 115 ∷ row 2 100 ∷ []) ∷ [];
  };
}

-- a conflict with one that is rolled back later
abbrev pub undone_rival : Case
undone_rival = record {
  setting = script.set_one_and_undo;
  outcome = record {
    txns =
        told a1 0 (Updated 1 ∷ []) RolledBack (at 0 0 ∷ []) (0 ∷ [])
        ∷ told b1 0 [] (Conflict 0 0 a1) [] (0 ∷ []) ∷ [];
    order = [];
    tables = hundreds ∷ [];
  };
}

-- what is undone is in nobody's way
abbrev pub undone_before : Case
undone_before = record {
  setting = script.undo_and_go_on;
  outcome = record {
    txns =
        told a1 0 (Updated 1 ∷ []) RolledBack (at 0 0 ∷ []) (0 ∷ [])
        ∷ told a2 0 (Updated 1 ∷ []) (Committed 0) (at 0 1 ∷ []) (0 ∷ [])
        ∷ told b1 1 (Updated 1 ∷ []) (Committed 1) (at 0 0 ∷ []) (0 ∷ []) ∷ [];
    order =
        entry a2 (change 0 1 (Some (row 2 100)) (Some (row 2 90)) ∷ [])
        ∷ entry b1 (change 0 0 (Some (row 1 100)) (Some (row 1 80)) ∷ []) ∷ [];
    tables = (row 1 80 ∷ row 2 90 ∷ []) ∷ [];
  };
}

-- an INSERT that was undone leaves its place to another one, whose row is then written
abbrev pub place_given_back : Case
place_given_back = record {
  setting = script.insert_where_one_was_undone;
  outcome = record {
    txns =
        told a1 0 (Inserted ∷ []) RolledBack (at 0 2 ∷ []) (1 ∷ [])
        ∷ told b1 1 (Updated 1 ∷ []) (Committed 1) (at 0 2 ∷ []) (0 ∷ [])
        ∷ told c1 0 (Inserted ∷ []) (Committed 0) (at 0 2 ∷ []) (1 ∷ []) ∷ [];
    order =
        entry c1 (change 0 2 None (Some (row 3 70)) ∷ [])
        ∷ entry b1 (change 0 2 (Some (row 3 70)) (Some (row 3 90)) ∷ []) ∷ [];
    tables = (row 1 100 ∷ row 2 100 ∷ row 3 90 ∷ []) ∷ [];
  };
}

-- a write skew: of two that read what the other writes, the second is refused
abbrev pub skew_refused : Case
skew_refused = record {
  setting = script.skew;
  outcome = record {
    txns =
        told a1 0 (total 200 ∷ Updated 1 ∷ []) (Committed 0) (at 0 0 ∷ []) (0 ∷ [])
        ∷ told b1 0 (total 200 ∷ Updated 1 ∷ []) (Invalid 0 0 a1 1) (at 0 1 ∷ []) (0 ∷ []) ∷ [];
    order = entry a1 (change 0 0 (Some (row 1 100)) (Some (overdrawn 1 50)) ∷ []) ∷ [];
    tables = (overdrawn 1 50 ∷ row 2 100 ∷ []) ∷ [];
  };
}

-- a phantom: a row comes that was to be counted, and the one that counted is refused
abbrev pub phantom_refused : Case
phantom_refused = record {
  setting = script.count_and_insert;
  outcome = record {
    txns =
        told a1 0 (Inserted ∷ []) (Committed 0) (at 0 2 ∷ []) (1 ∷ [])
        ∷ told b1 0 (total 2 ∷ Updated 1 ∷ []) (Invalid 0 2 a1 1) (at 0 0 ∷ []) (0 ∷ []) ∷ [];
    order = entry a1 (change 0 2 None (Some (row 3 70)) ∷ []) ∷ [];
    tables = (row 1 100 ∷ row 2 100 ∷ row 3 70 ∷ []) ∷ [];
  };
}

-- a change on a column that wasn't read: both commit
abbrev pub other_column : Case
other_column = record {
  setting = script.read_other_column;
  outcome = record {
    txns =
        told a1 0 (Updated 1 ∷ []) (Committed 0) (at 0 0 ∷ []) (0 ∷ [])
        ∷ told b1 0 (rows ((int 1 ∷ []) ∷ (int 2 ∷ []) ∷ []) ∷ Updated 1 ∷ []) (Committed 1) (at 0 1 ∷ []) (0 ∷ []) ∷ [];
    order =
        entry a1 (change 0 0 (Some (row 1 100)) (Some (row 1 90)) ∷ [])
        ∷ entry b1 (change 0 1 (Some (row 2 100)) (Some (row 2 80)) ∷ []) ∷ [];
    tables = (row 1 90 ∷ row 2 80 ∷ []) ∷ [];
  };
}

-- a change of a row that is counted before and after it: refused, though the count is the same
abbrev pub hit_without_effect : Case
hit_without_effect = record {
  setting = script.count_what_stays;
  outcome = record {
    txns =
        told a1 0 (Updated 1 ∷ []) (Committed 0) (at 0 0 ∷ []) (0 ∷ [])
        ∷ told b1 0 (total 2 ∷ Updated 1 ∷ []) (Invalid 0 0 a1 1) (at 0 1 ∷ []) (0 ∷ []) ∷ [];
    order = entry a1 (change 0 0 (Some (row 1 100)) (Some (row 1 90)) ∷ []) ∷ [];
    tables = (row 1 90 ∷ row 2 100 ∷ []) ∷ [];
  };
}

-- two changes hit what one read: the first of them is named
abbrev pub first_hit_named : Case
first_hit_named = record {
  setting = script.sum_and_write;
  outcome = record {
    txns =
        told a1 0 (Updated 1 ∷ []) (Committed 0) (at 0 0 ∷ []) (0 ∷ [])
        ∷ told b1 0 (total 300 ∷ Updated 1 ∷ []) (Invalid 0 0 a1 1) (at 0 2 ∷ []) (0 ∷ [])
        ∷ told c1 0 (Updated 1 ∷ []) (Committed 1) (at 0 1 ∷ []) (0 ∷ []) ∷ [];
    order =
        entry a1 (change 0 0 (Some (row 1 100)) (Some (row 1 90)) ∷ [])
        ∷ entry c1 (change 0 1 (Some (row 2 100)) (Some (row 2 80)) ∷ []) ∷ [];
    tables = (row 1 90 ∷ row 2 80 ∷ row 3 100 ∷ []) ∷ [];
  };
}

-- one that was refused by a commit; the next transaction of its session reads what was committed
abbrev pub refused_then_reads : Case
refused_then_reads = record {
  setting = script.read_write_and_read;
  outcome = record {
    txns =
        told a1 0 (Updated 1 ∷ []) (Committed 0) (at 0 0 ∷ []) (0 ∷ [])
        ∷ told b1 0 (balance 100 ∷ Updated 1 ∷ []) (Invalid 0 0 a1 1) (at 0 1 ∷ []) (0 ∷ [])
        ∷ told b2 1 (balance 90 ∷ []) Read [] (0 ∷ []) ∷ [];
    order = entry a1 (change 0 0 (Some (row 1 100)) (Some (row 1 90)) ∷ []) ∷ [];
    tables = (row 1 90 ∷ row 2 100 ∷ []) ∷ [];
  };
}

-- a change of a row that is joined: refused
abbrev pub join_refused : Case
join_refused = record {
  setting = script.set_and_join 2;
  outcome = record {
    txns =
        told a1 0 (Updated 1 ∷ []) (Committed 0) (at 0 1 ∷ []) (0 ∷ 0 ∷ [])
        ∷ told b1 0 (total 100 ∷ Inserted ∷ []) (Invalid 0 1 a1 1) (at 1 1 ∷ []) (0 ∷ 1 ∷ []) ∷ [];
    order = entry a1 (change 0 1 (Some (row 2 100)) (Some (row 2 90)) ∷ []) ∷ [];
    tables = (row 1 100 ∷ row 2 90 ∷ []) ∷ (row 1 2 ∷ []) ∷ [];
  };
}

-- a change of a row that is not joined: both commit
abbrev pub join_passed_by : Case
join_passed_by = record {
  setting = script.set_and_join 1;
  outcome = record {
    txns =
        told a1 0 (Updated 1 ∷ []) (Committed 0) (at 0 0 ∷ []) (0 ∷ 0 ∷ [])
        ∷ told b1 0 (total 100 ∷ Inserted ∷ []) (Committed 1) (at 1 1 ∷ []) (0 ∷ 1 ∷ []) ∷ [];
    order =
        entry a1 (change 0 0 (Some (row 1 100)) (Some (row 1 90)) ∷ [])
        ∷ entry b1 (change 1 1 None (Some (row 2 1)) ∷ []) ∷ [];
    tables = (row 1 90 ∷ row 2 100 ∷ []) ∷ (row 1 2 ∷ row 2 1 ∷ []) ∷ [];
  };
}

-- the last place is taken by one that undoes it later
abbrev pub room_taken : Case
room_taken = record {
  setting = script.take_the_last_place;
  outcome = record {
    txns =
        told a1 0 (Inserted ∷ []) RolledBack (at 0 1 ∷ []) (1 ∷ [])
        ∷ told b1 0 [] (Full 0) [] (0 ∷ []) ∷ [];
    order = [];
    tables = (row 1 100 ∷ []) ∷ [];
  };
}

-- ---- savepoints

-- what is taken back stays one's own until the end: another one can't write it, and it changes to what it was
abbrev pub held_though_taken_back : Case
held_though_taken_back = record {
  setting = script.takes_back;
  outcome = record {
    txns =
        told a1 0 (Saved ∷ Updated 1 ∷ Back ∷ []) (Committed 0) (at 0 0 ∷ []) (0 ∷ [])
        ∷ told b1 0 [] (Conflict 0 0 a1) [] (0 ∷ []) ∷ [];
    order = entry a1 (change 0 0 (Some (row 1 100)) (Some (row 1 100)) ∷ []) ∷ [];
    tables = hundreds ∷ [];
  };
}

-- so nobody changes what was read by it: no record tells of a row that only its writer saw so
abbrev pub held_without_a_record : Case
held_without_a_record = record {
  setting = script.reads_by_what_it_takes_back;
  outcome = record {
    txns =
        told a1 0 (Saved ∷ Updated 1 ∷ rows ((int 0 ∷ []) ∷ []) ∷ Back ∷ Inserted ∷ []) (Committed 0) (at 0 0 ∷ at 1 0 ∷ []) (0 ∷ 1 ∷ [])
        ∷ told b1 0 [] (Conflict 0 0 a1) [] (0 ∷ 0 ∷ []) ∷ [];
    order =
        entry a1 (change 0 0 (Some (pointed 1 100 0)) (Some (pointed 1 100 0)) ∷ change 1 0 None (Some (row 7 7)) ∷ []) ∷ [];
    tables = (pointed 1 100 0 ∷ []) ∷ (row 7 7 ∷ []) ∷ [];
  };
}

-- what was read behind a savepoint counts, though it was gone back: a change of it refuses the reader
abbrev pub records_stay : Case
records_stay = record {
  setting = script.counts_and_goes_back;
  outcome = record {
    txns =
        told a1 0 (Saved ∷ total 2 ∷ Back ∷ Inserted ∷ []) (Invalid 0 0 b1 2) (at 1 0 ∷ []) (0 ∷ 1 ∷ [])
        ∷ told b1 0 (Updated 1 ∷ []) (Committed 0) (at 0 0 ∷ []) (0 ∷ 0 ∷ []) ∷ [];
    order = entry b1 (change 0 0 (Some (row 1 100)) (Some (row 1 5)) ∷ []) ∷ [];
    tables = (row 1 5 ∷ row 2 100 ∷ []) ∷ [] ∷ [];
  };
}

-- one goes back to what it had written before the savepoint; an insert that is taken back is no change, though it is counted
abbrev pub own_write_kept : Case
own_write_kept = record {
  setting = script.goes_back_to_what_it_wrote;
  outcome = record {
    txns =
        told a1 0 (Updated 1 ∷ Saved ∷ Deleted 1 ∷ Inserted ∷ Back ∷ rows (row 1 90 ∷ row 2 100 ∷ []) ∷ []) (Committed 0)
        (at 0 0 ∷ at 0 1 ∷ at 0 2 ∷ []) (1 ∷ []) ∷ [];
    order =
        entry a1 (change 0 0 (Some (row 1 100)) (Some (row 1 90)) ∷ change 0 1 (Some (row 2 100)) (Some (row 2 100)) ∷ []) ∷ [];
    tables = (row 1 90 ∷ row 2 100 ∷ []) ∷ [];
  };
}

-- of two savepoints of one name the newer counts, until it is released
abbrev pub newest_counts : Case
newest_counts = record {
  setting = script.goes_back_twice;
  outcome = record {
    txns =
        told a1 0 (Saved ∷ Updated 1 ∷ Saved ∷ Updated 1 ∷ Back ∷ balance 90 ∷ Released ∷ Back ∷ balance 100 ∷ []) RolledBack (at 0 0 ∷ []) (0 ∷ [])
        ∷ [];
    order = [];
    tables = hundreds ∷ [];
  };
}

-- ---- what is claimed of them, with a schedule each

-- the sessions go one after another, as far as they can
abbrev pub by_itself : List Item
by_itself = []

-- a and b begin, and then both go on, a first
abbrev pub together : List Item
together = goes 0 ∷ goes 1 ∷ []

pub record RightOutcomes : Type 0 where
  pub reads : IsRight reader by_itself
  pub reads_groups : IsRight group_reader by_itself
  pub writes : IsRight writer by_itself
  pub reads_its_own_write : IsRight own_write by_itself
  pub does_not_read_its_own_delete : IsRight own_delete by_itself
  pub inserts : IsRight new_row by_itself
  pub inserts_and_deletes : IsRight came_and_went by_itself
  pub writes_all : IsRight all_written by_itself
  pub is_told_of_a_duplicate : IsRight duplicate by_itself
  pub is_told_that_the_table_is_full : IsRight no_room by_itself
  pub is_out_of_range : IsRight out_of_range by_itself
  pub is_out_of_range_at_its_own_row : IsRight own_row_out_of_range by_itself
  pub is_out_of_range_in_the_second_chunk : IsRight chunk_before by_itself
  pub reads_its_own_commit : IsRight own_commit by_itself
  pub uses_a_place_again : IsRight place_used_again by_itself
  pub does_nothing : IsRight nothing by_itself
  pub rolls_back_an_insert : IsRight insert_undone together
  pub write_different_rows : IsRight different_rows together
  pub write_different_tables : IsRight different_tables together
  pub reads_its_start : IsRight old_reader (goes 0 ∷ goes 1 ∷ goes 0 ∷ goes 1 ∷ goes 0 ∷ goes 0 ∷ [])
  pub reads_before_and_after : IsRight before_and_after (goes 1 ∷ goes 0 ∷ [])
  pub reads_what_was_before_an_undone_write : IsRight undone_unseen together
  pub conflicts : IsRight conflict (goes 0 ∷ goes 1 ∷ goes 2 ∷ [])
  pub write_in_turn : IsRight in_turn (goes 0 ∷ goes 0 ∷ goes 0 ∷ goes 1 ∷ goes 1 ∷ goes 1 ∷ [])
  pub conflicts_with_one_that_is_undone : IsRight undone_rival together
  pub writes_where_one_was_undone : IsRight undone_before (goes 0 ∷ goes 0 ∷ goes 0 ∷ goes 0 ∷ goes 0 ∷ goes 0 ∷ [])
  pub inserts_where_one_was_undone : IsRight place_given_back (goes 0 ∷ goes 0 ∷ goes 0 ∷ goes 2 ∷ goes 2 ∷ goes 2 ∷ [])
  pub refuses_a_write_skew : IsRight skew_refused together
  pub refuses_a_phantom : IsRight phantom_refused together
  pub passes_by_another_column : IsRight other_column together
  pub refuses_a_hit_without_effect : IsRight hit_without_effect together
  pub names_the_first_hit : IsRight first_hit_named (goes 0 ∷ goes 1 ∷ goes 2 ∷ goes 0 ∷ goes 2 ∷ goes 0 ∷ goes 2 ∷ [])
  pub reads_after_it_was_refused : IsRight refused_then_reads together
  pub refuses_a_hit_of_a_join : IsRight join_refused together
  pub passes_by_what_is_not_joined : IsRight join_passed_by together
  pub has_no_room_beside_another : IsRight room_taken together
  pub holds_what_it_took_back : IsRight held_though_taken_back (goes 0 ∷ goes 0 ∷ goes 1 ∷ goes 0 ∷ goes 0 ∷ goes 1 ∷ [])
  pub holds_what_it_read_by_what_it_took_back : IsRight held_without_a_record
      (goes 0 ∷ goes 1 ∷ goes 0 ∷ goes 0 ∷ goes 0 ∷ goes 0 ∷ goes 1 ∷ [])
  pub keeps_records_when_it_goes_back : IsRight records_stay
      (goes 0 ∷ goes 0 ∷ goes 0 ∷ goes 0 ∷ goes 0 ∷ goes 1 ∷ goes 1 ∷ goes 1 ∷ [])
  pub goes_back_to_its_own_write : IsRight own_write_kept by_itself
  pub goes_back_to_the_newest : IsRight newest_counts by_itself
