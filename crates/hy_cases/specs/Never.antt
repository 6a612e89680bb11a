-- Outcomes that are lawful and serializable, and that the engine still never gives: which place is taken or named, whether one
-- is free, and what came before what at a time, lawfulness and serializability leave open.
use Rattle.std.specs.Prelude.{[], ◌∷◌, None, Some}
use Rattle.hy_bound.specs.declared.Reply.TheVariants.{Inserted, Updated, Deleted}
use Rattle.hy_bound.specs.declared.Ending.TheVariants.{Committed, RolledBack, Conflict, Range, Full}
use Rattle.hy_cases.specs.Words.{row, greatest, a1, a2, b1, at, change, told, entry}
use Rattle.hy_cases.specs.Scripts as script
use Rattle.hy_cases.specs.Scripts.{hundreds}
use Rattle.hy_cases.specs.Cases.{Case, IsNeverGiven}

-- ---- one session

-- a table is told to be full where the place of a row that was deleted is free again
abbrev pub full_beside_a_deleted_row : Case
full_beside_a_deleted_row = record {
  setting = script.deletes_then_inserts;
  outcome = record {
    txns =
        told a1 0 (Deleted 1 ∷ []) (Committed 0) (at 0 0 ∷ []) (0 ∷ [])
        ∷ told a2 1 [] (Full 0) [] (0 ∷ []) ∷ [];
    order = entry a1 (change 0 0 (Some (row 1 100)) None ∷ []) ∷ [];
    tables = (row 2 100 ∷ []) ∷ [];
  };
}

-- a row is inserted at another place than the least
abbrev pub inserted_at_a_higher_place : Case
inserted_at_a_higher_place = record {
  setting = script.inserts_with_room;
  outcome = record {
    txns = told a1 0 (Inserted ∷ []) (Committed 0) (at 0 3 ∷ []) (1 ∷ []) ∷ [];
    order = entry a1 (change 0 3 None (Some (row 3 70)) ∷ []) ∷ [];
    tables = (row 1 100 ∷ row 2 100 ∷ row 3 70 ∷ []) ∷ [];
  };
}

-- the place of a row that was deleted is left aside, though it is the least
abbrev pub inserted_behind_a_deleted_row : Case
inserted_behind_a_deleted_row = record {
  setting = script.deletes_then_inserts_with_room;
  outcome = record {
    txns =
        told a1 0 (Deleted 1 ∷ []) (Committed 0) (at 0 0 ∷ []) (0 ∷ [])
        ∷ told a2 1 (Inserted ∷ []) (Committed 1) (at 0 2 ∷ []) (1 ∷ []) ∷ [];
    order =
        entry a1 (change 0 0 (Some (row 1 100)) None ∷ [])
        ∷ entry a2 (change 0 2 None (Some (row 3 70)) ∷ []) ∷ [];
    tables = (row 2 100 ∷ row 3 70 ∷ []) ∷ [];
  };
}

-- of two rows that go out of range the second is named
abbrev pub second_range_named : Case
second_range_named = record {
  setting = script.adds_to_two;
  outcome = record {
    txns = told a1 0 [] (Range 0 1) [] (0 ∷ []) ∷ [];
    order = [];
    tables = (row 1 greatest ∷ row 2 greatest ∷ []) ∷ [];
  };
}

-- of two rows that were inserted the one is named that stays in range
abbrev pub other_new_row_named : Case
other_new_row_named = record {
  setting = script.inserts_two_and_adds;
  outcome = record {
    txns = told a1 0 (Inserted ∷ Inserted ∷ []) (Range 0 2) (at 0 2 ∷ at 0 3 ∷ []) (2 ∷ []) ∷ [];
    order = [];
    tables = hundreds ∷ [];
  };
}

-- ---- two sessions

-- of two conflicts the second is named
abbrev pub second_conflict_named : Case
second_conflict_named = record {
  setting = script.add_to_both;
  outcome = record {
    txns =
        told a1 0 (Updated 2 ∷ []) (Committed 0) (at 0 0 ∷ at 0 1 ∷ []) (0 ∷ [])
        ∷ told b1 0 [] (Conflict 0 1 a1) [] (0 ∷ []) ∷ [];
    order = entry a1 (change 0 0 (Some (row 1 100)) (Some (row 1 101)) ∷ change 0 1 (Some (row 2 100)) (Some (row 2 101)) ∷ []) ∷ [];
    tables = (row 1 101 ∷ row 2 101 ∷ []) ∷ [];
  };
}

-- a conflict is named, and not the row before it that goes out of range
abbrev pub conflict_named_behind_a_range : Case
conflict_named_behind_a_range = record {
  setting = script.set_one_and_add_too_much;
  outcome = record {
    txns =
        told a1 0 (Updated 1 ∷ []) (Committed 0) (at 0 1 ∷ []) (0 ∷ [])
        ∷ told b1 0 [] (Conflict 0 1 a1) [] (0 ∷ []) ∷ [];
    order = entry a1 (change 0 1 (Some (row 2 100)) (Some (row 2 90)) ∷ []) ∷ [];
    tables = (row 1 greatest ∷ row 2 90 ∷ []) ∷ [];
  };
}

-- a table is told to be full, two places of which were taken; but one and the same was, twice, and undone
abbrev pub full_beside_a_place_taken_twice : Case
full_beside_a_place_taken_twice = record {
  setting = script.take_a_place_twice;
  outcome = record {
    txns =
        told a1 0 (Inserted ∷ []) RolledBack (at 0 1 ∷ []) (1 ∷ [])
        ∷ told a2 0 (Inserted ∷ []) RolledBack (at 0 1 ∷ []) (1 ∷ [])
        ∷ told b1 0 [] (Full 0) [] (0 ∷ []) ∷ [];
    order = [];
    tables = (row 1 100 ∷ []) ∷ [];
  };
}

-- a circle in time: a1 ended before a2 began; a2 wrote before b1 met it and was undone; and b1 was undone before a1 took its place
abbrev pub circle_in_time : Case
circle_in_time = record {
  setting = script.insert_and_set;
  outcome = record {
    txns =
        told a1 0 (Inserted ∷ []) (Committed 0) (at 0 2 ∷ []) (1 ∷ [])
        ∷ told a2 1 (Updated 1 ∷ []) RolledBack (at 0 0 ∷ []) (0 ∷ [])
        ∷ told b1 0 (Inserted ∷ []) (Conflict 0 0 a2) (at 0 2 ∷ []) (1 ∷ []) ∷ [];
    order = entry a1 (change 0 2 None (Some (row 3 70)) ∷ []) ∷ [];
    tables = (row 1 100 ∷ row 2 100 ∷ row 3 70 ∷ []) ∷ [];
  };
}

-- ---- what is claimed of them

pub record NeverGiven : Type 0 where
  pub full_beside_a_deleted_row : IsNeverGiven full_beside_a_deleted_row
  pub inserted_at_a_higher_place : IsNeverGiven inserted_at_a_higher_place
  pub inserted_behind_a_deleted_row : IsNeverGiven inserted_behind_a_deleted_row
  pub second_range_named : IsNeverGiven second_range_named
  pub other_new_row_named : IsNeverGiven other_new_row_named
  pub second_conflict_named : IsNeverGiven second_conflict_named
  pub conflict_named_behind_a_range : IsNeverGiven conflict_named_behind_a_range
  pub full_beside_a_place_taken_twice : IsNeverGiven full_beside_a_place_taken_twice
  pub circle_in_time : IsNeverGiven circle_in_time
