-- That wrong writes and wrong changes are refused.
use Rattle.std.proofs.Common.{refl, arith}
use Rattle.hy_cases.specs.Wrong.{WrongWrites, WrongChanges}
use Rattle.hy_cases.proofs.Differ.{differ, not_true, not_false, same_list, same_option, same_number, same_place, same_row, same_rows}

pub wrong_writes : WrongWrites
wrong_writes = record {
  position_too_many = record { lawful = search arith parts 12; refused = λ claim. not_false (claim.wrote.0 0 1) };
  position_too_few = record { lawful = search arith parts 12; refused = λ claim. not_true (claim.wrote.0 0 0) };
  chunk_before_not_written = record { lawful = search arith parts 12; refused = λ claim. not_true (claim.wrote.0 0 0) };
  chunk_of_the_refusal_written = record { lawful = search arith parts 12; refused = λ claim. not_false (claim.wrote.0 0 1) };
  reader_wrote = record { lawful = search arith parts 12; refused = λ claim. differ (same_list same_place) (claim.readers.1.0 refl) refl refl };
  position_behind_the_table = λ claim. not_true claim.places.0.there;
  position_of_no_table = λ claim. not_true claim.places.0.there;
  position_twice = λ claim. not_true claim.places.0.ascend;
  positions_do_not_ascend = λ claim. not_true claim.places.0.ascend;
  place_of_an_insert_not_written = record { lawful = search arith parts 12; refused = λ claim. differ (same_list same_number) claim.placed.0 refl refl };
  insert_placed_on_a_row = record { lawful = search arith parts 12; refused = λ claim. differ (same_list same_number) claim.placed.0 refl refl };
  placed_one_too_few = record { lawful = search arith parts 12; refused = λ claim. differ (same_list same_number) claim.inserted.0 refl refl };
  placed_one_too_many = record { lawful = search arith parts 12; refused = λ claim. differ (same_list same_number) claim.inserted.0 refl refl };
  duplicate_placed = record { lawful = search arith parts 12; refused = λ claim. differ (same_list same_number) claim.inserted.0 refl refl };
}

pub wrong_changes : WrongChanges
wrong_changes = record {
  not_from_what_stands = record { lawful = search arith parts 12; refused = λ claim. differ (same_option same_row) claim.changes.1.0.0.before refl refl };
  from_nothing_where_a_row_stands = record {
    lawful = search arith parts 12;
    refused = λ claim. differ (same_option same_row) claim.changes.0.0.before refl refl;
  };
  from_nothing_to_nothing = record { lawful = search arith parts 12; refused = λ claim. not_true claim.changes.0.0.changes };
  where_nothing_was_written = record { lawful = search arith parts 12; refused = λ claim. not_true claim.entries.0.1.0 };
  to_another_row = record { lawful = search arith parts 12; refused = λ claim. differ (same_option same_row) claim.leaves.0.0 refl refl };
  to_rows_exchanged = record { lawful = search arith parts 12; refused = λ claim. differ (same_option same_row) claim.leaves.0.0 refl refl };
  to_another_row_than_inserted = record {
    lawful = search arith parts 12;
    refused = λ claim. differ (same_list same_rows) (claim.history 1 (omega arith)) refl refl;
  };
  to_nothing_for_an_update = record { lawful = search arith parts 12; refused = λ claim. differ (same_option same_row) claim.leaves.0.0 refl refl };
  missing = record { lawful = search arith parts 12; refused = λ claim. differ (same_list same_rows) (claim.history 1 (omega arith)) refl refl };
  missing_where_the_row_stays_as_it_was = record { lawful = search arith parts 12; refused = λ claim. not_true (claim.changed.0 0 0 refl) };
  twice = λ claim. not_true claim.changed_places.0.ascend;
  do_not_ascend = λ claim. not_true claim.changed_places.0.ascend;
  behind_the_table = λ claim. not_true claim.changed_places.0.there;
}
