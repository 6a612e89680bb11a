-- That wrong refusals are refused: conflicts, hits, and refusals for a number or for want of room.
use Rattle.std.proofs.Common.{refl, arith}
use Rattle.hy_cases.specs.Wrong.{WrongConflicts, WrongInvalids, WrongRefusals}
use Rattle.hy_cases.proofs.Computed.{computed}
use Rattle.hy_cases.proofs.Serial.{full_with_room_is_serial}
use Rattle.hy_cases.proofs.Differ.{differ, not_true, not_false, same_option, same_number, same_cause}

pub wrong_conflicts : WrongConflicts
wrong_conflicts = record {
  names_one_that_wrote_nothing = record { lawful = search arith parts 12; refused = λ claim. not_true claim.refusals.1.0.wrote };
  names_itself = λ claim. not_false claim.endings.1.0.rival;
  names_one_of_its_session = λ claim. not_false claim.endings.1.0.rival;
  names_nobody = λ claim. claim.endings.1.0.rival;
  names_one_before_the_start = record { lawful = search arith parts 12; refused = λ claim. not_false claim.refusals.1.0.not_before };
  names_one_that_found_no_row = record { lawful = search arith parts 12; refused = λ claim. not_true claim.refusals.1.0.found };
  names_one_that_was_over = record { lawful = search arith parts 12; refused = λ claim. not_true claim.refusals.1.1.0.overlaps };
  at_a_row_that_is_not_selected = record { lawful = search arith parts 12; refused = λ claim. not_true claim.refusals.1.0.selects };
  at_a_row_that_it_wrote = record { lawful = search arith parts 12; refused = λ claim. not_false claim.refusals.1.0.not_own };
  in_another_table = λ claim. not_true claim.endings.1.0.changes;
  of_a_select = λ claim. not_true claim.endings.1.0.changes;
}

pub wrong_invalids : WrongInvalids
unfolding computed
wrong_invalids = record {
  without_a_hit = record { lawful = search arith parts 12; refused = λ claim. differ (same_option same_cause) claim.refusals.1.0.hit refl refl };
  without_a_hit_of_a_join = record { lawful = search arith parts 12; refused = λ claim. differ (same_option same_cause) claim.refusals.1.0.hit refl refl };
  names_the_second_hit = record { lawful = search arith parts 12; refused = λ claim. differ (same_option same_cause) claim.refusals.1.0.hit refl refl };
  names_another_position = record { lawful = search arith parts 12; refused = λ claim. differ (same_option same_cause) claim.refusals.1.0.hit refl refl };
  names_another_statement = record { lawful = search arith parts 12; refused = λ claim. differ (same_option same_cause) claim.refusals.1.0.hit refl refl };
  names_no_statement = λ claim. absurd (omega (arith, claim.endings.1.0.named.0));
  names_a_statement_that_is_not_there = λ claim. absurd (omega (arith, claim.endings.1.0.named.1));
  names_nobody = λ claim. claim.endings.1.0.since;
  names_one_before_the_start = λ claim. absurd (omega (arith, claim.endings.1.0.since));
  names_one_that_came_later = record { lawful = search arith parts 12; refused = λ claim. not_true claim.refusals.1.0.met };
  writes_over_what_was_committed = record {
    lawful = search arith parts 12;
    refused = λ claim. not_false (claim.refusals.1.0.left_alone 0 (omega arith) (omega arith)).0;
  };
  before_all_was_answered = λ claim. differ same_number claim.endings.1.0.answers refl refl;
  of_a_reader = λ claim. absurd (omega (arith, claim.endings.1.0.wrote));
  of_a_rollback = λ claim. not_true claim.endings.1.0.closes;
}

pub wrong_refusals : WrongRefusals
wrong_refusals = record {
  full_with_room_left = record { serial = full_with_room_is_serial; refused = λ claim. absurd (omega (arith, claim.full.0)) };
  full_though_the_place_was_given_back = λ claim. absurd (omega (arith, claim.full.1.1.0));
  full_though_the_key_is_there = record { lawful = search arith parts 12; refused = λ claim. not_false claim.refusals.0 };
  full_in_another_table = λ claim. not_true claim.endings.0;
  full_for_an_update = λ claim. not_true claim.endings.0;
  out_of_range_where_it_stays_in_range = record { lawful = search arith parts 12; refused = λ claim. not_true claim.refusals.0.some };
  out_of_range_at_another_row = record { lawful = search arith parts 12; refused = λ claim. not_true claim.refusals.0.here };
  out_of_range_at_a_row_that_it_wrote = record { lawful = search arith parts 12; refused = λ claim. not_true claim.refusals.0.here };
  out_of_range_at_a_row_that_it_inserted = record { lawful = search arith parts 12; refused = λ claim. not_true claim.refusals.0.here };
  out_of_range_for_a_delete = λ claim. not_true claim.endings.0;
}
