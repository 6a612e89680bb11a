-- That some outcomes are never given: all runs of their scripts give others.
use Rattle.std.proofs.Common.{◌≡◌, refl, ℕ, true, false, ap, sym, ◌∙◌, subst, arith}
use Rattle.std.specs.Prelude.{IsFalse, IsTrue}
use Rattle.hy_machine.specs.States.{State}
use Rattle.hy_machine.specs.Outcomes.{outcome_of}
use Rattle.hy_machine.specs.Runs.{opening_of, IsReached, all_ended_from}
use Rattle.hy_cases.specs.Cases.{Case}
use Rattle.hy_cases.specs.Never as never
use Rattle.hy_cases.specs.Never.{NeverGiven}
use Rattle.hy_cases.proofs.Explored.{explored, explored_passes}
use Rattle.hy_cases.proofs.Differ.{differs}
use Rattle.hy_cases.proofs.NeverSerial as serial

-- every run of a case's script, of no more steps than this, gives another outcome
abbrev GivesOthers : ℕ → Case → Type 0
GivesOthers most case = IsTrue (explored most (differs case.outcome) case.setting (opening_of case.setting))

never_given : (most : ℕ) (case : Case) → GivesOthers most case → IsFalse (differs case.outcome case.outcome) → (state : State)
    → IsReached case.setting state → all_ended_from case.setting 0 state.sessions ≡ true → case.outcome ≡ outcome_of case.setting state → ⊥
never_given most case others itself state reached over claim =
    let passes : differs case.outcome (outcome_of case.setting state) ≡ true =
    subst (λ (one : State). all_ended_from case.setting 0 one.sessions ≡ true → differs case.outcome (outcome_of case.setting one) ≡ true) (sym reached.1)
    (explored_passes most (differs case.outcome) case.setting (opening_of case.setting) reached.0 others) over in
    absurd (let no : false ≡ true = sym itself ∙ (ap (differs case.outcome) claim ∙ passes) in cc)

full_beside_a_deleted_row : GivesOthers 16 never.full_beside_a_deleted_row
full_beside_a_deleted_row = refl

inserted_at_a_higher_place : GivesOthers 16 never.inserted_at_a_higher_place
inserted_at_a_higher_place = refl

inserted_behind_a_deleted_row : GivesOthers 16 never.inserted_behind_a_deleted_row
inserted_behind_a_deleted_row = refl

second_range_named : GivesOthers 16 never.second_range_named
second_range_named = refl

other_new_row_named : GivesOthers 16 never.other_new_row_named
other_new_row_named = refl

second_conflict_named : GivesOthers 16 never.second_conflict_named
second_conflict_named = refl

conflict_named_behind_a_range : GivesOthers 16 never.conflict_named_behind_a_range
conflict_named_behind_a_range = refl

full_beside_a_place_taken_twice : GivesOthers 20 never.full_beside_a_place_taken_twice
full_beside_a_place_taken_twice = refl

circle_in_time : GivesOthers 24 never.circle_in_time
circle_in_time = refl

pub never_given_outcomes : NeverGiven
never_given_outcomes = record {
  full_beside_a_deleted_row = record {
    lawful = search arith parts 12;
    serial = serial.full_beside_a_deleted_row_is_serial;
    never = never_given 16 never.full_beside_a_deleted_row full_beside_a_deleted_row refl;
  };
  inserted_at_a_higher_place = record {
    lawful = search arith parts 12;
    serial = serial.inserted_at_a_higher_place_is_serial;
    never = never_given 16 never.inserted_at_a_higher_place inserted_at_a_higher_place refl;
  };
  inserted_behind_a_deleted_row = record {
    lawful = search arith parts 12;
    serial = serial.inserted_behind_a_deleted_row_is_serial;
    never = never_given 16 never.inserted_behind_a_deleted_row inserted_behind_a_deleted_row refl;
  };
  second_range_named = record {
    lawful = search arith parts 12;
    serial = serial.second_range_named_is_serial;
    never = never_given 16 never.second_range_named second_range_named refl;
  };
  other_new_row_named = record {
    lawful = search arith parts 12;
    serial = serial.other_new_row_named_is_serial;
    never = never_given 16 never.other_new_row_named other_new_row_named refl;
  };
  second_conflict_named = record {
    lawful = search arith parts 12;
    serial = serial.second_conflict_named_is_serial;
    never = never_given 16 never.second_conflict_named second_conflict_named refl;
  };
  conflict_named_behind_a_range = record {
    lawful = search arith parts 12;
    serial = serial.conflict_named_behind_a_range_is_serial;
    never = never_given 16 never.conflict_named_behind_a_range conflict_named_behind_a_range refl;
  };
  full_beside_a_place_taken_twice = record {
    lawful = search arith parts 12;
    serial = serial.full_beside_a_place_taken_twice_is_serial;
    never = never_given 20 never.full_beside_a_place_taken_twice full_beside_a_place_taken_twice refl;
  };
  circle_in_time = record {
    lawful = search arith parts 12;
    serial = serial.circle_in_time_is_serial;
    never = never_given 24 never.circle_in_time circle_in_time refl;
  };
}
