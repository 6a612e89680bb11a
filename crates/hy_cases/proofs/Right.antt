-- That the right outcomes are lawful and serializable: the machine gives them, and gives no others.
use Rattle.std.proofs.Common.{refl, sym, subst, ◌<◌, arith}
use Rattle.std.specs.Prelude.{List, IsTrue}
use Rattle.hy_bound.specs.declared.schedule.Item.{Item}
use Rattle.hy_machine.specs.declared.Setting.{Setting}
use Rattle.hy_machine.specs.Runs.{run_of}
use Rattle.hy_machine.specs.Outcomes.{outcome_of}
use Rattle.hy_lawful.specs.Lawful.{Lawful}
use Rattle.hy_lawful.specs.Serial.{IsSerial}
use Rattle.hy_lawful.specs.Laws.{SerialRuns}
use Rattle.hy_cases.specs.Cases.{Case, IsRight}
use Rattle.hy_cases.specs.Right.{RightOutcomes}
use Rattle.hy_cases.specs.Right as right
use Rattle.hy_cases.proofs.Comes as comes
use Rattle.hy_cases.proofs.Comes.{Comes}
use Rattle.hy_cases.proofs.Fitting.{setting_fits, fits_setting}

-- every outcome that the machine gives is lawful
abbrev pub LawfulRuns : Type 0
LawfulRuns = (setting : Setting) (schedule : List Item) → Lawful setting (outcome_of setting (run_of setting schedule))

is_right : LawfulRuns → SerialRuns → (case : Case) (schedule : List Item) → Comes case schedule → 0 < case.setting.chunks
    → IsTrue (setting_fits case.setting) → IsRight case schedule
is_right lawful serial case schedule comes some fits = record {
  comes = comes;
  lawful = subst (Lawful case.setting) (sym comes) (lawful case.setting schedule);
  serial = subst (IsSerial case.setting) (sym comes) (serial case.setting schedule some (fits_setting case.setting fits));
}

pub right_outcomes : LawfulRuns → SerialRuns → RightOutcomes
unfolding setting_fits
right_outcomes lawful serial = record {
  reads = is_right lawful serial right.reader _ comes.reader (omega arith) refl;
  reads_groups = is_right lawful serial right.group_reader _ comes.group_reader (omega arith) refl;
  writes = is_right lawful serial right.writer _ comes.writer (omega arith) refl;
  reads_its_own_write = is_right lawful serial right.own_write _ comes.own_write (omega arith) refl;
  does_not_read_its_own_delete = is_right lawful serial right.own_delete _ comes.own_delete (omega arith) refl;
  inserts = is_right lawful serial right.new_row _ comes.new_row (omega arith) refl;
  inserts_and_deletes = is_right lawful serial right.came_and_went _ comes.came_and_went (omega arith) refl;
  writes_all = is_right lawful serial right.all_written _ comes.all_written (omega arith) refl;
  is_told_of_a_duplicate = is_right lawful serial right.duplicate _ comes.duplicate (omega arith) refl;
  is_told_that_the_table_is_full = is_right lawful serial right.no_room _ comes.no_room (omega arith) refl;
  is_out_of_range = is_right lawful serial right.out_of_range _ comes.out_of_range (omega arith) refl;
  is_out_of_range_at_its_own_row = is_right lawful serial right.own_row_out_of_range _ comes.own_row_out_of_range (omega arith) refl;
  is_out_of_range_in_the_second_chunk = is_right lawful serial right.chunk_before _ comes.chunk_before (omega arith) refl;
  reads_its_own_commit = is_right lawful serial right.own_commit _ comes.own_commit (omega arith) refl;
  uses_a_place_again = is_right lawful serial right.place_used_again _ comes.place_used_again (omega arith) refl;
  does_nothing = is_right lawful serial right.nothing _ comes.nothing (omega arith) refl;
  rolls_back_an_insert = is_right lawful serial right.insert_undone _ comes.insert_undone (omega arith) refl;
  write_different_rows = is_right lawful serial right.different_rows _ comes.different_rows (omega arith) refl;
  write_different_tables = is_right lawful serial right.different_tables _ comes.different_tables (omega arith) refl;
  reads_its_start = is_right lawful serial right.old_reader _ comes.old_reader (omega arith) refl;
  reads_before_and_after = is_right lawful serial right.before_and_after _ comes.before_and_after (omega arith) refl;
  reads_what_was_before_an_undone_write = is_right lawful serial right.undone_unseen _ comes.undone_unseen (omega arith) refl;
  conflicts = is_right lawful serial right.conflict _ comes.conflict (omega arith) refl;
  write_in_turn = is_right lawful serial right.in_turn _ comes.in_turn (omega arith) refl;
  conflicts_with_one_that_is_undone = is_right lawful serial right.undone_rival _ comes.undone_rival (omega arith) refl;
  writes_where_one_was_undone = is_right lawful serial right.undone_before _ comes.undone_before (omega arith) refl;
  inserts_where_one_was_undone = is_right lawful serial right.place_given_back _ comes.place_given_back (omega arith) refl;
  refuses_a_write_skew = is_right lawful serial right.skew_refused _ comes.skew_refused (omega arith) refl;
  refuses_a_phantom = is_right lawful serial right.phantom_refused _ comes.phantom_refused (omega arith) refl;
  passes_by_another_column = is_right lawful serial right.other_column _ comes.other_column (omega arith) refl;
  refuses_a_hit_without_effect = is_right lawful serial right.hit_without_effect _ comes.hit_without_effect (omega arith) refl;
  names_the_first_hit = is_right lawful serial right.first_hit_named _ comes.first_hit_named (omega arith) refl;
  reads_after_it_was_refused = is_right lawful serial right.refused_then_reads _ comes.refused_then_reads (omega arith) refl;
  refuses_a_hit_of_a_join = is_right lawful serial right.join_refused _ comes.join_refused (omega arith) refl;
  passes_by_what_is_not_joined = is_right lawful serial right.join_passed_by _ comes.join_passed_by (omega arith) refl;
  has_no_room_beside_another = is_right lawful serial right.room_taken _ comes.room_taken (omega arith) refl;
  holds_what_it_took_back = is_right lawful serial right.held_though_taken_back _ comes.held_though_taken_back (omega arith) refl;
  holds_what_it_read_by_what_it_took_back =
      is_right lawful serial right.held_without_a_record _ comes.held_without_a_record (omega arith) refl;
  keeps_records_when_it_goes_back = is_right lawful serial right.records_stay _ comes.records_stay (omega arith) refl;
  goes_back_to_its_own_write = is_right lawful serial right.own_write_kept _ comes.own_write_kept (omega arith) refl;
  goes_back_to_the_newest = is_right lawful serial right.newest_counts _ comes.newest_counts (omega arith) refl;
}
