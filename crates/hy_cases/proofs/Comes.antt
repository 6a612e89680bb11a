-- That the machine gives the right outcomes, each by its schedule.
use Rattle.std.proofs.Common.{◌≡◌, refl}
use Rattle.std.specs.Prelude.{List, [], ◌∷◌}
use Rattle.hy_bound.specs.declared.schedule.Item.{Item}
use Rattle.hy_machine.specs.Runs.{run_of}
use Rattle.hy_machine.specs.Outcomes.{outcome_of}
use Rattle.hy_cases.proofs.Computed.{computed}
use Rattle.hy_cases.specs.Words.{goes}
use Rattle.hy_cases.specs.Cases.{Case}
use Rattle.hy_cases.specs.Right as right
use Rattle.hy_cases.specs.Right.{by_itself, together}

-- what the machine gives of a case's script by a schedule is the case's outcome
abbrev pub Comes : Case → List Item → Type 0
Comes case schedule = case.outcome ≡ outcome_of case.setting (run_of case.setting schedule)

pub reader : Comes right.reader by_itself
unfolding computed
reader = refl

pub group_reader : Comes right.group_reader by_itself
unfolding computed
group_reader = refl

pub writer : Comes right.writer by_itself
unfolding computed
writer = refl

pub own_write : Comes right.own_write by_itself
unfolding computed
own_write = refl

pub own_delete : Comes right.own_delete by_itself
unfolding computed
own_delete = refl

pub new_row : Comes right.new_row by_itself
unfolding computed
new_row = refl

pub came_and_went : Comes right.came_and_went by_itself
unfolding computed
came_and_went = refl

pub all_written : Comes right.all_written by_itself
unfolding computed
all_written = refl

pub duplicate : Comes right.duplicate by_itself
unfolding computed
duplicate = refl

pub no_room : Comes right.no_room by_itself
unfolding computed
no_room = refl

pub out_of_range : Comes right.out_of_range by_itself
unfolding computed
out_of_range = refl

pub own_row_out_of_range : Comes right.own_row_out_of_range by_itself
unfolding computed
own_row_out_of_range = refl

pub chunk_before : Comes right.chunk_before by_itself
unfolding computed
chunk_before = refl

pub own_commit : Comes right.own_commit by_itself
unfolding computed
own_commit = refl

pub place_used_again : Comes right.place_used_again by_itself
unfolding computed
place_used_again = refl

pub nothing : Comes right.nothing by_itself
unfolding computed
nothing = refl

pub insert_undone : Comes right.insert_undone together
unfolding computed
insert_undone = refl

pub different_rows : Comes right.different_rows together
unfolding computed
different_rows = refl

pub different_tables : Comes right.different_tables together
unfolding computed
different_tables = refl

pub old_reader : Comes right.old_reader (goes 0 ∷ goes 1 ∷ goes 0 ∷ goes 1 ∷ goes 0 ∷ goes 0 ∷ [])
unfolding computed
old_reader = refl

pub before_and_after : Comes right.before_and_after (goes 1 ∷ goes 0 ∷ [])
unfolding computed
before_and_after = refl

pub undone_unseen : Comes right.undone_unseen together
unfolding computed
undone_unseen = refl

pub conflict : Comes right.conflict (goes 0 ∷ goes 1 ∷ goes 2 ∷ [])
unfolding computed
conflict = refl

pub in_turn : Comes right.in_turn (goes 0 ∷ goes 0 ∷ goes 0 ∷ goes 1 ∷ goes 1 ∷ goes 1 ∷ [])
unfolding computed
in_turn = refl

pub undone_rival : Comes right.undone_rival together
unfolding computed
undone_rival = refl

pub undone_before : Comes right.undone_before (goes 0 ∷ goes 0 ∷ goes 0 ∷ goes 0 ∷ goes 0 ∷ goes 0 ∷ [])
unfolding computed
undone_before = refl

pub place_given_back : Comes right.place_given_back (goes 0 ∷ goes 0 ∷ goes 0 ∷ goes 2 ∷ goes 2 ∷ goes 2 ∷ [])
unfolding computed
place_given_back = refl

pub skew_refused : Comes right.skew_refused together
unfolding computed
skew_refused = refl

pub phantom_refused : Comes right.phantom_refused together
unfolding computed
phantom_refused = refl

pub other_column : Comes right.other_column together
unfolding computed
other_column = refl

pub hit_without_effect : Comes right.hit_without_effect together
unfolding computed
hit_without_effect = refl

pub first_hit_named : Comes right.first_hit_named (goes 0 ∷ goes 1 ∷ goes 2 ∷ goes 0 ∷ goes 2 ∷ goes 0 ∷ goes 2 ∷ [])
unfolding computed
first_hit_named = refl

pub refused_then_reads : Comes right.refused_then_reads together
unfolding computed
refused_then_reads = refl

pub join_refused : Comes right.join_refused together
unfolding computed
join_refused = refl

pub join_passed_by : Comes right.join_passed_by together
unfolding computed
join_passed_by = refl

pub room_taken : Comes right.room_taken together
unfolding computed
room_taken = refl

pub held_though_taken_back : Comes right.held_though_taken_back (goes 0 ∷ goes 0 ∷ goes 1 ∷ goes 0 ∷ goes 0 ∷ goes 1 ∷ [])
unfolding computed
held_though_taken_back = refl

pub held_without_a_record : Comes right.held_without_a_record (goes 0 ∷ goes 1 ∷ goes 0 ∷ goes 0 ∷ goes 0 ∷ goes 0 ∷ goes 1 ∷ [])
unfolding computed
held_without_a_record = refl

pub records_stay : Comes right.records_stay (goes 0 ∷ goes 0 ∷ goes 0 ∷ goes 0 ∷ goes 0 ∷ goes 1 ∷ goes 1 ∷ goes 1 ∷ [])
unfolding computed
records_stay = refl

pub own_write_kept : Comes right.own_write_kept by_itself
unfolding computed
own_write_kept = refl

pub newest_counts : Comes right.newest_counts by_itself
unfolding computed
newest_counts = refl
