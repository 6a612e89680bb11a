-- That the outcomes are serializable that are never given: which places are taken or named, whether one is free, and who met
-- whom are no part of serializability.
use Rattle.std.proofs.Common.{◌≡◌, refl, ℕ, zero, suc, ◌<◌, ◌≤◌, Bool, true, false, List, cond, arith}
use Rattle.std.specs.Prelude.{Option, None, IfSome, ◌&&◌, ◌==◌}
use Rattle.std.proofs.lemmas.Bool.{ne_eqb, and_left}
use Rattle.hy_value.specs.declared.Value.{Value}
use Rattle.hy_lawful.specs.Serial.{IsSerial}
use Rattle.hy_cases.specs.Never as never
use Rattle.hy_cases.proofs.Serial.{two_rows, no_rank_more, one_rank_more, whatever}

-- ---- what is said of every place of short tables, and of every rank

-- of every place, where one table alone has rows, at its first four places at most
all_places : (P : ℕ → ℕ → Type 0) → P 0 0 → P 0 1 → P 0 2 → P 0 3 → ((place : ℕ) → P 0 (suc (suc (suc (suc place)))))
    → ((table place : ℕ) → P (suc table) place) → (table place : ℕ) → P table place
all_places P a b c d behind others zero zero = a
all_places P a b c d behind others zero (suc zero) = b
all_places P a b c d behind others zero (suc (suc zero)) = c
all_places P a b c d behind others zero (suc (suc (suc zero))) = d
all_places P a b c d behind others zero (suc (suc (suc (suc place)))) = behind place
all_places P a b c d behind others (suc table) place = others table place

-- what a place holds where a change was made elsewhere and nothing stood
not_there : (b : Bool) (cell : Option (List Value)) (P : List Value → Type 0) → b ≡ false → IfSome (cond b cell None) P
not_there true cell P e = absurd cc
not_there false cell P e = tt

-- so it is behind the fourth place, and in another table
behind_places : (changed place : ℕ) → changed < 4 → (cell : Option (List Value)) (P : List Value → Type 0)
    → IfSome (cond (changed == suc (suc (suc (suc place)))) cell None) P
behind_places changed place below cell P = not_there (changed == suc (suc (suc (suc place)))) cell P
    (ne_eqb changed (suc (suc (suc (suc place)))) (λ same. absurd (omega (arith, below, same))))

other_table : (table : ℕ) (at : Bool) (cell : Option (List Value)) (P : List Value → Type 0) → IfSome (cond (0 == suc table && at) cell None) P
other_table table at cell P =
    not_there (0 == suc table && at) cell P (and_left (0 == suc table) at (ne_eqb 0 (suc table) (λ same. absurd (omega (arith, same)))))

two_ranks_more : (P : ℕ → Type 0) → P 0 → P 1 → P 2 → (rank : ℕ) → rank ≤ 2 → P rank
two_ranks_more P h k l zero below = h
two_ranks_more P h k l (suc zero) below = k
two_ranks_more P h k l (suc (suc zero)) below = l
two_ranks_more P h k l (suc (suc (suc rank))) below = absurd (omega (arith, below))

-- ---- the cases

pub full_beside_a_deleted_row_is_serial : IsSerial never.full_beside_a_deleted_row.setting never.full_beside_a_deleted_row.outcome
full_beside_a_deleted_row_is_serial = record {
  replies = (refl, (refl, tt));
  replays = (record { gives = refl; runs_on = refl; passed = λ at from before. absurd (omega (arith, from, before)) }, (tt, tt));
  tables = refl;
  entries = ((refl, tt), (tt, tt));
  changed = ((λ table place wrote. whatever _ wrote), (tt, tt));
  refusals = (tt, (refl, tt));
  changes = ((record { before = refl; changes = refl }, tt), tt);
  history = one_rank_more _ refl refl;
  readers = ((λ none. absurd cc), ((λ none. refl), tt));
  inserted = (refl, (refl, tt));
  placed = (refl, (refl, tt));
  leaves = ((refl, tt), (tt, tt));
  wrote = (
    two_rows _ _ _ refl refl,
    (all_places _ tt refl tt tt (λ place. behind_places 0 place (omega arith) _ _) (λ table place. other_table table _ _ _), tt),
  );
}

pub inserted_at_a_higher_place_is_serial : IsSerial never.inserted_at_a_higher_place.setting never.inserted_at_a_higher_place.outcome
inserted_at_a_higher_place_is_serial = record {
  replies = (refl, tt);
  replays = (record { gives = refl; runs_on = refl; passed = λ at from before. absurd (omega (arith, from, before)) }, tt);
  tables = refl;
  entries = ((refl, tt), tt);
  changed = ((λ table place wrote. whatever _ wrote), tt);
  refusals = (tt, tt);
  changes = ((record { before = refl; changes = refl }, tt), tt);
  history = one_rank_more _ refl refl;
  readers = ((λ none. absurd cc), tt);
  inserted = (refl, tt);
  placed = (refl, tt);
  leaves = ((tt, tt), tt);
  wrote = (two_rows _ _ _ refl refl, tt);
}

pub inserted_behind_a_deleted_row_is_serial : IsSerial never.inserted_behind_a_deleted_row.setting never.inserted_behind_a_deleted_row.outcome
inserted_behind_a_deleted_row_is_serial = record {
  replies = (refl, (refl, tt));
  replays = (
    record { gives = refl; runs_on = refl; passed = λ at from before. absurd (omega (arith, from, before)) },
    (record { gives = refl; runs_on = refl; passed = λ at from before. absurd (omega (arith, from, before)) }, tt),
  );
  tables = refl;
  entries = ((refl, tt), ((refl, tt), tt));
  changed = ((λ table place wrote. whatever _ wrote), ((λ table place wrote. whatever _ wrote), tt));
  refusals = (tt, (tt, tt));
  changes = ((record { before = refl; changes = refl }, tt), ((record { before = refl; changes = refl }, tt), tt));
  history = two_ranks_more _ refl refl refl;
  readers = ((λ none. absurd cc), ((λ none. absurd cc), tt));
  inserted = (refl, (refl, tt));
  placed = (refl, (refl, tt));
  leaves = ((refl, tt), ((tt, tt), tt));
  wrote = (
    two_rows _ _ _ refl refl,
    (all_places _ tt refl tt tt (λ place. behind_places 0 place (omega arith) _ _) (λ table place. other_table table _ _ _), tt),
  );
}

pub second_range_named_is_serial : IsSerial never.second_range_named.setting never.second_range_named.outcome
second_range_named_is_serial = record {
  replies = (refl, tt);
  replays = (tt, tt);
  tables = refl;
  entries = (tt, tt);
  changed = (tt, tt);
  refusals = (record { some = refl; here = refl }, tt);
  changes = tt;
  history = no_rank_more _ refl;
  readers = ((λ none. refl), tt);
  inserted = (refl, tt);
  placed = (refl, tt);
  leaves = (tt, tt);
  wrote = (two_rows _ _ _ refl refl, tt);
}

pub other_new_row_named_is_serial : IsSerial never.other_new_row_named.setting never.other_new_row_named.outcome
other_new_row_named_is_serial = record {
  replies = (refl, tt);
  replays = (tt, tt);
  tables = refl;
  entries = (tt, tt);
  changed = (tt, tt);
  refusals = (record { some = refl; here = refl }, tt);
  changes = tt;
  history = no_rank_more _ refl;
  readers = ((λ none. absurd cc), tt);
  inserted = (refl, tt);
  placed = (refl, tt);
  leaves = (tt, tt);
  wrote = (two_rows _ _ _ refl refl, tt);
}

pub second_conflict_named_is_serial : IsSerial never.second_conflict_named.setting never.second_conflict_named.outcome
second_conflict_named_is_serial = record {
  replies = (refl, (refl, tt));
  replays = (record { gives = refl; runs_on = refl; passed = λ at from before. absurd (omega (arith, from, before)) }, (tt, tt));
  tables = refl;
  entries = ((refl, (refl, tt)), (tt, tt));
  changed = ((λ table place wrote. whatever _ wrote), (tt, tt));
  refusals = (tt, (record { selects = refl; not_own = refl; wrote = refl; found = refl; overlaps = refl; not_before = refl }, tt));
  changes = ((record { before = refl; changes = refl }, (record { before = refl; changes = refl }, tt)), tt);
  history = one_rank_more _ refl refl;
  readers = ((λ none. absurd cc), ((λ none. refl), tt));
  inserted = (refl, (refl, tt));
  placed = (refl, (refl, tt));
  leaves = ((refl, (refl, tt)), (tt, tt));
  wrote = (two_rows _ _ _ refl refl, (two_rows _ _ _ refl refl, tt));
}

pub conflict_named_behind_a_range_is_serial : IsSerial never.conflict_named_behind_a_range.setting never.conflict_named_behind_a_range.outcome
conflict_named_behind_a_range_is_serial = record {
  replies = (refl, (refl, tt));
  replays = (record { gives = refl; runs_on = refl; passed = λ at from before. absurd (omega (arith, from, before)) }, (tt, tt));
  tables = refl;
  entries = ((refl, tt), (tt, tt));
  changed = ((λ table place wrote. whatever _ wrote), (tt, tt));
  refusals = (tt, (record { selects = refl; not_own = refl; wrote = refl; found = refl; overlaps = refl; not_before = refl }, tt));
  changes = ((record { before = refl; changes = refl }, tt), tt);
  history = one_rank_more _ refl refl;
  readers = ((λ none. absurd cc), ((λ none. refl), tt));
  inserted = (refl, (refl, tt));
  placed = (refl, (refl, tt));
  leaves = ((refl, tt), (tt, tt));
  wrote = (two_rows _ _ _ refl refl, (two_rows _ _ _ refl refl, tt));
}

pub full_beside_a_place_taken_twice_is_serial : IsSerial never.full_beside_a_place_taken_twice.setting never.full_beside_a_place_taken_twice.outcome
full_beside_a_place_taken_twice_is_serial = record {
  replies = (refl, (refl, (refl, tt)));
  replays = (tt, (tt, (tt, tt)));
  tables = refl;
  entries = (tt, (tt, (tt, tt)));
  changed = (tt, (tt, (tt, tt)));
  refusals = (tt, (tt, (refl, tt)));
  changes = tt;
  history = no_rank_more _ refl;
  readers = ((λ none. absurd cc), ((λ none. absurd cc), ((λ none. refl), tt)));
  inserted = (refl, (refl, (refl, tt)));
  placed = (refl, (refl, (refl, tt)));
  leaves = (tt, (tt, (tt, tt)));
  wrote = (
    all_places _ refl tt tt tt (λ place. tt) (λ table place. tt),
    (all_places _ refl tt tt tt (λ place. tt) (λ table place. tt), (all_places _ refl tt tt tt (λ place. tt) (λ table place. tt), tt)),
  );
}

pub circle_in_time_is_serial : IsSerial never.circle_in_time.setting never.circle_in_time.outcome
circle_in_time_is_serial = record {
  replies = (refl, (refl, (refl, tt)));
  replays = (record { gives = refl; runs_on = refl; passed = λ at from before. absurd (omega (arith, from, before)) }, (tt, (tt, tt)));
  tables = refl;
  entries = ((refl, tt), (tt, (tt, tt)));
  changed = ((λ table place wrote. whatever _ wrote), (tt, (tt, tt)));
  refusals = (tt, (tt, (record { selects = refl; not_own = refl; wrote = refl; found = refl; overlaps = refl; not_before = refl }, tt)));
  changes = ((record { before = refl; changes = refl }, tt), tt);
  history = one_rank_more _ refl refl;
  readers = ((λ none. absurd cc), ((λ none. absurd cc), ((λ none. absurd cc), tt)));
  inserted = (refl, (refl, (refl, tt)));
  placed = (refl, (refl, (refl, tt)));
  leaves = ((tt, tt), (tt, (tt, tt)));
  wrote = (
    two_rows _ _ _ refl refl,
    (
      all_places _ refl refl refl tt (λ place. behind_places 2 place (omega arith) _ _) (λ table place. other_table table _ _ _),
      (two_rows _ _ _ refl refl, tt),
    ),
  );
}
