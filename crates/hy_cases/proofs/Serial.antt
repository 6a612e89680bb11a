-- That some outcomes are serializable which are not lawful: the order of a session, the room of a table, what closes a
-- transaction and how many replies it has are no part of serializability.
use Rattle.std.proofs.Common.{refl, ℕ, zero, suc, ◌≤◌, List, [], ◌∷◌, arith}
use Rattle.std.specs.Prelude.{Option, None, Some, IfSome, slice_get, slice_index_or}
use Rattle.hy_value.specs.declared.Value.{Value}
use Rattle.hy_bound.specs.declared.Ending.TheVariants.{RolledBack, Full}
use Rattle.hy_lawful.specs.Serial.{IsSerial}
use Rattle.hy_cases.specs.Words.{row, a1, a2, told, rows, balance}
use Rattle.hy_cases.specs.Scripts.{hundreds}
use Rattle.hy_cases.specs.Cases.{Case, with_txns, with_order, with_tables, with_start, with_replies, with_ending}
use Rattle.hy_cases.specs.Right.{reader, writer, new_row, own_commit}

-- ---- what is said of every row of a table with two, of every rank of a short order, of whatever a cell holds

pub two_rows : (P : ℕ → ℕ → List Value → Type 0) (one two : List Value) → P 0 0 one → P 0 1 two → (table place : ℕ)
    → IfSome (slice_get (slice_index_or ((one ∷ two ∷ []) ∷ []) table []) place) (P table place)
two_rows P one two h k zero zero = h
two_rows P one two h k zero (suc zero) = k
two_rows P one two h k zero (suc (suc place)) = tt
two_rows P one two h k (suc table) place = tt

pub no_rank_more : (P : ℕ → Type 0) → P 0 → (rank : ℕ) → rank ≤ 0 → P rank
no_rank_more P h zero below = h
no_rank_more P h (suc rank) below = absurd (omega (arith, below))

pub one_rank_more : (P : ℕ → Type 0) → P 0 → P 1 → (rank : ℕ) → rank ≤ 1 → P rank
one_rank_more P h k zero below = h
one_rank_more P h k (suc zero) below = k
one_rank_more P h k (suc (suc rank)) below = absurd (omega (arith, below))

pub whatever : {X Y : Type 0} (o : Option X) → Y → IfSome o (λ x. Y)
whatever None y = tt
whatever (Some x) y = y

-- ---- the cases

abbrev own_commit_not_seen : Case
own_commit_not_seen = with_start a2 0 (with_replies a2 (balance 100 ∷ []) own_commit)

pub own_commit_not_seen_is_serial : IsSerial own_commit_not_seen.setting own_commit_not_seen.outcome
own_commit_not_seen_is_serial = record {
  replies = (refl, (refl, tt));
  replays = (record { gives = refl; runs_on = refl; passed = λ at from before. absurd (omega (arith, before)) }, (tt, tt));
  tables = refl;
  entries = ((refl, tt), (tt, tt));
  changed = ((λ table place wrote. whatever _ wrote), (tt, tt));
  refusals = (tt, (tt, tt));
  changes = ((record { before = refl; changes = refl }, tt), tt);
  history = one_rank_more _ refl refl;
  readers = ((λ none. absurd cc), ((λ none. refl), tt));
  inserted = (refl, (refl, tt));
  placed = (refl, (refl, tt));
  leaves = ((refl, tt), (tt, tt));
  wrote = (two_rows _ _ _ refl refl, (two_rows _ _ _ refl refl, tt));
}

abbrev full_with_room : Case
full_with_room = with_txns (told a1 0 [] (Full 0) [] (0 ∷ []) ∷ []) (with_order [] (with_tables (hundreds ∷ []) new_row))

pub full_with_room_is_serial : IsSerial full_with_room.setting full_with_room.outcome
full_with_room_is_serial = record {
  replies = (refl, tt);
  replays = (tt, tt);
  tables = refl;
  entries = (tt, tt);
  changed = (tt, tt);
  refusals = (refl, tt);
  changes = tt;
  history = no_rank_more _ refl;
  readers = ((λ none. refl), tt);
  inserted = (refl, tt);
  placed = (refl, tt);
  leaves = (tt, tt);
  wrote = (two_rows _ _ _ refl refl, tt);
}

abbrev commit_undone : Case
commit_undone = with_ending a1 RolledBack (with_order [] (with_tables (hundreds ∷ []) writer))

pub commit_undone_is_serial : IsSerial commit_undone.setting commit_undone.outcome
commit_undone_is_serial = record {
  replies = (refl, tt);
  replays = (tt, tt);
  tables = refl;
  entries = (tt, tt);
  changed = (tt, tt);
  refusals = (tt, tt);
  changes = tt;
  history = no_rank_more _ refl;
  readers = ((λ none. absurd cc), tt);
  inserted = (refl, tt);
  placed = (refl, tt);
  leaves = (tt, tt);
  wrote = (two_rows _ _ _ refl refl, tt);
}

abbrev not_all_answered : Case
not_all_answered = with_replies a1 (rows (row 1 100 ∷ row 2 40 ∷ []) ∷ balance 40 ∷ []) reader

pub not_all_answered_is_serial : IsSerial not_all_answered.setting not_all_answered.outcome
not_all_answered_is_serial = record {
  replies = (refl, tt);
  replays = (tt, tt);
  tables = refl;
  entries = (tt, tt);
  changed = (tt, tt);
  refusals = (tt, tt);
  changes = tt;
  history = no_rank_more _ refl;
  readers = ((λ none. refl), tt);
  inserted = (refl, tt);
  placed = (refl, tt);
  leaves = (tt, tt);
  wrote = (two_rows _ _ _ refl refl, tt);
}
