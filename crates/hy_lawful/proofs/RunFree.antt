-- A position that is free for a transaction has nothing: not in the tables of its start, and not among its own writes.
use Rattle.std.proofs.Common.{◌≡◌, ℕ, zero, suc, ◌+◌, ◌*◌, ◌/◌, ◌<◌, ◌≤◌, List, [], ◌∷◌, Option, None, Some, Bool, true, false, not, map, filter}
use Rattle.std.proofs.Common.{cond, get_or, take, drop, is_some, refl, ap, sym, ◌∙◌, subst, arith, inl, inr}
use Rattle.std.specs.Prelude.{◌&&◌, ◌||◌, ◌==◌, find}
use Rattle.std.specs.List.{list_any, range_with_len}
use Rattle.std.proofs.lemmas.Bool.{cases_Bool, cases_lt, eq-eqb, eqb-true}
use Rattle.std.proofs.lemmas.List.Folds.{list_any-append}
use Rattle.std.proofs.lemmas.Option.{same_Some}
use Rattle.std.proofs.Math.Nat.{div-lt_iff_lt-mul, div-mul-le_self, lt-div-mul-add}
use Rattle.hy_machine.specs.declared.Setting.{Setting}
use Rattle.hy_protocol.specs.declared.Phase.TheVariants.{Working}
use Rattle.hy_machine.specs.States.{State, Session, Open, Begun}
use Rattle.hy_machine.specs.Tables.{Entry, Pair, Cell, Tables, Own, capacity, chunk_of, after_entry, history, opening_tables}
use Rattle.hy_machine.specs.Positions.{item_at}
use Rattle.hy_machine.specs.Writes.{has_written_in, chunks_in_table, chunks_from, written_chunks, is_among}
use Rattle.hy_machine.specs.Sessions.{fresh, session_at, snapshot}
use Rattle.hy_machine.specs.Holding.{holds, is_held, has_pair, is_free}
use Rattle.hy_lawful.proofs.Booleans.{and_left, and_right, and_true, or_first, or_second, or_left, or_right, not_true}
use Rattle.hy_lawful.proofs.RunSweeps.{kept_item}

-- ---- tests of positions

-- a position that passes is one of those
pub record PassesAt (test : ℕ → Bool) (first end : ℕ) : Type 0 where
  pub pos : ℕ
  pub from : first ≤ pos
  pub below : pos < end
  pub passes : test pos ≡ true

pub any_within : (test : ℕ → Bool) (first many pos : ℕ) → first ≤ pos → pos < first + many → test pos ≡ true
    → list_any test (range_with_len first many) ≡ true
any_within test first zero pos f b t = absurd (omega arith)
any_within test first (suc many) pos f b t = elim (cases_lt first pos) [
  | inl above ↦ or_second (test first) (list_any test (range_with_len (first + 1) many))
      (any_within test (first + 1) many pos (omega arith) (omega arith) t)
  | inr here ↦ or_first (test first) (list_any test (range_with_len (first + 1) many))
      (ap test (let same : first ≡ pos = omega arith in same) ∙ t)
]

pub any_at : (test : ℕ → Bool) (first many end : ℕ) → first + many ≡ end → list_any test (range_with_len first many) ≡ true → PassesAt test first end
any_at test first zero end e h = absurd cc
any_at test first (suc many) end e h = elim (cases_Bool (test first)) [
  | inl t ↦ record { pos = first; from = omega arith; below = omega arith; passes = t }
  | inr f ↦
      let later : PassesAt test (first + 1) end = any_at test (first + 1) many end (omega arith)
      (ap (λ (b : Bool). b || list_any test (range_with_len (first + 1) many)) (sym f) ∙ h) in
      record { pos = later.pos; from = omega (arith, later.from); below = later.below; passes = later.passes }
]

pub none_at : (test : ℕ → Bool) (first many pos : ℕ) → list_any test (range_with_len first many) ≡ false → first ≤ pos → pos < first + many
    → test pos ≡ false
none_at test first zero pos h f b = absurd (omega arith)
none_at test first (suc many) pos h f b = elim (cases_lt first pos) [
  | inl above ↦ none_at test (first + 1) many pos (or_right (test first) (list_any test (range_with_len (first + 1) many)) h) (omega arith) (omega arith)
  | inr here ↦ ap test (let same : pos ≡ first = omega arith in same) ∙ or_left (test first) (list_any test (range_with_len (first + 1) many)) h
]

pub none_within : (test : ℕ → Bool) (first many end : ℕ) → first + many ≡ end → ((pos : ℕ) → first ≤ pos → pos < end → test pos ≡ false)
    → list_any test (range_with_len first many) ≡ false
none_within test first zero end e h = refl
none_within test first (suc many) end e h =
    ap (λ (b : Bool). b || list_any test (range_with_len (first + 1) many)) (h first (omega arith) (omega arith))
    ∙ none_within test (first + 1) many end (omega arith) (λ pos from below. h pos (omega arith) below)

-- the position that is found
pub found_at : (test : ℕ → Bool) (first many pos end : ℕ) → first + many ≡ end → find test (range_with_len first many) ≡ Some pos
    → (test pos ≡ true) × (pos < end)
found_at test first zero pos end e h = absurd cc
found_at test first (suc many) pos end e h = elim (cases_Bool (test first)) [
  | inl t ↦
      let same : first ≡ pos = same_Some first pos
      (ap (λ (b : Bool). cond b (Some first) (find test (range_with_len (first + 1) many))) (sym t) ∙ h) in
      (ap test (sym same) ∙ t, omega arith)
  | inr f ↦ found_at test (first + 1) many pos end (omega arith)
      (ap (λ (b : Bool). cond b (Some first) (find test (range_with_len (first + 1) many))) (sym f) ∙ h)
]

-- ---- the tables of the start

no_pair : (table pos : ℕ) (entry : Entry) → has_pair table pos entry ≡ false → item_at entry.cells table pos ≡ None
no_pair table pos entry h = by_item (item_at entry.cells table pos) h
  where
    by_item : (item : Option Pair) → is_some item ≡ false → item ≡ None
    by_item None e = refl
    by_item (Some pair) e = absurd cc

history_kept : (tables : Tables) (order : List Entry) (prefix table pos : ℕ) → list_any (has_pair table pos) order ≡ false
    → item_at (history tables (take prefix order)) table pos ≡ item_at tables table pos
history_kept tables [] zero table pos h = refl
history_kept tables [] (suc prefix) table pos h = refl
history_kept tables (entry ∷ order) zero table pos h = refl
history_kept tables (entry ∷ order) (suc prefix) table pos h =
    history_kept (after_entry tables entry) order prefix table pos (or_right (has_pair table pos entry) (list_any (has_pair table pos) order) h)
    ∙ kept_item (λ (pair : Pair). pair.after) tables entry.cells table pos
    (no_pair table pos entry (or_left (has_pair table pos entry) (list_any (has_pair table pos) order) h))

-- what no entry from a rank on wrote is as it was there
pub kept_since : (tables : Tables) (order : List Entry) (low prefix table pos : ℕ) → low ≤ prefix → list_any (has_pair table pos) (drop low order) ≡ false
    → item_at (history tables (take prefix order)) table pos ≡ item_at (history tables (take low order)) table pos
kept_since tables order zero prefix table pos l h = history_kept tables order prefix table pos h
kept_since tables order (suc low) zero table pos l h = absurd (omega arith)
kept_since tables [] (suc low) (suc prefix) table pos l h = refl
kept_since tables (entry ∷ order) (suc low) (suc prefix) table pos l h =
    kept_since (after_entry tables entry) order low prefix table pos (omega arith) h

-- ---- own writes

among_kept : (keep : ℕ → Bool) (table chunk : ℕ) (chunks : List ℕ) → keep chunk ≡ true → list_any (λ one. one == chunk) chunks ≡ true
    → is_among (map (λ one. (table, one)) (filter keep chunks)) table chunk ≡ true
among_kept keep table chunk [] k h = absurd cc
among_kept keep table chunk (first ∷ chunks) k h =
    by_first (first == chunk) refl (among_kept keep table chunk chunks k) h
  where
    later : (b : Bool) → is_among (map (λ one. (table, one)) (filter keep chunks)) table chunk ≡ true
        → is_among (map (λ one. (table, one)) (cond b (first ∷ filter keep chunks) (filter keep chunks))) table chunk ≡ true
    later true h = or_second (table == table && first == chunk) (is_among (map (λ one. (table, one)) (filter keep chunks)) table chunk) h
    later false h = h

    by_first : (b : Bool) → (first == chunk) ≡ b
        → (list_any (λ one. one == chunk) chunks ≡ true → is_among (map (λ one. (table, one)) (filter keep chunks)) table chunk ≡ true)
        → (b || list_any (λ one. one == chunk) chunks) ≡ true → is_among (map (λ one. (table, one)) (filter keep (first ∷ chunks))) table chunk ≡ true
    by_first true e ih h =
        let kept : keep first ≡ true = ap keep (eqb-true first chunk e) ∙ k in
        rw kept (or_first (table == table && first == chunk) (is_among (map (λ one. (table, one)) (filter keep chunks)) table chunk)
        (and_true (table == table) (first == chunk) (eq-eqb table table refl) e))
    by_first false e ih h = later (keep first) (ih h)

-- the chunk of a position
record IsIn (chunks rows pos : ℕ) : Type 0 where
  few : pos / rows < chunks
  from : pos / rows * rows ≤ pos
  below : pos < pos / rows * rows + rows

chunk_is : (chunks rows pos : ℕ) → pos < chunks * rows → IsIn chunks rows pos
chunk_is chunks zero pos h = absurd (let none : chunks * 0 ≡ 0 = omega arith in omega arith)
chunk_is chunks (suc rows) pos h = record {
  few = (div-lt_iff_lt-mul {k = suc rows} {x = pos} {y = chunks} (omega arith)).1 h;
  from = div-mul-le_self pos (suc rows);
  below = lt-div-mul-add {a = pos} {b = suc rows} (omega arith);
}

table_among : (setting : Setting) (first : ℕ) (own : Own) (table pos : ℕ) (cell : Cell) → pos < capacity setting → item_at own table pos ≡ Some cell
    → is_among (chunks_from setting first own) (first + table) (chunk_of setting pos) ≡ true
table_among setting first [] table pos cell p e = absurd cc
table_among setting first (cells ∷ own) zero pos cell p e =
    list_any-append (λ (one : ℕ × ℕ). one.0 == first + 0 && one.1 == chunk_of setting pos) (chunks_in_table setting first cells)
    (chunks_from setting (suc first) own)
    ∙ or_first (is_among (chunks_in_table setting first cells) (first + 0) (chunk_of setting pos))
    (is_among (chunks_from setting (suc first) own) (first + 0) (chunk_of setting pos))
    (subst (λ (n : ℕ). is_among (chunks_in_table setting first cells) n (chunk_of setting pos) ≡ true)
    (let same : first ≡ first + 0 = omega arith in same)
    (among_kept (has_written_in setting cells) first (chunk_of setting pos) (range_with_len 0 setting.chunks)
    (any_within (λ at. is_some (get_or cells at None)) (chunk_of setting pos * setting.rows) setting.rows pos
    (chunk_is setting.chunks setting.rows pos p).from (chunk_is setting.chunks setting.rows pos p).below (ap is_some e))
    (any_within (λ one. one == chunk_of setting pos) 0 setting.chunks (chunk_of setting pos) (omega arith)
    (omega (arith, (chunk_is setting.chunks setting.rows pos p).few)) (eq-eqb (chunk_of setting pos) (chunk_of setting pos) refl))))
table_among setting first (cells ∷ own) (suc table) pos cell p e =
    list_any-append (λ (one : ℕ × ℕ). one.0 == first + suc table && one.1 == chunk_of setting pos) (chunks_in_table setting first cells)
    (chunks_from setting (suc first) own)
    ∙ or_second (is_among (chunks_in_table setting first cells) (first + suc table) (chunk_of setting pos))
    (is_among (chunks_from setting (suc first) own) (first + suc table) (chunk_of setting pos))
    (subst (λ (n : ℕ). is_among (chunks_from setting (suc first) own) n (chunk_of setting pos) ≡ true)
    (let same : suc first + table ≡ first + suc table = omega arith in same)
    (table_among setting (suc first) own table pos cell p e))

-- an own write below the capacity stands in a chunk that was written
written_among : (setting : Setting) (own : Own) (table pos : ℕ) (cell : Cell) → pos < capacity setting → item_at own table pos ≡ Some cell
    → is_among (written_chunks setting own) table (chunk_of setting pos) ≡ true
written_among setting own table pos cell p e =
    subst (λ (n : ℕ). is_among (written_chunks setting own) n (chunk_of setting pos) ≡ true) (let same : 0 + table ≡ table = omega arith in same)
    (table_among setting 0 own table pos cell p e)

held_not : (setting : Setting) (table pos number : ℕ) (sessions : List Session) (current : Open) → (get_or sessions number fresh).now ≡ Some current
    → list_any (λ (session : Session). holds setting table pos session.now) sessions ≡ false → holds setting table pos (Some current) ≡ false
held_not setting table pos number [] current e h = absurd cc
held_not setting table pos zero (session ∷ sessions) current e h =
    ap (holds setting table pos) (sym e)
    ∙ or_left (holds setting table pos session.now) (list_any (λ (one : Session). holds setting table pos one.now) sessions) h
held_not setting table pos (suc number) (session ∷ sessions) current e h =
    held_not setting table pos number sessions current e
    (or_right (holds setting table pos session.now) (list_any (λ (one : Session). holds setting table pos one.now) sessions) h)

own_none : (setting : Setting) (own : Own) (table pos : ℕ) (item : Option Cell) → item_at own table pos ≡ item → pos < capacity setting
    → (is_some item && is_among (written_chunks setting own) table (chunk_of setting pos)) ≡ false → item ≡ None
own_none setting own table pos None e p h = refl
own_none setting own table pos (Some cell) e p h = absurd (cc (h, written_among setting own table pos cell p e))

is_none : (cell : Cell) → not (is_some cell) ≡ true → cell ≡ None
is_none None h = refl
is_none (Some row) h = absurd cc

-- nothing stands at a position
pub record HasNothing (tables : Tables) (own : Own) (table pos : ℕ) : Type 0 where
  pub tables_none : item_at tables table pos ≡ None
  pub own_none : item_at own table pos ≡ None

pub free_has_nothing : (setting : Setting) (state : State) (number : ℕ) (begun : Begun) (visited count table pos : ℕ)
    → (session_at state number).now ≡ Some (record { begun = begun; phase = Working visited count }) → begun.low ≤ begun.prefix → pos < capacity setting
    → is_free setting state begun table pos ≡ true → HasNothing (snapshot setting state begun.prefix) begun.own table pos
free_has_nothing setting state number begun visited count table pos is low p h =
    let free : Bool = not (is_held setting state table pos) in
    let clear : Bool = not (is_some (item_at (snapshot setting state begun.low) table pos)) in
    let unwritten : Bool = not (list_any (has_pair table pos) (drop begun.low state.order)) in
    record {
      tables_none = kept_since (opening_tables setting) state.order begun.low begun.prefix table pos low
          (not_true (list_any (has_pair table pos) (drop begun.low state.order)) (and_right (free && clear) unwritten h))
          ∙ is_none (item_at (snapshot setting state begun.low) table pos)
          (and_right free clear (and_left (free && clear) unwritten h));
      own_none = own_none setting begun.own table pos (item_at begun.own table pos) refl p
          (held_not setting table pos number state.sessions (record { begun = begun; phase = Working visited count }) is
          (not_true (is_held setting state table pos) (and_left free clear (and_left (free && clear) unwritten h))));
    }
