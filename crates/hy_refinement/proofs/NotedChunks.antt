-- An open transaction wrote in the chunks in which the machine's wrote, and has notes where it wrote something.
use Rattle.std.proofs.Common.{◌≡◌, ℕ, zero, suc, ◌+◌, ◌-◌, ◌*◌, ◌<◌, ◌≤◌, List, [], ◌∷◌, ◌++◌, length, map, get_or, Option, None, Some, Bool, true}
use Rattle.std.proofs.Common.{false, not, refl, sym, ap, ◌∙◌, arith, cond, inl, inr, add-zero, zero-add}
use Rattle.std.specs.Prelude.{is_some, ◌||◌, ◌&&◌, ◌==◌, nat_le, nat_lt, filter}
use Rattle.std.specs.List.{list_any, range_with_len}
use Rattle.std.proofs.lemmas.Bool.{cases_Bool, eqb-true, eq-eqb, ne_eqb, and_from, and_parts, leb-true, le-leb, ltb-true, lt-ltb, or_left, or_right}
use Rattle.std.proofs.lemmas.Option.{get_or_from_slice_get}
use Rattle.hy_bound.specs.declared.Shape.{Shape}
use Rattle.hy_value.specs.declared.change.Change.{Change}
use Rattle.hy_notes.specs.Notes.{note_at}
use Rattle.hy_render.specs.declared.Place.{Place}
use Rattle.hy_event.specs.declared.SessionData.{SessionData}
use Rattle.hy_event.specs.Sessions.{lies_in, chunks_from as chunks_here, written}
use Rattle.hy_machine.specs.declared.Setting.{Setting}
use Rattle.hy_machine.specs.Positions.{item_at}
use Rattle.hy_machine.specs.Tables.{Cell, Own}
use Rattle.hy_machine.specs.Writes.{has_written_in, chunks_from, wrote_nothing}
use Rattle.hy_machine.specs.Sessions.{snapshot}
use Rattle.hy_refinement.specs.Sessions.{SessionIs, OpenShows}
use Rattle.hy_refinement.specs.CoreVisits.{NotesAreWrites}
use Rattle.hy_refinement.specs.Visits.{WrittenChunksAreTheMachines}
use Rattle.hy_machine.specs.WrittenPlaces.{any_in_range}
use Rattle.hy_refinement.proofs.LastCells.{any_at, any_true}
use Rattle.hy_refinement.proofs.RivalTops.{open_shown}
use Rattle.hy_refinement.proofs.NotedPlaces.{is_at, PlacesAre, some_noted, not_marked, places_are}

-- ---- tests

-- two tests that hold in the same cases are one
pub same_test : (x y : Bool) → (x ≡ true → y ≡ true) → (y ≡ true → x ≡ true) → x ≡ y
same_test true y to from = sym (to refl)
same_test false true to from = from refl
same_test false false to from = refl

-- where a range has a number that passes a test there is one
pub one_of_range : (f : ℕ → Bool) (first n : ℕ) → list_any f (range_with_len first n) ≡ true → (i : ℕ) × ((i < n) × (f (first + i) ≡ true))
one_of_range f first zero e = absurd cc
one_of_range f first (suc n) e = elim (cases_Bool (f first)) [
  | inl here ↦ (zero, (omega arith, ap f (add-zero first) ∙ here))
  | inr not_here ↦
      let later = one_of_range f (first + 1) n (sym (ap (λ (b : Bool). b || list_any f (range_with_len (first + 1) n)) not_here) ∙ e) in
      let less = later.1.0 in
      (suc later.0, (omega (arith, less), ap f (let s : first + suc later.0 ≡ first + 1 + later.0 = omega arith in s) ∙ later.1.1))
]

-- ---- chunks

-- a noted position lies in a chunk exactly where the machine's transaction wrote in the chunk
pub lies_there : (session : SessionData) (places : List Place) (own : Own) (table chunk : ℕ) → PlacesAre places own
    → list_any (lies_in session table chunk) places
    ≡ list_any (λ (pos : ℕ). is_some (item_at own table pos)) (range_with_len (chunk * session.rows) session.rows)
lies_there session places own table chunk are = same_test _ _ to from
  where
    to : list_any (lies_in session table chunk) places ≡ true
        → list_any (λ (pos : ℕ). is_some (item_at own table pos)) (range_with_len (chunk * session.rows) session.rows) ≡ true
    to e =
        let one = any_at (lies_in session table chunk) places e in
        let place : Place = one.1.0 in
        let parts = and_parts (place.table == table) (nat_le (chunk * session.rows) place.pos && nat_lt place.pos (chunk * session.rows + session.rows))
        one.1.1.1 in
        let within = and_parts (nat_le (chunk * session.rows) place.pos) (nat_lt place.pos (chunk * session.rows + session.rows)) parts.1 in
        let low : chunk * session.rows ≤ place.pos = leb-true (chunk * session.rows) place.pos within.0 in
        let high : place.pos < chunk * session.rows + session.rows = ltb-true place.pos (chunk * session.rows + session.rows) within.1 in
        any_in_range (λ (pos : ℕ). is_some (item_at own table pos)) (chunk * session.rows) session.rows (place.pos - chunk * session.rows)
        (omega (arith, low, high))
        (ap (λ (n : ℕ). is_some (item_at own table n))
        (let s : chunk * session.rows + (place.pos - chunk * session.rows) ≡ place.pos = omega (arith, low) in s)
        ∙ (sym (are table place.pos)
        ∙ any_true (is_at table place.pos) places one.0 place one.1.1.0
        (and_from (place.table == table) (place.pos == place.pos) parts.0 (eq-eqb place.pos place.pos refl))))

    from : list_any (λ (pos : ℕ). is_some (item_at own table pos)) (range_with_len (chunk * session.rows) session.rows) ≡ true
        → list_any (lies_in session table chunk) places ≡ true
    from e =
        let i = one_of_range (λ (pos : ℕ). is_some (item_at own table pos)) (chunk * session.rows) session.rows e in
        let pos : ℕ = chunk * session.rows + i.0 in
        let one = any_at (is_at table pos) places (are table pos ∙ i.1.1) in
        let place : Place = one.1.0 in
        let parts = and_parts (place.table == table) (place.pos == pos) one.1.1.1 in
        let same : place.pos ≡ pos = eqb-true place.pos pos parts.1 in
        let less = i.1.0 in
        any_true (lies_in session table chunk) places one.0 place one.1.1.0
        (and_from (place.table == table) (nat_le (chunk * session.rows) place.pos && nat_lt place.pos (chunk * session.rows + session.rows)) parts.0
        (and_from (nat_le (chunk * session.rows) place.pos) (nat_lt place.pos (chunk * session.rows + session.rows))
        (le-leb (chunk * session.rows) place.pos (omega (arith, same)))
        (lt-ltb place.pos (chunk * session.rows + session.rows) (omega (arith, same, less)))))

filter_same : (p q : ℕ → Bool) → ((x : ℕ) → p x ≡ q x) → (xs : List ℕ) → filter p xs ≡ filter q xs
filter_same p q same xs = λ i. filter (λ (x : ℕ). same x i) xs

pub chunks_are : (setting : Setting) (session : SessionData) (places : List Place) (first : ℕ) (shapes : List Shape) (own : Own)
    → length shapes ≡ length own → session.chunks ≡ setting.chunks
    → ((k chunk : ℕ) → list_any (lies_in session (first + k) chunk) places ≡ has_written_in setting (get_or own k []) chunk)
    → chunks_here session places first shapes ≡ chunks_from setting first own
chunks_are setting session places first [] [] long chunks same = refl
chunks_are setting session places first [] (cells ∷ own) long chunks same = absurd (omega (arith, long))
chunks_are setting session places first (shape ∷ shapes) [] long chunks same = absurd (omega (arith, long))
chunks_are setting session places first (shape ∷ shapes) (cells ∷ own) long chunks same =
    ap (λ (n : ℕ). map (λ (chunk : ℕ). (first, chunk)) (filter (λ (chunk : ℕ). list_any (lies_in session first chunk) places) (range_with_len 0 n))
    ++ chunks_here session places (suc first) shapes) chunks
    ∙ (ap (λ (kept : List ℕ). map (λ (chunk : ℕ). (first, chunk)) kept ++ chunks_here session places (suc first) shapes)
    (filter_same (λ (chunk : ℕ). list_any (lies_in session first chunk) places) (has_written_in setting cells) here (range_with_len 0 setting.chunks))
    ∙ ap (λ (others : List (ℕ × ℕ)). map (λ (chunk : ℕ). (first, chunk)) (filter (has_written_in setting cells) (range_with_len 0 setting.chunks)) ++ others)
    (chunks_are setting session places (suc first) shapes own (omega (arith, long)) chunks later))
  where
    here : (chunk : ℕ) → list_any (lies_in session first chunk) places ≡ has_written_in setting cells chunk
    here chunk = ap (λ (n : ℕ). list_any (lies_in session n chunk) places) (sym (add-zero first)) ∙ same 0 chunk

    later : (k chunk : ℕ) → list_any (lies_in session (suc first + k) chunk) places ≡ has_written_in setting (get_or own k []) chunk
    later k chunk =
        ap (λ (n : ℕ). list_any (lies_in session n chunk) places) (let e : suc first + k ≡ first + suc k = omega arith in e) ∙ same (suc k) chunk

pub written_chunks_are : WrittenChunksAreTheMachines
written_chunks_are setting state parts sessions number session now current at =
    chunks_are setting session (written now) 0 session.shapes current.begun.own
    (let fits = at.shown.kept.fits.shapes in let tables = (at.shown.kept.fits.opens number current at.is_open.open_there).own.tables in
    let shapes = ap (λ (shapes : List Shape). length shapes) is.shapes in omega (arith, fits, tables, shapes))
    is.chunks
    (λ k chunk.
    ap (λ (n : ℕ). list_any (lies_in session n chunk) (written now)) (zero-add k)
    ∙ (lies_there session (written now) current.begun.own k chunk (places_are setting state parts sessions number session now current at)
    ∙ ap (λ (rows : ℕ). list_any (λ (pos : ℕ). is_some (item_at current.begun.own k pos)) (range_with_len (chunk * rows) rows)) is.rows))
  where
    is : SessionIs setting number session
    is = (at.shown.shows.sessions_show.each number session at.is_open.found).session_is

-- ---- notes

-- something is written exactly where a position has something
some_written : (own : Own) (table pos : ℕ) → is_some (item_at own table pos) ≡ true → list_any (list_any is_some) own ≡ true
some_written [] table pos e = absurd cc
some_written (cells ∷ own) zero pos e = or_left (list_any is_some cells) (list_any (list_any is_some) own) (some_of cells pos e)
  where
    some_of : (cells : List (Option Cell)) (pos : ℕ) → is_some (get_or cells pos None) ≡ true → list_any is_some cells ≡ true
    some_of [] pos e = absurd cc
    some_of (cell ∷ cells) zero e = or_left (is_some cell) (list_any is_some cells) e
    some_of (cell ∷ cells) (suc pos) e = or_right (is_some cell) (list_any is_some cells) (some_of cells pos e)
some_written (cells ∷ own) (suc table) pos e =
    or_right (list_any is_some cells) (list_any (list_any is_some) own) (some_written own table pos e)

written_somewhere : (own : Own) → list_any (list_any is_some) own ≡ true → (table : ℕ) × ((pos : ℕ) × (is_some (item_at own table pos) ≡ true))
written_somewhere own e =
    let table = any_at (list_any is_some) own e in
    let cell = any_at is_some table.1.0 table.1.1.1 in (
      table.0,
      (
        cell.0,
        ap (λ (cells : List (Option Cell)). is_some (get_or cells cell.0 None)) (get_or_from_slice_get own table.0 table.1.0 [] table.1.1.0)
            ∙ (ap is_some (get_or_from_slice_get table.1.0 cell.0 cell.1.0 None cell.1.1.0) ∙ cell.1.1.1),
      ),
    )

notes_or_none : (notes : List Change) (own : Own)
    → ((table pos : ℕ) → is_some (note_at notes table pos) ≡ is_some (item_at own table pos)) → (length notes == 0) ≡ wrote_nothing own
notes_or_none [] own same = elim (cases_Bool (list_any (list_any is_some) own)) [
  | inr none ↦ sym (ap not none)
  | inl some ↦ let one = written_somewhere own some in absurd (let e = same one.0 one.1.0 ∙ one.1.1 in cc)
]
notes_or_none (note ∷ notes) own same =
    ne_eqb (suc (length notes)) 0 (λ e. omega (arith, e))
    ∙ sym (ap not (some_written own note.table note.pos (sym (same note.table note.pos) ∙ first)))
  where
    first : is_some (note_at (note ∷ notes) note.table note.pos) ≡ true
    first = ap (λ (b : Bool). is_some (cond b (Some (note.before, note.after)) (note_at notes note.table note.pos)))
        (and_from (note.table == note.table) (note.pos == note.pos) (eq-eqb note.table note.table refl) (eq-eqb note.pos note.pos refl))

pub notes_are : NotesAreWrites
notes_are setting state parts sessions number session now current at quiet =
    notes_or_none now.notes current.begun.own (λ table pos.
    ap is_some ((open_is.notes_show (not_marked setting state number current at.shown.kept at.is_open.open_there quiet)).all.each table pos)
    ∙ some_noted (item_at (snapshot setting state current.begun.prefix) table pos) (item_at current.begun.own table pos))
  where
    open_is : OpenShows setting state at.shown.shows.core number now current
    open_is = open_shown setting state at.shown.shows.core sessions number session now current at.shown.shows.sessions_show at.is_open
