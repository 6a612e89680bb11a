-- The rows that all chunks of a table show together are those of the machine's table, where nobody stands before its end.
use Rattle.std.proofs.Common.{◌≡◌, ℕ, zero, suc, ◌+◌, ◌-◌, ◌*◌, ◌<◌, ◌≤◌, List, [], ◌∷◌, ◌++◌, length, map, take, drop, get_or, Option, None, Some}
use Rattle.std.proofs.Common.{Bool, true, false, cond, refl, sym, ap, ◌∙◌, arith}
use Rattle.std.specs.Prelude.{slice_get, flat_map}
use Rattle.std.specs.List.{range_with_len}
use Rattle.std.proofs.Math.Nat.{mul-le-mul_right}
use Rattle.std.proofs.lemmas.List.{length-map, take-append-drop, drop-drop, drop_more, drop_all, take_all}
use Rattle.std.proofs.lemmas.List.FromFn.{length-map-range_with_len}
use Rattle.hy_value.specs.declared.Value.{Value}
use Rattle.hy_value.specs.Sorted.{sorted}
use Rattle.hy_bound.specs.Changes.{present}
use Rattle.hy_undo.specs.Places.{Place, sees}
use Rattle.hy_undo.specs.Chunks.{rows_seen}
use Rattle.hy_event.specs.declared.SessionData.{SessionData}
use Rattle.hy_event.specs.Events.{Part}
use Rattle.hy_machine.specs.declared.Setting.{Setting}
use Rattle.hy_machine.specs.States.{State}
use Rattle.hy_machine.specs.Tables.{Entry, Pair, Cell, Tables, capacity, overlaid, covered, covered_tables, after_entry, history, laid_out, opening_tables}
use Rattle.hy_machine.specs.Positions.{item_at}
use Rattle.hy_machine.specs.Sessions.{snapshot}
use Rattle.hy_machine.specs.Outcomes.{rows_sorted}
use Rattle.hy_refinement.specs.Stamped.{is_unstamped_by, entries_counted}
use Rattle.hy_refinement.specs.Places.{IsNewcomer}
use Rattle.hy_refinement.specs.Parts.{HasChunk}
use Rattle.hy_refinement.specs.Shows.{Shows}
use Rattle.hy_stepping.specs.Outcomes.{last_viewer, places_in, chunk_rows, told_rows}

-- ---- how many tables there are, and how many cells each has

overlaid_length : {A B : Type 0} (f : A → B → A) (xs : List A) (ys : List B) → length (overlaid f xs ys) ≡ length xs
overlaid_length f [] ys = refl
overlaid_length f (x ∷ xs) [] = refl
overlaid_length f (x ∷ xs) (y ∷ ys) = ap suc (overlaid_length f xs ys)

row_length : {B : Type 0} (f : B → Cell) (tables : Tables) (lists : List (List (Option B))) (table : ℕ)
    → length (get_or (covered_tables f tables lists) table []) ≡ length (get_or tables table [])
row_length f [] lists table = refl
row_length f (cells ∷ tables) [] table = refl
row_length f (cells ∷ tables) (items ∷ lists) zero = overlaid_length (covered f) cells items
row_length f (cells ∷ tables) (items ∷ lists) (suc table) = row_length f tables lists table

history_length : (tables : Tables) (order : List Entry) → length (history tables order) ≡ length tables
history_length tables [] = refl
history_length tables (entry ∷ order) =
    history_length (after_entry tables entry) order ∙ overlaid_length (overlaid (covered (λ (pair : Pair). pair.after))) tables entry.cells

history_row : (tables : Tables) (order : List Entry) (table : ℕ) → length (get_or (history tables order) table []) ≡ length (get_or tables table [])
history_row tables [] table = refl
history_row tables (entry ∷ order) table =
    history_row (after_entry tables entry) order table ∙ row_length (λ (pair : Pair). pair.after) tables entry.cells table

laid_row : (positions : ℕ) (first : List (List (List Value))) (table : ℕ) → table < length first
    → length (get_or (map (laid_out positions) first) table []) ≡ positions
laid_row positions [] table less = absurd (omega (arith, less))
laid_row positions (rows ∷ first) zero less = length-map-range_with_len (slice_get rows) 0 positions
laid_row positions (rows ∷ first) (suc table) less = laid_row positions first table (omega (arith, less))

-- the tables after all entries
abbrev final : Setting → State → Tables
final setting state = history (opening_tables setting) state.order

final_length : (setting : Setting) (state : State) → length (final setting state) ≡ length setting.first
final_length setting state =
    history_length (opening_tables setting) state.order ∙ length-map setting.first (laid_out (capacity setting))

final_row : (setting : Setting) (state : State) (table : ℕ) → table < length setting.first
    → length (get_or (final setting state) table []) ≡ setting.chunks * setting.rows
final_row setting state table below =
    history_row (opening_tables setting) state.order table ∙ laid_row (capacity setting) setting.first table below

-- ---- lists

present_joined : (cells others : List Cell) → present cells ++ present others ≡ present (cells ++ others)
present_joined [] others = refl
present_joined (None ∷ cells) others = present_joined cells others
present_joined (Some row ∷ cells) others = ap (λ (rows : List (List Value)). row ∷ rows) (present_joined cells others)

-- what a function gives at the numbers of elements and what another gives at the elements
numbered_map : {A B : Type 0} (f : ℕ → B) (g : A → B) (d : A) (first : ℕ) (xs : List A)
    → ((index number : ℕ) → number ≡ first + index → index < length xs → f number ≡ g (get_or xs index d))
    → map f (range_with_len first (length xs)) ≡ map g xs
numbered_map f g d first [] each = refl
numbered_map {A} {B} f g d first (x ∷ xs) each =
    ap (λ (y : B). y ∷ map f (range_with_len (first + 1) (length xs))) (each zero first (omega arith) (omega arith))
    ∙ ap (λ (ys : List B). g x ∷ ys)
    (numbered_map f g d (first + 1) xs (λ index number e below. each (suc index) number (omega (arith, e)) (omega (arith, below))))

-- what is alike with the cells from a position on
cells_from : {A : Type 0} (f : A → Cell) (xs : List A) (cells : List Cell) (from : ℕ) → from + length xs ≤ length cells
    → ((index pos : ℕ) (x : A) → pos ≡ from + index → slice_get xs index ≡ Some x → f x ≡ get_or cells pos None)
    → map f xs ≡ take (length xs) (drop from cells)
cells_from f [] cells from within each = refl
cells_from f (x ∷ xs) cells from within each =
    ap (λ (cell : Cell). cell ∷ map f xs) (each zero from x (omega arith) refl)
    ∙ (ap (λ (others : List Cell). get_or cells from None ∷ others)
    (cells_from f xs cells (from + 1) (omega (arith, within)) (λ index pos y e g. each (suc index) pos y (omega (arith, e)) g))
    ∙ sym (ap (take (suc (length xs))) (drop_more cells from None (omega (arith, within)))))

-- the rows of stretches of so many cells, one after another
stretches : (rows : ℕ) (cells : List Cell) (f : ℕ → List (List Value)) (left first : ℕ) → length cells ≡ (first + left) * rows
    → ((number : ℕ) → number < first + left → f number ≡ present (take rows (drop (number * rows) cells)))
    → flat_map f (range_with_len first left) ≡ present (drop (first * rows) cells)
stretches rows cells f zero first long each =
    let end : (first + zero) * rows ≡ first * rows = ap (λ (n : ℕ). n * rows) (let e : first + zero ≡ first = omega arith in e) in
    sym (ap present (drop_all (first * rows) cells (omega (arith, long, end))))
stretches rows cells f (suc left) first long each =
    let here : List Cell = drop (first * rows) cells in
    let more : first + suc left ≡ first + 1 + left = omega arith in
    let next : first * rows + rows ≡ (first + 1) * rows = omega arith in
    let later : flat_map f (range_with_len (first + 1) left) ≡ present (drop ((first + 1) * rows) cells) =
    stretches rows cells f left (first + 1) (long ∙ ap (λ (n : ℕ). n * rows) more) (λ number below. each number (omega (arith, below))) in
    ap (λ (before : List (List Value)). before ++ flat_map f (range_with_len (first + 1) left)) (each first (omega arith))
    ∙ (ap (λ (after : List (List Value)). present (take rows here) ++ after)
    (later ∙ ap present (sym (drop-drop rows (first * rows) cells ∙ ap (λ (n : ℕ). drop n cells) next)))
    ∙ (present_joined (take rows here) (drop rows here) ∙ ap present (take-append-drop rows here)))

-- ---- what is shown

-- where no session is marked, all entries count
all_counted : (setting : Setting) (state : State) (table chunk : ℕ) → state.mark ≡ None
    → snapshot setting state (entries_counted setting state table chunk) ≡ final setting state
all_counted setting state table chunk none =
    ap (snapshot setting state) (counted (is_unstamped_by setting state state.mark table chunk)
    (ap (λ (mark : Option ℕ). is_unstamped_by setting state mark table chunk) none))
    ∙ ap (history (opening_tables setting)) (take_all (length state.order) state.order (omega arith))
  where
    counted : (b : Bool) → b ≡ false → cond b (length state.order - 1) (length state.order) ≡ length state.order
    counted true e = absurd cc
    counted false e = refl

module _ (setting : Setting) (state : State) (parts : List Part) (sessions : List SessionData) (shows : Shows setting state parts sessions)
    (none : state.mark ≡ None) (newcomer : IsNewcomer state shows.core sessions (last_viewer shows.core))
    (shapes : length setting.first ≡ length setting.shapes) where
  -- a chunk's rows are those of its stretch of the table's cells
  chunk_shown : (table chunk : ℕ) → table < length setting.shapes → chunk < setting.chunks
      → chunk_rows shows.core parts setting.chunks table chunk
      ≡ present (take setting.rows (drop (chunk * setting.rows) (get_or (final setting state) table [])))
  chunk_shown table chunk table_below chunk_below =
      ap (λ (part : Option Part). present (rows_seen (last_viewer shows.core) (places_in part))) has.is_part.found
      ∙ (ap present (cells_from (sees (last_viewer shows.core)) has.part.places cells (chunk * setting.rows) within each)
      ∙ ap (λ (n : ℕ). present (take n (drop (chunk * setting.rows) cells))) has.chunk_is.places)
    where
      cells : List Cell
      cells = get_or (final setting state) table []

      has : HasChunk setting parts table chunk
      has = shows.parts_are.chunks table chunk table_below chunk_below

      within : chunk * setting.rows + length has.part.places ≤ length cells
      within =
          let long : length cells ≡ setting.chunks * setting.rows = final_row setting state table (omega (arith, table_below, shapes)) in
          let size = has.chunk_is.places in
          let more : suc chunk * setting.rows ≤ setting.chunks * setting.rows =
          mul-le-mul_right setting.rows (let s : suc chunk ≤ setting.chunks = omega (arith, chunk_below) in s) in
          let next : suc chunk * setting.rows ≡ chunk * setting.rows + setting.rows = omega arith in
          omega (arith, long, size, more, next)

      each : (index pos : ℕ) (place : Place) → pos ≡ chunk * setting.rows + index → slice_get has.part.places index ≡ Some place
          → sees (last_viewer shows.core) place ≡ get_or cells pos None
      each index pos place e found =
          (shows.places_show table chunk index has.part place has.is_part found).newcomer_sees (last_viewer shows.core) newcomer
          ∙ (ap (λ (tables : Tables). item_at tables table (chunk * setting.rows + index)) (all_counted setting state table chunk none)
          ∙ ap (λ (n : ℕ). get_or cells n None) (sym e))

  table_shown : (table : ℕ) → table < length setting.shapes
      → told_rows shows.core parts setting.chunks table ≡ rows_sorted (get_or (final setting state) table [])
  table_shown table below =
      let cells : List Cell = get_or (final setting state) table [] in
      let long : length cells ≡ setting.chunks * setting.rows = final_row setting state table (omega (arith, below, shapes)) in
      let all : zero + setting.chunks ≡ setting.chunks = omega arith in
      let start : zero * setting.rows ≡ zero = omega arith in
      ap sorted (stretches setting.rows cells (chunk_rows shows.core parts setting.chunks table) setting.chunks zero
      (long ∙ ap (λ (n : ℕ). n * setting.rows) (sym all)) (λ chunk inside. chunk_shown table chunk below (omega (arith, inside)))
      ∙ ap (λ (n : ℕ). present (drop n cells)) start)

  pub tables_shown : map (told_rows shows.core parts setting.chunks) (range_with_len 0 (length setting.shapes)) ≡ map rows_sorted (final setting state)
  tables_shown =
      let count : length (final setting state) ≡ length setting.shapes = final_length setting state ∙ shapes in
      ap (λ (n : ℕ). map (told_rows shows.core parts setting.chunks) (range_with_len 0 n)) (sym count)
      ∙ numbered_map (told_rows shows.core parts setting.chunks) rows_sorted [] 0 (final setting state)
      (λ index number e below.
      let same : index ≡ number = omega (arith, e) in
      ap (told_rows shows.core parts setting.chunks) (sym same) ∙ table_shown index (omega (arith, below, count)))
