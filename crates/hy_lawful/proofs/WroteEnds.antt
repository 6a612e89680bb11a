-- What a transaction wrote of the rows that stood at its start.
use Rattle.std.proofs.Common.{◌≡◌, ℕ, zero, suc, ◌+◌, ◌*◌, ◌/◌, ◌<◌, ◌≤◌, List, [], ◌∷◌, Option, None, Some, Bool, true, false, length}
use Rattle.std.proofs.Common.{cond, ltb, is_some, get_or, map, take, refl, ap, sym, ◌∙◌, subst, arith, inl, inr, mul-le-mul_right}
use Rattle.std.specs.Prelude.{slice_get, replicate, ◌||◌, ◌&&◌, ◌==◌}
use Rattle.std.specs.List.{AllByRecursion}
use Rattle.std.proofs.lemmas.Bool.{cases_lt, lt-ltb, le-ltb}
use Rattle.std.proofs.Math.Nat.{div-mul-le_self, lt-div-mul-add}
use Rattle.hy_value.specs.declared.Value.{Value}
use Rattle.hy_bound.specs.declared.Bound.{Bound}
use Rattle.hy_bound.specs.Predicate.{truth_at}
use Rattle.hy_bound.specs.declared.Ending.{Ending}
use Rattle.hy_bound.specs.declared.Ending.TheVariants.{Committed, Read, RolledBack, Conflict, Invalid, Range, Full}
use Rattle.hy_machine.specs.declared.Setting.{Setting}
use Rattle.hy_machine.specs.States.{Begun, Finished}
use Rattle.hy_machine.specs.Tables.{Pair, Entry, Cell, Tables, Own, capacity, covered, over}
use Rattle.hy_machine.specs.Positions.{item_at}
use Rattle.hy_machine.specs.Writes.{blank_own, written}
use Rattle.hy_machine.specs.Visits.{verdict}
use Rattle.hy_replay.specs.Laws.{AreTables}
use Rattle.hy_replay.specs.Ran.{Ran}
use Rattle.hy_lawful.specs.Passing.{has_place}
use Rattle.hy_lawful.specs.Written.{followed, some_writes, would_write, refused_at, is_in_chunk_before}
use Rattle.hy_lawful.proofs.Fits.{FitsTables}
use Rattle.hy_lawful.proofs.Tables.{blank_fits}
use Rattle.hy_lawful.proofs.PassTables.{tables_at, pair_at, AllFit, covered_at, cell_next, tables_are}
use Rattle.hy_lawful.proofs.PassStates.{Passed}
use Rattle.hy_lawful.proofs.PrintedPlaces.{place_missing, place_found}
use Rattle.hy_lawful.proofs.RunSweeps.{writes_apart, sweep_below}
use Rattle.hy_lawful.proofs.WroteSweeps.{HadSwept, HadWritten}
use Rattle.hy_lawful.proofs.WroteStates.{EndedWrote}
use Rattle.hy_lawful.proofs.WroteFollows.{RoomIn, Room}
use Rattle.hy_lawful.proofs.WroteRows.{IsCellAt, StandsSo, change_writes, change_follows, all_follow, or_false}

-- ---- a row at the start

-- a row stands at a position that its table has
pub record IsThere (tables : Tables) (most table pos : ℕ) : Type 0 where
  pub table_below : table < length tables
  pub below : pos < most

cell_there : (cells : List Cell) (pos : ℕ) (row : List Value) → get_or cells pos None ≡ Some row → pos < length cells
cell_there [] pos row e = absurd cc
cell_there (cell ∷ cells) zero row e = omega arith
cell_there (cell ∷ cells) (suc pos) row e = omega (arith, cell_there cells pos row e)

pub row_there : (tables : Tables) (most table pos : ℕ) (row : List Value) → AllByRecursion (λ (cells : List Cell). length cells ≡ most) tables
    → item_at tables table pos ≡ Some row → IsThere tables most table pos
row_there [] most table pos row l e = absurd cc
row_there (cells ∷ tables) most zero pos row l e = record { table_below = omega arith; below = omega (arith, cell_there cells pos row e, l.0) }
row_there (cells ∷ tables) most (suc table) pos row l e =
    let later : IsThere tables most table pos = row_there tables most table pos row l.1 e in
    record { table_below = omega (arith, later.table_below); below = later.below }

blank_in : (n pos : ℕ) → pos < n → RoomIn (replicate n None) pos
blank_in zero pos h = absurd (omega arith)
blank_in (suc n) zero h = tt
blank_in (suc n) (suc pos) h = blank_in n pos (omega arith)

pub blank_room : (n : ℕ) (rows : List (List (List Value))) (table pos : ℕ) → table < length rows → pos < n
    → Room (map (λ (one : List (List Value)). replicate n None) rows) table pos
blank_room n [] table pos t h = absurd (omega arith)
blank_room n (one ∷ rows) zero pos t h = blank_in n pos h
blank_room n (one ∷ rows) (suc table) pos t h = blank_room n rows table pos (omega arith) h

blank_cell : (n pos : ℕ) → get_or {A = Option Cell} (replicate n None) pos None ≡ None
blank_cell zero pos = refl
blank_cell (suc n) zero = refl
blank_cell (suc n) (suc pos) = blank_cell n pos

blank_item : (n : ℕ) (rows : List (List (List Value))) (table pos : ℕ)
    → item_at {A = Cell} (map (λ (one : List (List Value)). replicate n None) rows) table pos ≡ None
blank_item n [] table pos = refl
blank_item n (one ∷ rows) zero pos = blank_cell n pos
blank_item n (one ∷ rows) (suc table) pos = blank_item n rows table pos

pub row_at : (setting : Setting) (tables : Tables) (table pos : ℕ) (row : List Value) → AreTables setting tables → item_at tables table pos ≡ Some row
    → IsCellAt setting tables table pos (Some row)
row_at setting tables table pos row are e =
    record { are = are; under_is = e; below = (row_there tables (capacity setting) table pos row are.long e).below }

-- where a cell stands nothing is written yet
pub begins_so : (setting : Setting) (tables : Tables) (table pos : ℕ) (under : Cell) → IsCellAt setting tables table pos under → table < length tables
    → StandsSo setting (blank_own setting) table pos under under false
begins_so setting tables table pos under is there =
    let none : item_at (blank_own setting) table pos ≡ None = blank_item (capacity setting) setting.first table pos in
    record {
      fits = blank_fits setting;
      room = blank_room (capacity setting) setting.first table pos (omega (arith, there, is.are.many)) is.below;
      wrote_is = ap is_some none;
      cell_is = ap (covered (λ (item : Cell). item) under) none;
    }

pub starts_so : (setting : Setting) (tables : Tables) (table pos : ℕ) (row : List Value) → IsCellAt setting tables table pos (Some row)
    → StandsSo setting (blank_own setting) table pos (Some row) (Some row) false
starts_so setting tables table pos row is =
    begins_so setting tables table pos (Some row) is (row_there tables (capacity setting) table pos row is.are.long is.under_is).table_below

-- the answered statements of an ended transaction
answers_so : (setting : Setting) (order : List Entry) (statements : List Bound) (finished : Finished) (ended : EndedWrote setting order statements finished)
    → (table pos : ℕ) (row : List Value) → IsCellAt setting (tables_at setting order finished.begun.prefix) table pos (Some row)
    → StandsSo setting ended.given.own table pos (Some row) (followed table (take (length finished.begun.replies) statements) (Some row))
    (some_writes table (take (length finished.begun.replies) statements) (Some row))
answers_so setting order statements finished ended table pos row is =
    all_follow setting (tables_at setting order finished.begun.prefix) (blank_own setting) [] 1 (take (length finished.begun.replies) statements)
    finished.begun.took ended.given table pos row [] (Some row) false is ended.run.came_to
    (record { stands = starts_so setting (tables_at setting order finished.begun.prefix) table pos row is; was = tt })

-- ---- the refused statement

-- the first position of the chunk of a position
same_chunk : (rows visited pos : ℕ) → visited * rows ≤ pos → pos < visited * rows + rows → pos / rows * rows ≡ visited * rows
same_chunk zero visited pos from below = absurd (let none : visited * 0 ≡ 0 = omega arith in omega arith)
same_chunk (suc rows) visited pos from below =
    let chunk : ℕ = pos / suc rows in
    let low : chunk * suc rows ≤ pos = div-mul-le_self pos (suc rows) in
    let high : pos < chunk * suc rows + suc rows = lt-div-mul-add {a = pos} {b = suc rows} (omega arith) in
    elim (cases_lt visited chunk) [
      | inl less ↦
          let more : suc visited * suc rows ≤ chunk * suc rows = mul-le-mul_right (suc rows) less in
          let same : suc visited * suc rows ≡ visited * suc rows + suc rows = omega arith in absurd (omega arith)
      | inr most ↦ elim (cases_lt chunk visited) [
        | inl less ↦
            let more : suc chunk * suc rows ≤ visited * suc rows = mul-le-mul_right (suc rows) less in
            let same : suc chunk * suc rows ≡ chunk * suc rows + suc rows = omega arith in absurd (omega arith)
        | inr least ↦ ap (λ (n : ℕ). n * suc rows) (let same : chunk ≡ visited = omega arith in same)
      ]
    ]

in_chunk : (b : Bool) (rows at pos : ℕ) → is_in_chunk_before rows (cond b (Some at) None) pos ≡ (b && ltb pos (at / rows * rows))
in_chunk true rows at pos = refl
in_chunk false rows at pos = refl

inside_so : (b t : Bool) → ((b && true) && (b && t)) ≡ (b && t)
inside_so true t = refl
inside_so false t = refl

outside_so : (b t : Bool) → ((b && false) && t) ≡ false
outside_so true t = refl
outside_so false t = refl

-- what an UPDATE or a DELETE wrote that was refused at a position of a table
swept_so : (setting : Setting) (tables : Tables) (statements : List Bound) (begun : Begun) (given : Ran) (of at table pos : ℕ) (row : List Value)
    (cell : Cell) (wrote : Bool) → IsCellAt setting tables table pos (Some row) → StandsSo setting given.own table pos (Some row) cell wrote
    → HadSwept setting tables statements begun given of at
    → is_some (item_at begun.own table pos) ≡ (wrote || (is_in_chunk_before setting.rows (cond (of == table) (Some at) None) pos
    && would_write table (slice_get statements (length begun.replies)) cell))
swept_so setting tables statements begun given of at table pos row cell wrote is s h =
    let writing : would_write table (slice_get statements (length begun.replies)) cell ≡ (of == table && truth_at h.pred cell) =
    ap (λ (one : Option Bound). would_write table one cell) h.here ∙ change_writes h.kind h.pred of table cell in
    let start : at / setting.rows * setting.rows ≡ h.visited * setting.rows = same_chunk setting.rows h.visited at h.from h.below in
    let chunk : is_in_chunk_before setting.rows (cond (of == table) (Some at) None) pos ≡ (of == table && ltb pos (h.visited * setting.rows)) =
    in_chunk (of == table) setting.rows at pos ∙ ap (λ (n : ℕ). of == table && ltb pos n) start in
    elim (cases_lt pos (h.visited * setting.rows)) [
      | inl short ↦
          let after = change_follows setting tables given.own h.kind h.pred of (h.visited * setting.rows) h.writes table pos (Some row) cell wrote is short
          h.swept s in
          ap (λ (own : Own). is_some (item_at own table pos)) (sym h.own)
          ∙ (after.wrote_is
          ∙ ap (λ (b : Bool). wrote || b) (change_writes h.kind h.pred of table cell
          ∙ (sym (inside_so (of == table) (truth_at h.pred cell))
          ∙ (ap (λ (b : Bool). (of == table && b) && (of == table && truth_at h.pred cell)) (sym (lt-ltb pos (h.visited * setting.rows) short))
          ∙ (ap (λ (b : Bool). b && (of == table && truth_at h.pred cell)) (sym chunk)
          ∙ ap (λ (b : Bool). is_in_chunk_before setting.rows (cond (of == table) (Some at) None) pos && b) (sym writing))))))
      | inr long ↦
          ap (λ (own : Own). is_some (item_at own table pos)) (sym h.own)
          ∙ (ap is_some (writes_apart given.own h.writes table pos
          (sweep_below of (λ one. verdict h.kind h.pred of one None (item_at (over tables given.own) of one)) 0 (h.visited * setting.rows) pos h.writes
          (omega arith) h.swept))
          ∙ (s.wrote_is
          ∙ (or_false wrote
          ∙ ap (λ (b : Bool). wrote || b)
          (sym (outside_so (of == table) (would_write table (slice_get statements (length begun.replies)) cell))
          ∙ (ap (λ (b : Bool). (of == table && b) && would_write table (slice_get statements (length begun.replies)) cell)
          (sym (le-ltb pos (h.visited * setting.rows) long))
          ∙ ap (λ (b : Bool). b && would_write table (slice_get statements (length begun.replies)) cell) (sym chunk))))))
    ]

-- ---- what was written

own_so : (setting : Setting) (begun : Begun) (given : Ran) (table pos : ℕ) (row : List Value) (cell : Cell) (wrote : Bool)
    → StandsSo setting given.own table pos (Some row) cell wrote → given.own ≡ begun.own → is_some (item_at begun.own table pos) ≡ (wrote || false)
own_so setting begun given table pos row cell wrote s same =
    ap (λ (own : Own). is_some (item_at own table pos)) (sym same) ∙ (s.wrote_is ∙ or_false wrote)

written_so : (setting : Setting) (tables : Tables) (statements : List Bound) (begun : Begun) (given : Ran) (table pos : ℕ) (row : List Value)
    (cell : Cell) (wrote : Bool) → IsCellAt setting tables table pos (Some row) → StandsSo setting given.own table pos (Some row) cell wrote → (ending : Ending)
    → HadWritten setting tables statements begun given ending
    → is_some (item_at begun.own table pos) ≡ (wrote || (is_in_chunk_before setting.rows (refused_at table ending) pos
    && would_write table (slice_get statements (length begun.replies)) cell))
written_so setting tables statements begun given table pos row cell wrote is s (Committed rank) h = own_so setting begun given table pos row cell wrote s h
written_so setting tables statements begun given table pos row cell wrote is s Read h = own_so setting begun given table pos row cell wrote s h
written_so setting tables statements begun given table pos row cell wrote is s RolledBack h = own_so setting begun given table pos row cell wrote s h
written_so setting tables statements begun given table pos row cell wrote is s (Conflict of at other) h =
    swept_so setting tables statements begun given of at table pos row cell wrote is s h
written_so setting tables statements begun given table pos row cell wrote is s (Invalid of at other statement) h =
    own_so setting begun given table pos row cell wrote s h
written_so setting tables statements begun given table pos row cell wrote is s (Range of at) h =
    swept_so setting tables statements begun given of at table pos row cell wrote is s h
written_so setting tables statements begun given table pos row cell wrote is s (Full of) h = own_so setting begun given table pos row cell wrote s h

-- a position is among the places where something was written
pub place_is : (own : Own) (table pos : ℕ) (item : Option Cell) → item_at own table pos ≡ item → has_place (written own) table pos ≡ is_some item
place_is own table pos None e = place_missing own table pos e
place_is own table pos (Some cell) e = place_found own table pos (ap is_some e)

-- of the rows of its start an ended transaction wrote those that its statements select
pub writes_what_it_selects : (setting : Setting) (order : List Entry) (statements : List Bound) (finished : Finished)
    → EndedWrote setting order statements finished → (table pos : ℕ) (row : List Value)
    → item_at (tables_at setting order finished.begun.prefix) table pos ≡ Some row
    → has_place (written finished.begun.own) table pos ≡ (some_writes table (take (length finished.begun.replies) statements) (Some row)
    || (is_in_chunk_before setting.rows (refused_at table finished.ending) pos
    && would_write table (slice_get statements (length finished.begun.replies))
    (followed table (take (length finished.begun.replies) statements) (Some row))))
writes_what_it_selects setting order statements finished ended table pos row e =
    let is : IsCellAt setting (tables_at setting order finished.begun.prefix) table pos (Some row) =
    row_at setting (tables_at setting order finished.begun.prefix) table pos row (tables_are setting order finished.begun.prefix) e in
    place_is finished.begun.own table pos (item_at finished.begun.own table pos) refl
    ∙ written_so setting (tables_at setting order finished.begun.prefix) statements finished.begun ended.given table pos row
    (followed table (take (length finished.begun.replies) statements) (Some row))
    (some_writes table (take (length finished.begun.replies) statements) (Some row)) is
    (answers_so setting order statements finished ended table pos row is) finished.ending ended.wrote

-- ---- what an entry leaves

alike_own : (under other : Cell) (item : Option Cell) → is_some item ≡ true
    → covered (λ (one : Cell). one) under item ≡ covered (λ (one : Cell). one) other item
alike_own under other None h = absurd cc
alike_own under other (Some cell) h = refl

-- a committed transaction leaves a row of its start as it is followed
pub leaves_what_follows : (setting : Setting) (order : List Entry) (statements : List Bound) (finished : Finished)
    (ended : EndedWrote setting order statements finished) → AllFit setting order → (rank : ℕ) → Passed setting order finished.begun rank
    → ended.given.own ≡ finished.begun.own
    → (table pos : ℕ) (pair : Pair) → pair_at order rank table pos ≡ Some pair → (row : List Value)
    → item_at (tables_at setting order finished.begun.prefix) table pos ≡ Some row
    → pair.after ≡ followed table (take (length finished.begun.replies) statements) (Some row)
leaves_what_follows setting order statements finished ended fit rank passed same table pos pair at row e =
    let is : IsCellAt setting (tables_at setting order finished.begun.prefix) table pos (Some row) =
    row_at setting (tables_at setting order finished.begun.prefix) table pos row (tables_are setting order finished.begun.prefix) e in
    let s = answers_so setting order statements finished ended table pos row is in
    let fits : FitsTables setting finished.begun.own = subst (FitsTables setting) same s.fits in
    sym (cell_next setting order fit rank table pos (Some pair) at)
    ∙ (ap (λ (tables : Tables). item_at tables table pos) passed.lays
    ∙ (covered_at setting (λ (item : Cell). item) (tables_at setting order rank) finished.begun.own (tables_are setting order rank) fits table pos
    ∙ (alike_own (item_at (tables_at setting order rank) table pos) (Some row) (item_at finished.begun.own table pos) (passed.wrote table pos pair at)
    ∙ (ap (λ (own : Own). covered (λ (item : Cell). item) (Some row) (item_at own table pos)) (sym same) ∙ s.cell_is))))
