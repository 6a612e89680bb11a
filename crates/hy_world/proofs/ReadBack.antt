-- Rows that are gathered of what a viewer sees, read back and sorted, are the rows that it sees, sorted.
use Rattle.std.proofs.Common.{◌≡◌, ℕ, zero, suc, ◌+◌, ◌*◌, ◌≤◌, List, [], ◌∷◌, ◌++◌, Bool}
use Rattle.std.proofs.Common.{true, false, None, Some, length, map, refl, sym, ap, ◌∙◌, arith}
use Rattle.std.specs.Prelude.{slice_get, if◌then◌else◌}
use Rattle.std.specs.List.{flat_map, range_with_len}
use Rattle.std.specs.Ordering.{is_lt}
use Rattle.std.proofs.lemmas.List.{flat_map_more, map-append, map-id}
use Rattle.std.proofs.lemmas.List.FromFn.{map-range_with_len_more}
use Rattle.hy_value.specs.declared.Value.{Value}
use Rattle.hy_value.specs.Order.{row_cmp}
use Rattle.hy_value.specs.Sorted.{put_row, sorted}
use Rattle.hy_bound.specs.Agreement.{HaveWidth}
use Rattle.hy_bound.specs.Changes.{present}
use Rattle.hy_bound.specs.Condition.{True}
use Rattle.hy_bound.specs.Projection.{projected, spread}
use Rattle.hy_bound.specs.declared.Shape.{Shape}
use Rattle.hy_bound.specs.Records.{shape_of}
use Rattle.hy_stamp.specs.declared.Viewer.{Viewer}
use Rattle.hy_journal.specs.declared.CoreData.{CoreData}
use Rattle.hy_undo.specs.Chunks.{rows_seen}
use Rattle.hy_undo.specs.Places.{Cell}
use Rattle.hy_chunk.specs.Gathering.{gathered_of}
use Rattle.hy_chunk.specs.Views.{Whole}
use Rattle.hy_stepping.specs.Outcomes.{chunk_rows, last_viewer, places_in}
use Rattle.hy_world.specs.Finished.{every_column, places_of, gathered_at, gathered_in, read_back, table_back, tables_back}
use Rattle.hy_world.specs.Worlds.{parts_of, plain}
use Rattle.hy_world.proofs.Widths.{row_back}

-- ---- what is gathered

gathered_every : (cells : List Cell) → gathered_of every_column True cells ≡ map (projected every_column) (present cells)
gathered_every [] = refl
gathered_every (None ∷ cells) = gathered_every cells
gathered_every (Some row ∷ cells) = ap (λ (rows : List (List Value)). projected every_column row ∷ rows) (gathered_every cells)

-- the chunk of a number is the part of that number; there is no chunk where the core is
places_same : (chunks : List Whole) (core : CoreData) (n : ℕ) → places_of (slice_get chunks n) ≡ places_in (slice_get (parts_of (plain chunks) core) n)
places_same [] core zero = refl
places_same [] core (suc n) = refl
places_same (chunk ∷ chunks) core zero = refl
places_same (chunk ∷ chunks) core (suc n) = places_same chunks core n

flat_mapped : {A : Type 0} (f : A → A) (rows : ℕ → List A) (taken : ℕ → List A) → ((n : ℕ) → taken n ≡ map f (rows n)) → (numbers : List ℕ)
    → flat_map taken numbers ≡ map f (flat_map rows numbers)
flat_mapped f rows taken each [] = refl
flat_mapped f rows taken each (n ∷ numbers) =
    ap (λ (front : List _). front ++ flat_map taken numbers) (each n)
    ∙ (ap (λ (behind : List _). map f (rows n) ++ behind) (flat_mapped f rows taken each numbers)
    ∙ sym (map-append f (rows n) (flat_map rows numbers)))

-- the rows that are seen in a table of so many chunks
abbrev pub table_seen : CoreData → List Whole → ℕ → ℕ → List (List Value)
table_seen core chunks per_table table =
    flat_map (chunk_rows core (parts_of (plain chunks) core) per_table table) (range_with_len 0 per_table)

gathered_seen : (core : CoreData) (chunks : List Whole) (per_table table : ℕ)
    → gathered_in (last_viewer core) chunks (table * per_table) per_table ≡ map (projected every_column) (table_seen core chunks per_table table)
gathered_seen core chunks per_table table =
    flat_mapped (projected every_column) (chunk_rows core (parts_of (plain chunks) core) per_table table)
    (λ chunk. gathered_at (last_viewer core) chunks (table * per_table + chunk)) each (range_with_len 0 per_table)
  where
    each : (chunk : ℕ) → gathered_at (last_viewer core) chunks (table * per_table + chunk)
        ≡ map (projected every_column) (chunk_rows core (parts_of (plain chunks) core) per_table table chunk)
    each chunk =
        ap (λ places. gathered_of every_column True (rows_seen (last_viewer core) places)) (places_same chunks core (table * per_table + chunk))
        ∙ gathered_every (rows_seen (last_viewer core) (places_in (slice_get (parts_of (plain chunks) core) (table * per_table + chunk))))

-- ---- widths of sorted rows

put_wide : (width : ℕ) (row : List Value) (rows : List (List Value)) → length row ≡ width → HaveWidth width rows → HaveWidth width (put_row row rows)
put_wide width row [] e h = (e, tt)
put_wide width row (first ∷ rows) e h =
    elim (is_lt (row_cmp first row)) as (λ less. HaveWidth width (if less then first ∷ put_row row rows else row ∷ first ∷ rows))
    [ true ↦ (h.0, put_wide width row rows e h.1) | false ↦ (e, h) ]

pub sorted_wide : (width : ℕ) (rows : List (List Value)) → HaveWidth width rows → HaveWidth width (sorted rows)
sorted_wide width [] h = tt
sorted_wide width (row ∷ rows) h = put_wide width row (sorted rows) h.0 (sorted_wide width rows h.1)

by_order : (width : ℕ) (row first : List Value) (rows others : List (List Value))
    → (HaveWidth width others → HaveWidth width (row ∷ rows)) → (less : Bool)
    → HaveWidth width (if less then first ∷ others else row ∷ first ∷ rows) → HaveWidth width (row ∷ first ∷ rows)
by_order width row first rows others was true h = let all : HaveWidth width (row ∷ rows) = was h.1 in (all.0, (h.0, all.1))
by_order width row first rows others was false h = h

put_was_wide : (width : ℕ) (row : List Value) (rows : List (List Value)) → HaveWidth width (put_row row rows) → HaveWidth width (row ∷ rows)
put_was_wide width row [] h = h
put_was_wide width row (first ∷ rows) h =
    by_order width row first rows (put_row row rows) (put_was_wide width row rows) (is_lt (row_cmp first row)) h

pub was_wide : (width : ℕ) (rows : List (List Value)) → HaveWidth width (sorted rows) → HaveWidth width rows
was_wide width [] h = tt
was_wide width (row ∷ rows) h =
    let all : HaveWidth width (row ∷ sorted rows) = put_was_wide width row (sorted rows) h in
    (all.0, was_wide width rows all.1)

-- ---- read back

rows_back : (width : ℕ) (rows : List (List Value)) → width ≤ 32 → HaveWidth width rows
    → map (spread every_column width) (map (projected every_column) rows) ≡ rows
rows_back width [] few h = refl
rows_back width (row ∷ rows) few h =
    ap (λ (first : List Value). first ∷ map (spread every_column width) (map (projected every_column) rows)) (row_back row width h.0 few)
    ∙ ap (λ (others : List (List Value)). row ∷ others) (rows_back width rows few h.1)

-- the rows of a table, if they have its width
pub seen_back : (core : CoreData) (chunks : List Whole) (per_table table width : ℕ) → width ≤ 32
    → HaveWidth width (table_seen core chunks per_table table)
    → read_back width (gathered_in (last_viewer core) chunks (table * per_table) per_table) ≡ sorted (table_seen core chunks per_table table)
seen_back core chunks per_table table width few h =
    ap (read_back width) (gathered_seen core chunks per_table table)
    ∙ ap sorted (rows_back width (table_seen core chunks per_table table) few h)

-- ---- one more chunk, and one more table

range_more : (n : ℕ) → range_with_len 0 (n + 1) ≡ range_with_len 0 n ++ n ∷ []
range_more n =
    sym (map-id (range_with_len 0 (n + 1)))
    ∙ (map-range_with_len_more (λ (x : ℕ). x) 0 n n (omega arith) ∙ ap (λ (numbers : List ℕ). numbers ++ n ∷ []) (map-id (range_with_len 0 n)))

pub gathered_more : (viewer : Viewer) (chunks now : List Whole) (first n : ℕ) (olds rows : List (List Value)) → now ≡ chunks
    → rows ≡ olds ++ gathered_in viewer chunks first n
    → rows ++ gathered_at viewer now (first + n) ≡ olds ++ gathered_in viewer chunks first (n + 1)
gathered_more viewer chunks now first n olds rows same e =
    let each : ℕ → List (List Value) = λ chunk. gathered_at viewer chunks (first + chunk) in
    ap (λ (chunks : List Whole). rows ++ gathered_at viewer chunks (first + n)) same
    ∙ (ap (λ (rows : List (List Value)). rows ++ each n) e
    ∙ (flat_map_more each olds (range_with_len 0 n) n ∙ ap (λ (numbers : List ℕ). olds ++ flat_map each numbers) (sym (range_more n))))

pub tables_more : (viewer : Viewer) (chunks now : List Whole) (shapes : List Shape) (per_table n width : ℕ) (tables : List (List (List Value)))
    (rows : List (List Value)) → now ≡ chunks → tables ≡ tables_back viewer chunks shapes per_table n → width ≡ (shape_of shapes n).width
    → rows ≡ read_back width (gathered_in viewer now (n * per_table) per_table)
    → tables ++ rows ∷ [] ≡ tables_back viewer chunks shapes per_table (n + 1)
tables_more viewer chunks now shapes per_table n width tables rows same before wide e =
    let last : rows ≡ table_back viewer chunks shapes per_table n =
    e ∙ (ap (λ (chunks : List Whole). read_back width (gathered_in viewer chunks (n * per_table) per_table)) same
    ∙ ap (λ (width : ℕ). read_back width (gathered_in viewer chunks (n * per_table) per_table)) wide) in
    ap (λ (front : List (List (List Value))). front ++ rows ∷ []) before
    ∙ (ap (λ (rows : List (List Value)). tables_back viewer chunks shapes per_table n ++ rows ∷ []) last
    ∙ sym (map-range_with_len_more (table_back viewer chunks shapes per_table) 0 n n (omega arith)))
