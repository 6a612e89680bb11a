-- The cells of a table and of its chunks.
use Rattle.std.proofs.Common.{◌≡◌, ℕ, zero, suc, ◌+◌, ◌*◌, ◌<◌, ◌≤◌, List, [], ◌∷◌, ◌++◌, length, map, take, drop, get_or, None, Some}
use Rattle.std.proofs.Common.{refl, sym, ap, ◌∙◌, arith, length-drop}
use Rattle.std.specs.Prelude.{slice_get, filter, Bool}
use Rattle.std.proofs.Math.Nat.{mul-le-mul_right}
use Rattle.std.proofs.lemmas.List.{length-take-le, map-append}
use Rattle.std.proofs.lemmas.List.FromFn.{length-map-range_with_len}
use Rattle.std.proofs.lemmas.List.Elements.{filter-append}
use Rattle.std.proofs.lemmas.Option.{get_or_from_slice_get}
use Rattle.hy_value.specs.declared.Value.{Value}
use Rattle.hy_bound.specs.Changes.{present}
use Rattle.hy_undo.specs.Places.{sees}
use Rattle.hy_undo.specs.Chunks.{ChunkData, rows_seen}
use Rattle.hy_event.specs.declared.SessionData.{SessionData}
use Rattle.hy_event.specs.declared.Open.{Open}
use Rattle.hy_protocol.specs.declared.Phase.TheVariants as phase
use Rattle.hy_event.specs.Sessions.{viewer_of}
use Rattle.hy_event.specs.Events.{Part}
use Rattle.hy_machine.specs.declared.Setting.{Setting}
use Rattle.hy_machine.specs.States.{State, Begun, Open as MachineOpen}
use Rattle.hy_machine.specs.Tables.{Entry, Pair, Cell, Tables, capacity, laid_out, after_entry, history, opening_tables}
use Rattle.hy_machine.specs.Sessions.{snapshot, view}
use Rattle.hy_refinement.specs.Taken.{AtChunk}
use Rattle.hy_refinement.proofs.Orders.{dropped_get}
use Rattle.hy_refinement.proofs.LastCells.{row_length, taken_get, taken_below}
use Rattle.hy_refinement.proofs.FramesSeen.{seen_at, places_long}

-- ---- how many cells a table has

history_row : (tables : Tables) (order : List Entry) (table : ℕ) → length (get_or (history tables order) table []) ≡ length (get_or tables table [])
history_row tables [] table = refl
history_row tables (entry ∷ order) table =
    history_row (after_entry tables entry) order table ∙ row_length (λ (pair : Pair). pair.after) tables entry.cells table

laid_row : (positions : ℕ) (first : List (List (List Value))) (table : ℕ) → table < length first
    → length (get_or (map (laid_out positions) first) table []) ≡ positions
laid_row positions [] table less = absurd (omega (arith, less))
laid_row positions (rows ∷ first) zero less = length-map-range_with_len (slice_get rows) 0 positions
laid_row positions (rows ∷ first) (suc table) less = laid_row positions first table (omega (arith, less))

laid_most : (positions : ℕ) (first : List (List (List Value))) (table : ℕ) → length (get_or (map (laid_out positions) first) table []) ≤ positions
laid_most positions [] table = omega arith
laid_most positions (rows ∷ first) zero = let e = length-map-range_with_len (slice_get rows) 0 positions in omega (arith, e)
laid_most positions (rows ∷ first) (suc table) = laid_most positions first table

view_row : (setting : Setting) (state : State) (begun : Begun) (table : ℕ)
    → length (get_or (view setting state begun) table []) ≡ length (get_or (opening_tables setting) table [])
view_row setting state begun table =
    row_length (λ own. own) (snapshot setting state begun.prefix) begun.own table
    ∙ history_row (opening_tables setting) (take begun.prefix state.order) table

pub view_long : (setting : Setting) (state : State) (begun : Begun) (table : ℕ) → table < length setting.first
    → length (get_or (view setting state begun) table []) ≡ capacity setting
view_long setting state begun table less = view_row setting state begun table ∙ laid_row (capacity setting) setting.first table less

pub view_most : (setting : Setting) (state : State) (begun : Begun) (table : ℕ) → length (get_or (view setting state begun) table []) ≤ capacity setting
view_most setting state begun table =
    let same = view_row setting state begun table in
    let most = laid_most (capacity setting) setting.first table in
    omega (arith, same, most)

-- ---- lists

-- elements that are alike one by one make the same list
list_same : {A B : Type 0} (f : A → B) (xs : List A) (ys : List B) → length xs ≡ length ys
    → ((i : ℕ) (x : A) (y : B) → slice_get xs i ≡ Some x → slice_get ys i ≡ Some y → f x ≡ y) → map f xs ≡ ys
list_same f [] [] long same = refl
list_same f [] (y ∷ ys) long same = absurd (omega (arith, long))
list_same f (x ∷ xs) [] long same = absurd (omega (arith, long))
list_same {A} {B} f (x ∷ xs) (y ∷ ys) long same =
    ap (λ (z : B). z ∷ map f xs) (same zero x y refl refl)
    ∙ ap (λ (zs : List B). y ∷ zs) (list_same f xs ys (omega (arith, long)) (λ i z w e g. same (suc i) z w e g))

take_more : {A : Type 0} (n m : ℕ) (xs : List A) → take (n + m) xs ≡ take n xs ++ take m (drop n xs)
take_more zero m xs = ap (λ (k : ℕ). take k xs) (let e : zero + m ≡ m = omega arith in e)
take_more {A} (suc n) m [] = ap (λ (k : ℕ). take {A = A} k []) (let e : suc n + m ≡ suc (n + m) = omega arith in e) ∙ sym (nothing m)
  where
    nothing : (k : ℕ) → take {A = A} k [] ≡ []
    nothing zero = refl
    nothing (suc k) = refl
take_more {A} (suc n) m (x ∷ xs) =
    ap (λ (k : ℕ). take k (x ∷ xs)) (let e : suc n + m ≡ suc (n + m) = omega arith in e) ∙ ap (λ (ys : List A). x ∷ ys) (take_more n m xs)

present_joined : (cells others : List Cell) → present (cells ++ others) ≡ present cells ++ present others
present_joined [] others = refl
present_joined (None ∷ cells) others = present_joined cells others
present_joined (Some row ∷ cells) others = ap (λ (rows : List (List Value)). row ∷ rows) (present_joined cells others)

-- ---- a chunk

-- the cells of a chunk
abbrev pub chunk_cells : Setting → ℕ → List Cell → List Cell
chunk_cells setting chunk cells = take setting.rows (drop (chunk * setting.rows) cells)

-- what is read of one chunk more stands behind what was read of those before it
pub read_more : (setting : Setting) (chunk : ℕ) (cells : List Cell) (test : List Value → Bool) (f : List Value → List Value)
    → map f (filter test (present (take (suc chunk * setting.rows) cells)))
    ≡ map f (filter test (present (take (chunk * setting.rows) cells))) ++ map f (filter test (present (chunk_cells setting chunk cells)))
read_more setting chunk cells test f =
    let before : List Cell = take (chunk * setting.rows) cells in
    let here : List Cell = chunk_cells setting chunk cells in
    ap (λ (n : ℕ). map f (filter test (present (take n cells)))) (let e : suc chunk * setting.rows ≡ chunk * setting.rows + setting.rows = omega arith in e)
    ∙ (ap (λ (all : List Cell). map f (filter test (present all))) (take_more (chunk * setting.rows) setting.rows cells)
    ∙ (ap (λ (rows : List (List Value)). map f (filter test rows)) (present_joined before here)
    ∙ (ap (map f) (filter-append test (present before) (present here))
    ∙ map-append f (filter test (present before)) (filter test (present here)))))

-- what an open transaction that works sees in a chunk are the cells of its view
pub seen_chunk : (setting : Setting) (state : State) (parts : List Part) (sessions : List SessionData) (number : ℕ) (session : SessionData)
    (now : Open) (current : MachineOpen) (table chunk : ℕ) (old : ChunkData)
    (at : AtChunk setting state parts sessions number session now current table chunk old)
    (visited count : ℕ) (phase_is : now.phase ≡ phase.Working visited count)
    → rows_seen (viewer_of session now) old.places ≡ chunk_cells setting chunk (get_or (view setting state current.begun) table [])
seen_chunk setting state parts sessions number session now current table chunk old at visited count phase_is =
    list_same (sees (viewer_of session now)) old.places (chunk_cells setting chunk cells) (long ∙ sym within)
    (λ i place cell e g.
    seen_at setting state parts sessions number session now current table chunk old at visited count phase_is i place e
    ∙ get_or_from_slice_get cells (chunk * setting.rows + i) cell None
    (sym (dropped_get (chunk * setting.rows) cells i)
    ∙ (sym (taken_get setting.rows (drop (chunk * setting.rows) cells) i (taken_below setting.rows (drop (chunk * setting.rows) cells) i cell g)) ∙ g)))
  where
    cells : List Cell
    cells = get_or (view setting state current.begun) table []

    long : length old.places ≡ setting.rows
    long = places_long setting state parts sessions number session now current table chunk old at visited count phase_is

    within : length (chunk_cells setting chunk cells) ≡ setting.rows
    within =
        let fits = at.at_open.shown.kept.fits in
        let below = at.is_part.table_below in
        let shapes = fits.shapes in
        let all : length cells ≡ setting.chunks * setting.rows = view_long setting state current.begun table (omega (arith, below, shapes)) in
        let left = length-drop (chunk * setting.rows) cells in
        let more : suc chunk * setting.rows ≤ setting.chunks * setting.rows =
        mul-le-mul_right setting.rows (let s : suc chunk ≤ setting.chunks = let small = at.is_part.chunk_below in omega (arith, small) in s) in
        let next : suc chunk * setting.rows ≡ chunk * setting.rows + setting.rows = omega arith in
        length-take-le setting.rows (drop (chunk * setting.rows) cells) (omega (arith, all, left, more, next))
