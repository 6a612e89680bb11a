-- First rows in the positions of a chunk: loading one more, and what stands at a position then.
use Rattle.std.proofs.Common.{◌≡◌, ℕ, zero, suc, ◌+◌, ◌-◌, ◌<◌, ◌≤◌, false, List, [], ◌∷◌, ◌++◌}
use Rattle.std.proofs.Common.{Option, None, Some, length, map, take, get_or, replicate, refl, sym, ap, subst, ◌∙◌, arith}
use Rattle.std.proofs.Math.ListN.{set}
use Rattle.std.specs.Prelude.{slice_get, is_some}
use Rattle.std.proofs.lemmas.List.{length-append, length-map, length-replicate, length-take, length_push, take_more, get_or-map}
use Rattle.std.proofs.lemmas.List.FromFn.{get_or-map-range_with_len}
use Rattle.hy_value.specs.declared.Kind.{Kind}
use Rattle.hy_value.specs.declared.Value.{Value}
use Rattle.hy_undo.specs.Places.{Place, in_place}
use Rattle.hy_chunk.specs.Fields.{blank_place, nth}
use Rattle.hy_chunk.specs.Steps.{loaded_place}
use Rattle.hy_chunk.specs.Views.{Whole, with_places}
use Rattle.hy_machine.specs.declared.Setting.{Setting}
use Rattle.hy_machine.specs.Positions.{item_at}
use Rattle.hy_machine.specs.Tables.{capacity, laid_out, opening_tables}
use Rattle.hy_refinement.specs.Shows.{IsLaidOut}
use Rattle.hy_world.specs.Openings.{first_place, places_with, first_rows}

-- ---- one more row is loaded

-- what loading a row makes of positions
abbrev pub with_row : List Place → ℕ → List Value → List Place
with_row places place row = set places place (loaded_place row (nth places place))

-- positions with rows, the next of them unused
abbrev before : List Kind → List (List Value) → ℕ → List Place
before kinds rows left = map first_place rows ++ replicate left (blank_place kinds)

unused_at : (kinds : List Kind) (rows : List (List Value)) (left : ℕ) → (nth (before kinds rows (suc left)) (length rows)).used ≡ false
unused_at kinds [] left = refl
unused_at kinds (first ∷ rows) left = unused_at kinds rows left

put_at : (kinds : List Kind) (rows : List (List Value)) (left : ℕ) (row : List Value)
    → with_row (before kinds rows (suc left)) (length rows) row ≡ before kinds (rows ++ row ∷ []) left
put_at kinds [] left row = refl
put_at kinds (first ∷ rows) left row = ap (λ (places : List Place). first_place first ∷ places) (put_at kinds rows left row)

next_placed : (kinds : List Kind) (count : ℕ) (rows : List (List Value)) (row : List Value) → length rows < count
    → with_row (places_with kinds count rows) (length rows) row ≡ places_with kinds count (rows ++ row ∷ [])
next_placed kinds count rows row h =
    let e : count - length rows ≡ suc (count - length (rows ++ row ∷ [])) = omega (arith, length_push rows row) in
    ap (λ (left : ℕ). with_row (before kinds rows left) (length rows) row) e ∙ put_at kinds rows (count - length (rows ++ row ∷ [])) row

pub loaded_more : (kinds : List Kind) (count i : ℕ) (rows : List (List Value)) (row : List Value) → i < length rows → length rows ≤ count
    → row ≡ get_or rows i row → with_row (places_with kinds count (take i rows)) i row ≡ places_with kinds count (take (i + 1) rows)
loaded_more kinds count i rows row h few is =
    let taken : length (take i rows) ≡ i = omega (arith, length-take i rows) in
    let more : take i rows ++ row ∷ [] ≡ take (i + 1) rows =
    ap (λ (one : List Value). take i rows ++ one ∷ []) is ∙ sym (take_more rows i row h) in
    ap (λ (place : ℕ). with_row (places_with kinds count (take i rows)) place row) (sym taken)
    ∙ (next_placed kinds count (take i rows) row (omega (arith, taken)) ∙ ap (places_with kinds count) more)

pub loaded_whole : (start now new : Whole) (count i : ℕ) (rows : List (List Value)) (row : List Value) → i < length rows → length rows ≤ count
    → row ≡ get_or rows i row → now ≡ with_places start (places_with start.kinds count (take i rows)) now.room
    → new ≡ with_places now (with_row now.shown.places i row) new.room → new ≡ with_places start (places_with start.kinds count (take (i + 1) rows)) new.room
loaded_whole start now new count i rows row h few is before after =
    after ∙ (ap (λ (whole : Whole). with_places whole (with_row whole.shown.places i row) new.room) before
    ∙ ap (λ (places : List Place). with_places start places new.room) (loaded_more start.kinds count i rows row h few is))

pub places_long : (kinds : List Kind) (count : ℕ) (rows : List (List Value)) → length rows ≤ count → length (places_with kinds count rows) ≡ count
places_long kinds count rows h =
    omega (
      arith,
      length-append (map first_place rows) (replicate (count - length rows) (blank_place kinds)),
      length-map rows first_place,
      length-replicate (count - length rows) (blank_place kinds),
    )

-- while there are more rows to load, the next position is there and unused
pub next_there : (start now : Whole) (count i : ℕ) (rows : List (List Value)) → i < length rows → length rows ≤ count
    → now ≡ with_places start (places_with start.kinds count (take i rows)) now.room → i < length now.shown.places
next_there start now count i rows h few before =
    let long : length (places_with start.kinds count (take i rows)) ≡ count =
    places_long start.kinds count (take i rows) (omega (arith, length-take i rows)) in
    omega (arith, long, ap (λ (whole : Whole). length whole.shown.places) before)

pub next_unused : (start now : Whole) (count i : ℕ) (rows : List (List Value)) → i < length rows → length rows ≤ count
    → now ≡ with_places start (places_with start.kinds count (take i rows)) now.room → (nth now.shown.places i).used ≡ false
next_unused start now count i rows h few before_it =
    let taken : length (take i rows) ≡ i = omega (arith, length-take i rows) in
    let left : count - length (take i rows) ≡ suc (count - suc i) = omega (arith, taken) in
    ap (λ (whole : Whole). (nth whole.shown.places i).used) before_it
    ∙ ((λ k. (nth (before start.kinds (take i rows) (left k)) (sym taken k)).used) ∙ unused_at start.kinds (take i rows) (count - suc i))

-- ---- what stands at a position

-- a position shows the cell that it was laid out with
record HasCell (cell : Option (List Value)) (place : Place) : Type 0 where
  chain : place.chain ≡ []
  row : in_place place ≡ cell
  used : place.used ≡ is_some cell
  death : place.death ≡ 0

blank_there : (kinds : List Kind) (left index : ℕ) (place : Place) → slice_get (replicate left (blank_place kinds)) index ≡ Some place → HasCell None place
blank_there kinds zero index place e = absurd cc
blank_there kinds (suc left) zero place e =
    let is : blank_place kinds ≡ place = cc in
    subst (HasCell None) is (record { chain = refl; row = refl; used = refl; death = refl })
blank_there kinds (suc left) (suc index) place e = blank_there kinds left index place e

cell_there : (kinds : List Kind) (rows : List (List Value)) (left index : ℕ) (place : Place) → slice_get (before kinds rows left) index ≡ Some place
    → HasCell (slice_get rows index) place
cell_there kinds [] left index place e = blank_there kinds left index place e
cell_there kinds (row ∷ rows) left zero place e =
    let is : first_place row ≡ place = cc in
    subst (HasCell (Some row)) is (record { chain = refl; row = refl; used = refl; death = refl })
cell_there kinds (row ∷ rows) left (suc index) place e = cell_there kinds rows left index place e

-- the machine's opening has the table's first rows at its first positions
item_laid : (setting : Setting) (table pos : ℕ) → table < length setting.first → pos < capacity setting
    → item_at (opening_tables setting) table pos ≡ slice_get (first_rows setting.first table) pos
item_laid setting table pos there within =
    ap (λ cells. get_or cells pos None) (get_or-map (laid_out (capacity setting)) setting.first table [] [] there)
    ∙ get_or-map-range_with_len (slice_get (first_rows setting.first table)) 0 (capacity setting) pos pos None within (omega arith)

-- so a position that has a table's row of its number is laid out
pub laid_at : (setting : Setting) (kinds : List Kind) (count : ℕ) (rows : List (List Value)) (table index pos : ℕ) (place : Place)
    → table < length setting.first → pos < capacity setting → slice_get rows index ≡ slice_get (first_rows setting.first table) pos
    → slice_get (places_with kinds count rows) index ≡ Some place → IsLaidOut setting table pos place
laid_at setting kinds count rows table index pos place there within same e =
    let cell : HasCell (slice_get rows index) place = cell_there kinds rows (count - length rows) index place e in
    let is : slice_get rows index ≡ item_at (opening_tables setting) table pos = same ∙ sym (item_laid setting table pos there within) in
    record { chain = cell.chain; row = cell.row ∙ is; used = cell.used ∙ ap is_some is; death = cell.death }
