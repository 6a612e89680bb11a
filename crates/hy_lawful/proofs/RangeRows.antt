-- A value goes out of range for the row of the start, as the answered statements left it, or for one that was placed.
use Rattle.std.proofs.Common.{◌≡◌, ℕ, List, [], Option, None, Some, true, false, is_some, ap, sym, ◌∙◌, refl}
use Rattle.std.specs.Prelude.{◌||◌, ◌&&◌, is_none}
use Rattle.std.proofs.lemmas.Bool.{or_left, or_right}
use Rattle.hy_value.specs.declared.Value.{Value}
use Rattle.hy_bound.specs.declared.Bound.{Bound}
use Rattle.hy_machine.specs.declared.Setting.{Setting}
use Rattle.hy_machine.specs.Positions.{item_at}
use Rattle.hy_machine.specs.Tables.{Cell, Tables, Own, covered, over}
use Rattle.hy_machine.specs.Writes.{blank_own, written}
use Rattle.hy_replay.specs.Laws.{AreTables}
use Rattle.hy_replay.specs.Ran.{Ran, ran}
use Rattle.hy_lawful.specs.Passing.{has_place}
use Rattle.hy_lawful.specs.Refusing.{goes_out_at}
use Rattle.hy_lawful.specs.Written.{followed, some_inserted, some_writes}
use Rattle.hy_lawful.proofs.Booleans.{and_true}
use Rattle.hy_lawful.proofs.PassTables.{covered_at}
use Rattle.hy_lawful.proofs.PrintedPlaces.{place_found}
use Rattle.hy_lawful.proofs.RangeNews.{news_are_inserted}
use Rattle.hy_lawful.proofs.RunSweeps.{kept_item}
use Rattle.hy_lawful.proofs.WroteEnds.{row_at, starts_so}
use Rattle.hy_lawful.proofs.WroteRows.{IsCellAt, StandsSo, all_follow}

-- what answered statements leave at the position of a row of the start is that row, followed through them
left_follows : (setting : Setting) (tables : Tables) (statements : List Bound) (took : List (Option ℕ)) (given : Ran) (table pos : ℕ) (row : List Value)
    → IsCellAt setting tables table pos (Some row) → ran setting tables statements took ≡ Some given
    → item_at (over tables given.own) table pos ≡ followed table statements (Some row)
left_follows setting tables statements took given table pos row is e =
    let s : StandsSo setting given.own table pos (Some row) (followed table statements (Some row)) (some_writes table statements (Some row)) =
    all_follow setting tables (blank_own setting) [] 1 statements took given table pos row [] (Some row) false is e
    (record { stands = starts_so setting tables table pos row is; was = tt }) in
    covered_at setting (λ (own : Cell). own) tables given.own is.are s.fits table pos
    ∙ (ap (λ (cell : Cell). covered (λ (own : Cell). own) cell (item_at given.own table pos)) is.under_is ∙ s.cell_is)

-- a row out of range where none stood at the start is one's own
out_is_own : (table pos : ℕ) (statement : Option Bound) (tables : Tables) (own : Own) → item_at tables table pos ≡ None
    → goes_out_at table statement (item_at (over tables own) table pos) ≡ true → has_place (written own) table pos ≡ true
out_is_own table pos statement tables own none out = by_own (item_at own table pos) refl
  where
    by_own : (item : Option Cell) → item_at own table pos ≡ item → has_place (written own) table pos ≡ true
    by_own None e = absurd (let never : goes_out_at table statement None ≡ true =
        ap (goes_out_at table statement) (sym (kept_item (λ (own : Cell). own) tables own table pos e ∙ none)) ∙ out in cc)
    by_own (Some cell) e = place_found own table pos (ap is_some e)

-- a row of one's own that is out of range is one that was inserted, followed through the statements behind
out_is_inserted : (setting : Setting) (tables : Tables) (statements : List Bound) (took : List (Option ℕ)) (given : Ran) (table pos : ℕ)
    (statement : Option Bound) → AreTables setting tables → ran setting tables statements took ≡ Some given → item_at tables table pos ≡ None
    → goes_out_at table statement (item_at (over tables given.own) table pos) ≡ true
    → some_inserted (goes_out_at table statement) table statements given.replies ≡ true
out_is_inserted setting tables statements took given table pos statement are e none out = by_cell (item_at (over tables given.own) table pos) refl out
  where
    by_cell : (cell : Cell) → item_at (over tables given.own) table pos ≡ cell → goes_out_at table statement cell ≡ true
        → some_inserted (goes_out_at table statement) table statements given.replies ≡ true
    by_cell None there h = absurd cc
    by_cell (Some row) there h =
        news_are_inserted setting tables statements took given table pos row (goes_out_at table statement) are e none there refl h

-- where a value goes out of range for what answered statements leave at a position, which is what the transaction sees
-- there, it does so for the row of the start, followed through them, or for one's own row, which was inserted
pub out_followed : (setting : Setting) (tables : Tables) (statements : List Bound) (took : List (Option ℕ)) (given : Ran) (own : Own) (table pos : ℕ)
    (statement : Option Bound) → AreTables setting tables → ran setting tables statements took ≡ Some given
    → goes_out_at table statement (item_at (over tables given.own) table pos) ≡ true
    → item_at (over tables given.own) table pos ≡ item_at (over tables own) table pos
    → (goes_out_at table statement (followed table statements (item_at tables table pos))
    || (is_none (item_at tables table pos) && (has_place (written own) table pos
    && some_inserted (goes_out_at table statement) table statements given.replies))) ≡ true
out_followed setting tables statements took given own table pos statement are e out same = by_cell (item_at tables table pos) refl
  where
    by_cell : (cell : Cell) → item_at tables table pos ≡ cell
        → (goes_out_at table statement (followed table statements cell) || (is_none cell && (has_place (written own) table pos
        && some_inserted (goes_out_at table statement) table statements given.replies))) ≡ true
    by_cell None none = or_right (goes_out_at table statement (followed table statements None))
        (has_place (written own) table pos && some_inserted (goes_out_at table statement) table statements given.replies)
        (and_true (has_place (written own) table pos) (some_inserted (goes_out_at table statement) table statements given.replies)
        (out_is_own table pos statement tables own none (ap (goes_out_at table statement) (sym same) ∙ out))
        (out_is_inserted setting tables statements took given table pos statement are e none out))
    by_cell (Some row) there = or_left (goes_out_at table statement (followed table statements (Some row)))
        (is_none (Some row) && (has_place (written own) table pos && some_inserted (goes_out_at table statement) table statements given.replies))
        (ap (goes_out_at table statement) (sym (left_follows setting tables statements took given table pos row
        (row_at setting tables table pos row are there) e)) ∙ out)
