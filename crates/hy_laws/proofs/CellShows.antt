-- A change that doesn't hit a record shows the same of its position before and after.
use Rattle.std.proofs.Common.{◌≡◌, ℕ, ◌<◌, List, [], ◌∷◌, length, map, refl, ap, sym, ◌∙◌, arith}
use Rattle.std.specs.Prelude.{Bool, true, false, not, ◌||◌, Option, None, Some, if◌then◌else◌}
use Rattle.std.specs.List.{AllByRecursion, list_all}
use Rattle.std.proofs.lemmas.Bool.{cases_lt}
use Rattle.hy_value.specs.declared.Value.{Value}
use Rattle.hy_value.specs.Columns.{has_column}
use Rattle.hy_bound.specs.declared.Record.{Record}
use Rattle.hy_bound.specs.Changes.{Change, present, is_missed}
use Rattle.hy_bound.specs.Masks.{kept_either}
use Rattle.hy_bound.specs.Predicate.{column_of}
use Rattle.hy_bound.specs.Projection.{masked}
use Rattle.hy_bound.specs.Records.{columns_of, is_hit}
use Rattle.hy_bound.specs.Truths.{each_weaker}
use Rattle.hy_plan.specs.Reads.{rows_read_of, recorded}
use Rattle.hy_laws.specs.CellShown.{shown_by, HasItsColumns, HasColumns, read_by, ShowsTheSame, TablesShowTheSame, ShowsWhatIsRead}
use Rattle.hy_laws.proofs.Missed.{Covers, HasWidth, cell_read, one_is_read, cell_alike, and_cell, cells_read, read_alike}

-- a condition looks only at the columns of its record
looks_at : (width : ℕ) (logged : Record) → HasItsColumns width logged → Covers width (read_by logged)
looks_at width logged has row long = (
  each_weaker (λ column. column < width → has_column logged.columns column ≡ true)
      (λ column. column_of row column ≡ column_of (masked logged.columns row) column) (columns_of logged.pred)
      (λ column named. sym (kept_either logged.columns row column (cases_lt column (length row)) (λ below. named (omega (arith, below, long))))) has,
  tt,
)

shown_is : (logged : Record) (cell : Option (List Value)) → shown_by logged cell ≡ cell_read (read_by logged) cell
shown_is logged None = refl
shown_is logged (Some row) = ap (λ (b : Bool). if b then Some (masked logged.columns row) else None) (sym (one_is_read logged.pred row))

has_width : (width : ℕ) (cell : Option (List Value)) → HasColumns width cell → HasWidth width cell
has_width width None h = tt
has_width width (Some row) h = h

misses : (logged : Record) (change : Change) → is_hit logged change.0 change.1 ≡ false → is_missed (recorded logged.statement (read_by logged)) change ≡ true
misses logged change h = ap (λ (b : Bool). not (b || false)) h

pub shows_the_same : ShowsTheSame
shows_the_same width logged before after has wide also missed =
    shown_is logged before
    ∙ (cell_alike (read_by logged) logged.statement width (looks_at width logged has) (before, after)
    (has_width width before wide) (has_width width after also) (misses logged (before, after) missed)
    ∙ sym (shown_is logged after))

-- ---- tables

present_first : (cell : Option (List Value)) (cells : List (Option (List Value))) → present (cell ∷ cells) ≡ and_cell cell (present cells)
present_first None cells = refl
present_first (Some row) cells = refl

pub shows_what_is_read : ShowsWhatIsRead
shows_what_is_read logged [] = refl
shows_what_is_read logged (cell ∷ cells) =
    present_first (shown_by logged cell) (map (shown_by logged) cells)
    ∙ (ap (and_cell (shown_by logged cell)) (shows_what_is_read logged cells)
    ∙ (ap (λ (one : Option (List Value)). and_cell one (rows_read_of (read_by logged) (present cells))) (shown_is logged cell)
    ∙ sym (cells_read (read_by logged) cell cells)))

all_missed : (logged : Record) (changes : List Change) → AllByRecursion (λ change. is_hit logged change.0 change.1 ≡ false) changes
    → list_all (is_missed (recorded logged.statement (read_by logged))) changes ≡ true
all_missed logged [] h = refl
all_missed logged (change ∷ changes) h = rw (misses logged change h.0) (all_missed logged changes h.1)

pub tables_show_the_same : TablesShowTheSame
tables_show_the_same width logged changes has wide also missed =
    shows_what_is_read logged (map (λ (change : Change). change.0) changes)
    ∙ (read_alike (read_by logged) logged.statement width (looks_at width logged has) changes wide also (all_missed logged changes missed)
    ∙ sym (shows_what_is_read logged (map (λ (change : Change). change.1) changes)))
