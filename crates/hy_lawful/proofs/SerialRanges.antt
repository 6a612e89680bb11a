-- A row out of range at a position, or one that has a key, is one of the rows that stand in its table.
use Rattle.std.proofs.Common.{◌≡◌, ℕ, zero, suc, List, [], ◌∷◌, Option, None, Some, Bool, true, false, get_or, cond, refl, ap, ◌∙◌}
use Rattle.std.specs.Prelude.{◌&&◌, ◌||◌, ◌==◌}
use Rattle.std.specs.List.{list_any}
use Rattle.std.specs.Ordering.{is_lt}
use Rattle.std.proofs.lemmas.Bool.{or_left, or_right}
use Rattle.hy_value.specs.declared.Value.{Value}
use Rattle.hy_value.specs.Order.{row_cmp}
use Rattle.hy_value.specs.Sorted.{put_row, sorted}
use Rattle.hy_bound.specs.declared.Bound.{Bound}
use Rattle.hy_bound.specs.declared.Bound.TheVariants.{Select, Group, Insert, Update, Delete, Savepoint, RollbackTo, Release}
use Rattle.hy_bound.specs.declared.Shape.{Shape}
use Rattle.hy_bound.specs.Changes.{present}
use Rattle.hy_bound.specs.Records.{shape_of}
use Rattle.hy_meaning.specs.Statement.{rows_in, has_key_of}
use Rattle.hy_machine.specs.Positions.{item_at}
use Rattle.hy_machine.specs.Tables.{Cell, Tables}
use Rattle.hy_machine.specs.Turns.{rows_seen}
use Rattle.hy_replay.specs.Laws.{bags_of}
use Rattle.hy_lawful.specs.Refusing.{goes_out, goes_out_at, finds_key}

or_swapped : (a b c : Bool) → (a || (b || c)) ≡ (b || (a || c))
or_swapped true true c = refl
or_swapped true false c = refl
or_swapped false true c = refl
or_swapped false false c = refl

any_put : (p : List Value → Bool) (row : List Value) (rows : List (List Value)) → list_any p (put_row row rows) ≡ (p row || list_any p rows)
any_put p row [] = refl
any_put p row (first ∷ rows) = by_order (is_lt (row_cmp first row)) (any_put p row rows)
  where
    by_order : (b : Bool) → list_any p (put_row row rows) ≡ (p row || list_any p rows)
        → list_any p (cond b (first ∷ put_row row rows) (row ∷ first ∷ rows)) ≡ (p row || (p first || list_any p rows))
    by_order true more = ap (λ (c : Bool). p first || c) more ∙ or_swapped (p first) (p row) (list_any p rows)
    by_order false more = refl

any_sorted : (p : List Value → Bool) (rows : List (List Value)) → list_any p (sorted rows) ≡ list_any p rows
any_sorted p [] = refl
any_sorted p (row ∷ rows) = any_put p row (sorted rows) ∙ ap (λ (c : Bool). p row || c) (any_sorted p rows)

out_in_cells : (table : ℕ) (statement : Option Bound) (cells : List Cell) (pos : ℕ) → goes_out_at table statement (get_or cells pos None) ≡ true
    → list_any (goes_out table statement) (present cells) ≡ true
out_in_cells table statement [] pos h = absurd cc
out_in_cells table statement (None ∷ cells) zero h = absurd cc
out_in_cells table statement (None ∷ cells) (suc pos) h = out_in_cells table statement cells pos h
out_in_cells table statement (Some row ∷ cells) zero h =
    or_left (goes_out table statement row) (list_any (goes_out table statement) (present cells)) h
out_in_cells table statement (Some row ∷ cells) (suc pos) h =
    or_right (goes_out table statement row) (list_any (goes_out table statement) (present cells)) (out_in_cells table statement cells pos h)

bag_at : (tables : Tables) (table : ℕ) → rows_in (bags_of tables) table ≡ sorted (present (get_or tables table []))
bag_at [] table = refl
bag_at (cells ∷ tables) zero = refl
bag_at (cells ∷ tables) (suc table) = bag_at tables table

-- a statement finds its key among the rows of a table or in its bag
pub found_in_bags : (shapes : List Shape) (table : ℕ) (statement : Option Bound) (tables : Tables)
    → finds_key shapes table statement (rows_in (bags_of tables) table) ≡ finds_key shapes table statement (rows_seen tables table)
found_in_bags shapes table None tables = refl
found_in_bags shapes table (Some (Select from ons pred items)) tables = refl
found_in_bags shapes table (Some (Group of pred key aggregate)) tables = refl
found_in_bags shapes table (Some (Insert of new)) tables =
    ap (λ (found : Bool). of == table && found)
    (ap (list_any (has_key_of new (shape_of shapes table).key)) (bag_at tables table)
    ∙ any_sorted (has_key_of new (shape_of shapes table).key) (rows_seen tables table))
found_in_bags shapes table (Some (Update of sets pred)) tables = refl
found_in_bags shapes table (Some (Delete of pred)) tables = refl
found_in_bags shapes table (Some (Savepoint name)) tables = refl
found_in_bags shapes table (Some (RollbackTo name)) tables = refl
found_in_bags shapes table (Some (Release name)) tables = refl

-- a row out of range at a position is in its table's bag
pub out_in_bags : (table : ℕ) (statement : Option Bound) (tables : Tables) (pos : ℕ) → goes_out_at table statement (item_at tables table pos) ≡ true
    → list_any (goes_out table statement) (rows_in (bags_of tables) table) ≡ true
out_in_bags table statement tables pos h =
    ap (list_any (goes_out table statement)) (bag_at tables table)
    ∙ (any_sorted (goes_out table statement) (present (get_or tables table [])) ∙ out_in_cells table statement (get_or tables table []) pos h)
