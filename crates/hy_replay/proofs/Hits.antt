-- What it says that no record is hit where a cell stands in place of another one.
use Rattle.std.proofs.Common.{◌≡◌, ℕ, suc, List, [], ◌∷◌, ◌++◌, Option, None, Some, Bool, true, false, refl, ap, Ordering, Less, Equal, Greater, is_eq}
use Rattle.std.specs.Ordering.{ordering_reverse}
use Rattle.std.specs.Prelude.{not, ◌&&◌, ◌||◌, ◌==◌, if◌then◌else◌}
use Rattle.std.specs.List.{list_any}
use Rattle.std.proofs.lemmas.Bool.{eq-eqb}
use Rattle.hy_value.specs.declared.Value.{Value}
use Rattle.hy_value.specs.declared.ColMask.{ColMask}
use Rattle.hy_value.specs.Columns.{has_column}
use Rattle.hy_value.specs.Order.{value_cmp}
use Rattle.hy_value.specs.TotalOrder.{values_total}
use Rattle.hy_bound.specs.declared.Record.{Record}
use Rattle.hy_bound.specs.Predicate.{truth_at, differ_from}
use Rattle.hy_bound.specs.Records.{is_hit}
use Rattle.hy_machine.specs.Tables.{Cell}
use Rattle.hy_machine.specs.Validation.{record_hit}

-- ---- what stays hits nothing

is_equal : (o : Ordering) → o ≡ ordering_reverse o → o ≡ Equal
is_equal Less e = cc
is_equal Equal e = refl
is_equal Greater e = cc

same_value : (b : Bool) (value : Value) → (b && not (is_eq (value_cmp value value))) ≡ false
same_value true value = ap (λ (o : Ordering). not (is_eq o)) (is_equal (value_cmp value value) (values_total.antisymm value value))
same_value false value = refl

same_row : (mask : ColMask) (column : ℕ) (row : List Value) → differ_from mask column row row ≡ false
same_row mask column [] = refl
same_row mask column (value ∷ row) = rw (same_value (has_column mask column) value) (same_row mask (suc column) row)

and_false : (b : Bool) → (b && false) ≡ false
and_false true = refl
and_false false = refl

same_cell : (of : Record) (cell : Cell) → is_hit of cell cell ≡ false
same_cell of None = refl
same_cell of (Some row) = rw (same_row of.columns 0 row) (and_false (truth_at of.pred (Some row) || truth_at of.pred (Some row)))

pub same_misses : (records : List Record) (table : ℕ) (cell : Cell) → record_hit records table cell cell ≡ None
same_misses [] table cell = refl
same_misses (of ∷ others) table cell =
    rw (same_cell of cell, and_false (of.table == table)) (same_misses others table cell)

-- ---- records among others

missed_if : (b : Bool) (number : ℕ) (hit : Option ℕ) → (if b then Some number else hit) ≡ None → (b ≡ false) × (hit ≡ None)
missed_if true number hit e = cc
missed_if false number hit e = (refl, e)

pub front_missed : (records others : List Record) (table : ℕ) (before after : Cell) → record_hit (records ++ others) table before after ≡ None
    → record_hit records table before after ≡ None
front_missed [] others table before after e = refl
front_missed (of ∷ records) others table before after e =
    let parts = missed_if (of.table == table && is_hit of before after) of.statement (record_hit (records ++ others) table before after) e in
    rw parts.0 (front_missed records others table before after parts.1)

pub others_missed : (records others : List Record) (table : ℕ) (before after : Cell) → record_hit (records ++ others) table before after ≡ None
    → record_hit others table before after ≡ None
others_missed [] others table before after e = e
others_missed (of ∷ records) others table before after e =
    others_missed records others table before after
    (missed_if (of.table == table && is_hit of before after) of.statement (record_hit (records ++ others) table before after) e).1

pub none_hit : (records : List Record) (table : ℕ) (before after : Cell) → record_hit records table before after ≡ None
    → list_any (λ logged. logged.table == table && is_hit logged before after) records ≡ false
none_hit [] table before after e = refl
none_hit (of ∷ others) table before after e =
    let parts = missed_if (of.table == table && is_hit of before after) of.statement (record_hit others table before after) e in
    rw parts.0 (none_hit others table before after parts.1)

and_second : (b c : Bool) → b ≡ true → (b && c) ≡ false → c ≡ false
and_second true c e h = h
and_second false c e h = cc

-- one record of the table is missed
pub one_missed : (of : Record) (table : ℕ) (before after : Cell) → of.table ≡ table
    → record_hit (of ∷ []) table before after ≡ None → is_hit of before after ≡ false
one_missed of table before after same e =
    and_second (of.table == table) (is_hit of before after) (eq-eqb of.table table same)
    (missed_if (of.table == table && is_hit of before after) of.statement None e).0
