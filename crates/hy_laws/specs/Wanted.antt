-- What a look-up wants of a table is what is read of it by key.
use Rattle.std.specs.Prelude.{◌≡◌, ℕ, List, Option, ◌&&◌}
use Rattle.hy_value.specs.declared.Value.{Value}
use Rattle.hy_bound.specs.Condition.{Condition}
use Rattle.hy_bound.specs.Predicate.{truth_of}
use Rattle.hy_plan.specs.Plans.{lookup_of}
use Rattle.hy_plan.specs.Reads.{is_read_of, read_by_of}
use Rattle.hy_laws.specs.Lookups.{is_wanted}

-- a row is read where the condition is true of it and the look-up wants it
abbrev pub ReadIsWanted : Type 0
ReadIsWanted =
    (condition : Condition) (key source : Option ℕ) (earlier : List (List Value)) (row : List Value)
    → is_read_of (read_by_of condition key source earlier) row ≡ (truth_of condition row && is_wanted (lookup_of key source) earlier row)
