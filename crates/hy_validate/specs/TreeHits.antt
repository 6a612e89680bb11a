-- Which records of what was read a change hits.
use Rattle.std.specs.Prelude.{◌≡◌, ℕ, ◌≤◌, min, List, Bool, true, false, ◌&&◌, ◌||◌, ◌==◌, Option, None, Some, IfSome, slice_get}
use Rattle.std.specs.Option.{option_map_or}
use Rattle.std.specs.List.{position}
use Rattle.hy_bound.specs.declared.Record.{Record}
use Rattle.hy_bound.specs.Predicate.{truth_at}
use Rattle.hy_bound.specs.Records.{is_hit}
use Rattle.hy_value.specs.declared.change.Change.{Change}
use Rattle.hy_validate.specs.declared.groups.Group.{Group}

-- a change hits a record of its table whose reading it meets
abbrev pub is_hit_by : Change → Record → Bool
is_hit_by change logged = logged.table == change.table && is_hit logged change.before change.after

-- the number of the first record that a change hits
abbrev pub first_hit_of : List Record → Change → Option ℕ
first_hit_of records change = position (is_hit_by change) records

-- whether a change hits the record of a number
abbrev pub is_hit_number : List Record → Change → ℕ → Bool
is_hit_number records change number = option_map_or (is_hit_by change) (slice_get records number) false

-- the records of a group are asked where a change is of their table, and their first condition is true of the row
-- before or after it
abbrev pub is_asked : Change → Group → Bool
is_asked change group = group.table == change.table && (truth_at group.first.now change.before || truth_at group.first.now change.after)

-- a number is there, and no higher than this one
abbrev pub IsUpTo : ℕ → Option ℕ → Type 0
IsUpTo number None = ⊥
IsUpTo number (Some found) = found ≤ number

-- what is found is the number of a record that is hit, and no record that is hit has a lower number of which S holds
pub record Finds (is_hit : ℕ → Bool) (S : ℕ → Type 0) (found : Option ℕ) : Type 0 where
  pub hit : IfSome found (λ number. is_hit number ≡ true)
  pub least : (number : ℕ) → S number → is_hit number ≡ true → IsUpTo number found

-- the less of two numbers that may be there
abbrev pub earlier_of : Option ℕ → Option ℕ → Option ℕ
earlier_of None other = other
earlier_of (Some number) None = Some number
earlier_of (Some number) (Some other) = Some (min number other)
