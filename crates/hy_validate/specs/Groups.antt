-- Records in groups, by their tables and the first conditions of their restrictions.
use Rattle.std.specs.Prelude.{◌≡◌, ℕ, ◌+◌, ◌<◌, List, All, Any, AllPairs, Contains, slice_index_or}
use Rattle.std.specs.List.Sorted.{IsStrictlyIncreasing}
use Rattle.hy_bound.specs.declared.Record.{Record}
use Rattle.hy_bound.specs.Condition.{Condition}
use Rattle.hy_validate.specs.declared.groups.Group.{Group}
use Rattle.hy_validate.specs.FirstConditions.{first_condition_of}

-- a group is of a table and a first condition
abbrev pub IsOf : ℕ → Condition → Group → Type 0
IsOf table first group = (group.table ≡ table) × (group.first.now ≡ first)

-- the record of a number is of a group's table, and has its first condition
abbrev pub IsOwn : List Record → Group → ℕ → Type 0
IsOwn records group number = (d : Record)
    → IsOf (slice_index_or records number d).table (first_condition_of (slice_index_or records number d).pred) group

-- a group has the numbers of its own ones among the first so many records, ascending
pub record IsFiled (records : List Record) (upto : ℕ) (group : Group) : Type 0 where
  pub below : All (λ number. number < upto) group.numbers.items
  pub own : All (IsOwn records group) group.numbers.items
  pub ascends : IsStrictlyIncreasing group.numbers.items

-- each group has its own ones of the first so many records, and no two are of the same table and the same first
-- condition
pub record IsGrouped (records : List Record) (upto : ℕ) (groups : List Group) : Type 0 where
  pub filed : All (IsFiled records upto) groups
  pub apart : AllPairs (λ group other. IsOf group.table group.first.now other → ⊥) groups

-- a number is in a group
abbrev pub IsIn : List Group → ℕ → Type 0
IsIn groups number = Any (λ group. Contains group.numbers.items number) groups

-- one more record comes into a group
pub record IsTakenIn (records : List Record) (number : ℕ) (old new : List Group) : Type 0 where
  pub grouped : IsGrouped records (number + 1) new
  pub kept : (other : ℕ) → IsIn old other → IsIn new other
  pub taken : IsIn new number
