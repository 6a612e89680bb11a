-- The records of a tree: each is found by what its first condition seeks, or in a group.
use Rattle.std.specs.Prelude.{◌⊎◌, ℕ, ◌<◌, List, length}
use Rattle.std.specs.List.Sorted.{IsSorted}
use Rattle.hy_bound.specs.declared.Record.{Record}
use Rattle.hy_validate.specs.declared.groups.Group.{Group}
use Rattle.hy_validate.specs.declared.keys.KeyedRecords.{KeyedRecords}
use Rattle.hy_validate.specs.Groups.{IsGrouped, IsIn}
use Rattle.hy_validate.specs.Keys.{keyed_cmp, HasNumber, AreKeyed}

-- each of the first so many records is there
pub record AreFiled (records : List Record) (upto : ℕ) (keyed : KeyedRecords) (groups : List Group) : Type 0 where
  pub keyed_are : AreKeyed records keyed
  pub grouped : IsGrouped records upto groups
  pub complete : (number : ℕ) → number < upto → HasNumber keyed.places.items number ⊎ IsIn groups number

-- each record is there, and the keyed ones are in order
pub record IsTree (records : List Record) (keyed : KeyedRecords) (groups : List Group) : Type 0 where
  pub filed : AreFiled records (length records) keyed groups
  pub sorted : IsSorted keyed_cmp keyed.places.items
