-- Entries that pass by what a transaction wrote and logged, and entries of what it wrote.
use Rattle.std.specs.Prelude.{◌≡◌, ℕ, List, Bool, ◌&&◌, ◌==◌, IsTrue, IsFalse, None}
use Rattle.std.specs.List.{AllByRecursion, list_any}
use Rattle.hy_bound.specs.declared.Record.{Record}
use Rattle.hy_value.specs.declared.change.Change.{Change}
use Rattle.hy_render.specs.declared.Place.{Place}
use Rattle.hy_render.specs.declared.Committed.{Committed as Entry}
use Rattle.hy_machine.specs.Validation.{record_hit}

-- whether a position is among places
abbrev pub has_place : List Place → ℕ → ℕ → Bool
has_place places table pos = list_any (λ (place : Place). place.table == table && place.pos == pos) places

-- no change of an entry is at one of these places
abbrev pub ChangesLieApart : List Place → Entry → Type 0
ChangesLieApart places entry = AllByRecursion (λ (change : Change). IsFalse (has_place places change.table change.pos)) entry.changes

-- no change of an entry is at one of these places, and none hits one of these records
pub record PassesBy (places : List Place) (records : List Record) (entry : Entry) : Type 0 where
  pub apart : ChangesLieApart places entry
  pub missed : AllByRecursion (λ (change : Change). record_hit records change.table change.before change.after ≡ None) entry.changes

-- every change of an entry is at one of these places
abbrev pub ChangesLieIn : List Place → Entry → Type 0
ChangesLieIn places entry = AllByRecursion (λ (change : Change). IsTrue (has_place places change.table change.pos)) entry.changes
