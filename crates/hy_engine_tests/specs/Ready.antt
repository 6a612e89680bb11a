-- What holds of a chunk that is called as an engine calls it.
use Rattle.std.specs.Prelude.{◌≡◌, ℕ, ◌<◌, ◌≤◌, List, [], ◌∷◌, Some, false, length}
use Rattle.std.specs.List.{AllByRecursion}
use Rattle.hy_value.specs.declared.Kind.{Kind}
use Rattle.hy_value.specs.declared.Kind.TheVariants.{Int}
use Rattle.hy_stamp.specs.declared.Stamp.{Stamp}
use Rattle.hy_undo.specs.Places.{Place, stamps}
use Rattle.hy_chunk.specs.Fields.{nth}
use Rattle.hy_chunk.specs.Views.{Whole}

-- all marks are below a number
abbrev pub AreBelow : ℕ → List Stamp → Type 0
AreBelow mark marked = AllByRecursion (λ stamp. stamp.mark < mark) marked

-- each mark is above all behind it
abbrev pub DoFall : List Stamp → Type 0
DoFall [] = Unit {0}
DoFall (stamp ∷ older) = AreBelow stamp.mark older × DoFall older

-- so it is, and all behind the newest are times that were drawn
abbrev pub AreInOrder : ℕ → List Stamp → Type 0
AreInOrder next [] = Unit {0}
AreInOrder next (stamp ∷ older) = AreBelow next older × DoFall (stamp ∷ older)

abbrev pub PlacesInOrder : ℕ → List Place → Type 0
PlacesInOrder next places = AllByRecursion (λ place. AreInOrder next (stamps place)) places

-- two columns of numbers, the first of which is the key
abbrev pub two_numbers : List Kind
two_numbers = Int ∷ Int ∷ []

-- no position from one on is used
abbrev pub AreUnused : ℕ → List Place → Type 0
AreUnused first places = (place : ℕ) → first ≤ place → (nth places place).used ≡ false

-- a chunk of the table acc, with this next time
pub record IsReady (next : ℕ) (whole : Whole) : Type 0 where
  pub kinds : whole.kinds ≡ two_numbers
  pub key : whole.shown.key ≡ Some 0
  pub few : length whole.shown.places ≤ 64
  pub ordered : PlacesInOrder next whole.shown.places
