-- What pruning does to a position.
use Rattle.std.specs.Prelude.{◌≡◌, ◌⊎◌, ℕ, ◌<◌, ◌≤◌, ◌^◌, List, ◌∷◌, Contains}
use Rattle.hy_stamp.specs.declared.Stamp.{Stamp}
use Rattle.hy_prune.specs.declared.Cover.{Cover}
use Rattle.hy_prune.specs.Fates.{group}
use Rattle.hy_chain.specs.Chains.{Falls}
use Rattle.hy_undo.specs.Places.{Place, stamps}
use Rattle.hy_undo.specs.Chunks.{Pruned}
use Rattle.hy_journal.specs.declared.CoreData.{CoreData}
use Rattle.hy_event.specs.declared.SessionData.{SessionData}
use Rattle.hy_machine.specs.declared.Setting.{Setting}
use Rattle.hy_machine.specs.States.{State}
use Rattle.hy_refinement.specs.Numbers.{CoreShows}
use Rattle.hy_refinement.specs.Sessions.{IsHeld}
use Rattle.hy_refinement.specs.Places.{PlaceShows}

-- a newest stamp that stays, over others that were there before
pub record StaysOver (new : Place) (stamp : Stamp) (rest : List Stamp) : Type 0 where
  pub others : List Stamp
  pub stamps_are : stamps new ≡ stamp ∷ others
  pub were : (other : Stamp) → Contains others other → Contains rest other

-- the marks fall still; no stamp is made; a newest stamp from the cover's time on stays, and what is behind it
-- were stamps behind it; a newest stamp with a start below it stays
pub record Tells (cover : Cover) (old new : Place) : Type 0 where
  pub falls : Falls old.chain → Falls new.chain
  pub made_none : (stamp : Stamp) → Contains (stamps new) stamp → Contains (stamps old) stamp
  pub late : (stamp : Stamp) (rest : List Stamp) → stamps old ≡ stamp ∷ rest → cover.next ≤ stamp.mark → StaysOver new stamp rest
  pub newest : (stamp : Stamp) (rest : List Stamp) → stamps old ≡ stamp ∷ rest → 0 < group cover stamp.mark
      → (others : List Stamp) × (stamps new ≡ stamp ∷ others)
  -- so does the newest time, beneath an uncommitted stamp
  pub second : (stamp top : Stamp) (rest : List Stamp) → stamps old ≡ stamp ∷ top ∷ rest → cover.next ≤ stamp.mark
      → (cover.next ≤ top.mark) ⊎ (0 < group cover top.mark) → (others : List Stamp) × (stamps new ≡ stamp ∷ top ∷ others)

abbrev pub PrunedTells : Type 0
PrunedTells = (cover : Cover) (old new : Place) → Pruned cover old new → Tells cover old new

-- the clock is below all identifiers
abbrev pub IsBelowIds : CoreData → Type 0
IsBelowIds core = core.next ≤ 2 ^ 63

-- a position that is pruned by a held cover shows what it showed
abbrev pub PruningShowsNothing : Type 0
PruningShowsNothing =
    (setting : Setting) (state : State) (core : CoreData) (sessions : List SessionData) (cover : Cover) (table chunk pos : ℕ) (old new : Place)
    → IsBelowIds core → CoreShows state core sessions → IsHeld core cover
    → PlaceShows setting state core sessions table chunk pos old → Pruned cover old new → PlaceShows setting state core sessions table chunk pos new
