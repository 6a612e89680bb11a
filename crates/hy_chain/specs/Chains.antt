-- Chains of undo records, newest first, and what a viewer sees through one.
use Rattle.std.specs.Prelude.{◌≢◌, ◌⊎◌, ℕ, ◌<◌, ◌≤◌, List, [], ◌∷◌, Bool, ◌||◌, ◌==◌, nat_lt, Option, None, Some, Contains, if◌then◌else◌}
use Rattle.std.specs.List.{AllByRecursion}
use Rattle.hy_stamp.specs.declared.Label.{Label}
use Rattle.hy_stamp.specs.declared.Stamp.{Stamp}
use Rattle.hy_stamp.specs.declared.Viewer.{Viewer}
use Rattle.hy_prune.specs.declared.Cover.{Cover}

-- an undo record: who wrote, and what was there before
pub record Undo (D : Type 0) : Type 0 where
  pub stamp : Stamp
  pub image : D

-- a viewer goes no further than a record of its own, or one that is older than its start
abbrev pub stops : Viewer → ℕ → Bool
stops viewer mark = mark == viewer.id || nat_lt mark viewer.start

-- what a viewer sees: what is in place, as it was before each record that it goes past
abbrev pub seen : {D B : Type 0} → (D → B → B) → Viewer → B → List (Undo D) → B
seen applied viewer base [] = base
seen applied viewer base (undo ∷ chain) =
    if stops viewer undo.stamp.mark then base else seen applied viewer (applied undo.image base) chain

-- the stamp of the newest record
abbrev pub newest : {D : Type 0} → List (Undo D) → Option Stamp
newest [] = None
newest (undo ∷ chain) = Some undo.stamp

-- the owner of a stamp that does not stop a viewer: it is no older than the viewer's start, and not its own
abbrev pub rival_by : Viewer → Option Stamp → Option Label
rival_by viewer None = None
rival_by viewer (Some stamp) = if stops viewer stamp.mark then None else Some stamp.owner

-- whom a write by a viewer is in conflict with
abbrev pub rival : {D : Type 0} → Viewer → List (Undo D) → Option Label
rival viewer chain = rival_by viewer (newest chain)

-- all marks are below
abbrev pub Under : {D : Type 0} → ℕ → List (Undo D) → Type 0
Under mark chain = AllByRecursion (λ undo. undo.stamp.mark < mark) chain

-- the marks fall from newest to oldest
abbrev pub Falls : {D : Type 0} → List (Undo D) → Type 0
Falls [] = Unit {0}
Falls (undo ∷ chain) = Under undo.stamp.mark chain × Falls chain

-- a viewer whose view pruning by a cover keeps: it has an identifier above the times of the cover, and its
-- start is one of the cover's or later, and no mark of the chain
pub record IsSafe {D : Type 0} (cover : Cover) (chain : List (Undo D)) (viewer : Viewer) : Type 0 where
  pub id : cover.next ≤ viewer.id
  pub start : Contains cover.starts viewer.start ⊎ (cover.next ≤ viewer.start)
  pub apart : AllByRecursion (λ undo. undo.stamp.mark ≢ viewer.start) chain

-- what was there before the newest record; where there is none, what is in place
abbrev pub before_newest : {D B : Type 0} → (D → B → B) → B → List (Undo D) → B
before_newest applied base [] = base
before_newest applied base (undo ∷ chain) = applied undo.image base

-- the newest image, where it is that of this identifier
abbrev pub own_image : {D : Type 0} → ℕ → List (Undo D) → Option D
own_image id [] = None
own_image id (undo ∷ chain) = if undo.stamp.mark == id then Some undo.image else None

-- a chain without the newest record, where that is of this identifier
abbrev pub without_own : {D : Type 0} → ℕ → List (Undo D) → List (Undo D)
without_own id [] = []
without_own id (undo ∷ chain) = if undo.stamp.mark == id then chain else undo ∷ chain

-- a record with another mark
abbrev pub marked : {D : Type 0} → ℕ → Undo D → Undo D
marked time undo = record { stamp = record undo.stamp { mark = time }; image = undo.image }

-- a chain whose newest record, where it is of this identifier, has this time as its mark
abbrev pub stamped : {D : Type 0} → ℕ → ℕ → List (Undo D) → List (Undo D)
stamped id time [] = []
stamped id time (undo ∷ chain) = (if undo.stamp.mark == id then marked time undo else undo) ∷ chain
