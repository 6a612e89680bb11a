-- What the calls on a log leave, whatever moment a crash comes at.
use Rattle.std.specs.Prelude.{◌≡◌, ◌⊎◌, ℕ, ◌+◌, ◌≤◌, List, [], ◌++◌, Option, IfSome, length}
use Rattle.std.specs.List.{flat_map}
use Rattle.hy_journal.specs.declared.Entry.{Entry}
use Rattle.hy_disk.specs.Calls.{Stays, Writes}
use Rattle.hy_redo.specs.Logs.{gated, log_of, IsLogOf}

-- the offset of the gate behind these entries, the first of which is behind the gate at this offset
abbrev pub next_gate : ℕ → List Entry → ℕ
next_gate gate more = gate + length (flat_map gated more)

-- each of these images is the log of the entries, with the closed gate at this offset
abbrev pub AreLogsOf : (List ℕ → Type 0) → List Entry → ℕ → Type 0
AreLogsOf images entries gate = (bytes : List ℕ) → images bytes → IsLogOf entries gate bytes

-- each of these images is the log of some entries, with the closed gate at this offset
abbrev pub AreClosedAt : (List ℕ → Type 0) → ℕ → Type 0
AreClosedAt images gate = (bytes : List ℕ) → images bytes → (entries : List Entry) × IsLogOf entries gate bytes

-- images that are the log of some entries are closed at its gate
pub closed_of : (images : List ℕ → Type 0) (entries : List Entry) (gate : ℕ) → AreLogsOf images entries gate → AreClosedAt images gate
closed_of images entries gate logs bytes image = (entries, logs bytes image)

-- the log of the entries without these more, or with all of them
abbrev pub IsBeforeOrAfter : List Entry → List Entry → ℕ → List ℕ → Type 0
IsBeforeOrAfter entries more gate bytes = IsLogOf entries gate bytes ⊎ IsLogOf (entries ++ more) (next_gate gate more) bytes

-- A crash at any moment of the call leaves the log of the entries without these more, or with all of them.
pub record Appends {D : Type 0} (clock : D → ℕ) (image_since : D → ℕ → List ℕ → Type 0) (entries more : List Entry) (gate : ℕ)
    (before after : D) : Type 0 where
  pub later : clock before ≤ clock after
  pub each : (bytes : List ℕ) → image_since after (clock before) bytes → IsBeforeOrAfter entries more gate bytes
  -- for a run that began earlier
  pub moments : (time : ℕ) (bytes : List ℕ) → time ≤ clock before → image_since after time bytes
      → image_since before time bytes ⊎ IsBeforeOrAfter entries more gate bytes

-- ---- the making of an empty log

-- the disk was empty, and the bytes of an empty log were being written to it: of these a crash may leave any
pub record IsBegun {D : Type 0} (held : D → Option (List ℕ)) (clock : D → ℕ) (image : D → List ℕ → Type 0) (image_since : D → ℕ → List ℕ → Type 0)
    (before after : D) : Type 0 where
  pub empty : IfSome (held before) (λ bytes. bytes ≡ [])
  pub writes : Writes clock image image_since 0 (length (log_of [])) before after

-- nothing was done: a read gives what it gave, and a crash leaves what it could
pub record IsAsItWas {D : Type 0} (held : D → Option (List ℕ)) (clock : D → ℕ) (image : D → List ℕ → Type 0) (image_since : D → ℕ → List ℕ → Type 0)
    (before after : D) : Type 0 where
  pub reads : held after ≡ held before
  pub stays : Stays clock image image_since before after

-- a fault while it was made came before anything was done, or after it was begun
abbrev pub IsBegunAtMost : {D : Type 0} → (D → Option (List ℕ)) → (D → ℕ) → (D → List ℕ → Type 0) → (D → ℕ → List ℕ → Type 0) → D → D → Type 0
IsBegunAtMost held clock image image_since before after =
    IsAsItWas held clock image image_since before after ⊎ IsBegun held clock image image_since before after
