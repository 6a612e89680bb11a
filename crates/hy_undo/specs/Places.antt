-- A position of a chunk: what is in place, and its chain.
use Rattle.std.specs.Prelude.{◌≡◌, nat_lt, ◌≢◌, ℕ, ◌≤◌, ◌<◌, List, ◌∷◌, Bool, Option, None, Some, map, if◌then◌else◌, true, not, ◌&&◌, ◌||◌}
use Rattle.hy_value.specs.declared.Value.{Value}
use Rattle.hy_stamp.specs.declared.Label.{Label}
use Rattle.hy_stamp.specs.declared.Stamp.{Stamp}
use Rattle.hy_stamp.specs.declared.Viewer.{Viewer}
use Rattle.hy_chain.specs.Chains.{Undo, seen, newest, marked}
use Rattle.hy_undo.specs.declared.version.Version.{Version}
use Rattle.hy_undo.specs.Images.{Image, before}

-- what stands at a position, whether the position is used, when its row went (the death time: the commit time of
-- the writer that left it without a row, or 0), and the chain of the versions before
pub record Place : Type 0 where
  pub version : Version
  pub used : Bool
  pub death : ℕ
  pub chain : List (Undo Image)

-- a row that is there or not
abbrev pub Cell : Type 0
Cell = Option (List Value)

abbrev pub cell_of : Version → Cell
cell_of version = if version.live then Some version.row else None

-- what a viewer sees there
abbrev pub sees : Viewer → Place → Cell
sees viewer place = cell_of (seen before viewer place.version place.chain)

-- what is seen by one that goes past no record
abbrev pub in_place : Place → Cell
in_place place = cell_of place.version

abbrev pub stamps : Place → List Stamp
stamps place = map (λ undo. undo.stamp) place.chain

-- a stamp, if there is one, is older than a time
abbrev pub is_older : ℕ → Option Stamp → Bool
is_older time None = true
is_older time (Some stamp) = nat_lt stamp.mark time

-- a position may take a new row: it is unused, or its row is gone for everyone from the watermark on
abbrev pub is_free : ℕ → Place → Bool
is_free watermark place =
    not place.used || (not place.version.live && (is_older watermark (newest place.chain) && nat_lt place.death watermark))

-- another viewer, which goes past records of this identifier
pub record IsOther (writer : ℕ) (viewer : Viewer) : Type 0 where
  pub other : writer ≢ viewer.id
  pub start : viewer.start ≤ writer

-- a write put a record in front, with what was there before
pub record Pushed (old new : Place) (label : Label) (id : ℕ) (image : Image) : Type 0 where
  pub chain : new.chain ≡ record { stamp = record { owner = label; mark = id }; image = image } ∷ old.chain
  pub version : before image new.version ≡ old.version

-- the newest record is taken out and put back in place
pub record Popped (old new : Place) (undo : Undo Image) : Type 0 where
  pub chain : old.chain ≡ undo ∷ new.chain
  pub version : new.version ≡ before undo.image old.version

-- the newest record has a time as its mark
pub record Marked (old new : Place) (undo : Undo Image) (rest : List (Undo Image)) (time : ℕ) : Type 0 where
  pub was : old.chain ≡ undo ∷ rest
  pub chain : new.chain ≡ marked time undo ∷ rest
  pub version : new.version ≡ old.version

-- what others see after a write, an undo, a stamp; what the writer sees
abbrev pub OthersKeep : Type 0
OthersKeep = (old new : Place) (viewer : Viewer) →
    ((label : Label) (id : ℕ) (image : Image) → Pushed old new label id image → IsOther id viewer → sees viewer new ≡ sees viewer old)
    × ((label : Label) (id : ℕ) (image : Image) → Pushed old new label id image → viewer.id ≡ id → sees viewer new ≡ in_place new)
    × ((undo : Undo Image) → Popped old new undo → IsOther undo.stamp.mark viewer → sees viewer new ≡ sees viewer old)
    × ((undo : Undo Image) (rest : List (Undo Image)) (time : ℕ) → Marked old new undo rest time → IsOther undo.stamp.mark viewer → viewer.start ≤ time → time ≢ viewer.id → sees viewer new ≡ sees viewer old)
    × ((undo : Undo Image) (rest : List (Undo Image)) (time : ℕ) → Marked old new undo rest time → time < viewer.start → sees viewer new ≡ in_place old)
