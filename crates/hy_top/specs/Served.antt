-- What a call leaves that serves lines, with a log of what they commit or without one.
use Rattle.std.specs.Prelude.{◌≡◌, ◌⊎◌, ℕ, ◌≤◌, Bool, true, List, [], Option, IsNone}
use Rattle.hy_lines.specs.Lines.{lines_in}
use Rattle.hy_outside.specs.Telling.{Gives}
use Rattle.hy_redo.specs.Crashes.{AreLogsOf, IsAsItWas, IsBegun, IsBegunAtMost}
use Rattle.hy_render.specs.declared.Outcome.{Outcome}
use Rattle.hy_script.specs.declared.Options.{Options}
use Rattle.hy_service.specs.Logging.{IsLogOfSome, LogsServing}
use Rattle.hy_service.specs.Serves.{Serves}
use Rattle.hy_top.specs.Reports.{FindsALog, IsHalfMade}

-- the lines that the source gave were served; or a log was to be kept and the disk has bytes: so nothing was read, and that was told
abbrev pub IsServed : Option (List ℕ) → Bool → Options → Option (List ℕ) → Option (List ℕ) → Option (List ℕ) → Option (List ℕ) → ℕ → Option Outcome → Type 0
IsServed held keeps options rest left before after status outcome =
    Serves options rest left before after status outcome
    ⊎ ((keeps ≡ true) × (left ≡ rest) × FindsALog held status outcome before after)

-- ---- what a crash leaves on the disk

-- the bytes are the log of some first entries of the commit order that some first lines come to of what the source gave, and recover
-- to the tables after these, over those that the lines define
abbrev pub IsLogOfServed : Options → Option (List ℕ) → Option (List ℕ) → List ℕ → Type 0
IsLogOfServed options rest left bytes = (given : List ℕ) × Gives rest left given × IsLogOfSome options (lines_in given) bytes

-- A crash at any moment between these two leaves what one could leave before, what the making of a log may leave, or such a log.
pub record IsSafeServing {D : Type 0} (held : D → Option (List ℕ)) (clock : D → ℕ) (image : D → List ℕ → Type 0)
    (image_since : D → ℕ → List ℕ → Type 0) (options : Options) (rest left : Option (List ℕ)) (before after : D) : Type 0 where
  pub later : clock before ≤ clock after
  pub moments : (time : ℕ) (bytes : List ℕ) → time ≤ clock before → image_since after time bytes
      → image_since before time bytes ⊎ (IsHalfMade (held before) (image before) bytes ⊎ IsLogOfServed options rest left bytes)

-- A log was made, and kept of the lines that were served from then on.
pub record HasServedLogged {D : Type 0} (held : D → Option (List ℕ)) (clock : D → ℕ) (image : D → List ℕ → Type 0)
    (image_since : D → ℕ → List ℕ → Type 0) (options : Options) (rest left : Option (List ℕ)) (status : ℕ) (outcome : Option Outcome)
    (before after : D) : Type 0 where
  pub made : D
  pub making : IsBegun held clock image image_since before made
  pub gate : ℕ
  pub empty : AreLogsOf (image made) [] gate
  pub serves : LogsServing clock image image_since options rest left status outcome made after

-- what a call leaves that serves with a log
pub record LeavesServed {D : Type 0} (held : D → Option (List ℕ)) (clock : D → ℕ) (image : D → List ℕ → Type 0)
    (image_since : D → ℕ → List ℕ → Type 0) (options : Options) (rest left : Option (List ℕ)) (status : ℕ) (outcome : Option Outcome)
    (before after : D) : Type 0 where
  -- where the disk had bytes already, it is as it was
  pub stays : status ≡ 7 → IsAsItWas held clock image image_since before after
  -- a log was made and kept, or it came no further than to its making, and there is no outcome
  pub kept : HasServedLogged held clock image image_since options rest left status outcome before after
      ⊎ (IsNone outcome × IsBegunAtMost held clock image image_since before after)
  -- whatever the status
  pub safe : IsSafeServing held clock image image_since options rest left before after
