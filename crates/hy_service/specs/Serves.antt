-- What serving a source to a sink comes to.
use Rattle.std.specs.Prelude.{◌≡◌, ◌⊎◌, ℕ, ◌+◌, ◌≤◌, List, [], ◌++◌, true, false, Option, Some, IsNone, IsSome, IfSome, length, take}
use Rattle.hy_limits.specs.declared.TheConstants.{MOST_BYTES}
use Rattle.hy_outside.specs.Telling.{Gives, GivesAll, Takes, TakesSome}
use Rattle.hy_lines.specs.Lines.{lines_in, whole_lines_in}
use Rattle.hy_lawful.specs.Lawful.{Lawful}
use Rattle.hy_lawful.specs.Serial.{IsSerial}
use Rattle.hy_render.specs.declared.Outcome.{Outcome}
use Rattle.hy_script.specs.declared.Options.{Options}
use Rattle.hy_script.specs.declared.codes.Code.TheVariants as code
use Rattle.hy_serving.specs.Answers.{refusal}
use Rattle.hy_serving.specs.declared.Cause.TheVariants.{Script}
use Rattle.hy_service.specs.Service.{closing, is_ended_by, outcome_after, served, setting_after}

-- a text was written whole, and the status is the one for that, or its first bytes were, and the status is 4
abbrev pub Writes : ℕ → ℕ → Option (List ℕ) → Option (List ℕ) → List ℕ → Type 0
Writes done status before after bytes = ((status ≡ done) × Takes before after bytes) ⊎ ((status ≡ 4) × TakesSome before after bytes)

-- END was among the lines that a source gave, or it gave all that it had
abbrev pub IsWhole : Options → Option (List ℕ) → Option (List ℕ) → List ℕ → Type 0
IsWhole options old new bytes = (is_ended_by options (whole_lines_in bytes) ≡ true) ⊎ GivesAll old new bytes

-- it gave one byte more than the limit, and no END
abbrev pub IsTooLong : Options → List ℕ → Type 0
IsTooLong options bytes = (length bytes ≡ MOST_BYTES + 1) × (is_ended_by options (whole_lines_in bytes) ≡ false)

-- what is told of bytes that are whole: all answers, and what is told at the end
abbrev pub whole_text : Options → List ℕ → List ℕ
whole_text options bytes = served options (lines_in bytes) ++ closing options (lines_in bytes)

-- and of bytes that are too many
abbrev pub long_text : Options → List ℕ → List ℕ
long_text options bytes = served options (whole_lines_in bytes) ++ refusal (Script code.TooLong) ++ closing options (whole_lines_in bytes)

-- what is to be told of the bytes that a source gave: of bytes that are neither, the answers to the whole lines
pub data IsTold (options : Options) (old new : Option (List ℕ)) (bytes : List ℕ) : List ℕ → Type 0 where
  told_whole : IsWhole options old new bytes → IsTold options old new bytes (whole_text options bytes)
  told_long : IsTooLong options bytes → IsTold options old new bytes (long_text options bytes)
  told_part : ¬ IsWhole options old new bytes → ¬ IsTooLong options bytes → IsTold options old new bytes (served options (whole_lines_in bytes))

-- the outcome of lines is that of their script, lawful, and serializable in its order
pub record IsOutcomeOf (options : Options) (lines : List (List ℕ)) (outcome : Outcome) : Type 0 where
  pub comes_to : outcome ≡ outcome_after options lines
  pub lawful : Lawful (setting_after options lines) outcome
  pub serial : IsSerial (setting_after options lines) outcome

-- A source gave these bytes, and was served to a sink, by the status.
pub record Serves (options : Options) (old new before after : Option (List ℕ)) (status : ℕ) (outcome : Option Outcome) : Type 0 where
  pub bytes : List ℕ
  pub gives : Gives old new bytes
  pub most : length bytes ≤ MOST_BYTES + 1
  pub done : status ≡ 0 → IsWhole options old new bytes × Takes before after (whole_text options bytes)
  pub too_long : status ≡ 2 → IsTooLong options bytes × Takes before after (long_text options bytes)
  -- a read failed: nothing is held back, since it may fail at any moment
  pub read_fault : status ≡ 3 → Takes before after (served options (whole_lines_in bytes))
  -- a write failed: the sink has the first bytes of what is to be told
  pub write_fault : status ≡ 4 → (text : List ℕ) × IsTold options old new bytes text × TakesSome before after text
  -- memory ran out: the first lines are answered, each whole
  pub no_memory : status ≡ 5 → (count : ℕ) × Takes before after (served options (take count (lines_in bytes)))
  -- so they are where the disk of the log failed
  pub disk_fault : status ≡ 6 → (count : ℕ) × Takes before after (served options (take count (lines_in bytes)))
  -- where there is an outcome, it is that of all lines, or where a write failed of those before it
  pub outcome_is : IfSome outcome (λ given. (count : ℕ) × IsOutcomeOf options (take count (lines_in bytes)) given)
  pub of_all : status ≡ 0 → IfSome outcome (λ given. IsOutcomeOf options (lines_in bytes) given)
  pub of_whole : status ≡ 2 → IfSome outcome (λ given. IsOutcomeOf options (whole_lines_in bytes) given)
  pub outcome_there : (status ≡ 0) ⊎ (status ≡ 2) → IsSome outcome
  pub no_outcome : (status ≡ 3) ⊎ ((status ≡ 5) ⊎ (status ≡ 6)) → IsNone outcome
