-- How far a source is served, and why no further line of it is heard.
use Rattle.std.specs.Prelude.{◌≡◌, ◌⊎◌, ℕ, ◌+◌, ◌≤◌, List, [], Option, None, Some, length, take}
use Rattle.hy_limits.specs.declared.TheConstants.{MOST_BYTES}
use Rattle.hy_outside.specs.Telling.{Gives, GivesAll, Takes, TakesSome}
use Rattle.hy_lines.specs.Hearing.{Reading, HasGiven}
use Rattle.hy_lines.specs.Lines.{lines_in, whole_lines_in}
use Rattle.hy_script.specs.declared.Options.{Options}
use Rattle.hy_service.specs.Knowing.{Hears, Knows, ServerData}
use Rattle.hy_service.specs.Serves.{IsTooLong, IsWhole}
use Rattle.hy_service.specs.Service.{after, answer, served}
use Rattle.hy_service.specs.declared.serving.Stop.{Stop}
use Rattle.hy_service.specs.declared.serving.Stop.TheVariants.{End, TooLong, ReadFault, WriteFault, DiskFault, OutOfMemory}

-- By calls, one after another, bytes were taken of a source and lines given; each was answered, and the server knows them, of which this
-- was logged.
pub record HasServed (options : Options) (old new before after : Option (List ℕ)) (logged : List (List ℕ) → Type 0) (reading : Reading)
    (server : ServerData) : Type 0 where
  pub bytes : List ℕ
  pub lines : List (List ℕ)
  pub given : HasGiven old new reading bytes lines
  pub most : length bytes ≤ MOST_BYTES + 1
  pub told : Takes before after (served options lines)
  pub options_are : server.options ≡ options
  pub knows : Knows lines server
  pub logs : logged lines

-- Of these bytes these are the first lines, all of them whole where the source did not give all that it had.
pub record AreFirst (old new : Option (List ℕ)) (bytes : List ℕ) (lines : List (List ℕ)) : Type 0 where
  pub first : (count : ℕ) × (lines ≡ take count (lines_in bytes))
  pub whole : GivesAll old new bytes ⊎ ((count : ℕ) × (lines ≡ take count (whole_lines_in bytes)))

-- of these bytes these lines are heard, and no other one
abbrev pub IsStop : Options → Option (List ℕ) → Option (List ℕ) → Option (List ℕ) → Option (List ℕ) → List ℕ → List (List ℕ) → Stop → Type 0
IsStop options old new before now bytes lines End =
    IsWhole options old new bytes × (served options (lines_in bytes) ≡ served options lines) × (after options (lines_in bytes) ≡ after options lines)
    × Takes before now (served options lines)
IsStop options old new before now bytes lines TooLong = IsTooLong options bytes × (lines ≡ whole_lines_in bytes) × Takes before now (served options lines)
IsStop options old new before now bytes lines ReadFault = (lines ≡ whole_lines_in bytes) × Takes before now (served options lines)
IsStop options old new before now bytes lines WriteFault = AreFirst old new bytes lines × TakesSome before now (served options lines)
IsStop options old new before now bytes lines DiskFault =
    ((count : ℕ) × (lines ≡ take count (lines_in bytes))) × Takes before now (served options lines)
IsStop options old new before now bytes lines OutOfMemory =
    ((count : ℕ) × (lines ≡ take count (lines_in bytes))) × Takes before now (served options lines)

-- this holds, unless a session's turn may have broken off
abbrev pub UnlessCut : Stop → Type 0 → Type 0
UnlessCut End holds = holds
UnlessCut TooLong holds = holds
UnlessCut ReadFault holds = holds
UnlessCut WriteFault holds = holds
UnlessCut DiskFault holds = Unit {0}
UnlessCut OutOfMemory holds = Unit {0}

abbrev pub UnlessStopped : Option Stop → Type 0 → Type 0
UnlessStopped None holds = holds
UnlessStopped (Some stop) holds = UnlessCut stop holds

-- no further line is heard. The log is of the first lines, with the one too at which it stopped.
pub record HasStopped (options : Options) (old new before after : Option (List ℕ)) (logged : List (List ℕ) → Type 0) (server : ServerData)
    (stop : Stop) : Type 0 where
  pub bytes : List ℕ
  pub lines : List (List ℕ)
  pub gives : Gives old new bytes
  pub most : length bytes ≤ MOST_BYTES + 1
  pub stops : IsStop options old new before after bytes lines stop
  pub options_are : server.options ≡ options
  pub knows : UnlessCut stop (Knows lines server)
  pub heard : List (List ℕ)
  pub first : (count : ℕ) × (heard ≡ take count (lines_in bytes))
  pub logs : logged heard

-- a line that is heard after these is answered to a sink, or no further one is heard
abbrev pub Answers : List (List ℕ) → List ℕ → ServerData → ServerData → Option (List ℕ) → Option (List ℕ) → Option Stop → Type 0
Answers lines line old new before now None = Hears lines line old new (Some (answer old.options (after old.options lines) line))
    × Takes before now (answer old.options (after old.options lines) line)
Answers lines line old new before now (Some End) = Hears lines line old new None × Takes before now []
Answers lines line old new before now (Some WriteFault) = Hears lines line old new (Some (answer old.options (after old.options lines) line))
    × TakesSome before now (answer old.options (after old.options lines) line)
Answers lines line old new before now (Some DiskFault) = Takes before now []
Answers lines line old new before now (Some OutOfMemory) = Takes before now []
Answers lines line old new before now (Some TooLong) = ⊥
Answers lines line old new before now (Some ReadFault) = ⊥

-- what became of a line, if there was one
abbrev pub GoesOn : Options → Option (List ℕ) → Option (List ℕ) → Option (List ℕ) → Option (List ℕ) → (List (List ℕ) → Type 0) → Reading → ServerData
    → Option Stop → Type 0
GoesOn options old new before after logged reading server None = HasServed options old new before after logged reading server
GoesOn options old new before after logged reading server (Some stop) = HasStopped options old new before after logged server stop
