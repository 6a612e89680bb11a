-- What a source that is read line by line gives.
use Rattle.std.specs.Prelude.{◌≡◌, ℕ, ◌+◌, ◌<◌, ◌⊎◌, Bool, true, false, List, [], ◌∷◌, ◌++◌, length, take, drop, Option, Result, Ok, Err}
use Rattle.hy_limits.specs.declared.TheConstants.{MOST_BYTES}
use Rattle.hy_outside.specs.Telling.{Gives, GivesAll}
use Rattle.hy_lines.specs.Lines.{has_feed, lines_in, AreLines}
use Rattle.hy_lines.specs.declared.Heard.{Heard}
use Rattle.hy_lines.specs.declared.Heard.TheVariants.{Line, End, TooLong}
use Rattle.hy_lines.specs.declared.NextError.{NextError}
use Rattle.hy_lines.specs.declared.NextError.TheVariants.{ReadFault, OutOfMemory}

-- a source that is read line by line
pub record Reading : Type 0 where
  -- what was taken of the source and is not given yet
  pub kept : List ℕ
  -- how many bytes were taken of it
  pub taken : ℕ
  -- whether it gave its end
  pub done : Bool

-- Of the source these bytes were taken.
pub record Took (before after : Option (List ℕ)) (old new : Reading) (bytes : List ℕ) : Type 0 where
  pub given : Gives before after bytes
  pub count : new.taken ≡ old.taken + length bytes
  -- none where a whole line was kept, or the source gave its end before
  pub waits : has_feed old.kept ≡ true → bytes ≡ []
  pub over : old.done ≡ true → (bytes ≡ []) × (after ≡ before) × (new.done ≡ true)
  -- where it gives its end now, they are all that it had left
  pub ended : old.done ≡ false → new.done ≡ true → GivesAll before after bytes

-- some were taken, and are kept behind the others
abbrev pub Adds : Option (List ℕ) → Option (List ℕ) → Reading → Reading → Type 0
Adds before after old new = (bytes : List ℕ) × Took before after old new bytes × (new.kept ≡ old.kept ++ bytes)

-- the first of the bytes, so many, are a line that a line feed ends
pub record IsFirstLine (count : ℕ) (bytes : List ℕ) : Type 0 where
  pub line : has_feed (take count bytes) ≡ false
  pub feed : bytes ≡ take count bytes ++ 10 ∷ drop (count + 1) bytes

-- no whole line is kept, and the source gave its end, or more was taken than the limit
pub record IsOver (reading : Reading) : Type 0 where
  pub none : has_feed reading.kept ≡ false
  pub why : (reading.done ≡ true) ⊎ (reading.taken ≡ MOST_BYTES + 1)

-- what a call answers, where these bytes were kept or taken
abbrev pub Told : List ℕ → Reading → Result Heard NextError → Type 0
-- a line that a line feed ends, or all that is left at the end of the source
Told bytes new (Ok (Line line)) = (has_feed line.items ≡ false)
    × ((bytes ≡ line.items ++ 10 ∷ new.kept) ⊎ ((bytes ≡ line.items) × (0 < length line.items) × (new.kept ≡ []) × (new.done ≡ true)))
Told bytes new (Ok End) = (bytes ≡ []) × (new.kept ≡ []) × (new.done ≡ true)
Told bytes new (Ok TooLong) = (new.kept ≡ bytes) × (has_feed bytes ≡ false) × (new.taken ≡ MOST_BYTES + 1) × (new.done ≡ false)
-- the bytes are kept
Told bytes new (Err ReadFault) = (new.kept ≡ bytes) × (has_feed bytes ≡ false) × (new.done ≡ false)
Told bytes new (Err OutOfMemory) = new.kept ≡ bytes

-- A call takes these bytes of the source, and answers.
pub record Hears (before after : Option (List ℕ)) (old new : Reading) (result : Result Heard NextError) : Type 0 where
  pub bytes : List ℕ
  pub took : Took before after old new bytes
  pub told : Told (old.kept ++ bytes) new result

-- nothing is taken yet
abbrev pub opening : Reading
opening = record { kept = []; taken = 0; done = false }

-- the line of an answer, where it is one
abbrev pub line_of : Result Heard NextError → List (List ℕ)
line_of (Ok (Line line)) = line.items ∷ []
line_of (Ok End) = []
line_of (Ok TooLong) = []
line_of (Err e) = []

-- By calls, one after another, these bytes were taken of the source and these lines were given.
pub record HasGiven (first now : Option (List ℕ)) (reading : Reading) (bytes : List ℕ) (lines : List (List ℕ)) : Type 0 where
  pub given : Gives first now bytes
  pub count : reading.taken ≡ length bytes
  pub all : lines_in bytes ≡ lines ++ lines_in reading.kept
  -- up to the end of the source each of them is whole
  pub whole : reading.done ≡ false → AreLines bytes lines reading.kept
  pub ended : reading.done ≡ true → GivesAll first now bytes
