-- What the adapters over std's readers and writers show.
use Rattle.std.specs.Prelude.{ℕ, ◌-◌, List, Option, length, take, option_map}

-- a source over a reader of std
pub record ReaderInput (R : Type 0) : Type 0 where
  -- the reader, as it is now
  pub inner : R
  -- how many reads failed
  pub faults : ℕ

-- a sink over a writer of std
pub record WriterOutput (W : Type 0) : Type 0 where
  -- the writer, as it is now
  pub inner : W
  -- how many of the bytes that the writer took last it could not pass on
  pub kept_back : ℕ
  -- how many writes failed
  pub faults : ℕ

-- of the bytes that a writer took, those before the ones that it keeps back
abbrev pub passed_on : Option (List ℕ) → ℕ → Option (List ℕ)
passed_on taken kept_back = option_map (λ bytes. take (length bytes - kept_back) bytes) taken
