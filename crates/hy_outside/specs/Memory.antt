-- What sources and sinks in memory show.
use Rattle.std.specs.Prelude.{ℕ, ◌≤◌, List, length}

-- a source of bytes in memory
pub record MemoryInput : Type 0 where
  -- the bytes that are left
  pub left : List ℕ
  -- how many bytes it gives at once, at most
  pub piece : ℕ
  -- the numbers of the calls that fail
  pub failing : List ℕ
  -- how many calls there were
  pub calls : ℕ
  -- how many of them failed
  pub faults : ℕ

-- a sink of bytes in memory
pub record MemoryOutput : Type 0 where
  -- the bytes that it took
  pub bytes : List ℕ
  -- how many bytes it holds, at most
  pub room : ℕ
  -- the numbers of the calls that fail
  pub failing : List ℕ
  -- how many calls there were
  pub calls : ℕ
  -- how many of them failed
  pub faults : ℕ

-- no room is left
abbrev pub IsFull : MemoryOutput → Type 0
IsFull sink = sink.room ≤ length sink.bytes
