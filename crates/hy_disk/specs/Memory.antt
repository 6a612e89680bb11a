-- What a disk in memory shows: what it held at each moment, and the images that a crash then may leave.
use Rattle.std.specs.Prelude.{◌≡◌, ◌⊎◌, ℕ, ◌+◌, ◌<◌, ◌≤◌, List, [], ◌∷◌, length, slice_get, Option, Some, ⊤}
use Rattle.hy_disk.specs.Bytes.{overwritten}

-- a write that no sync has followed
pub record Pending : Type 0 where
  -- where it begins
  pub at : ℕ
  -- what was written
  pub bytes : List ℕ

-- what a disk holds at a moment
pub record Moment : Type 0 where
  -- the bytes that are sure
  pub durable : List ℕ
  -- the writes since the last sync, the newest first
  pub pending : List Pending

-- the bytes after these writes, of which the newest comes first
abbrev pub after_writes : List ℕ → List Pending → List ℕ
after_writes durable [] = durable
after_writes durable (write ∷ older) = overwritten (after_writes durable older) write.at write.bytes

-- what a read gives at the moment
abbrev pub shown : Moment → List ℕ
shown moment = after_writes moment.durable moment.pending

-- the moment after a write
abbrev pub wrote : Moment → ℕ → List ℕ → Moment
wrote moment at bytes = record moment { pending = record { at = at; bytes = bytes } ∷ moment.pending }

-- the moment after a sync
abbrev pub synced : Moment → Moment
synced moment = record { durable = shown moment; pending = [] }

-- the offset is outside the ranges of all these writes
abbrev pub IsOutside : List Pending → ℕ → Type 0
IsOutside [] offset = ⊤
IsOutside (write ∷ older) offset = ((offset < write.at) ⊎ (write.at + length write.bytes ≤ offset)) × IsOutside older offset

-- A crash at the moment may leave any bytes that agree with the sure ones, below their end and outside the ranges that were written since,
-- and that are as long at least as those, and as what a read gives at most.
pub record IsImage (moment : Moment) (image : List ℕ) : Type 0 where
  pub no_shorter : length moment.durable ≤ length image
  pub no_longer : length image ≤ length (shown moment)
  pub agrees : (offset : ℕ) → offset < length moment.durable → IsOutside moment.pending offset → slice_get image offset ≡ slice_get moment.durable offset

-- Of these moments, the newest first, one that is not before the time may leave this image. A moment's time is how many there were before it.
abbrev pub LeavesSince : List Moment → ℕ → List ℕ → Type 0
LeavesSince [] time image = ⊥
LeavesSince (moment ∷ earlier) time image = ((time ≤ length earlier) × IsImage moment image) ⊎ LeavesSince earlier time image

-- a disk in memory
pub record MemoryDisk : Type 0 where
  -- what it holds now
  pub present : Moment
  -- what it held before, the newest first: a write that is done begins a moment, and so does a sync that finds a write pending
  pub earlier : List Moment
  -- the numbers of the calls that fail
  pub failing : List ℕ
  -- how many calls there were
  pub calls : ℕ
  -- how many of them failed
  pub faults : ℕ

-- every moment so far, the newest first
abbrev pub moments : MemoryDisk → List Moment
moments disk = disk.present ∷ disk.earlier

-- the time: how many moments there were before this one
abbrev pub time_of : MemoryDisk → ℕ
time_of disk = length disk.earlier

-- a crash now may leave this
abbrev pub IsLeft : MemoryDisk → List ℕ → Type 0
IsLeft disk image = IsImage disk.present image

-- a crash at some moment since the time may have left this
abbrev pub IsLeftSince : MemoryDisk → ℕ → List ℕ → Type 0
IsLeftSince disk time image = LeavesSince (moments disk) time image

-- what a read gives
abbrev pub told : MemoryDisk → Option (List ℕ)
told disk = Some (shown disk.present)
