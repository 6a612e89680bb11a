-- The images that a disk in memory offers of its moments.
use Rattle.std.specs.Prelude.{◌≡◌, ◌-◌, ℕ, nat_lt, nat_le, List, [], ◌∷◌, ◌++◌, length, map, replicate, if◌then◌else◌, Vec}
use Rattle.std.specs.declared.alloc.Global.{Global}
use Rattle.hy_disk.specs.declared.replay.TheConstants.{VARIED}
use Rattle.hy_disk.specs.Bytes.{overwritten}
use Rattle.hy_disk.specs.Memory.{Pending, Moment, shown}

-- the lists that these vectors hold
abbrev pub each_items : List (Vec ℕ Global) → List (List ℕ)
each_items vectors = map (λ vector. vector.items) vectors

-- each of these images, with the range as it was, as it was written, and all 255
abbrev pub varied_of : List (List ℕ) → ℕ → List ℕ → List (List ℕ)
varied_of [] at bytes = []
varied_of (image ∷ images) at bytes =
    image ∷ overwritten image at bytes ∷ overwritten image at (replicate (length bytes) 255) ∷ varied_of images at bytes

-- each of these images, with the range as it was written
abbrev pub written_of : List (List ℕ) → ℕ → List ℕ → List (List ℕ)
written_of images at bytes = map (λ image. overwritten image at bytes) images

-- the images of a moment: the oldest pending writes in each way, and the later ones as they were written
abbrev pub ways_of : List ℕ → List Pending → List (List ℕ)
ways_of durable [] = durable ∷ []
ways_of durable (write ∷ older) =
    if nat_lt (length older) VARIED then varied_of (ways_of durable older) write.at write.bytes else written_of (ways_of durable older) write.at write.bytes

-- those of each moment that is not before the time, the older moments first
abbrev pub offered_since : List Moment → ℕ → List (List ℕ)
offered_since [] time = []
offered_since (moment ∷ earlier) time = offered_since earlier time ++ (if nat_le time (length earlier) then ways_of moment.durable moment.pending else [])

-- a replay of the events stands at this moment
pub record StandsAt (moment : Moment) (bytes : List ℕ) (ways : List (List ℕ)) (left : ℕ) : Type 0 where
  pub bytes_are : bytes ≡ shown moment
  pub ways_are : ways ≡ ways_of moment.durable moment.pending
  pub left_is : left ≡ VARIED - length moment.pending
