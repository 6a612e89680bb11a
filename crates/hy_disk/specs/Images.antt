-- Laws of the images of a disk in memory.
use Rattle.std.proofs.Common.{◌≡◌, inl, inr, ℕ, ◌<◌, ◌≤◌, List, [], ◌∷◌, length, slice_get, Some, refl, ◌∙◌, subst, arith}
use Rattle.std.proofs.lemmas.Option.{same_Some}
use Rattle.hy_disk.specs.Memory.{Pending, Moment, MemoryDisk, after_writes, shown, told, time_of, IsOutside, IsImage, IsLeft, IsLeftSince, LeavesSince}
use Rattle.hy_disk.specs.Ranges.{length-overwritten, same_outside}

-- writes leave the bytes no shorter
pub no_shorter_after : (durable : List ℕ) (pending : List Pending) → length durable ≤ length (after_writes durable pending)
no_shorter_after durable [] = omega arith
no_shorter_after durable (write ∷ older) =
    omega (arith, no_shorter_after durable older, length-overwritten (after_writes durable older) write.at write.bytes)

-- outside their ranges writes leave the bytes as they were
pub same_after : (durable : List ℕ) (pending : List Pending) (offset : ℕ) → offset < length durable → IsOutside pending offset
    → slice_get (after_writes durable pending) offset ≡ slice_get durable offset
same_after durable [] offset less outside = refl
same_after durable (write ∷ older) offset less outside =
    same_outside (after_writes durable older) write.at write.bytes offset (omega (arith, less, no_shorter_after durable older)) outside.0
    ∙ same_after durable older offset less outside.1

-- what a read gives is an image
pub shown_is_image : (moment : Moment) → IsImage moment (shown moment)
shown_is_image moment = record {
  no_shorter = no_shorter_after moment.durable moment.pending;
  no_longer = omega arith;
  agrees = λ offset less outside. same_after moment.durable moment.pending offset less outside;
}

pub told_is_left : (disk : MemoryDisk) (bytes : List ℕ) → told disk ≡ Some bytes → IsLeft disk bytes
told_is_left disk bytes is = subst (IsImage disk.present) (same_Some _ _ is) (shown_is_image disk.present)

-- the moments since a time are among those since an earlier one
pub since_earlier : (moments : List Moment) (time later : ℕ) (image : List ℕ) → time ≤ later → LeavesSince moments later image → LeavesSince moments time image
since_earlier [] time later image le left = left
since_earlier (moment ∷ earlier) time later image le (inl here) = inl (omega (arith, le, here.0), here.1)
since_earlier (moment ∷ earlier) time later image le (inr there) = inr (since_earlier earlier time later image le there)

-- no moment stands at the count of all of them
pub none_since : (moments : List Moment) (time : ℕ) (image : List ℕ) → LeavesSince moments time image → time < length moments
none_since [] time image left = absurd left
none_since (moment ∷ earlier) time image (inl here) = omega (arith, here.0)
none_since (moment ∷ earlier) time image (inr there) = omega (arith, none_since earlier time image there)

pub since_now : (disk : MemoryDisk) (image : List ℕ) → IsLeftSince disk (time_of disk) image → IsLeft disk image
since_now disk image (inl here) = here.1
since_now disk image (inr there) = absurd (omega (arith, none_since disk.earlier (time_of disk) image there))
