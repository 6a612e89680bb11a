-- What a crash may leave of a disk in memory after a write and after a sync.
use Rattle.std.proofs.Common.{◌≡◌, ◌⊎◌, inl, inr, ⊎_elim, ℕ, ◌+◌, ◌-◌, ◌<◌, ◌≤◌, min, List, [], length, take, drop, slice_get, Some}
use Rattle.std.proofs.Common.{sym, ◌∙◌, ap, subst, arith, length-take, length-drop}
use Rattle.std.proofs.lemmas.Bool.{cases_lt}
use Rattle.hy_disk.specs.Bytes.{overwritten}
use Rattle.hy_disk.specs.Calls.{TouchedOf, Writes, Syncs, IsDurable}
use Rattle.hy_disk.specs.Memory.{Pending, Moment, MemoryDisk, after_writes, shown, wrote, synced, moments, told, time_of}
use Rattle.hy_disk.specs.Memory.{IsOutside, IsImage, IsLeft, IsLeftSince, LeavesSince}
use Rattle.hy_disk.specs.Ranges.{length-overwritten, same_outside, new_inside, at_taken, at_dropped, at_same, same_bytes}
use Rattle.hy_disk.specs.Images.{shown_is_image, no_shorter_after}

-- after a sync a crash leaves what a read gives
pub only_shown : (moment : Moment) (image : List ℕ) → IsImage (synced moment) image → image ≡ shown moment
only_shown moment image left =
    same_bytes image (shown moment) (omega (arith, left.no_shorter, left.no_longer)) (λ offset less. left.agrees offset less tt)

module _ (moment : Moment) (at : ℕ) (from image : List ℕ) (left : IsImage (wrote moment at from) image) where
  -- of the range that was written, the bytes that were sure
  sure : List ℕ
  sure = take (length from) (drop at moment.durable)

  -- the image with the sure bytes in the range, and no longer than what was there
  before : List ℕ
  before = take (length (shown moment)) (overwritten image at sure)

  length-sure : length sure ≡ min (length from) (length moment.durable - at)
  unfolding sure
  length-sure = omega (arith, length-take (length from) (drop at moment.durable), length-drop at moment.durable)

  length-before : length before ≡ min (length (shown moment)) (length image)
  unfolding before
  length-before =
      omega (arith, left.no_shorter, length-sure, length-overwritten image at sure, length-take (length (shown moment)) (overwritten image at sure))

  -- outside the range it is the image
  before_outside : (offset : ℕ) → offset < length before → (offset < at) ⊎ (at + length from ≤ offset) → slice_get before offset ≡ slice_get image offset
  unfolding before
  before_outside offset less outside =
      at_taken (length (shown moment)) (overwritten image at sure) offset (omega (arith, less, length-before))
      ∙ same_outside image at sure offset (omega (arith, less, length-before))
      (⊎_elim (λ (low : offset < at). inl low) (λ (high : at + length from ≤ offset). inr (omega (arith, high, length-sure))) outside)

  before_agrees : (offset : ℕ) → offset < length moment.durable → IsOutside moment.pending offset → slice_get before offset ≡ slice_get moment.durable offset
  unfolding before sure
  before_agrees offset less outside =
      let within : offset < length before =
      omega (arith, less, length-before, left.no_shorter, no_shorter_after moment.durable moment.pending) in
      let cut : slice_get before offset ≡ slice_get (overwritten image at sure) offset =
      at_taken (length (shown moment)) (overwritten image at sure) offset (omega (arith, less, no_shorter_after moment.durable moment.pending)) in
      elim (cases_lt offset at) [
        | inl low ↦ before_outside offset within (inl low) ∙ left.agrees offset less (inl low, outside)
        | inr high ↦ elim (cases_lt offset (at + length from)) [
          | inl inside ↦ cut
              ∙ new_inside image at sure offset (omega (arith, less, high, left.no_shorter)) high (omega (arith, less, high, inside, length-sure))
              ∙ at_taken (length from) (drop at moment.durable) (offset - at) (omega (arith, inside, high))
              ∙ at_dropped at moment.durable (offset - at)
              ∙ at_same moment.durable (at + (offset - at)) offset (omega (arith, high))
          | inr past ↦ before_outside offset within (inr past) ∙ left.agrees offset less (inr past, outside)
        ]
      ]

  before_is_image : IsImage moment before
  before_is_image = record {
    no_shorter = omega (arith, length-before, left.no_shorter, no_shorter_after moment.durable moment.pending);
    no_longer = omega (arith, length-before);
    agrees = before_agrees;
  }

  pub touched_of : TouchedOf at (length from) (IsImage moment) image
  touched_of = (before, before_is_image, λ offset less outside. sym (before_outside offset less outside))

module _ (old new : MemoryDisk) where
  -- after a write
  pub writes_to : (at : ℕ) (from : List ℕ) → new.present ≡ wrote old.present at from → new.earlier ≡ moments old
      → Writes time_of IsLeft IsLeftSince at (length from) old new
  writes_to at from present earlier =
      let touched : (image : List ℕ) → IsLeft new image → TouchedOf at (length from) (IsLeft old) image =
      λ image left. touched_of old.present at from image (subst (λ (m : Moment). IsImage m image) present left) in
      record {
        later = omega (arith, ap length earlier);
        images = touched;
        moments = λ time image le left.
            ⊎_elim (λ here. inr (touched image here.1)) (λ there. inl (subst (λ (m : List Moment). LeavesSince m time image) earlier there)) left;
      }

  module _ (present : new.present ≡ synced old.present) (earlier : new.earlier ≡ moments old) where
    -- after a sync that found a write pending
    shows : (image : List ℕ) → IsLeft new image → image ≡ shown old.present
    shows image left = only_shown old.present image (subst (λ (m : Moment). IsImage m image) present left)

    pub held_after_sync : told new ≡ told old
    held_after_sync = ap (λ (m : Moment). Some (shown m)) present

    pub durable_after_sync : IsDurable (told new) (IsLeft new)
    durable_after_sync image left = held_after_sync ∙ ap (λ (bytes : List ℕ). Some bytes) (sym (shows image left))

    pub syncs_to : Syncs told time_of IsLeft IsLeftSince old new
    syncs_to = record {
      later = omega (arith, ap length earlier);
      images = λ image left. subst (IsImage old.present) (sym (shows image left)) (shown_is_image old.present);
      moments = λ time image le left.
          ⊎_elim (λ here. inr (durable_after_sync image here.1)) (λ there. inl (subst (λ (m : List Moment). LeavesSince m time image) earlier there)) left;
    }

-- where no write is pending, a crash leaves what a read gives
pub durable_if_none : (disk : MemoryDisk) → disk.present.pending ≡ [] → IsDurable (told disk) (IsLeft disk)
durable_if_none disk none image left =
    let P : List Pending → Type 0 =
    λ pending. IsImage (record { durable = disk.present.durable; pending = pending }) image → image ≡ after_writes disk.present.durable pending in
    let all : P [] = λ only. only_shown (record { durable = disk.present.durable; pending = [] }) image only in
    ap (λ (bytes : List ℕ). Some bytes) (sym (subst P (sym none) all left))
