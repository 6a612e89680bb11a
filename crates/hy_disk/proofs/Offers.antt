-- The images that a disk in memory offers: how the list of them grows, and that a crash may leave each.
use Rattle.std.proofs.Common.{◌≡◌, inl, inr, ⊎_elim, ℕ, ◌+◌, ◌-◌, ◌<◌, ◌≤◌, Bool, true, false, if◌then◌else◌, nat_lt, nat_le, List, [], ◌∷◌, ◌++◌, length}
use Rattle.std.proofs.Common.{replicate, Vec, take, get_or, refl, sym, ◌∙◌, ap, arith, append_assoc}
use Rattle.std.specs.List.{AllByRecursion}
use Rattle.std.specs.declared.alloc.Global.{Global}
use Rattle.std.proofs.lemmas.List.{length-replicate, map-append, take_more}
use Rattle.std.proofs.lemmas.Bool.{leb-true}
use Rattle.std.proofs.lemmas.Bool.Decides.{nat_tests}
use Rattle.hy_disk.specs.Bytes.{overwritten}
use Rattle.hy_disk.specs.Memory.{Pending, Moment, shown, wrote, synced, IsImage, LeavesSince}
use Rattle.hy_disk.specs.Offered.{each_items, varied_of, written_of, ways_of, offered_since, StandsAt}
use Rattle.hy_disk.specs.Ranges.{length-overwritten, same_outside}

-- one image more is varied
pub varied-push : (images : List (List ℕ)) (image : List ℕ) (at : ℕ) (bytes : List ℕ)
    → varied_of (images ++ image ∷ []) at bytes
    ≡ varied_of images at bytes ++ image ∷ overwritten image at bytes ∷ overwritten image at (replicate (length bytes) 255) ∷ []
varied-push [] image at bytes = refl
varied-push (first ∷ images) image at bytes =
    ap (λ (rest : List (List ℕ)). first ∷ overwritten first at bytes ∷ overwritten first at (replicate (length bytes) 255) ∷ rest)
    (varied-push images image at bytes)

-- one vector more
each-push : (vectors later : List (Vec ℕ Global)) (vector : Vec ℕ Global)
    → later ≡ vectors ++ vector ∷ [] → each_items later ≡ each_items vectors ++ vector.items ∷ []
each-push vectors later vector is = ap each_items is ∙ map-append (λ (v : Vec ℕ Global). v.items) vectors (vector ∷ [])

-- the ways of one image more are pushed
pub varied_more : (images : List (Vec ℕ Global)) (i : ℕ) (image : Vec ℕ Global) (at : ℕ) (bytes : List ℕ)
    (before one two three : List (Vec ℕ Global)) (old new blank : Vec ℕ Global)
    → i < length images → image ≡ get_or images i image → each_items before ≡ varied_of (each_items (take i images)) at bytes
    → one ≡ before ++ old ∷ [] → two ≡ one ++ new ∷ [] → three ≡ two ++ blank ∷ []
    → old.items ≡ image.items → new.items ≡ overwritten image.items at bytes → blank.items ≡ overwritten image.items at (replicate (length bytes) 255)
    → each_items three ≡ varied_of (each_items (take (i + 1) images)) at bytes
varied_more images i image at bytes before one two three old new blank less is so_far first second third old_is new_is blank_is =
    let taken : each_items (take (i + 1) images) ≡ each_items (take i images) ++ image.items ∷ [] =
    each-push (take i images) _ image (take_more images i image less ∙ ap (λ (v : Vec ℕ Global). take i images ++ v ∷ []) (sym is)) in
    each-push two three blank third
    ∙ ap (λ (xs : List (List ℕ)). xs ++ blank.items ∷ [])
    (each-push one two new second ∙ ap (λ (xs : List (List ℕ)). xs ++ new.items ∷ []) (each-push before one old first))
    ∙ append_assoc (each_items before ++ old.items ∷ []) (new.items ∷ []) (blank.items ∷ [])
    ∙ append_assoc (each_items before) (old.items ∷ []) (new.items ∷ blank.items ∷ [])
    ∙ ap (λ (xs : List (List ℕ)). xs ++ old.items ∷ new.items ∷ blank.items ∷ []) so_far
    ∙ ap (λ (x : List ℕ). varied_of (each_items (take i images)) at bytes ++ x ∷ new.items ∷ blank.items ∷ []) old_is
    ∙ ap (λ (x : List ℕ). varied_of (each_items (take i images)) at bytes ++ image.items ∷ x ∷ blank.items ∷ []) new_is
    ∙ ap (λ (x : List ℕ). varied_of (each_items (take i images)) at bytes ++ image.items ∷ overwritten image.items at bytes ∷ x ∷ []) blank_is
    ∙ sym (varied-push (each_items (take i images)) image.items at bytes)
    ∙ ap (λ (xs : List (List ℕ)). varied_of xs at bytes) (sym taken)

-- the images of one moment more are offered
pub offered_more : (moment : Moment) (earlier : List Moment) (since time : ℕ) (before after ways : List (List ℕ))
    → time ≡ length earlier → before ≡ offered_since earlier since → ways ≡ ways_of moment.durable moment.pending
    → after ≡ before ++ (if nat_le since time then ways else []) → after ≡ offered_since (moment ∷ earlier) since
offered_more moment earlier since time before after ways count so_far are is =
    is
    ∙ ap (λ (xs : List (List ℕ)). xs ++ (if nat_le since time then ways else [])) so_far
    ∙ ap (λ (n : ℕ). offered_since earlier since ++ (if nat_le since n then ways else [])) count
    ∙ ap (λ (xs : List (List ℕ)). offered_since earlier since ++ (if nat_le since (length earlier) then xs else [])) are

all_behind : {A : Type 0} (P : A → Type 0) (xs ys : List A) → AllByRecursion P xs → AllByRecursion P ys → AllByRecursion P (xs ++ ys)
all_behind P [] ys first second = second
all_behind P (x ∷ xs) ys first second = (first.0, all_behind P xs ys first.1 second)

all_weaker : {A : Type 0} (P Q : A → Type 0) (xs : List A) → ((x : A) → P x → Q x) → AllByRecursion P xs → AllByRecursion Q xs
all_weaker P Q [] weaker all = tt
all_weaker P Q (x ∷ xs) weaker all = (weaker x all.0, all_weaker P Q xs weaker all.1)

all_either : {A : Type 0} (P : A → Type 0) (b : Bool) (xs ys : List A) → AllByRecursion P xs → AllByRecursion P ys → AllByRecursion P (if b then xs else ys)
all_either P true xs ys first second = first
all_either P false xs ys first second = second

all_where : {A : Type 0} (P : A → Type 0) (b : Bool) (xs : List A) → (b ≡ true → AllByRecursion P xs) → AllByRecursion P (if b then xs else [])
all_where P true xs all = all refl
all_where P false xs all = tt

module _ (moment : Moment) (at : ℕ) (bytes : List ℕ) where
  -- an image of the moment before, untouched
  untouched : (image : List ℕ) → IsImage moment image → IsImage (wrote moment at bytes) image
  untouched image left = record {
    no_shorter = left.no_shorter;
    no_longer = omega (arith, left.no_longer, length-overwritten (shown moment) at bytes);
    agrees = λ offset less outside. left.agrees offset less outside.1;
  }

  -- with other bytes in the range
  touched : (image other : List ℕ) → length other ≡ length bytes → IsImage moment image → IsImage (wrote moment at bytes) (overwritten image at other)
  touched image other long left = record {
    no_shorter = omega (arith, left.no_shorter, length-overwritten image at other);
    no_longer = omega (arith, long, left.no_longer, length-overwritten image at other, length-overwritten (shown moment) at bytes);
    agrees = λ offset less outside.
        same_outside image at other offset (omega (arith, less, left.no_shorter))
        (⊎_elim (λ (low : offset < at). inl low) (λ (high : at + length bytes ≤ offset). inr (omega (arith, high, long))) outside.0)
        ∙ left.agrees offset less outside.1;
  }

  varied_left : (images : List (List ℕ)) → AllByRecursion (IsImage moment) images
      → AllByRecursion (IsImage (wrote moment at bytes)) (varied_of images at bytes)
  varied_left [] all = tt
  varied_left (image ∷ images) all =
      let blank = touched image (replicate (length bytes) 255) (length-replicate (length bytes) 255) all.0 in
      (untouched image all.0, (touched image bytes refl all.0, (blank, varied_left images all.1)))

  written_left : (images : List (List ℕ)) → AllByRecursion (IsImage moment) images
      → AllByRecursion (IsImage (wrote moment at bytes)) (written_of images at bytes)
  written_left [] all = tt
  written_left (image ∷ images) all = (touched image bytes refl all.0, written_left images all.1)

-- a crash at the moment may leave each way
ways_left : (durable : List ℕ) (pending : List Pending) → AllByRecursion (IsImage (record { durable = durable; pending = pending })) (ways_of durable pending)
ways_left durable [] = (record { no_shorter = omega arith; no_longer = omega arith; agrees = λ offset less outside. refl }, tt)
ways_left durable (write ∷ older) =
    all_either _ (nat_lt (length older) 4) _ _ (varied_left _ write.at write.bytes _ (ways_left durable older))
    (written_left _ write.at write.bytes _ (ways_left durable older))

-- a crash at some moment since the time may have left each image that is offered
pub offered_left : (moments : List Moment) (time : ℕ) → AllByRecursion (LeavesSince moments time) (offered_since moments time)
offered_left [] time = tt
offered_left (moment ∷ earlier) time =
    all_behind _ (offered_since earlier time) _
    (all_weaker _ _ (offered_since earlier time) (λ image there. inr there) (offered_left earlier time))
    (all_where _ (nat_le time (length earlier)) _
    (λ is. all_weaker _ _ _ (λ image here. inl (leb-true time (length earlier) is, here)) (ways_left moment.durable moment.pending)))

-- some are left exactly where not all were taken
same_test : (taken left : ℕ) → left ≡ 4 - taken → nat_lt 0 left ≡ nat_lt taken 4
same_test taken left is = grind (arith, nat_tests)

-- what a replay comes to after a write
module _ (moment : Moment) (bytes later : List ℕ) (ways new_ways : List (List ℕ)) (left new_left : ℕ) (stands : StandsAt moment bytes ways left) where
  pub stands_after_write : (at : ℕ) (from : List ℕ) → later ≡ overwritten bytes at from
      → new_ways ≡ (if nat_lt 0 left then varied_of ways at from else written_of ways at from) → new_left ≡ left - 1
      → StandsAt (wrote moment at from) later new_ways new_left
  stands_after_write at from is are count = record {
    bytes_are = is ∙ ap (λ (b : List ℕ). overwritten b at from) stands.bytes_are;
    ways_are =
        are
        ∙ ap (λ (b : Bool). if b then varied_of ways at from else written_of ways at from) (same_test (length moment.pending) left stands.left_is)
        ∙ ap (λ (xs : List (List ℕ)). if nat_lt (length moment.pending) 4 then varied_of xs at from else written_of xs at from) stands.ways_are;
    left_is = omega (arith, count, stands.left_is);
  }

  pub stands_after_sync : later ≡ bytes → new_ways ≡ bytes ∷ [] → new_left ≡ 4 → StandsAt (synced moment) later new_ways new_left
  stands_after_sync is are count = record {
    bytes_are = is ∙ stands.bytes_are;
    ways_are = are ∙ ap (λ (b : List ℕ). b ∷ []) stands.bytes_are;
    left_is = omega (arith, count);
  }
