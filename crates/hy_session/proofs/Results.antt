-- What holds of results, and elements of lists.
use Rattle.std.proofs.Common.{◌≡◌, ℕ, ◌<◌, ◌≤◌, Bor, List, Option, None, Some, Result, Ok, Err, true, false, length, refl, sym, subst}
use Rattle.std.specs.Prelude.{IfOk, IfSome, OnErr, OnOk, nat_lt, slice_get, slice_index_or}
use Rattle.std.specs.Option.{is_some, option_copied}
use Rattle.std.proofs.lemmas.Bool.{ltb-false, ltb-true}
use Rattle.std.proofs.lemmas.Option.{slice_get_past, slice_get_read}

-- ---- results

pub ok_maps : {A E : Type 0} (result : Result A E) (P Q : A → Type 0) → ((x : A) → P x → Q x) → IfOk result P → IfOk result Q
ok_maps (Ok x) P Q step h = step x h
ok_maps (Err e) P Q step h = h

pub ok_gives : {A E : Type 0} (result : Result A E) (P Q : Type 0) → (P → Q) → OnOk result P → OnOk result Q
ok_gives (Ok x) P Q step h = step h
ok_gives (Err e) P Q step h = h

pub err_gives : {A E : Type 0} (result : Result A E) (P Q : Type 0) → (P → Q) → OnErr result P → OnErr result Q
err_gives (Ok x) P Q step h = h
err_gives (Err e) P Q step h = step h

pub ok_holds : {A E : Type 0} (result : Result A E) (P : Type 0) → P → OnOk result P
ok_holds (Ok x) P h = h
ok_holds (Err e) P h = tt

-- ---- elements of lists

pub got : {A : Type 0} (xs ys : List A) (i j : ℕ) (x : A) → ys ≡ xs → i ≡ j → true ≡ nat_lt i (length ys) → x ≡ slice_index_or ys i x → slice_get xs j ≡ Some x
got {A = A} xs ys i j x same at there is =
    let within : i < length ys = ltb-true i (length ys) (sym there) in
    subst (λ (k : ℕ). slice_get xs k ≡ Some x) at (subst (λ (l : List A). slice_get l i ≡ Some x) same (slice_get_read ys (length ys) i x refl within is))

pub got_none : {A : Type 0} (xs ys : List A) (i j : ℕ) → ys ≡ xs → i ≡ j → false ≡ nat_lt i (length ys) → slice_get xs j ≡ None
got_none {A = A} xs ys i j same at none =
    let past : length ys ≤ i = ltb-false i (length ys) (sym none) in
    subst (λ (k : ℕ). slice_get xs k ≡ None) at (subst (λ (l : List A). slice_get l i ≡ None) same (slice_get_past ys i past))

-- what is looked up is the element that is there, if one is
pub got_if : {A : Type 0} (xs ys : List A) (i j : ℕ) (found : Option (Bor A)) → ys ≡ xs → i ≡ j → is_some found ≡ nat_lt i (length ys)
    → IfSome found (λ x. x.now ≡ slice_index_or ys i x.now) → slice_get xs j ≡ option_copied found
got_if {A = A} xs ys i j None same at none is = got_none xs ys i j same at none
got_if {A = A} xs ys i j (Some x) same at there is = got xs ys i j x.now same at there is
