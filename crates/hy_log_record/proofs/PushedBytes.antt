-- Pushing the bytes of items one after the other, as a loop does.
use Rattle.std.proofs.Common.{◌≡◌, ℕ, ◌+◌, ◌≤◌, ◌<◌, Bool, true, false, cond, List, [], ◌∷◌, ◌++◌, length, get_or, take, sym, ap, subst, ◌∙◌}
use Rattle.std.specs.Prelude.{filter}
use Rattle.std.specs.List.{flat_map, AllByRecursion}
use Rattle.std.proofs.lemmas.List.{append-nil, take_more, take_all, flat_map_more}
use Rattle.std.proofs.lemmas.List.Elements.{filter_more}

pub all_push : {X : Type 0} (P : X → Type 0) (xs : List X) (x : X) → AllByRecursion P xs → P x → AllByRecursion P (xs ++ x ∷ [])
all_push P [] y h p = (p, tt)
all_push P (x ∷ xs) y h p = (h.0, all_push P xs y h.1 p)

-- so far: the bytes of the first items, each of which has bytes
pub record Pushed {X : Type 0} (bytes_of : X → List ℕ) (Has : X → Type 0) (xs : List X) (old out : List ℕ) : Type 0 where
  pub bytes : out ≡ old ++ flat_map bytes_of xs
  pub has : AllByRecursion Has xs

pub pushed_none : {X : Type 0} (bytes_of : X → List ℕ) (Has : X → Type 0) (old : List ℕ) → Pushed bytes_of Has [] old old
pushed_none bytes_of Has old = record { bytes = sym (append-nil old); has = tt }

pub pushed_one : {X : Type 0} (bytes_of : X → List ℕ) (Has : X → Type 0) (xs : List X) (x : X) (old out next : List ℕ) → Pushed bytes_of Has xs old out
    → next ≡ out ++ bytes_of x → Has x → Pushed bytes_of Has (xs ++ x ∷ []) old next
pushed_one bytes_of Has xs x old out next so_far is has = record {
  bytes = is ∙ ap (λ (bs : List ℕ). bs ++ bytes_of x) so_far.bytes ∙ flat_map_more bytes_of old xs x;
  has = all_push Has xs x so_far.has has;
}

-- one more of a list
pub pushed_more : {X : Type 0} (bytes_of : X → List ℕ) (Has : X → Type 0) (xs : List X) (i : ℕ) (x d : X) (old out next : List ℕ) → i < length xs
    → x ≡ get_or xs i d
    → Pushed bytes_of Has (take i xs) old out → next ≡ out ++ bytes_of x → Has x → Pushed bytes_of Has (take (i + 1) xs) old next
pushed_more {X} bytes_of Has xs i x d old out next lt at so_far is has =
    subst (λ (ys : List X). Pushed bytes_of Has ys old next) (ap (λ (y : X). take i xs ++ y ∷ []) at ∙ sym (take_more xs i d lt))
    (pushed_one bytes_of Has (take i xs) x old out next so_far is has)

pub pushed_all : {X : Type 0} (bytes_of : X → List ℕ) (Has : X → Type 0) (xs : List X) (i : ℕ) (old out : List ℕ) → length xs ≤ i
    → Pushed bytes_of Has (take i xs) old out → Pushed bytes_of Has xs old out
pushed_all {X} bytes_of Has xs i old out le so_far = subst (λ (ys : List X). Pushed bytes_of Has ys old out) (take_all i xs le) so_far

-- one more of a list of which some are kept
pub kept_more : {X : Type 0} (bytes_of : X → List ℕ) (Has : X → Type 0) (keep : X → Bool) (xs : List X) (i : ℕ) (x d : X) (old out next : List ℕ)
    → i < length xs → x ≡ get_or xs i d
    → Pushed bytes_of Has (filter keep (take i xs)) old out → keep x ≡ true → next ≡ out ++ bytes_of x → Has x
    → Pushed bytes_of Has (filter keep (take (i + 1) xs)) old next
kept_more {X} bytes_of Has keep xs i x d old out next lt at so_far keeps is has =
    let e : filter keep (take (i + 1) xs) ≡ filter keep (take i xs) ++ x ∷ [] =
    filter_more keep xs i d lt ∙ ap (λ (y : X). filter keep (take i xs) ++ cond (keep y) (y ∷ []) []) (sym at)
    ∙ ap (λ b. filter keep (take i xs) ++ cond b (x ∷ []) []) keeps in
    subst (λ (ys : List X). Pushed bytes_of Has ys old next) (sym e) (pushed_one bytes_of Has (filter keep (take i xs)) x old out next so_far is has)

pub skipped_more : {X : Type 0} (bytes_of : X → List ℕ) (Has : X → Type 0) (keep : X → Bool) (xs : List X) (i : ℕ) (x d : X) (old out : List ℕ)
    → i < length xs → x ≡ get_or xs i d
    → Pushed bytes_of Has (filter keep (take i xs)) old out → keep x ≡ false → Pushed bytes_of Has (filter keep (take (i + 1) xs)) old out
skipped_more {X} bytes_of Has keep xs i x d old out lt at so_far skips =
    let e : filter keep (take (i + 1) xs) ≡ filter keep (take i xs) =
    filter_more keep xs i d lt ∙ ap (λ (y : X). filter keep (take i xs) ++ cond (keep y) (y ∷ []) []) (sym at)
    ∙ ap (λ b. filter keep (take i xs) ++ cond b (x ∷ []) []) skips ∙ append-nil (filter keep (take i xs)) in
    subst (λ (ys : List X). Pushed bytes_of Has ys old out) (sym e) so_far
