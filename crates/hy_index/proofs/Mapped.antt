-- Entries as they are kept, and as contracts see them.
use Rattle.std.proofs.Common.{◌≡◌, ℕ, suc, ◌+◌, Bool, true, List, [], ◌∷◌, ◌++◌, take, drop, map}
use Rattle.std.proofs.Common.{refl, sym, ap, ◌∙◌, cond, arith, subst}
use Rattle.std.specs.List.{prefix_len, insert, remove}
use Rattle.std.specs.List.Sorted.{IsPartitionedBy}
use Rattle.std.proofs.Math.ListN.{get_or-map}
use Rattle.std.proofs.lemmas.List.{length-map, map-append, take-map, drop-map}
use Rattle.hy_value.specs.declared.Value.{Value}
use Rattle.hy_index.specs.declared.ascending.Entry.{Entry}
use Rattle.hy_index.specs.Entries.{below_entry, with_entry}
use Rattle.hy_index.specs.Keyed.{entry_of}
use Rattle.hy_index.proofs.Edits.{put_in}

pub prefix_map : {X Y : Type 0} (of : X → Y) (p : Y → Bool) (xs : List X) → prefix_len p (map of xs) ≡ prefix_len (λ x. p (of x)) xs
prefix_map of p [] = refl
prefix_map of p (x ∷ xs) = ap (λ (n : ℕ). cond (p (of x)) (1 + n) 0) (prefix_map of p xs)

pub parted_map : {X Y : Type 0} (of : X → Y) (p : Y → Bool) (xs : List X) → IsPartitionedBy p (map of xs) → IsPartitionedBy (λ x. p (of x)) xs
parted_map {X} {Y} of p xs parted i j d le l h =
    subst (λ (y : Y). p y ≡ true) (get_or-map of xs i d)
    (parted i j (of d) le (omega (arith, l, length-map xs of)) (ap p (get_or-map of xs j d) ∙ h))

pub map_insert : {X Y : Type 0} (of : X → Y) (xs : List X) (n : ℕ) (x : X) → map of (insert xs n x) ≡ insert (map of xs) n (of x)
map_insert {X} {Y} of xs n x =
    map-append of (take n xs) (x ∷ drop n xs)
    ∙ (ap (λ (ys : List Y). ys ++ of x ∷ map of (drop n xs)) (sym (take-map of n xs))
    ∙ ap (λ (ys : List Y). take n (map of xs) ++ of x ∷ ys) (sym (drop-map of n xs)))

pub map_remove : {X Y : Type 0} (of : X → Y) (xs : List X) (n : ℕ) → map of (remove xs n) ≡ remove (map of xs) n
map_remove {X} {Y} of xs n =
    map-append of (take n xs) (drop (suc n) xs)
    ∙ (ap (λ (ys : List Y). ys ++ map of (drop (suc n) xs)) (sym (take-map of n xs))
    ∙ ap (λ (ys : List Y). take n (map of xs) ++ ys) (sym (drop-map of (suc n) xs)))

-- an entry that is put behind the lower ones is where it belongs
pub put_kept : {K : Type 0} (value : K → Value) (xs : List (Entry K)) (key : K) (pos : ℕ)
    → map (entry_of value) (insert xs (prefix_len (below_entry (value key) pos) (map (entry_of value) xs)) (record { key = key; pos = pos }))
    ≡ with_entry (record { key = value key; pos = pos }) (map (entry_of value) xs)
put_kept value xs key pos =
    map_insert (entry_of value) xs (prefix_len (below_entry (value key) pos) (map (entry_of value) xs)) (record { key = key; pos = pos })
    ∙ put_in (record { key = value key; pos = pos }) (map (entry_of value) xs)

-- the positions are those of the entries that contracts see
pub same_positions : {K : Type 0} (value : K → Value) (xs : List (Entry K)) → map (λ e. e.pos) xs ≡ map (λ e. e.pos) (map (entry_of value) xs)
same_positions value [] = refl
same_positions value (x ∷ xs) = ap (λ (ns : List ℕ). x.pos ∷ ns) (same_positions value xs)
