-- Before-images that leave the key alone, and what is seen through them.
use Rattle.std.proofs.Common.{◌≡◌, ℕ, zero, suc, Bool, true, false, List, [], ◌∷◌, ◌++◌, get_or}
use Rattle.std.proofs.Common.{replicate, Option, None, Some, refl, sym, ap, ◌∙◌, cond, subst, inl, inr}
use Rattle.std.specs.Prelude.{◌==◌}
use Rattle.std.specs.Cmp.{tied_itself}
use Rattle.std.specs.Ordering.{is_eq}
use Rattle.std.proofs.Math.ListN.{set}
use Rattle.std.proofs.lemmas.Bool.{cases_eq}
use Rattle.std.proofs.lemmas.List.{get_or-set_other}
use Rattle.hy_value.specs.declared.Value.{Value}
use Rattle.hy_value.specs.Order.{value_cmp}
use Rattle.hy_value.specs.TotalOrder.{values_total}
use Rattle.hy_stamp.specs.declared.Viewer.{Viewer}
use Rattle.hy_bound.specs.Predicate.{column_of}
use Rattle.hy_chain.specs.Chains.{Undo, marked, own_image, seen, stamped, stops, without_own}
use Rattle.hy_chain.specs.Pruning.{alone, joined, by_fate, pruned_behind}
use Rattle.hy_prune.specs.declared.Cover.{Cover}
use Rattle.hy_prune.specs.declared.Fate.{Fate}
use Rattle.hy_prune.specs.declared.Fate.TheVariants.{Keep, Merge, Drop}
use Rattle.hy_prune.specs.Fates.{fate_of}
use Rattle.hy_undo.specs.declared.version.Version.{Version}
use Rattle.hy_undo.specs.Images.{Image, old_or, put_back, older_or, with_older, before, both}
use Rattle.hy_undo.specs.Places.{Place, sees, cell_of}
use Rattle.hy_undo.specs.Steps.{IsBlankUnused}
use Rattle.hy_chunk.specs.Keyed.{SameKey, SparesKey, SpareKeys}
use Rattle.hy_chunk.specs.Noting.{change_noted, changes_noted, own_or_blank}

abbrev pub Chains : Type 0
Chains = List (List (Undo Image))

-- what is put back has the same key
pub put_back_spares : (row : List Value) (noted : List (Option Value)) (key : ℕ) → get_or noted key None ≡ None
    → column_of (put_back row noted) key ≡ column_of row key
put_back_spares [] noted key e = refl
put_back_spares (value ∷ row) [] key e = refl
put_back_spares (value ∷ row) (old ∷ noted) zero e = ap (old_or value) e
put_back_spares (value ∷ row) (old ∷ noted) (suc key) e = put_back_spares row noted key e

-- and so has what is seen
pub seen_spares : (key : ℕ) (viewer : Viewer) (version : Version) (chain : List (Undo Image)) → SparesKey key chain
    → column_of (seen before viewer version chain).row key ≡ column_of version.row key
seen_spares key viewer version [] s = refl
seen_spares key viewer version (undo ∷ older) s =
    elim (stops viewer undo.stamp.mark)
    as (λ (b : Bool). column_of (cond b version (seen before viewer (before undo.image version) older)).row key ≡ column_of version.row key) [
      | true ↦ refl
      | false ↦ seen_spares key viewer (before undo.image version) older s.1 ∙ put_back_spares version.row undo.image.values key s.0
    ]

merged_spares : (newer older : List (Option Value)) (key : ℕ) → get_or newer key None ≡ None → get_or older key None ≡ None
    → get_or (with_older newer older) key None ≡ None
merged_spares [] older key n o = o
merged_spares (x ∷ newer) [] key n o = n
merged_spares (x ∷ newer) (y ∷ older) zero n o = ap (older_or x) o ∙ n
merged_spares (x ∷ newer) (y ∷ older) (suc key) n o = merged_spares newer older key n o

fate_spares : (key : ℕ) (fate : Fate) (kept merged dropped : List (Undo Image)) → SparesKey key kept → SparesKey key merged → SparesKey key dropped
    → SparesKey key (by_fate fate kept merged dropped)
fate_spares key Keep kept merged dropped k m d = k
fate_spares key Merge kept merged dropped k m d = m
fate_spares key Drop kept merged dropped k m d = d

pub pruned_spares : (key : ℕ) (cover : Cover) (kept : Option (Undo Image)) (chain : List (Undo Image)) → SparesKey key (alone kept ++ chain)
    → SparesKey key (pruned_behind both cover kept chain)
pruned_spares key cover None [] s = s
pruned_spares key cover (Some top) [] s = s
pruned_spares key cover None (undo ∷ chain) s =
    fate_spares key (fate_of cover None undo.stamp.mark)
    (pruned_behind both cover (Some undo) chain) (pruned_behind both cover (Some undo) chain) (pruned_behind both cover None chain)
    (pruned_spares key cover (Some undo) chain s) (pruned_spares key cover (Some undo) chain s) (pruned_spares key cover None chain s.1)
pruned_spares key cover (Some top) (undo ∷ chain) s =
    let merged : Undo Image = joined both top undo in
    fate_spares key (fate_of cover (Some top.stamp.mark) undo.stamp.mark)
    (top ∷ pruned_behind both cover (Some undo) chain) (pruned_behind both cover (Some merged) chain) (pruned_behind both cover (Some top) chain)
    (s.0, pruned_spares key cover (Some undo) chain s.1)
    (pruned_spares key cover (Some merged) chain (merged_spares top.image.values undo.image.values key s.0 s.1.0, s.1.1))
    (pruned_spares key cover (Some top) chain (s.0, s.1.1))

pub stamped_spares : (key id time : ℕ) (chain : List (Undo Image)) → SparesKey key chain → SparesKey key (stamped id time chain)
stamped_spares key id time [] s = tt
stamped_spares key id time (undo ∷ chain) s =
    elim (undo.stamp.mark == id) as (λ (b : Bool). SparesKey key (cond b (marked time undo) undo ∷ chain)) [
      | true ↦ s
      | false ↦ s
    ]

pub without_spares : (key id : ℕ) (chain : List (Undo Image)) → SparesKey key chain → SparesKey key (without_own id chain)
without_spares key id [] s = tt
without_spares key id (undo ∷ chain) s =
    elim (undo.stamp.mark == id) as (λ (b : Bool). SparesKey key (cond b chain (undo ∷ chain))) [
      | true ↦ s.1
      | false ↦ s
    ]

pub own_spares : (key id : ℕ) (chain : List (Undo Image)) (image : Image) → SparesKey key chain → Some image ≡ own_image id chain
    → get_or image.values key None ≡ None
own_spares key id [] image s some = absurd (cc)
own_spares key id (undo ∷ chain) image s some =
    elim (undo.stamp.mark == id) as (λ (b : Bool). Some image ≡ cond b (Some undo.image) None → get_or image.values key None ≡ None) [
      | true ↦ λ e. let same : image ≡ undo.image = cc in ap (λ (x : Image). get_or x.values key None) same ∙ s.0
      | false ↦ λ e. absurd (cc)
    ] some

pub blank_at : (width key : ℕ) → ◌≡◌ {A = Option Value} (get_or (replicate width None) key None) None
blank_at zero key = refl
blank_at (suc width) zero = refl
blank_at (suc width) (suc key) = blank_at width key

pub taken_spares : (key width id : ℕ) (chain : List (Undo Image)) → SparesKey key chain → get_or (own_or_blank width id chain).values key None ≡ None
taken_spares key width id [] s = blank_at width key
taken_spares key width id (undo ∷ chain) s =
    elim (undo.stamp.mark == id)
    as (λ (b : Bool). get_or (cond b undo.image (record { values = replicate width None; live = true })).values key None ≡ None) [
      | true ↦ s.0
      | false ↦ blank_at width key
    ]

unchanged : (old new : Value) (noted : Option Value) → new ≡ old → change_noted old new noted ≡ noted
unchanged old new noted e =
    ap (λ (b : Bool). cond b noted (older_or (Some old) noted))
    (ap is_eq (ap (λ (v : Value). value_cmp old v) e ∙ tied_itself values_total old))

-- nothing is noted of a key that stays
pub noted_spares : (olds news : List Value) (noted : List (Option Value)) (key : ℕ) → column_of news key ≡ column_of olds key → get_or noted key None ≡ None
    → get_or (changes_noted olds news noted) key None ≡ None
noted_spares [] news noted key s e = e
noted_spares (old ∷ olds) [] noted key s e = e
noted_spares (old ∷ olds) (new ∷ news) [] key s e = refl
noted_spares (old ∷ olds) (new ∷ news) (x ∷ noted) zero s e = unchanged old new x s ∙ e
noted_spares (old ∷ olds) (new ∷ news) (x ∷ noted) (suc key) s e = noted_spares olds news noted key s e

-- the chains, when one changes
spares_put : (key : ℕ) (chains : Chains) (place : ℕ) (chain : List (Undo Image)) → SparesKey key chain
    → SparesKey key (get_or (set chains place chain) place [])
spares_put key [] place chain s = tt
spares_put key (x ∷ chains) zero chain s = s
spares_put key (x ∷ chains) (suc place) chain s = spares_put key chains place chain s

pub spare_changed : (key : Option ℕ) (old new : Chains) (place : ℕ) (chain : List (Undo Image)) → new ≡ set old place chain → SpareKeys key old
    → ((k : ℕ) → key ≡ Some k → SparesKey k (get_or old place []) → SparesKey k chain) → SpareKeys key new
spare_changed None old new place chain is was does = tt
spare_changed (Some key) old new place chain is was does = λ k.
    subst (λ (cs : Chains). SparesKey key (get_or cs k [])) (sym is) (elim (cases_eq k place) [
      | inl same ↦ subst (λ (j : ℕ). SparesKey key (get_or (set old place chain) j [])) (sym same) (spares_put key old place chain (does key refl (was place)))
      | inr other ↦ subst (SparesKey key) (sym (get_or-set_other old place k chain [] other)) (was k)
    ])

pub spares_blank : (key : Option ℕ) (n : ℕ) (chains : Chains) → chains ≡ replicate n [] → SpareKeys key chains
spares_blank None n chains is = tt
spares_blank (Some key) n chains is = λ k. subst (λ (cs : Chains). SparesKey key (get_or cs k [])) (sym is) (at n k)
  where
    at : (m j : ℕ) → SparesKey key (get_or (replicate m []) j [])
    at zero j = tt
    at (suc m) zero = tt
    at (suc m) (suc j) = at m j

pub spares_at : (key : Option ℕ) (chains : Chains) (k : ℕ) → key ≡ Some k → SpareKeys key chains → (place : ℕ) → SparesKey k (get_or chains place [])
spares_at None chains k e s place = absurd (cc)
spares_at (Some key) chains k e s place = let same : key ≡ k = cc in subst (λ (j : ℕ). SparesKey j (get_or chains place [])) same (s place)

pub same_at : (key : Option ℕ) (row other : List Value) (k : ℕ) → key ≡ Some k → SameKey key row other → column_of row k ≡ column_of other k
same_at None row other k e s = absurd (cc)
same_at (Some key) row other k e s = let same : key ≡ k = cc in subst (λ (j : ℕ). column_of row j ≡ column_of other j) same s

-- an undo leaves the key
pub undone_same_key : (key : Option ℕ) (chains : Chains) (place id : ℕ) (image : Image) (version : Version) (row : List Value) → SpareKeys key chains
    → Some image ≡ own_image id (get_or chains place []) → version.row ≡ put_back row image.values → SameKey key version.row row
undone_same_key None chains place id image version row s some is = tt
undone_same_key (Some key) chains place id image version row s some is =
    ap (λ (r : List Value). column_of r key) is ∙ put_back_spares row image.values key (own_spares key id (get_or chains place []) image (s place) some)

-- a row that is seen is at a used position, and has the key in place there
live_row : (live : Bool) (row other : List Value) → cond live (Some row) None ≡ Some other → (live ≡ true) × (row ≡ other)
live_row true row other e = (refl, cc)
live_row false row other e = absurd (cc)

seen_used : (viewer : Viewer) (p : Place) (row : List Value) → IsBlankUnused p → sees viewer p ≡ Some row → (b : Bool) → p.used ≡ b → p.used ≡ true
seen_used viewer p row u e true is = is
seen_used viewer p row u e false is =
    let none : sees viewer p ≡ None =
    ap (λ (c : List (Undo Image)). cell_of (seen before viewer p.version c)) (u.chain is) ∙ ap (λ (b : Bool). cond b (Some p.version.row) None) (u.row is) in
    absurd (none_some row (sym none ∙ e))
  where
    none_some : (r : List Value) → ◌≡◌ {A = Option (List Value)} None (Some r) → ⊥
    none_some r x = cc

pub seen_entry : (key : ℕ) (viewer : Viewer) (p : Place) (row : List Value) → SparesKey key p.chain → IsBlankUnused p → sees viewer p ≡ Some row
    → (p.used ≡ true) × (column_of row key ≡ column_of p.version.row key)
seen_entry key viewer p row s u e =
    let v : Version = seen before viewer p.version p.chain in (
      seen_used viewer p row u e p.used refl,
      ap (λ (r : List Value). column_of r key) (sym (live_row v.live v.row row e).1) ∙ seen_spares key viewer p.version p.chain s,
    )
