-- The positions that the index finds.
use Rattle.std.proofs.Common.{◌≡◌, ℕ, zero, suc, ◌<◌, true, false, List, [], ◌∷◌, length, get_or}
use Rattle.std.proofs.Common.{map, Option, None, Some, refl, sym, ap, ◌∙◌, subst, arith, inl, inr}
use Rattle.std.specs.Prelude.{Contains, filter}
use Rattle.std.specs.List.{AllByRecursion}
use Rattle.std.proofs.lemmas.Bool.{cases_lt, both_ways, eqb-true}
use Rattle.std.proofs.lemmas.List.{length-map, get_or_past}
use Rattle.hy_value.specs.declared.Value.{Value}
use Rattle.hy_value.specs.declared.Kind.{Kind}
use Rattle.hy_index.specs.Entries.{IndexEntry, entry, has_key}
use Rattle.hy_index.specs.Indexed.{Indexed}
use Rattle.hy_index.specs.Members.{FindsKeys}
use Rattle.hy_stamp.specs.declared.Viewer.{Viewer}
use Rattle.hy_bound.specs.Predicate.{column_of}
use Rattle.hy_undo.specs.Stock.{Stock}
use Rattle.hy_undo.specs.Images.{Image}
use Rattle.hy_undo.specs.Places.{Place, sees}
use Rattle.hy_chunk.specs.Fields.{nth}
use Rattle.hy_chunk.specs.Keyed.{AreFound, HasKeys, HaveUsed, IsIndexed, SpareKeys, is_key_of}
use Rattle.hy_chunk.specs.Sound.{Sound}
use Rattle.hy_chunk.proofs.Places.{Fields, at, all, length_all, nth_is, within_rows}
use Rattle.hy_chunk.proofs.Spared.{seen_entry}

pub mapped_at : {A B : Type 0} (g : A → B) (xs : List A) (k : ℕ) (x : A) → get_or (map g xs) k (g x) ≡ g (get_or xs k x)
mapped_at g [] k x = refl
mapped_at g (y ∷ xs) zero x = refl
mapped_at g (y ∷ xs) (suc k) x = mapped_at g xs k x

pub contains_map : {A B : Type 0} (g : A → B) (xs : List A) (x : A) → Contains xs x → Contains (map g xs) (g x)
contains_map g xs x c = (c.0, (let l = c.1 in omega (arith, l, length-map xs g)), mapped_at g xs c.0 x ∙ ap g c.2)

pub each_by : {A : Type 0} (has : A → Type 0) (xs : List A) → ((x : A) → Contains xs x → has x) → AllByRecursion has xs
each_by has [] by = tt
each_by has (x ∷ xs) by = (by x (zero, omega arith, refl), each_by has xs (λ y c. by y (suc c.0, (let l = c.1 in omega (arith, l)), c.2)))

pub each_map : {A B : Type 0} (g : A → B) (has : B → Type 0) (xs : List A) → AllByRecursion (λ x. has (g x)) xs → AllByRecursion has (map g xs)
each_map g has [] all = tt
each_map g has (x ∷ xs) all = (all.0, each_map g has xs all.1)

-- which column is the key
pub key_is : (key : Option ℕ) (column : ℕ) → is_key_of key column ≡ true → key ≡ Some column
key_is None column e = absurd (both_ways false refl e)
key_is (Some key) column e = ap (λ (k : ℕ). Some k) (eqb-true key column e)

module _ (f : Fields) (kinds : List Kind) (spare : Stock) (seen_places : List Place) (view : all f ≡ seen_places)
    (s : Sound kinds f.rows f.live f.used f.deaths f.chains spare) (key : Option ℕ) (column : ℕ) (is_key : key ≡ Some column) (index : Indexed)
    (indexed : IsIndexed key f.rows f.used index) (spared : SpareKeys key f.chains) where
  keys : HasKeys column f.rows f.used index
  keys = subst (λ (k : Option ℕ). IsIndexed k f.rows f.used index) is_key indexed

  spares : SpareKeys (Some column) f.chains
  spares = subst (λ (k : Option ℕ). SpareKeys k f.chains) is_key spared

  within : (place : ℕ) → get_or f.used place false ≡ true → place < length seen_places
  within place u = elim (cases_lt place (length f.used)) [
    | inl less ↦ omega (arith, less, s.uses, length_all f, ap length view)
    | inr past ↦ absurd (both_ways (get_or f.used place false) (get_or_past f.used place false past) u)
  ]

  -- a row that is seen is at a used position, with the key in place there
  pub stays : (viewer : Viewer) (place : ℕ) (row : List Value) → place < length seen_places → sees viewer (nth seen_places place) ≡ Some row
      → ((nth seen_places place).used ≡ true) × (column_of row column ≡ column_of (nth seen_places place).version.row column)
  stays viewer place row l sees_row =
      let there : nth seen_places place ≡ at f place = nth_is f seen_places place view l in
      let seen = seen_entry column viewer (at f place) row (spares place) (s.each place (within_rows f seen_places place view l)).unused
      (ap (sees viewer) (sym there) ∙ sees_row) in
      (ap (λ (p : Place). p.used) there ∙ seen.0, seen.1 ∙ ap (λ (p : Place). column_of p.version.row column) (sym there))

  module _ (finds : FindsKeys) (value : Value) (found : List ℕ) (is : found ≡ map (λ (e : IndexEntry). e.pos) (filter (has_key value) index.entries)) where
    pub found_within : AllByRecursion (λ (place : ℕ). place < length seen_places) found
    found_within = subst (λ (ps : List ℕ). AllByRecursion (λ (place : ℕ). place < length seen_places) ps) (sym is)
        (each_map (λ (e : IndexEntry). e.pos) (λ (place : ℕ). place < length seen_places) (filter (has_key value) index.entries)
        (each_by (λ (e : IndexEntry). e.pos < length seen_places) (filter (has_key value) index.entries) (λ e c.
        within e.pos ((keys.exact e).0 ((finds value e index.entries).0 c).0).0)))

    pub found_used : HaveUsed column value seen_places found
    found_used place l used same =
        let there : nth seen_places place ≡ at f place = nth_is f seen_places place view l in
        let here : Contains index.entries (entry value place) = (keys.exact (entry value place)).1
        (sym (ap (λ (p : Place). p.used) there) ∙ used, sym same ∙ ap (λ (p : Place). column_of p.version.row column) there) in
        subst (λ (ps : List ℕ). Contains ps place) (sym is)
        (contains_map (λ (e : IndexEntry). e.pos) (filter (has_key value) index.entries) (entry value place)
        ((finds value (entry value place) index.entries).1 (here, refl)))

    pub found_all : AreFound column value seen_places found
    found_all viewer place row l sees_row same =
        let here = stays viewer place row l sees_row in
        found_used place l here.0 (sym here.1 ∙ same)
