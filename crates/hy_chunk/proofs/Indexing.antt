-- The index of the keys, when a position has another row or becomes unused.
use Rattle.std.proofs.Common.{◌≡◌, ◌≢◌, ℕ, ◌+◌, ◌<◌, ◌≤◌, Bool, true, false, List, [], ◌∷◌, zero, suc, length}
use Rattle.std.proofs.Common.{get_or, Option, None, Some, sym, ap, ◌∙◌, cond, subst, arith, inl, inr}
use Rattle.std.specs.Prelude.{not, Contains, count_by}
use Rattle.std.proofs.Math.ListN.{set}
use Rattle.std.proofs.lemmas.Bool.{cases_eq}
use Rattle.std.proofs.lemmas.List.{length-set, get_or-set_same, get_or-set_other, set-set}
use Rattle.std.proofs.lemmas.List.Sums.{sum_by-set, get_or-le-sum_by}
use Rattle.hy_value.specs.declared.Value.{Value}
use Rattle.hy_value.specs.declared.Value.TheVariants as values
use Rattle.hy_value.specs.declared.Kind.{Kind}
use Rattle.hy_value.specs.declared.Kind.TheVariants as kinds
use Rattle.hy_column.specs.Cells.{FitsKind}
use Rattle.hy_index.specs.Kinds.{IsOfKind}
use Rattle.hy_chunk.specs.Sound.{FitsRow}
use Rattle.hy_bound.specs.Predicate.{column_of}
use Rattle.hy_index.specs.Entries.{IndexEntry, entry, with_entry, without_entry}
use Rattle.hy_index.specs.Indexed.{Indexed}
use Rattle.hy_index.specs.Members.{AddsOne, TakesOne}
use Rattle.hy_chunk.specs.Keyed.{IsEntry, HasKeys, IsIndexed, SameKey}

not_both : (b : Bool) → b ≡ true → b ≡ false → ⊥
not_both true t f = cc
not_both false t f = cc

same_entry : (e other : IndexEntry) → e.key ≡ other.key → e.pos ≡ other.pos → e ≡ other
same_entry e other k p = λ i. record { key = k i; pos = p i }

module _ (key : ℕ) (rows : List (List Value)) (used : List Bool) (place : ℕ) where
  -- its entry is taken out
  module _ (takes : TakesOne) (index now : Indexed) (within : place < length used) (was : HasKeys key rows used index) (there : get_or used place false ≡ true)
      (is : now.entries ≡ without_entry (entry (column_of (get_or rows place []) key) place) index.entries) (more : index.room + 1 ≤ now.room) where
    abbrev gone : IndexEntry
    gone = entry (column_of (get_or rows place []) key) place

    left : (e : IndexEntry) → Contains now.entries e → IsEntry key rows (set used place false) e
    left e c =
        let both = (takes gone e index.entries).0 (subst (λ (es : List IndexEntry). Contains es e) is c) in
        let was_entry = (was.exact e).0 both.0 in
        elim (cases_eq e.pos place) [
          | inl same ↦ absurd (both.1 (same_entry e gone (was_entry.1 ∙ ap (λ (k : ℕ). column_of (get_or rows k []) key) same) same))
          | inr other ↦ (get_or-set_other used place e.pos false false other ∙ was_entry.0, was_entry.1)
        ]

    right : (e : IndexEntry) → IsEntry key rows (set used place false) e → Contains now.entries e
    right e w =
        let apart : e.pos ≢ place =
        λ same. not_both (get_or (set used place false) e.pos false) w.0
        (ap (λ (k : ℕ). get_or (set used place false) k false) same ∙ get_or-set_same used place false false within) in
        let was_there : Contains index.entries e = (was.exact e).1 (sym (get_or-set_other used place e.pos false false apart) ∙ w.0, w.1) in
        subst (λ (es : List IndexEntry). Contains es e) (sym is)
        ((takes gone e index.entries).1 (was_there, λ same. apart (ap (λ (x : IndexEntry). x.pos) same)))

    pub taken : HasKeys key rows (set used place false) now
    taken = record {
      exact = λ e. (left e, right e);
      room =
          let count = sum_by-set (λ (b : Bool). cond (not b) 1 0) used place false false within in
          let one : ◌≡◌ {A = ℕ} (cond (not (get_or used place false)) 1 0) 0 = ap (λ (b : Bool). cond (not b) 1 0) there in
          omega (arith, count, one, was.room, more);
    }

  -- its entry is added
  module _ (index : Indexed) (within : place < length used) (was : HasKeys key rows (set used place false) index) where
    pub has_room : 0 < index.room
    has_room =
        let least = get_or-le-sum_by (λ (b : Bool). cond (not b) 1 0) (set used place false) place false (omega (arith, within, length-set used place false)) in
        let one : ◌≡◌ {A = ℕ} (cond (not (get_or (set used place false) place false)) 1 0) 1 =
        ap (λ (b : Bool). cond (not b) 1 0) (get_or-set_same used place false false within) in
        omega (arith, least, one, was.room)

    module _ (adds : AddsOne) (now : Indexed) (in_rows : place < length rows) (row : List Value)
        (is : now.entries ≡ with_entry (entry (column_of row key) place) index.entries) (less : index.room ≤ now.room + 1) where
      abbrev added : IndexEntry
      added = entry (column_of row key) place

      twice : set (set used place false) place true ≡ set used place true
      twice = set-set used place false true

      enters : (e : IndexEntry) → Contains now.entries e → IsEntry key (set rows place row) (set used place true) e
      enters e c = elim ((adds added e index.entries).0 (subst (λ (es : List IndexEntry). Contains es e) is c)) [
        | inl same ↦ (
          ap (λ (x : IndexEntry). get_or (set used place true) x.pos false) same ∙ get_or-set_same used place true false within,
          ap (λ (x : IndexEntry). x.key) same
              ∙ ap (λ (r : List Value). column_of r key)
              (sym (ap (λ (x : IndexEntry). get_or (set rows place row) x.pos []) same ∙ get_or-set_same rows place row [] in_rows)),
        )
        | inr there ↦ stayed e ((was.exact e).0 there)
      ]
        where
          stayed : (x : IndexEntry) → IsEntry key rows (set used place false) x → IsEntry key (set rows place row) (set used place true) x
          stayed x w =
              let apart : x.pos ≢ place =
              λ same. not_both (get_or (set used place false) x.pos false) w.0
              (ap (λ (k : ℕ). get_or (set used place false) k false) same ∙ get_or-set_same used place false false within) in (
                get_or-set_other used place x.pos true false apart ∙ (sym (get_or-set_other used place x.pos false false apart) ∙ w.0),
                w.1 ∙ ap (λ (r : List Value). column_of r key) (sym (get_or-set_other rows place x.pos row [] apart)),
              )

      is_there : (e : IndexEntry) → IsEntry key (set rows place row) (set used place true) e → Contains now.entries e
      is_there e w = subst (λ (es : List IndexEntry). Contains es e) (sym is) ((adds added e index.entries).1 (elim (cases_eq e.pos place) [
        | inl same ↦ inl (same_entry e added
            (w.1 ∙ ap (λ (r : List Value). column_of r key)
            (ap (λ (k : ℕ). get_or (set rows place row) k []) same ∙ get_or-set_same rows place row [] in_rows)) same)
        | inr other ↦ inr ((was.exact e).1 (
          get_or-set_other used place e.pos false false other ∙ (sym (get_or-set_other used place e.pos true false other) ∙ w.0),
          w.1 ∙ ap (λ (r : List Value). column_of r key) (get_or-set_other rows place e.pos row [] other),
        ))
      ]))

      pub entered : HasKeys key (set rows place row) (set used place true) now
      entered = record {
        exact = λ e. (enters e, is_there e);
        room =
            let count = sum_by-set (λ (b : Bool). cond (not b) 1 0) (set used place false) place true false
            (omega (arith, within, length-set used place false)) in
            let one : ◌≡◌ {A = ℕ} (cond (not (get_or (set used place false) place false)) 1 0) 1 =
            ap (λ (b : Bool). cond (not b) 1 0) (get_or-set_same used place false false within) in
            let same : count_by not (set (set used place false) place true) ≡ count_by not (set used place true) = ap (count_by not) twice in
            omega (arith, count, one, same, was.room, less);
      }

kind_fits : (kind : Kind) (value : Value) → FitsKind kind value → IsOfKind kind value
kind_fits kinds.Int values.Null fits = tt
kind_fits kinds.Int (values.Int number) fits = tt
kind_fits kinds.Int (values.Text text) fits = absurd fits
kind_fits kinds.Str values.Null fits = tt
kind_fits kinds.Str (values.Int number) fits = absurd fits
kind_fits kinds.Str (values.Text text) fits = tt

-- the key of a row that fits is of the key's type
pub key_fits : (types : List Kind) (row : List Value) (key : ℕ) → FitsRow types row → IsOfKind (get_or types key kinds.Int) (column_of row key)
key_fits [] [] key fits = tt
key_fits [] (value ∷ row) key fits = absurd fits
key_fits (kind ∷ types) [] key fits = absurd fits
key_fits (kind ∷ types) (value ∷ row) zero fits = kind_fits kind value fits.0
key_fits (kind ∷ types) (value ∷ row) (suc key) fits = key_fits types row key fits.1

-- another row with the same key
pub same_key : (key : Option ℕ) (rows now : List (List Value)) (used : List Bool) (index : Indexed) (place : ℕ) (row : List Value) → place < length rows
    → now ≡ set rows place row → SameKey key row (get_or rows place []) → IsIndexed key rows used index → IsIndexed key now used index
same_key None rows now used index place row l is same was = tt
same_key (Some key) rows now used index place row l is same was =
    subst (λ (rs : List (List Value)). HasKeys key rs used index) (sym is) (record {
      exact = λ e. ((λ c. let w = (was.exact e).0 c in (w.0, w.1 ∙ sym (keeps e.pos))), (λ w. (was.exact e).1 (w.0, w.1 ∙ keeps e.pos)));
      room = was.room;
    })
  where
    keeps : (k : ℕ) → column_of (get_or (set rows place row) k []) key ≡ column_of (get_or rows k []) key
    keeps k = elim (cases_eq k place) [
      | inl e ↦ ap (λ (j : ℕ). column_of (get_or (set rows place row) j []) key) e
          ∙ (ap (λ (r : List Value). column_of r key) (get_or-set_same rows place row [] l) ∙ (same ∙ ap (λ (j : ℕ). column_of (get_or rows j []) key) (sym e)))
      | inr other ↦ ap (λ (r : List Value). column_of r key) (get_or-set_other rows place k row [] other)
    ]

-- of the same rows and used positions
pub same_fields : (key : Option ℕ) (rows now : List (List Value)) (used flags : List Bool) (index : Indexed) → now ≡ rows → flags ≡ used
    → IsIndexed key rows used index
    → IsIndexed key now flags index
same_fields key rows now used flags index r u was =
    subst (λ (rs : List (List Value)). IsIndexed key rs flags index) (sym r) (subst (λ (us : List Bool). IsIndexed key rows us index) (sym u) was)
