-- A value, a row or a change that is read is the one that was written, and what was written is read again.
use Rattle.std.proofs.Common.{◌≡◌, ℕ, zero, suc, true, List, [], ◌∷◌, ◌++◌, length, Option, Some, None, refl, sym, ap, subst, ◌∙◌, append_assoc}
use Rattle.std.specs.Prelude.{slice_get}
use Rattle.std.specs.List.{flat_map, AllByRecursion}
use Rattle.std.specs.Option.{IsSomeAnd}
use Rattle.std.specs.Int.{w64, cast_signed, cast_unsigned}
use Rattle.std.proofs.Math.Facts.{sfits_to_z, Fits-of_z}
use Rattle.std.proofs.lemmas.Int.{of_z-to_z, to_z-of_z}
use Rattle.std.proofs.lemmas.List.Concat.{flat_map-cons}
use Rattle.hy_value.specs.declared.Kind.{Kind}
use Rattle.hy_value.specs.declared.Kind.TheVariants as kind
use Rattle.hy_value.specs.declared.Value.{Value}
use Rattle.hy_value.specs.declared.Value.TheVariants.{Null, Int, Text}
use Rattle.hy_value.specs.declared.change.Change.{Change}
use Rattle.hy_notes.specs.Notes.{Cell, is_change}
use Rattle.hy_log_record.specs.declared.HeldTable.{HeldTable}
use Rattle.hy_log_record.specs.Bytes.{be32, be64, value_bytes, row_bytes, change_bytes, HasValueBytes, HasRowBytes, HasChangeBytes}
use Rattle.hy_log_record.specs.Bodies.{IsOfKind, AreOfKinds, IsRowOf, IsChangeOf}
use Rattle.hy_log_record.specs.Reading.{◌>>=◌, u32_at, u64_at, text_at, number_value_at, text_value_at}
use Rattle.hy_log_record.specs.Reading.{value_at, values_at, row_at, kinds_at, change_if, change_at, changes_at}
use Rattle.hy_log_record.proofs.Fields.{IsBytes, IsBytes-rest, bind_some, kept_some, some_is, Takes, Takes-then}
use Rattle.hy_log_record.proofs.Fields.{Takes-head, u32_takes, u32_again, u64_takes, u64_again, text_takes, text_again}

-- what a reader took: an item's bytes, of an item that has bytes and is of these columns
pub record Took {A : Type 0} (bytes_of : A → List ℕ) (Has Of : A → Type 0) (bytes : List ℕ) (x : A × List ℕ) : Type 0 where
  pub takes : Takes bytes (bytes_of x.0) x.1
  pub has : Has x.0
  pub of : Of x.0

-- ---- values

null_of : (column : Kind) → IsOfKind column Null
null_of kind.Int = tt
null_of kind.Str = tt

number_takes : (column : Kind) (bytes : List ℕ) (x : Value × List ℕ) → IsBytes bytes → number_value_at column bytes ≡ Some x
    → Took value_bytes HasValueBytes (IsOfKind column) (1 ∷ bytes) x
unfolding number_value_at
number_takes kind.Int bytes x fits e =
    let b = bind_some (u64_at bytes) (λ n. Some (Int (cast_signed w64 n.0), n.1)) x e in
    let t = u64_takes bytes b.0 fits b.1 in
    let back : cast_unsigned w64 (cast_signed w64 b.0.0) ≡ b.0.0 = of_z-to_z w64 b.0.0 t.1 in
    let made : Value × List ℕ = (Int (cast_signed w64 b.0.0), b.0.1) in
    subst (Took value_bytes HasValueBytes (IsOfKind kind.Int) (1 ∷ bytes)) (some_is made x b.2) (record {
      takes = subst (λ (n : ℕ). Takes (1 ∷ bytes) (1 ∷ be64 n) b.0.1) (sym back) (Takes-head 1 bytes (be64 b.0.0) b.0.1 t.0);
      has = sfits_to_z (record { fits = t.1 });
      of = tt;
    })
number_takes kind.Str bytes x fits e = absurd cc

words_take : (column : Kind) (bytes : List ℕ) (x : Value × List ℕ) → IsBytes bytes → text_value_at column bytes ≡ Some x
    → Took value_bytes HasValueBytes (IsOfKind column) (2 ∷ bytes) x
unfolding text_value_at
words_take kind.Int bytes x fits e = absurd cc
words_take kind.Str bytes x fits e =
    let b = bind_some (text_at bytes) (λ t. Some (Text t.0, t.1)) x e in
    let t = text_takes bytes b.0 fits b.1 in
    let made : Value × List ℕ = (Text b.0.0, b.0.1) in
    subst (Took value_bytes HasValueBytes (IsOfKind kind.Str) (2 ∷ bytes)) (some_is made x b.2) (record {
      takes = Takes-head 2 bytes (length b.0.0 ∷ b.0.0) b.0.1 t.0;
      has = t.1.0;
      of = t.1.1;
    })

value_takes : (column : Kind) (bytes : List ℕ) (x : Value × List ℕ) → IsBytes bytes → value_at column bytes ≡ Some x
    → Took value_bytes HasValueBytes (IsOfKind column) bytes x
unfolding value_at
value_takes column [] x fits e = absurd cc
value_takes column (zero ∷ bytes) x fits e =
    subst (Took value_bytes HasValueBytes (IsOfKind column) (0 ∷ bytes)) (some_is (Null, bytes) x e)
    (record { takes = record { parts = refl; rest_fits = IsBytes-rest 0 bytes fits }; has = tt; of = null_of column })
value_takes column (suc zero ∷ bytes) x fits e = number_takes column bytes x (IsBytes-rest 1 bytes fits) e
value_takes column (suc (suc zero) ∷ bytes) x fits e = words_take column bytes x (IsBytes-rest 2 bytes fits) e
value_takes column (suc (suc (suc tag)) ∷ bytes) x fits e = absurd cc

value_again : (column : Kind) (v : Value) (rest : List ℕ) → HasValueBytes v → IsOfKind column v → value_at column (value_bytes v ++ rest) ≡ Some (v, rest)
unfolding value_at number_value_at text_value_at
value_again column Null rest has of = refl
value_again kind.Int (Int n) rest has of =
    rw (u64_again (cast_unsigned w64 n) rest (Fits-of_z has).fits, to_z-of_z w64 n has) refl
value_again kind.Str (Int n) rest has of = absurd of
value_again kind.Int (Text t) rest has of = absurd of
value_again kind.Str (Text t) rest has of = rw (text_again t rest (has, of)) refl

-- ---- rows

values_take : (kinds : List Kind) (bytes : List ℕ) (x : List Value × List ℕ) → IsBytes bytes → values_at kinds bytes ≡ Some x
    → Took (flat_map value_bytes) (AllByRecursion HasValueBytes) (AreOfKinds kinds) bytes x
unfolding values_at
values_take [] bytes x fits e =
    subst (Took (flat_map value_bytes) (AllByRecursion HasValueBytes) (AreOfKinds []) bytes) (some_is ([], bytes) x e)
    (record { takes = record { parts = refl; rest_fits = fits }; has = tt; of = tt })
values_take (column ∷ kinds) bytes x fits e =
    let a = bind_some (value_at column bytes) (λ first. values_at kinds first.1 >>= λ others. Some (first.0 ∷ others.0, others.1)) x e in
    let b = bind_some (values_at kinds a.0.1) (λ others. Some (a.0.0 ∷ others.0, others.1)) x a.2 in
    let first = value_takes column bytes a.0 fits a.1 in
    let second = values_take kinds a.0.1 b.0 first.takes.rest_fits b.1 in
    let made : List Value × List ℕ = (a.0.0 ∷ b.0.0, b.0.1) in
    let both = Takes-then bytes (value_bytes a.0.0) a.0.1 (flat_map value_bytes b.0.0) b.0.1 first.takes second.takes in
    subst (Took (flat_map value_bytes) (AllByRecursion HasValueBytes) (AreOfKinds (column ∷ kinds)) bytes) (some_is made x b.2)
    (record { takes = both; has = (first.has, second.has); of = (first.of, second.of) })

values_again : (kinds : List Kind) (row : List Value) (rest : List ℕ) → AllByRecursion HasValueBytes row → AreOfKinds kinds row
    → values_at kinds (flat_map value_bytes row ++ rest) ≡ Some (row, rest)
unfolding values_at
values_again [] [] rest has of = refl
values_again [] (v ∷ row) rest has of = absurd of
values_again (column ∷ kinds) [] rest has of = absurd of
values_again (column ∷ kinds) (v ∷ row) rest has of =
    let regrouped : flat_map value_bytes (v ∷ row) ++ rest ≡ value_bytes v ++ (flat_map value_bytes row ++ rest) =
    ap (λ (bs : List ℕ). bs ++ rest) (flat_map-cons value_bytes v row) ∙ append_assoc (value_bytes v) (flat_map value_bytes row) rest in
    ap (values_at (column ∷ kinds)) regrouped ∙ rw (
      value_again column v (flat_map value_bytes row ++ rest) has.0 of.0,
      values_again kinds row rest has.1 of.1,
    ) refl

row_takes : (kinds : List Kind) (bytes : List ℕ) (x : Cell × List ℕ) → IsBytes bytes → row_at kinds bytes ≡ Some x
    → Took row_bytes HasRowBytes (IsRowOf kinds) bytes x
unfolding row_at
row_takes kinds [] x fits e = absurd cc
row_takes kinds (zero ∷ bytes) x fits e =
    subst (Took row_bytes HasRowBytes (IsRowOf kinds) (0 ∷ bytes)) (some_is (None, bytes) x e)
    (record { takes = record { parts = refl; rest_fits = IsBytes-rest 0 bytes fits }; has = tt; of = tt })
row_takes kinds (suc zero ∷ bytes) x fits e =
    let b = bind_some (values_at kinds bytes) (λ row. Some (Some row.0, row.1)) x e in
    let t = values_take kinds bytes b.0 (IsBytes-rest 1 bytes fits) b.1 in
    let made : Cell × List ℕ = (Some b.0.0, b.0.1) in
    subst (Took row_bytes HasRowBytes (IsRowOf kinds) (1 ∷ bytes)) (some_is made x b.2)
    (record { takes = Takes-head 1 bytes (flat_map value_bytes b.0.0) b.0.1 t.takes; has = t.has; of = t.of })
row_takes kinds (suc (suc flag) ∷ bytes) x fits e = absurd cc

row_again : (kinds : List Kind) (row : Cell) (rest : List ℕ) → HasRowBytes row → IsRowOf kinds row → row_at kinds (row_bytes row ++ rest) ≡ Some (row, rest)
unfolding row_at
row_again kinds None rest has of = refl
row_again kinds (Some row) rest has of = rw (values_again kinds row rest has of) refl

-- ---- changes

some_and_at : {A : Type 0} (o : Option A) (P : A → Type 0) (x : A) → o ≡ Some x → P x → IsSomeAnd o P
some_and_at (Some y) P x e p = subst P (sym (some_is y x e)) p
some_and_at None P x e p = absurd cc

at_some_and : {A : Type 0} (o : Option A) (P : A → Type 0) → IsSomeAnd o P → (x : A) × (o ≡ Some x) × P x
at_some_and (Some x) P p = (x, refl, p)
at_some_and None P p = absurd p

-- a net change of these tables
pub record IsNetOf (tables : List HeldTable) (change : Change) : Type 0 where
  pub of : IsChangeOf tables change
  pub net : is_change change ≡ true

change_takes : (tables : List HeldTable) (bytes : List ℕ) (x : Change × List ℕ) → IsBytes bytes → change_at tables bytes ≡ Some x
    → Took change_bytes HasChangeBytes (IsNetOf tables) bytes x
unfolding change_at change_bytes
change_takes tables bytes x fits e =
    let made : ℕ → ℕ → Cell → Cell → Change = λ t p b a. record { table = t; pos = p; before = b; after = a } in
    let a = bind_some (u32_at bytes) (λ t. u32_at t.1 >>= λ p. kinds_at tables t.0 >>= λ ks. row_at ks p.1 >>= λ b. row_at ks b.1 >>= λ f. change_if
    (made t.0 p.0 b.0 f.0) f.1) x e in
    let b = bind_some (u32_at a.0.1) (λ p. kinds_at tables a.0.0 >>= λ ks. row_at ks p.1 >>= λ b. row_at ks b.1 >>= λ f. change_if
    (made a.0.0 p.0 b.0 f.0) f.1) x a.2 in
    let c = bind_some (kinds_at tables a.0.0) (λ ks. row_at ks b.0.1 >>= λ r. row_at ks r.1 >>= λ f. change_if (made a.0.0 b.0.0 r.0 f.0) f.1) x b.2 in
    let d = bind_some (row_at c.0 b.0.1) (λ r. row_at c.0 r.1 >>= λ f. change_if (made a.0.0 b.0.0 r.0 f.0) f.1) x c.2 in
    let f = bind_some (row_at c.0 d.0.1) (λ f. change_if (made a.0.0 b.0.0 d.0.0 f.0) f.1) x d.2 in
    let change : Change = made a.0.0 b.0.0 d.0.0 f.0.0 in
    let g = kept_some (is_change change) (change, f.0.1) x f.2 in
    let held = bind_some (slice_get tables a.0.0) (λ (t : HeldTable). Some t.kinds) c.0 c.1 in
    let same : held.0.kinds ≡ c.0 = some_is held.0.kinds c.0 held.2 in
    let t0 = u32_takes bytes a.0 fits a.1 in
    let t1 = u32_takes a.0.1 b.0 t0.0.rest_fits b.1 in
    let t2 = row_takes c.0 b.0.1 d.0 t1.0.rest_fits d.1 in
    let t3 = row_takes c.0 d.0.1 f.0 t2.takes.rest_fits f.1 in
    let e23 = Takes-then b.0.1 (row_bytes d.0.0) d.0.1 (row_bytes f.0.0) f.0.1 t2.takes t3.takes in
    let e13 = Takes-then a.0.1 (be32 b.0.0) b.0.1 (row_bytes d.0.0 ++ row_bytes f.0.0) f.0.1 t1.0 e23 in
    let e03 = Takes-then bytes (be32 a.0.0) a.0.1 (be32 b.0.0 ++ (row_bytes d.0.0 ++ row_bytes f.0.0)) f.0.1 t0.0 e13 in
    let rows : IsRowOf held.0.kinds d.0.0 × IsRowOf held.0.kinds f.0.0 =
    subst (λ (ks : List Kind). IsRowOf ks d.0.0 × IsRowOf ks f.0.0) (sym same) (t2.of, t3.of) in
    subst (Took change_bytes HasChangeBytes (IsNetOf tables) bytes) g.1 (record {
      takes = e03;
      has = record { table = t0.1; pos = t1.1; before = t2.has; after = t3.has };
      of = record {
        of = some_and_at (slice_get tables a.0.0) (λ (t : HeldTable). IsRowOf t.kinds d.0.0 × IsRowOf t.kinds f.0.0) held.0 held.1 rows;
        net = g.0;
      };
    })

change_again : (tables : List HeldTable) (c : Change) (rest : List ℕ) → HasChangeBytes c → IsNetOf tables c
    → change_at tables (change_bytes c ++ rest) ≡ Some (c, rest)
unfolding change_at change_bytes
change_again tables c rest has of =
    let held = at_some_and (slice_get tables c.table) (λ (t : HeldTable). IsRowOf t.kinds c.before × IsRowOf t.kinds c.after) of.of in
    let back = row_bytes c.after ++ rest in
    let middle = row_bytes c.before ++ back in
    let regrouped : change_bytes c ++ rest ≡ be32 c.table ++ (be32 c.pos ++ middle) =
    append_assoc (be32 c.table) (be32 c.pos ++ (row_bytes c.before ++ row_bytes c.after)) rest
    ∙ ap (λ (bs : List ℕ). be32 c.table ++ bs) (append_assoc (be32 c.pos) (row_bytes c.before ++ row_bytes c.after) rest)
    ∙ ap (λ (bs : List ℕ). be32 c.table ++ (be32 c.pos ++ bs)) (append_assoc (row_bytes c.before) (row_bytes c.after) rest) in
    let found : kinds_at tables c.table ≡ Some held.0.kinds = ap (λ (o : Option HeldTable). o >>= λ t. Some t.kinds) held.1 in
    let net = of.net in
    ap (change_at tables) regrouped
    ∙ rw (
      u32_again c.table (be32 c.pos ++ middle) has.table,
      u32_again c.pos middle has.pos,
      found,
      row_again held.0.kinds c.before back has.before held.2.0,
      row_again held.0.kinds c.after rest has.after held.2.1,
      net,
    ) refl

pub changes_take : (tables : List HeldTable) (count : ℕ) (bytes : List ℕ) (x : List Change × List ℕ) → IsBytes bytes → changes_at tables count bytes ≡ Some x
    → Took (flat_map change_bytes) (AllByRecursion HasChangeBytes) (λ cs. AllByRecursion (IsNetOf tables) cs × (length cs ≡ count)) bytes x
unfolding changes_at
changes_take tables zero bytes x fits e =
    subst (Took (flat_map change_bytes) (AllByRecursion HasChangeBytes) (λ cs. AllByRecursion (IsNetOf tables) cs × (length cs ≡ 0)) bytes)
    (some_is ([], bytes) x e)
    (record { takes = record { parts = refl; rest_fits = fits }; has = tt; of = (tt, refl) })
changes_take tables (suc count) bytes x fits e =
    let a = bind_some (change_at tables bytes) (λ first. changes_at tables count first.1 >>= λ others. Some (first.0 ∷ others.0, others.1)) x e in
    let b = bind_some (changes_at tables count a.0.1) (λ others. Some (a.0.0 ∷ others.0, others.1)) x a.2 in
    let first = change_takes tables bytes a.0 fits a.1 in
    let second = changes_take tables count a.0.1 b.0 first.takes.rest_fits b.1 in
    let made : List Change × List ℕ = (a.0.0 ∷ b.0.0, b.0.1) in
    let both = Takes-then bytes (change_bytes a.0.0) a.0.1 (flat_map change_bytes b.0.0) b.0.1 first.takes second.takes in
    subst (Took (flat_map change_bytes) (AllByRecursion HasChangeBytes) (λ cs. AllByRecursion (IsNetOf tables) cs × (length cs ≡ suc count)) bytes)
    (some_is made x b.2)
    (record { takes = both; has = (first.has, second.has); of = ((first.of, second.of.0), ap suc second.of.1) })

pub changes_again : (tables : List HeldTable) (cs : List Change) (rest : List ℕ) → AllByRecursion HasChangeBytes cs → AllByRecursion (IsNetOf tables) cs
    → changes_at tables (length cs) (flat_map change_bytes cs ++ rest) ≡ Some (cs, rest)
unfolding changes_at
changes_again tables [] rest has of = refl
changes_again tables (c ∷ cs) rest has of =
    let regrouped : flat_map change_bytes (c ∷ cs) ++ rest ≡ change_bytes c ++ (flat_map change_bytes cs ++ rest) =
    ap (λ (bs : List ℕ). bs ++ rest) (flat_map-cons change_bytes c cs) ∙ append_assoc (change_bytes c) (flat_map change_bytes cs) rest in
    ap (changes_at tables (suc (length cs))) regrouped
    ∙ rw (change_again tables c (flat_map change_bytes cs ++ rest) has.0 of.0, changes_again tables cs rest has.1 of.1) refl
