-- Conditions that are true only of rows with some key.
use Rattle.std.proofs.Common.{◌≡◌, ℕ, zero, suc, ◌<◌, ◌≤◌, Bool, true, false, List, [], ◌∷◌}
use Rattle.std.proofs.Common.{length, get_or, Option, None, Some, refl, sym, ap, ◌∙◌, cond, subst, arith}
use Rattle.std.specs.Prelude.{Contains, IfSome, OnOk, Result, Ok, Err, ◌||◌, ◌&&◌, ◌==◌, nat_le}
use Rattle.std.specs.List.{list_any}
use Rattle.std.proofs.lemmas.Bool.{and_parts, both_ways, eqb-true, false_from_ne_true, leb-true}
use Rattle.hy_value.specs.declared.Value.{Value}
use Rattle.hy_value.specs.declared.ColMask.{ColMask}
use Rattle.hy_stamp.specs.declared.Viewer.{Viewer}
use Rattle.hy_bound.specs.Condition.{And, Condition, Compare}
use Rattle.hy_bound.specs.declared.predicate.Side.{Side}
use Rattle.hy_bound.specs.declared.predicate.Side.TheVariants.{Literal}
use Rattle.hy_value.specs.declared.Cmp.TheVariants.{Eq}
use Rattle.hy_bound.specs.Predicate.{both_of, column_of, is_known, sense_of, truth_of}
use Rattle.hy_bound.specs.Projection.{projected}
use Rattle.hy_plan.specs.Reads.{by_key_of, is_read_of, key_is_value, most_keys}
use Rattle.hy_undo.specs.Places.{Place, Cell, sees}
use Rattle.hy_chunk.specs.Fields.{nth}
use Rattle.hy_chunk.specs.Gathering.{Asks, AsksOneOf, conditions_of, kept_by}
use Rattle.hy_chunk.specs.declared.gathering.Keys.{Keys}
use Rattle.hy_chunk.specs.Keyed.{AreFound}
use Rattle.hy_chunk.proofs.Gathers.{few_looked_up, not_looked_up}
use Rattle.hy_chunk.proofs.Lookups.{key_value}

-- a row with one of the keys
one_by : (column : ℕ) (row : List Value) (value : Value) (values : List Value) (b : Bool) → truth_of (key_is_value column value) row ≡ b
    → (b || list_any (λ v. truth_of (key_is_value column v) row) values) ≡ true
    → (list_any (λ v. truth_of (key_is_value column v) row) values ≡ true → Contains values (column_of row column))
    → Contains (value ∷ values) (column_of row column)
one_by column row value values true is e rest = (zero, omega arith, sym (key_value column value row is))
one_by column row value values false is e rest = let c = rest e in (suc c.0, (let l = c.1 in omega (arith, l)), c.2)

one_of : (column : ℕ) (row : List Value) (values : List Value) → list_any (λ value. truth_of (key_is_value column value) row) values ≡ true
    → Contains values (column_of row column)
one_of column row [] e = absurd (both_ways false refl e)
one_of column row (value ∷ values) e = one_by column row value values (truth_of (key_is_value column value) row) refl e (one_of column row values)

pub few_ask : (pred : Condition) (column : ℕ) (values : List Value) → length values ≤ most_keys → AsksOneOf (by_key_of pred column values) column values
few_ask pred column values few row e = by (truth_of pred row) refl
  where
    by : (b : Bool) → truth_of pred row ≡ b → Contains values (column_of row column)
    by true is = one_of column row values (few_looked_up pred column row values is few ∙ e)
    by false isnt = absurd (both_ways (is_read_of (by_key_of pred column values) row) (sym (not_looked_up pred column row values isnt)) e)

-- what one of the conditions that AND joins asks, both ask
both_true : (o other : Option Bool) → is_known (both_of o other) ≡ true → (is_known o ≡ true) × (is_known other ≡ true)
both_true (Some true) other e = (refl, e)
both_true (Some false) other e = absurd (both_ways false refl e)
both_true None None e = absurd (both_ways false refl e)
both_true None (Some true) e = absurd (both_ways false refl e)
both_true None (Some false) e = absurd (both_ways false refl e)

pub left_asks : (pred left right : Condition) (column : ℕ) (value : Value) → And left right ≡ pred → Asks left column value → Asks pred column value
left_asks pred left right column value is asks =
    subst (λ (p : Condition). Asks p column value) is (λ row e. asks row (both_true (sense_of left row) (sense_of right row) e).0)

pub right_asks : (pred left right : Condition) (column : ℕ) (value : Value) → And left right ≡ pred → Asks right column value → Asks pred column value
right_asks pred left right column value is asks =
    subst (λ (p : Condition). Asks p column value) is (λ row e. asks row (both_true (sense_of left row) (sense_of right row) e).1)

-- where a value is asked, one of some conditions asks it
pub read_is_true : (pred : Condition) (key : ℕ) (values : List Value) (row : List Value) → is_read_of (by_key_of pred key values) row ≡ true
    → truth_of pred row ≡ true
read_is_true pred key values row e = by (truth_of pred row) refl
  where
    by : (b : Bool) → truth_of pred row ≡ b → truth_of pred row ≡ true
    by true is = is
    by false isnt = absurd (both_ways (is_read_of (by_key_of pred key values) row) (sym (not_looked_up pred key row values isnt)) e)

-- at a position that is not found nothing is kept
pub nothing_kept : (columns : ColMask) (conditions : List Condition) (column : ℕ) (values : List Value) (places : List Place) (found : List ℕ)
    → AsksOneOf conditions column values → ((value : Value) → Contains values value → AreFound column value places found)
    → (viewer : Viewer) (place : ℕ) → place < length places
    → (Contains found place → ⊥) → kept_by columns conditions (sees viewer (nth places place)) ≡ []
nothing_kept columns conditions column values places found asks all viewer place l out = by (sees viewer (nth places place)) refl
  where
    by : (cell : Cell) → sees viewer (nth places place) ≡ cell → kept_by columns conditions cell ≡ []
    by None is = refl
    by (Some row) is = ap (λ (b : Bool). cond b (projected columns row ∷ []) []) (false_from_ne_true (is_read_of conditions row) (λ e.
        out (all (column_of row column) (asks row e) viewer place row l is refl)))

-- a value that the condition asks, the conditions by keys ask too
pub asked_one : (pred : Condition) (keys : Option Keys) (column : ℕ) (value : Value) → Asks pred column value
    → AsksOneOf (conditions_of pred keys) column (value ∷ [])
asked_one pred None column value asks row e = (zero, omega arith, sym (asks row (or_alone (truth_of pred row) e)))
  where
    or_alone : (b : Bool) → (b || false) ≡ true → b ≡ true
    or_alone true f = refl
    or_alone false f = f
asked_one pred (Some keys) column value asks row e = (zero, omega arith, sym (asks row (read_is_true pred keys.column keys.values.now row e)))

-- a comparison asks its literal
pub comparison_asks : (pred : Condition) (left column : ℕ) (side : Side) (value : Value) → Compare left Eq side ≡ pred → left ≡ column
    → side ≡ Literal value → Asks pred column value
comparison_asks pred left column side value is same literal =
    subst (λ (p : Condition). Asks p column value) ((λ i. Compare (sym same i) Eq (sym literal i)) ∙ is) (key_value column value)

-- rows that are looked up have one of the keys
pub keys_ask : (pred : Condition) (keys : Keys) (column : ℕ) → ((keys.column == column) && nat_le (length keys.values.now) most_keys) ≡ true
    → AsksOneOf (by_key_of pred keys.column keys.values.now) column keys.values.now
keys_ask pred keys column e =
    let both = and_parts (keys.column == column) (nat_le (length keys.values.now) most_keys) e in
    subst (λ (k : ℕ). AsksOneOf (by_key_of pred keys.column keys.values.now) k keys.values.now) (eqb-true keys.column column both.0)
    (few_ask pred keys.column keys.values.now (leb-true (length keys.values.now) most_keys both.1))

-- of an answer that is there or not
pub some_weaker : {A : Type 0} (o : Option A) (P Q : A → Type 0) → ((x : A) → P x → Q x) → IfSome o P → IfSome o Q
some_weaker None P Q f h = tt
some_weaker (Some x) P Q f h = f x h

pub some_has : {A : Type 0} (o : Option A) (x : A) (P : A → Type 0) → o ≡ Some x → IfSome o P → P x
some_has {A} o x P is h = subst (λ (q : Option A). IfSome q P) is h

pub ok_weaker : {A E : Type 0} (r : Result A E) (P Q : Type 0) → (P → Q) → OnOk r P → OnOk r Q
ok_weaker (Ok x) P Q f h = f h
ok_weaker (Err e) P Q f h = tt

-- what is found for one key is found for each of its list
pub found_one : (column : ℕ) (value : Value) (places : List Place) (found : List ℕ) → AreFound column value places found
    → (other : Value) → Contains (value ∷ []) other → AreFound column other places found
found_one column value places found all other c = subst (λ (v : Value). AreFound column v places found) (same c.0 c.1 c.2) all
  where
    same : (k : ℕ) → k < length (value ∷ []) → get_or (value ∷ []) k other ≡ other → value ≡ other
    same zero l is = is
    same (suc k) l is = absurd (omega (arith, l))
