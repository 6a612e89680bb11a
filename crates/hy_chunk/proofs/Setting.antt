-- Rows after SET.
use Rattle.std.proofs.Common.{◌≡◌, ◌≢◌, ℕ, zero, suc, ◌+◌, ◌<◌, true, false, List, [], ◌∷◌, length}
use Rattle.std.proofs.Common.{get_or, drop, Option, None, Some, Result, Ok, Err, refl, sym, ap, ◌∙◌, subst, arith}
use Rattle.std.specs.Prelude.{is_some, is_ok, not}
use Rattle.std.proofs.Math.ListN.{set}
use Rattle.std.specs.List.{AllByRecursion}
use Rattle.std.proofs.lemmas.List.{at_drop_more, length-set, get_or-set_other}
use Rattle.hy_value.specs.declared.Value.{Value}
use Rattle.hy_value.specs.declared.Value.TheVariants.{Null}
use Rattle.hy_value.specs.declared.Kind.{Kind}
use Rattle.hy_value.specs.declared.Kind.TheVariants.{Int}
use Rattle.hy_bound.specs.declared.Assign.{Assign}
use Rattle.hy_bound.specs.declared.Range.{Range}
use Rattle.hy_bound.specs.Assignment.{value_of, set_column, assigned_to}
use Rattle.hy_column.specs.Cells.{FitsKind}
use Rattle.hy_chunk.specs.Keyed.{SameKey}
use Rattle.hy_chunk.specs.Sound.{FitsRow}
use Rattle.hy_chunk.specs.Writes.{FitsSets, with_value}

pub none_stays : (sets : List Assign) (row : List Value) → assigned_to sets row None ≡ None
none_stays [] row = refl
none_stays (assign ∷ sets) row = refl

not_some : {A : Type 0} (x : Option A) → x ≡ None → is_some x ≡ true → ⊥
not_some None e t = cc
not_some (Some a) e t = cc

none_some : {A : Type 0} (a : A) → None ≡ Some a → ⊥
none_some a e = cc

-- whether all values are in range does not depend on what is set so far
pub range_same : (sets : List Assign) (row one other : List Value) → is_some (assigned_to sets row (Some one)) ≡ is_some (assigned_to sets row (Some other))
range_same [] row one other = refl
range_same (assign ∷ sets) row one other =
    elim (value_of assign.value row) as (λ (r : Result Value Range). is_some (assigned_to sets row (set_column one assign.column r)) ≡ is_some
    (assigned_to sets row (set_column other assign.column r))) [
      | Ok value ↦ range_same sets row (set one assign.column value) (set other assign.column value)
      | Err range ↦ refl
    ]

-- one assignment more
pub set_more : (sets : List Assign) (row now made : List Value) (assign : Assign) → is_some (assigned_to (assign ∷ sets) row (Some now)) ≡ true
    → made ≡ with_value now assign.column (value_of assign.value row) → assigned_to (assign ∷ sets) row (Some now) ≡ assigned_to sets row (Some made)
set_more sets row now made assign some e = by (value_of assign.value row) some e
  where
    by : (r : Result Value Range) → is_some (assigned_to sets row (set_column now assign.column r)) ≡ true → made ≡ with_value now assign.column r
        → assigned_to sets row (set_column now assign.column r) ≡ assigned_to sets row (Some made)
    by (Ok value) t f = ap (λ (xs : List Value). assigned_to sets row (Some xs)) (sym f)
    by (Err range) t f = absurd (not_some (assigned_to sets row None) (none_stays sets row) t)

fits_put : (kinds : List Kind) (row : List Value) (column : ℕ) (value : Value) → FitsRow kinds row → FitsKind (get_or kinds column Int) value
    → FitsRow kinds (set row column value)
fits_put [] [] zero value r v = tt
fits_put [] [] (suc column) value r v = tt
fits_put [] (old ∷ row) column value r v = absurd r
fits_put (kind ∷ kinds) [] column value r v = absurd r
fits_put (kind ∷ kinds) (old ∷ row) zero value r v = (v, r.1)
fits_put (kind ∷ kinds) (old ∷ row) (suc column) value r v = (r.0, fits_put kinds row column value r.1 v)

-- what SET makes of a row that fits does
pub assigned_fits : (kinds : List Kind) (key : Option ℕ) (sets : List Assign) (row now made : List Value) → FitsSets kinds key sets
    → FitsRow kinds row → FitsRow kinds now
    → assigned_to sets row (Some now) ≡ Some made → FitsRow kinds made
assigned_fits kinds key [] row now made all r n e = let same : now ≡ made = cc in subst (FitsRow kinds) same n
assigned_fits kinds key (assign ∷ sets) row now made all r n e =
    elim (value_of assign.value row) as (λ (result : Result Value Range). value_of assign.value row ≡ result
    → assigned_to sets row (set_column now assign.column result) ≡ Some made → FitsRow kinds made) [
      | Ok value ↦ λ is f. assigned_fits kinds key sets row (set now assign.column value) made all.1 r
          (fits_put kinds now assign.column value n (all.0.typed row value r is)) f
      | Err range ↦ λ is f. absurd (none_some made (sym (none_stays sets row) ∙ f))
    ] refl e

pub column_at : (width : ℕ) (sets : List Assign) (k : ℕ) (d : Assign) → AllByRecursion (λ (assign : Assign). assign.column < width) sets
    → k < length sets → (get_or sets k d).column < width
column_at width [] k d all l = absurd (omega arith)
column_at width (assign ∷ sets) zero d all l = all.0
column_at width (assign ∷ sets) (suc k) d all l = column_at width sets k d all.1 (omega arith)

-- one value more is in range
pub range_step : (sets : List Assign) (row : List Value) (assign : Assign) (k : ℕ) → k < length sets → assign ≡ get_or sets k assign
    → not (is_ok (value_of assign.value row)) ≡ false
    → is_some (assigned_to (drop (k + 1) sets) row (Some row)) ≡ is_some (assigned_to (drop k sets) row (Some row))
range_step sets row assign k l at fine =
    by (value_of assign.value row) fine
    ∙ ((λ i. is_some (assigned_to (drop (k + 1) sets) row (set_column row (at i).column (value_of (at i).value row))))
    ∙ sym (at_drop_more (λ (rest : List Assign). is_some (assigned_to rest row (Some row))) sets k assign l))
  where
    by : (r : Result Value Range) → not (is_ok r) ≡ false
        → is_some (assigned_to (drop (k + 1) sets) row (Some row)) ≡ is_some (assigned_to (drop (k + 1) sets) row (set_column row assign.column r))
    by (Ok value) e = range_same (drop (k + 1) sets) row row (set row assign.column value)
    by (Err range) e = absurd (cc)

-- a row keeps its width
pub assigned_length : (sets : List Assign) (row now made : List Value) → assigned_to sets row (Some now) ≡ Some made → length made ≡ length now
assigned_length [] row now made e = let same : now ≡ made = cc in ap (λ (xs : List Value). length xs) (sym same)
assigned_length (assign ∷ sets) row now made e =
    elim (value_of assign.value row) as (λ (r : Result Value Range). assigned_to sets row (set_column now assign.column r) ≡ Some made
    → length made ≡ length now) [
      | Ok value ↦ λ f. assigned_length sets row (set now assign.column value) made f ∙ length-set now assign.column value
      | Err range ↦ λ f. absurd (none_some made (sym (none_stays sets row) ∙ f))
    ] e

-- and its key
other_key : (key : Option ℕ) (row : List Value) (column : ℕ) (value : Value) → key ≢ Some column → SameKey key (set row column value) row
other_key None row column value apart = tt
other_key (Some key) row column value apart = get_or-set_other row column key value Null (λ same. apart (ap (λ (k : ℕ). Some k) same))

pub then_same : (key : Option ℕ) (row between other : List Value) → SameKey key row between → SameKey key between other → SameKey key row other
then_same None row between other s t = tt
then_same (Some key) row between other s t = s ∙ t

no_change : (key : Option ℕ) (row : List Value) → SameKey key row row
no_change None row = tt
no_change (Some key) row = refl

pub assigned_same_key : (kinds : List Kind) (key : Option ℕ) (sets : List Assign) (row now made : List Value) → FitsSets kinds key sets
    → assigned_to sets row (Some now) ≡ Some made
    → SameKey key made now
assigned_same_key kinds key [] row now made all e = let same : now ≡ made = cc in subst (λ (r : List Value). SameKey key r now) same (no_change key now)
assigned_same_key kinds key (assign ∷ sets) row now made all e =
    elim (value_of assign.value row) as (λ (r : Result Value Range). assigned_to sets row (set_column now assign.column r) ≡ Some made → SameKey key made now) [
      | Ok value ↦ λ f. then_same key made (set now assign.column value) now (assigned_same_key kinds key sets row (set now assign.column value) made all.1 f)
          (other_key key now assign.column value all.0.spares_key)
      | Err range ↦ λ f. absurd (none_some made (sym (none_stays sets row) ∙ f))
    ] e
