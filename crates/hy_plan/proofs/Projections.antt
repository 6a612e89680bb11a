-- How a row is projected, value by value.
use Rattle.std.proofs.Common.{◌≡◌, ℕ, suc, ◌+◌, ◌<◌, List, [], ◌∷◌, ◌++◌, length, get_or, drop, take, ap, sym, ◌∙◌, arith, add-one, drop-cons}
use Rattle.std.specs.Prelude.{true, false, cond}
use Rattle.std.proofs.lemmas.List.{append-nil, length-drop, take-append-drop}
use Rattle.hy_value.specs.declared.Value.{Value}
use Rattle.hy_value.specs.declared.ColMask.{ColMask}
use Rattle.hy_value.specs.Columns.{has_column}
use Rattle.hy_bound.specs.Projection.{projected_from}

-- the values from one on
values_from : (row : List Value) (index : ℕ) (value : Value) → index < length row → value ≡ get_or row index value → drop index row ≡ value ∷ drop (index + 1) row
values_from row index value below at =
    drop-cons row index value below ∙ (ap (λ v. v ∷ drop (suc index) row) (sym at) ∙ ap (λ n. value ∷ drop n row) (sym (add-one index)))

-- a value in a column of the set is the next
pub kept_next : (mask : ColMask) (row : List Value) (index : ℕ) (value : Value) → index < length row → value ≡ get_or row index value → has_column mask index ≡ true
    → projected_from mask index (drop index row) ≡ value ∷ projected_from mask (index + 1) (drop (index + 1) row)
kept_next mask row index value below at is =
    let others = projected_from mask (suc index) (drop (index + 1) row) in
    ap (projected_from mask index) (values_from row index value below at)
    ∙ (ap (λ b. cond b (value ∷ others) others) is ∙ ap (λ k. value ∷ projected_from mask k (drop (index + 1) row)) (sym (add-one index)))

-- a value in another column is left out
pub passed_next : (mask : ColMask) (row : List Value) (index : ℕ) (value : Value) → index < length row → value ≡ get_or row index value → has_column mask index ≡ false
    → projected_from mask index (drop index row) ≡ projected_from mask (index + 1) (drop (index + 1) row)
passed_next mask row index value below at is =
    let others = projected_from mask (suc index) (drop (index + 1) row) in
    ap (projected_from mask index) (values_from row index value below at)
    ∙ (ap (λ b. cond b (value ∷ others) others) is ∙ ap (λ k. projected_from mask k (drop (index + 1) row)) (sym (add-one index)))

-- values of which those from one on are known
pub record NextIs (values rest : List Value) (used : ℕ) (value : Value) : Type 0 where
  pub below : used < length values
  pub at : value ≡ get_or values used value
  pub behind : drop (used + 1) values ≡ rest

pub next_is : (values rest : List Value) (used : ℕ) (value : Value) → drop used values ≡ value ∷ rest → NextIs values rest used value
next_is values rest used value those =
    let many : length (drop used values) ≡ suc (length rest) = ap length those in
    let below : used < length values = omega (arith, many, length-drop used values) in
    let both : get_or values used value ∷ drop (suc used) values ≡ value ∷ rest = sym (drop-cons values used value below) ∙ those in
    let behind : drop (suc used) values ≡ rest = cc in
    record {
      below = below;
      at = cc;
      behind = ap (λ n. drop n values) (add-one used) ∙ behind;
    }

-- without others the first values are all
pub all_taken : (values : List Value) (used : ℕ) → drop used values ≡ [] → take used values ≡ values
all_taken values used none =
    sym (append-nil (take used values)) ∙ (ap (λ rest. take used values ++ rest) (sym none) ∙ take-append-drop used values)
