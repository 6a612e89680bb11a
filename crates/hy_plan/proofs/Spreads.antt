-- How a row is spread, column by column.
use Rattle.std.proofs.Common.{◌≡◌, ℕ, suc, ◌+◌, ◌-◌, ◌<◌, ◌≤◌, List, [], ◌∷◌, ◌++◌, length, get_or, drop, refl, ap, sym, ◌∙◌, arith, add-one, drop-cons, append_assoc}
use Rattle.std.proofs.lemmas.List.{append-nil, drop_all}
use Rattle.std.specs.Prelude.{true, false, cond}
use Rattle.hy_value.specs.declared.Value.{Value}
use Rattle.hy_value.specs.declared.Value.TheVariants.{Null}
use Rattle.hy_value.specs.declared.ColMask.{ColMask}
use Rattle.hy_value.specs.Columns.{has_column}
use Rattle.hy_bound.specs.Projection.{spread_from}

-- a column of the set has the next value
has_next : (mask : ColMask) (column n : ℕ) (value : Value) (values : List Value) → has_column mask column ≡ true
    → spread_from mask column (suc n) (value ∷ values) ≡ value ∷ spread_from mask (suc column) n values
has_next mask column n value values is = ap (λ b. cond b (value ∷ spread_from mask (suc column) n values) (Null ∷ spread_from mask (suc column) n (value ∷ values))) is

-- a column outside the set is NULL
outside : (mask : ColMask) (column n : ℕ) (values : List Value) → has_column mask column ≡ false
    → spread_from mask column (suc n) values ≡ Null ∷ spread_from mask (suc column) n values
outside mask column n [] is = refl
outside mask column n (value ∷ values) is = ap (λ b. cond b (value ∷ spread_from mask (suc column) n values) (Null ∷ spread_from mask (suc column) n (value ∷ values))) is

-- without values a column is NULL
none_left : (mask : ColMask) (column n : ℕ) (values : List Value) → values ≡ [] → spread_from mask column (suc n) values ≡ Null ∷ spread_from mask (suc column) n values
none_left mask column n [] empty = refl
none_left mask column n (value ∷ values) empty = absurd cc

-- one value more and the rest of a row are the row
after_one : (mask : ColMask) (column width : ℕ) (value : Value) (values rest before after whole : List Value) → column < width
    → ((n : ℕ) → spread_from mask column (suc n) values ≡ value ∷ spread_from mask (suc column) n rest)
    → after ≡ before ++ value ∷ [] → before ++ spread_from mask column (width - column) values ≡ whole
    → after ++ spread_from mask (column + 1) (width - (column + 1)) rest ≡ whole
after_one mask column width value values rest before after whole within step put so =
    let left : width - column ≡ suc (width - (column + 1)) = omega arith in
    ap (λ vs. vs ++ spread_from mask (column + 1) (width - (column + 1)) rest) put
    ∙ (append_assoc before (value ∷ []) (spread_from mask (column + 1) (width - (column + 1)) rest)
    ∙ (ap (λ k. before ++ value ∷ spread_from mask k (width - (column + 1)) rest) (add-one column)
    ∙ (ap (λ vs. before ++ vs) (sym (step (width - (column + 1))))
    ∙ (ap (λ n. before ++ spread_from mask column n values) (sym left) ∙ so))))

-- a loop's step where the set has the column
pub spread_value : (mask : ColMask) (column width used : ℕ) (value : Value) (values before after whole : List Value) → column < width → used < length values
    → has_column mask column ≡ true → value ≡ get_or values used value → after ≡ before ++ value ∷ []
    → before ++ spread_from mask column (width - column) (drop used values) ≡ whole
    → after ++ spread_from mask (column + 1) (width - (column + 1)) (drop (used + 1) values) ≡ whole
spread_value mask column width used value values before after whole within in_values is at put so =
    let next : drop used values ≡ value ∷ drop (used + 1) values =
    drop-cons values used value in_values ∙ (ap (λ v. v ∷ drop (suc used) values) (sym at) ∙ ap (λ n. value ∷ drop n values) (sym (add-one used))) in
    after_one mask column width value (drop used values) (drop (used + 1) values) before after whole within
    (λ n. ap (spread_from mask column (suc n)) next ∙ has_next mask column n value (drop (used + 1) values) is) put so

-- a loop's step where the set doesn't have the column
pub spread_outside : (mask : ColMask) (column width : ℕ) (values before after whole : List Value) → column < width
    → has_column mask column ≡ false → after ≡ before ++ Null ∷ [] → before ++ spread_from mask column (width - column) values ≡ whole
    → after ++ spread_from mask (column + 1) (width - (column + 1)) values ≡ whole
spread_outside mask column width values before after whole within is put so =
    after_one mask column width Null values values before after whole within (λ n. outside mask column n values is) put so

-- a loop's step where no values are left
pub spread_nothing : (mask : ColMask) (column width used : ℕ) (values before after whole : List Value) → column < width → length values ≤ used
    → after ≡ before ++ Null ∷ [] → before ++ spread_from mask column (width - column) (drop used values) ≡ whole
    → after ++ spread_from mask (column + 1) (width - (column + 1)) (drop used values) ≡ whole
spread_nothing mask column width used values before after whole within past put so =
    after_one mask column width Null (drop used values) (drop used values) before after whole within
    (λ n. none_left mask column n (drop used values) (drop_all used values past)) put so

-- behind the last column the row is there
pub spread_done : (mask : ColMask) (column n : ℕ) (values before whole : List Value) → n ≡ 0 → before ++ spread_from mask column n values ≡ whole → before ≡ whole
spread_done mask column n values before whole none so = sym (append-nil before) ∙ (ap (λ (m : ℕ). before ++ spread_from mask column m values) (sym none) ∙ so)
