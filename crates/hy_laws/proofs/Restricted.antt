-- A restriction says the same of a row with NULL outside the named columns.
use Rattle.std.proofs.Common.{◌≡◌, ℕ, ◌+◌, ◌-◌, ◌≤◌, ⊎_elim, List, [], ◌∷◌, ◌++◌, length, refl, ap, sym, ◌∙◌, subst, arith}
use Rattle.std.specs.Prelude.{Bool, true, false, cond, ◌&&◌, map, filter, replicate}
use Rattle.std.specs.List.{list_all, AllByRecursion}
use Rattle.std.proofs.lemmas.Bool.{cases_lt}
use Rattle.std.proofs.lemmas.List.{length-replicate, get_or-append_right, append-nil}
use Rattle.hy_value.specs.declared.Value.TheVariants.{Null}
use Rattle.hy_value.specs.declared.ColMask.{ColMask}
use Rattle.hy_bound.specs.Condition.{Condition, True}
use Rattle.hy_bound.specs.Predicate.{column_of, is_known, sense_of, truth_of}
use Rattle.hy_bound.specs.Projection.{masked}
use Rattle.hy_bound.specs.Records.{columns_of}
use Rattle.hy_bound.specs.Agreement.{is_named, Among}
use Rattle.hy_bound.specs.Masks.{masked_length}
use Rattle.hy_bound.specs.Truths.{column_front, each_weaker, sense_alike}
use Rattle.hy_plan.specs.ColumnSets.{named_columns}
use Rattle.hy_plan.specs.Restrictions.{is_of_table, own_condition, own_conditions, restriction}
use Rattle.hy_plan.specs.Restricted.{joined_truth, own_sense}
use Rattle.hy_plan.specs.Kept.{named_kept}
use Rattle.hy_laws.proofs.Spread.{Row}

-- a masked row in a joined row keeps what is named there
joined_kept : (named : List ℕ) (front row : Row) (column : ℕ) → length row ≤ 32 → is_named named column ≡ true
    → column_of (front ++ (masked (named_columns (length front) (length row) named) row ++ [])) column ≡ column_of (front ++ (row ++ [])) column
joined_kept named front row column few is =
    let mask : ColMask = named_columns (length front) (length row) named in
    let kept : column_of (front ++ masked mask row) column ≡ column_of (front ++ row) column =
    ⊎_elim (λ below. column_front front (masked mask row) column below ∙ sym (column_front front row column below))
    (λ past. let place : column ≡ length front + (column - length front) = omega arith in
    get_or-append_right front (masked mask row) (length front) column Null refl past
    ∙ (named_kept (length front) (length row) named row (column - length front) refl few (subst (λ (n : ℕ). is_named named n ≡ true) place is)
    ∙ sym (get_or-append_right front row (length front) column Null refl past))) (cases_lt column (length front)) in
    ap (λ (r : Row). column_of (front ++ r) column) (append-nil (masked mask row))
    ∙ (kept ∙ sym (ap (λ (r : Row). column_of (front ++ r) column) (append-nil row)))

-- a condition of the table alone, by the table's own column numbers, has the same sense in the masked row
own_kept : (named : List ℕ) (front row : Row) (c : Condition) → length row ≤ 32 → Among named (columns_of c) → is_of_table (length front) (length row) c ≡ true
    → sense_of (own_condition (length front) c) (masked (named_columns (length front) (length row) named) row) ≡ sense_of (own_condition (length front) c) row
own_kept named front row c few among is =
    let mask : ColMask = named_columns (length front) (length row) named in
    let as_long : length (masked mask row) ≡ length row = masked_length mask row in
    own_sense c front (masked mask row) [] (ap (λ n. is_of_table (length front) n c) as_long ∙ is)
    ∙ (sense_alike c (front ++ (masked mask row ++ [])) (front ++ (row ++ []))
    (each_weaker (λ column. is_named named column ≡ true)
    (λ column. column_of (front ++ (masked mask row ++ [])) column ≡ column_of (front ++ (row ++ [])) column)
    (columns_of c) (λ column here. joined_kept named front row column few here) among)
    ∙ sym (own_sense c front row [] is))

-- so have all such conditions
all_kept : (named : List ℕ) (front row : Row) (cs : List Condition) → length row ≤ 32 → AllByRecursion (λ c. Among named (columns_of c)) cs
    → list_all (λ d. truth_of d (masked (named_columns (length front) (length row) named) row)) (own_conditions (length front) (length row) cs)
    ≡ list_all (λ d. truth_of d row) (own_conditions (length front) (length row) cs)
all_kept named front row [] few among = refl
all_kept named front row (c ∷ cs) few among = by_test (is_of_table (length front) (length row) c) refl (all_kept named front row cs few among.1)
  where
    made : Row
    made = masked (named_columns (length front) (length row) named) row

    others : List Condition
    others = filter (is_of_table (length front) (length row)) cs

    by_test : (b : Bool) → is_of_table (length front) (length row) c ≡ b
        → list_all (λ d. truth_of d made) (map (own_condition (length front)) others)
        ≡ list_all (λ d. truth_of d row) (map (own_condition (length front)) others)
        → list_all (λ d. truth_of d made) (map (own_condition (length front)) (cond b (c ∷ others) others))
        ≡ list_all (λ d. truth_of d row) (map (own_condition (length front)) (cond b (c ∷ others) others))
    by_test true is later =
        ap (λ b. b && list_all (λ d. truth_of d made) (map (own_condition (length front)) others)) (ap is_known (own_kept named front row c few among.0 is))
        ∙ ap (λ b. truth_of (own_condition (length front) c) row && b) later
    by_test false is later = later

-- a restriction is true of a masked row where it is true of the row
pub restriction_kept : (from width : ℕ) (cs : List Condition) (named : List ℕ) (row : Row)
    → width ≤ 32 → length row ≡ width → AllByRecursion (λ c. Among named (columns_of c)) cs
    → truth_of (restriction from width cs) (masked (named_columns from width named) row) ≡ truth_of (restriction from width cs) row
restriction_kept from width cs named row few fit among =
    let front : Row = replicate from Null in
    let here : ℕ → ℕ → Type 0 = λ m n. truth_of (restriction m n cs) (masked (named_columns m n named) row) ≡ truth_of (restriction m n cs) row in
    let short : length row ≤ 32 = subst (λ (n : ℕ). n ≤ 32) (sym fit) few in
    let made : Row = masked (named_columns (length front) (length row) named) row in
    let own : here (length front) (length row) =
    joined_truth True (own_conditions (length front) (length row) cs) made
    ∙ (all_kept named front row cs short among ∙ sym (joined_truth True (own_conditions (length front) (length row) cs) row)) in
    subst (λ (n : ℕ). here from n) fit (subst (λ (m : ℕ). here m (length row)) (length-replicate from Null) own)
