-- The rows of the accounts: each account stands there once, and the balances come to a sum. Their order doesn't matter.
use Rattle.std.proofs.Common.{◌≡◌, ℕ, zero, suc, ◌+◌, ◌*◌, ◌<◌, ◌≤◌, Bool, true, false, cond, List, [], ◌∷◌, ◌⊎◌, inl, inr, map, subst, refl, sym, ap, ◌∙◌, arith, rules, ℤ, pos, ◌+ℤ◌}
use Rattle.std.specs.Prelude.{count_by}
use Rattle.std.specs.List.{AllByRecursion, range_with_len}
use Rattle.std.specs.List.Sorted.{IsPermutation}
use Rattle.std.proofs.lemmas.Bool.{cases_eq}
use Rattle.std.proofs.lemmas.Int.{ints}
use Rattle.std.proofs.lemmas.List.Elements.{All-from_recursion, recursion_from_All}
use Rattle.std.proofs.lemmas.List.Sums.{sum_by-cons}
use Rattle.std.proofs.lemmas.List.Sorted.{All-permutation, sum_by-IsPermutation}
use Rattle.hy_value.specs.declared.Value.{Value}
use Rattle.hy_value.specs.declared.Value.TheVariants.{Int}
use Rattle.hy_value.specs.Sorted.{sorted}
use Rattle.hy_value.specs.Sorting.{sorted_permutes}
use Rattle.hy_value.specs.AnyOrder.{one_for_bags}
use Rattle.hy_bound.specs.Predicate.{column_of, truth_of}
use Rattle.hy_meaning.specs.Totals.{added_of, sum_of}
use Rattle.hy_meaning.specs.Statement.{Table}
use Rattle.hy_gen.specs.Accounts.{first_row, first_rows, of_account}
use Rattle.hy_bank.specs.Bank.{IsAccount, all_money}

-- a row of two values, of which the second is a number
pub data HasBalance : List Value → Type 0 where
  balance : (id : Value) (n : ℤ) → HasBalance (id ∷ Int n ∷ [])

-- whether a row is this account's
abbrev pub is_of : ℕ → List Value → Bool
is_of account row = truth_of (of_account account) row

-- one row more, which passes or doesn't
pub count_cons : (test : List Value → Bool) (row : List Value) (rows : Table)
    → count_by test (row ∷ rows) ≡ cond (test row) (suc (count_by test rows)) (count_by test rows)
count_cons test row rows = sum_by-cons (λ r. cond (test r) 1 0) row rows ∙ by_test (test row) (count_by test rows)
  where
    by_test : (passes : Bool) (many : ℕ) → cond passes 1 0 + many ≡ cond passes (suc many) many
    by_test true many = omega arith
    by_test false many = omega arith

-- rows of accounts: each of the accounts once, and a sum of their balances
pub record HaveMoney (total : ℤ) (rows : Table) : Type 0 where
  pub balanced : AllByRecursion HasBalance rows
  pub once : (account : ℕ) → IsAccount account → count_by (is_of account) rows ≡ 1
  pub sum : sum_of 1 rows ≡ total

-- ---- in any order

sum_swap : (m n s : ℤ) → m +ℤ (n +ℤ s) ≡ n +ℤ (m +ℤ s)
sum_swap m n s = omega (arith, ints)

sum_permutes : (xs ys : Table) → IsPermutation xs ys → sum_of 1 xs ≡ sum_of 1 ys
sum_permutes = one_for_bags (sum_of 1) (λ row xs ys e. ap (λ (s : ℤ). added_of (column_of row 1) +ℤ s) e)
    (λ row other rows. sum_swap (added_of (column_of row 1)) (added_of (column_of other 1)) (sum_of 1 rows))

pub money_sorted : (total : ℤ) (rows : Table) → HaveMoney total rows → HaveMoney total (sorted rows)
money_sorted total rows h =
    let permuted : IsPermutation rows (sorted rows) = sorted_permutes rows in
    let each = All-from_recursion HasBalance rows h.balanced in
    record {
      balanced = recursion_from_All HasBalance (sorted rows) (All-permutation HasBalance rows (sorted rows) permuted each);
      once = λ account is. sum_by-IsPermutation (λ row. cond (is_of account row) 1 0) rows (sorted rows) permuted ∙ h.once account is;
      sum = sym (sum_permutes rows (sorted rows) permuted) ∙ h.sum;
    }

-- ---- the first rows

is_itself : (account : ℕ) → is_of account (first_row account) ≡ true
is_itself account = search rules

is_before : (account number : ℕ) → account < number → is_of account (first_row number) ≡ false
is_before account number before = search rules

is_behind : (account number : ℕ) → number < account → is_of account (first_row number) ≡ false
is_behind account number behind = search rules

first_balanced : (from many : ℕ) → AllByRecursion HasBalance (map first_row (range_with_len from many))
first_balanced from zero = tt
first_balanced from (suc many) = (balance (Int (pos from)) (pos 1000), first_balanced (from + 1) many)

first_total : (from many : ℕ) → sum_of 1 (map first_row (range_with_len from many)) ≡ pos (1000 * many)
first_total from zero = refl
first_total from (suc many) = ap (λ (s : ℤ). pos 1000 +ℤ s) (first_total (from + 1) many) ∙ ap pos (omega arith)

-- an account before these rows has none of them
none_before : (account from many : ℕ) → account < from → count_by (is_of account) (map first_row (range_with_len from many)) ≡ 0
none_before account from zero before = refl
none_before account from (suc many) before =
    let rest : List (List Value) = map first_row (range_with_len (from + 1) many) in
    count_cons (is_of account) (first_row from) rest
    ∙ ap (λ (b : Bool). cond b (suc (count_by (is_of account) rest)) (count_by (is_of account) rest)) (is_before account from before)
    ∙ none_before account (from + 1) many (omega arith)

-- and one among them has one
one_among : (account from many : ℕ) → from ≤ account → account < from + many → count_by (is_of account) (map first_row (range_with_len from many)) ≡ 1
one_among account from zero low high = absurd (omega arith)
one_among account from (suc many) low high =
    count_cons (is_of account) (first_row from) (map first_row (range_with_len (from + 1) many))
    ∙ by_place (cases_eq from account) (λ behind. one_among account (from + 1) many (omega (arith, behind)) (omega arith))
  where
    rest : ℕ
    rest = count_by (is_of account) (map first_row (range_with_len (from + 1) many))

    by_place : (from ≡ account) ⊎ (from ≡ account → ⊥) → (from < account → rest ≡ 1) → cond (is_of account (first_row from)) (suc rest) rest ≡ 1
    by_place (inl e) later =
        ap (λ (b : Bool). cond b (suc rest) rest) (subst (λ number. is_of account (first_row number) ≡ true) (sym e) (is_itself account))
        ∙ ap suc (none_before account (from + 1) many (omega (arith, e)))
    by_place (inr other) later =
        let behind : from < account = omega (arith, other) in
        ap (λ (b : Bool). cond b (suc rest) rest) (is_behind account from behind) ∙ later behind

pub first_money : HaveMoney (pos all_money) first_rows
unfolding first_rows
first_money = record {
  balanced = first_balanced 1 64;
  once = λ account is. one_among account 1 64 is.0 (let last = is.1 in omega (arith, last));
  sum = first_total 1 64;
}
