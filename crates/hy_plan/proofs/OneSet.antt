-- The set of a table's named columns has just these, and no other set has.
use Rattle.std.proofs.Common.{◌≡◌, ℕ, zero, suc, ◌+◌, ◌^◌, ◌<◌, List, refl, ap, ◌∙◌, sym, arith}
use Rattle.std.specs.Prelude.{Bool, true, false, ◌&&◌, ◌==◌, nat_lt}
use Rattle.std.specs.Int.{bit_at}
use Rattle.std.proofs.lemmas.Bool.{lt-ltb}
use Rattle.std.proofs.lemmas.Nat.Bits.{bit_at-lt, same_from_bits_below}
use Rattle.hy_value.specs.declared.ColMask.{ColMask}
use Rattle.hy_value.specs.Columns.{has_column}
use Rattle.hy_bound.specs.Agreement.{is_named}
use Rattle.hy_plan.specs.ColumnSets.{columns_where, named_columns}
use Rattle.hy_plan.specs.Members.{bit_if, bits_fit, has_named}
use Rattle.hy_plan.specs.OfOneTable.{ColumnsAreThoseNamed, NamedColumnsAreOneSet}

-- of the columns of a table a set has just those that are named
pub those_named : ColumnsAreThoseNamed
those_named from width named k few =
    has_named from width named k ∙ ap (λ b. b && (nat_lt k width && is_named named (from + k))) (lt-ltb k 32 few)

bit_tested : (bit : ℕ) → bit < 2 → bit ≡ bit_if (bit == 1)
bit_tested zero h = refl
bit_tested (suc zero) h = refl
bit_tested (suc (suc n)) h = absurd (omega arith)

same_behind : (b x y : Bool) → b ≡ true → (b && x) ≡ (b && y) → x ≡ y
same_behind true x y e h = h
same_behind false x y e h = cc

-- sets with the same columns have the same bits
same_bit : (set other : ColMask) (k : ℕ) → k < 32 → has_column set k ≡ has_column other k → bit_at set.0 k ≡ bit_at other.0 k
same_bit set other k near h =
    bit_tested (bit_at set.0 k) (bit_at-lt set.0 k)
    ∙ (ap bit_if (same_behind (nat_lt k 32) (bit_at set.0 k == 1) (bit_at other.0 k == 1) (lt-ltb k 32 near) h)
    ∙ sym (bit_tested (bit_at other.0 k) (bit_at-lt other.0 k)))

-- and are one
same_members : (set other : ColMask) → set.0 < 2 ^ 32 → other.0 < 2 ^ 32 → ((k : ℕ) → k < 32 → has_column set k ≡ has_column other k) → set ≡ other
same_members set other fits others_fit same =
    let of_number : ℕ → ColMask = λ n. record { 0 = n } in
    ap of_number (same_from_bits_below 32 set.0 other.0 fits others_fit (λ k near. same_bit set other k near (same k near)))

named_fit : (from width : ℕ) (named : List ℕ) → (named_columns from width named).0 < 2 ^ 32
unfolding named_columns columns_where
named_fit from width named = bits_fit 32 (λ column. nat_lt column width && is_named named (from + column))

-- a set that has just the named columns is that set
pub one_set : NamedColumnsAreOneSet
one_set from width named set fits has =
    same_members set (named_columns from width named) fits (named_fit from width named)
    (λ k near. has k near ∙ sym (those_named from width named k near))
