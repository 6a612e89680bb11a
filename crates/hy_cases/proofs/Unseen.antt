-- Changes that a count or an INSERT sees, though what the neighbours ask for holds of them.
use Rattle.std.proofs.Common.{◌≡◌, ℕ, zero, suc, List, [], ◌∷◌, Option, None, Some, refl, sym, arith}
use Rattle.std.specs.Prelude.{pos}
use Rattle.std.proofs.lemmas.Option.{same_Some}
use Rattle.hy_value.specs.declared.Value.{Value}
use Rattle.hy_bound.specs.declared.Reply.TheVariants as reply
use Rattle.hy_bound.specs.declared.Shape.{Shape}
use Rattle.hy_bound.specs.Agreement.{FitTable, HasItsKey}
use Rattle.hy_bound.specs.Changes.{present, Miss, FitChanges}
use Rattle.hy_plan.specs.ColumnSets.{bits_where, columns_where, named_columns}
use Rattle.hy_cases.specs.Examples.{row_of, unkeyed, keyed, wide, counting, counting_last, only}
use Rattle.hy_cases.specs.Unseen.{MissBy, HaveColumns, hits_after, hits_before, logged_before, leaving, coming, narrowing, changing_last, inserting}
use Rattle.hy_cases.specs.Unseen.{AfterImagesSuffice, BeforeImagesSuffice, AnyWidthsSuffice, InsertsNeedNoRecord, ManyColumnsSuffice}

pub no_key : (width : ℕ) → HasItsKey (record { width = width; key = None })
no_key width key e = absurd cc

first_key : HasItsKey (record { width = 1; key = Some 0 })
first_key key e = let same : 0 ≡ key = same_Some 0 key e in omega (arith, same)

-- a row of one number, or none
abbrev pub at_most : Option ℕ → Option (List Value)
at_most None = None
at_most (Some n) = Some (row_of n)

one_wide : (shape : Shape) → shape.width ≡ 1 → (cell : Option ℕ) → FitTable shape (present (at_most cell ∷ []))
one_wide shape wide None = (omega (arith, wide), tt)
one_wide shape wide (Some n) = (omega (arith, wide), (sym wide, tt))

pub unkeyed_fit : (before after : Option ℕ) → FitChanges unkeyed (only (at_most before) (at_most after))
unkeyed_fit before after zero = (no_key 1, (one_wide (record { width = 1; key = None }) refl before, one_wide (record { width = 1; key = None }) refl after))
unkeyed_fit before after (suc table) = (no_key 0, ((omega arith, tt), (omega arith, tt)))

keyed_fit : (before after : Option ℕ) → FitChanges keyed (only (at_most before) (at_most after))
keyed_fit before after zero =
    (first_key, (one_wide (record { width = 1; key = Some 0 }) refl before, one_wide (record { width = 1; key = Some 0 }) refl after))
keyed_fit before after (suc table) = (no_key 0, ((omega arith, tt), (omega arith, tt)))

-- ---- counts

-- a count of rows and a count of others
abbrev pub Counted : ℕ → ℕ → Type 0
Counted n m = Some (reply.Value (pos n)) ≡ Some (reply.Value (pos m))

leaving_unhit : MissBy hits_after (logged_before unkeyed 1 counting leaving) leaving
leaving_unhit zero = refl
leaving_unhit (suc table) = refl

pub after_images_fail : AfterImagesSuffice → ⊥
after_images_fail law =
    let same : Counted 0 1 = law unkeyed 1 counting leaving (unkeyed_fit (Some 1) (Some 2)) leaving_unhit in absurd cc

coming_unhit : MissBy hits_before (logged_before unkeyed 1 counting coming) coming
coming_unhit zero = refl
coming_unhit (suc table) = refl

pub before_images_fail : BeforeImagesSuffice → ⊥
before_images_fail law =
    let same : Counted 1 0 = law unkeyed 1 counting coming (unkeyed_fit (Some 2) (Some 1)) coming_unhit in absurd cc

narrowing_unhit : Miss (logged_before unkeyed 1 counting narrowing) narrowing
narrowing_unhit zero = refl
narrowing_unhit (suc table) = refl

pub widths_fail : AnyWidthsSuffice → ⊥
widths_fail law = let same : Counted 0 1 = law unkeyed 1 counting narrowing narrowing_unhit in absurd cc

-- ---- more columns than a set has

wide_columns : HaveColumns wide changing_last
wide_columns zero = (no_key 33, ((refl, tt), (refl, tt)))
wide_columns (suc table) = (no_key 0, (tt, tt))

last_unhit : Miss (logged_before wide 1 counting_last changing_last) changing_last
unfolding named_columns columns_where bits_where
last_unhit zero = refl
last_unhit (suc table) = refl

pub many_columns_fail : ManyColumnsSuffice → ⊥
many_columns_fail law = let same : Counted 0 1 = law wide 1 counting_last changing_last wide_columns last_unhit in absurd cc

-- ---- inserts

pub inserts_fail : InsertsNeedNoRecord → ⊥
inserts_fail law =
    let same : Some reply.Duplicate ≡ Some reply.Inserted = law keyed 0 (row_of 1) inserting (keyed_fit None (Some 1)) in absurd cc
