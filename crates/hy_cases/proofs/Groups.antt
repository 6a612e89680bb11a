-- A sum of a column that was not gathered, and a change of a column of WHERE that doesn't hit a record without it.
use Rattle.std.proofs.Common.{◌≡◌, ℕ, zero, suc, [], ◌∷◌, None, Some, refl, ap, arith}
use Rattle.std.specs.Prelude.{List, ℤ, pos}
use Rattle.hy_bound.specs.declared.Aggregate.TheVariants.{Count, Sum}
use Rattle.hy_bound.specs.declared.Grouped.{Grouped}
use Rattle.hy_bound.specs.declared.Reply.{Reply}
use Rattle.hy_bound.specs.declared.Reply.TheVariants as reply
use Rattle.hy_bound.specs.Changes.{FitChanges, Miss}
use Rattle.hy_bound.specs.Condition.{True}
use Rattle.hy_plan.specs.ColumnSets.{bits_where, columns_where, named_columns}
use Rattle.hy_cases.specs.Examples.{number}
use Rattle.hy_cases.specs.Groups.{GroupedColumnSuffices, GatheredColumnsSuffice, of_what_is_gathered, pairs, second_is_one, leaving_second}
use Rattle.hy_cases.proofs.Unseen.{no_key}

-- a group that has this value and this total
abbrev group_of : ℕ → ℕ → Grouped
group_of value total = record { value = number value; total = pos total }

-- the total of the first group that is told
abbrev first_total : Reply → ℤ
first_total (reply.Groups (group ∷ groups)) = group.total
first_total other = pos 0

-- groups that are told and others
abbrev Told : List Grouped → List Grouped → Type 0
Told groups others = Some (reply.Groups groups) ≡ Some (reply.Groups others)

pub grouped_column_fails : GroupedColumnSuffices → ⊥
unfolding named_columns columns_where bits_where
grouped_column_fails law =
    let same : pos 0 ≡ pos 2 = ap first_total
    (law (record { width = 2; key = None }) 0 True 0 (Sum 1) ((number 1 ∷ number 2 ∷ []) ∷ []) (omega arith, (refl, tt))) in absurd cc

pairs_fit : FitChanges pairs leaving_second
pairs_fit zero = (no_key 2, ((omega arith, (refl, tt)), (omega arith, (refl, tt))))
pairs_fit (suc table) = (no_key 0, ((omega arith, tt), (omega arith, tt)))

second_unhit : Miss (of_what_is_gathered (record { width = 2; key = None }) 1 0 second_is_one 0 Count ∷ []) leaving_second
unfolding named_columns columns_where bits_where
second_unhit zero = refl
second_unhit (suc table) = refl

pub gathered_columns_fail : GatheredColumnsSuffice → ⊥
gathered_columns_fail law =
    let same : Told [] (group_of 1 1 ∷ []) = law pairs 1 0 second_is_one 0 Count leaving_second pairs_fit second_unhit in absurd cc
