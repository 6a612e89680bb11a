-- A join whose ON names a column that is not shown, and rows that ON refuses.
use Rattle.std.proofs.Common.{◌≡◌, [], ◌∷◌, refl, arith}
use Rattle.std.specs.Prelude.{List, true, false}
use Rattle.hy_value.specs.declared.Value.{Value}
use Rattle.hy_bound.specs.declared.Reply.TheVariants as reply
use Rattle.hy_bound.specs.Condition.{True}
use Rattle.hy_plan.specs.ColumnSets.{bits_where, columns_where, named_columns}
use Rattle.hy_cases.specs.Examples.{row_of}
use Rattle.hy_cases.specs.Plans.{ShownColumnsAnswer, RestrictionsSuffice, two_tables, on_equal, showing_first}

-- rows that are told and others
abbrev pub Told : List (List Value) → List (List Value) → Type 0
Told rows others = reply.Rows rows ≡ reply.Rows others

pub shown_columns_fail : ShownColumnsAnswer → ⊥
unfolding named_columns columns_where bits_where
shown_columns_fail law =
    let same : Told [] (row_of 1 ∷ []) = law two_tables (0 ∷ 1 ∷ []) on_equal True showing_first ((row_of 1 ∷ []) ∷ (row_of 1 ∷ []) ∷ [])
    ((omega arith, (refl, tt)), ((omega arith, (refl, tt)), tt)) in absurd cc

pub restrictions_fail : RestrictionsSuffice → ⊥
restrictions_fail law =
    let same : false ≡ true = law two_tables (0 ∷ 1 ∷ []) on_equal True showing_first (row_of 1 ∷ row_of 2 ∷ []) (refl, (refl, tt)) in absurd cc
