-- The first of rows that are kept by column.
use Rattle.std.proofs.Common.{◌≡◌, ℕ, ◌<◌, ◌≤◌, List, [], ◌∷◌, length, take, ap, sym, ◌∙◌, arith}
use Rattle.std.proofs.lemmas.List.{take_all}
use Rattle.std.proofs.lemmas.List.FromFn.{take-map-range_with_len}
use Rattle.hy_value.specs.declared.Value.{Value}
use Rattle.hy_plan.specs.Cells.{GatheredRows, row_at, rows_of, ReachTo}
use Rattle.hy_plan.proofs.Cells.{length-rows_of}

abbrev Columns : Type 0
Columns = List (List Value)

-- columns that reach so far reach less far
pub reach_less : (n len : ℕ) (columns : Columns) → n ≤ len → ReachTo len columns → ReachTo n columns
reach_less n len [] less reach = tt
reach_less n len (c ∷ cs) less reach = let h : len ≤ length c = reach.0 in (omega (arith, less, h), reach_less n len cs less reach.1)

abbrev seen : ℕ → Columns → GatheredRows
seen len columns = record { width = length columns; rows = rows_of len columns }

abbrev with_rows : Columns → Columns → GatheredRows
with_rows columns rows = record { width = length columns; rows = rows }

abbrev first_of : ℕ → GatheredRows → GatheredRows
first_of n was = record { width = was.width; rows = take n was.rows }

-- fewer rows
pub seen_less : (n len : ℕ) (columns : Columns) (was : GatheredRows) → n < len → seen len columns ≡ was → seen n columns ≡ first_of n was
seen_less n len columns was less is =
    let few : n ≤ len = omega (arith, less) in
    let first : take n (rows_of len columns) ≡ rows_of n columns = take-map-range_with_len (row_at columns) 0 len n few in
    ap (with_rows columns) (sym first) ∙ ap (first_of n) is

-- no fewer
pub seen_all : (n len : ℕ) (columns : Columns) (was : GatheredRows) → len ≤ n → seen len columns ≡ was → was ≡ first_of n was
seen_all n len columns was more is =
    let few : length (rows_of len columns) ≤ n = omega (arith, more, length-rows_of len columns) in
    let all : length was.rows ≤ n = omega (arith, few, ap (λ (g : GatheredRows). length g.rows) is) in
    ap (λ (rows : Columns). record was { rows = rows }) (sym (take_all n was.rows all))
