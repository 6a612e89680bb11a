use Rattle.std.proofs.Common.{◌≡◌, ◌+◌, ◌-◌, ◌≤◌, ◌++◌, length, take, vec_len, vec_capacity}
use Rattle.hy_plan.specs.Numbers.{numbered}
use Rattle.hy_plan.specs.Placed.{values_picked}
use Rattle.hy_plan.proofs.column.push_numbers.Given as goal

-- the values at the places so far, and room for the rest
abbrev pub invariant-loop-index : goal.invariant-loop-index
invariant-loop-index g l = record {
  even : length l.nulls.items ≡ length l.numbers.items;
  picked : numbered l.numbers.items l.nulls.items ≡ numbered l.fn.numbers.items l.fn.nulls.items ++ values_picked (g.S.PlacedRows.rows l.source) (take l.index l.places) l.column;
  room : vec_len l.numbers + (length l.places - l.index) ≤ vec_capacity l.numbers;
  marks : vec_len l.nulls + (length l.places - l.index) ≤ vec_capacity l.nulls;
}
