use Rattle.std.proofs.Common.{◌≡◌, ◌+◌, ◌-◌, ◌≤◌, ◌++◌, length, take, vec_len, vec_capacity}
use Rattle.hy_plan.specs.Placed.{values_picked}
use Rattle.hy_plan.proofs.column.push_values.Given as goal

-- the values at the places so far, and room for the rest
abbrev pub invariant-loop-place : goal.invariant-loop-place
invariant-loop-place g l = record {
  picked : l.values.items ≡ l.fn.values.items ++ values_picked (g.S.PlacedRows.rows l.source) (take l.place-index l.places) l.column;
  room : vec_len l.values + (length l.places - l.place-index) ≤ vec_capacity l.values;
}
