use Rattle.std.proofs.Common.{◌≡◌, ◌≤◌, ◌++◌, ◌-◌, ℕ, map, vec_len, vec_capacity}
use Rattle.std.specs.List.{range_with_len}
use Rattle.hy_event.specs.Ended.{placed_in}
use Rattle.hy_session.proofs.ends.count_placed_each.Given as goal

abbrev pub invariant-loop-table : goal.invariant-loop-table
invariant-loop-table l = record {
  counted : l.counts.items ++ map (λ (table : ℕ). placed_in table l.statements l.took) (range_with_len l.table (l.tables - l.table))
      ≡ map (λ (table : ℕ). placed_in table l.statements l.took) (range_with_len 0 l.tables);
  many : vec_len l.counts ≡ l.table;
  room : l.tables ≤ vec_capacity l.counts;
}
