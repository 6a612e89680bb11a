use Rattle.std.proofs.Common.{◌≡◌, ◌+◌, ◌*◌, ◌^◌, ◌≤◌, drop}
use Rattle.hy_bind.specs.Scope.{total_width}
use Rattle.hy_bind.proofs.listed.joined_width.Given as goal

-- the width so far and that of the tables that are left are the whole
abbrev pub invariant-loop-table : goal.invariant-loop-table
invariant-loop-table l = record {
  whole : l.total + total_width l.scope.catalog.now (drop l.table-index l.table-items) ≡ total_width l.scope.catalog.now l.table-items;
  small : l.total ≤ 2 ^ 64 * l.table-index;
}
