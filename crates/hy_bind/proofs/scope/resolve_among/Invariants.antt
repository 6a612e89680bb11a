use Rattle.std.proofs.Common.{◌≡◌, ◌*◌, ◌^◌, ◌≤◌, drop}
use Rattle.hy_bind.specs.declared.scope.Search.TheVariants.{Nowhere}
use Rattle.hy_bind.specs.Scope.{searched}
use Rattle.hy_bind.proofs.scope.resolve_among.Given as goal

-- the tables that are left complete what was found so far
abbrev pub invariant-loop-table : goal.invariant-loop-table
invariant-loop-table l = record {
  whole : searched l.scope.script.now l.scope.catalog.now l.reference l.from l.so_far (drop l.table-index l.table-items)
      ≡ searched l.scope.script.now l.scope.catalog.now l.reference 0 Nowhere l.table-items;
  small : l.from ≤ 2 ^ 64 * l.table-index;
}
