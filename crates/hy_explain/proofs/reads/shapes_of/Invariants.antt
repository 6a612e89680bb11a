use Rattle.std.proofs.Common.{◌≡◌, ◌++◌, map, drop}
use Rattle.hy_bind.specs.Shapes.{defined_shape}
use Rattle.hy_explain.proofs.reads.shapes_of.Given as goal

-- the shapes so far, and those of what is left
abbrev pub invariant-loop-table : goal.invariant-loop-table
invariant-loop-table l = l.shapes ++ map defined_shape (drop l.table-index l.tables) ≡ map defined_shape l.tables
