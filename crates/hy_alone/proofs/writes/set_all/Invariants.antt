use Rattle.std.proofs.Common.{◌≡◌, ◌++◌, drop}
use Rattle.std.specs.Option.{option_map}
use Rattle.hy_meaning.specs.Statement.{updated_rows}
use Rattle.hy_alone.proofs.writes.set_all.Given as goal

-- the rows so far, and what becomes of those that are left
abbrev pub invariant-loop-row : goal.invariant-loop-row
invariant-loop-row l = updated_rows l.sets l.pred l.rows ≡ option_map (λ rest. l.all ++ rest) (updated_rows l.sets l.pred (drop l.row-index l.rows))
