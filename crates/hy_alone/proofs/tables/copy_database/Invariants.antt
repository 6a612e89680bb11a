use Rattle.std.proofs.Common.{◌≡◌, take}
use Rattle.hy_alone.proofs.tables.copy_database.Given as goal

-- the tables so far
abbrev pub invariant-loop-rows : goal.invariant-loop-rows
invariant-loop-rows l = l.copies ≡ take l.rows-index l.db
