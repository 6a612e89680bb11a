use Rattle.std.proofs.Common.{◌≡◌, ◌+◌, ◌++◌, length, take}
use Rattle.hy_meaning.specs.Statement.{Table}
use Rattle.hy_gathered.specs.Groups.{groups_by}
use Rattle.hy_gathered.specs.Pieces.{rows_in_pieces}
use Rattle.hy_gathered.proofs.pieces.Pieces.add_each.Given as goal

-- the rows of the pieces so far are counted
abbrev pub invariant-loop-piece : goal.invariant-loop-piece
invariant-loop-piece l = record {
  rows : l.tally.rows ≡ l.fn.tally.rows + length (rows_in_pieces (take l.piece-index l.piece-items));
  groups : (rows : Table) → l.fn.tally.groups ≡ groups_by l.grouping rows
      → l.tally.groups ≡ groups_by l.grouping (rows ++ rows_in_pieces (take l.piece-index l.piece-items));
}
