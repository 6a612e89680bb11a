use Rattle.std.proofs.Common.{◌≡◌, ◌-◌, ◌≤◌, Ok, length}
use Rattle.hy_parse.specs.Pieces.{pieces_of}
use Rattle.hy_parse.proofs.Gathering.{behind, gathered}
use Rattle.hy_parse.proofs.pieces.pieces.Given as goal

-- the pieces so far and those from the token on that was found are the whole
abbrev pub invariant-loop : goal.invariant-loop
invariant-loop l = record {
  in_range : l.found.1.end ≤ length l.bytes;
  so_far : behind l.pieces.items (gathered (l.end - l.counter) l.bytes (Ok l.found)) ≡ pieces_of l.bytes l.fn.at;
}
