use Rattle.std.proofs.Common.{◌≡◌, ◌≤◌, ◌++◌, ◌-◌, ℕ, List, map}
use Rattle.std.specs.List.{filter, list_any, range_with_len, slice_get}
use Rattle.hy_event.specs.Sessions.{chunks_in_table, lies_in}
use Rattle.hy_session.specs.Savepoints.{places_since}
use Rattle.hy_session.proofs.Session.seek_in_table.Given as goal

-- what is left of the table's chunks is looked at so many behind
abbrev pub invariant-loop-next : goal.invariant-loop-next
invariant-loop-next l = record {
  within : l.chunk ≤ l.self.chunks;
  seeks : (others : List (ℕ × ℕ))
      → slice_get (map (λ (chunk : ℕ). (l.table, chunk))
      (filter (λ (chunk : ℕ). list_any (lies_in l.self l.table chunk) (places_since l.now l.savepoint)) (range_with_len l.chunk (l.self.chunks - l.chunk))) ++ others) l.left
      ≡ slice_get (chunks_in_table l.self (places_since l.now l.savepoint) l.table ++ others) l.behind;
}

abbrev pub decreases-loop-next : goal.decreases-loop-next
decreases-loop-next l = l.self.chunks - l.chunk
