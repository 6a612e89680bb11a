use Rattle.std.proofs.Common.{◌≡◌, drop}
use Rattle.std.specs.List.{slice_get}
use Rattle.hy_event.specs.Sessions.{chunks_from}
use Rattle.hy_session.specs.Savepoints.{places_since}
use Rattle.hy_session.proofs.Session.left_of_written.Given as goal

-- what is left of the tables is looked at so many behind
abbrev pub invariant-loop-table : goal.invariant-loop-table
invariant-loop-table l =
    slice_get (chunks_from l.self (places_since l.now l.savepoint) l.table (drop l.table l.self.shapes)) l.left
    ≡ slice_get (chunks_from l.self (places_since l.now l.savepoint) 0 l.self.shapes) l.visited
