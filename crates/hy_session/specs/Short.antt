-- Which visits leave no long chain behind them.
use Rattle.std.specs.Prelude.{◌≡◌, ℕ, Bool, true, false, nat_le, Option, None, Some}
use Rattle.std.specs.Option.{option_map_or}
use Rattle.hy_bound.specs.declared.Bound.{Bound}
use Rattle.hy_bound.specs.declared.Bound.TheVariants.{Select, Group, Insert, Update, Delete, Savepoint, RollbackTo, Release}
use Rattle.hy_bound.specs.Records.{shape_of}
use Rattle.hy_undo.specs.Chunks.{ChunkData}
use Rattle.hy_visit.specs.Pruning.{AllShort}
use Rattle.hy_event.specs.declared.SessionData.{SessionData}
use Rattle.hy_event.specs.declared.Open.{Open}
use Rattle.hy_protocol.specs.declared.Phase.{Phase}
use Rattle.hy_protocol.specs.declared.Phase.TheVariants.{Working, Stamping, Undoing}
use Rattle.hy_event.specs.Needs.{checks_of}
use Rattle.hy_session.specs.Near.{present_statement}

-- whether a visit of a statement prunes, so many being done: those of UPDATE and DELETE, and that of an INSERT which
-- looks for a position
abbrev pub statement_prunes : SessionData → ℕ → Bound → Bool
statement_prunes session visited (Select tables ons pred items) = false
statement_prunes session visited (Group table pred key aggregate) = false
statement_prunes session visited (Insert table row) = nat_le (checks_of session (shape_of session.shapes table).key) visited
statement_prunes session visited (Update table sets pred) = true
statement_prunes session visited (Delete table pred) = true
statement_prunes session visited (Savepoint name) = false
statement_prunes session visited (RollbackTo name) = false
statement_prunes session visited (Release name) = false

-- whether the next visit of an open transaction prunes; a stamp visit does
abbrev pub visit_prunes : SessionData → Open → Phase → Bool
visit_prunes session now (Working visited count) = option_map_or (statement_prunes session visited) (present_statement session now) false
visit_prunes session now (Stamping visited) = true
visit_prunes session now (Undoing visited cause) = false

-- where a session prunes and its visit was such a one, each chain of the chunk has at most as many records below the
-- next time of its cover as the cover has starts
abbrev pub LeavesShort : SessionData → Option Open → ChunkData → Type 0
LeavesShort session None new = Unit {0}
LeavesShort session (Some now) new = session.prunes ≡ true → visit_prunes session now now.phase ≡ true → AllShort now.cover new.places
