-- What a session does at the core, chosen before anything changes.
use Rattle.std.specs.Prelude.{Bool, true, false, List, Option, None, Some}
use Rattle.std.specs.Option.{option_map}
use Rattle.hy_value.specs.declared.change.Change.{Change}
use Rattle.hy_journal.specs.declared.CoreData.{CoreData}
use Rattle.hy_journal.specs.Core.{core_left, core_closed}
use Rattle.hy_bound.specs.declared.Bound.{Bound}
use Rattle.hy_bound.specs.declared.Bound.TheVariants.{Select, Group, Insert, Update, Delete, Savepoint, RollbackTo, Release}
use Rattle.hy_bound.specs.declared.Reply.{Reply}
use Rattle.hy_bound.specs.declared.Reply.TheVariants as reply
use Rattle.hy_bound.specs.declared.Ending.TheVariants.{Committed}
use Rattle.hy_stamp.specs.declared.Label.{Label}
use Rattle.hy_validate.specs.declared.Invalid.{Invalid}
use Rattle.hy_event.specs.declared.SessionData.{SessionData}
use Rattle.hy_event.specs.declared.Open.{Open}
use Rattle.hy_protocol.specs.Turns.{Turn, Done, Waits, Begins, Saves, Enters, Ends, refused, unless_blocked as unless_blocked_by}
use Rattle.hy_protocol.specs.Closing as by_closing
use Rattle.hy_event.specs.CoreTurns.{found_at_core, invalid_by}
use Rattle.hy_event.specs.Turns.{after_saving}
use Rattle.hy_protocol.specs.declared.Progress.{Progress}
use Rattle.hy_protocol.specs.declared.Progress.TheVariants.{Answered, Ended}
use Rattle.hy_session.specs.Near.{present_statement}
use Rattle.hy_session.specs.declared.core_steps.CoreStep.{CoreStep}
use Rattle.hy_session.specs.declared.core_steps.CoreStep.TheVariants as step

-- the core after the end of the open transaction, if there is one, whose entry it has, or that has none
abbrev pub left_by : CoreData → Option Open → CoreData
left_by core None = core
left_by core (Some now) = core_left core now.start

abbrev pub closed_by : CoreData → Option Open → CoreData
closed_by core None = core
closed_by core (Some now) = core_closed core now.start

-- whether it is the end of a transaction that has its entry
abbrev pub leaves : CoreStep → Bool
leaves (step.Wait by) = false
leaves step.Begin = false
leaves step.Save = false
leaves step.Enter = false
leaves (step.Refuse cause) = false
leaves (step.Close cause) = false
leaves (step.Leave rank) = true

-- ---- savepoints

-- the reply to a statement that opens or closes savepoints
abbrev pub saving_reply : Bound → Option Reply
saving_reply (Select tables ons pred items) = None
saving_reply (Group table pred key aggregate) = None
saving_reply (Insert table row) = None
saving_reply (Update table sets pred) = None
saving_reply (Delete table pred) = None
saving_reply (Savepoint name) = Some reply.Saved
saving_reply (RollbackTo name) = Some reply.Back
saving_reply (Release name) = Some reply.Released

-- the turn that answers such a statement
abbrev pub saved_turn : Bound → Option Reply → Turn Change
saved_turn statement None = Done
saved_turn statement (Some reply) = Saves statement reply

abbrev pub saving_if : Option Bound → Turn Change
saving_if None = Done
saving_if (Some statement) = saved_turn statement (saving_reply statement)

abbrev pub saving_in : SessionData → Option Open → Turn Change
saving_in session None = Done
saving_in session (Some now) = saving_if (present_statement session now)

-- an open transaction after such a turn, and what the visit came to
abbrev pub open_after : Option Bound → Option Reply → Open → Open × Progress
open_after None reply now = (now, Ended)
open_after (Some statement) None now = (now, Ended)
open_after (Some statement) (Some reply) now = (after_saving statement reply now, Answered)

-- the reply to a statement, if there is one and it opens or closes savepoints
abbrev pub reply_if : Option Bound → Option Reply
reply_if None = None
reply_if (Some statement) = saving_reply statement

-- the turn that answers the present statement of a session
abbrev pub saving_of : SessionData → Turn Change
saving_of session = saving_in session session.now

-- ---- the turn

-- the turn that a session takes by what it has chosen to do
abbrev pub turn_by : CoreStep → SessionData → CoreData → Turn Change
turn_by (step.Wait by) session core = Waits by
turn_by step.Begin session core = Begins
turn_by step.Save session core = saving_of session
turn_by step.Enter session core = Enters
turn_by (step.Refuse cause) session core = refused cause
turn_by (step.Close cause) session core = Ends cause
turn_by (step.Leave rank) session core = Ends (Committed rank)

-- the turns of the protocol, by what the session finds out
abbrev pub unless_blocked : CoreData → Option Label → Turn Change → Turn Change
unless_blocked core = unless_blocked_by

abbrev pub validated_turn : SessionData → CoreData → Open → Option Invalid → Turn Change
validated_turn session core now found = by_closing.validated_turn (option_map (invalid_by now.records) found)

abbrev pub commit_turn : SessionData → CoreData → Open → List Change → Turn Change
commit_turn session core now notes = by_closing.free_commit_turn (found_at_core session core now)
