-- What serving comes to, line by line: what is known after a line, what it is answered, and what is told at the end.
use Rattle.std.specs.Prelude.{ℕ, ◌<◌, ◌≤◌, Bool, true, false, List, [], ◌∷◌, ◌++◌, codes, map, replicate, slice_index_or, if◌then◌else◌}
use Rattle.std.specs.Prelude.{Option, Some, None, is_some, option_and_then, option_map}
use Rattle.std.specs.List.{flat_map}
use Rattle.std.specs.Option.{option_map_or}
use Rattle.std.specs.Fmt.{decimal}
use Rattle.hy_limits.specs.declared.TheConstants.{MOST_SESSIONS}
use Rattle.hy_bound.specs.declared.Ending.{Ending}
use Rattle.hy_bound.specs.declared.Reply.{Reply}
use Rattle.hy_bound.specs.declared.Txn.{Txn}
use Rattle.hy_bind.specs.Shapes.{catalog_shapes}
use Rattle.hy_script.specs.declared.Options.{Options}
use Rattle.hy_render.specs.declared.Names.{Names}
use Rattle.hy_render.specs.declared.Outcome.{Outcome}
use Rattle.hy_render.specs.Report.{line, reply_text, ending_text, final_text}
use Rattle.hy_machine.specs.declared.Setting.{Setting}
use Rattle.hy_machine.specs.States.{State, Session}
use Rattle.hy_machine.specs.Sessions.{session_at}
use Rattle.hy_machine.specs.Runs.{opening_of, run_of, whole_of}
use Rattle.hy_machine.specs.Outcomes.{outcome_of}
use Rattle.hy_event.specs.declared.lines.SessionLine.{SessionLine}
use Rattle.hy_event.specs.declared.lines.SessionLine.TheVariants.{Begin, Statement, Commit, Rollback}
use Rattle.hy_session.specs.Latest.{last_of}
use Rattle.hy_growing.specs.Growing.{pushed, whole_item, open_before}
use Rattle.hy_serving.specs.declared.Desk.{Desk}
use Rattle.hy_serving.specs.declared.Saying.{Saying}
use Rattle.hy_serving.specs.declared.Saying.TheVariants.{Nothing, Ends, Defines, Begins, Says, Closes, Refused}
use Rattle.hy_serving.specs.Saying.{fresh, desk_after, ended, first_rows, saying}
use Rattle.hy_serving.specs.Answers.{fronted, own_answer, prefix}

-- everything that serving knows: the desk, which has the tables with their first rows, the names of the sessions, and what is open
-- as text; the scripts of the sessions, in which an open transaction is one that rolls back; the turns, each the session of a line
-- that it took; and the state that these turns come to
pub record Service : Type 0 where
  pub desk : Desk
  pub programs : List (List Txn)
  pub turns : List ℕ
  pub state : State

-- a table has 1 to 64 chunks of 1 to 1024 rows
abbrev pub IsSized : Options → Type 0
IsSized options = (0 < options.chunks) × (options.chunks ≤ 64) × (0 < options.rows) × (options.rows ≤ 1024)

-- what doesn't change while the sessions run
abbrev pub setting_with : Options → Desk → List (List Txn) → Setting
setting_with options desk programs = record {
  chunks = options.chunks;
  rows = options.rows;
  shapes = catalog_shapes desk.sofar.catalog;
  first = first_rows desk;
  programs = programs;
}

abbrev pub setting_of : Options → Service → Setting
setting_of options service = setting_with options service.desk service.programs

-- all sessions that there may be are there from the start, with nothing to do
abbrev pub no_programs : List (List Txn)
no_programs = replicate MOST_SESSIONS []

-- before the first line
abbrev pub opening : Options → Service
opening options = record { desk = fresh; programs = no_programs; turns = []; state = opening_of (setting_with options fresh no_programs) }

-- ---- what is known after a line

-- the line of a session that a line is, if it is one, with the session's number
abbrev pub session_line : Saying → Option (ℕ × SessionLine)
session_line (Begins number read_only name) = Some (number, Begin read_only)
session_line (Says number bound) = Some (number, Statement bound)
session_line (Closes number true) = Some (number, Commit)
session_line (Closes number false) = Some (number, Rollback)
session_line _ = None

-- a session takes its turn in this setting, up to its answer
abbrev pub after_turn : Setting → Service → ℕ → Service
after_turn setting service number = record service {
  programs = setting.programs;
  turns = service.turns ++ number ∷ [];
  state = whole_of setting service.state number;
}

-- where its transaction has ended, it has none open on the desk
abbrev pub settled : ℕ → Service → Service
settled number service =
    if is_some (session_at service.state number).now then service else record service { desk = ended number service.desk }

-- a line of a session makes its script longer, and is its turn
abbrev pub taken : Options → Service → Option (ℕ × SessionLine) → Service
taken options service None = service
taken options service (Some (number, line)) = settled number (after_turn (pushed (setting_of options service) number line) service number)

-- the desk has heard a line. One that defines something makes the setting another, in which nothing has happened.
abbrev pub noted : Options → Service → List ℕ → Service
noted options service line = record service { desk = desk_after options service.desk line }

-- the service after a line
abbrev pub heard : Options → Service → List ℕ → Service
heard options service line = taken options (noted options service line) (session_line (saying options service.desk line))

-- ---- what is answered

abbrev pub names_of : Desk → Names
names_of desk = record { tables = map (λ table. table.name) desk.sofar.catalog; sessions = desk.sofar.names }

abbrev pub name_of : Service → ℕ → List ℕ
name_of service number = slice_index_or service.desk.sofar.names number []

abbrev pub is_begin : SessionLine → Bool
is_begin (Begin read_only) = true
is_begin (Statement bound) = false
is_begin Commit = false
is_begin Rollback = false

-- What a session is told of its turn. Where its transaction has ended, it is how: else BEGIN is told how many commits the transaction
-- reads, and a statement its reply.
abbrev pub told_by : Names → Bool → Option ℕ → Option Reply → Option Ending → List ℕ
told_by names begins None reply ending = option_map_or (λ how. line (ending_text names how)) ending []
told_by names true (Some prefix) reply ending = line (codes "begun " ++ decimal prefix)
told_by names false (Some prefix) reply ending = option_map_or reply_text reply []

abbrev pub told_in : Names → Bool → Session → List ℕ
told_in names begins session =
    told_by names begins
    (option_map (λ current. current.begun.prefix) session.now)
    (option_and_then (λ current. last_of current.begun.replies) session.now)
    (option_map (λ finished. finished.ending) (last_of session.done))

-- with its name in front of each line
abbrev pub told_at : Service → ℕ → Bool → List ℕ
told_at service number begins =
    fronted (prefix (name_of service number)) true (told_in (names_of service.desk) begins (session_at service.state number))

-- the answer to a line that says this, where the service after it is this one
abbrev pub answered : Service → Saying → Option (ℕ × SessionLine) → List ℕ
answered service saying None = own_answer saying
answered service saying (Some (number, line)) = told_at service number (is_begin line)

abbrev pub answer : Options → Service → List ℕ → List ℕ
answer options service line =
    answered (heard options service line) (saying options service.desk line) (session_line (saying options service.desk line))

-- ---- lines, up to END

abbrev pub ends : Saying → Bool
ends Ends = true
ends _ = false

-- the service after them
abbrev pub heard_all : Options → Service → List (List ℕ) → Service
heard_all options service [] = service
heard_all options service (line ∷ lines) =
    if ends (saying options service.desk line) then service else heard_all options (heard options service line) lines

-- their answers, one after another
abbrev pub answers : Options → Service → List (List ℕ) → List ℕ
answers options service [] = []
answers options service (line ∷ lines) =
    if ends (saying options service.desk line) then [] else answer options service line ++ answers options (heard options service line) lines

-- END is among them
abbrev pub has_end : Options → Service → List (List ℕ) → Bool
has_end options service [] = false
has_end options service (line ∷ lines) =
    if ends (saying options service.desk line) then true else has_end options (heard options service line) lines

-- of all lines
abbrev pub after : Options → List (List ℕ) → Service
after options lines = heard_all options (opening options) lines

abbrev pub served : Options → List (List ℕ) → List ℕ
served options lines = answers options (opening options) lines

abbrev pub is_ended_by : Options → List (List ℕ) → Bool
is_ended_by options lines = has_end options (opening options) lines

-- ---- the end

-- what their script comes to, run by a schedule that has a whole item for each turn, and then rounds, which roll back what is open
abbrev pub outcome_at : Options → Service → Outcome
outcome_at options service = outcome_of (setting_of options service) (run_of (setting_of options service) (map whole_item service.turns))

-- what a session of this name is told whose transaction is dropped
abbrev pub dropped_text : List ℕ → List ℕ
dropped_text name = prefix name ++ line (codes "dropped")

abbrev pub dropped_line : Service → ℕ → List ℕ
dropped_line service number = dropped_text (name_of service number)

-- of each session whose transaction is dropped, in order
abbrev pub dropped_lines : Service → List ℕ
dropped_lines service = flat_map (dropped_line service) (open_before service.state MOST_SESSIONS)

-- what is told at the end: these, the commit order and the final tables
abbrev pub closing_of : Options → Service → List ℕ
closing_of options service =
    dropped_lines service
    ++ final_text (names_of service.desk) (outcome_at options service)

-- of all lines
abbrev pub closing : Options → List (List ℕ) → List ℕ
closing options lines = closing_of options (after options lines)

abbrev pub setting_after : Options → List (List ℕ) → Setting
setting_after options lines = setting_of options (after options lines)

abbrev pub outcome_after : Options → List (List ℕ) → Outcome
outcome_after options lines = outcome_at options (after options lines)
