-- The text of a trace: a line for each step of a run, in their order.
use Rattle.std.specs.Prelude.{ℕ, suc, ◌-◌, ◌==◌, List, [], ◌∷◌, ◌++◌, Option, None, Some, codes, length, slice_index_or, if◌then◌else◌}
use Rattle.std.specs.Fmt.{decimal}
use Rattle.hy_bound.specs.declared.Ending.{Ending}
use Rattle.hy_bound.specs.declared.schedule.Item.{Item}
use Rattle.hy_bound.specs.declared.Reply.{Reply}
use Rattle.hy_bound.specs.declared.Reply.TheVariants.{Rows, Value as Total, Groups, Inserted, Duplicate, Updated, Deleted, Saved, Back, Released}
use Rattle.hy_stamp.specs.declared.Label.{Label}
use Rattle.hy_event.specs.declared.Need.{Need}
use Rattle.hy_event.specs.declared.Need.TheVariants.{Core, Chunk, Done}
use Rattle.hy_protocol.specs.declared.Phase.{Phase}
use Rattle.hy_protocol.specs.declared.Phase.TheVariants.{Working, Stamping, Undoing}
use Rattle.hy_protocol.specs.declared.Progress.{Progress}
use Rattle.hy_protocol.specs.declared.Progress.TheVariants.{Blocked, Moved, Answered, Ended}
use Rattle.hy_render.specs.declared.Names.{Names}
use Rattle.hy_render.specs.Report.{line, word, label_name, place_name, reply_text, ending_text}
use Rattle.hy_machine.specs.declared.Setting.{Setting}
use Rattle.hy_machine.specs.States.{State}
use Rattle.hy_machine.specs.Steps.{step_of}
use Rattle.hy_machine.specs.Runs.{opening_of}
use Rattle.hy_trace.specs.declared.standing.At.{At}
use Rattle.hy_trace.specs.declared.standing.Work.{Work}
use Rattle.hy_trace.specs.declared.standing.Work.TheVariants.{Nothing, Begin, Statement, Commit, Rollback, Stamp, Undo}
use Rattle.hy_trace.specs.Standing.{Told, at_of, told_of}
use Rattle.hy_trace.specs.Steps.{run_taken}

-- ---- where a session stands before the step

-- what it is at
abbrev pub work_words : Work → List ℕ
work_words Nothing = []
work_words Begin = codes "begin"
work_words (Statement number) = codes "statement " ++ decimal number
work_words Commit = codes "commit"
work_words Rollback = codes "rollback"
work_words Stamp = codes "stamp"
work_words Undo = codes "undo"

-- a part: the core, or a chunk by its table and its number there
abbrev pub part_words : Names → Need → List ℕ
part_words names Core = codes "core"
part_words names (Chunk table chunk) = place_name names table chunk
part_words names Done = []

-- a transaction and what it is at
abbrev pub task_words : Names → Label → Work → List ℕ
task_words names label work = word (label_name names label) ++ word (work_words work)

-- a visit of a part
abbrev pub visit_words : Names → Label → Need → Work → List ℕ
visit_words names label part work = task_words names label work ++ codes "at " ++ part_words names part ++ codes ":"

-- a session that has ended is named alone; else its transaction is, and what it is at, with the part, which is the core where
-- it begins
abbrev pub standing_words : Names → Label → Need → Work → List ℕ
standing_words names label part Nothing = slice_index_or names.sessions label.session []
standing_words names label part Begin = word (label_name names label) ++ codes "begin:"
standing_words names label part (Statement number) = visit_words names label part (Statement number)
standing_words names label part Commit = visit_words names label part Commit
standing_words names label part Rollback = visit_words names label part Rollback
standing_words names label part Stamp = visit_words names label part Stamp
standing_words names label part Undo = visit_words names label part Undo

abbrev pub at_words : Names → At → List ℕ
at_words names at = standing_words names at.label at.part at.work

-- ---- what the step came to

-- the first line of a reply
abbrev pub first_line : Reply → List ℕ
first_line (Rows rows) = line (codes "rows " ++ decimal (length rows))
first_line (Total total) = reply_text (Total total)
first_line (Groups groups) = line (codes "groups " ++ decimal (length groups))
first_line Inserted = reply_text Inserted
first_line Duplicate = reply_text Duplicate
first_line (Updated count) = reply_text (Updated count)
first_line (Deleted count) = reply_text (Deleted count)
first_line Saved = reply_text Saved
first_line Back = reply_text Back
first_line Released = reply_text Released

-- a transaction that is open has answered a statement, or has begun, and reads so many commits
abbrev pub open_line : ℕ → Option Reply → List ℕ
open_line prefix None = line (codes "start " ++ decimal prefix)
open_line prefix (Some reply) = first_line reply

abbrev pub ended_line : Names → Option Ending → List ℕ
ended_line names None = []
ended_line names (Some ending) = line (ending_text names ending)

-- a session that answered: one that has no transaction open has ended it
abbrev pub answer_line : Names → Option ℕ → Option Reply → Option Ending → List ℕ
answer_line names None reply ending = ended_line names ending
answer_line names (Some prefix) reply ending = open_line prefix reply

abbrev pub moved : List ℕ
moved = line (codes "moved")

-- a transaction that has stamped nothing yet has just entered the commit order, as the last of so many entries
abbrev pub stamping_line : ℕ → ℕ → List ℕ
stamping_line entries visited = if visited == 0 then line (codes "entered " ++ decimal (entries - 1)) else moved

-- one that has undone nothing yet has just been refused, and will end so
abbrev pub undoing_line : Names → ℕ → Ending → List ℕ
undoing_line names visited cause = if visited == 0 then codes "refused " ++ line (ending_text names cause) else moved

-- a session that went on, by where its transaction stands then
abbrev pub moved_line : Names → ℕ → Option Phase → List ℕ
moved_line names entries None = moved
moved_line names entries (Some (Working visited count)) = moved
moved_line names entries (Some (Stamping visited)) = stamping_line entries visited
moved_line names entries (Some (Undoing visited cause)) = undoing_line names visited cause

abbrev pub told_line : Names → Told → Progress → List ℕ
told_line names told (Blocked by) = line (codes "waits for " ++ label_name names by)
told_line names told Moved = moved_line names told.entries told.phase
told_line names told Answered = answer_line names told.prefix told.reply told.ending
told_line names told Ended = line (codes "ended")

-- ---- lines

-- the line of a step: its number among the steps, who took it and where, and what it came to
abbrev pub line_by : Names → ℕ → At → Told → Progress → List ℕ
line_by names count at told stepped = word (decimal count) ++ word (at_words names at) ++ told_line names told stepped

abbrev pub step_line : Names → Setting → ℕ → State → ℕ → List ℕ
step_line names setting count state number =
    line_by names count (at_of setting state number) (told_of (step_of setting state number).0 number) (step_of setting state number).1

-- the lines of the steps of these sessions, one after another, so many steps being done before
abbrev pub lines_from : Names → Setting → ℕ → State → List ℕ → List ℕ
lines_from names setting done state [] = []
lines_from names setting done state (number ∷ numbers) =
    step_line names setting (suc done) state number ++ lines_from names setting (suc done) (step_of setting state number).0 numbers

-- a run's trace: the lines of its steps, and the last line
abbrev pub trace_text : Names → Setting → List Item → List ℕ
trace_text names setting items = lines_from names setting 0 (opening_of setting) (run_taken setting items) ++ line (codes "end")
