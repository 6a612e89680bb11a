-- What a script comes to.
use Rattle.std.specs.Prelude.{◌≡◌, ℕ, ◌+◌, List, Bool, true, false, Option, None, Some, IfSome, is_some, option_and_then, take, drop, map}
use Rattle.hy_bound.specs.declared.schedule.Item.{Item}
use Rattle.hy_script.specs.declared.Script.{Script}
use Rattle.hy_script.specs.declared.Options.{Options}
use Rattle.hy_render.specs.declared.Names.{Names}
use Rattle.hy_render.specs.declared.Outcome.{Outcome}
use Rattle.hy_top.specs.Settings.{setting_at}
use Rattle.hy_machine.specs.Runs.{run_of}
use Rattle.hy_machine.specs.Outcomes.{outcome_of}
use Rattle.hy_world.specs.SomeRuns.{IsSomeRun}
use Rattle.hy_words.specs.declared.Command.{Command}
use Rattle.hy_words.specs.declared.Command.TheVariants.{Run, Check, Recover, Trace, Explain, Serve, Gen}
use Rattle.hy_gen.specs.Made.{made}
use Rattle.hy_limits.specs.declared.TheConstants.{MOST_BYTES}

-- of all bytes that a source has left, those that are read: one more than a script may have, at most
abbrev pub bytes_read : List ℕ → List ℕ
bytes_read all = take (MOST_BYTES + 1) all

-- and those that stay in the source
abbrev pub bytes_left : List ℕ → List ℕ
bytes_left all = drop (MOST_BYTES + 1) all

-- these bytes are read of a source: where it tells its own, the first of them
abbrev pub IsRead : Option (List ℕ) → List ℕ → Type 0
IsRead rest bytes = IfSome rest (λ all. bytes ≡ bytes_read all)

-- how a command takes a script: a made one has 4 chunks of 16 rows
abbrev pub options_by : Command → Options
options_by (Run threads prune log chunks rows) = record { chunks = chunks; rows = rows }
options_by (Check chunks rows) = record { chunks = chunks; rows = rows }
options_by (Recover dumps chunks rows) = record { chunks = chunks; rows = rows }
options_by (Trace prune chunks rows) = record { chunks = chunks; rows = rows }
options_by (Explain prune chunks rows) = record { chunks = chunks; rows = rows }
options_by (Serve log chunks rows) = record { chunks = chunks; rows = rows }
options_by (Gen seed sessions txns threads) = record { chunks = 4; rows = 16 }

-- what a command serves by, if it is one that serves
abbrev pub served_by : Command → Option Options
served_by (Run threads prune log chunks rows) = None
served_by (Check chunks rows) = None
served_by (Recover dumps chunks rows) = None
served_by (Trace prune chunks rows) = None
served_by (Explain prune chunks rows) = None
served_by (Serve log chunks rows) = Some (record { chunks = chunks; rows = rows })
served_by (Gen seed sessions txns threads) = None

abbrev pub does_serve : Option Command → Bool
does_serve command = is_some (option_and_then served_by command)

-- whether a command reads a script: others make one, or serve line by line
abbrev pub reads_script : Command → Bool
reads_script (Run threads prune log chunks rows) = true
reads_script (Check chunks rows) = true
reads_script (Recover dumps chunks rows) = true
reads_script (Trace prune chunks rows) = true
reads_script (Explain prune chunks rows) = true
reads_script (Serve log chunks rows) = false
reads_script (Gen seed sessions txns threads) = false

-- the script that a command makes; one that reads a script, or serves, makes none
abbrev pub made_by : Command → Option Script
made_by (Run threads prune log chunks rows) = None
made_by (Check chunks rows) = None
made_by (Recover dumps chunks rows) = None
made_by (Trace prune chunks rows) = None
made_by (Explain prune chunks rows) = None
made_by (Serve log chunks rows) = None
made_by (Gen seed sessions txns threads) = Some (made seed sessions txns)

-- whether a command keeps a redo log of what it runs or serves
abbrev pub keeps_log : Command → Bool
keeps_log (Run threads prune log chunks rows) = log
keeps_log (Check chunks rows) = false
keeps_log (Recover dumps chunks rows) = false
keeps_log (Trace prune chunks rows) = false
keeps_log (Explain prune chunks rows) = false
keeps_log (Serve log chunks rows) = log
keeps_log (Gen seed sessions txns threads) = false

-- whether a command runs each session of a script that it reads on a thread of its own
abbrev pub runs_threads : Command → Bool
runs_threads (Run threads prune log chunks rows) = threads
runs_threads (Check chunks rows) = false
runs_threads (Recover dumps chunks rows) = false
runs_threads (Trace prune chunks rows) = false
runs_threads (Explain prune chunks rows) = false
runs_threads (Serve log chunks rows) = false
runs_threads (Gen seed sessions txns threads) = false

-- whether a command has to do with the disk: it keeps a log there, or reads one; no command has nothing to do with it
abbrev pub uses_disk : Option Command → Bool
uses_disk None = false
uses_disk (Some (Run threads prune log chunks rows)) = log
uses_disk (Some (Check chunks rows)) = false
uses_disk (Some (Recover dumps chunks rows)) = true
uses_disk (Some (Trace prune chunks rows)) = false
uses_disk (Some (Explain prune chunks rows)) = false
uses_disk (Some (Serve log chunks rows)) = log
uses_disk (Some (Gen seed sessions txns threads)) = false

-- the names that its outcome is printed with
abbrev pub names_at : Script → Names
names_at script = record { tables = map (λ table. table.name) script.catalog; sessions = map (λ session. session.name) script.sessions }

-- what the machine's run of the script comes to, by its schedule and then rounds
abbrev pub comes_to : Script → Outcome
comes_to script = outcome_of (setting_at script) (run_of (setting_at script) script.schedule)

-- the script with this schedule in place of its own
abbrev pub scheduled : Script → List Item → Script
scheduled script schedule = record script { schedule = schedule }

-- what a run of the script may come to: with each session on a thread of its own, what the machine comes to by some steps of the
-- sessions, whatever their order; else what it comes to by the schedule
abbrev pub MayCome : Bool → Script → Outcome → Type 0
MayCome true script outcome = IsSomeRun (setting_at script) outcome
MayCome false script outcome = outcome ≡ comes_to script
