-- What a call of the program reports, and what it leaves.
use Rattle.std.specs.Prelude.{◌≡◌, ℕ, ◌<◌, ◌≤◌, pos, List, [], Bool, true, false, Option, None, Some, Result, Ok, Err, IsNone, IsSome, IfSome, ◌⊎◌, length, map}
use Rattle.std.specs.List.{AllByRecursion}
use Rattle.hy_outside.specs.Telling.{Takes, TakesSome}
use Rattle.hy_dump.specs.Dump.{dump}
use Rattle.hy_explain.specs.Explained.{explained_text}
use Rattle.hy_trace.specs.Trace.{trace_text}
use Rattle.hy_bound.specs.declared.schedule.Item.{Item}
use Rattle.hy_schema.specs.declared.TableDef.{TableDef}
use Rattle.hy_script.specs.declared.Script.{Script}
use Rattle.hy_script.specs.declared.Refused.{Refused}
use Rattle.hy_script.specs.Reading.{Reads}
use Rattle.hy_render.specs.declared.Outcome.{Outcome}
use Rattle.hy_render.specs.Report.{text}
use Rattle.hy_render.specs.Summary.{summary_of, balances}
use Rattle.hy_bank.specs.Bank.{all_money}
use Rattle.hy_bank.specs.Outcomes.{IsToldTheMoney}
use Rattle.hy_bank.specs.Endings.{EndInFourWays, EndingsAddUp}
use Rattle.hy_lawful.specs.Lawful.{Lawful}
use Rattle.hy_lawful.specs.Serial.{IsSerial}
use Rattle.hy_words.specs.declared.Command.{Command}
use Rattle.hy_words.specs.declared.Command.TheVariants.{Run, Check, Recover, Trace, Explain, Serve, Gen}
use Rattle.hy_value.specs.declared.Value.{Value}
use Rattle.hy_render.specs.declared.Names.{Names}
use Rattle.hy_render.specs.Report.{tables_text}
use Rattle.hy_log_record.specs.declared.HeldTable.{HeldTable}
use Rattle.hy_redo.specs.Recovery.{Recovers}
use Rattle.hy_disk.specs.Bytes.{IsOwn}
use Rattle.hy_disk.specs.Calls.{TouchedOf}
use Rattle.hy_redo.specs.Logs.{log_of}
use Rattle.hy_redo.specs.Crashes.{AreLogsOf, IsBegun, IsAsItWas, IsBegunAtMost}
use Rattle.hy_world.specs.Logged.{HasLogged, IsLogOfOrder}
use Rattle.hy_recovery.specs.Recovered.{first_tables, AreRecovered}
use Rattle.hy_setting.specs.Kinds.{catalog_kinds}
use Rattle.hy_machine.specs.Outcomes.{rows_sorted}
use Rattle.hy_machine.specs.Runs.{run_of}
use Rattle.hy_machine.specs.Sessions.{snapshot}
use Rattle.hy_top.specs.Lines.{refusal_line_of, checked_line, not_empty_line, damaged_line}
use Rattle.hy_top.specs.Program.{MayCome, IsRead, comes_to, keeps_log, options_by, names_at, runs_threads, scheduled}
use Rattle.hy_top.specs.Settings.{setting_at}

-- the bytes are refused by a command, and how
abbrev pub IsRefused : Command → List ℕ → Refused → Type 0
IsRefused command bytes refused = Reads bytes (options_by command) (Err refused)

-- the bytes spell this script
abbrev pub Spells : Command → List ℕ → Script → Type 0
Spells command bytes script = Reads bytes (options_by command) (Ok script)

-- the command runs its script, and its report has what that came to
abbrev pub IsRun : Command → Type 0
IsRun (Run threads prune log chunks rows) = Unit {0}
IsRun (Check chunks rows) = ⊥
IsRun (Recover dumps chunks rows) = ⊥
IsRun (Trace prune chunks rows) = ⊥
IsRun (Explain prune chunks rows) = Unit {0}
IsRun (Serve log chunks rows) = ⊥
IsRun (Gen seed sessions txns threads) = Unit {0}

-- a text was written whole, and the status is the one for that, or its first bytes were, and the status is 4
abbrev pub Writes : ℕ → ℕ → Option (List ℕ) → Option (List ℕ) → List ℕ → Type 0
Writes done status before after bytes = ((status ≡ done) × Takes before after bytes) ⊎ ((status ≡ 4) × TakesSome before after bytes)

-- the script was run, on threads or by its schedule: the outcome is there, and what tells it was written
pub record HasRun (told : Outcome → List ℕ) (threads : Bool) (script : Script) (status : ℕ) (outcome : Option Outcome)
    (before after : Option (List ℕ)) : Type 0 where
  pub given : Outcome
  pub outcome_is : outcome ≡ Some given
  pub may_come : MayCome threads script given
  pub writes : Writes 0 status before after (told given)

-- its text
abbrev pub Runs : Bool → Script → ℕ → Option Outcome → Option (List ℕ) → Option (List ℕ) → Type 0
Runs threads script = HasRun (text (names_at script)) threads script

-- its summary
abbrev pub Summarizes : Bool → Script → ℕ → Option Outcome → Option (List ℕ) → Option (List ℕ) → Type 0
Summarizes threads script = HasRun summary_of threads script

-- which of its transactions were refused, and why
abbrev pub Explains : Script → ℕ → Option Outcome → Option (List ℕ) → Option (List ℕ) → Type 0
Explains script = HasRun (explained_text script) false script

-- the script was read: what it has was written
pub record Checks (script : Script) (status : ℕ) (outcome : Option Outcome) (before after : Option (List ℕ)) : Type 0 where
  pub nothing_is_run : IsNone outcome
  pub writes : Writes 0 status before after (checked_line script)

-- the steps of the script's run, by its schedule, were written, and no outcome beside them
pub record Traces (script : Script) (status : ℕ) (outcome : Option Outcome) (before after : Option (List ℕ)) : Type 0 where
  pub no_outcome : IsNone outcome
  pub writes : Writes 0 status before after (trace_text (names_at script) (setting_at script) script.schedule)

-- ---- with a disk, of which a read gave these bytes before, where it tells them: of any disk there are bytes that it held

-- the disk was empty, and the script was run, on threads or by its schedule, with a log made on the disk
pub record RunsLogged (threads : Bool) (script : Script) (held : Option (List ℕ)) (status : ℕ) (outcome : Option Outcome) (before after : Option (List ℕ)) : Type 0 where
  pub empty : IfSome held (λ own. own ≡ [])
  pub runs : Runs threads script status outcome before after

-- the disk has bytes: so no log was made, nothing was run, and this was told
pub record FindsALog (held : Option (List ℕ)) (status : ℕ) (outcome : Option Outcome) (before after : Option (List ℕ)) : Type 0 where
  pub found : List ℕ
  pub own : IsOwn held found
  pub some : 0 < length found
  pub nothing_is_run : IsNone outcome
  pub writes : Writes 7 status before after not_empty_line

-- the script's tables before any commit
abbrev pub tables_at : Script → List HeldTable
tables_at script = first_tables (catalog_kinds script.catalog) (setting_at script)

-- the rows that the bytes recover to, or the offset where they are damaged
abbrev pub IsRestored : Script → List ℕ → Result (List (List (List Value))) ℕ → Type 0
IsRestored script bytes (Ok rows) = AreRecovered (tables_at script) bytes rows
IsRestored script bytes (Err offset) = Recovers (tables_at script) bytes (Err offset)

-- the tables after the first entries of the commit order of the script's run, by its schedule: the rows of each, ascending
abbrev pub tables_after : Script → ℕ → List (List (List Value))
tables_after script count = map rows_sorted (snapshot (setting_at script) (run_of (setting_at script) script.schedule) count)

-- the status for these, and what is written of them
abbrev pub restored_status : Result (List (List (List Value))) ℕ → ℕ
restored_status (Ok rows) = 0
restored_status (Err offset) = 7

-- tables as the text of an outcome ends with them, or as the beginning of a script that makes them
abbrev pub rows_text : Bool → List TableDef → Names → List (List (List Value)) → List ℕ
rows_text false catalog names rows = tables_text names rows
rows_text true catalog names rows = dump catalog rows

abbrev pub restored_text : Bool → Script → Result (List (List (List Value))) ℕ → List ℕ
restored_text dumps script (Ok rows) = rows_text dumps script.catalog (names_at script) rows
restored_text dumps script (Err offset) = damaged_line offset

-- the tables of the script were made again from the log on the disk and written, or it was told where the log is damaged
pub record Restores (dumps : Bool) (script : Script) (held : Option (List ℕ)) (status : ℕ) (outcome : Option Outcome) (before after : Option (List ℕ)) : Type 0 where
  pub found : List ℕ
  pub own : IsOwn held found
  pub restored : Result (List (List (List Value))) ℕ
  pub is : IsRestored script found restored
  pub nothing_is_run : IsNone outcome
  pub writes : Writes (restored_status restored) status before after (restored_text dumps script restored)

-- what the command asks for was done; one that serves does nothing with a script
abbrev pub Does : Command → Script → Option (List ℕ) → ℕ → Option Outcome → Option (List ℕ) → Option (List ℕ) → Type 0
Does (Run threads prune false chunks rows) script held status outcome before after = Runs threads script status outcome before after
Does (Run threads prune true chunks rows) script held status outcome before after =
    RunsLogged threads script held status outcome before after ⊎ FindsALog held status outcome before after
Does (Check chunks rows) script held status outcome before after = Checks script status outcome before after
Does (Recover dumps chunks rows) script held status outcome before after = Restores dumps script held status outcome before after
Does (Trace prune chunks rows) script held status outcome before after = Traces script status outcome before after
Does (Explain prune chunks rows) script held status outcome before after = Explains script status outcome before after
Does (Serve log chunks rows) script held status outcome before after = ⊥
Does (Gen seed sessions txns threads) script held status outcome before after = Summarizes threads script status outcome before after

-- nothing came of it, since memory ran out or the disk failed
abbrev pub GaveUp : ℕ → Type 0
GaveUp status = (status ≡ 5) ⊎ (status ≡ 6)

-- what a command did with a script that it made: what it asks for, unless memory ran out; the outcome is lawful, and
-- serializable in its order; the accounts have the money that they had, and every audit was told it; every transaction is
-- committed, has only read, is in conflict or is invalid, and the counts of these four come to how many there are
pub record Makes (command : Command) (script : Script) (status : ℕ) (outcome : Option Outcome) (before after : Option (List ℕ)) : Type 0 where
  pub does : (status ≡ 5) ⊎ Does command script None status outcome before after
  pub lawful : IfSome outcome (Lawful (setting_at script))
  pub serial : IfSome outcome (IsSerial (setting_at script))
  pub money : IfSome outcome (λ given. balances given.tables ≡ pos all_money)
  pub audits : IfSome outcome (λ given. AllByRecursion (IsToldTheMoney (setting_at script).programs) given.txns)
  pub endings : IfSome outcome (λ given. EndInFourWays given.txns)
  pub counts : IfSome outcome (λ given. EndingsAddUp given.txns)

-- the answer to bytes that a command read, with a disk that held these, where it tells them: a status, an outcome or none, and what
-- the sink holds before and after
pub record Answers (command : Command) (bytes : List ℕ) (held : Option (List ℕ)) (status : ℕ) (outcome : Option Outcome)
    (before after : Option (List ℕ)) : Type 0 where
  -- where the bytes are refused, the refusal line is written, unless memory ran out
  pub refused : (why : Refused) → IsRefused command bytes why → (status ≡ 5) ⊎ Writes 2 status before after (refusal_line_of why)
  pub refuses : status ≡ 2 → (why : Refused) × IsRefused command bytes why
  -- where they spell a script, what the command asks for is done, unless memory ran out or the disk failed
  pub does : (script : Script) → Spells command bytes script → GaveUp status ⊎ Does command script held status outcome before after
  -- the outcome is lawful, and serializable in the order that it prints
  pub lawful : (script : Script) → Spells command bytes script → IfSome outcome (Lawful (setting_at script))
  pub serial : (script : Script) → Spells command bytes script → IfSome outcome (IsSerial (setting_at script))
  -- an outcome is there only of a script that was run
  pub outcome_there : IsSome outcome → IsRun command × ((script : Script) × Spells command bytes script) × ((status ≡ 0) ⊎ (status ≡ 4))

-- ---- what a crash leaves on the disk

-- the bytes are the log of some first entries of the commit order of the script's run, by its schedule, and recover to the tables after these
pub record IsLogOfScript (script : Script) (bytes : List ℕ) : Type 0 where
  pub count : ℕ
  pub log : IsLogOfOrder (comes_to script).order count bytes
  pub restored : IsRestored script bytes (Ok (tables_after script count))

-- A log is kept: a crash at any moment between these two leaves what one could leave before, or the log of some first entries of the
-- script's run.
pub record KeepsLog {D : Type 0} (clock : D → ℕ) (image_since : D → ℕ → List ℕ → Type 0) (script : Script) (before after : D) : Type 0 where
  pub later : clock before ≤ clock after
  pub moments : (time : ℕ) (bytes : List ℕ) → time ≤ clock before → image_since after time bytes
      → image_since before time bytes ⊎ IsLogOfScript script bytes

-- the making of a log may leave these bytes of an empty disk that could have left these before: where it writes, they may be any
pub record IsHalfMade (held : Option (List ℕ)) (images : List ℕ → Type 0) (bytes : List ℕ) : Type 0 where
  pub empty : IfSome held (λ own. own ≡ [])
  pub touched : TouchedOf 0 (length (log_of [])) images bytes

-- A crash at any moment between these two leaves what one could leave before, what the making of a log may leave, or the log of some
-- first entries of the script's run.
pub record IsSafe {D : Type 0} (held : D → Option (List ℕ)) (clock : D → ℕ) (image : D → List ℕ → Type 0)
    (image_since : D → ℕ → List ℕ → Type 0) (script : Script) (before after : D) : Type 0 where
  pub later : clock before ≤ clock after
  pub moments : (time : ℕ) (bytes : List ℕ) → time ≤ clock before → image_since after time bytes
      → image_since before time bytes ⊎ (IsHalfMade (held before) (image before) bytes ⊎ IsLogOfScript script bytes)

-- Since this time a log has been kept of the outcome's commit order. What a crash leaves now recovers to the outcome's tables, and
-- what one left at any moment since then to the tables after some first entries of the order.
pub record IsLoggedSince {D : Type 0} (image : D → List ℕ → Type 0) (image_since : D → ℕ → List ℕ → Type 0) (script : Script)
    (outcome : Outcome) (time : ℕ) (disk : D) : Type 0 where
  pub has : HasLogged image image_since outcome.order time disk
  pub now : (bytes : List ℕ) → image disk bytes → IsRestored script bytes (Ok outcome.tables)
  pub moments : (bytes : List ℕ) → image_since disk time bytes → (count : ℕ) × IsRestored script bytes (Ok (tables_after script count))

-- the disk came to be as it is when a log was made, and from then on that was kept
pub record IsLogged {D : Type 0} (held : D → Option (List ℕ)) (clock : D → ℕ) (image : D → List ℕ → Type 0)
    (image_since : D → ℕ → List ℕ → Type 0) (script : Script) (outcome : Outcome) (before after : D) : Type 0 where
  pub made : D
  pub making : IsBegun held clock image image_since before made
  pub keeps : KeepsLog clock image_since script made after
  pub since : IsLoggedSince image image_since script outcome (clock made) after

-- A log was made, and kept from then on: what a crash leaves at any moment since then is the empty log that was made, or the log of
-- some first entries of the script's run.
pub record HasKept {D : Type 0} (held : D → Option (List ℕ)) (clock : D → ℕ) (image : D → List ℕ → Type 0)
    (image_since : D → ℕ → List ℕ → Type 0) (script : Script) (before after : D) : Type 0 where
  pub made : D
  pub making : IsBegun held clock image image_since before made
  pub gate : ℕ
  pub empty : AreLogsOf (image made) [] gate
  pub since : (bytes : List ℕ) → image_since after (clock made) bytes → image made bytes ⊎ IsLogOfScript script bytes

-- What a run, on threads or by the script's schedule, kept in a log that was empty: that of a run by some schedule, which comes to the
-- outcome, where there is one.
pub record KeepsLogOf {D : Type 0} (clock : D → ℕ) (image : D → List ℕ → Type 0) (image_since : D → ℕ → List ℕ → Type 0) (threads : Bool)
    (script : Script) (outcome : Option Outcome) (before after : D) : Type 0 where
  pub schedule : List Item
  pub own : threads ≡ false → schedule ≡ script.schedule
  pub comes : IfSome outcome (λ given. given ≡ comes_to (scheduled script schedule))
  pub keeps : KeepsLog clock image_since (scheduled script schedule) before after
  pub logged : IfSome outcome (λ given. IsLoggedSince image image_since (scheduled script schedule) given (clock before) after)

-- what a run of this script by its schedule leaves that keeps a log
pub record LeavesLog {D : Type 0} (held : D → Option (List ℕ)) (clock : D → ℕ) (image : D → List ℕ → Type 0)
    (image_since : D → ℕ → List ℕ → Type 0) (script : Script) (status : ℕ) (outcome : Option Outcome) (before after : D) : Type 0 where
  -- where nothing was run, the disk is as it was, unless memory ran out or the disk failed
  pub stays : IsNone outcome → (GaveUp status → ⊥) → IsAsItWas held clock image image_since before after
  -- where memory ran out, the disk is as it was, or a log was made and kept
  pub short : status ≡ 5 → IsAsItWas held clock image image_since before after ⊎ HasKept held clock image image_since script before after
  -- where the disk failed, it did so before a log was made, or one was made and kept
  pub cut : status ≡ 6 → IsBegunAtMost held clock image image_since before after ⊎ HasKept held clock image image_since script before after
  -- whatever the status
  pub safe : IsSafe held clock image image_since script before after
  pub logged : IfSome outcome (λ given. IsLogged held clock image image_since script given before after)

-- What a run on threads, or by the script's schedule, that keeps a log leaves: what one leaves that comes to the same outcome by some
-- schedule. On threads that is one that the threads decide, else the script's own.
pub record LeavesLogOf {D : Type 0} (held : D → Option (List ℕ)) (clock : D → ℕ) (image : D → List ℕ → Type 0)
    (image_since : D → ℕ → List ℕ → Type 0) (threads : Bool) (script : Script) (status : ℕ) (outcome : Option Outcome) (before after : D) : Type 0 where
  pub schedule : List Item
  pub own : threads ≡ false → schedule ≡ script.schedule
  pub comes : IfSome outcome (λ given. given ≡ comes_to (scheduled script schedule))
  pub leaves : LeavesLog held clock image image_since (scheduled script schedule) status outcome before after

-- what a command that keeps a log leaves, beside the bytes that it read
pub record Leaves {D : Type 0} (held : D → Option (List ℕ)) (clock : D → ℕ) (image : D → List ℕ → Type 0)
    (image_since : D → ℕ → List ℕ → Type 0) (command : Command) (bytes : List ℕ) (status : ℕ) (outcome : Option Outcome)
    (before after : D) : Type 0 where
  pub refused : (why : Refused) → IsRefused command bytes why → after ≡ before
  pub runs : (script : Script) → Spells command bytes script
      → LeavesLogOf held clock image image_since (runs_threads command) script status outcome before after

-- ---- a command that reads a script

-- It answers the bytes that its source gave: where that tells its own, it is these.
pub record IsAnswered {D : Type 0} (held : D → Option (List ℕ)) (clock : D → ℕ) (image : D → List ℕ → Type 0)
    (image_since : D → ℕ → List ℕ → Type 0) (command : Command) (rest : Option (List ℕ)) (status : ℕ) (outcome : Option Outcome)
    (before after : Option (List ℕ)) (old new : D) : Type 0 where
  pub bytes : List ℕ
  pub read : IsRead rest bytes
  pub answers : Answers command bytes (held old) status outcome before after
  pub leaves : keeps_log command ≡ true → Leaves held clock image image_since command bytes status outcome old new
