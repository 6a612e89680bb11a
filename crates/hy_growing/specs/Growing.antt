-- Scripts grow by lines of their sessions: what a line makes of the setting, when a session is ready for it, what its answer
-- leaves, and how transactions that are open at the end are dropped.
use Rattle.std.specs.Prelude.{◌≡◌, ◌≢◌, ◌⊎◌, ℕ, zero, suc, ◌<◌, ◌≤◌, List, [], ◌∷◌, ◌++◌, true, false, if◌then◌else◌}
use Rattle.std.specs.Prelude.{None, Some, is_some, length, map, slice_set}
use Rattle.hy_bound.specs.declared.Ending.TheVariants.{RolledBack}
use Rattle.hy_bound.specs.declared.Txn.{Txn}
use Rattle.hy_bound.specs.declared.schedule.Item.{Item}
use Rattle.hy_event.specs.declared.lines.SessionLine.{SessionLine}
use Rattle.hy_event.specs.declared.lines.SessionLine.TheVariants.{Begin, Statement, Commit, Rollback}
use Rattle.hy_event.specs.Lines.{grown}
use Rattle.hy_protocol.specs.declared.Phase.TheVariants.{Working}
use Rattle.hy_protocol.specs.declared.Progress.TheVariants.{Moved, Answered}
use Rattle.hy_machine.specs.declared.Setting.{Setting}
use Rattle.hy_machine.specs.States.{State, Open, Begun, Finished}
use Rattle.hy_machine.specs.Sessions.{session_at, program_of, txn_at}
use Rattle.hy_machine.specs.Steps.{step_of}
use Rattle.hy_machine.specs.Runs.{opening_of, IsReached, whole_of, items_of, all_ended_from, run_of}

-- ---- lines

-- the setting with other scripts
abbrev pub with_programs : Setting → List (List Txn) → Setting
with_programs setting programs = record setting { programs = programs }

-- the setting after a line of a session
abbrev pub pushed : Setting → ℕ → SessionLine → Setting
pushed setting number line = with_programs setting (slice_set setting.programs number (grown line (program_of setting number)))

-- ---- a session between two lines

-- it is between two transactions, at its script's end
pub record IsAtEnd (setting : Setting) (state : State) (number : ℕ) : Type 0 where
  pub closed : (session_at state number).now ≡ None
  pub all : length (session_at state number).done ≡ length (program_of setting number)

-- its open transaction is the last of its script, all its statements are answered, and nothing is done of what closes it
pub record IsWaiting (setting : Setting) (state : State) (number : ℕ) : Type 0 where
  pub begun : Begun
  pub visited : ℕ
  pub count : ℕ
  pub txn : Txn
  pub open_now : (session_at state number).now ≡ Some (record { begun = begun; phase = Working visited count })
  pub last : suc (length (session_at state number).done) ≡ length (program_of setting number)
  pub here : txn_at setting number (session_at state number) ≡ Some txn
  pub answered : length begun.replies ≡ length txn.statements

-- BEGIN comes between two transactions, any other line while one is open
abbrev pub IsReady : Setting → State → ℕ → SessionLine → Type 0
IsReady setting state number (Begin read_only) = IsAtEnd setting state number
IsReady setting state number (Statement statement) = IsWaiting setting state number
IsReady setting state number Commit = IsWaiting setting state number
IsReady setting state number Rollback = IsWaiting setting state number

-- it waits in a transaction that its script rolls back, as scripts do up to the line COMMIT
abbrev pub IsUncommitted : Setting → State → ℕ → Type 0
IsUncommitted setting state number = (waiting : IsWaiting setting state number) × (waiting.txn.commits ≡ false)

-- between two lines a session is at its script's end, or waits so
abbrev pub IsResting : Setting → State → ℕ → Type 0
IsResting setting state number = IsAtEnd setting state number ⊎ IsUncommitted setting state number

-- ---- turns that were answered

-- a session's steps up to its answer lead from a state to this one
pub data IsAnswered (setting : Setting) (number : ℕ) : State → State → Type 0 where
  at_once : (state next : State) → (step_of setting state number).0 ≡ next → (step_of setting state number).1 ≡ Answered
      → IsAnswered setting number state next
  later : (state mid next : State) → (step_of setting state number).0 ≡ mid → (step_of setting state number).1 ≡ Moved
      → IsAnswered setting number mid next
      → IsAnswered setting number state next

-- turns of these sessions, one after another, each up to its answer
abbrev pub AreAnswered : Setting → State → List ℕ → State → Type 0
AreAnswered setting state [] next = state ≡ next
AreAnswered setting state (number ∷ numbers) next = (mid : State) × (IsAnswered setting number state mid) × (AreAnswered setting mid numbers next)

-- a whole item of a schedule
abbrev pub whole_item : ℕ → Item
whole_item number = record { session = number; whole = true }

-- turns that were answered came to a state in which each session is between two lines
pub record BetweenLines (setting : Setting) (turns : List ℕ) (state : State) : Type 0 where
  pub answered : AreAnswered setting (opening_of setting) turns state
  pub resting : (number : ℕ) → number < length setting.programs → IsResting setting state number

-- ---- laws of a line

-- a reached state is reached in the setting with a line more
abbrev pub LinesAreReached : Type 0
LinesAreReached = (setting : Setting) (state : State) (number : ℕ) (line : SessionLine) → IsReached setting state → IsReady setting state number line
    → IsReached (pushed setting number line) state

-- answered turns are answered in the setting with a line more, and come to the same state
abbrev pub LinesGoOn : Type 0
LinesGoOn = (setting : Setting) (state : State) (turns : List ℕ) (number : ℕ) (line : SessionLine) → AreAnswered setting (opening_of setting) turns state
    → IsReady setting state number line
    → AreAnswered (pushed setting number line) (opening_of (pushed setting number line)) turns state

-- answered turns are whole items of a schedule
abbrev pub AnswersAreWhole : Type 0
AnswersAreWhole = (setting : Setting) (state next : State) (turns : List ℕ) → AreAnswered setting state turns next
    → items_of setting state (map whole_item turns) ≡ next

-- answered turns come to a reached state, in which no session is marked
abbrev pub AnswersAreReached : Type 0
AnswersAreReached = (setting : Setting) (state : State) (turns : List ℕ) → AreAnswered setting (opening_of setting) turns state
    → IsReached setting state × (state.mark ≡ None)

-- a line is answered where each turn before it was, and no session is marked then
abbrev pub LinesAreAnswered : Type 0
LinesAreAnswered = (setting : Setting) (state : State) (turns : List ℕ) (number : ℕ) (line : SessionLine) → AreAnswered setting (opening_of setting) turns state
    → IsReady setting state number line → number < length setting.programs
    → (next : State) × (AreAnswered (pushed setting number line) (opening_of (pushed setting number line)) (turns ++ number ∷ []) next) × (next.mark ≡ None)

-- after the answer to a line its session waits for the next one, or is between two transactions
abbrev pub AnswersLeaveReady : Type 0
AnswersLeaveReady = (setting : Setting) (state next : State) (number : ℕ) (line : SessionLine) → IsReady setting state number line
    → number < length setting.programs → number < length state.sessions → IsAnswered (pushed setting number line) number state next
    → IsWaiting (pushed setting number line) next number ⊎ IsAtEnd (pushed setting number line) next number

-- a line that closes a transaction
abbrev pub IsClosingLine : SessionLine → Type 0
IsClosingLine (Begin read_only) = ⊥
IsClosingLine (Statement statement) = ⊥
IsClosingLine Commit = Unit {0}
IsClosingLine Rollback = Unit {0}

-- after the answer to COMMIT or ROLLBACK its session is between two transactions
abbrev pub ClosingsEnd : Type 0
ClosingsEnd = (setting : Setting) (state next : State) (number : ℕ) (line : SessionLine) → IsClosingLine line → IsReady setting state number line
    → number < length setting.programs → number < length state.sessions → IsAnswered (pushed setting number line) number state next
    → IsAtEnd (pushed setting number line) next number

-- a line and its answer leave the other sessions and their scripts as they are
abbrev pub OthersStay : Type 0
OthersStay = (setting : Setting) (state next : State) (number other : ℕ) (line : SessionLine) → other ≢ number
    → IsAnswered (pushed setting number line) number state next
    → (session_at next other ≡ session_at state other) × (program_of (pushed setting number line) other ≡ program_of setting other)

-- where each session is between two lines, each is so after the answer to a line
abbrev pub SessionsStayBetween : Type 0
SessionsStayBetween = (setting : Setting) (state : State) (turns : List ℕ) (number : ℕ) (line : SessionLine) → BetweenLines setting turns state
    → IsReady setting state number line → number < length setting.programs
    → BetweenLines (pushed setting number line) (turns ++ number ∷ []) (whole_of (pushed setting number line) state number)

-- each is so at the opening of scripts that have no transaction yet
abbrev pub EmptyScriptsAreBetween : Type 0
EmptyScriptsAreBetween = (setting : Setting) → ((number : ℕ) → program_of setting number ≡ []) → BetweenLines setting [] (opening_of setting)

-- ---- the end

-- where every session has ended after answered turns, they are the whole run
abbrev pub TurnsAreRuns : Type 0
TurnsAreRuns = (setting : Setting) (state : State) (turns : List ℕ) → AreAnswered setting (opening_of setting) turns state
    → all_ended_from setting 0 state.sessions ≡ true → run_of setting (map whole_item turns) ≡ state

-- the sessions before this one that have an open transaction, in order
abbrev pub open_before : State → ℕ → List ℕ
open_before state zero = []
open_before state (suc number) =
    if is_some (session_at state number).now then open_before state number ++ number ∷ [] else open_before state number

-- a session is at its script's end: the transaction that it had open in an earlier state was rolled back, and where it had none it
-- is as it was
pub record IsDropped (setting : Setting) (state next : State) (number : ℕ) : Type 0 where
  pub at_end : IsAtEnd setting next number
  pub rolled_back : (current : Open) → (session_at state number).now ≡ Some current
      → (finished : Finished) × ((finished.ending ≡ RolledBack) × ((session_at next number).done ≡ (session_at state number).done ++ finished ∷ []))
  pub same : (session_at state number).now ≡ None → session_at next number ≡ session_at state number

-- answered turns came to a state, and then one turn of each session before this one that had an open transaction to the next:
-- these sessions were dropped, and the others are as they were, as is the commit order
pub record AreDropped (setting : Setting) (turns : List ℕ) (state : State) (number : ℕ) (next : State) : Type 0 where
  pub answered : AreAnswered setting (opening_of setting) (turns ++ open_before state number) next
  pub dropped : (other : ℕ) → other < number → IsDropped setting state next other
  pub others : (other : ℕ) → number ≤ other → session_at next other ≡ session_at state other
  pub order : next.order ≡ state.order

-- the state after a whole item of a session, if it has an open transaction
abbrev pub after_drop : Setting → State → ℕ → State
after_drop setting state number = if is_some (session_at state number).now then whole_of setting state number else state

-- at first none is dropped
abbrev pub DropsBegin : Type 0
DropsBegin = (setting : Setting) (state : State) (turns : List ℕ) → BetweenLines setting turns state → AreDropped setting turns state 0 state

-- one more is, whatever its number, where each session was between two lines
abbrev pub DropsGoOn : Type 0
DropsGoOn = (setting : Setting) (state next : State) (turns : List ℕ) (number : ℕ) → BetweenLines setting turns state → number < length setting.programs
    → AreDropped setting turns state number next → AreDropped setting turns state (suc number) (after_drop setting next number)

-- and when all are, every session has ended
abbrev pub DropsEnd : Type 0
DropsEnd = (setting : Setting) (state next : State) (turns : List ℕ) → AreDropped setting turns state (length setting.programs) next
    → all_ended_from setting 0 next.sessions ≡ true

-- so one whole item of each session that has an open transaction, in order, leaves each session at its script's end
abbrev pub OpenOnesAreDropped : Type 0
OpenOnesAreDropped = (setting : Setting) (state : State) (turns : List ℕ) → BetweenLines setting turns state
    → AreDropped setting turns state (length setting.programs) (items_of setting state (map whole_item (open_before state (length setting.programs))))

-- the turns and these items are a whole run, to which the rounds add nothing; and the run of the turns alone comes to the same,
-- for its rounds do what the items did
abbrev pub DropsAreRuns : Type 0
DropsAreRuns = (setting : Setting) (state next : State) (turns : List ℕ) → BetweenLines setting turns state
    → AreDropped setting turns state (length setting.programs) next
    → (run_of setting (map whole_item (turns ++ open_before state (length setting.programs))) ≡ next) × (run_of setting (map whole_item turns) ≡ next)

-- ---- neighbours that are false

-- whole items that need not have been answered come to the same state in the setting with a line more
abbrev pub AnyItemsGoOn : Type 0
AnyItemsGoOn = (setting : Setting) (state : State) (turns : List ℕ) (number : ℕ) (line : SessionLine)
    → items_of setting (opening_of setting) (map whole_item turns) ≡ state → IsReady setting state number line
    → items_of (pushed setting number line) (opening_of (pushed setting number line)) (map whole_item turns) ≡ state

-- a reached state is reached in the setting with a line more, whatever the line
abbrev pub AnyLineIsReached : Type 0
AnyLineIsReached = (setting : Setting) (state : State) (number : ℕ) (line : SessionLine) → IsReached setting state
    → IsAtEnd setting state number ⊎ IsWaiting setting state number → IsReached (pushed setting number line) state
