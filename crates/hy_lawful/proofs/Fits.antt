-- What holds of every state that the machine comes to.
use Rattle.std.proofs.Common.{◌≡◌, ℕ, zero, suc, ◌-◌, ◌<◌, ◌≤◌, List, [], ◌∷◌, Option, None, Some, length}
use Rattle.std.specs.Prelude.{slice_get, IsTrue, IsFalse, ◌==◌}
use Rattle.std.specs.List.{AllByRecursion}
use Rattle.hy_bound.specs.declared.Record.{Record}
use Rattle.hy_stamp.specs.declared.Label.{Label}
use Rattle.hy_bound.specs.declared.Ending.{Ending}
use Rattle.hy_bound.specs.declared.Ending.TheVariants.{Committed, Read, RolledBack, Conflict, Invalid, Range, Full}
use Rattle.hy_render.specs.declared.TxnOutcome.{TxnOutcome}
use Rattle.hy_machine.specs.declared.Setting.{Setting}
use Rattle.hy_protocol.specs.declared.Phase.{Phase}
use Rattle.hy_protocol.specs.declared.Phase.TheVariants.{Working, Stamping, Undoing}
use Rattle.hy_machine.specs.States.{State, Session, Open, Begun, Finished}
use Rattle.hy_machine.specs.Tables.{Entry, capacity}
use Rattle.hy_machine.specs.Sessions.{session_at, program_of}
use Rattle.hy_machine.specs.Outcomes.{txn_outcome_of}
use Rattle.hy_lawful.specs.Scripts.{statements_of, txn_of, ClosesWithCommit}
use Rattle.hy_lawful.specs.Outcomes.{EachFrom, committed_at, refused_statement}
use Rattle.hy_lawful.specs.Endings.{updates, changes_rows, inserts, AnswersAll, EndsCommitted, EndsRead, EndsRolledBack}

-- ---- endings, by the commit order and the script

-- the label of the entry of a rank
abbrev pub label_at : List Entry → ℕ → Option Label
label_at [] rank = None
label_at (entry ∷ order) zero = Some entry.label
label_at (entry ∷ order) (suc rank) = label_at order rank

-- the script has a transaction of this label
pub record HasTxn (setting : Setting) (label : Label) : Type 0 where
  pub first : 0 < label.txn
  pub few : label.txn ≤ length (program_of setting label.session)

pub record IsCommitted (setting : Setting) (order : List Entry) (txn : TxnOutcome) (rank : ℕ) : Type 0 where
  pub ends : EndsCommitted setting.programs txn
  pub later : txn.start ≤ rank
  pub stands : label_at order rank ≡ Some txn.label

pub record IsInConflict (setting : Setting) (txn : TxnOutcome) (table : ℕ) (other : Label) : Type 0 where
  pub changes : IsTrue (changes_rows table (refused_statement setting.programs txn))
  pub has : HasTxn setting other
  pub apart : IsFalse (other.session == txn.label.session)

-- a transaction has so many answered statements, and one of this number, from 1
abbrev pub IsNumbered : ℕ → ℕ → Type 0
IsNumbered answered statement = (0 < statement) × (statement ≤ answered)

pub record IsInvalid (setting : Setting) (order : List Entry) (txn : TxnOutcome) (other : Label) (statement : ℕ) : Type 0 where
  pub answers : AnswersAll setting.programs txn
  pub closes : ClosesWithCommit (txn_of setting.programs txn.label)
  pub wrote : 0 < length txn.wrote
  pub named : IsNumbered (length txn.replies) statement
  pub rank : ℕ
  pub since : txn.start ≤ rank
  pub stands : label_at order rank ≡ Some other

-- why a transaction may end so
abbrev pub Ends : Setting → List Entry → TxnOutcome → Ending → Type 0
Ends setting order txn (Committed rank) = IsCommitted setting order txn rank
Ends setting order txn Read = EndsRead setting.programs txn
Ends setting order txn RolledBack = EndsRolledBack setting.programs txn
Ends setting order txn (Conflict table pos other) = IsInConflict setting txn table other
Ends setting order txn (Invalid table pos other statement) = IsInvalid setting order txn other statement
Ends setting order txn (Range table pos) = IsTrue (updates table (refused_statement setting.programs txn))
Ends setting order txn (Full table) = IsTrue (inserts table (refused_statement setting.programs txn))

-- the same of a session's transaction that has so many before it
abbrev pub EndsAs : Setting → List Entry → ℕ → ℕ → Finished → Type 0
EndsAs setting order number before finished = Ends setting order (txn_outcome_of setting number before finished) finished.ending

-- ---- sessions

-- lists of what stands at the positions of tables are no longer than these
pub record FitsTables {A : Type 0} (setting : Setting) (lists : List (List (Option A))) : Type 0 where
  pub tables : length lists ≤ length setting.first
  pub positions : AllByRecursion (λ (items : List (Option A)). length items ≤ capacity setting) lists

-- an ended transaction, with so many before it in its session
pub record DoneFits (setting : Setting) (order : List Entry) (number before : ℕ) (finished : Finished) : Type 0 where
  pub start : finished.begun.prefix ≤ length order
  pub own : FitsTables setting finished.begun.own
  pub ends : EndsAs setting order number before finished

-- a session's next transaction starts here at the earliest: at the start of the one before it, or behind its commit
abbrev pub reach : ℕ → Option ℕ → ℕ
reach prefix None = prefix
reach prefix (Some rank) = suc rank

abbrev pub reach_of : Finished → ℕ
reach_of finished = reach finished.begun.prefix (committed_at finished.ending)

-- the reach of the last of these, or a number if there is none
abbrev pub top_of : ℕ → List Finished → ℕ
top_of low [] = low
top_of low (finished ∷ others) = top_of (reach_of finished) others

-- each starts at the reach of the one before it or later
abbrev pub Climbs : ℕ → List Finished → Type 0
Climbs low [] = Unit {0}
Climbs low (finished ∷ others) =
    (low ≤ finished.begun.prefix) × (finished.begun.prefix ≤ reach_of finished) × Climbs (reach_of finished) others

-- where an open transaction stands
abbrev pub PhaseFits : Setting → List Entry → Option ℕ → ℕ → ℕ → Begun → Phase → Type 0
PhaseFits setting order mark number before begun (Working visited count) =
    length begun.replies ≤ length (statements_of setting.programs (record { session = number; txn = suc before }))
PhaseFits setting order mark number before begun (Stamping visited) =
    (mark ≡ Some number) × EndsAs setting order number before (record { begun = begun; ending = Committed (length order - 1) })
PhaseFits setting order mark number before begun (Undoing visited cause) =
    EndsAs setting order number before (record { begun = begun; ending = cause })

-- an open transaction, behind those that have ended
pub record OpenFits (setting : Setting) (order : List Entry) (mark : Option ℕ) (number : ℕ) (done : List Finished) (current : Open) : Type 0 where
  pub there : length done < length (program_of setting number)
  pub above : top_of 0 done ≤ current.begun.prefix
  pub start : current.begun.prefix ≤ length order
  pub own : FitsTables setting current.begun.own
  pub records : AllByRecursion (λ (of : Record). IsNumbered (length current.begun.replies) of.statement) current.begun.records
  pub phase : PhaseFits setting order mark number (length done) current.begun current.phase

abbrev pub NowFits : Setting → List Entry → Option ℕ → ℕ → List Finished → Option Open → Type 0
NowFits setting order mark number done None = Unit {0}
NowFits setting order mark number done (Some current) = OpenFits setting order mark number done current

pub record SessionFits (setting : Setting) (order : List Entry) (mark : Option ℕ) (number : ℕ) (session : Session) : Type 0 where
  pub done : EachFrom 0 (DoneFits setting order number) session.done
  pub few : length session.done ≤ length (program_of setting number)
  pub climbs : Climbs 0 session.done
  pub top : top_of 0 session.done ≤ length order
  pub now : NowFits setting order mark number session.done session.now

-- ---- states

-- the entry of a rank is that of a transaction that committed at it, or of the marked session's open one
pub data Ranked (state : State) (rank : ℕ) (label : Label) : Type 0 where
  ended : (before : ℕ) (finished : Finished) → label.txn ≡ suc before → slice_get (session_at state label.session).done before ≡ Some finished
      → finished.ending ≡ Committed rank → Ranked state rank label
  entered : state.mark ≡ Some label.session → label.txn ≡ suc (length (session_at state label.session).done) → suc rank ≡ length state.order
      → Ranked state rank label

-- a transaction is open whose entry stands in the commit order
abbrev pub Stamps : Phase → Type 0
Stamps (Working visited count) = ⊥
Stamps (Stamping visited) = Unit {0}
Stamps (Undoing visited cause) = ⊥

abbrev pub NowStamps : Option Open → Type 0
NowStamps None = ⊥
NowStamps (Some current) = Stamps current.phase

pub record Fits (setting : Setting) (state : State) : Type 0 where
  pub count : length state.sessions ≡ length setting.programs
  pub sessions : (number : ℕ) → SessionFits setting state.order state.mark number (session_at state number)
  pub ranked : (rank : ℕ) (label : Label) → label_at state.order rank ≡ Some label → Ranked state rank label
  pub marked : (number : ℕ) → state.mark ≡ Some number → NowStamps (session_at state number).now
  pub cells : AllByRecursion (λ (entry : Entry). FitsTables setting entry.cells) state.order
