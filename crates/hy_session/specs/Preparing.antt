-- How a SELECT is run, made once for the statement and kept from visit to visit.
use Rattle.std.specs.Prelude.{◌≡◌, ℕ, List, Option, None, Some, slice_get, length}
use Rattle.hy_bound.specs.declared.Bound.{Bound}
use Rattle.hy_bound.specs.declared.Shape.{Shape}
use Rattle.hy_bound.specs.declared.Txn.{Txn}
use Rattle.hy_event.specs.declared.SessionData.{SessionData}
use Rattle.hy_event.specs.declared.Open.{Open}
use Rattle.hy_protocol.specs.declared.Phase.{Phase}
use Rattle.hy_protocol.specs.declared.Phase.TheVariants.{Working, Stamping, Undoing}
use Rattle.hy_event.specs.Ended.{statements_in}
use Rattle.hy_session.specs.declared.prepared.Prepared.{Prepared}
use Rattle.hy_session.specs.Near.{present_statement}
use Rattle.hy_visit.specs.Readers.{IsPlanOf, plan_by}
use Rattle.hy_visit.specs.declared.reader.Reader.{Reader}

-- ---- a statement

-- a statement is run by this plan
pub record IsRunBy (shapes : List Shape) (statement : Bound) (reader : Reader) : Type 0 where
  pub planned : IsPlanOf shapes statement (plan_by reader)

-- ---- a statement of a program

-- the statement of this number of the transaction of this number
abbrev pub statement_at : List Txn → ℕ → ℕ → Option Bound
statement_at program txn number = slice_get (statements_in (slice_get program txn)) number

-- the program's statement of these numbers, if there is such a one, is run so
abbrev pub RunsAt : List Shape → List Txn → Prepared → Type 0
RunsAt shapes program kept = (statement : Bound) → statement_at program kept.txn kept.statement ≡ Some statement
    → IsRunBy shapes statement kept.reader

-- what is kept is how the program's statement of its numbers is run, if there is such a one
pub record IsKept (shapes : List Shape) (program : List Txn) (prepared : Option Prepared) : Type 0 where
  pub runs : (kept : Prepared) → prepared ≡ Some kept → RunsAt shapes program kept

-- ---- a statement of a session

-- the statement of this number of the present transaction, if there is such a one, is run by this plan
abbrev pub IsPlanAt : SessionData → ℕ → Reader → Type 0
IsPlanAt session number reader = (statement : Bound) → statement_at session.program (length session.done) number ≡ Some statement
    → IsRunBy session.shapes statement reader

-- the statement at which an open transaction works, by where it stands
abbrev pub statement_by : SessionData → Open → Phase → Option Bound
statement_by session now (Working visited count) = present_statement session now
statement_by session now (Stamping visited) = None
statement_by session now (Undoing visited cause) = None

abbrev pub statement_of : SessionData → Option Open → Option Bound
statement_of session None = None
statement_of session (Some now) = statement_by session now now.phase

-- the statement at which a session works
abbrev pub statement_in : SessionData → Option Bound
statement_in session = statement_of session session.now

-- it is run by this plan
abbrev pub IsPlanFor : SessionData → Reader → Type 0
IsPlanFor session reader = (statement : Bound) → statement_in session ≡ Some statement → IsRunBy session.shapes statement reader
