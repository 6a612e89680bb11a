-- A session that is at a SELECT, and what its visit asks.
use Rattle.std.proofs.Common.{◌≡◌, ℕ, length, ap, sym, ◌∙◌, Option, Some}
use Rattle.std.specs.Prelude.{slice_get}
use Rattle.hy_bound.specs.declared.Bound.{Bound}
use Rattle.hy_bound.specs.declared.Txn.{Txn}
use Rattle.hy_chunk.specs.Views.{Whole}
use Rattle.hy_event.specs.declared.SessionData.{SessionData}
use Rattle.hy_event.specs.declared.Open.{Open}
use Rattle.hy_protocol.specs.declared.Phase.TheVariants.{Working}
use Rattle.hy_event.specs.Ended.{statements_in}
use Rattle.hy_event.specs.Needs.{need_of, phase_need, session_need, statement_need, working_need}
use Rattle.hy_event.specs.Sessions.{txn_at}
use Rattle.hy_session.specs.Near.{NearChunk, present_statement}
use Rattle.hy_session.specs.Preparing.{statement_by, statement_in, statement_of}
use Rattle.hy_session.specs.Reading.{IsNextFor}

-- its present statement, by the transaction that it is at
pub present_at : (session : SessionData) (txn : Txn) (now : Open) (statement : Bound) → txn_at session ≡ Some txn
    → slice_get txn.statements (length now.replies) ≡ Some statement → present_statement session now ≡ Some statement
present_at session txn now statement there found = ap (λ (t : Option Txn). slice_get (statements_in t) (length now.replies)) there ∙ found

-- the statement at which it works
pub works_at : (session : SessionData) (now : Open) (visited count : ℕ) (statement : Bound) → session.now ≡ Some now → now.phase ≡ Working visited count
    → present_statement session now ≡ Some statement → statement_in session ≡ Some statement
works_at session now visited count statement opened working present =
    ap (statement_of session) opened ∙ (ap (statement_by session now) working ∙ present)

-- what its next visit needs
pub needed_at : (session : SessionData) (txn : Txn) (now : Open) (visited count : ℕ) (statement : Bound) → txn_at session ≡ Some txn → session.now ≡ Some now
    → now.phase ≡ Working visited count → slice_get txn.statements (length now.replies) ≡ Some statement
    → need_of session ≡ statement_need session now visited statement
needed_at session txn now visited count statement there opened working found =
    ap (λ (t : Option Txn). session_need session t session.now) there
    ∙ (ap (session_need session (Some txn)) opened
    ∙ (ap (phase_need session txn now) working
    ∙ ap (working_need session txn now visited) found))

-- the chunk is one that its next visit needs
pub next_at : (session : SessionData) (txn : Txn) (now : Open) (visited count : ℕ) (statement : Bound) (chunk : Whole) → NearChunk session chunk
    → txn_at session ≡ Some txn → session.now ≡ Some now → now.phase ≡ Working visited count → slice_get txn.statements (length now.replies) ≡ Some statement
    → IsNextFor session now visited statement chunk
next_at session txn now visited count statement chunk near there opened working found = record {
  number = near.number;
  needed = sym (needed_at session txn now visited count statement there opened working found) ∙ near.needed;
  wide = near.wide;
  left = (near.opened now opened).visits visited count statement working (present_at session txn now statement there found);
}
