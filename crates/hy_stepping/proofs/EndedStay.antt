-- A session that is at its end, or that is not there, has ended for the machine too.
use Rattle.std.proofs.Common.{◌≡◌, ℕ, ◌-◌, List, [], length, Option, None, Some, refl, sym, ap, ◌∙◌, subst, arith, ltb}
use Rattle.std.specs.Prelude.{slice_get}
use Rattle.std.proofs.lemmas.Bool.{cond_both}
use Rattle.std.proofs.lemmas.List.{get_or_past}
use Rattle.hy_bound.specs.declared.Bound.{Bound}
use Rattle.hy_bound.specs.declared.Bound.TheVariants.{Select, Group, Insert, Update, Delete, Savepoint, RollbackTo, Release}
use Rattle.hy_bound.specs.declared.Txn.{Txn}
use Rattle.hy_bound.specs.Records.{shape_of}
use Rattle.hy_event.specs.declared.SessionData.{SessionData}
use Rattle.hy_event.specs.declared.Open.{Open}
use Rattle.hy_protocol.specs.declared.Phase.{Phase}
use Rattle.hy_protocol.specs.declared.Phase.TheVariants.{Working, Stamping, Undoing}
use Rattle.hy_event.specs.declared.Need.{Need}
use Rattle.hy_event.specs.declared.Need.TheVariants.{Core, Chunk, Done}
use Rattle.hy_event.specs.Sessions.{txn_at as txn_here, written_chunks, chunks_since}
use Rattle.hy_event.specs.Needs.{checks_of, statement_need, chunk_or_core, written_need, working_need, phase_need, session_need, need_of}
use Rattle.hy_machine.specs.declared.Setting.{Setting}
use Rattle.hy_machine.specs.States.{State}
use Rattle.hy_protocol.specs.declared.Progress.TheVariants.{Ended}
use Rattle.hy_machine.specs.Sessions.{session_at, txn_at}
use Rattle.hy_machine.specs.Steps.{after_turn, step_of}
use Rattle.hy_machine.specs.Turns.{session_turn}
use Rattle.hy_stepping.specs.Steps.{EndedStayAsTheyAre}
use Rattle.hy_stepping.proofs.OpenOnes.{same_txn}

-- ---- a need of a transaction is a part

abbrev pub IsPart : Need → Type 0
IsPart Core = Unit {0}
IsPart (Chunk table chunk) = Unit {0}
IsPart Done = ⊥

left_part : (one : Option (ℕ × ℕ)) → IsPart (chunk_or_core one)
left_part None = tt
left_part (Some one) = tt

statement_part : (session : SessionData) (now : Open) (visited : ℕ) (statement : Bound) → IsPart (statement_need session now visited statement)
statement_part session now visited (Select tables ons pred items) = tt
statement_part session now visited (Group table pred key aggregate) = tt
statement_part session now visited (Insert table row) =
    cond_both (ltb visited (checks_of session (shape_of session.shapes table).key)) (Chunk table visited)
    (Chunk table (visited - checks_of session (shape_of session.shapes table).key)) IsPart (λ e. tt) (λ e. tt)
statement_part session now visited (Update table sets pred) = tt
statement_part session now visited (Delete table pred) = tt
statement_part session now visited (Savepoint name) = tt
statement_part session now visited (RollbackTo name) = left_part (slice_get (chunks_since session now name) visited)
statement_part session now visited (Release name) = tt

working_part : (session : SessionData) (txn : Txn) (now : Open) (visited : ℕ) (statement : Option Bound)
    → IsPart (working_need session txn now visited statement)
working_part session txn now visited None =
    cond_both txn.commits Core (written_need session now 0) IsPart (λ e. tt) (λ e. left_part (slice_get (written_chunks session now) 0))
working_part session txn now visited (Some statement) = statement_part session now visited statement

phase_part : (session : SessionData) (txn : Txn) (now : Open) (phase : Phase) → IsPart (phase_need session txn now phase)
phase_part session txn now (Working visited count) = working_part session txn now visited (slice_get txn.statements (length now.replies))
phase_part session txn now (Stamping visited) = left_part (slice_get (written_chunks session now) visited)
phase_part session txn now (Undoing visited cause) = left_part (slice_get (written_chunks session now) visited)

now_part : (session : SessionData) (txn : Txn) (now : Option Open) → IsPart (session_need session (Some txn) now)
now_part session txn None = tt
now_part session txn (Some now) = phase_part session txn now now.phase

-- so a session that needs none is at no transaction of its program
pub done_at_none : (session : SessionData) → need_of session ≡ Done → txn_here session ≡ None
done_at_none session need = by_txn (txn_here session) refl need
  where
    by_txn : (txn : Option Txn) → txn_here session ≡ txn → session_need session txn session.now ≡ Done → txn_here session ≡ None
    by_txn None at done = at
    by_txn (Some txn) at done = absurd (subst IsPart done (now_part session txn session.now))

-- ---- the step

ended_step : (setting : Setting) (state : State) (number : ℕ) → txn_at setting number (session_at state number) ≡ None
    → step_of setting state number ≡ (state, Ended)
ended_step setting state number none =
    ap (λ (txn : Option Txn). after_turn setting state number (session_turn setting state number txn (session_at state number).now)) none

pub ended_stay : EndedStayAsTheyAre
ended_stay = record {
  done = λ setting state parts sessions number session shown found need.
      ended_step setting state number
      (sym (same_txn setting state shown.shows.core number session (shown.shows.sessions_show.each number session found)) ∙ done_at_none session need);
  away = λ setting state parts sessions number shown past.
      let count = shown.shows.sessions_show.count in
      ended_step setting state number
      (ap (λ (txns : List Txn). slice_get txns (length (session_at state number).done))
      (get_or_past setting.programs number [] (omega (arith, past, count))));
}
