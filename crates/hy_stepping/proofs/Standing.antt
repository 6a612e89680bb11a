-- A session that is shown stands where the machine's does, and needs the part that that one visits next.
use Rattle.std.proofs.Common.{◌≡◌, ℕ, ◌*◌, ◌/◌, ◌%◌, List, length, Option, None, Some, Bool, false, cond, refl, ap, sym, ◌∙◌}
use Rattle.std.specs.Prelude.{slice_get, slice_index_or}
use Rattle.std.proofs.lemmas.Option.{same_Some}
use Rattle.hy_bound.specs.declared.Bound.{Bound}
use Rattle.hy_bound.specs.declared.Bound.TheVariants.{Select, Group, Insert, Update, Delete, Savepoint, RollbackTo, Release}
use Rattle.hy_bound.specs.declared.Reply.{Reply}
use Rattle.hy_bound.specs.declared.Shape.{Shape}
use Rattle.hy_bound.specs.declared.Txn.{Txn}
use Rattle.hy_bound.specs.Records.{shape_of}
use Rattle.hy_journal.specs.declared.CoreData.{CoreData}
use Rattle.hy_event.specs.declared.SessionData.{SessionData}
use Rattle.hy_event.specs.declared.Open.{Open}
use Rattle.hy_protocol.specs.declared.Phase.{Phase}
use Rattle.hy_protocol.specs.declared.Phase.TheVariants as phase
use Rattle.hy_event.specs.declared.Need.{Need}
use Rattle.hy_event.specs.declared.Need.TheVariants.{Core, Chunk}
use Rattle.hy_event.specs.Events.{Part, CorePart}
use Rattle.hy_event.specs.Sessions.{txn_at as txn_here}
use Rattle.hy_event.specs.Needs.{checks_of as checks_here, chunk_or_core, insert_need, need_of, phase_need, session_need, statement_need}
use Rattle.hy_event.specs.Needs.{working_need, written_need}
use Rattle.hy_machine.specs.declared.Setting.{Setting}
use Rattle.hy_machine.specs.States.{State, Open as MachineOpen}
use Rattle.hy_machine.specs.Sessions.{session_at, txn_at}
use Rattle.hy_machine.specs.Visits.{checks_of}
use Rattle.hy_protocol.specs.Turns.{is_stamping}
use Rattle.hy_lawful.specs.Kept.{ReachedAreKept}
use Rattle.hy_refinement.specs.Sessions.{DoneSoFar, NowShows, SessionShows}
use Rattle.hy_refinement.specs.Taken.{AtOpen}
use Rattle.hy_refinement.specs.Visits.{ChunksSinceAreTheMachines, WrittenChunksAreTheMachines}
use Rattle.hy_session.specs.Latest.{answered, phase_of}
use Rattle.hy_stepping.specs.Runnable.{IsShown}
use Rattle.hy_stepping.specs.Standing.{StandsAs, SessionsStand, part_at, phase_part, session_part, statement_part, working_part, written_part}
use Rattle.hy_stepping.specs.Standing.{answered_in, phase_in}
use Rattle.hy_stepping.proofs.NeededChunks.{same_checks}
use Rattle.hy_stepping.proofs.OpenOnes.{kept_of, same_ended, same_txn}
use Rattle.hy_stepping.proofs.StepsShown.{shown_state}

-- ---- where an open transaction stands

phase_told : (setting : Setting) (state : State) (core : CoreData) (number : ℕ) (session : SessionData) (here : Option Open) (there : Option MachineOpen)
    → session.now ≡ here → NowShows setting state core number here there → phase_of session ≡ phase_in there
phase_told setting state core number session None None is shown = rw is refl
phase_told setting state core number session None (Some current) is shown = absurd shown
phase_told setting state core number session (Some now) None is shown = absurd shown
phase_told setting state core number session (Some now) (Some current) is shown = rw is (ap Some shown.open_shows.phase)

answers_told : (setting : Setting) (state : State) (core : CoreData) (number : ℕ) (session : SessionData) (here : Option Open) (there : Option MachineOpen)
    → session.now ≡ here → NowShows setting state core number here there → answered session ≡ answered_in there
answers_told setting state core number session None None is shown = rw is refl
answers_told setting state core number session None (Some current) is shown = absurd shown
answers_told setting state core number session (Some now) None is shown = absurd shown
answers_told setting state core number session (Some now) (Some current) is shown =
    rw is (ap (λ (replies : List Reply). length replies) shown.open_shows.replies)

-- ---- the part that it needs

module _ (setting : Setting) (session : SessionData) (now : Open) (current : MachineOpen) (chunks : session.chunks ≡ setting.chunks)
    (shapes : session.shapes ≡ setting.shapes) (written : (visited : ℕ) → written_need session now visited ≡ written_part setting current.begun visited)
    (since : is_stamping current.phase ≡ false → (name : List ℕ) (visited : ℕ)
    → statement_need session now visited (RollbackTo name) ≡ statement_part setting current.begun visited (RollbackTo name)) where
  by_statement : is_stamping current.phase ≡ false → (visited : ℕ) (statement : Bound)
      → statement_need session now visited statement ≡ statement_part setting current.begun visited statement
  by_statement free visited (Select tables ons pred items) =
      ap (λ (n : ℕ). Chunk (slice_index_or tables (visited / n) 0) (visited % n)) chunks
  by_statement free visited (Group table pred key aggregate) = refl
  by_statement free visited (Insert table row) =
      ap (insert_need visited table) (same_checks session setting (shape_of session.shapes table).key chunks
      ∙ ap (λ (all : List Shape). checks_of setting (shape_of all table).key) shapes)
  by_statement free visited (Update table sets pred) = refl
  by_statement free visited (Delete table pred) = refl
  by_statement free visited (Savepoint name) = refl
  by_statement free visited (RollbackTo name) = since free name visited
  by_statement free visited (Release name) = refl

  by_work : is_stamping current.phase ≡ false → (txn : Txn) (visited : ℕ) (statement : Option Bound)
      → working_need session txn now visited statement ≡ working_part setting txn current.begun visited statement
  by_work free txn visited None = ap (λ (need : Need). cond txn.commits Core need) (written 0)
  by_work free txn visited (Some statement) = by_statement free visited statement

  by_phase : (txn : Txn) → now.replies ≡ current.begun.replies → (stands : Phase) → current.phase ≡ stands
      → phase_need session txn now stands ≡ phase_part setting txn current.begun stands
  by_phase txn same (phase.Working visited count) is =
      ap (λ (replies : List Reply). working_need session txn now visited (slice_get txn.statements (length replies))) same
      ∙ by_work (ap is_stamping is) txn visited (slice_get txn.statements (length current.begun.replies))
  by_phase txn same (phase.Stamping visited) is = written visited
  by_phase txn same (phase.Undoing visited cause) is = written visited

open_needs : WrittenChunksAreTheMachines → ChunksSinceAreTheMachines → (setting : Setting) (state : State) (parts : List Part)
    (sessions : List SessionData) (number : ℕ) (session : SessionData) (now : Open) (current : MachineOpen) (txn : Txn)
    → (at : AtOpen setting state parts sessions number session now current) → session.chunks ≡ setting.chunks → session.shapes ≡ setting.shapes
    → DoneSoFar now current
    → phase_need session txn now now.phase ≡ phase_part setting txn current.begun current.phase
open_needs law since setting state parts sessions number session now current txn at chunks shapes done =
    ap (phase_need session txn now) done.phase ∙ by_phase setting session now current chunks shapes written back txn done.replies current.phase refl
  where
    written : (visited : ℕ) → written_need session now visited ≡ written_part setting current.begun visited
    written visited = ap (λ (ones : List (ℕ × ℕ)). chunk_or_core (slice_get ones visited)) (law setting state parts sessions number session now current at)

    back : is_stamping current.phase ≡ false → (name : List ℕ) (visited : ℕ)
        → statement_need session now visited (RollbackTo name) ≡ statement_part setting current.begun visited (RollbackTo name)
    back free name visited =
        ap (λ (ones : List (ℕ × ℕ)). chunk_or_core (slice_get ones visited)) (since setting state parts sessions number session now current name at free)

part_needed : ReachedAreKept → WrittenChunksAreTheMachines → ChunksSinceAreTheMachines → (setting : Setting) (state : State) (parts : List Part)
    (sessions : List SessionData) (number : ℕ) (session : SessionData) → IsShown setting state parts sessions → slice_get sessions number ≡ Some session
    → need_of session ≡ part_at setting state number
part_needed law written since setting state parts sessions number session shown found =
    ap (λ (txn : Option Txn). session_need session txn session.now) (same_txn setting state shown.shows.core number session shows)
    ∙ by_txn (txn_at setting number (session_at state number))
  where
    shows : SessionShows setting state shown.shows.core number session
    shows = shown.shows.sessions_show.each number session found

    by_now : (txn : Txn) (here : Option Open) → session.now ≡ here → (there : Option MachineOpen) → (session_at state number).now ≡ there
        → NowShows setting state shown.shows.core number here there → session_need session (Some txn) here ≡ session_part setting (Some txn) there
    by_now txn None here None there shown = refl
    by_now txn None here (Some current) there shown = absurd shown
    by_now txn (Some now) here None there shown = absurd shown
    by_now txn (Some now) here (Some current) there opened =
        open_needs written since setting state parts sessions number session now current txn
        (record {
          shown = shown_state setting state parts sessions (kept_of law setting state parts sessions shown) shown;
          is_open = record { found = found; open_here = here; open_there = there };
        })
        shows.session_is.chunks shows.session_is.shapes opened.open_shows

    by_txn : (txn : Option Txn) → session_need session txn session.now ≡ session_part setting txn (session_at state number).now
    by_txn None = refl
    by_txn (Some txn) = by_now txn session.now refl (session_at state number).now refl shows.now_shows

-- ---- all of it

pub sessions_stand : ReachedAreKept → WrittenChunksAreTheMachines → ChunksSinceAreTheMachines → SessionsStand
sessions_stand law written since = record {
  sessions = λ setting state parts sessions number session shown found.
      let core = shown.shows.core in
      let shows = shown.shows.sessions_show.each number session found in
      record {
        number_is = shows.session_is.number_is;
        ended = same_ended setting state core number session shows;
        txn = same_txn setting state core number session shows;
        phase = phase_told setting state core number session session.now (session_at state number).now refl shows.now_shows;
        answers = answers_told setting state core number session session.now (session_at state number).now refl shows.now_shows;
        part = part_needed law written since setting state parts sessions number session shown found;
      };
  entries = λ setting state parts sessions core shown found.
      let same : CorePart shown.shows.core ≡ CorePart core =
      same_Some (CorePart shown.shows.core) (CorePart core) (sym shown.shows.parts_are.core_last ∙ found) in
      let one : shown.shows.core ≡ core = cc same in
      ap (λ (which : CoreData). length which.entries) (sym one) ∙ shown.shows.core_shows.entries_show.count;
}
