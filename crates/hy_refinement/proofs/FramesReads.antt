-- A visit that reads leaves all as it is: the transaction goes on to the next visit or answers.
use Rattle.std.proofs.Common.{◌≡◌, ℕ, suc, ◌+◌, ◌*◌, List, [], ◌∷◌, ◌++◌, length, Option, None, Some, refl, sym, ap, ◌∙◌, subst, set}
use Rattle.hy_bound.specs.declared.Bound.{Bound}
use Rattle.hy_bound.specs.declared.Record.{Record}
use Rattle.hy_bound.specs.declared.Reply.{Reply}
use Rattle.hy_bound.specs.declared.Shape.{Shape}
use Rattle.hy_meaning.specs.Statement.{Table}
use Rattle.hy_plan.specs.Reads.{records_of}
use Rattle.hy_undo.specs.Chunks.{ChunkData}
use Rattle.hy_journal.specs.declared.CoreData.{CoreData}
use Rattle.hy_event.specs.declared.SessionData.{SessionData}
use Rattle.hy_event.specs.declared.Open.{Open}
use Rattle.hy_protocol.specs.declared.Phase.{Phase}
use Rattle.hy_protocol.specs.declared.Phase.TheVariants as phase
use Rattle.hy_protocol.specs.declared.Progress.{Progress}
use Rattle.hy_protocol.specs.declared.Progress.TheVariants as came
use Rattle.hy_event.specs.Events.{Part, ChunkPart}
use Rattle.hy_event.specs.Turns.{Step, after_turn, answer_turn, with_changed, after_visit as visited_by, after_answer as answered_by}
use Rattle.hy_machine.specs.declared.Setting.{Setting}
use Rattle.hy_machine.specs.States.{State, Open as MachineOpen}
use Rattle.hy_protocol.specs.Turns.{Visits, Answers, goes_on}
use Rattle.hy_machine.specs.Sessions.{session_at, txn_at, view}
use Rattle.hy_machine.specs.Steps.{after_visit, after_answer}
use Rattle.hy_refinement.specs.Sessions.{OpenShows, GatheredBy, statement_at}
use Rattle.hy_refinement.specs.Gathered.{gathered_first}
use Rattle.hy_refinement.specs.Shows.{Shows}
use Rattle.hy_refinement.specs.Taken.{AtChunk, IsTaken, chunk_number}
use Rattle.hy_refinement.specs.Frames.{gone_on, went_on, sessions_on, KeepsStart, WentOn, OwnStepsShow}
use Rattle.hy_refinement.proofs.FramesLists.{set_same}
use Rattle.hy_refinement.proofs.FramesTurns.{gone_shown}
use Rattle.hy_refinement.proofs.FramesStill.{IsStill, stands_still, works}
use Rattle.hy_refinement.proofs.FramesSeen.{was_shown}

-- ---- where it goes on to

-- what is recorded in the machine is what is recorded here
pub same_records : (setting : Setting) (session : SessionData) (now : Open) (current : MachineOpen) (statement : Bound) (gathered : List Table)
    → session.shapes ≡ setting.shapes → now.replies ≡ current.begun.replies
    → records_of session.shapes (suc (length now.replies)) statement gathered
    ≡ records_of setting.shapes (suc (length current.begun.replies)) statement gathered
same_records setting session now current statement gathered shapes replies =
    ap (λ (all : List Shape). records_of all (suc (length now.replies)) statement gathered) shapes
    ∙ ap (λ (given : List Reply). records_of setting.shapes (suc (length given)) statement gathered) replies

-- an open transaction after a visit that reads, with what it has gathered then
abbrev pub read_on : ℕ → List Table → Open → Open
read_on visited gathered now = visited_by [] (phase.Working (suc visited) 0) (record now { gathered = gathered })

-- and after the last one
abbrev pub read_out : Reply → List Record → Open → Open
read_out reply records now = answered_by [] reply None records now

-- a session after a visit that goes on
pub on_now : (session : SessionData) (now : Open) (visited : ℕ) → session.now ≡ Some now
    → ◌≡◌ {A = Step} (after_turn None session (goes_on visited)) (went_on session (read_on visited now.gathered now), came.Moved)
on_now session now visited e =
    ap (λ (here : Option Open). let step : Step = (
      with_changed (visited_by [] (phase.Working (suc visited) 0))
          (record session { now = here }),
      came.Moved,
    ) in step) e

pub out_now : (session : SessionData) (now : Open) (statement : Bound) (gathered : List Table) (reply : Reply) → session.now ≡ Some now
    → ◌≡◌ {A = Step} (after_turn None session (answer_turn session now statement gathered [] reply None))
    (went_on session (read_out reply (records_of session.shapes (suc (length now.replies)) statement gathered) now), came.Answered)
out_now session now statement gathered reply e =
    ap (λ (here : Option Open). let step : Step = (
      with_changed (answered_by [] reply None
          (records_of session.shapes (suc (length now.replies)) statement gathered)) (record session { now = here }),
      came.Answered,
    ) in step) e

next_of : (a b c d : ℕ) → ◌≡◌ {A = Phase} (phase.Working a b) (phase.Working c d) → c ≡ a
next_of a b c d e = cc

goes_to : (setting : Setting) (state : State) (core : CoreData) (number : ℕ) (now : Open) (current : MachineOpen) (visited : ℕ) (gathered : List Table)
    → OpenShows setting state core number now current
    → GatheredBy setting (view setting state current.begun) (suc visited) gathered
    (statement_at (txn_at setting number (session_at state number)) (length now.replies))
    → WentOn setting state core number (read_on visited gathered now) (after_visit [] (phase.Working (suc visited) 0) current)
goes_to setting state core number now current visited gathered was has = record {
  open_shows = record {
    prefix = was.open_shows.prefix;
    replies = was.open_shows.replies;
    records = was.open_shows.records;
    took = was.open_shows.took;
    phase = refl;
  };
  notes_show = λ unmarked. let show = was.notes_show unmarked in record { all = show.all; saved = show.saved };
  gathered_shows = λ other count e.
      subst (λ (n : ℕ). GatheredBy setting (view setting state current.begun) n gathered
      (statement_at (txn_at setting number (session_at state number)) (length now.replies))) (sym (next_of (suc visited) 0 other count e)) has;
  stamping = λ other e. absurd cc;
}

pub answers_to : (setting : Setting) (state : State) (core : CoreData) (number : ℕ) (now : Open) (current : MachineOpen) (reply : Reply) (took : Option ℕ)
    (here there : List Record) → OpenShows setting state core number now current → here ≡ there
    → WentOn setting state core number (answered_by [] reply took here now) (after_answer [] reply took there current)
answers_to setting state core number now current reply took here there was same = record {
  open_shows = record {
    prefix = was.open_shows.prefix;
    replies = ap (λ (replies : List Reply). replies ++ reply ∷ []) was.open_shows.replies;
    records = ap (λ (records : List Record). records ++ here) was.open_shows.records ∙ ap (λ (records : List Record). current.begun.records ++ records) same;
    took = ap (λ (took' : List (Option ℕ)). took' ++ took ∷ []) was.open_shows.took;
    phase = refl;
  };
  notes_show = λ unmarked. let show = was.notes_show unmarked in record { all = show.all; saved = show.saved };
  gathered_shows = λ other count e.
      subst (λ (n : ℕ). GatheredBy setting (view setting state current.begun) n []
      (statement_at (txn_at setting number (session_at state number)) (length (now.replies ++ reply ∷ [])))) (sym (next_of 0 0 other count e))
      (gathered_first setting (view setting state current.begun)
      (statement_at (txn_at setting number (session_at state number)) (length (now.replies ++ reply ∷ []))));
  stamping = λ other e. absurd cc;
}

-- ---- visits

module _ (own : OwnStepsShow) (setting : Setting) (state : State) (parts : List Part) (sessions : List SessionData) (number : ℕ) (session : SessionData)
    (now : Open) (current : MachineOpen) (table chunk : ℕ) (old : ChunkData)
    (at : AtChunk setting state parts sessions number session now current table chunk old)
    (visited count : ℕ) (phase_is : now.phase ≡ phase.Working visited count)
    (progress : Progress) (after : SessionData) (new : ChunkData) (same : new ≡ old) where
  abbrev core : CoreData
  core = at.at_open.shown.shows.core

  was : OpenShows setting state core number now current
  was = was_shown setting state parts sessions number session now current table chunk old at visited count phase_is

  works_there : current.phase ≡ phase.Working visited count
  works_there = sym was.open_shows.phase ∙ phase_is

  -- all is shown where it stands as before
  still_shown : (then : Open) (later : MachineOpen) → KeepsStart now then current later → WentOn setting state core number then later → IsStill current later
      → Shows setting (gone_on state number later) (set parts (chunk_number setting table chunk) (ChunkPart new)) (sessions_on sessions number session then)
  still_shown then later keeps on still =
      subst (λ (others : List Part). Shows setting (gone_on state number later) others (sessions_on sessions number session then))
      (sym (ap (λ (part : ChunkData). set parts (chunk_number setting table chunk) (ChunkPart part)) same
      ∙ set_same parts (chunk_number setting table chunk) (ChunkPart old) at.is_part.found))
      (own setting state parts sessions number session now then current later at.at_open keeps on
      (λ other another index below.
      stands_still setting state number other another (another * setting.rows + index) current later at.at_open.is_open.open_there still))

  pub read_moves : (gathered : List Table)
      → GatheredBy setting (view setting state current.begun) (suc visited) gathered
      (statement_at (txn_at setting number (session_at state number)) (length now.replies))
      → ◌≡◌ {A = Step} (after, progress) (went_on session (read_on visited gathered now), came.Moved)
      → IsTaken setting state parts sessions number (Visits [] (phase.Working (suc visited) 0)) (chunk_number setting table chunk)
      progress after (ChunkPart new)
  read_moves gathered has takes = record {
    answer = sym (ap (λ (step : Step). step.1) takes);
    shows =
        gone_shown setting state (set parts (chunk_number setting table chunk) (ChunkPart new))
        sessions number session now (read_on visited gathered now) current
        (after_visit [] (phase.Working (suc visited) 0)) after at.at_open.is_open (ap (λ (step : Step). step.0) takes)
        (still_shown (read_on visited gathered now) (after_visit [] (phase.Working (suc visited) 0) current)
        (record { start = refl; prefix = refl; cover = refl; prefix_there = refl; low_there = refl })
        (goes_to setting state core number now current visited gathered was has)
        (record {
          own = refl;
          prefix = refl;
          undone_same = sym (works visited count current.phase works_there).0;
          stamped_same = sym (works visited count current.phase works_there).1;
        }));
  }

  pub read_answers : (reply : Reply) (here there : List Record) → here ≡ there
      → ◌≡◌ {A = Step} (after, progress) (went_on session (read_out reply here now), came.Answered)
      → IsTaken setting state parts sessions number (Answers [] reply None there) (chunk_number setting table chunk) progress after (ChunkPart new)
  read_answers reply here there records takes = record {
    answer = sym (ap (λ (step : Step). step.1) takes);
    shows =
        gone_shown setting state (set parts (chunk_number setting table chunk) (ChunkPart new)) sessions number session now (read_out reply here now) current
        (after_answer [] reply None there) after at.at_open.is_open (ap (λ (step : Step). step.0) takes)
        (still_shown (read_out reply here now) (after_answer [] reply None there current)
        (record { start = refl; prefix = refl; cover = refl; prefix_there = refl; low_there = refl })
        (answers_to setting state core number now current reply None here there was records)
        (record {
          own = refl;
          prefix = refl;
          undone_same = sym (works visited count current.phase works_there).0;
          stamped_same = sym (works visited count current.phase works_there).1;
        }));
  }
