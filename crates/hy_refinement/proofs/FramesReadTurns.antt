-- A visit that gathers is the machine's, where what is gathered then is what the machine's tables have.
use Rattle.std.proofs.Common.{◌≡◌, ℕ, suc, ◌*◌, List, [], length, Option, None, Some, Bool, true, false, cond, option_map, refl, sym, ap, ◌∙◌, subst}
use Rattle.std.specs.Prelude.{nat_lt}
use Rattle.hy_bound.specs.declared.Bound.{Bound}
use Rattle.hy_bound.specs.declared.Reply.{Reply}
use Rattle.hy_meaning.specs.Statement.{Table}
use Rattle.hy_plan.specs.Reads.{records_of}
use Rattle.hy_gathered.specs.Answers.{spread_all}
use Rattle.hy_undo.specs.Chunks.{ChunkData}
use Rattle.hy_event.specs.declared.SessionData.{SessionData}
use Rattle.hy_event.specs.declared.Open.{Open}
use Rattle.hy_protocol.specs.declared.Progress.{Progress}
use Rattle.hy_protocol.specs.declared.Progress.TheVariants as came
use Rattle.hy_event.specs.Events.{Part, ChunkPart}
use Rattle.hy_event.specs.Gathering.{ReadPlan}
use Rattle.hy_event.specs.Reading.{Reads, with_gathered}
use Rattle.hy_protocol.specs.Turns.{goes_on}
use Rattle.hy_event.specs.Turns.{Step, Takes, answer_turn}
use Rattle.hy_machine.specs.declared.Setting.{Setting}
use Rattle.hy_machine.specs.States.{State, Open as MachineOpen}
use Rattle.hy_machine.specs.Sessions.{view}
use Rattle.hy_protocol.specs.Turns.{goes_on as goes_on_there}
use Rattle.hy_machine.specs.Turns.{answers as answers_there}
use Rattle.hy_refinement.specs.Sessions.{OpenShows, SessionIs, GatheredBy}
use Rattle.hy_refinement.specs.Taken.{AtChunk, AtStatement, IsTaken, chunk_number}
use Rattle.hy_refinement.specs.Frames.{went_on, OwnStepsShow}
use Rattle.hy_refinement.proofs.FramesSeen.{was_shown}
use Rattle.hy_refinement.proofs.FramesReads.{same_records, read_out, on_now, out_now, read_moves, read_answers}

module _ (own : OwnStepsShow) (setting : Setting) (state : State) (parts : List Part) (sessions : List SessionData) (number : ℕ) (session : SessionData)
    (now : Open) (current : MachineOpen) (table chunk : ℕ) (old : ChunkData) (visited count : ℕ) (statement : Bound) (plan : ReadPlan)
    (progress : Progress) (after : SessionData) (new : ChunkData)
    (at : AtChunk setting state parts sessions number session now current table chunk old)
    (stands : AtStatement setting state number now visited count (Some statement)) (same : new ≡ old)
    (gathered : List Table) (reads : Reads session now visited statement plan gathered progress after)
    (has : GatheredBy setting (view setting state current.begun) (suc visited) gathered (Some statement))
    (rows_there : List Table) (reply_there : Reply) where
  was : OpenShows setting state at.at_open.shown.shows.core number now current
  was = was_shown setting state parts sessions number session now current table chunk old at visited count stands.phase_is

  session_is : SessionIs setting number session
  session_is = (at.at_open.shown.shows.sessions_show.each number session at.at_open.is_open.found).session_is

  abbrev is_on : Bool
  is_on = nat_lt (suc visited) (setting.chunks * plan.tables)

  -- the session once it has gathered
  gathered_here : (with_gathered gathered session).now ≡ Some (record now { gathered = gathered })
  gathered_here = ap (option_map (λ (now : Open). record now { gathered = gathered })) at.at_open.is_open.open_here

  -- the last visit has the machine's reply and its records
  pub reads_taken : (is_on ≡ false → plan.reply gathered ≡ reply_there)
      → (is_on ≡ false → records_of setting.shapes (suc (length current.begun.replies)) statement (spread_all plan.parts gathered)
      ≡ records_of setting.shapes (suc (length current.begun.replies)) statement rows_there)
      → IsTaken setting state parts sessions number
      (cond is_on (goes_on_there visited) (answers_there setting current.begun statement rows_there [] reply_there None))
      (chunk_number setting table chunk) progress after (ChunkPart new)
  reads_taken replies records =
      by_more is_on refl
      (subst (λ (chunks : ℕ). Takes (with_gathered gathered session) (cond (nat_lt (suc visited) (chunks * plan.tables)) (goes_on visited)
      (answer_turn session now statement (spread_all plan.parts gathered) [] (plan.reply gathered) None)) progress after) session_is.chunks reads)
    where
      by_more : (more : Bool) → is_on ≡ more
          → Takes (with_gathered gathered session) (cond more (goes_on visited)
          (answer_turn session now statement (spread_all plan.parts gathered) [] (plan.reply gathered) None)) progress after
          → IsTaken setting state parts sessions number
          (cond more (goes_on_there visited) (answers_there setting current.begun statement rows_there [] reply_there None))
          (chunk_number setting table chunk) progress after (ChunkPart new)
      by_more true on takes =
          read_moves own setting state parts sessions number session now current table chunk old at visited count stands.phase_is progress after new same
          gathered
          (subst (λ (one : Option Bound). GatheredBy setting (view setting state current.begun) (suc visited) gathered one) (sym stands.statement_is) has)
          (takes ∙ on_now (with_gathered gathered session) (record now { gathered = gathered }) visited gathered_here)
      by_more false out takes =
          read_answers own setting state parts sessions number session now current table chunk old at visited count stands.phase_is progress after new same
          reply_there (records_of session.shapes (suc (length now.replies)) statement (spread_all plan.parts gathered))
          (records_of setting.shapes (suc (length current.begun.replies)) statement rows_there)
          (same_records setting session now current statement (spread_all plan.parts gathered) session_is.shapes was.open_shows.replies ∙ records out)
          (takes ∙ (out_now (with_gathered gathered session) (record now { gathered = gathered }) statement (spread_all plan.parts gathered)
          (plan.reply gathered) gathered_here
          ∙ ap (λ (reply : Reply). let step : Step = (
            went_on session (read_out reply (records_of session.shapes (suc (length now.replies)) statement (spread_all plan.parts gathered)) now),
            came.Answered,
          ) in step) (replies out)))
