-- A visit of a SELECT: what it asks of a session, and what comes of it.
use Rattle.std.specs.Prelude.{◌≡◌, ℕ, ◌/◌, List, [], None, Some, length, slice_get}
use Rattle.hy_bound.specs.declared.Bound.{Bound}
use Rattle.hy_bound.specs.Records.{shape_of}
use Rattle.hy_plan.specs.declared.PlanPart.{PlanPart}
use Rattle.hy_meaning.specs.Statement.{Table}
use Rattle.hy_gathered.specs.Answers.{spread_all}
use Rattle.hy_undo.specs.Places.{Place}
use Rattle.hy_chunk.specs.Views.{Whole}
use Rattle.hy_value.specs.declared.change.Change.{Change}
use Rattle.hy_event.specs.declared.SessionData.{SessionData}
use Rattle.hy_event.specs.declared.Open.{Open}
use Rattle.hy_protocol.specs.declared.Phase.TheVariants.{Working}
use Rattle.hy_event.specs.declared.Need.TheVariants.{Chunk}
use Rattle.hy_event.specs.Gathering.{ReadPlan, with_rows}
use Rattle.hy_event.specs.Needs.{statement_need}
use Rattle.hy_event.specs.Reading.{gathered_with, read_turn}
use Rattle.hy_protocol.specs.Turns.{Turn, Visits, Answers}
use Rattle.hy_session.specs.declared.reading.ReadStep.{ReadStep}
use Rattle.hy_session.specs.declared.reading.ReadStep.TheVariants.{More, Answer}
use Rattle.hy_session.specs.Near.{HasVisitLeft, present_statement}
use Rattle.hy_visit.specs.Readers.{IsRead, IsPlanOf}

-- ---- before the visit

-- its open transaction is at a SELECT
pub record IsReading (session : SessionData) : Type 0 where
  pub now : Open
  pub visited : ℕ
  pub count : ℕ
  pub statement : Bound
  pub opened : session.now ≡ Some now
  pub working : now.phase ≡ Working visited count
  pub present : present_statement session now ≡ Some statement
  pub reads : IsRead statement

-- the chunk is one that the next visit of a SELECT needs, of its table's columns
pub record IsNextFor (session : SessionData) (now : Open) (visited : ℕ) (statement : Bound) (chunk : Whole) : Type 0 where
  pub number : ℕ
  pub needed : statement_need session now visited statement ≡ Chunk chunk.shown.table number
  pub wide : length chunk.kinds ≡ (shape_of session.shapes chunk.shown.table).width
  pub left : HasVisitLeft session.chunks visited statement

-- ---- the visit

-- what a session does: it goes on, or it answers
abbrev pub step_turn : ReadStep → Turn Change
step_turn (More number piece visited) = Visits [] (Working visited 0)
step_turn (Answer reply records) = Answers [] reply None records

-- where it goes on, what is gathered is what was, with a piece behind it
abbrev pub KeepsPiece : Open → List Table → ReadStep → Type 0
KeepsPiece now gathered (More number piece visited) = gathered ≡ with_rows number piece.rows now.gathered
KeepsPiece now gathered (Answer reply records) = Unit {0}

-- what is gathered of a chunk of these positions, and what the session does then, is as the plan of the SELECT says
pub record IsStep (session : SessionData) (now : Open) (visited : ℕ) (statement : Bound) (places : List Place) (step : ReadStep) : Type 0 where
  pub plan : ReadPlan
  pub part : PlanPart
  pub planned : IsPlanOf session.shapes statement plan
  pub found : slice_get plan.parts (visited / session.chunks) ≡ Some part
  pub keeps : KeepsPiece now (gathered_with session now plan (visited / session.chunks) part places) step
  pub turn : step_turn step ≡ read_turn session now visited plan.tables statement
      (spread_all plan.parts (gathered_with session now plan (visited / session.chunks) part places))
      (plan.reply (gathered_with session now plan (visited / session.chunks) part places))

-- what comes of the visit of the present statement
pub record IsStepOf (session : SessionData) (places : List Place) (step : ReadStep) : Type 0 where
  pub now : Open
  pub visited : ℕ
  pub count : ℕ
  pub statement : Bound
  pub opened : session.now ≡ Some now
  pub working : now.phase ≡ Working visited count
  pub present : present_statement session now ≡ Some statement
  pub comes : IsStep session now visited statement places step
