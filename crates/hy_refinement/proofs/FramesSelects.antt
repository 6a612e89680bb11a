-- A visit of a SELECT is the machine's.
use Rattle.std.proofs.Common.{◌≡◌, ℕ, suc, ◌+◌, ◌*◌, ◌/◌, ◌%◌, ◌<◌, ◌≤◌, List, [], length, map, take, get_or, Option, None, Some, true, false}
use Rattle.std.proofs.Common.{refl, sym, ap, ◌∙◌, subst, arith, inl, inr}
use Rattle.std.specs.Prelude.{slice_get, nat_lt}
use Rattle.std.proofs.lemmas.Bool.{cases_lt, lt-ltb}
use Rattle.std.proofs.lemmas.List.{length-map}
use Rattle.std.proofs.lemmas.Nat.{div-add-mod'}
use Rattle.std.proofs.lemmas.Option.{slice_get_within}
use Rattle.std.proofs.Math.Nat.{mul-le-mul_right}
use Rattle.hy_bound.specs.declared.Bound.{Bound}
use Rattle.hy_bound.specs.declared.Bound.TheVariants.{Select}
use Rattle.hy_bound.specs.declared.Items.{Items}
use Rattle.hy_bound.specs.declared.On.{On}
use Rattle.hy_bound.specs.declared.Shape.{Shape}
use Rattle.hy_bound.specs.Agreement.{FitTables, HaveTheirKeys}
use Rattle.hy_bound.specs.Condition.{Condition}
use Rattle.hy_bound.specs.Records.{select_conditions}
use Rattle.hy_meaning.specs.Statement.{Table, answer_of}
use Rattle.hy_plan.specs.declared.PlanPart.{PlanPart}
use Rattle.hy_plan.specs.Reads.{select_named, records_of}
use Rattle.hy_gathered.specs.Answers.{spread_all}
use Rattle.hy_laws.specs.Lookups.{gathered_for, looked_up, LookedUpAnswers, LookedUpLogsTheSame}
use Rattle.hy_laws.specs.Turns.{columns_gathered, LookedUpAlone}
use Rattle.hy_laws.specs.Wanted.{ReadIsWanted}
use Rattle.hy_undo.specs.Chunks.{ChunkData, rows_seen}
use Rattle.hy_event.specs.declared.SessionData.{SessionData}
use Rattle.hy_event.specs.declared.Open.{Open}
use Rattle.hy_protocol.specs.declared.Progress.{Progress}
use Rattle.hy_event.specs.Events.{Part, ChunkPart}
use Rattle.hy_event.specs.Sessions.{viewer_of}
use Rattle.hy_event.specs.Gathering.{ReadPlan, select_read_plan}
use Rattle.hy_event.specs.Reading.{ReadVisit, PlannedVisit, Reads, gathered_with}
use Rattle.hy_machine.specs.declared.Setting.{Setting}
use Rattle.hy_machine.specs.States.{State, Open as MachineOpen}
use Rattle.hy_machine.specs.Tables.{Tables}
use Rattle.hy_machine.specs.Sessions.{view}
use Rattle.hy_machine.specs.Turns.{rows_seen as rows_there, read_turn as read_turn_there}
use Rattle.hy_refinement.specs.Sessions.{SessionIs, GatheredBy, gathered_after}
use Rattle.hy_refinement.specs.Taken.{AtChunk, AtStatement, IsTaken, chunk_number}
use Rattle.hy_refinement.specs.Frames.{OwnStepsShow}
use Rattle.hy_refinement.specs.Visits.{SelectsAreTaken}
use Rattle.hy_refinement.proofs.FramesSeen.{was_shown}
use Rattle.hy_refinement.proofs.FramesCells.{chunk_cells, seen_chunk, view_most}
use Rattle.hy_refinement.proofs.FramesGathers.{whole, whole_length}
use Rattle.hy_refinement.proofs.FramesColumns.{AreLookedUpEarlier}
use Rattle.hy_refinement.proofs.FramesRows.{gathers_more}
use Rattle.hy_refinement.proofs.FramesReadTurns.{reads_taken}
use Rattle.hy_refinement.proofs.FramesPlans.{sources_before, part_table, part_rows, parts_count}
use Rattle.hy_refinement.proofs.FramesWholes.{gathered_in_turn}

-- the laws of what is looked up
pub record Lookups : Type 0 where
  pub alone : LookedUpAlone
  pub answers : LookedUpAnswers
  pub logs : LookedUpLogsTheSame
  pub wanted : ReadIsWanted

module _ (own : OwnStepsShow) (laws : Lookups)
    (setting : Setting) (state : State) (parts : List Part) (sessions : List SessionData) (number : ℕ) (session : SessionData)
    (now : Open) (current : MachineOpen) (table chunk : ℕ) (old : ChunkData) (visited count : ℕ) (numbers : List ℕ)
    (ons : List On) (pred : Condition) (items : Items)
    (progress : Progress) (after : SessionData) (new : ChunkData)
    (at : AtChunk setting state parts sessions number session now current table chunk old)
    (stands : AtStatement setting state number now visited count (Some (Select numbers ons pred items)))
    (table_is : table ≡ get_or numbers (visited / setting.chunks) 0) (chunk_is : chunk ≡ visited % setting.chunks)
    (fits : FitTables setting.shapes numbers (map (rows_there (view setting state current.begun)) numbers)) (keys : HaveTheirKeys setting.shapes numbers)
    (visit : ReadVisit session now visited (Select numbers ons pred items) (select_read_plan session.shapes numbers ons pred items)
    old progress after new) where
  abbrev plan : ReadPlan
  plan = select_read_plan setting.shapes numbers ons pred items

  abbrev statement : Bound
  statement = Select numbers ons pred items

  abbrev tables : Tables
  tables = view setting state current.begun

  abbrev rows_all : List Table
  rows_all = map (rows_there tables) numbers

  abbrev turn : ℕ
  turn = visited / setting.chunks

  session_is : SessionIs setting number session
  session_is = (at.at_open.shown.shows.sessions_show.each number session at.at_open.is_open.found).session_is

  here : ReadVisit session now visited statement plan old progress after new
  here = subst (λ (shapes : List Shape). ReadVisit session now visited statement (select_read_plan shapes numbers ons pred items) old progress after new)
      session_is.shapes visit

  turn_is : visited / session.chunks ≡ turn
  turn_is = ap (λ (chunks : ℕ). visited / chunks) session_is.chunks

  early : AreLookedUpEarlier plan.parts
  early at_turn part lookup e looks =
      let less = sources_before setting.shapes (select_conditions ons pred) (select_named ons pred items) 0 None ons numbers at_turn part lookup e looks in
      omega (arith, less)

  parts_long : length plan.parts ≡ length numbers
  parts_long = parts_count setting.shapes (select_conditions ons pred) (select_named ons pred items) 0 None ons numbers

  count_is : visited ≡ turn * setting.chunks + chunk
  count_is = let e = div-add-mod' visited setting.chunks in omega (arith, e, chunk_is)

  was_gathered : now.gathered ≡ gathered_after setting tables plan visited
  was_gathered =
      subst (λ (one : Option Bound). GatheredBy setting tables visited now.gathered one) stands.statement_is
      ((was_shown setting state parts sessions number session now current table chunk old at visited count stands.phase_is).gathered_shows
      visited count stands.phase_is)

  -- ---- once all chunks are visited

  all_rows : whole setting tables plan.parts [] plan.parts ≡ looked_up plan.parts rows_all
  all_rows =
      let small = at.is_part.chunk_below in
      let some : 0 < setting.chunks = omega (arith, small) in
      let long = whole_length setting tables plan.parts [] plan.parts some in
      laws.alone plan.parts rows_all (whole setting tables plan.parts [] plan.parts) (length-map numbers (rows_there tables) ∙ sym parts_long)
      (omega (arith, long))
      (λ at_turn part rows e f.
      gathered_in_turn laws.wanted setting tables plan.parts early some (view_most setting state current.begun) at_turn part e
      ∙ ap (λ (given : Table). Some (gathered_for part (columns_gathered (take at_turn plan.parts)
      (take at_turn (whole setting tables plan.parts [] plan.parts))) given))
      (sym (part_rows setting.shapes (select_conditions ons pred) (select_named ons pred items) 0 None ons numbers (rows_there tables) at_turn part rows e f)))

  -- ---- a visit that has a part

  module _ (part : PlanPart) (is_part : slice_get plan.parts turn ≡ Some part) where
    abbrev gathered : List Table
    gathered = gathered_with session now plan (visited / session.chunks) part old.places

    seen : rows_seen (viewer_of session now) old.places ≡ chunk_cells setting chunk (get_or tables part.table [])
    seen =
        seen_chunk setting state parts sessions number session now current table chunk old at visited count stands.phase_is
        ∙ ap (λ (n : ℕ). chunk_cells setting chunk (get_or tables n []))
        (table_is ∙ sym (part_table setting.shapes (select_conditions ons pred) (select_named ons pred items) 0 None ons numbers turn part is_part))

    gathers : gathered ≡ gathered_after setting tables plan (suc visited)
    gathers =
        ap (λ (n : ℕ). gathered_with session now plan n part old.places) turn_is
        ∙ gathers_more setting tables plan.parts turn chunk part (viewer_of session now) old.places early at.is_part.chunk_below is_part seen
        visited now.gathered count_is was_gathered

    last_is : nat_lt (suc visited) (setting.chunks * length numbers) ≡ false → suc visited ≡ length plan.parts * setting.chunks
    last_is isnt = elim (cases_lt (suc visited) (setting.chunks * length numbers)) [
      | inl less ↦ absurd (let e : true ≡ false = sym (lt-ltb (suc visited) (setting.chunks * length numbers) less) ∙ isnt in cc)
      | inr more ↦
          let within = slice_get_within plan.parts turn part is_part in
          let most : suc turn * setting.chunks ≤ length plan.parts * setting.chunks =
          mul-le-mul_right setting.chunks (let s : suc turn ≤ length plan.parts = omega (arith, within) in s) in
          let next : suc turn * setting.chunks ≡ turn * setting.chunks + setting.chunks = omega arith in
          let all : length plan.parts * setting.chunks ≡ setting.chunks * length numbers =
          ap (λ (n : ℕ). n * setting.chunks) parts_long ∙ (let s : length numbers * setting.chunks ≡ setting.chunks * length numbers = omega arith in s) in
          let small = at.is_part.chunk_below in
          omega (arith, more, most, next, all, small, count_is)
    ]

    looked : nat_lt (suc visited) (setting.chunks * length numbers) ≡ false → gathered ≡ looked_up plan.parts rows_all
    looked isnt = gathers ∙ (ap (gathered_after setting tables plan) (last_is isnt) ∙ all_rows)

    part_taken : Reads session now visited statement plan gathered progress after
        → IsTaken setting state parts sessions number
        (read_turn_there setting current.begun visited (length numbers) statement rows_all (answer_of ons pred items rows_all))
        (chunk_number setting table chunk) progress after (ChunkPart new)
    part_taken reads =
        reads_taken own setting state parts sessions number session now current table chunk old visited count statement plan progress after new at stands
        visit.chunk gathered reads gathers rows_all (answer_of ons pred items rows_all)
        (λ isnt. ap plan.reply (looked isnt) ∙ laws.answers setting.shapes numbers ons pred items rows_all fits keys)
        (λ isnt.
        ap (λ (all : List Table). records_of setting.shapes (suc (length current.begun.replies)) statement (spread_all plan.parts all)) (looked isnt)
        ∙ laws.logs setting.shapes (suc (length current.begun.replies)) numbers ons pred items rows_all fits)

  taken : IsTaken setting state parts sessions number
      (read_turn_there setting current.begun visited (length numbers) statement rows_all (answer_of ons pred items rows_all))
      (chunk_number setting table chunk) progress after (ChunkPart new)
  taken = by (slice_get plan.parts (visited / session.chunks)) refl here.turn
    where
      by : (one : Option PlanPart) → slice_get plan.parts (visited / session.chunks) ≡ one
          → PlannedVisit session now visited statement plan one old.places progress after
          → IsTaken setting state parts sessions number
          (read_turn_there setting current.begun visited (length numbers) statement rows_all (answer_of ons pred items rows_all))
          (chunk_number setting table chunk) progress after (ChunkPart new)
      by None e reads = absurd reads
      by (Some part) e reads = part_taken part (sym (ap (slice_get plan.parts) turn_is) ∙ e) reads

pub selects : OwnStepsShow → Lookups → SelectsAreTaken
selects own laws setting state parts sessions number session now current table chunk old visited count numbers ons pred items progress after new
    at stands table_is chunk_is fits keys visit =
    taken own laws setting state parts sessions number session now current table chunk old visited count numbers ons pred items progress after new
    at stands table_is chunk_is fits keys visit
