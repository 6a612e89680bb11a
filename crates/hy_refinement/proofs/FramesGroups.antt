-- A visit of a SELECT with GROUP BY is the machine's.
use Rattle.std.proofs.Common.{◌≡◌, ℕ, zero, suc, ◌*◌, ◌/◌, ◌<◌, List, [], ◌∷◌, map, get_or, Option, None, Some, Bool, true, false}
use Rattle.std.proofs.Common.{refl, sym, ap, ◌∙◌, subst, arith, inl, inr}
use Rattle.std.specs.Prelude.{slice_get, filter, nat_lt, ◌||◌}
use Rattle.std.proofs.lemmas.Bool.{cases_lt, lt-ltb}
use Rattle.std.proofs.lemmas.List.{take_all}
use Rattle.std.proofs.lemmas.Nat.{div_below}
use Rattle.std.proofs.lemmas.Option.{same_Some}
use Rattle.hy_bound.specs.declared.Aggregate.{Aggregate}
use Rattle.hy_bound.specs.declared.Bound.{Bound}
use Rattle.hy_bound.specs.declared.Bound.TheVariants.{Group}
use Rattle.hy_bound.specs.declared.Shape.{Shape}
use Rattle.hy_bound.specs.Agreement.{FitTable}
use Rattle.hy_bound.specs.Changes.{present}
use Rattle.hy_bound.specs.Condition.{Condition}
use Rattle.hy_bound.specs.Predicate.{truth_of}
use Rattle.hy_bound.specs.Projection.{projected}
use Rattle.hy_bound.specs.Records.{shape_of}
use Rattle.hy_meaning.specs.Statement.{Table, grouped}
use Rattle.hy_plan.specs.declared.PlanPart.{PlanPart}
use Rattle.hy_plan.specs.Reads.{is_read_of}
use Rattle.hy_gathered.specs.GroupLaws.{gathered_from, GatheredGroups}
use Rattle.hy_undo.specs.Places.{Cell}
use Rattle.hy_undo.specs.Chunks.{ChunkData}
use Rattle.hy_event.specs.declared.SessionData.{SessionData}
use Rattle.hy_event.specs.declared.Open.{Open}
use Rattle.hy_protocol.specs.declared.Progress.{Progress}
use Rattle.hy_event.specs.Events.{Part, ChunkPart}
use Rattle.hy_event.specs.Sessions.{viewer_of}
use Rattle.hy_event.specs.Gathering.{ReadPlan, group_part, group_read_plan}
use Rattle.hy_event.specs.Reading.{ReadVisit, PlannedVisit, Reads, gathered_with}
use Rattle.hy_machine.specs.declared.Setting.{Setting}
use Rattle.hy_machine.specs.States.{State, Open as MachineOpen}
use Rattle.hy_machine.specs.Sessions.{view}
use Rattle.hy_machine.specs.Turns.{rows_seen as rows_there, read_turn as read_turn_there}
use Rattle.hy_refinement.specs.Sessions.{SessionIs, GatheredBy, gathered_after}
use Rattle.hy_refinement.specs.Taken.{AtChunk, AtStatement, IsTaken, chunk_number}
use Rattle.hy_refinement.specs.Frames.{OwnStepsShow}
use Rattle.hy_refinement.specs.Visits.{GroupsAreTaken}
use Rattle.hy_refinement.proofs.FramesLists.{filter_same}
use Rattle.hy_refinement.proofs.FramesSeen.{was_shown}
use Rattle.hy_refinement.proofs.FramesCells.{seen_chunk, view_most}
use Rattle.hy_refinement.proofs.FramesGathers.{at_last}
use Rattle.hy_refinement.proofs.FramesColumns.{AreLookedUpEarlier}
use Rattle.hy_refinement.proofs.FramesRows.{gathers_more}
use Rattle.hy_refinement.proofs.FramesReadTurns.{reads_taken}

-- ---- tests

or_never : (b : Bool) → (b || false) ≡ b
or_never true = refl
or_never false = refl

-- ---- the plan

no_lookups : (part : PlanPart) → part.lookup ≡ None → AreLookedUpEarlier (part ∷ [])
no_lookups part none zero other lookup e f =
    absurd (let g : None ≡ Some lookup = sym none ∙ (ap (λ (one : PlanPart). one.lookup) (same_Some part other e) ∙ f) in cc)
no_lookups part none (suc turn) other lookup e f = absurd cc

module _ (own : OwnStepsShow) (told : GatheredGroups)
    (setting : Setting) (state : State) (parts : List Part) (sessions : List SessionData) (number : ℕ) (session : SessionData)
    (now : Open) (current : MachineOpen) (table chunk : ℕ) (old : ChunkData) (visited count : ℕ) (pred : Condition) (key : ℕ) (aggregate : Aggregate)
    (progress : Progress) (after : SessionData) (new : ChunkData)
    (at : AtChunk setting state parts sessions number session now current table chunk old)
    (stands : AtStatement setting state number now visited count (Some (Group table pred key aggregate))) (chunk_is : chunk ≡ visited)
    (fits : FitTable (shape_of setting.shapes table) (rows_there (view setting state current.begun) table))
    (visit : ReadVisit session now visited (Group table pred key aggregate)
    (group_read_plan session.shapes table pred key aggregate) old progress after new) where
  abbrev plan : ReadPlan
  plan = group_read_plan setting.shapes table pred key aggregate

  abbrev part : PlanPart
  part = group_part (shape_of setting.shapes table) table pred key aggregate

  abbrev statement : Bound
  statement = Group table pred key aggregate

  session_is : SessionIs setting number session
  session_is = (at.at_open.shown.shows.sessions_show.each number session at.at_open.is_open.found).session_is

  below : visited < setting.chunks
  below = let small = at.is_part.chunk_below in omega (arith, small, chunk_is)

  -- the visits are all of the first table
  first : visited / session.chunks ≡ 0
  first =
      let chunks = session_is.chunks in
      let less = div_below visited session.chunks 1 (omega (arith, below, chunks)) (omega (arith, below, chunks)) in
      omega (arith, less)

  here : ReadVisit session now visited statement plan old progress after new
  here = subst (λ (shapes : List Shape). ReadVisit session now visited statement (group_read_plan shapes table pred key aggregate) old progress after new)
      session_is.shapes visit

  abbrev gathered : List Table
  gathered = gathered_with session now plan (visited / session.chunks) part old.places

  reads : Reads session now visited statement plan gathered progress after
  reads = subst (λ (one : Option PlanPart). PlannedVisit session now visited statement plan one old.places progress after)
      (ap (slice_get plan.parts) first) here.turn

  was_gathered : now.gathered ≡ gathered_after setting (view setting state current.begun) plan visited
  was_gathered =
      subst (λ (one : Option Bound). GatheredBy setting (view setting state current.begun) visited now.gathered one) stands.statement_is
      ((was_shown setting state parts sessions number session now current table chunk old at visited count stands.phase_is).gathered_shows
      visited count stands.phase_is)

  is_gathered : gathered ≡ gathered_after setting (view setting state current.begun) plan (suc visited)
  is_gathered =
      ap (λ (n : ℕ). gathered_with session now plan n part old.places) first
      ∙ gathers_more setting (view setting state current.begun) plan.parts 0 chunk part (viewer_of session now) old.places
      (no_lookups part refl) at.is_part.chunk_below refl
      (seen_chunk setting state parts sessions number session now current table chunk old at visited count stands.phase_is)
      visited now.gathered (omega (arith, chunk_is)) was_gathered

  abbrev cells : List Cell
  cells = get_or (view setting state current.begun) table []

  -- the last visit has gathered what the machine's table has
  all_rows : suc visited ≡ setting.chunks → gathered ≡ gathered_from part (rows_there (view setting state current.begun) table) ∷ []
  all_rows last =
      let most = view_most setting state current.begun table in
      is_gathered
      ∙ (ap (gathered_after setting (view setting state current.begun) plan) last
      ∙ (at_last setting (view setting state current.begun) plan.parts setting.chunks [] part [] (omega (arith, below)) (omega arith)
      ∙ (ap (λ (rows : Table). map (projected part.columns) (filter (is_read_of (pred ∷ [])) rows) ∷ [])
      (ap present (take_all (setting.chunks * setting.rows) cells most))
      ∙ ap (λ (rows : Table). map (projected part.columns) rows ∷ [])
      (filter_same (is_read_of (pred ∷ [])) (truth_of pred) (present cells) (λ row. or_never (truth_of pred row))))))

  is_last : nat_lt (suc visited) (setting.chunks * 1) ≡ false → suc visited ≡ setting.chunks
  is_last isnt = elim (cases_lt (suc visited) (setting.chunks * 1)) [
    | inl less ↦ absurd (let e : true ≡ false = sym (lt-ltb (suc visited) (setting.chunks * 1) less) ∙ isnt in cc)
    | inr more ↦ omega (arith, more, below)
  ]

  taken : IsTaken setting state parts sessions number
      (read_turn_there setting current.begun visited 1 statement [] (grouped pred key aggregate (rows_there (view setting state current.begun) table)))
      (chunk_number setting table chunk) progress after (ChunkPart new)
  taken =
      reads_taken own setting state parts sessions number session now current table chunk old visited count statement plan progress after new at stands
      visit.chunk gathered reads is_gathered [] (grouped pred key aggregate (rows_there (view setting state current.begun) table))
      (λ isnt. ap plan.reply (all_rows (is_last isnt))
      ∙ told (shape_of setting.shapes table) table pred key aggregate (rows_there (view setting state current.begun) table) fits)
      (λ isnt. refl)

pub groups : OwnStepsShow → GatheredGroups → GroupsAreTaken
groups own told setting state parts sessions number session now current table chunk old visited count pred key aggregate progress after new
    at stands chunk_is fits visit =
    taken own told setting state parts sessions number session now current table chunk old visited count pred key aggregate progress after new
    at stands chunk_is fits visit
