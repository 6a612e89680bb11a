-- A visit of the core is the machine's turn: what a session finds out there is what the machine's finds out.
use Rattle.std.proofs.Common.{◌≡◌, ℕ, suc, ◌-◌, ◌≤◌, List, [], length, Option, None, Some, Bool, true, false}
use Rattle.std.proofs.Common.{refl, sym, ap, ◌∙◌, subst, cond}
use Rattle.std.specs.Prelude.{slice_get, nat_lt}
use Rattle.std.proofs.lemmas.Bool.{le-ltb, cond_both}
use Rattle.hy_value.specs.declared.change.Change.{Change}
use Rattle.hy_bound.specs.declared.Bound.{Bound}
use Rattle.hy_bound.specs.declared.Bound.TheVariants.{Select, Group, Insert, Update, Delete, Savepoint, RollbackTo, Release}
use Rattle.hy_bound.specs.declared.Reply.{Reply}
use Rattle.hy_bound.specs.declared.Reply.TheVariants as reply
use Rattle.hy_bound.specs.declared.Ending.{Ending}
use Rattle.hy_bound.specs.declared.Ending.TheVariants.{Committed, Read, RolledBack}
use Rattle.hy_bound.specs.declared.Txn.{Txn}
use Rattle.hy_bound.specs.Records.{shape_of}
use Rattle.hy_stamp.specs.declared.Label.{Label}
use Rattle.hy_journal.specs.declared.CoreData.{CoreData}
use Rattle.hy_event.specs.declared.SessionData.{SessionData}
use Rattle.hy_event.specs.declared.Open.{Open}
use Rattle.hy_event.specs.declared.Need.{Need}
use Rattle.hy_event.specs.declared.Need.TheVariants.{Core, Chunk}
use Rattle.hy_event.specs.Sessions.{written_chunks as chunks_written}
use Rattle.hy_event.specs.Needs.{checks_of, phase_need, working_need, closing_need, statement_need, insert_need, chunk_or_core}
use Rattle.hy_event.specs.CoreTurns.{TakesAtCore, found_at_core as found_here, open_turn}
use Rattle.hy_event.specs.Events.{Part, CorePart}
use Rattle.hy_machine.specs.declared.Setting.{Setting}
use Rattle.hy_machine.specs.States.{State, Open as MachineOpen}
use Rattle.hy_machine.specs.Writes.{Write, written_chunks, wrote_nothing}
use Rattle.hy_machine.specs.Sessions.{session_at, txn_at, blocker, view}
use Rattle.hy_machine.specs.Holding.{undone}
use Rattle.hy_machine.specs.Saving.{written_since}
use Rattle.hy_machine.specs.Turns.{found_at_core, statement_turn, back_turn, working_turn, phase_turn}
use Rattle.hy_protocol.specs.declared.Phase.{Phase}
use Rattle.hy_protocol.specs.declared.Phase.TheVariants as phase
use Rattle.hy_protocol.specs.declared.Progress.{Progress}
use Rattle.hy_protocol.specs.Asking.{AtCore}
use Rattle.hy_protocol.specs.Turns.{Turn, Visits, Saves, Ends, unless_blocked, is_stamping}
use Rattle.hy_protocol.specs.Statements.{saving_turn}
use Rattle.hy_protocol.specs.Closing.{undo_turn, stamp_turn, validated_turn, free_commit_turn, commit_turn, closing_turn}
use Rattle.hy_protocol.specs.Sessions as by_phase
use Rattle.hy_refinement.specs.Sessions.{statement_at}
use Rattle.hy_refinement.specs.Steps.{ReadsFit}
use Rattle.hy_refinement.specs.Taken.{ShownState, AtOpen, AtStatement, IsTaken, core_number}
use Rattle.hy_refinement.specs.CoreVisits.{IsFreeToGo}
use Rattle.hy_refinement.proofs.NeededParts.{chunk_is_no_core}
use Rattle.hy_refinement.proofs.StepLaws.{StepLaws}
use Rattle.hy_refinement.proofs.StepChunks.{needs_none, nothing_held, undone_all, none_left}

-- what is known of an open session before its visit
pub record Opening (setting : Setting) (state : State) (parts : List Part) (sessions : List SessionData) (number : ℕ)
    (session : SessionData) (now : Open) (current : MachineOpen) (txn : Txn) : Type 0 where
  pub at_open : AtOpen setting state parts sessions number session now current
  pub txn_is : txn_at setting number (session_at state number) ≡ Some txn
  pub replies : now.replies ≡ current.begun.replies
  pub reads_fit : ReadsFit setting (view setting state current.begun) (slice_get txn.statements (length now.replies))
  pub shapes : session.shapes ≡ setting.shapes
  pub chunks : session.chunks ≡ setting.chunks
  pub written : chunks_written session now ≡ written_chunks setting current.begun.own

-- ---- a turn, unless the session is blocked

module _ (laws : StepLaws) (setting : Setting) (state : State) (parts : List Part) (sessions : List SessionData) (number : ℕ) (session : SessionData)
    (shown : ShownState setting state parts sessions) (found : slice_get sessions number ≡ Some session)
    (progress : Progress) (after : SessionData) (new : CoreData) where
  abbrev TakesHere : Turn Change → Type 0
  TakesHere turn = TakesAtCore session shown.shows.core (Some turn) progress after new

  abbrev IsTakenThere : Turn Write → Type 0
  IsTakenThere turn = IsTaken setting state parts sessions number turn (core_number setting) progress after (CorePart new)

  core_stays : new ≡ shown.shows.core → slice_get parts (core_number setting) ≡ Some (CorePart new)
  core_stays same = shown.shows.parts_are.core_last ∙ ap (λ (core : CoreData). Some (CorePart core)) (sym same)

  pub unless_step : (here : Turn Change) (there : Turn Write) → (IsFreeToGo state number → TakesHere here → IsTakenThere there)
      → TakesHere (unless_blocked (blocker state number) here) → IsTakenThere (unless_blocked (blocker state number) there)
  unless_step here there step takes = by_blocker (blocker state number) refl takes
    where
      by_blocker : (by : Option Label) → blocker state number ≡ by → TakesHere (unless_blocked by here) → IsTakenThere (unless_blocked by there)
      by_blocker None is takes = step is takes
      by_blocker (Some by) is takes =
          laws.waits setting state parts sessions number session by (core_number setting) (CorePart new) progress after shown.shows found
          (core_stays takes.1) takes.0

-- ---- an open transaction

module _ (laws : StepLaws) (setting : Setting) (state : State) (parts : List Part) (sessions : List SessionData) (number : ℕ) (session : SessionData)
    (now : Open) (current : MachineOpen) (txn : Txn) (is : Opening setting state parts sessions number session now current txn)
    (progress : Progress) (after : SessionData) (new : CoreData) where
  abbrev core : CoreData
  core = is.at_open.shown.shows.core

  abbrev TakesTurn : Turn Change → Type 0
  TakesTurn turn = TakesAtCore session core (Some turn) progress after new

  abbrev TurnIsTaken : Turn Write → Type 0
  TurnIsTaken turn = IsTaken setting state parts sessions number turn (core_number setting) progress after (CorePart new)

  unless : (here : Turn Change) (there : Turn Write) → (IsFreeToGo state number → TakesTurn here → TurnIsTaken there)
      → TakesTurn (unless_blocked (blocker state number) here) → TurnIsTaken (unless_blocked (blocker state number) there)
  unless = unless_step laws setting state parts sessions number session is.at_open.shown is.at_open.is_open.found progress after new

  abbrev there : AtCore
  there = found_at_core setting state number current.begun

  -- until it has its entry
  found_same : is_stamping current.phase ≡ false → found_here session core now ≡ there
  found_same working =
      let shown = is.at_open.shown.shows in
      let blocked = laws.blockers setting state core sessions number session shown.core_shows shown.sessions_show is.at_open.is_open.found in
      let nothing = laws.notes setting state parts sessions number session now current is.at_open working in
      let written = is.written in
      let hit = laws.hits setting state parts sessions number session now current is.at_open in
      let count = shown.core_shows.entries_show.count in
      cc

  -- COMMIT
  commits : (visited count : ℕ) → AtStatement setting state number now visited count None → is_stamping current.phase ≡ false
      → TakesTurn (commit_turn there) → TurnIsTaken (commit_turn there)
  commits visited count stands working =
      unless (free_commit_turn there) (free_commit_turn there) (λ free takes. by_found free (wrote_nothing current.begun.own) refl there.hit takes)
    where
      by_found : IsFreeToGo state number → (nothing : Bool) → wrote_nothing current.begun.own ≡ nothing → (hit : Option Ending)
          → TakesTurn (cond nothing (Ends Read) (validated_turn hit)) → TurnIsTaken (cond nothing (Ends Read) (validated_turn hit))
      by_found free true none hit takes =
          laws.closes setting state parts sessions number session now current Read progress after new is.at_open free working
          (nothing_held setting current none) takes
      by_found free false some None takes =
          laws.enters setting state parts sessions number session now current visited count progress after new is.at_open free stands takes
      by_found free false some (Some cause) takes =
          laws.refusals setting state parts sessions number session now current visited count cause (core_number setting) (CorePart new)
          progress after is.at_open stands.phase_is
          (core_stays laws setting state parts sessions number session is.at_open.shown is.at_open.is_open.found progress after new takes.1) takes.0

  -- the end of what is undone whole
  ends : (visited : ℕ) (cause : Ending) → is_stamping current.phase ≡ false → undone current.phase ≡ visited
      → length (written_chunks setting current.begun.own) ≤ visited → TakesTurn (undo_turn there visited cause) → TurnIsTaken (undo_turn there visited cause)
  ends visited cause working so_far over =
      subst (λ (b : Bool). TakesTurn (cond b (Visits [] (phase.Undoing (suc visited) cause)) (unless_blocked (blocker state number) (Ends cause)))
      → TurnIsTaken (cond b (Visits [] (phase.Undoing (suc visited) cause)) (unless_blocked (blocker state number) (Ends cause))))
      (sym (le-ltb visited (length (written_chunks setting current.begun.own)) over))
      (unless (Ends cause) (Ends cause) (λ free takes.
      laws.closes setting state parts sessions number session now current cause progress after new is.at_open free working
      (undone_all setting current (subst (λ (n : ℕ). length (written_chunks setting current.begun.own) ≤ n) (sym so_far) over)) takes))

  -- the end of what is stamped whole
  leaves : (visited : ℕ) → now.phase ≡ phase.Stamping visited → length (written_chunks setting current.begun.own) ≤ visited
      → TakesTurn (stamp_turn there.written there.last visited) → TurnIsTaken (stamp_turn there.written there.last visited)
  leaves visited at_here over =
      subst (λ (b : Bool). TakesTurn (cond b (Visits [] (phase.Stamping (suc visited))) (Ends (Committed there.last)))
      → TurnIsTaken (cond b (Visits [] (phase.Stamping (suc visited))) (Ends (Committed there.last))))
      (sym (le-ltb visited (length (written_chunks setting current.begun.own)) over))
      (laws.leaves setting state parts sessions number session now current visited progress after new is.at_open at_here over)

  closes : (visited count : ℕ) → AtStatement setting state number now visited count None → is_stamping current.phase ≡ false → undone current.phase ≡ 0
      → (commits : Bool) → closing_need session now commits ≡ Core → TakesTurn (closing_turn there commits) → TurnIsTaken (closing_turn there commits)
  closes visited count stands working so_far true need takes = commits visited count stands working takes
  closes visited count stands working so_far false need takes =
      ends 0 RolledBack working so_far (none_left setting session now current 0 is.written need) takes

  -- an INSERT needs a chunk
  insert_no_core : (visited table checks : ℕ) → insert_need visited table checks ≡ Core → ⊥
  insert_no_core visited table checks =
      cond_both (nat_lt visited checks) (Chunk table visited) (Chunk table (visited - checks)) (λ (need : Need). need ≡ Core → ⊥)
      (λ b. chunk_is_no_core _ _) (λ b. chunk_is_no_core _ _)

  answered : (visited count : ℕ) (statement : Bound) (reply : Reply) → AtStatement setting state number now visited count (Some statement)
      → TakesTurn (unless_blocked (blocker state number) (Saves statement reply)) → TurnIsTaken (unless_blocked (blocker state number) (Saves statement reply))
  answered visited count statement reply stands =
      unless (Saves statement reply) (Saves statement reply) (λ free takes.
      laws.saves setting state parts sessions number session now current visited count statement reply progress after new is.at_open stands takes)

  -- a statement that needs the core opens or closes savepoints, and has gone back as far as it will
  statement_at_core : (visited count : ℕ) → is_stamping current.phase ≡ false → (statement : Bound)
      → AtStatement setting state number now visited count (Some statement)
      → statement_need session now visited statement ≡ Core → TakesTurn (saving_turn there statement)
      → TurnIsTaken (statement_turn setting state number current.begun visited count statement)
  statement_at_core visited count working (Select tables ons pred items) stands need takes = absurd (chunk_is_no_core _ _ need)
  statement_at_core visited count working (Group table pred key aggregate) stands need takes = absurd (chunk_is_no_core _ _ need)
  statement_at_core visited count working (Insert table row) stands need takes =
      absurd (insert_no_core visited table (checks_of session (shape_of session.shapes table).key) need)
  statement_at_core visited count working (Update table sets pred) stands need takes = absurd (chunk_is_no_core _ _ need)
  statement_at_core visited count working (Delete table pred) stands need takes = absurd (chunk_is_no_core _ _ need)
  statement_at_core visited count working (Savepoint name) stands need takes = answered visited count (Savepoint name) reply.Saved stands takes
  statement_at_core visited count working (RollbackTo name) stands need takes =
      let since = laws.since setting state parts sessions number session now current name is.at_open working in
      let none : slice_get (written_since setting current.begun name) visited ≡ None =
      needs_none (slice_get (written_since setting current.begun name) visited)
      (ap (λ (chunks : List (ℕ × ℕ)). chunk_or_core (slice_get chunks visited)) (sym since) ∙ need) in
      subst (λ (one : Option (ℕ × ℕ)). TurnIsTaken (back_turn setting state number current.begun visited name one)) (sym none)
      (answered visited count (RollbackTo name) reply.Back stands takes)
  statement_at_core visited count working (Release name) stands need takes = answered visited count (Release name) reply.Released stands takes

  -- what is done for the present statement, by what is found at the core
  abbrev for_statement : AtCore → ℕ → ℕ → Bound → Turn Change
  for_statement found visited count statement = saving_turn found statement

  works : (visited count : ℕ) → now.phase ≡ phase.Working visited count → current.phase ≡ phase.Working visited count
      → (statement : Option Bound) → slice_get txn.statements (length now.replies) ≡ statement → working_need session txn now visited statement ≡ Core
      → TakesTurn (by_phase.working_turn (for_statement there) there txn visited count statement)
      → TurnIsTaken (working_turn setting state number txn current.begun visited count statement)
  works visited count at_here at_there statement at need takes = by_statement statement at need takes
    where
      stands : (statement : Option Bound) → slice_get txn.statements (length now.replies) ≡ statement
          → AtStatement setting state number now visited count statement
      stands statement at = record { phase_is = at_here; statement_is = ap (λ (txn : Option Txn). statement_at txn (length now.replies)) is.txn_is ∙ at }

      by_statement : (statement : Option Bound) → slice_get txn.statements (length now.replies) ≡ statement
          → working_need session txn now visited statement ≡ Core
          → TakesTurn (by_phase.working_turn (for_statement there) there txn visited count statement)
          → TurnIsTaken (working_turn setting state number txn current.begun visited count statement)
      by_statement None at need takes =
          closes visited count (stands None at) (ap is_stamping at_there) (ap undone at_there) txn.commits need takes
      by_statement (Some statement) at need takes =
          statement_at_core visited count (ap is_stamping at_there) statement (stands (Some statement) at) need takes

  pub core_step : (stands : Phase) → now.phase ≡ stands → current.phase ≡ stands → phase_need session txn now stands ≡ Core
      → TakesTurn (open_turn session core txn now stands) → TurnIsTaken (phase_turn setting state number txn current.begun stands)
  core_step (phase.Working visited count) at_here at_there need takes =
      let statement = slice_get txn.statements (length now.replies) in
      subst (λ replies. TurnIsTaken (working_turn setting state number txn current.begun visited count (slice_get txn.statements (length replies)))) is.replies
      (works visited count at_here at_there statement refl need
      (subst (λ (found : AtCore). TakesTurn (by_phase.working_turn (for_statement found) found txn visited count statement)) (found_same (ap is_stamping at_there)) takes))
  core_step (phase.Stamping visited) at_here at_there need takes =
      leaves visited at_here (none_left setting session now current visited is.written need)
      (subst (λ (n : ℕ). TakesTurn (stamp_turn there.written (n - 1) visited)) is.at_open.shown.shows.core_shows.entries_show.count
      (subst (λ chunks. TakesTurn (stamp_turn chunks (length core.entries - 1) visited)) is.written takes))
  core_step (phase.Undoing visited cause) at_here at_there need takes =
      ends visited cause (ap is_stamping at_there) (ap undone at_there) (none_left setting session now current visited is.written need)
      (subst (λ (found : AtCore). TakesTurn (undo_turn found visited cause)) (found_same (ap is_stamping at_there)) takes)
