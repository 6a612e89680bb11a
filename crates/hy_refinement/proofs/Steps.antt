-- A visit of a session to the part that it needs is the machine's turn.
use Rattle.std.proofs.Common.{◌≡◌, ℕ, ◌+◌, ◌*◌, List, length, Option, None, Some, refl, sym, ap, ◌∙◌, subst}
use Rattle.std.specs.Prelude.{slice_get}
use Rattle.std.proofs.lemmas.Option.{same_Some}
use Rattle.hy_bound.specs.declared.Reply.{Reply}
use Rattle.hy_bound.specs.declared.Shape.{Shape}
use Rattle.hy_bound.specs.declared.Txn.{Txn}
use Rattle.hy_undo.specs.Chunks.{ChunkData}
use Rattle.hy_stamp.specs.declared.Label.{Label}
use Rattle.hy_value.specs.declared.change.Change.{Change}
use Rattle.hy_journal.specs.declared.CoreData.{CoreData}
use Rattle.hy_journal.specs.Core.{blocked_by}
use Rattle.hy_event.specs.declared.SessionData.{SessionData}
use Rattle.hy_event.specs.declared.Open.{Open}
use Rattle.hy_event.specs.declared.Need.{Need}
use Rattle.hy_event.specs.declared.Need.TheVariants.{Core, Chunk}
use Rattle.hy_event.specs.Sessions.{label_of, txn_at as txn_here}
use Rattle.hy_event.specs.Needs.{session_need, phase_need}
use Rattle.hy_event.specs.CoreTurns.{TakesAtCore, if_core, open_turn}
use Rattle.hy_event.specs.Events.{Part, ChunkPart, CorePart, SessionVisit, PhaseVisit}
use Rattle.hy_protocol.specs.declared.Phase.{Phase}
use Rattle.hy_machine.specs.declared.Setting.{Setting}
use Rattle.hy_machine.specs.States.{State, Open as MachineOpen}
use Rattle.hy_protocol.specs.Turns.{Turn, Begins, unless_blocked}
use Rattle.hy_protocol.specs.Sessions.{session_turn as turn_here}
use Rattle.hy_machine.specs.Turns.{turn, session_turn}
use Rattle.hy_machine.specs.Sessions.{session_at, txn_at, view}
use Rattle.hy_machine.specs.Kept.{PhaseFits}
use Rattle.hy_refinement.specs.Sessions.{SessionShows, NowShows, OpenShows, statement_at}
use Rattle.hy_refinement.specs.Steps.{ReadsFit, ViewsFit, EventsAreSteps}
use Rattle.hy_refinement.specs.Taken.{ShownState, AtOpen, IsTaken, core_number, chunk_number}
use Rattle.hy_refinement.proofs.StepLaws.{StepLaws}
use Rattle.hy_refinement.proofs.StepCores.{Opening, unless_step, core_step}
use Rattle.hy_refinement.proofs.StepOpens.{chunk_step}
use Rattle.hy_refinement.proofs.NeededParts.{same_txn, done_is_no_core, Visited, of_chunk, of_core, visited_cases}

-- what a core part holds
abbrev core_in : CoreData → Part → CoreData
core_in other (ChunkPart part) = other
core_in other (CorePart core) = core

-- the core among the parts is the one that is shown
the_core : (setting : Setting) (state : State) (parts : List Part) (sessions : List SessionData)
    → (shown : ShownState setting state parts sessions) → (core : CoreData) → slice_get parts (core_number setting) ≡ Some (CorePart core)
    → core ≡ shown.shows.core
the_core setting state parts sessions shown core found =
    ap (core_in core) (same_Some (CorePart core) (CorePart shown.shows.core) (sym found ∙ shown.shows.parts_are.core_last))

-- ---- a session with an open transaction

abbrev opening : StepLaws
    → (setting : Setting) (state : State) (parts : List Part) (sessions : List SessionData) (number : ℕ)
    (session : SessionData) (now : Open) (current : MachineOpen) (txn : Txn)
    → (at : AtOpen setting state parts sessions number session now current)
    → SessionShows setting state at.shown.shows.core number session → OpenShows setting state at.shown.shows.core number now current
    → ViewsFit setting state → txn_at setting number (session_at state number) ≡ Some txn
    → Opening setting state parts sessions number session now current txn
opening laws setting state parts sessions number session now current txn at shows open_shows fit txn_is = record {
  at_open = at;
  txn_is = txn_is;
  replies = open_shows.open_shows.replies;
  reads_fit = subst (λ (replies : List Reply). ReadsFit setting (view setting state current.begun) (slice_get txn.statements (length replies)))
      (sym open_shows.open_shows.replies)
      (subst (λ (txn : Option Txn). ReadsFit setting (view setting state current.begun) (statement_at txn (length current.begun.replies))) txn_is
      (fit number current at.is_open.open_there));
  shapes = shows.session_is.shapes;
  chunks = shows.session_is.chunks;
  written = laws.chunks setting state parts sessions number session now current at;
}

-- ---- all sessions

pub steps_are : StepLaws → EventsAreSteps
steps_are laws setting state parts sessions number session part old progress after new shown fit has_label found there needed visit =
    by_visit (visited_cases session part progress after old new needed visit) there
  where
    core : CoreData
    core = shown.shows.core

    shows : SessionShows setting state core number session
    shows = shown.shows.sessions_show.each number session found

    same : txn_here session ≡ txn_at setting number (session_at state number)
    same = same_txn setting state core number session shows

    chunk_there : (table chunk : ℕ) (part : ℕ) (old : ChunkData) → part ≡ table * session.chunks + chunk → slice_get parts part ≡ Some (ChunkPart old)
        → slice_get parts (table * setting.chunks + chunk) ≡ Some (ChunkPart old)
    chunk_there table chunk part old is found =
        subst (λ (n : ℕ). slice_get parts (table * n + chunk) ≡ Some (ChunkPart old)) shows.session_is.chunks
        (subst (λ (n : ℕ). slice_get parts n ≡ Some (ChunkPart old)) is found)

    chunk_is : (table chunk : ℕ) (part : ℕ) → part ≡ table * session.chunks + chunk → chunk_number setting table chunk ≡ part
    chunk_is table chunk part is = sym (is ∙ ap (λ (n : ℕ). table * n + chunk) shows.session_is.chunks)

    core_is : (part : ℕ) → part ≡ length session.shapes * session.chunks → part ≡ core_number setting
    core_is part is =
        is ∙ (ap (λ (shapes : List Shape). length shapes * session.chunks) shows.session_is.shapes
        ∙ ap (λ (n : ℕ). length setting.shapes * n) shows.session_is.chunks)

    -- a visit of a chunk
    in_chunk : (table chunk : ℕ) (old new : ChunkData) → slice_get parts (table * setting.chunks + chunk) ≡ Some (ChunkPart old)
        → (txn : Option Txn) → txn_at setting number (session_at state number) ≡ txn
        → (here : Option Open) → session.now ≡ here → (current : Option MachineOpen) → (session_at state number).now ≡ current
        → NowShows setting state core number here current
        → session_need session txn here ≡ Chunk table chunk → SessionVisit session txn here old progress after new
        → IsTaken setting state parts sessions number (session_turn setting state number txn current) (chunk_number setting table chunk) progress after (ChunkPart new)
    in_chunk table chunk old new found None txn_is here here_is current there_is now_shows need visit = absurd visit
    in_chunk table chunk old new found (Some txn) txn_is None here_is current there_is now_shows need visit = absurd visit
    in_chunk table chunk old new found (Some txn) txn_is (Some now) here_is None there_is now_shows need visit = absurd now_shows
    in_chunk table chunk old new there (Some txn) txn_is (Some now) here_is (Some current) there_is now_shows need visit =
        let at : AtOpen setting state parts sessions number session now current =
        record { shown = shown; is_open = record { found = found; open_here = here_is; open_there = there_is } } in
        chunk_step laws setting state parts sessions number session now current txn
        (opening laws setting state parts sessions number session now current txn at shows now_shows fit txn_is)
        table chunk old there progress after new current.phase now_shows.open_shows.phase refl
        (subst (λ (txn : Option Txn). PhaseFits setting txn current.begun current.phase) txn_is (shown.kept.fits.opens number current there_is).phase)
        (subst (λ (stands : Phase). phase_need session txn now stands ≡ Chunk table chunk) now_shows.open_shows.phase need)
        (subst (λ (stands : Phase). PhaseVisit session txn now stands old progress after new) now_shows.open_shows.phase visit)

    -- a visit of the core
    TurnHere : CoreData → Option Txn → Option Open → Turn Change
    TurnHere core = turn_here (blocked_by core (label_of session)) (λ (txn : Txn) (now : Open). open_turn session core txn now now.phase)

    at_core : (new : CoreData)
        → (txn : Option Txn) → txn_at setting number (session_at state number) ≡ txn
        → (here : Option Open) → session.now ≡ here → (current : Option MachineOpen) → (session_at state number).now ≡ current
        → NowShows setting state core number here current
        → session_need session txn here ≡ Core → TakesAtCore session core (Some (TurnHere core txn here)) progress after new
        → IsTaken setting state parts sessions number (session_turn setting state number txn current) (core_number setting) progress after (CorePart new)
    at_core new None txn_is here here_is current there_is now_shows need takes = absurd (done_is_no_core need)
    at_core new (Some txn) txn_is None here_is (Some current) there_is now_shows need takes = absurd now_shows
    at_core new (Some txn) txn_is None here_is None there_is now_shows need takes =
        unless_step laws setting state parts sessions number session shown found progress after new Begins Begins
        (laws.begins setting state parts sessions number session progress after new
        (record { shown = shown; found = found; rests = here_is; label = has_label txn (same ∙ txn_is) }))
        (subst (λ (by : Option Label). TakesAtCore session core (Some (unless_blocked by Begins)) progress after new)
        (laws.blockers setting state core sessions number session shown.shows.core_shows shown.shows.sessions_show found) takes)
    at_core new (Some txn) txn_is (Some now) here_is None there_is now_shows need takes = absurd now_shows
    at_core new (Some txn) txn_is (Some now) here_is (Some current) there_is now_shows need takes =
        let at : AtOpen setting state parts sessions number session now current =
        record { shown = shown; is_open = record { found = found; open_here = here_is; open_there = there_is } } in
        core_step laws setting state parts sessions number session now current txn
        (opening laws setting state parts sessions number session now current txn at shows now_shows fit txn_is) progress after new
        current.phase now_shows.open_shows.phase refl
        (subst (λ (stands : Phase). phase_need session txn now stands ≡ Core) now_shows.open_shows.phase need)
        (subst (λ (stands : Phase). TakesAtCore session core (Some (open_turn session core txn now stands)) progress after new)
        now_shows.open_shows.phase takes)

    by_visit : {old new : Part} → Visited session part progress after old new → slice_get parts part ≡ Some old
        → IsTaken setting state parts sessions number (turn setting state number) part progress after new
    by_visit (of_chunk table chunk old new need part_is event) there =
        subst (λ (n : ℕ). IsTaken setting state parts sessions number (turn setting state number) n progress after (ChunkPart new))
        (chunk_is table chunk part part_is)
        (in_chunk table chunk old new (chunk_there table chunk part old part_is there) (txn_at setting number (session_at state number)) refl
        session.now refl (session_at state number).now refl shows.now_shows
        (subst (λ (txn : Option Txn). session_need session txn session.now ≡ Chunk table chunk) same need)
        (subst (λ (txn : Option Txn). SessionVisit session txn session.now old progress after new) same event))
    by_visit (of_core old new need part_is event) there =
        subst (λ (n : ℕ). IsTaken setting state parts sessions number (turn setting state number) n progress after (CorePart new))
        (sym (core_is part part_is))
        (at_core new (txn_at setting number (session_at state number)) refl session.now refl (session_at state number).now refl shows.now_shows
        (subst (λ (txn : Option Txn). session_need session txn session.now ≡ Core) same need)
        (subst (λ (core : CoreData). TakesAtCore session core (Some (TurnHere core (txn_at setting number (session_at state number)) session.now)) progress after new)
        (the_core setting state parts sessions shown old (subst (λ (n : ℕ). slice_get parts n ≡ Some (CorePart old)) (core_is part part_is) there))
        (subst (λ (txn : Option Txn). TakesAtCore session old (Some (TurnHere old txn session.now)) progress after new) same
        (subst (λ (need : Need). TakesAtCore session old (if_core need (TurnHere old (txn_here session) session.now)) progress after new) need event))))
