-- A turn that goes on or waits, and the chunk that is visited.
use Rattle.std.proofs.Common.{◌≡◌, ℕ, zero, suc, ◌+◌, ◌*◌, List, [], ◌∷◌, length, set, Option, Some, refl, sym, ap, ◌∙◌, subst, arith, inl, inr}
use Rattle.std.specs.Prelude.{slice_get}
use Rattle.std.specs.Option.{option_map}
use Rattle.std.proofs.lemmas.Bool.{cases_Bool}
use Rattle.std.proofs.lemmas.Option.{same_Some}
use Rattle.hy_undo.specs.Places.{Place}
use Rattle.hy_undo.specs.Chunks.{ChunkData, Pruned, Everywhere}
use Rattle.hy_event.specs.declared.SessionData.{SessionData}
use Rattle.hy_event.specs.declared.Open.{Open}
use Rattle.hy_event.specs.Turns.{Step, with_changed, after_visit as visited_by, after_answer as answered_by}
use Rattle.hy_event.specs.Changing.{OnlyPlaces}
use Rattle.hy_event.specs.Events.{Part, ChunkPart}
use Rattle.hy_machine.specs.declared.Setting.{Setting}
use Rattle.hy_machine.specs.States.{State, Open as MachineOpen}
use Rattle.hy_machine.specs.Sessions.{session_at}
use Rattle.hy_machine.specs.Steps.{with_session, with_changed as changed_there, after_visit, after_answer}
use Rattle.hy_refinement.specs.Transactions.{IsOpen}
use Rattle.hy_refinement.specs.Parts.{ChunkIs}
use Rattle.hy_refinement.specs.Shows.{Shows}
use Rattle.hy_refinement.specs.Pruned.{PruningShowsNothing}
use Rattle.hy_refinement.specs.Frames.{gone_on, went_on, sessions_on, ChunkShows, GoingOnIsTaken, VisitedChunksShow, PrunedChunksShow}
use Rattle.hy_refinement.specs.CoreVisits.{WaitsAreTaken}
use Rattle.hy_refinement.proofs.FramesLists.{set_same}

-- ---- turns

-- a session whose open transaction is another one went on
pub gone_shown : (setting : Setting) (state : State) (parts : List Part) (sessions : List SessionData) (number : ℕ) (session : SessionData)
    (now then : Open) (current : MachineOpen) (change : MachineOpen → MachineOpen) (after : SessionData)
    → IsOpen state sessions number session now current → after ≡ went_on session then
    → Shows setting (gone_on state number (change current)) parts (sessions_on sessions number session then)
    → Shows setting (with_session state number (changed_there change (session_at state number))) parts (set sessions number after)
gone_shown setting state parts sessions number session now then current change after is e shows =
    subst (λ (there : Option MachineOpen).
    Shows setting (with_session state number (record { done = (session_at state number).done; now = option_map change there })) parts
    (set sessions number after))
    (sym is.open_there)
    (subst (λ (one : SessionData). Shows setting (gone_on state number (change current)) parts (set sessions number one)) (sym e) shows)

went_shown : (setting : Setting) (state : State) (parts : List Part) (sessions : List SessionData) (number : ℕ) (session : SessionData)
    (now : Open) (current : MachineOpen) (change : MachineOpen → MachineOpen) (alter : Open → Open) (after : SessionData)
    → IsOpen state sessions number session now current → after ≡ with_changed alter session
    → Shows setting (gone_on state number (change current)) parts (sessions_on sessions number session (alter now))
    → Shows setting (with_session state number (changed_there change (session_at state number))) parts (set sessions number after)
went_shown setting state parts sessions number session now current change alter after is e shows =
    gone_shown setting state parts sessions number session now (alter now) current change after is
    (e ∙ ap (λ (here : Option Open). with_changed alter (record session { now = here })) is.open_here) shows

pub going_on : GoingOnIsTaken
going_on = record {
  visits = λ setting state parts sessions number session now current changes phase writes stage part progress after new is takes shows. record {
    answer = sym (ap (λ (step : Step). step.1) takes);
    shows = went_shown setting state (set parts part new) sessions number session now current (after_visit writes stage) (visited_by changes phase) after is
        (ap (λ (step : Step). step.0) takes) shows;
  };
  answers = λ setting state parts sessions number session now current changes reply took records writes part progress after new is takes shows. record {
    answer = sym (ap (λ (step : Step). step.1) takes);
    shows = went_shown setting state (set parts part new) sessions number session now current (after_answer writes reply took records)
        (answered_by changes reply took records) after is
        (ap (λ (step : Step). step.0) takes) shows;
  };
}

pub waits_taken : WaitsAreTaken
waits_taken setting state parts sessions number session by part present progress after shows found there takes = record {
  answer = sym (ap (λ (step : Step). step.1) takes);
  shows =
      subst (λ (others : List Part). Shows setting state others (set sessions number after)) (sym (set_same parts part present there))
      (subst (λ (others : List SessionData). Shows setting state parts others)
      (sym (ap (λ (step : Step). set sessions number step.0) takes ∙ set_same sessions number session found)) shows);
}

-- ---- the chunk that is visited

pub one_chunk : (parts : List Part) (number : ℕ) (a b : ChunkData) → slice_get parts number ≡ Some (ChunkPart a) → slice_get parts number ≡ Some (ChunkPart b)
    → a ≡ b
one_chunk parts number a b e f = let same : ChunkPart a ≡ ChunkPart b = same_Some (ChunkPart a) (ChunkPart b) (sym e ∙ f) in cc

pub chunk_shown : VisitedChunksShow
chunk_shown setting state parts sessions number session now current table chunk old at =
    let shows = at.at_open.shown.shows in
    let has = shows.parts_are.chunks table chunk at.is_part.table_below at.is_part.chunk_below in (
      subst (λ (part : ChunkData). ChunkIs setting table chunk part)
          (one_chunk parts (table * setting.chunks + chunk) has.part old has.is_part.found at.is_part.found) has.chunk_is,
      λ index place e. shows.places_show table chunk index old place at.is_part e,
    )

-- ---- a chunk that is pruned

pub everywhere_length : (does : Place → Place → Type 0) (olds news : List Place) → Everywhere does olds news → length news ≡ length olds
everywhere_length does [] [] all = refl
everywhere_length does [] (new' ∷ news) all = absurd all
everywhere_length does (old ∷ olds) [] all = absurd all
everywhere_length does (old ∷ olds) (new' ∷ news) all = let e = everywhere_length does olds news all.1 in omega (arith, e)

-- at each position there was one of which it came
pub everywhere_at : (does : Place → Place → Type 0) (olds news : List Place) (index : ℕ) (place : Place) → Everywhere does olds news
    → slice_get news index ≡ Some place → (was : Place) × ((slice_get olds index ≡ Some was) × does was place)
everywhere_at does [] [] index place all e = absurd cc
everywhere_at does [] (new' ∷ news) index place all e = absurd all
everywhere_at does (old ∷ olds) [] index place all e = absurd all
everywhere_at does (old ∷ olds) (new' ∷ news) zero place all e =
    (old, (refl, subst (λ (one : Place). does old one) (same_Some new' place e) all.0))
everywhere_at does (old ∷ olds) (new' ∷ news) (suc index) place all e = everywhere_at does olds news index place all.1 e

-- a chunk of which only positions change is that chunk still
pub chunk_still : (setting : Setting) (table chunk : ℕ) (does : List Place → List Place → Type 0) (old new : ChunkData)
    → ChunkIs setting table chunk old → OnlyPlaces does old new → length new.places ≡ length old.places → ChunkIs setting table chunk new
chunk_still setting table chunk does old new is only count = record {
  table_is = ap (λ (part : ChunkData). part.table) only.others ∙ is.table_is;
  first = ap (λ (part : ChunkData). part.first) only.others ∙ is.first;
  width = ap (λ (part : ChunkData). part.width) only.others ∙ is.width;
  key = ap (λ (part : ChunkData). part.key) only.others ∙ is.key;
  places = count ∙ is.places;
}

pub pruned_shown : PruningShowsNothing → PrunedChunksShow
pruned_shown keeps setting state core sessions session cover table chunk old between low core_shows held is shows prunes =
    elim (cases_Bool session.prunes) [
      | inl yes' ↦ by_places (prunes.pruned yes')
      | inr isnt ↦
          let e = prunes.kept isnt in (
            subst (λ (part : ChunkData). ChunkIs setting table chunk part) (sym e) is,
            subst (λ (part : ChunkData). ChunkShows setting state core sessions table chunk part) (sym e) shows,
          )
    ]
  where
    by_places : OnlyPlaces (Everywhere (Pruned cover)) old between
        → ChunkIs setting table chunk between × ChunkShows setting state core sessions table chunk between
    by_places only = (
      chunk_still setting table chunk (Everywhere (Pruned cover)) old between is only
          (everywhere_length (Pruned cover) old.places between.places only.places),
      λ index place e.
          let was = everywhere_at (Pruned cover) old.places between.places index place only.places e in
          keeps setting state core sessions cover table chunk (chunk * setting.rows + index) was.0 place low core_shows held (shows index was.0 was.1.0) was.1.1,
    )
