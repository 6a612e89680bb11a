-- A visit of a session to the part of the world that it needs: it may be made, and it is the machine's step.
use Rattle.std.proofs.Common.{◌≡◌, ℕ, ◌+◌, ◌*◌, ◌<◌, List, length, refl, ap, ◌∙◌, sym, subst, arith, Option, None, Some}
use Rattle.std.proofs.Math.ListN.{set}
use Rattle.std.specs.Prelude.{slice_get}
use Rattle.std.specs.Option.{option_map}
use Rattle.std.proofs.lemmas.Nat.{mul-add-lt}
use Rattle.std.proofs.lemmas.Option.{slice_get-map, slice_get_within}
use Rattle.hy_value.specs.declared.Kind.{Kind}
use Rattle.hy_journal.specs.declared.CoreData.{CoreData}
use Rattle.hy_undo.specs.Chunks.{ChunkData}
use Rattle.hy_chunk.specs.Views.{Whole}
use Rattle.hy_event.specs.declared.SessionData.{SessionData}
use Rattle.hy_event.specs.declared.Need.{Need}
use Rattle.hy_event.specs.declared.Need.TheVariants.{Core, Chunk, Done}
use Rattle.hy_protocol.specs.declared.Progress.{Progress}
use Rattle.hy_event.specs.Needs.{need_of}
use Rattle.hy_event.specs.CoreTurns.{CoreEvent}
use Rattle.hy_event.specs.Events.{Part, ChunkPart, CorePart, ChunkEvent, NeededVisit, part_number}
use Rattle.hy_machine.specs.declared.Setting.{Setting}
use Rattle.hy_machine.specs.States.{State}
use Rattle.hy_machine.specs.Steps.{step_of}
use Rattle.hy_refinement.specs.Sessions.{SessionIs}
use Rattle.hy_session.specs.Near.{NearCore, NearChunk}
use Rattle.hy_stepping.specs.Typed.{AreTyped}
use Rattle.hy_stepping.specs.Runnable.{IsShown}
use Rattle.hy_stepping.specs.Steps.{CoresAreNear, NeededChunksAreThere, ChunksAreNear, VisitsAreSteps}
use Rattle.hy_world.specs.Asks.{need_in, need_at}
use Rattle.hy_world.specs.Follows.{IsStep}
use Rattle.hy_world.specs.Worlds.{WorldData, ShowsState, HaveTypes, parts_of, plain}
use Rattle.hy_world.proofs.Parts.{core_at, core_set, core_is, how_many, chunk_at, chunk_set}

-- ---- the session

there_by : (sessions : List SessionData) (number : ℕ) (need : Need) (found : Option SessionData) → slice_get sessions number ≡ found → need_in found ≡ need
    → (Done ≡ need → ⊥) → number < length sessions
there_by sessions number need None e h some = absurd (some h)
there_by sessions number need (Some session) e h some = slice_get_within sessions number session e

-- a session that needs a part is there
pub there : (sessions : List SessionData) (number : ℕ) (need : Need) → need_at sessions number ≡ need → (Done ≡ need → ⊥) → number < length sessions
there sessions number need h some = there_by sessions number need (slice_get sessions number) refl h some

pub not_core : Done ≡ Core → ⊥
not_core e = cc e

pub not_chunk : (table chunk : ℕ) → Done ≡ Chunk table chunk → ⊥
not_chunk table chunk e = cc e

-- the session of a number, and what it needs
pub record IsAt (sessions : List SessionData) (number : ℕ) (session : SessionData) (need : Need) : Type 0 where
  pub found : slice_get sessions number ≡ Some session
  pub needs : need_of session ≡ need

pub is_at : (sessions : List SessionData) (number : ℕ) (session : SessionData) (need : Need) → slice_get sessions number ≡ Some session
    → need_at sessions number ≡ need → IsAt sessions number session need
is_at sessions number session need e h = record { found = e; needs = ap need_in (sym e) ∙ h }

session_is : (setting : Setting) (state : State) (world : WorldData) (number : ℕ) (session : SessionData) (need : Need)
    → ShowsState setting state world → IsAt world.sessions number session need → SessionIs setting number session
session_is setting state world number session need shows at = (shows.shown.shows.sessions_show.each number session at.found).session_is

-- there is a chunk for each chunk of each table
pub count_is : (setting : Setting) (state : State) (world : WorldData) → ShowsState setting state world
    → length setting.shapes * setting.chunks ≡ length world.chunks
count_is setting state world shows = omega (arith, shows.shown.shows.parts_are.count, how_many world.chunks world.core)

-- ---- the core

core_shown : (setting : Setting) (state : State) (world : WorldData) (shows : ShowsState setting state world) → shows.shown.shows.core ≡ world.core
core_shown setting state world shows =
    core_is world.chunks world.core shows.shown.shows.core (length setting.shapes * setting.chunks) (count_is setting state world shows)
    shows.shown.shows.parts_are.core_last

pub core_near : CoresAreNear → (setting : Setting) (state : State) (world : WorldData) (number : ℕ) (session : SessionData)
    → ShowsState setting state world → IsAt world.sessions number session Core → NearCore session world.core
core_near near setting state world number session shows at =
    subst (NearCore session) (core_shown setting state world shows)
    (near setting state (parts_of world.chunks world.core) world.sessions number session shows.shown at.found at.needs)

-- the world with this core and this session
abbrev pub with_core : WorldData → ℕ → SessionData → CoreData → WorldData
with_core world number after new = record world { core = new; sessions = set world.sessions number after }

pub core_step : VisitsAreSteps → (setting : Setting) (state : State) (world : WorldData) (number : ℕ) (session after : SessionData)
    (progress : Progress) (new : CoreData) → ShowsState setting state world → IsAt world.sessions number session Core
    → CoreEvent session world.core progress after new → IsStep setting state number progress (with_core world number after new)
core_step steps setting state world number session after progress new shows at event =
    let parts = parts_of world.chunks world.core in
    let is = session_is setting state world number session Core shows at in
    let here : length session.shapes * session.chunks ≡ length world.chunks =
    rw (is.shapes, is.chunks) (count_is setting state world shows) in
    let numbered : part_number session (need_of session) ≡ Some (length world.chunks) = ap (part_number session) at.needs ∙ ap Some here in
    let Visit : Need → Type 0 = λ need. NeededVisit need session (CorePart world.core) progress after (CorePart new) in
    let next = steps setting state parts world.sessions number session (length world.chunks) (CorePart world.core) progress after (CorePart new)
    shows.shown at.found (core_at world.chunks world.core) numbered (subst Visit (sym at.needs) event) in
    record {
      shows = record {
        tables = shows.tables;
        per_table = shows.per_table;
        shown = subst (λ (others : List Part). IsShown setting (step_of setting state number).0 others (set world.sessions number after))
            (core_set world.chunks world.core new) next.shown;
      };
      answer = next.answer;
    }

-- ---- a chunk

abbrev pub place_in : WorldData → ℕ → ℕ → ℕ
place_in world table chunk = table * world.per_table + chunk

-- the chunk that a session needs is there
pub record HasPlace (world : WorldData) (table chunk : ℕ) : Type 0 where
  pub few : chunk < world.per_table
  pub within : place_in world table chunk < length world.chunks

pub has_place : NeededChunksAreThere → (setting : Setting) (state : State) (world : WorldData) (number : ℕ) (session : SessionData) (table chunk : ℕ)
    → ShowsState setting state world → IsAt world.sessions number session (Chunk table chunk) → HasPlace world table chunk
has_place there setting state world number session table chunk shows at =
    let here = there setting state (parts_of world.chunks world.core) world.sessions number session table chunk shows.shown at.found at.needs in
    let few : chunk < world.per_table = omega (arith, here.1, shows.per_table) in
    let before : table * setting.chunks + chunk < setting.chunks * length setting.shapes =
    mul-add-lt table setting.chunks chunk (length setting.shapes) here.0 here.1 in
    record { few = few; within = rw (← shows.per_table) (omega (arith, before, count_is setting state world shows)) }

pub plain_at : (chunks : List Whole) (i : ℕ) (part : Whole) → slice_get chunks i ≡ Some part → slice_get (plain chunks) i ≡ Some part.shown
plain_at chunks i part e =
    slice_get-map (λ (chunk : Whole). chunk.shown) chunks i ∙ ap (option_map (λ (chunk : Whole). chunk.shown)) e

pub chunk_near : NeededChunksAreThere → ChunksAreNear → (setting : Setting) (kinds : List (List Kind)) (state : State) (world : WorldData) (chunks : List Whole)
    (number : ℕ) (session : SessionData) (table chunk : ℕ) (part : Whole)
    → ShowsState setting state world → world.chunks ≡ plain chunks → AreTyped kinds setting.shapes setting.first setting.programs
    → HaveTypes kinds world.per_table chunks → IsAt world.sessions number session (Chunk table chunk)
    → slice_get chunks (place_in world table chunk) ≡ Some part → NearChunk session part
chunk_near there near setting kinds state world chunks number session table chunk part shows are typed types at found =
    let place = has_place there setting state world number session table chunk shows at in
    let seen : slice_get world.chunks (place_in world table chunk) ≡ Some part.shown =
    ap (λ (all : List ChunkData). slice_get all (place_in world table chunk)) are ∙ plain_at chunks (place_in world table chunk) part found in
    let here : slice_get (parts_of world.chunks world.core) (table * setting.chunks + chunk) ≡ Some (ChunkPart part.shown) =
    rw shows.per_table (chunk_at world.chunks world.core (place_in world table chunk) part.shown seen) in
    near setting kinds state (parts_of world.chunks world.core) world.sessions number session table chunk part shows.shown typed at.found at.needs
    (record { found = here; types = types table chunk part place.few found })

-- the world with this chunk and this session
abbrev pub with_chunk : WorldData → ℕ → SessionData → ℕ → ChunkData → WorldData
with_chunk world number after place new = record world { chunks = set world.chunks place new; sessions = set world.sessions number after }

pub chunk_step : NeededChunksAreThere → VisitsAreSteps → (setting : Setting) (state : State) (world : WorldData) (number : ℕ) (session after : SessionData)
    (table chunk : ℕ) (progress : Progress) (old new : ChunkData)
    → ShowsState setting state world → IsAt world.sessions number session (Chunk table chunk) → slice_get world.chunks (place_in world table chunk) ≡ Some old
    → ChunkEvent session old progress after new
    → IsStep setting state number progress (with_chunk world number after (place_in world table chunk) new)
chunk_step there steps setting state world number session after table chunk progress old new shows at found event =
    let parts = parts_of world.chunks world.core in
    let is = session_is setting state world number session (Chunk table chunk) shows at in
    let place = has_place there setting state world number session table chunk shows at in
    let here : table * session.chunks + chunk ≡ place_in world table chunk = rw (is.chunks, shows.per_table) refl in
    let numbered : part_number session (need_of session) ≡ Some (place_in world table chunk) = ap (part_number session) at.needs ∙ ap Some here in
    let Visit : Need → Type 0 = λ need. NeededVisit need session (ChunkPart old) progress after (ChunkPart new) in
    let next = steps setting state parts world.sessions number session (place_in world table chunk) (ChunkPart old) progress after (ChunkPart new)
    shows.shown at.found (chunk_at world.chunks world.core (place_in world table chunk) old found) numbered (subst Visit (sym at.needs) event) in
    record {
      shows = record {
        tables = shows.tables;
        per_table = shows.per_table;
        shown = subst (λ (others : List Part). IsShown setting (step_of setting state number).0 others (set world.sessions number after))
            (chunk_set world.chunks world.core (place_in world table chunk) new place.within) next.shown;
      };
      answer = next.answer;
    }
