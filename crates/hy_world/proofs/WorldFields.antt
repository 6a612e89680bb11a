-- A world as a method finds it: what it reads of its fields, by what contracts see of it.
use Rattle.std.proofs.Common.{◌≡◌, ℕ, zero, suc, ◌+◌, ◌*◌, ◌<◌, ◌≤◌, List, [], ◌∷◌, length, get_or, refl, ap, ◌∙◌, sym, subst, arith, Option, None, Some}
use Rattle.std.specs.Prelude.{slice_get}
use Rattle.std.proofs.lemmas.List.{length-map}
use Rattle.std.proofs.lemmas.Option.{slice_get_read}
use Rattle.hy_chunk.specs.Views.{Whole}
use Rattle.hy_event.specs.declared.SessionData.{SessionData}
use Rattle.hy_event.specs.declared.Need.{Need}
use Rattle.hy_event.specs.declared.Need.TheVariants.{Chunk, Done}
use Rattle.hy_machine.specs.declared.Setting.{Setting}
use Rattle.hy_machine.specs.States.{State}
use Rattle.hy_protocol.specs.declared.Progress.TheVariants.{Ended}
use Rattle.hy_machine.specs.Steps.{Step, step_of}
use Rattle.hy_stepping.specs.Steps.{NeededChunksAreThere, ChunksAreNear, EndedStayAsTheyAre}
use Rattle.hy_session.specs.Near.{NearChunk}
use Rattle.hy_world.specs.Asks.{need_in, need_at}
use Rattle.hy_world.specs.Follows.{Steps}
use Rattle.hy_world.specs.Worlds.{WorldData, ShowsState, parts_of}
use Rattle.hy_world.proofs.Visits.{IsAt, is_at, there, not_chunk, has_place, chunk_near}
use Rattle.hy_world.proofs.KeptWorlds.{Fields, Holds, ChunkAt, world_of}

-- ---- sessions

-- a session that needs a part is there
pub session_within : (fields : Fields) (world : WorldData) (number : ℕ) (need : Need) → world_of fields ≡ world → need_at world.sessions number ≡ need
    → (Done ≡ need → ⊥) → number < length fields.sessions
session_within fields world number need view h some =
    let same : fields.sessions ≡ world.sessions = ap (λ (w : WorldData). w.sessions) view in
    there fields.sessions number need (ap (λ (all : List SessionData). need_at all number) same ∙ h) some

pub session_read : (fields : Fields) (world : WorldData) (number : ℕ) (session : SessionData) (need : Need) → world_of fields ≡ world
    → need_at world.sessions number ≡ need → (Done ≡ need → ⊥) → session ≡ get_or fields.sessions number session → IsAt fields.sessions number session need
session_read fields world number session need view h some read =
    let same : fields.sessions ≡ world.sessions = ap (λ (w : WorldData). w.sessions) view in
    let within = session_within fields world number need view h some in
    is_at fields.sessions number session need (slice_get_read fields.sessions (length fields.sessions) number session refl within read)
    (ap (λ (all : List SessionData). need_at all number) same ∙ h)

-- ---- chunks

-- a chunk that a session needs is there
pub chunk_within : NeededChunksAreThere → (fields : Fields) (world : WorldData) (number : ℕ) (session : SessionData) (table chunk place : ℕ)
    → world_of fields ≡ world → need_at world.sessions number ≡ Chunk table chunk → session ≡ get_or fields.sessions number session
    → place ≡ table * fields.per_table + chunk → Holds fields → place < length fields.chunks
chunk_within are_there fields world number session table chunk place view h read e w =
    let at = session_read fields world number session (Chunk table chunk) view h (not_chunk table chunk) read in
    let has = has_place are_there w.setting w.state (world_of fields) number session table chunk w.shows at in
    omega (arith, e, has.within, length-map fields.chunks (λ (one : Whole). one.shown))

pub chunk_read : NeededChunksAreThere → (fields : Fields) (world : WorldData) (number : ℕ) (session : SessionData) (table chunk place : ℕ) (part : Whole)
    → world_of fields ≡ world → need_at world.sessions number ≡ Chunk table chunk → session ≡ get_or fields.sessions number session
    → place ≡ table * fields.per_table + chunk → part ≡ get_or fields.chunks place part → Holds fields
    → ChunkAt fields number session table chunk place part
chunk_read are_there fields world number session table chunk place part view h read e part_read w =
    let within = chunk_within are_there fields world number session table chunk place view h read e w in
    record {
      at = session_read fields world number session (Chunk table chunk) view h (not_chunk table chunk) read;
      place_is = e;
      found = slice_get_read fields.chunks (length fields.chunks) place part refl within part_read;
    }

-- and a visit of it may be made
pub chunk_visited : NeededChunksAreThere → ChunksAreNear → (fields : Fields) (number : ℕ) (session : SessionData) (table chunk place : ℕ) (part : Whole)
    → ChunkAt fields number session table chunk place part → Holds fields → NearChunk session part
chunk_visited are_there near fields number session table chunk place part at w =
    let found : slice_get fields.chunks (table * fields.per_table + chunk) ≡ Some part = ap (slice_get fields.chunks) (sym at.place_is) ∙ at.found in
    chunk_near are_there near w.setting w.kinds w.state (world_of fields) fields.chunks number session table chunk part w.shows refl w.typed w.types at.at found

-- ---- a session that needs nothing

past_end : {A : Type 0} (xs : List A) (n : ℕ) → slice_get xs n ≡ None → length xs ≤ n
past_end [] n e = omega arith
past_end (x ∷ xs) zero e = absurd (cc e)
past_end (x ∷ xs) (suc n) e = omega (arith, past_end xs n e)

stays_by : EndedStayAsTheyAre → (setting : Setting) (state : State) (world : WorldData) (number : ℕ) (found : Option SessionData)
    → ShowsState setting state world → slice_get world.sessions number ≡ found → need_in found ≡ Done → step_of setting state number ≡ (state, Ended)
stays_by stay setting state world number None shows e h =
    stay.away setting state (parts_of world.chunks world.core) world.sessions number shows.shown (past_end world.sessions number e)
stays_by stay setting state world number (Some session) shows e h =
    stay.done setting state (parts_of world.chunks world.core) world.sessions number session shows.shown e h

pub ended_steps : EndedStayAsTheyAre → (world : WorldData) (number : ℕ) → need_at world.sessions number ≡ Done → Steps number Ended world world
ended_steps stay world number h = λ setting state shows.
    let e = stays_by stay setting state world number (slice_get world.sessions number) shows refl h in
    record {
      shows = subst (λ (step : Step). ShowsState setting step.0 world) (sym e) shows;
      answer = ap (λ (step : Step). step.1) e;
    }
