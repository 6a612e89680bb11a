-- What holds of a world at all times is kept by visits, and what contracts see of it goes a step on, or stays.
use Rattle.std.proofs.Common.{◌≡◌, ◌⊎◌, ℕ, ◌+◌, ◌*◌, zero, suc, List, [], ◌∷◌, refl, ap, ◌∙◌, sym, subst, Some, Result, Ok, Err, inl, inr}
use Rattle.std.proofs.Math.ListN.{set}
use Rattle.std.specs.Prelude.{slice_get, IfOk, OnErr}
use Rattle.std.proofs.lemmas.List.{map-set}
use Rattle.std.specs.Option.{option_map}
use Rattle.std.proofs.lemmas.Option.{same_Some, slice_get-map}
use Rattle.hy_value.specs.declared.Kind.{Kind}
use Rattle.hy_bound.specs.declared.Shape.{Shape}
use Rattle.hy_journal.specs.declared.CoreData.{CoreData}
use Rattle.hy_undo.specs.Chunks.{ChunkData}
use Rattle.hy_chunk.specs.Views.{Whole}
use Rattle.hy_event.specs.declared.SessionData.{SessionData}
use Rattle.hy_event.specs.declared.Need.TheVariants.{Core, Chunk}
use Rattle.hy_protocol.specs.declared.Progress.{Progress}
use Rattle.hy_event.specs.CoreTurns.{CoreEvent}
use Rattle.hy_event.specs.Events.{ChunkEvent}
use Rattle.hy_machine.specs.Steps.{step_of}
use Rattle.hy_stepping.specs.Steps.{NeededChunksAreThere, VisitsAreSteps}
use Rattle.hy_world.specs.Follows.{Steps}
use Rattle.hy_world.specs.Worlds.{WorldData, ShowsState, IsWorld, HaveTypes, plain, kinds_in, kinds_by_table, seen_world}
use Rattle.hy_world.proofs.Parts.{set_got}
use Rattle.hy_world.proofs.Visits.{IsAt, core_step, chunk_step, with_core, with_chunk, plain_at}

-- the fields of a world
pub record Fields : Type 0 where
  pub shapes : List Shape
  pub tables : ℕ
  pub per_table : ℕ
  pub chunks : List Whole
  pub core : CoreData
  pub sessions : List SessionData

-- what contracts see of them, and what holds of them at all times
abbrev pub world_of : Fields → WorldData
world_of fields = seen_world fields.tables fields.per_table fields.chunks fields.core fields.sessions

abbrev pub Holds : Fields → Type 0
Holds fields = IsWorld fields.shapes fields.tables fields.per_table fields.chunks fields.core fields.sessions

-- ---- a visit of the core

-- it came about, or nothing changed
abbrev pub CoreVisited : {E : Type 0} → Result Progress E → SessionData → CoreData → SessionData → CoreData → Type 0
CoreVisited r session core after new =
    IfOk r (λ progress. CoreEvent session core progress after new) × OnErr r ((after ≡ session) × (new ≡ core))

pub core_steps : {E : Type 0} (r : Result Progress E) → VisitsAreSteps → (world : WorldData) (number : ℕ) (session after : SessionData)
    (new : CoreData) → IsAt world.sessions number session Core → CoreVisited r session world.core after new
    → IfOk r (λ progress. Steps number progress world (with_core world number after new))
core_steps (Ok progress) steps world number session after new at visited =
    λ setting state shows. core_step steps setting state world number session after progress new shows at visited.0
core_steps (Err e) steps world number session after new at visited = tt

pub core_same : (world : WorldData) (number : ℕ) (session after : SessionData) (new : CoreData) → IsAt world.sessions number session Core
    → after ≡ session → new ≡ world.core → with_core world number after new ≡ world
core_same world number session after new at same core =
    let put : set world.sessions number after ≡ world.sessions = ap (set world.sessions number) same ∙ set_got world.sessions number session at.found in
    ap (λ (other : CoreData). with_core world number after other) core ∙ ap (λ (sessions : List SessionData). record world { sessions = sessions }) put

pub core_stays : {E : Type 0} (r : Result Progress E) (world : WorldData) (number : ℕ) (session after : SessionData) (new : CoreData)
    → IsAt world.sessions number session Core → CoreVisited r session world.core after new → OnErr r (with_core world number after new ≡ world)
core_stays (Ok progress) world number session after new at visited = tt
core_stays (Err e) world number session after new at visited = core_same world number session after new at visited.1.0 visited.1.1

-- the fields with this core and this session
abbrev pub core_put : Fields → ℕ → SessionData → CoreData → Fields
core_put fields number after new = record fields { core = new; sessions = set fields.sessions number after }

pub core_kept : {E : Type 0} (r : Result Progress E) → VisitsAreSteps → (fields : Fields) (number : ℕ) (session after : SessionData) (new : CoreData)
    → IsAt fields.sessions number session Core → CoreVisited r session fields.core after new → Holds fields → Holds (core_put fields number after new)
core_kept (Ok progress) steps fields number session after new at visited w = record {
  setting = w.setting;
  kinds = w.kinds;
  state = (step_of w.setting w.state number).0;
  shapes_are = w.shapes_are;
  typed = w.typed;
  types = w.types;
  shows = (core_step steps w.setting w.state (world_of fields) number session after progress new w.shows at visited.0).shows;
}
core_kept (Err e) steps fields number session after new at visited w = record {
  setting = w.setting;
  kinds = w.kinds;
  state = w.state;
  shapes_are = w.shapes_are;
  typed = w.typed;
  types = w.types;
  shows = subst (ShowsState w.setting w.state)
      (sym (core_same (world_of fields) number session after new at visited.1.0 visited.1.1)) w.shows;
}

-- ---- a visit of a chunk

-- an element of a list in which one is put is that one, or was there
set_found : {A : Type 0} (xs : List A) (i k : ℕ) (y z : A) → slice_get (set xs i y) k ≡ Some z → ((k ≡ i) × (z ≡ y)) ⊎ (slice_get xs k ≡ Some z)
set_found [] i k y z e = inr e
set_found (x ∷ xs) zero zero y z e = inl (refl, sym (same_Some y z e))
set_found (x ∷ xs) zero (suc k) y z e = inr e
set_found (x ∷ xs) (suc i) zero y z e = inr e
set_found (x ∷ xs) (suc i) (suc k) y z e = elim (set_found xs i k y z e) [
  | inl h ↦ inl (ap suc h.0, h.1)
  | inr h ↦ inr h
]

types_kept : (kinds : List (List Kind)) (per_table : ℕ) (chunks : List Whole) (place : ℕ) (part new : Whole) → slice_get chunks place ≡ Some part
    → new.kinds ≡ part.kinds → HaveTypes kinds per_table chunks → HaveTypes kinds per_table (set chunks place new)
types_kept kinds per_table chunks place part new found same types table chunk other few e =
    elim (set_found chunks place (table * per_table + chunk) new other e) [
      | inl h ↦
          let there : slice_get chunks (table * per_table + chunk) ≡ Some part = ap (slice_get chunks) h.0 ∙ found in
          ap (λ (one : Whole). one.kinds) h.1 ∙ (same ∙ types table chunk part few there)
      | inr h ↦ types table chunk other few h
    ]

-- it came about, or nothing changed; the types are as they were
pub record ChunkVisited {E : Type 0} (r : Result Progress E) (session : SessionData) (part : Whole) (after : SessionData) (new : Whole) : Type 0 where
  pub event : IfOk r (λ progress. ChunkEvent session part.shown progress after new.shown)
  pub kept : OnErr r ((after ≡ session) × (new.shown ≡ part.shown))
  pub kinds : new.kinds ≡ part.kinds

-- a session that visits a chunk, and the chunk at its place
pub record ChunkAt (fields : Fields) (number : ℕ) (session : SessionData) (table chunk place : ℕ) (part : Whole) : Type 0 where
  pub at : IsAt fields.sessions number session (Chunk table chunk)
  pub place_is : place ≡ table * fields.per_table + chunk
  pub found : slice_get fields.chunks place ≡ Some part

-- the fields with this chunk and this session
abbrev pub chunk_put : Fields → ℕ → SessionData → ℕ → Whole → Fields
chunk_put fields number after place new = record fields { chunks = set fields.chunks place new; sessions = set fields.sessions number after }

-- what contracts see of the chunk
seen_at : (fields : Fields) (number : ℕ) (session : SessionData) (table chunk place : ℕ) (part : Whole) → ChunkAt fields number session table chunk place part
    → slice_get (plain fields.chunks) (table * fields.per_table + chunk) ≡ Some part.shown
seen_at fields number session table chunk place part at =
    ap (slice_get (plain fields.chunks)) (sym at.place_is) ∙ plain_at fields.chunks place part at.found

-- a chunk that is put in place of one of its types leaves the types
pub kinds_stay : (chunks : List Whole) (place : ℕ) (part new : Whole) → slice_get chunks place ≡ Some part → new.kinds ≡ part.kinds
    → kinds_in (set chunks place new) ≡ kinds_in chunks
kinds_stay chunks place part new found same =
    map-set (λ (chunk : Whole). chunk.kinds) chunks place new
    ∙ (ap (set (kinds_in chunks) place) same
    ∙ set_got (kinds_in chunks) place part.kinds
    (slice_get-map (λ (chunk : Whole). chunk.kinds) chunks place ∙ ap (option_map (λ (chunk : Whole). chunk.kinds)) found))

-- and of the fields with it
put_seen : (fields : Fields) (number : ℕ) (after : SessionData) (place : ℕ) (part new : Whole) → slice_get fields.chunks place ≡ Some part
    → new.kinds ≡ part.kinds → with_chunk (world_of fields) number after place new.shown ≡ world_of (chunk_put fields number after place new)
put_seen fields number after place part new found same =
    let with_parts : List (List Kind) → List ChunkData → WorldData =
    λ types chunks. record (world_of fields) {
      kinds = kinds_by_table fields.tables fields.per_table types;
      chunks = chunks;
      sessions = set fields.sessions number after;
    } in
    ap (with_parts (kinds_in fields.chunks)) (sym (map-set (λ (chunk : Whole). chunk.shown) fields.chunks place new))
    ∙ ap (λ (types : List (List Kind)). with_parts types (plain (set fields.chunks place new)))
    (sym (kinds_stay fields.chunks place part new found same))

put_there : (fields : Fields) (number : ℕ) (session after : SessionData) (table chunk place : ℕ) (part new : Whole)
    → ChunkAt fields number session table chunk place part → new.kinds ≡ part.kinds
    → with_chunk (world_of fields) number after (table * fields.per_table + chunk) new.shown ≡ world_of (chunk_put fields number after place new)
put_there fields number session after table chunk place part new at same =
    ap (λ n. with_chunk (world_of fields) number after n new.shown) (sym at.place_is) ∙ put_seen fields number after place part new at.found same

pub chunk_steps : {E : Type 0} (r : Result Progress E) → NeededChunksAreThere → VisitsAreSteps → (fields : Fields) (number : ℕ) (session after : SessionData)
    (table chunk place : ℕ) (part new : Whole) → ChunkAt fields number session table chunk place part → ChunkVisited r session part after new
    → IfOk r (λ progress. Steps number progress (world_of fields) (world_of (chunk_put fields number after place new)))
chunk_steps (Ok progress) there steps fields number session after table chunk place part new at visited =
    subst (Steps number progress (world_of fields)) (put_there fields number session after table chunk place part new at visited.kinds)
    (λ setting state shows. chunk_step there steps setting state (world_of fields) number session after table chunk progress part.shown new.shown shows at.at
    (seen_at fields number session table chunk place part at) visited.event)
chunk_steps (Err e) there steps fields number session after table chunk place part new at visited = tt

chunk_same : (world : WorldData) (number : ℕ) (session after : SessionData) (place : ℕ) (old new : ChunkData)
    → slice_get world.sessions number ≡ Some session → slice_get world.chunks place ≡ Some old → after ≡ session → new ≡ old
    → with_chunk world number after place new ≡ world
chunk_same world number session after place old new at found same chunk =
    let put : set world.sessions number after ≡ world.sessions = ap (set world.sessions number) same ∙ set_got world.sessions number session at in
    let back : set world.chunks place new ≡ world.chunks = ap (set world.chunks place) chunk ∙ set_got world.chunks place old found in
    ap (λ (chunks : List ChunkData). record world { chunks = chunks; sessions = set world.sessions number after }) back
    ∙ ap (λ (sessions : List SessionData). record world { sessions = sessions }) put

-- an Err leaves what contracts see
pub stays_seen : (fields : Fields) (number : ℕ) (session after : SessionData) (table chunk place : ℕ) (part new : Whole)
    → ChunkAt fields number session table chunk place part → after ≡ session → new.shown ≡ part.shown → new.kinds ≡ part.kinds
    → world_of (chunk_put fields number after place new) ≡ world_of fields
stays_seen fields number session after table chunk place part new at same shown kinds =
    sym (put_seen fields number after place part new at.found kinds)
    ∙ chunk_same (world_of fields) number session after place part.shown new.shown at.at.found (plain_at fields.chunks place part at.found) same shown

pub chunk_stays : {E : Type 0} (r : Result Progress E) (fields : Fields) (number : ℕ) (session after : SessionData) (table chunk place : ℕ) (part new : Whole)
    → ChunkAt fields number session table chunk place part → ChunkVisited r session part after new
    → OnErr r (world_of (chunk_put fields number after place new) ≡ world_of fields)
chunk_stays (Ok progress) fields number session after table chunk place part new at visited = tt
chunk_stays (Err e) fields number session after table chunk place part new at visited =
    stays_seen fields number session after table chunk place part new at visited.kept.0 visited.kept.1 visited.kinds

-- the types of the tables stay
pub types_stay : (fields : Fields) (number : ℕ) (session after : SessionData) (table chunk place : ℕ) (part new : Whole)
    → ChunkAt fields number session table chunk place part → new.kinds ≡ part.kinds
    → (world_of (chunk_put fields number after place new)).kinds ≡ (world_of fields).kinds
types_stay fields number session after table chunk place part new at same =
    ap (kinds_by_table fields.tables fields.per_table) (kinds_stay fields.chunks place part new at.found same)

pub chunk_kept : {E : Type 0} (r : Result Progress E) → NeededChunksAreThere → VisitsAreSteps → (fields : Fields) (number : ℕ) (session after : SessionData)
    (table chunk place : ℕ) (part new : Whole) → ChunkAt fields number session table chunk place part → ChunkVisited r session part after new
    → Holds fields → Holds (chunk_put fields number after place new)
chunk_kept {E} (Ok progress) there steps fields number session after table chunk place part new at visited w = record {
  setting = w.setting;
  kinds = w.kinds;
  state = (step_of w.setting w.state number).0;
  shapes_are = w.shapes_are;
  typed = w.typed;
  types = types_kept w.kinds fields.per_table fields.chunks place part new at.found visited.kinds w.types;
  shows = (chunk_steps {E = E} (Ok progress) there steps fields number session after table chunk place part new at visited w.setting w.state w.shows).shows;
}
chunk_kept {E} (Err e) there steps fields number session after table chunk place part new at visited w = record {
  setting = w.setting;
  kinds = w.kinds;
  state = w.state;
  shapes_are = w.shapes_are;
  typed = w.typed;
  types = types_kept w.kinds fields.per_table fields.chunks place part new at.found visited.kinds w.types;
  shows = subst (ShowsState w.setting w.state)
      (sym (stays_seen fields number session after table chunk place part new at visited.kept.0 visited.kept.1 visited.kinds)) w.shows;
}
