-- The laws of shared parts: a visit may be made where the session needs the part, it keeps what holds of all of them, and the
-- part that a session needs is one of those that are there.
use Rattle.std.proofs.Common.{◌≡◌, ◌⊎◌, inl, inr, ℕ, zero, suc, ◌+◌, ◌*◌, List, [], ◌∷◌, length, map, refl, ap, ◌∙◌, sym, subst, Some}
use Rattle.std.specs.Prelude.{slice_get, slice_set}
use Rattle.std.specs.Option.{option_map}
use Rattle.std.proofs.lemmas.List.{map-set}
use Rattle.std.proofs.lemmas.Option.{same_Some, slice_get-map}
use mathlib.Core.Option.{some, some-ne-none, some-injective}
use lib.ListN.{get_elem?}
use Rattle.hy_threads.specs.Laws.{NearFollows, EventKeeps}
use Rattle.hy_value.specs.declared.Kind.{Kind}
use Rattle.hy_journal.specs.declared.CoreData.{CoreData}
use Rattle.hy_undo.specs.Chunks.{ChunkData}
use Rattle.hy_event.specs.declared.SessionData.{SessionData}
use Rattle.hy_event.specs.declared.Need.{Need}
use Rattle.hy_event.specs.declared.Need.TheVariants.{Core, Chunk, Done}
use Rattle.hy_event.specs.Events.{Part, ChunkPart, CorePart, part_number}
use Rattle.hy_event.specs.Needs.{need_of}
use Rattle.hy_machine.specs.declared.Setting.{Setting}
use Rattle.hy_machine.specs.Steps.{step_of}
use Rattle.hy_session.specs.Near.{NearCore, NearChunk}
use Rattle.hy_stepping.specs.Runnable.{IsShown}
use Rattle.hy_world.specs.Shared.{SharedData, ChunkOf, CoreOf, AreShared, HaveSharedTypes, IsNear, IsVisit, KeepsTypes, MayVisit, part_of}

-- ---- lists

pub got_by : {A : Type 0} (xs : List A) (i : ℕ) (x : A) → get_elem? xs i ≡ some x → slice_get xs i ≡ Some x
got_by [] i x e = absurd (some-ne-none x (sym e))
got_by (y ∷ xs) zero x e = ap Some (some-injective y x e)
got_by (y ∷ xs) (suc i) x e = got_by xs i x e

-- what stands at an index of a list in which one element was set
pub set_cases : {A : Type 0} (xs : List A) (k i : ℕ) (x y : A) → slice_get (slice_set xs k y) i ≡ Some x
    → ((i ≡ k) × (y ≡ x)) ⊎ (slice_get xs i ≡ Some x)
set_cases [] k i x y e = inr e
set_cases (z ∷ xs) zero zero x y e = inl (refl, same_Some y x e)
set_cases (z ∷ xs) zero (suc i) x y e = inr e
set_cases (z ∷ xs) (suc k) zero x y e = inr e
set_cases (z ∷ xs) (suc k) (suc i) x y e = elim (set_cases xs k i x y e) [ inl h ↦ inl (ap suc h.0, h.1) | inr h ↦ inr h ]

part_got : (parts : List SharedData) (k : ℕ) (part : SharedData) → slice_get parts k ≡ Some part → slice_get (map part_of parts) k ≡ Some (part_of part)
part_got parts k part e = slice_get-map part_of parts k ∙ ap (option_map part_of) e

-- ---- a visit may be made

near_core : (session : SessionData) (core : CoreData) (part : SharedData) → part_of part ≡ CorePart core → NearCore session core → MayVisit Core session part
near_core session core (ChunkOf kinds chunk) e near = absurd (cc e)
near_core session core (CoreOf other) e near = let same : core ≡ other = cc e in subst (NearCore session) same near

near_chunk : (session : SessionData) (table number : ℕ) (found : ChunkData) (part : SharedData) → part_of part ≡ ChunkPart found
    → ((kinds : List Kind) (chunk : ChunkData) (room : ℕ) → part ≡ ChunkOf kinds chunk → NearChunk session (record { shown = chunk; kinds = kinds; room = room }))
    → MayVisit (Chunk table number) session part
near_chunk session table number found (ChunkOf kinds chunk) e near = λ room. near kinds chunk room refl
near_chunk session table number found (CoreOf core) e near = absurd (cc e)

pub near_by : (setting : Setting) (kinds : List (List Kind)) (parts : List SharedData) (sessions : List SessionData) (i k : ℕ) (session : SessionData)
    (part : SharedData) (need : Need) → AreShared setting kinds parts sessions → slice_get sessions i ≡ Some session → slice_get parts k ≡ Some part
    → need_of session ≡ need → part_number session need ≡ Some k → MayVisit need session part
near_by setting kinds parts sessions i k session part Core shared at_session at_part needs numbered =
    let is = (shared.shown.shows.sessions_show.each i session at_session).session_is in
    let last : length setting.shapes * setting.chunks ≡ k = rw (← is.shapes, ← is.chunks) (same_Some (length session.shapes * session.chunks) k numbered) in
    let core = shared.shown.shows.core in
    let here : Some (part_of part) ≡ Some (CorePart core) =
    sym (part_got parts k part at_part) ∙ (ap (slice_get (map part_of parts)) (sym last) ∙ shared.shown.shows.parts_are.core_last) in
    near_core session core part (same_Some (part_of part) (CorePart core) here)
    (shared.laws.cores_near setting shared.state (map part_of parts) sessions i session shared.shown at_session needs)
near_by setting kinds parts sessions i k session part (Chunk table number) shared at_session at_part needs numbered =
    let is = (shared.shown.shows.sessions_show.each i session at_session).session_is in
    let there = shared.laws.chunks_there setting shared.state (map part_of parts) sessions i session table number shared.shown at_session needs in
    let at : table * setting.chunks + number ≡ k = rw (← is.chunks) (same_Some (table * session.chunks + number) k numbered) in
    let has = shared.shown.shows.parts_are.chunks table number there.0 there.1 in
    let here : Some (part_of part) ≡ Some (ChunkPart has.part) =
    sym (part_got parts k part at_part) ∙ (ap (slice_get (map part_of parts)) (sym at) ∙ has.is_part.found) in
    near_chunk session table number has.part part (same_Some (part_of part) (ChunkPart has.part) here)
    (λ types chunk room e.
    let found : slice_get parts (table * setting.chunks + number) ≡ Some (ChunkOf types chunk) = ap (slice_get parts) at ∙ (at_part ∙ ap Some e) in
    shared.laws.chunks_near setting kinds shared.state (map part_of parts) sessions i session table number (record { shown = chunk; kinds = types; room = room })
    shared.shown shared.typed at_session needs
    (record {
      found = part_got parts (table * setting.chunks + number) (ChunkOf types chunk) found;
      types = shared.types table number types chunk there.1 found;
    }))
near_by setting kinds parts sessions i k session part Done shared at_session at_part needs numbered = absurd (cc numbered)

pub near_follows : (setting : Setting) (kinds : List (List Kind)) → NearFollows (AreShared setting kinds) IsNear
near_follows setting kinds parts sessions i k session part shared at_session at_part =
    λ numbered. near_by setting kinds parts sessions i k session part (need_of session) shared (got_by sessions i session at_session)
    (got_by parts k part at_part) refl numbered

-- ---- a visit keeps what holds

kept_types : (types : List Kind) (chunk : ChunkData) (old new : SharedData) → KeepsTypes old new → new ≡ ChunkOf types chunk
    → (before : ChunkData) × (old ≡ ChunkOf types before)
kept_types types chunk (ChunkOf kinds before) (ChunkOf others after) keeps e =
    let same : others ≡ types = cc e in (before, ap (λ (all : List Kind). ChunkOf all before) (sym keeps ∙ same))
kept_types types chunk (ChunkOf kinds before) (CoreOf core) keeps e = absurd keeps
kept_types types chunk (CoreOf before) (ChunkOf others after) keeps e = absurd keeps
kept_types types chunk (CoreOf before) (CoreOf after) keeps e = absurd (cc e)

types_kept : (kinds : List (List Kind)) (per_table : ℕ) (parts : List SharedData) (k : ℕ) (old new : SharedData) → slice_get parts k ≡ Some old
    → KeepsTypes old new → HaveSharedTypes kinds per_table parts → HaveSharedTypes kinds per_table (slice_set parts k new)
types_kept kinds per_table parts k old new at keeps have = λ table number types chunk below found.
    elim (set_cases parts k (table * per_table + number) (ChunkOf types chunk) new found) [
      | inl h ↦ let was = kept_types types chunk old new keeps h.1 in have table number types was.0 below (ap (slice_get parts) h.0 ∙ (at ∙ ap Some was.1))
      | inr h ↦ have table number types chunk below h
    ]

pub visit_keeps_at : (setting : Setting) (kinds : List (List Kind)) (parts : List SharedData) (sessions : List SessionData) (i k : ℕ)
    (session after : SessionData) (old new : SharedData) → AreShared setting kinds parts sessions → slice_get sessions i ≡ Some session
    → slice_get parts k ≡ Some old → IsVisit k session old after new → AreShared setting kinds (slice_set parts k new) (slice_set sessions i after)
visit_keeps_at setting kinds parts sessions i k session after old new shared at here visit =
    let next = shared.laws.visits_steps setting shared.state (map part_of parts) sessions i session k (part_of old) visit.progress after (part_of new)
    shared.shown at (part_got parts k old here) visit.needed visit.visit in
    record {
      laws = shared.laws;
      typed = shared.typed;
      types = types_kept kinds setting.chunks parts k old new here visit.types shared.types;
      state = (step_of setting shared.state i).0;
      shown = subst (λ (others : List Part). IsShown setting (step_of setting shared.state i).0 others (slice_set sessions i after))
          (sym (map-set part_of parts k new)) next.shown;
    }

pub visit_keeps : (setting : Setting) (kinds : List (List Kind)) → EventKeeps (AreShared setting kinds) IsVisit
visit_keeps setting kinds parts sessions i k session after old new shared at_session at_part visit =
    visit_keeps_at setting kinds parts sessions i k session after old new shared (got_by sessions i session at_session)
    (got_by parts k old at_part) visit
