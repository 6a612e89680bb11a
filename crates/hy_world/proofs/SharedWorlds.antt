-- The parts and sessions of a world as they are shared: at its opening, and when they come back at the end.
use Rattle.std.proofs.Common.{◌≡◌, ℕ, zero, suc, ◌+◌, ◌*◌, ◌<◌, ◌≤◌, ◌/◌, ◌%◌, List, [], ◌∷◌, ◌++◌, Bool, true, Option, None, Some}
use Rattle.std.proofs.Common.{◌^◌, length, map, take, get_or, refl, ap, ◌∙◌, sym, subst, arith, Result, Ok, Err}
use Rattle.std.specs.Prelude.{slice_get, IfOk}
use Rattle.std.specs.Option.{option_map}
use Rattle.std.specs.List.{All}
use Rattle.std.proofs.Math.Nat.{div-lt_iff_lt-mul, mod-add-div, mod-lt}
use Rattle.std.proofs.lemmas.List.{length-map}
use Rattle.std.proofs.lemmas.List.Elements.{recursion_from_All}
use Rattle.std.proofs.lemmas.Bool.{lt-ltb}
use Rattle.std.proofs.lemmas.Nat.{mul-add-lt}
use Rattle.std.proofs.lemmas.Option.{same_Some, slice_get-map}
use Rattle.hy_value.specs.declared.Kind.{Kind}
use Rattle.hy_journal.specs.declared.CoreData.{CoreData}
use Rattle.hy_undo.specs.Chunks.{ChunkData}
use Rattle.hy_chunk.specs.Views.{Whole}
use Rattle.hy_event.specs.declared.SessionData.{SessionData}
use Rattle.hy_event.specs.declared.Need.{Need}
use Rattle.hy_event.specs.declared.Need.TheVariants.{Core, Chunk, Done}
use Rattle.hy_event.specs.Events.{Part, ChunkPart, CorePart, part_number}
use Rattle.hy_event.specs.Needs.{need_of}
use Rattle.hy_machine.specs.declared.Setting.{Setting}
use Rattle.hy_machine.specs.States.{State}
use Rattle.hy_machine.specs.Runs.{opening_of}
use Rattle.hy_session.specs.Near.{NearChunk}
use Rattle.hy_stepping.specs.Outcomes.{EndsAreTheMachines, is_done, are_done}
use Rattle.hy_stepping.specs.Runnable.{IsRunnable, IsShown}
use Rattle.hy_stepping.specs.Typed.{AreTyped}
use Rattle.hy_world.specs.Shared.{SharedData, ChunkOf, CoreOf, AreParts, AreShared, HaveSharedTypes, IsChunk, Laws, MayVisit, chunk_shared}
use Rattle.hy_world.specs.Shared.{part_of, parts_shared}
use Rattle.hy_refinement.specs.Laws.{OpeningIsShown}
use Rattle.hy_session.specs.Standing.{needed_number, number_within, width_of}
use Rattle.hy_world.specs.Points.{visit_at, point_of}
use Rattle.hy_world.specs.Worlds.{WorldData, ShowsState, IsWorld, HaveTypes, parts_of, plain, seen_world}
use Rattle.hy_world.specs.Openings.{IsOpened}
use Rattle.hy_world.specs.SomeRuns.{ShowsSomeRun}
use Rattle.hy_world.specs.declared.opening.Opened.{Opened}
use Rattle.hy_world.proofs.ListsAt.{got, below, got_is, read_got}
use Rattle.hy_world.proofs.OpenedWorlds.{shown_opened, types_opened}
use Rattle.hy_world.proofs.SomeSchedules.{shows_some_run}
use Rattle.hy_bound.specs.declared.Shape.{Shape}

-- ---- parts and shared parts

same_chunks : (chunks : List Whole) (core : CoreData) → map part_of (parts_shared chunks core) ≡ parts_of (plain chunks) core
same_chunks [] core = refl
same_chunks (chunk ∷ chunks) core = ap (λ (parts : List Part). ChunkPart chunk.shown ∷ parts) (same_chunks chunks core)

-- a chunk among the shared parts is one of the chunks
chunk_of : (chunks : List Whole) (core : CoreData) (i : ℕ) (types : List Kind) (chunk : ChunkData) → slice_get (parts_shared chunks core) i ≡ Some (ChunkOf types chunk)
    → (whole : Whole) × (slice_get chunks i ≡ Some whole) × (whole.kinds ≡ types)
chunk_of [] core zero types chunk e = absurd (cc e)
chunk_of [] core (suc i) types chunk e = absurd (cc e)
chunk_of (whole ∷ chunks) core zero types chunk e = (whole, refl, cc e)
chunk_of (whole ∷ chunks) core (suc i) types chunk e = chunk_of chunks core i types chunk e

-- and each of the chunks is among them
chunk_there : (chunks : List Whole) (core : CoreData) (i : ℕ) (whole : Whole) → slice_get chunks i ≡ Some whole
    → slice_get (parts_shared chunks core) i ≡ Some (ChunkOf whole.kinds whole.shown)
chunk_there [] core i whole e = absurd (cc e)
chunk_there (other ∷ chunks) core zero whole e = let same : other ≡ whole = cc e in ap (λ (one : Whole). Some (chunk_shared one)) same
chunk_there (other ∷ chunks) core (suc i) whole e = chunk_there chunks core i whole e

shared_types : (kinds : List (List Kind)) (per_table : ℕ) (chunks : List Whole) (core : CoreData) → HaveTypes kinds per_table chunks
    → HaveSharedTypes kinds per_table (parts_shared chunks core)
shared_types kinds per_table chunks core have = λ table number types chunk few found.
    let at = chunk_of chunks core (table * per_table + number) types chunk found in
    sym at.2 ∙ have table number at.0 few at.1

world_types : (kinds : List (List Kind)) (per_table : ℕ) (chunks : List Whole) (core : CoreData) → HaveSharedTypes kinds per_table (parts_shared chunks core)
    → HaveTypes kinds per_table chunks
world_types kinds per_table chunks core have = λ table number whole few found.
    have table number whole.kinds whole.shown few (chunk_there chunks core (table * per_table + number) whole found)

-- ---- from a world, and to one

-- a world whose chunks have these types may be shared
pub world_shared : Laws → (setting : Setting) (kinds : List (List Kind)) (state : State) (tables : ℕ) (chunks : List Whole) (core : CoreData)
    (sessions : List SessionData) → AreTyped kinds setting.shapes setting.first setting.programs → HaveTypes kinds setting.chunks chunks
    → ShowsState setting state (seen_world tables setting.chunks chunks core sessions)
    → AreShared setting kinds (parts_shared chunks core) sessions
world_shared laws setting kinds state tables chunks core sessions typed types shows = record {
  laws = laws;
  typed = typed;
  types = shared_types kinds setting.chunks chunks core types;
  state = state;
  shown = subst (λ (parts : List Part). IsShown setting state parts sessions) (sym (same_chunks chunks core)) shows.shown;
}

-- what comes back shows the state
pub shared_shows : (setting : Setting) (kinds : List (List Kind)) (chunks : List Whole) (core : CoreData) (sessions : List SessionData)
    → (shared : AreShared setting kinds (parts_shared chunks core) sessions)
    → ShowsState setting shared.state
    (seen_world (length setting.shapes) setting.chunks chunks core sessions)
shared_shows setting kinds chunks core sessions shared = record {
  tables = refl;
  per_table = refl;
  shown = subst (λ (parts : List Part). IsShown setting shared.state parts sessions) (same_chunks chunks core) shared.shown;
}

-- so that it is a world
pub shared_world : (setting : Setting) (kinds : List (List Kind)) (chunks : List Whole) (core : CoreData) (sessions : List SessionData)
    → AreShared setting kinds (parts_shared chunks core) sessions → IsWorld setting.shapes (length setting.shapes) setting.chunks chunks core sessions
shared_world setting kinds chunks core sessions shared = record {
  setting = setting;
  kinds = kinds;
  state = shared.state;
  shapes_are = refl;
  typed = shared.typed;
  types = world_types kinds setting.chunks chunks core shared.types;
  shows = shared_shows setting kinds chunks core sessions shared;
}

-- ---- a visit of a chunk

near_of : (need : Need) (session : SessionData) (chunk : Whole) → MayVisit need session (chunk_shared chunk) → NearChunk session chunk
near_of Core session chunk near = absurd near
near_of (Chunk table number) session chunk near = near chunk.room
near_of Done session chunk near = absurd near

-- where a part may be visited that is a chunk, the chunk may be
pub visit_near : (need : Need) (session : SessionData) (part : SharedData) (chunk : Whole) → part ≡ chunk_shared chunk → MayVisit need session part
    → NearChunk session chunk
visit_near need session part chunk e near = near_of need session chunk (subst (MayVisit need session) e near)

-- ---- the parts that come back

chunk_is : (part : SharedData) (chunk : ChunkData) → part_of part ≡ ChunkPart chunk → IsChunk part
chunk_is (ChunkOf kinds other) chunk e = tt
chunk_is (CoreOf core) chunk e = absurd (cc e)

core_is : (part : SharedData) (core : CoreData) → part_of part ≡ CorePart core → part ≡ CoreOf core
core_is (ChunkOf kinds chunk) core e = absurd (cc e)
core_is (CoreOf other) core e = cc e

part_at : (parts : List SharedData) (i : ℕ) (part : SharedData) (seen : Part) → slice_get parts i ≡ Some part → slice_get (map part_of parts) i ≡ Some seen
    → part_of part ≡ seen
part_at parts i part seen e h = same_Some (part_of part) seen (sym (slice_get-map part_of parts i ∙ ap (option_map part_of) e) ∙ h)

-- a list with so many elements before the last one
pub last_of : {A : Type 0} (xs : List A) (n : ℕ) (x : A) → length xs ≡ suc n → slice_get xs n ≡ Some x → xs ≡ take n xs ++ x ∷ []
last_of [] n x long e = absurd (omega arith)
last_of {A} (y ∷ []) zero x long e = ap (λ (z : A). z ∷ []) (same_Some y x e)
last_of (y ∷ z ∷ xs) zero x long e = absurd (omega arith)
last_of {A} (y ∷ xs) (suc n) x long e = ap (λ (zs : List A). y ∷ zs) (last_of xs n x (let less : length xs ≡ suc n = omega arith in less) e)

taken_at : {A : Type 0} (xs : List A) (n i : ℕ) (d : A) → i < length (take n xs) → (slice_get xs i ≡ Some (get_or (take n xs) i d)) × (i < n)
taken_at xs zero i d h = absurd (omega arith)
taken_at [] (suc n) i d h = absurd (omega arith)
taken_at (x ∷ xs) (suc n) zero d h = (refl, omega arith)
taken_at (x ∷ xs) (suc n) (suc i) d h = let more = taken_at xs n i d (omega arith) in let less = more.1 in (more.0, omega arith)

pub shared_parts : (setting : Setting) (kinds : List (List Kind)) (parts : List SharedData) (sessions : List SessionData)
    → AreShared setting kinds parts sessions → AreParts parts
shared_parts setting kinds parts sessions shared =
    let are = shared.shown.shows.parts_are in
    let n = length setting.shapes * setting.chunks in
    let long : length parts ≡ suc n = sym (length-map parts part_of) ∙ are.count in
    let last = got parts n (omega (arith, long)) in
    record {
      front = take n parts;
      core = shared.shown.shows.core;
      are = last_of parts n (CoreOf shared.shown.shows.core) long
          (last.1 ∙ ap Some (core_is last.0 shared.shown.shows.core (part_at parts n last.0 (CorePart shared.shown.shows.core) last.1 are.core_last)));
      chunks = recursion_from_All IsChunk (take n parts) (λ i d h.
          let at = taken_at parts n i d h in
          let some : 0 < setting.chunks = shared.shown.runnable.some_chunk in
          let table = i / setting.chunks in
          let number = i % setting.chunks in
          let less : i < n = at.1 in
          let there : table < length setting.shapes = (div-lt_iff_lt-mul some).1 less in
          let within : number < setting.chunks = mod-lt i some in
          let has = are.chunks table number there within in
          let here : table * setting.chunks + number ≡ i = omega (arith, mod-add-div i setting.chunks) in
          chunk_is (get_or (take n parts) i d) has.part (part_at parts i (get_or (take n parts) i d) (ChunkPart has.part) at.0
          (ap (slice_get (map part_of parts)) (sym here) ∙ has.is_part.found)));
    }

-- ---- the sessions that come back

within_some : (count number : ℕ) → number < count → number_within count (Some number) ≡ None → ⊥
within_some count number less e = let yes = lt-ltb number count less in cc

no_number : (session : SessionData) (found : Option ℕ) → option_map (visit_at session) found ≡ None → found ≡ None
no_number session None e = refl
no_number session (Some number) e = absurd (cc e)

pub done_by : (setting : Setting) (kinds : List (List Kind)) (parts : List SharedData) (sessions : List SessionData) (i : ℕ) (session : SessionData) (need : Need)
    → AreShared setting kinds parts sessions → slice_get sessions i ≡ Some session → need_of session ≡ need
    → number_within (width_of session) (part_number session need) ≡ None → is_done need ≡ true
done_by setting kinds parts sessions i session Core shared at needs none =
    absurd (within_some (width_of session) (length session.shapes * session.chunks) (omega arith) none)
done_by setting kinds parts sessions i session (Chunk table chunk) shared at needs none =
    let there = shared.laws.chunks_there setting shared.state (map part_of parts) sessions i session table chunk shared.shown at needs in
    let is = (shared.shown.shows.sessions_show.each i session at).session_is in
    let within : table * session.chunks + chunk < session.chunks * length session.shapes =
    mul-add-lt table session.chunks chunk (length session.shapes) (rw is.shapes there.0) (rw is.chunks there.1) in
    absurd (within_some (width_of session) (table * session.chunks + chunk) (omega (arith, within)) none)
done_by setting kinds parts sessions i session Done shared at needs none = refl

all_done : (all : List SessionData) → ((i : ℕ) (session : SessionData) → slice_get all i ≡ Some session → is_done (need_of session) ≡ true)
    → are_done all ≡ true
all_done [] each = refl
all_done (session ∷ all) each = let first = each 0 session refl in let rest = all_done all (λ i. each (suc i)) in cc

-- where no session has a next visit, all are at their end
pub shared_done : (setting : Setting) (kinds : List (List Kind)) (parts : List SharedData) (sessions : List SessionData)
    → AreShared setting kinds parts sessions → All (λ (session : SessionData). point_of session ≡ None) sessions → are_done sessions ≡ true
shared_done setting kinds parts sessions shared none =
    all_done sessions (λ i session at.
    let here : point_of session ≡ None =
    subst (λ (one : SessionData). point_of one ≡ None) (got_is sessions i session session at) (none i session (below sessions i session at)) in
    done_by setting kinds parts sessions i session (need_of session) shared at refl (no_number session (needed_number session) here))

-- ---- a world of parts that come back

-- the parts that come back are these chunks and this core
here_shared : (setting : Setting) (kinds : List (List Kind)) (parts : List SharedData) (sessions : List SessionData) (chunks : List Whole) (core : CoreData)
    → AreShared setting kinds parts sessions → parts_shared chunks core ≡ parts → AreShared setting kinds (parts_shared chunks core) sessions
here_shared setting kinds parts sessions chunks core shared same =
    subst (λ (all : List SharedData). AreShared setting kinds all sessions) (sym same) shared

pub world_back : (setting : Setting) (kinds : List (List Kind)) (parts : List SharedData) (sessions : List SessionData) (shapes : List Shape) (tables per_table : ℕ)
    (chunks : List Whole) (core : CoreData) → AreShared setting kinds parts sessions → parts_shared chunks core ≡ parts → shapes ≡ setting.shapes
    → per_table ≡ setting.chunks → tables ≡ length shapes → IsWorld shapes tables per_table chunks core sessions
world_back setting kinds parts sessions shapes tables per_table chunks core shared same are per count =
    subst (λ (all : List Shape). IsWorld all tables per_table chunks core sessions) (sym are)
    (subst (λ (n : ℕ). IsWorld setting.shapes tables n chunks core sessions) (sym per)
    (subst (λ (n : ℕ). IsWorld setting.shapes n setting.chunks chunks core sessions) (sym (count ∙ ap length are))
    (shared_world setting kinds chunks core sessions (here_shared setting kinds parts sessions chunks core shared same))))

pub shows_back : (setting : Setting) (kinds : List (List Kind)) (parts : List SharedData) (sessions : List SessionData) (shapes : List Shape) (tables per_table : ℕ)
    (chunks : List Whole) (core : CoreData) → AreShared setting kinds parts sessions → parts_shared chunks core ≡ parts → shapes ≡ setting.shapes
    → per_table ≡ setting.chunks → tables ≡ length shapes
    → (state : State) × ShowsState setting state
    (seen_world tables per_table chunks core sessions)
shows_back setting kinds parts sessions shapes tables per_table chunks core shared same are per count =
    let here = here_shared setting kinds parts sessions chunks core shared same in (
      here.state,
      subst (λ (n : ℕ). ShowsState setting here.state
          (seen_world tables n chunks core sessions)) (sym per)
          (subst (λ (n : ℕ). ShowsState setting here.state
          (seen_world n setting.chunks chunks core sessions)) (sym (count ∙ ap length are))
          (shared_shows setting kinds chunks core sessions here)),
    )

-- ---- what a run on threads asks

-- what was opened may be shared
pub opened_shared : Laws → OpeningIsShown → (setting : Setting) (kinds : List (List Kind)) (prunes : Bool) (opened : Opened) → IsRunnable setting
    → AreTyped kinds setting.shapes setting.first setting.programs → IsOpened setting kinds prunes opened
    → AreShared setting kinds (parts_shared opened.chunks.items opened.core) opened.sessions.items
opened_shared laws law setting kinds prunes opened runnable typed is =
    world_shared laws setting kinds (opening_of setting) (length opened.shapes) opened.chunks.items opened.core opened.sessions.items typed
    (types_opened setting kinds prunes opened is)
    (subst (λ (n : ℕ). ShowsState setting (opening_of setting)
    (seen_world (length opened.shapes) n opened.chunks.items opened.core opened.sessions.items))
    is.per_table (shown_opened law setting kinds prunes (length opened.shapes) opened runnable typed is refl))

-- so may the parts that it comes to, in a setting that is the same
pub case_shared : Laws → OpeningIsShown → (setting case : Setting) (kinds types : List (List Kind)) (prunes : Bool) (opened : Opened)
    (parts : List SharedData) → setting ≡ case → kinds ≡ types → IsRunnable setting → AreTyped kinds setting.shapes setting.first setting.programs
    → IsOpened setting kinds prunes opened → parts ≡ parts_shared opened.chunks.items opened.core → AreShared case types parts opened.sessions.items
case_shared laws law setting case kinds types prunes opened parts is are runnable typed opens same =
    subst (λ (one : Setting). AreShared one types parts opened.sessions.items) is
    (subst (λ (all : List (List Kind)). AreShared setting all parts opened.sessions.items) are
    (subst (λ (all : List SharedData). AreShared setting kinds all opened.sessions.items) (sym same)
    (opened_shared laws law setting kinds prunes opened runnable typed opens)))

-- there are as many parts as each session has
pub parts_many : (setting : Setting) (kinds : List (List Kind)) (parts : List SharedData) (sessions : List SessionData) → AreShared setting kinds parts sessions
    → length parts ≡ suc (length setting.shapes * setting.chunks)
parts_many setting kinds parts sessions shared = sym (length-map parts part_of) ∙ shared.shown.shows.parts_are.count

pub shared_some : (setting : Setting) (kinds : List (List Kind)) (count : ℕ) (parts : List SharedData) (sessions : List SessionData)
    → AreShared setting kinds parts sessions → count ≡ length parts → 0 < count
shared_some setting kinds count parts sessions shared is = omega (arith, is, parts_many setting kinds parts sessions shared)

pub shared_wide : (setting : Setting) (kinds : List (List Kind)) (parts : List SharedData) (sessions : List SessionData) (count : ℕ)
    → AreShared setting kinds parts sessions → count ≡ length parts → All (λ (session : SessionData). width_of session ≤ count) sessions
shared_wide setting kinds parts sessions count shared is = λ i d h.
    let at = read_got sessions i d h in
    let same = (shared.shown.shows.sessions_show.each i (get_or sessions i d) at).session_is in
    let wide : width_of (get_or sessions i d) ≡ suc (length setting.shapes * setting.chunks) = rw (same.shapes, same.chunks) refl in
    omega (arith, wide, is, parts_many setting kinds parts sessions shared)

pub shared_few : (setting : Setting) (kinds : List (List Kind)) (parts : List SharedData) (sessions : List SessionData) (count : ℕ)
    → AreShared setting kinds parts sessions → count ≡ length sessions → count < 2 ^ 31
shared_few setting kinds parts sessions count shared is =
    omega (arith, is, shared.shown.shows.sessions_show.count, shared.shown.runnable.fits.few_sessions)

-- ---- what it shows

-- where all sessions are at their end, the world shows what the machine comes to by some schedule
pub some_shown : {E : Type 0} (r : Result WorldData E) → EndsAreTheMachines → (setting : Setting) (kinds : List (List Kind)) (parts : List SharedData)
    (sessions : List SessionData) → AreShared setting kinds parts sessions → All (λ (session : SessionData). point_of session ≡ None) sessions
    → IfOk r (λ world. (state : State) × ShowsState setting state world) → IfOk r (λ world. world.sessions ≡ sessions)
    → IfOk r (λ world. ShowsSomeRun setting world)
some_shown (Ok world) ends setting kinds parts sessions shared none shows same =
    let done : are_done world.sessions ≡ true = ap are_done same ∙ shared_done setting kinds parts sessions shared none in
    shows_some_run setting world shows.0 shows.1
    (sym (ends setting shows.0 (parts_of world.chunks world.core) world.sessions shows.1.shown) ∙ done)
some_shown (Err e) ends setting kinds parts sessions shared none shows same = tt
