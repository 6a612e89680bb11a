-- A world in which a session goes past chunks.
use Rattle.std.proofs.Common.{◌≡◌, ℕ, zero, suc, ◌+◌, ◌-◌, ◌*◌, List, [], ◌∷◌, ◌++◌, length, take, drop, Some, refl, ap, ◌∙◌, sym, subst, arith}
use Rattle.std.proofs.Math.ListN.{set}
use Rattle.std.specs.Prelude.{slice_get}
use Rattle.std.specs.Global.{Vec}
use Rattle.std.specs.List.{All, AllByRecursion}
use Rattle.std.specs.Vec.{with_items}
use Rattle.std.proofs.lemmas.List.{length-map, take-append-drop, with_items_is}
use Rattle.std.proofs.lemmas.List.Elements.{All-from_recursion}
use Rattle.std.proofs.lemmas.Option.{slice_get_within}
use Rattle.hy_journal.specs.declared.CoreData.{CoreData}
use Rattle.hy_chunk.specs.Views.{Whole}
use Rattle.hy_event.specs.declared.SessionData.{SessionData}
use Rattle.hy_event.specs.declared.Need.TheVariants.{Chunk}
use Rattle.hy_event.specs.Events.{Part, ChunkPart}
use Rattle.hy_session.specs.Passing.{MayBePassed, Passes}
use Rattle.hy_stepping.specs.Steps.{ArePartsFrom, ChunksMayBePassed, PassesAreSteps}
use Rattle.hy_world.specs.Follows.{MovesOn}
use Rattle.hy_world.specs.Worlds.{WorldData, parts_of, plain}
use Rattle.hy_world.proofs.Parts.{chunk_at}
use Rattle.hy_world.proofs.Visits.{IsAt, count_is, plain_at}
use Rattle.hy_world.proofs.KeptWorlds.{Fields, Holds, world_of}

-- ---- each chunk may be passed

all_each : {A : Type 0} (P : A → Type 0) (xs : List A) → ((i : ℕ) (x : A) → slice_get xs i ≡ Some x → P x) → AllByRecursion P xs
all_each P [] each = tt
all_each P (x ∷ xs) each = (each zero x refl, all_each P xs (λ i y e. each (suc i) y e))

got_first : {A : Type 0} (n : ℕ) (xs : List A) (i : ℕ) (x : A) → slice_get (take n xs) i ≡ Some x → slice_get xs i ≡ Some x
got_first zero xs i x e = absurd (cc e)
got_first (suc n) [] i x e = absurd (cc e)
got_first (suc n) (y ∷ xs) zero x e = e
got_first (suc n) (y ∷ xs) (suc i) x e = got_first n xs i x e

got_behind : {A : Type 0} (n : ℕ) (xs : List A) (i : ℕ) (x : A) → slice_get (drop n xs) i ≡ Some x → slice_get xs (n + i) ≡ Some x
got_behind zero xs i x e =
    let same : i ≡ zero + i = omega arith in
    subst (λ (k : ℕ). slice_get xs k ≡ Some x) same e
got_behind (suc n) [] i x e = absurd (cc e)
got_behind (suc n) (y ∷ xs) i x e =
    let same : suc (n + i) ≡ suc n + i = omega arith in
    subst (λ (k : ℕ). slice_get (y ∷ xs) k ≡ Some x) same (got_behind n xs i x e)

pub all_may : ChunksMayBePassed → (fields : Fields) → Holds fields → All MayBePassed fields.chunks
all_may may fields w =
    All-from_recursion MayBePassed fields.chunks (all_each MayBePassed fields.chunks (λ i chunk found.
    let world : WorldData = world_of fields in
    let within = slice_get_within fields.chunks i chunk found in
    let count = count_is w.setting w.state world w.shows in
    let long = length-map fields.chunks (λ (one : Whole). one.shown) in
    may w.setting w.state (parts_of world.chunks world.core) world.sessions i chunk w.shows.shown (omega (arith, within, count, long))
    (chunk_at world.chunks world.core i chunk.shown (plain_at fields.chunks i chunk found))))

-- ---- and what is shown goes on

parts_each : (parts : List Part) (chunks : List Whole) (place : ℕ)
    → ((i : ℕ) (chunk : Whole) → slice_get chunks i ≡ Some chunk → slice_get parts (place + i) ≡ Some (ChunkPart chunk.shown)) → ArePartsFrom parts place chunks
parts_each parts [] place each = tt
parts_each parts (chunk ∷ chunks) place each =
    let here : place + 0 ≡ place = omega arith in (
      subst (λ (n : ℕ). slice_get parts n ≡ Some (ChunkPart chunk.shown)) here (each zero chunk refl),
      parts_each parts chunks (suc place) (λ i one e.
          let there : place + suc i ≡ suc place + i = omega arith in
          subst (λ (n : ℕ). slice_get parts n ≡ Some (ChunkPart one.shown)) there (each (suc i) one e)),
    )

-- these chunks stand among others from this place on
abbrev pub StandFrom : List Whole → ℕ → List Whole → Type 0
StandFrom chunks place some = (i : ℕ) (chunk : Whole) → slice_get some i ≡ Some chunk → slice_get chunks (place + i) ≡ Some chunk

-- so do the first ones of those from there on
pub first_behind : (chunks all : List Whole) (place long count : ℕ) → all ≡ chunks → StandFrom chunks place (take count (take long (drop place all)))
first_behind chunks all place long count same i chunk e =
    subst (λ (others : List Whole). slice_get others (place + i) ≡ Some chunk) same
    (got_behind place all i chunk (got_first long (drop place all) i chunk (got_first count (take long (drop place all)) i chunk e)))

-- a vector a part of which is put back as it was keeps its elements
pub put_back : {X : Type 0} (v : Vec X) (place : ℕ) (xs ys : List X) → ys ≡ take (length xs - place) (drop place xs) → xs ≡ v.items
    → (with_items v (take place xs ++ (ys ++ drop (length xs - place) (drop place xs)))).items ≡ v.items
put_back {X} v place xs ys same are =
    let long : ℕ = length xs - place in
    let all : take place xs ++ (ys ++ drop long (drop place xs)) ≡ xs =
    ap (λ (part : List X). take place xs ++ (part ++ drop long (drop place xs))) same
    ∙ (ap (λ (rest : List X). take place xs ++ rest) (take-append-drop long (drop place xs)) ∙ take-append-drop place xs) in
    with_items_is v (take place xs ++ (ys ++ drop long (drop place xs))) (ap length (all ∙ are) ∙ sym v.ok.0) ∙ (all ∙ are)

parts_from : (chunks some : List Whole) (core : CoreData) (place : ℕ) → StandFrom chunks place some → ArePartsFrom (parts_of (plain chunks) core) place some
parts_from chunks some core place stand =
    parts_each (parts_of (plain chunks) core) some place (λ i chunk e.
    chunk_at (plain chunks) core (place + i) chunk.shown (plain_at chunks (place + i) chunk (stand i chunk e)))

-- the fields with this session
abbrev pub session_put : Fields → ℕ → SessionData → Fields
session_put fields number after = record fields { sessions = set fields.sessions number after }

module _ (law : PassesAreSteps) (fields : Fields) (number : ℕ) (session after : SessionData) (table chunk place : ℕ) (some : List Whole)
    (at : IsAt fields.sessions number session (Chunk table chunk)) (place_is : place ≡ table * fields.per_table + chunk)
    (stand : StandFrom fields.chunks place some) (passes : Passes session table chunk some after) where
  pub passes_move : MovesOn number (world_of fields) (world_of (session_put fields number after))
  passes_move = λ setting state shows.
      let world : WorldData = world_of fields in
      let here : place ≡ table * setting.chunks + chunk = place_is ∙ ap (λ (n : ℕ). table * n + chunk) (sym shows.per_table) in
      let from : ArePartsFrom (parts_of world.chunks world.core) (table * setting.chunks + chunk) some =
      subst (λ (n : ℕ). ArePartsFrom (parts_of world.chunks world.core) n some) here
      (parts_from fields.chunks some fields.core place stand) in
      let passed = law setting state (parts_of world.chunks world.core) world.sessions number session table chunk some after
      shows.shown at.found from passes in
      record {
        count = length some;
        last = passed.last;
        moves = passed.moves;
        shows = record { tables = shows.tables; per_table = shows.per_table; shown = passed.shown };
      }

  pub passes_kept : Holds fields → Holds (session_put fields number after)
  passes_kept w =
      let moved = passes_move w.setting w.state w.shows in
      record {
        setting = w.setting;
        kinds = w.kinds;
        state = moved.last;
        shapes_are = w.shapes_are;
        typed = w.typed;
        types = w.types;
        shows = moved.shows;
      }

-- a world moves on by no step
pub stays_there : (number : ℕ) (world : WorldData) → MovesOn number world world
stays_there number world = λ setting state shows. record { count = 0; last = state; moves = refl; shows = shows }
