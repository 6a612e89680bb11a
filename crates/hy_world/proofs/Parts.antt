-- The parts of a world in their list: its chunks, and the core behind them.
use Rattle.std.proofs.Common.{◌≡◌, ℕ, zero, suc, ◌<◌, List, [], ◌∷◌, ◌++◌, length, map, refl, ap, ◌∙◌, sym, subst, arith, Some}
use Rattle.std.proofs.Math.ListN.{set}
use Rattle.std.proofs.Math.Seq.{set-append_seam}
use Rattle.std.specs.Prelude.{slice_get}
use Rattle.std.specs.Option.{option_map}
use Rattle.std.proofs.lemmas.List.{length-append, length-map, map-set, set-append_left}
use Rattle.std.proofs.lemmas.Option.{same_Some, slice_get-map}
use Rattle.hy_journal.specs.declared.CoreData.{CoreData}
use Rattle.hy_undo.specs.Chunks.{ChunkData}
use Rattle.hy_event.specs.Events.{Part, ChunkPart, CorePart}
use Rattle.hy_world.specs.Worlds.{parts_of}

-- ---- lists

got_left : {A : Type 0} (xs ys : List A) (i : ℕ) (x : A) → slice_get xs i ≡ Some x → slice_get (xs ++ ys) i ≡ Some x
got_left [] ys i x e = absurd (cc e)
got_left (y ∷ xs) ys zero x e = e
got_left (y ∷ xs) ys (suc i) x e = got_left xs ys i x e

got_last : {A : Type 0} (xs : List A) (x : A) → slice_get (xs ++ x ∷ []) (length xs) ≡ Some x
got_last [] x = refl
got_last (y ∷ xs) x = got_last xs x

-- what stands there is put there again
pub set_got : {A : Type 0} (xs : List A) (i : ℕ) (x : A) → slice_get xs i ≡ Some x → set xs i x ≡ xs
set_got [] i x e = refl
set_got (y ∷ xs) zero x e = ap (λ z. z ∷ xs) (sym (same_Some y x e))
set_got (y ∷ xs) (suc i) x e = ap (λ zs. y ∷ zs) (set_got xs i x e)

-- ---- the core

pub core_at : (chunks : List ChunkData) (core : CoreData) → slice_get (parts_of chunks core) (length chunks) ≡ Some (CorePart core)
core_at chunks core =
    subst (λ n. slice_get (parts_of chunks core) n ≡ Some (CorePart core)) (length-map chunks ChunkPart) (got_last (map ChunkPart chunks) (CorePart core))

pub core_set : (chunks : List ChunkData) (core new : CoreData) → set (parts_of chunks core) (length chunks) (CorePart new) ≡ parts_of chunks new
core_set chunks core new =
    ap (λ n. set (parts_of chunks core) n (CorePart new)) (sym (length-map chunks ChunkPart))
    ∙ set-append_seam (map ChunkPart chunks) (CorePart core) [] (CorePart new)

same_core : (core other : CoreData) → CorePart core ≡ CorePart other → core ≡ other
same_core core other e = cc e

-- a core that stands behind all chunks is the world's
pub core_is : (chunks : List ChunkData) (core other : CoreData) (n : ℕ) → n ≡ length chunks → slice_get (parts_of chunks core) n ≡ Some (CorePart other)
    → other ≡ core
core_is chunks core other n e h =
    same_core other core (same_Some (CorePart other) (CorePart core)
    (sym h ∙ (ap (slice_get (parts_of chunks core)) e ∙ core_at chunks core)))

-- ---- chunks

pub how_many : (chunks : List ChunkData) (core : CoreData) → length (parts_of chunks core) ≡ suc (length chunks)
how_many chunks core = omega (arith, length-append (map ChunkPart chunks) (CorePart core ∷ []), length-map chunks ChunkPart)

pub chunk_at : (chunks : List ChunkData) (core : CoreData) (i : ℕ) (chunk : ChunkData) → slice_get chunks i ≡ Some chunk
    → slice_get (parts_of chunks core) i ≡ Some (ChunkPart chunk)
chunk_at chunks core i chunk e =
    got_left (map ChunkPart chunks) (CorePart core ∷ []) i (ChunkPart chunk) (slice_get-map ChunkPart chunks i ∙ ap (option_map ChunkPart) e)

pub chunk_set : (chunks : List ChunkData) (core : CoreData) (i : ℕ) (new : ChunkData) → i < length chunks
    → set (parts_of chunks core) i (ChunkPart new) ≡ parts_of (set chunks i new) core
chunk_set chunks core i new l =
    let within : i < length (map ChunkPart chunks) = omega (arith, length-map chunks ChunkPart) in
    set-append_left (map ChunkPart chunks) (CorePart core ∷ []) i (ChunkPart new) within
    ∙ ap (λ (parts : List Part). parts ++ CorePart core ∷ []) (sym (map-set ChunkPart chunks i new))
