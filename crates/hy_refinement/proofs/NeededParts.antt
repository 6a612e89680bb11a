-- What a session needs next: its transaction is the machine's, and the part is a chunk of a table or the core.
use Rattle.std.proofs.Common.{◌≡◌, ℕ, ◌+◌, ◌*◌, ◌<◌, ◌≤◌, List, length, Some, refl, sym, ap, ◌∙◌, arith, inl, inr}
use Rattle.std.specs.Prelude.{slice_get}
use Rattle.std.proofs.Math.Nat.{mul-le-mul_right}
use Rattle.std.proofs.lemmas.Bool.{cases_lt, cases_eq}
use Rattle.std.proofs.lemmas.Option.{same_Some, slice_get_within}
use Rattle.hy_bound.specs.declared.Txn.{Txn}
use Rattle.hy_render.specs.declared.TxnOutcome.{TxnOutcome}
use Rattle.hy_journal.specs.declared.CoreData.{CoreData}
use Rattle.hy_undo.specs.Chunks.{ChunkData}
use Rattle.hy_event.specs.declared.SessionData.{SessionData}
use Rattle.hy_event.specs.declared.Need.{Need}
use Rattle.hy_event.specs.declared.Need.TheVariants.{Core, Chunk, Done}
use Rattle.hy_protocol.specs.declared.Progress.{Progress}
use Rattle.hy_event.specs.Sessions.{txn_at as txn_here}
use Rattle.hy_event.specs.Needs.{need_of}
use Rattle.hy_event.specs.CoreTurns.{CoreEvent}
use Rattle.hy_event.specs.Events.{Part, ChunkPart, CorePart, part_number, NeededVisit, ChunkEvent}
use Rattle.hy_machine.specs.declared.Setting.{Setting}
use Rattle.hy_machine.specs.States.{State}
use Rattle.hy_machine.specs.Sessions.{session_at, txn_at}
use Rattle.hy_refinement.specs.Parts.{IsChunkPart, PartsAre}
use Rattle.hy_refinement.specs.Sessions.{SessionShows}
use Rattle.hy_refinement.proofs.Holders.{outcomes_length}

-- ---- the transaction

-- a session is at the machine's transaction
pub same_txn : (setting : Setting) (state : State) (core : CoreData) (number : ℕ) (session : SessionData) → SessionShows setting state core number session
    → txn_here session ≡ txn_at setting number (session_at state number)
same_txn setting state core number session shows =
    let ended : length session.done ≡ length (session_at state number).done =
    ap (λ (done : List TxnOutcome). length done) shows.done_shows ∙ outcomes_length setting number 0 (session_at state number).done in
    ap (λ (n : ℕ). slice_get session.program n) ended
    ∙ ap (λ (program : List Txn). slice_get program (length (session_at state number).done)) shows.session_is.program

-- ---- parts

-- what tells a chunk from the core
abbrev is_chunk : Part → ℕ
is_chunk (ChunkPart part) = 1
is_chunk (CorePart core) = 0

-- a part that is a chunk stands before the core
before_core : (setting : Setting) (parts : List Part) (core : CoreData) (part : ℕ) (old : ChunkData) → PartsAre setting parts core
    → slice_get parts part ≡ Some (ChunkPart old) → part < length setting.shapes * setting.chunks
before_core setting parts core part old are found = elim (cases_lt part (length setting.shapes * setting.chunks)) [
  | inl less ↦ less
  | inr more ↦
      let count = are.count in
      let within = slice_get_within parts part (ChunkPart old) found in
      let last : part ≡ length setting.shapes * setting.chunks = omega (arith, count, within, more) in
      let twice : Some (ChunkPart old) ≡ Some (CorePart core) =
      sym found ∙ (ap (λ (n : ℕ). slice_get parts n) last ∙ are.core_last) in
      absurd (let e : 1 ≡ 0 = ap is_chunk (same_Some (ChunkPart old) (CorePart core) twice) in cc)
]

-- so there are chunks
pub some_chunks : (setting : Setting) (parts : List Part) (core : CoreData) (part : ℕ) (old : ChunkData) → PartsAre setting parts core
    → slice_get parts part ≡ Some (ChunkPart old) → 0 < setting.chunks
some_chunks setting parts core part old are found = elim (cases_eq setting.chunks 0) [
  | inr some ↦ omega (arith, some)
  | inl none ↦
      let less = before_core setting parts core part old are found in
      let product : length setting.shapes * setting.chunks ≡ length setting.shapes * 0 = ap (λ (n : ℕ). length setting.shapes * n) none in
      absurd (omega (arith, less, product))
]

table_below : (tables table chunks chunk : ℕ) → table * chunks + chunk < tables * chunks → table < tables
table_below tables table chunks chunk less = elim (cases_lt table tables) [
  | inl below ↦ below
  | inr past ↦
      let more : tables * chunks ≤ table * chunks = mul-le-mul_right chunks past in
      absurd (omega (arith, less, more))
]

-- a part of the number of a chunk that is one is that chunk
pub chunk_part : (setting : Setting) (parts : List Part) (core : CoreData) (table chunk : ℕ) (old : ChunkData) → PartsAre setting parts core
    → chunk < setting.chunks → slice_get parts (table * setting.chunks + chunk) ≡ Some (ChunkPart old) → IsChunkPart setting parts table chunk old
chunk_part setting parts core table chunk old are below found = record {
  table_below = table_below (length setting.shapes) table setting.chunks chunk
      (before_core setting parts core (table * setting.chunks + chunk) old are found);
  chunk_below = below;
  found = found;
}

-- ---- the need

-- a visit is of a chunk, or of the core
pub data Visited (session : SessionData) (part : ℕ) (progress : Progress) (after : SessionData) : Part → Part → Type 0 where
  of_chunk : (table chunk : ℕ) (old new : ChunkData) → need_of session ≡ Chunk table chunk → part ≡ table * session.chunks + chunk
      → ChunkEvent session old progress after new → Visited session part progress after (ChunkPart old) (ChunkPart new)
  of_core : (old new : CoreData) → need_of session ≡ Core → part ≡ length session.shapes * session.chunks
      → CoreEvent session old progress after new → Visited session part progress after (CorePart old) (CorePart new)

pub visited_cases : (session : SessionData) (part : ℕ) (progress : Progress) (after : SessionData) (old new : Part)
    → part_number session (need_of session) ≡ Some part → NeededVisit (need_of session) session old progress after new
    → Visited session part progress after old new
visited_cases session part progress after old new needed visit = by_need (need_of session) refl needed old new visit
  where
    by_need : (need : Need) → need_of session ≡ need → part_number session need ≡ Some part → (old new : Part)
        → NeededVisit need session old progress after new → Visited session part progress after old new
    by_need Core is number (CorePart old) (CorePart new) visit =
        of_core old new is (sym (same_Some (length session.shapes * session.chunks) part number)) visit
    by_need Core is number (CorePart old) (ChunkPart new) visit = absurd visit
    by_need Core is number (ChunkPart old) new visit = absurd visit
    by_need (Chunk table chunk) is number (ChunkPart old) (ChunkPart new) visit =
        of_chunk table chunk old new is (sym (same_Some (table * session.chunks + chunk) part number)) visit
    by_need (Chunk table chunk) is number (ChunkPart old) (CorePart new) visit = absurd visit
    by_need (Chunk table chunk) is number (CorePart old) new visit = absurd visit
    by_need Done is number old new visit = absurd visit

-- what a need of a chunk names
abbrev pub chunk_named : Need → ℕ × ℕ
chunk_named Core = (0, 0)
chunk_named (Chunk table chunk) = (table, chunk)
chunk_named Done = (0, 0)

pub same_chunk : (table chunk other another : ℕ) → Chunk table chunk ≡ Chunk other another → (table ≡ other) × (chunk ≡ another)
same_chunk table chunk other another e = (ap (λ need. (chunk_named need).0) e, ap (λ need. (chunk_named need).1) e)

-- a need is of a chunk, or it isn't
abbrev kind_of_need : Need → ℕ
kind_of_need Core = 0
kind_of_need (Chunk table chunk) = 1
kind_of_need Done = 2

pub core_is_no_chunk : (table chunk : ℕ) → Core ≡ Chunk table chunk → ⊥
core_is_no_chunk table chunk e = absurd (let f : 0 ≡ 1 = ap kind_of_need e in cc)

pub chunk_is_no_core : (table chunk : ℕ) → Chunk table chunk ≡ Core → ⊥
chunk_is_no_core table chunk e = absurd (let f : 1 ≡ 0 = ap kind_of_need e in cc)

pub done_is_no_core : Done ≡ Core → ⊥
done_is_no_core e = absurd (let f : 2 ≡ 0 = ap kind_of_need e in cc)
