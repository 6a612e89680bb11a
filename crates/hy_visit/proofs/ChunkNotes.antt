-- The notes of a chunk's positions, out of notes in order: they are in order, and of the chunk.
use Rattle.std.proofs.Common.{◌≡◌, ◌+◌, Bool, true, List, [], ◌∷◌, length, sym, cond, subst, inl, inr}
use Rattle.std.specs.Prelude.{filter}
use Rattle.std.specs.List.{AllByRecursion}
use Rattle.std.specs.declared.cmp.Ordering.TheVariants.{Less}
use Rattle.std.proofs.lemmas.Bool.{cases_Bool}
use Rattle.hy_value.specs.declared.change.Change.{Change}
use Rattle.hy_notes.specs.Notes.{Ascends, is_between, order_of}
use Rattle.hy_undo.specs.Chunks.{ChunkData}
use Rattle.hy_visit.specs.Backing.{AreOfChunk}

-- what holds of each note holds of each that is kept
kept_all : (P : Change → Type 0) (keeps : Change → Bool) (notes : List Change) → AllByRecursion P notes → AllByRecursion P (filter keeps notes)
kept_all P keeps [] all = tt
kept_all P keeps (note ∷ notes) all = elim (cases_Bool (keeps note)) [
  | inl stays ↦ subst (λ (b : Bool). AllByRecursion P (cond b (note ∷ filter keeps notes) (filter keeps notes))) (sym stays)
      (all.0, kept_all P keeps notes all.1)
  | inr goes ↦ subst (λ (b : Bool). AllByRecursion P (cond b (note ∷ filter keeps notes) (filter keeps notes))) (sym goes)
      (kept_all P keeps notes all.1)
]

kept_ascend : (keeps : Change → Bool) (notes : List Change) → Ascends notes → Ascends (filter keeps notes)
kept_ascend keeps [] rises = tt
kept_ascend keeps (note ∷ notes) rises = elim (cases_Bool (keeps note)) [
  | inl stays ↦ subst (λ (b : Bool). Ascends (cond b (note ∷ filter keeps notes) (filter keeps notes))) (sym stays)
      (kept_all (λ (later : Change). order_of note later.table later.pos ≡ Less) keeps notes rises.0, kept_ascend keeps notes rises.1)
  | inr goes ↦ subst (λ (b : Bool). Ascends (cond b (note ∷ filter keeps notes) (filter keeps notes))) (sym goes)
      (kept_ascend keeps notes rises.1)
]

kept_pass : (keeps : Change → Bool) (notes : List Change) → AllByRecursion (λ (note : Change). keeps note ≡ true) (filter keeps notes)
kept_pass keeps [] = tt
kept_pass keeps (note ∷ notes) = elim (cases_Bool (keeps note)) [
  | inl stays ↦ subst (λ (b : Bool). AllByRecursion (λ (n : Change). keeps n ≡ true) (cond b (note ∷ filter keeps notes) (filter keeps notes)))
      (sym stays) (stays, kept_pass keeps notes)
  | inr goes ↦ subst (λ (b : Bool). AllByRecursion (λ (n : Change). keeps n ≡ true) (cond b (note ∷ filter keeps notes) (filter keeps notes)))
      (sym goes) (kept_pass keeps notes)
]

pub chunk_notes : (chunk : ChunkData) (notes : List Change) → Ascends notes
    → AreOfChunk chunk (filter (is_between chunk.table chunk.first (chunk.first + length chunk.places)) notes)
chunk_notes chunk notes rises = record {
  order = kept_ascend (is_between chunk.table chunk.first (chunk.first + length chunk.places)) notes rises;
  within = kept_pass (is_between chunk.table chunk.first (chunk.first + length chunk.places)) notes;
}
