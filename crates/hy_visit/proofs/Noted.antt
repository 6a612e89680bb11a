-- What an UPDATE or a DELETE notes and tells, as a session has it.
use Rattle.std.proofs.Common.{◌≡◌, ℕ, suc, List, [], ◌∷◌, None, Some, length, map, refl, sym, ap, ◌∙◌, arith}
use Rattle.std.specs.Prelude.{Option, Result, Ok, Err, count_by, is_some, cond}
use Rattle.std.proofs.lemmas.List.{map-id}
use Rattle.std.proofs.lemmas.List.Sums.{sum_by-cons}
use Rattle.std.proofs.lemmas.Option.{none-some, same_Some}
use Rattle.hy_stamp.specs.declared.Label.{Label}
use Rattle.hy_stamp.specs.declared.Viewer.{Viewer}
use Rattle.hy_value.specs.declared.change.Change.{Change}
use Rattle.hy_notes.specs.Notes.{with_note}
use Rattle.hy_undo.specs.declared.refusal.Refusal.{Refusal}
use Rattle.hy_undo.specs.Places.{Place, Cell, sees}
use Rattle.hy_undo.specs.Chunks.{ChunkData}
use Rattle.hy_undo.specs.Sweeps.{AllWritten}
use Rattle.hy_chunk.specs.Writes.{IsDone, all_noted, notes_with, refusal_in}
use Rattle.hy_event.specs.Changing.{changes_from}
use Rattle.hy_event.specs.Turns.{with_notes}
use Rattle.hy_event.specs.Writing.{Becomes, changes_by}
use Rattle.hy_visit.specs.Writing.{counted, noted_after}

-- notes made one by one are the notes with all changes
pub noted_each : (table pos : ℕ) (viewer : Viewer) (cells : List (Option Cell)) (places : List Place) (notes : List Change)
    → all_noted table pos viewer cells places notes ≡ with_notes notes (changes_from table pos viewer cells places)
noted_each table pos viewer [] places notes = refl
noted_each table pos viewer (cell ∷ cells) [] notes = refl
noted_each table pos viewer (None ∷ cells) (place ∷ places) notes = noted_each table (suc pos) viewer cells places notes
noted_each table pos viewer (Some cell ∷ cells) (place ∷ places) notes =
    noted_each table (suc pos) viewer cells places (with_note (record { table = table; pos = pos; before = sees viewer place; after = cell }) notes)

-- a position that is written is a change
pub counted_each : (table pos : ℕ) (viewer : Viewer) (label : Label) (cells : List (Option Cell)) (olds news : List Place)
    → AllWritten viewer label cells olds news
    → count_by is_some cells ≡ length (changes_from table pos viewer cells olds)
counted_each table pos viewer label [] [] [] written = refl
counted_each table pos viewer label [] [] (new ∷ news) written = absurd written
counted_each table pos viewer label [] (old ∷ olds) news written = absurd written
counted_each table pos viewer label (None ∷ cells) [] news written = absurd written
counted_each table pos viewer label (Some cell ∷ cells) [] news written = absurd written
counted_each table pos viewer label (None ∷ cells) (old ∷ olds) [] written = absurd written
counted_each table pos viewer label (Some cell ∷ cells) (old ∷ olds) [] written = absurd written
counted_each table pos viewer label (None ∷ cells) (old ∷ olds) (new ∷ news) written =
    let first : count_by is_some (None ∷ cells) ≡ count_by is_some cells = omega (arith, sum_by-cons (λ (c : Option Cell). cond (is_some c) 1 0) None cells) in
    let rest = counted_each table (suc pos) viewer label cells olds news written.1 in
    omega (arith, first, rest)
counted_each table pos viewer label (Some cell ∷ cells) (old ∷ olds) (new ∷ news) written =
    let first : count_by is_some (Some cell ∷ cells) ≡ suc (count_by is_some cells) = omega
    (arith, sum_by-cons (λ (c : Option Cell). cond (is_some c) 1 0) (Some cell) cells) in
    let rest = counted_each table (suc pos) viewer label cells olds news written.1 in
    omega (arith, first, rest)

-- what becomes of a chunk, what is told of it, and the notes after it
pub record ComesTo (viewer : Viewer) (label : Label) (table : ℕ) (cells : Result (List (Option Cell)) Refusal) (old : ChunkData) (notes : List Change)
    (levels : List (List Change)) (answer : Result ℕ Refusal) (new : ChunkData) (now : List Change) (later : List (List Change)) : Type 0 where
  pub chunk : Becomes viewer label cells old new
  pub told : answer ≡ counted (changes_by table viewer old cells)
  pub noted : now ≡ noted_after notes (changes_by table viewer old cells)
  pub in_each : later ≡ map (λ since. noted_after since (changes_by table viewer old cells)) levels

abbrev answered : ℕ → Result ℕ Refusal
answered count = Ok count

abbrev failed : Refusal → Result ℕ Refusal
failed refusal = Err refusal

pub done_so : (viewer : Viewer) (label : Label) (table : ℕ) (cells : Result (List (Option Cell)) Refusal) (old : ChunkData) (notes : List Change)
    (levels : List (List Change)) (count : ℕ) (new : ChunkData) (now : List Change) (later : List (List Change)) → new ≡ record old { places = new.places }
    → IsDone viewer label table old.first cells old.places new.places notes now count → later ≡ map (notes_with table old.first viewer cells old.places) levels
    → ComesTo viewer label table cells old notes levels (Ok count) new now later
done_so viewer label table (Err refusal) old notes levels count new now later others done in_levels = absurd done
done_so viewer label table (Ok cells) old notes levels count new now later others done in_levels = record {
  chunk = record { places = done.written; others = others };
  told = ap answered (done.counted ∙ counted_each table old.first viewer label cells old.places new.places done.written);
  noted = done.noted ∙ noted_each table old.first viewer cells old.places notes;
  in_each = in_levels ∙ (λ i. map (λ (since : List Change). noted_each table old.first viewer cells old.places since i) levels);
}

pub refused_so : (viewer : Viewer) (label : Label) (table : ℕ) (cells : Result (List (Option Cell)) Refusal) (old : ChunkData) (notes : List Change)
    (levels : List (List Change)) (refusal : Refusal) (new : ChunkData) (now : List Change) (later : List (List Change)) → Some refusal ≡ refusal_in cells
    → new ≡ old → now ≡ notes → later ≡ levels → ComesTo viewer label table cells old notes levels (Err refusal) new now later
refused_so viewer label table (Ok cells) old notes levels refusal new now later is chunk kept kept_levels = absurd (none-some refusal (sym is))
refused_so viewer label table (Err other) old notes levels refusal new now later is chunk kept kept_levels = record {
  chunk = chunk;
  told = ap failed (same_Some refusal other is);
  noted = kept;
  in_each = kept_levels ∙ sym (map-id levels);
}
