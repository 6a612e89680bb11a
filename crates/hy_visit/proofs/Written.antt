-- What becomes of a chunk in a visit of an UPDATE or a DELETE.
use Rattle.std.proofs.Common.{◌≡◌, ℕ, List, ap, subst}
use Rattle.std.specs.Prelude.{Option, Some, Result, Ok, Err, IfOk, IfErr, OnErr, OnOk, map}
use Rattle.hy_notes.specs.Noted.{Noted}
use Rattle.hy_bound.specs.declared.Assign.{Assign}
use Rattle.hy_bound.specs.Condition.{Condition}
use Rattle.hy_undo.specs.declared.refusal.Refusal.{Refusal}
use Rattle.hy_undo.specs.Chunks.{ChunkData}
use Rattle.hy_chunk.specs.Views.{Whole}
use Rattle.hy_chunk.specs.Writes.{IsDone, notes_with, refusal_in}
use Rattle.hy_event.specs.Writing.{cells_by}
use Rattle.hy_visit.specs.declared.writing.Writer.{Writer}
use Rattle.hy_event.specs.Changing.{PrunesFirst}
use Rattle.hy_visit.specs.Writing.{WriteDone}
use Rattle.hy_visit.proofs.Noted.{ComesTo, done_so, refused_so}

module _ (writer : Writer) (sets : Option (List Assign)) (pred : Condition) (between new : Whole) (notes now : Noted) where
  -- what a write of the chunk promises is what becomes of it
  pub comes_to : (answer : Result ℕ Refusal) → new.shown ≡ record between.shown { places = new.shown.places }
      → IfOk answer (λ count. IsDone writer.viewer writer.label between.shown.table between.shown.first (cells_by sets pred writer.viewer between.shown)
      between.shown.places new.shown.places notes.notes now.notes count)
      → OnOk answer (now.levels ≡ map (notes_with between.shown.table between.shown.first writer.viewer (cells_by sets pred writer.viewer between.shown)
      between.shown.places) notes.levels)
      → IfErr answer (λ refusal. Some refusal ≡ refusal_in (cells_by sets pred writer.viewer between.shown))
      → OnErr answer ((new ≡ between) × (now ≡ notes))
      → ComesTo writer.viewer writer.label between.shown.table (cells_by sets pred writer.viewer between.shown) between.shown notes.notes notes.levels answer
      new.shown now.notes now.levels
  comes_to (Ok count) others done in_levels refused kept =
      done_so writer.viewer writer.label between.shown.table (cells_by sets pred writer.viewer between.shown) between.shown notes.notes notes.levels count
      new.shown now.notes now.levels others done in_levels
  comes_to (Err refusal) others done in_levels refused kept =
      refused_so writer.viewer writer.label between.shown.table (cells_by sets pred writer.viewer between.shown) between.shown notes.notes notes.levels refusal
      new.shown now.notes now.levels refused
      (ap (λ (w : Whole). w.shown) kept.0) (ap (λ (n : Noted). n.notes) kept.1) (ap (λ (n : Noted). n.levels) kept.1)

  -- with the pruning before it, that is a visit
  pub write_done : (old : ChunkData) (answer : Result ℕ Refusal) → PrunesFirst writer.prunes writer.cover.now old between.shown → between.shown.table ≡ old.table
      → ComesTo writer.viewer writer.label between.shown.table (cells_by sets pred writer.viewer between.shown) between.shown notes.notes notes.levels answer
      new.shown now.notes now.levels
      → WriteDone writer sets pred old notes.notes notes.levels answer new.shown now.notes now.levels
  write_done old answer pruned same here =
      let there = subst (λ (t : ℕ). ComesTo writer.viewer writer.label t (cells_by sets pred writer.viewer between.shown) between.shown notes.notes
      notes.levels answer new.shown now.notes now.levels) same here in
      record { between = between.shown; prunes = pruned; chunk = there.chunk; told = there.told; noted = there.noted; in_each = there.in_each }
