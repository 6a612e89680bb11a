-- What one more visit gathers, for a plan whose look-ups are by columns of earlier parts.
use Rattle.std.proofs.Common.{◌≡◌, ℕ, suc, ◌+◌, ◌*◌, ◌<◌, List, [], ◌++◌, length, map, get_or, Some, sym, ap, ◌∙◌, arith}
use Rattle.std.proofs.lemmas.List.{append-nil}
use Rattle.std.specs.Prelude.{slice_get, filter}
use Rattle.hy_stamp.specs.declared.Viewer.{Viewer}
use Rattle.hy_bound.specs.Changes.{present}
use Rattle.hy_bound.specs.Condition.{Condition}
use Rattle.hy_bound.specs.Projection.{projected}
use Rattle.hy_meaning.specs.Statement.{Table}
use Rattle.hy_plan.specs.declared.PlanPart.{PlanPart}
use Rattle.hy_plan.specs.Reads.{is_read_of}
use Rattle.hy_gathered.specs.Answers.{spread_all}
use Rattle.hy_undo.specs.Places.{Place, Cell}
use Rattle.hy_undo.specs.Chunks.{rows_seen}
use Rattle.hy_event.specs.Gathering.{with_rows, joined_columns, conditions_by, rows_gathered}
use Rattle.hy_machine.specs.declared.Setting.{Setting}
use Rattle.hy_machine.specs.Tables.{Tables}
use Rattle.hy_refinement.specs.Sessions.{rows_taken, tables_taken}
use Rattle.hy_refinement.proofs.FramesCells.{chunk_cells, read_more}
use Rattle.hy_refinement.proofs.FramesGathers.{one_more}
use Rattle.hy_refinement.proofs.FramesColumns.{AreLookedUpEarlier, conditions_same}

module _ (setting : Setting) (tables : Tables) (parts : List PlanPart) (turn chunk : ℕ) (part : PlanPart) (viewer : Viewer) (places : List Place)
    (early : AreLookedUpEarlier parts) (below : chunk < setting.chunks) (is_part : slice_get parts turn ≡ Some part)
    (seen : rows_seen viewer places ≡ chunk_cells setting chunk (get_or tables part.table [])) where
  abbrev taken : ℕ → List Table
  taken left = tables_taken setting tables parts left [] parts

  abbrev before : List Table
  before = taken (turn * setting.chunks + chunk)

  abbrev asked : List Table → List Condition
  asked gathered = conditions_by part.pred part.lookup (joined_columns parts (spread_all parts gathered))

  abbrev more_rows : List Table → Table
  more_rows gathered = rows_gathered viewer part (asked gathered) places

  next_rows : (earlier more : List Table) → length earlier ≡ 0 + turn → before ≡ earlier ++ more
      → rows_taken setting tables parts (suc chunk) earlier part ≡ rows_taken setting tables parts chunk earlier part ++ more_rows before
  next_rows earlier more long is =
      let at : slice_get parts (length earlier) ≡ Some part = ap (slice_get parts) (let e : length earlier ≡ turn = omega (arith, long) in e) ∙ is_part in
      let same : asked earlier ≡ asked before =
      conditions_same parts earlier [] earlier part early at (sym (append-nil earlier)) ∙ sym (conditions_same parts earlier more before part early at is) in
      read_more setting chunk (get_or tables part.table []) (is_read_of (asked earlier)) (projected part.columns)
      ∙ (ap (λ (conditions : List Condition). rows_taken setting tables parts chunk earlier part
      ++ map (projected part.columns) (filter (is_read_of conditions) (present (chunk_cells setting chunk (get_or tables part.table []))))) same
      ∙ ap (λ (cells : List Cell). rows_taken setting tables parts chunk earlier part
      ++ map (projected part.columns) (filter (is_read_of (asked before)) (present cells))) (sym seen))

  -- what was gathered of the visited chunks, and what this one gives, is what is gathered then
  pub gathers_more : (left : ℕ) (gathered : List Table) → left ≡ turn * setting.chunks + chunk → gathered ≡ taken left
      → with_rows turn (more_rows gathered) gathered ≡ taken (suc left)
  gathers_more left gathered count is =
      ap (λ (all : List Table). with_rows turn (more_rows all) all) (is ∙ ap taken count)
      ∙ (ap (λ (n : ℕ). with_rows n (more_rows before) before) (let e : turn ≡ 0 + turn = omega arith in e)
      ∙ (one_more setting tables parts [] parts turn chunk part (more_rows before) below is_part next_rows
      ∙ ap (λ (n : ℕ). taken (suc n)) (sym count)))
