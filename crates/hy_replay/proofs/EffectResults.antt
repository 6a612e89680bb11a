-- An UPDATE or a DELETE over tables that differ only where it selects nothing comes to the same, or is refused alike.
use Rattle.std.proofs.Common.{◌≡◌, ℕ, ◌≤◌, List, [], ◌∷◌, ◌⊎◌, Option, None, Result, get_or, refl, ap, sym, ◌∙◌, inl, inr}
use Rattle.hy_bound.specs.declared.Assign.{Assign}
use Rattle.hy_bound.specs.declared.Shape.{Shape}
use Rattle.hy_bound.specs.declared.WriteKind.{WriteKind}
use Rattle.hy_bound.specs.declared.WriteKind.TheVariants as kind
use Rattle.hy_bound.specs.Condition.{Condition}
use Rattle.hy_bound.specs.Records.{shape_of}
use Rattle.hy_bound.specs.declared.Ending.{Ending}
use Rattle.hy_machine.specs.Positions.{item_at}
use Rattle.hy_machine.specs.Tables.{Cell, Tables}
use Rattle.hy_machine.specs.Visits.{verdict, and_write, sweep}
use Rattle.hy_replay.specs.EffectUnseen.{IsUnselectedAt, ResultsAgain}
use Rattle.hy_replay.specs.Laws.{HaveWidths}
use Rattle.hy_replay.specs.Ran.{writes_at}
use Rattle.hy_replay.proofs.Cells.{HasWidth, width_at}
use Rattle.hy_replay.proofs.Changes.{ShapesFit}
use Rattle.hy_replay.proofs.Hits.{one_missed}
use Rattle.hy_replay.proofs.Runs.{shapes_fit}
use Rattle.hy_replay.proofs.Sweeps.{leaves_alone}
use Rattle.hy_replay.proofs.Truths.{SelectsByRead, write_record, truths_alike}

-- what is said of two cells: they are the same, or nothing is selected
abbrev AlikeOr : ℕ → Shape → ℕ → List Assign → Condition → Cell → Cell → Type 0
AlikeOr number shape table sets pred before after =
    (before ≡ after) ⊎ IsUnselectedAt pred (write_record number shape table sets pred ∷ []) table before after

same_verdict : SelectsByRead → (shape : Shape) (kind : WriteKind) (number table : ℕ) (sets : List Assign) (pred : Condition) (pos : ℕ) → shape.width ≤ 32
    → (before after : Cell) → HasWidth shape.width before → HasWidth shape.width after → AlikeOr number shape table sets pred before after
    → verdict kind pred table pos None after ≡ verdict kind pred table pos None before
same_verdict selects shape kind number table sets pred pos few before after w v (inl same) = ap (verdict kind pred table pos None) (sym same)
same_verdict selects shape kind number table sets pred pos few before after w v (inr apart) =
    leaves_alone kind pred table pos after
    (sym (truths_alike selects number shape table sets pred few before after w v
    (one_missed (write_record number shape table sets pred) table before after refl apart.missed))
    ∙ apart.passed)
    ∙ sym (leaves_alone kind pred table pos before apart.passed)

same_sweep : (table : ℕ) (judge other : ℕ → Result (Option Cell) Ending) → ((pos : ℕ) → judge pos ≡ other pos) → (positions : List ℕ)
    → sweep table judge positions ≡ sweep table other positions
same_sweep table judge other same [] = refl
same_sweep table judge other same (pos ∷ positions) =
    ap (λ (one : Result (Option Cell) Ending). and_write table pos one (sweep table judge positions)) (same pos)
    ∙ ap (and_write table pos (other pos)) (same_sweep table judge other same positions)

same_writes : SelectsByRead → (shapes : List Shape) (tables others : Tables) (number : ℕ) (kind : WriteKind) (table : ℕ) (sets : List Assign)
    (pred : Condition) (positions : List ℕ) → ShapesFit shapes → HaveWidths shapes tables → HaveWidths shapes others
    → ((pos : ℕ) → AlikeOr number (shape_of shapes table) table sets pred (item_at tables table pos) (item_at others table pos))
    → writes_at kind pred others table positions ≡ writes_at kind pred tables table positions
same_writes selects shapes tables others number kind table sets pred positions fit wide also alike =
    let shape : Shape = shape_of shapes table in
    same_sweep table (λ pos. verdict kind pred table pos None (item_at others table pos)) (λ pos. verdict kind pred table pos None (item_at tables table pos))
    (λ pos. same_verdict selects shape kind number table sets pred pos (fit table).1 (item_at tables table pos) (item_at others table pos)
    (width_at shape.width (get_or tables table []) (wide table) pos) (width_at shape.width (get_or others table []) (also table) pos) (alike pos))
    positions

pub results_again : SelectsByRead → ResultsAgain
results_again selects shapes tables others number (kind.Set sets) table pred positions fit wide also alike =
    same_writes selects shapes tables others number (kind.Set sets) table sets pred positions (shapes_fit shapes fit) wide also alike
results_again selects shapes tables others number kind.Delete table pred positions fit wide also alike =
    same_writes selects shapes tables others number kind.Delete table [] pred positions (shapes_fit shapes fit) wide also alike
