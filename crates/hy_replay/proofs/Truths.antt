-- A change that doesn't hit the record of a condition leaves whether it is true.
use Rattle.std.proofs.Common.{◌≡◌, ℕ, ◌≤◌, List, [], ◌∷◌, None, Some, Bool, true, false, refl, ap, sym, ◌∙◌, inl, inr}
use Rattle.std.specs.Prelude.{◌&&◌, ◌||◌}
use Rattle.std.proofs.lemmas.Bool.{cases_Bool}
use Rattle.hy_value.specs.declared.Value.{Value}
use Rattle.hy_bound.specs.declared.Assign.{Assign}
use Rattle.hy_bound.specs.declared.Record.{Record}
use Rattle.hy_bound.specs.declared.Shape.{Shape}
use Rattle.hy_bound.specs.Agreement.{FitTable}
use Rattle.hy_bound.specs.Condition.{Condition}
use Rattle.hy_bound.specs.Masks.{masked_alike}
use Rattle.hy_bound.specs.Predicate.{truth_of, truth_at, differ_from}
use Rattle.hy_bound.specs.Projection.{masked}
use Rattle.hy_bound.specs.Records.{is_hit}
use Rattle.hy_plan.specs.Reads.{write_read_of}
use Rattle.hy_machine.specs.Tables.{Cell}
use Rattle.hy_replay.proofs.Cells.{HasWidth}

-- whether a row is selected depends only on the columns of the record
abbrev pub SelectsByRead : Type 0
SelectsByRead = (shape : Shape) (table : ℕ) (sets : List Assign) (pred : Condition) (row : List Value) → FitTable shape (row ∷ [])
    → truth_of pred (masked (write_read_of shape table sets pred).columns row) ≡ truth_of pred row

-- the record of a statement that sets these where a condition is true
abbrev pub write_record : ℕ → Shape → ℕ → List Assign → Condition → Record
write_record number shape table sets pred =
    record { statement = number; table = table; pred = pred; columns = (write_read_of shape table sets pred).columns }

first_fails : (a b c : Bool) → ((a || b) && c) ≡ false → c ≡ true → a ≡ false
first_fails true b c h e = cc
first_fails false b c h e = refl

second_fails : (a b c : Bool) → ((a || b) && c) ≡ false → c ≡ true → b ≡ false
second_fails true true c h e = cc
second_fails true false c h e = refl
second_fails false true c h e = cc
second_fails false false c h e = refl

pub truths_alike : SelectsByRead → (number : ℕ) (shape : Shape) (table : ℕ) (sets : List Assign) (pred : Condition) → shape.width ≤ 32 → (before after : Cell)
    → HasWidth shape.width before → HasWidth shape.width after → is_hit (write_record number shape table sets pred) before after ≡ false
    → truth_at pred before ≡ truth_at pred after
truths_alike selects number shape table sets pred few None None w v h = refl
truths_alike selects number shape table sets pred few None (Some other) w v h = sym (second_fails false (truth_of pred other) true h refl)
truths_alike selects number shape table sets pred few (Some row) None w v h = first_fails (truth_of pred row) false true h refl
truths_alike selects number shape table sets pred few (Some row) (Some other) w v h =
    let mask = (write_read_of shape table sets pred).columns in
    elim (cases_Bool (differ_from mask 0 row other)) [
      | inl t ↦ first_fails (truth_of pred row) (truth_of pred other) (differ_from mask 0 row other) h t
          ∙ sym (second_fails (truth_of pred row) (truth_of pred other) (differ_from mask 0 row other) h t)
      | inr f ↦ sym (selects shape table sets pred row (few, (w, tt)))
          ∙ (ap (truth_of pred) (masked_alike mask row other (w ∙ sym v) f)
          ∙ selects shape table sets pred other (few, (v, tt)))
    ]
