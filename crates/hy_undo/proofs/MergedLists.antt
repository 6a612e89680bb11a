-- Lists of noted values, merged column by column.
use Rattle.std.proofs.Common.{◌≡◌, ℕ, ◌<◌, ◌≤◌, List, length, get_or, Option, None, Some, sym, ap, ◌∙◌, inl, inr, arith}
use Rattle.std.proofs.lemmas.Bool.{cases_lt}
use Rattle.std.proofs.lemmas.List.{ext_get_or, get_or_past}
use Rattle.hy_value.specs.declared.Value.{Value}
use Rattle.hy_undo.specs.Images.{older_or, with_older}
use Rattle.hy_undo.proofs.Putting.{with_older-at, length-with_older_more, length-with_older_fewer}

-- a list that is the merged one as far as a column, and the older one behind it
pub filled : (newer older made : List (Option Value)) (column : ℕ) → length newer ≤ length older → length made ≡ length older → length newer ≤ column
    → ((k : ℕ) → k < column → get_or made k None ≡ older_or (get_or newer k None) (get_or older k None)) → ((k : ℕ) → column ≤ k → get_or made k None ≡ get_or older k None)
    → made ≡ with_older newer older
filled newer older made column le size end done rest =
    ext_get_or None made (with_older newer older) (size ∙ sym (length-with_older_more newer older le)) (λ k l.
    elim (cases_lt k column) [
      | inl less ↦ done k less ∙ sym (with_older-at newer older k)
      | inr more ↦
          let none : get_or newer k None ≡ None = get_or_past newer k None (omega arith) in
          rest k more ∙ sym (with_older-at newer older k ∙ (ap (λ (o : Option Value). older_or o (get_or older k None)) none ∙ own (get_or older k None)))
    ])
  where
    own : (o : Option Value) → older_or None o ≡ o
    own None = λ i. None
    own (Some v) = λ i. Some v

pub covered : (newer older made : List (Option Value)) (column : ℕ) → length older ≤ length newer → length made ≡ length newer → length older ≤ column
    → ((k : ℕ) → k < column → get_or made k None ≡ older_or (get_or newer k None) (get_or older k None)) → ((k : ℕ) → column ≤ k → get_or made k None ≡ get_or newer k None)
    → made ≡ with_older newer older
covered newer older made column le size end done rest =
    ext_get_or None made (with_older newer older) (size ∙ sym (length-with_older_fewer newer older le)) (λ k l.
    elim (cases_lt k column) [
      | inl less ↦ done k less ∙ sym (with_older-at newer older k)
      | inr more ↦
          let none : get_or older k None ≡ None = get_or_past older k None (omega arith) in
          rest k more ∙ sym (with_older-at newer older k ∙ ap (older_or (get_or newer k None)) none)
    ])
