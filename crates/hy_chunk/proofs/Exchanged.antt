-- Rows in which a value is put over the same one.
use Rattle.std.proofs.Common.{◌≡◌, ℕ, false, List, [], get_or, refl, sym, ap, ◌∙◌}
use Rattle.std.specs.Prelude.{not}
use Rattle.std.specs.Ordering.{is_eq}
use Rattle.std.specs.declared.cmp.Ordering.{Ordering}
use Rattle.std.specs.declared.cmp.Ordering.TheVariants.{Less, Equal, Greater}
use Rattle.std.proofs.Math.ListN.{set}
use Rattle.std.proofs.lemmas.List.{set-get_or}
use Rattle.hy_value.specs.Order.{value_cmp}
use Rattle.hy_value.specs.TotalOrder.{values_tie}
use Rattle.hy_value.specs.declared.Value.{Value}

-- values that do not differ are one
same_value : (old new : Value) → not (is_eq (value_cmp old new)) ≡ false → old ≡ new
same_value old new e = values_tie old new (by (value_cmp old new) e)
  where
    by : (o : Ordering) → not (is_eq o) ≡ false → o ≡ Equal
    by Less e = cc
    by Equal e = refl
    by Greater e = cc

pub same_rows : (rows : List (List Value)) (place column : ℕ) (new : Value) → not (is_eq (value_cmp (get_or (get_or rows place []) column new) new)) ≡ false
    → rows ≡ set rows place (set (get_or rows place []) column new)
same_rows rows place column new e =
    let row = get_or rows place [] in
    sym (ap (λ (value : Value). set rows place (set row column value)) (sym (same_value (get_or row column new) new e))
    ∙ (ap (set rows place) (set-get_or row column new) ∙ set-get_or rows place []))
