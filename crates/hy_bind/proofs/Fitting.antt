-- The values of an INSERT beside the columns, one after the other.
use Rattle.std.proofs.Common.{◌≡◌, ℕ, suc, ◌+◌, ◌-◌, ◌<◌, List, [], ◌∷◌, length, get_or, drop, refl, sym, ap, ◌∙◌, inl, inr, arith, length-drop}
use Rattle.std.specs.Prelude.{nat_lt}
use Rattle.std.proofs.lemmas.Bool.{cases_lt, lt-ltb, le-ltb}
use Rattle.std.proofs.lemmas.List.{at_drop_all}
use Rattle.hy_schema.specs.declared.Column.{Column}
use Rattle.hy_ast.specs.declared.Literal.{Literal}
use Rattle.hy_bind.specs.declared.refusals.BindFault.TheVariants as fault
use Rattle.hy_bind.specs.Refusals.{first_of, fault_if}
use Rattle.hy_bind.specs.Statements.{value_fault, values_fault}
use Rattle.hy_bind.proofs.Firsts.{drop_next}

-- from a column and a value on, that value's refusal and those of the rest
pub values_next : (script : List ℕ) (columns : List Column) (values : List Literal) (i : ℕ) (column : Column) (value : Literal)
    → i < length columns → column ≡ get_or columns i column → i < length values → value ≡ get_or values i value
    → values_fault script (drop i columns) (drop i values) ≡ first_of (value_fault script column value) (values_fault script (drop (i + 1) columns) (drop (i + 1) values))
values_next script columns values i column value within is within_values is_value =
    ap (λ cs. values_fault script cs (drop i values)) (drop_next columns i column within is)
    ∙ ap (values_fault script (column ∷ drop (i + 1) columns)) (drop_next values i value within_values is_value)

no_columns_left : (script : List ℕ) (values : List Literal) → values_fault script [] values ≡ fault_if (nat_lt 0 (length values)) fault.WrongType
no_columns_left script [] = refl
no_columns_left script (value ∷ values) = ap (λ b. fault_if b fault.WrongType) (sym (lt-ltb 0 (suc (length values)) (omega arith)))

is_left : (n m : ℕ) → nat_lt 0 (m - n) ≡ nat_lt n m
is_left n m =
    elim (cases_lt n m) [
      | inl h ↦ lt-ltb 0 (m - n) (omega arith) ∙ sym (lt-ltb n m h)
      | inr h ↦ le-ltb 0 (m - n) (omega arith) ∙ sym (le-ltb n m h)
    ]

-- behind the last column, values that are left don't fit
pub values_left : (script : List ℕ) (columns : List Column) (values : List Literal) (i : ℕ) → i ≡ length columns
    → values_fault script (drop i columns) (drop i values) ≡ fault_if (nat_lt (length columns) (length values)) fault.WrongType
values_left script columns values i is =
    at_drop_all (λ (cs : List Column). values_fault script cs (drop i values)) columns i (omega arith)
    ∙ no_columns_left script (drop i values)
    ∙ ap (λ n. fault_if (nat_lt 0 n) fault.WrongType) (length-drop i values)
    ∙ ap (λ b. fault_if b fault.WrongType) (is_left i (length values))
    ∙ ap (λ n. fault_if (nat_lt n (length values)) fault.WrongType) is
