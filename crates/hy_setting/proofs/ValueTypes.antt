-- Values that binding does not refuse are of their columns' types.
use Rattle.std.specs.Prelude.{nat_le, not}
use Rattle.std.proofs.Common.{◌≡◌, ℕ, ℤ, Bool, true, false, cond, List, [], ◌∷◌, Option, None, Some, is_some, map, refl, sym, subst}
use Rattle.hy_value.specs.declared.Kind.{Kind}
use Rattle.hy_value.specs.declared.Kind.TheVariants.{Int, Str}
use Rattle.hy_value.specs.declared.Value.{Value}
use Rattle.hy_value.specs.declared.Value.TheVariants as values
use Rattle.hy_schema.specs.declared.Column.{Column}
use Rattle.hy_ast.specs.declared.Literal.{Literal}
use Rattle.hy_ast.specs.declared.Literal.TheVariants.{Null, Integer, Text}
use Rattle.hy_column.specs.Cells.{FitsKind}
use Rattle.hy_chunk.specs.Sound.{FitsRow}
use Rattle.hy_bind.specs.declared.refusals.BindFault.{BindFault}
use Rattle.hy_bind.specs.Literals.{text_of_span, number_of, integer_of, integer_value, literal_kind, literal_fault, literal_value}
use Rattle.hy_bind.specs.Refusals.{rank, first_of, fault_if, agree}
use Rattle.hy_bind.specs.Statements.{value_fault, values_fault}
use Rattle.hy_setting.proofs.CatalogTypes.{kinds_in}

-- ---- refusals

never : (b : Bool) (x y : BindFault) → cond b (Some x) (Some y) ≡ None → ⊥
never true x y h = absurd cc
never false x y h = absurd cc

-- of two refusals neither
pub neither : (one other : Option BindFault) → first_of one other ≡ None → (one ≡ None) × (other ≡ None)
neither None other h = (refl, h)
neither (Some x) None h = absurd cc
neither (Some x) (Some y) h = absurd (never (nat_le (rank x) (rank y)) x y h)

-- what would be refused if it were not so is so
pub so : (is : Bool) (x : BindFault) → fault_if (not is) x ≡ None → is ≡ true
so true x h = refl
so false x h = absurd cc

-- what would be refused if it were so is not so
pub not_so : (is : Bool) (x : BindFault) → fault_if is x ≡ None → is ≡ false
not_so true x h = absurd cc
not_so false x h = refl

-- ---- values

-- a value is of a type, or NULL; without a type it is NULL
abbrev pub IsOf : Option Kind → Value → Type 0
IsOf None value = value ≡ values.Null
IsOf (Some kind) value = FitsKind kind value

null_fits : (kind : Kind) → FitsKind kind values.Null
null_fits Int = tt
null_fits Str = tt

-- where its type agrees with a column's it may stand there
pub agrees : (one : Option Kind) (kind : Kind) (value : Value) → agree one (Some kind) ≡ true → IsOf one value → FitsKind kind value
agrees None kind value h is = subst (FitsKind kind) (sym is) (null_fits kind)
agrees (Some Int) Int value h is = is
agrees (Some Int) Str value h is = absurd cc
agrees (Some Str) Int value h is = absurd cc
agrees (Some Str) Str value h is = is

integer_fits : (number : Option ℤ) → FitsKind Int (integer_value number)
integer_fits None = tt
integer_fits (Some n) = tt

-- a literal is of its type
pub literal_is : (script : List ℕ) (literal : Literal) → IsOf (literal_kind literal) (literal_value script literal)
literal_is script (Null span) = refl
literal_is script (Integer minus digits) = integer_fits (integer_of (is_some minus) (number_of (text_of_span script digits)))
literal_is script (Text span) = tt

value_typed : (script : List ℕ) (column : Column) (value : Literal) → value_fault script column value ≡ None → FitsKind column.kind (literal_value script value)
value_typed script column value h =
    agrees (literal_kind value) column.kind (literal_value script value) (so _ _ (neither (literal_fault script value) _ h).1) (literal_is script value)

-- values that are not refused are of the columns' types
pub row_typed : (script : List ℕ) (columns : List Column) (row : List Literal) → values_fault script columns row ≡ None
    → FitsRow (kinds_in columns) (map (literal_value script) row)
row_typed script [] [] h = tt
row_typed script [] (value ∷ row) h = absurd cc
row_typed script (column ∷ columns) [] h = absurd cc
row_typed script (column ∷ columns) (value ∷ row) h =
    let parts = neither (value_fault script column value) (values_fault script columns row) h in
    (value_typed script column value parts.0, row_typed script columns row parts.1)
