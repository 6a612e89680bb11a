-- A table that is not refused.
use Rattle.std.specs.Prelude.{slice_set}
use Rattle.std.specs.List.{position, position_from}
use Rattle.std.proofs.Common.{add-one, sym, Option, ◌≡◌, ℕ, zero, suc, [], ◌∷◌, Bool, true, false, ◌||◌, is_some, nat_le, nat_lt, List, length, map, count_by, None, Some, cond, refl, ap, ◌∙◌}
use Rattle.std.proofs.lemmas.Iterator.Adapters.{position_from-zero}
use Rattle.std.proofs.lemmas.List.{length-map}
use Rattle.hy_token.specs.declared.Span.{Span}
use Rattle.hy_schema.specs.declared.AddError.TheVariants.{Duplicate, Limit as TooMany}
use Rattle.hy_schema.specs.Names.{table_number, refusal_of}
use Rattle.hy_ast.specs.declared.ColumnDef.{ColumnDef}
use Rattle.hy_script.specs.declared.sofar.SoFar.{SoFar}
use Rattle.hy_script.specs.declared.codes.Code.TheVariants.{Twice, Limit}
use Rattle.hy_script.specs.Codes.{first_of_two, code_if_so}
use Rattle.hy_script.specs.Refusals.{create_code, name_in, is_key}
use Rattle.hy_bind.specs.Literals.{text_of_span}
use Rattle.hy_bind.specs.Statements.{repeats}
use Rattle.hy_script.specs.Growing.{table_def, column_def, key_from}

neither : (there twice keys many : Bool) → first_of_two (code_if_so (there || twice || keys) Twice) (code_if_so many Limit) ≡ None → cond there (Some Duplicate) (cond many (Some TooMany) None) ≡ None
neither true twice keys true h = absurd cc
neither true twice keys false h = absurd cc
neither false true keys true h = absurd cc
neither false true keys false h = absurd cc
neither false false true true h = absurd cc
neither false false true false h = absurd cc
neither false false false true h = absurd cc
neither false false false false h = refl

-- a table without a cause may be added
pub is_free : (script : List ℕ) (sofar : SoFar) (table : Span) (columns : List ColumnDef) → create_code script sofar table columns ≡ None → refusal_of sofar.catalog (table_def script table columns) ≡ None
is_free script sofar table columns h =
    let there = is_some (table_number sofar.catalog (name_in script table)) in
    let twice = repeats (map (text_of_span script) (map (λ (column : ColumnDef). column.name) columns)) in
    ap (λ (l : ℕ). cond there (Some Duplicate) (cond (nat_le 16 (length sofar.catalog) || nat_lt 32 l) (Some TooMany) None)) (length-map columns (column_def script))
    ∙ neither there twice (nat_lt 1 (count_by is_key columns)) (nat_le 16 (length sofar.catalog) || nat_lt 32 (length columns)) h

-- the first key by its place
key_at_from : (number : ℕ) (columns : List ColumnDef) → key_from number columns ≡ position_from is_key number columns
key_at_from number [] = refl
key_at_from number (column ∷ columns) = ap (λ (rest : Option ℕ). cond column.key (Some number) rest) (key_at_from (suc number) columns ∙ ap (λ (n : ℕ). position_from is_key n columns) (sym (add-one number)))

pub first_key : (columns : List ColumnDef) → key_from 0 columns ≡ position is_key columns
first_key columns = key_at_from 0 columns ∙ sym (position_from-zero is_key columns)

-- of two stocks put at a number the second stays
pub set-set : {A : Type 0} (xs : List A) (i : ℕ) (x y : A) → slice_set (slice_set xs i x) i y ≡ slice_set xs i y
set-set [] zero x y = refl
set-set [] (suc i) x y = refl
set-set (z ∷ zs) zero x y = refl
set-set (z ∷ zs) (suc i) x y = ap (λ ws. z ∷ ws) (set-set zs i x y)
