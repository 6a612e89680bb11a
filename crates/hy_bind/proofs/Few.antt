-- A name comes twice only among two or more.
use Rattle.std.proofs.Common.{◌≡◌, ℕ, ◌<◌, false, List, [], ◌∷◌, None, length, refl, ap, arith}
use Rattle.std.specs.Prelude.{map}
use Rattle.hy_token.specs.declared.Span.{Span}
use Rattle.hy_ast.specs.declared.Join.{Join}
use Rattle.hy_ast.specs.declared.SetClause.{SetClause}
use Rattle.hy_ast.specs.Trees.{set_clause_of}
use Rattle.hy_bind.specs.Literals.{text_of_span}
use Rattle.hy_bind.specs.Scope.{Scope}
use Rattle.hy_bind.specs.Statements.{repeats, from_fault}

pub few : {A : Type 0} (name : A → List ℕ) (those : List A) → length those < 2 → false ≡ repeats (map name those)
few name [] below = refl
few name (one ∷ []) below = refl
few {A = A} name (one ∷ other ∷ those) below = absurd (omega arith)

-- the columns on the left of SET, whichever way the assignments are held
pub set_columns : (sets : List SetClause) → map (λ set. set.column) (map set_clause_of sets) ≡ map (λ set. set.column) sets
set_columns [] = refl
set_columns (set ∷ sets) = ap (◌∷◌ set.column) (set_columns sets)

-- so one assignment sets no column twice
pub few_sets : (script : List ℕ) (sets : List SetClause) → length sets < 2
    → false ≡ repeats (map (text_of_span script) (map (λ set. set.column) (map set_clause_of sets)))
few_sets script [] below = refl
few_sets script (one ∷ []) below = refl
few_sets script (one ∷ other ∷ sets) below = absurd (omega arith)

-- and one table without joins is a FROM that is not refused
pub one_table : (scope : Scope) (table : Span) (joins : List Join) → length joins ≡ 0 → None ≡ from_fault scope (table ∷ map (λ join. join.table) joins)
one_table scope table [] none = refl
one_table scope table (join ∷ joins) none = absurd (omega (arith, none))
