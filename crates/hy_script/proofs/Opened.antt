-- A statement that is not refused names savepoints that are open where it stands.
use Rattle.std.specs.Prelude.{IsTrue, ◌&&◌, is_some, is_none}
use Rattle.std.proofs.Common.{◌≡◌, ℕ, Bool, true, false, List, [], ◌∷◌, ◌++◌, Option, None, Some, length, refl}
use Rattle.std.proofs.lemmas.Bool.{and_parts, leb-false, lt-ltb}
use Rattle.hy_schema.specs.declared.TableDef.{TableDef}
use Rattle.hy_ast.specs.Trees.{Selection, Statement}
use Rattle.hy_ast.specs.Trees as tree
use Rattle.hy_bind.specs.Statements.{HasNames, bound_of}
use Rattle.hy_bound.specs.declared.Bound.{Bound}
use Rattle.hy_bound.specs.Savepoints.{Saved, newest, saved_after}
use Rattle.hy_bound.specs.OpenSavepoints.{is_opened, are_opened}
use Rattle.hy_script.specs.Refusals.{name_in, savepoint_code}
use Rattle.hy_script.proofs.Accepted.{not_so}
use Rattle.hy_limits.specs.declared.TheConstants.{MOST_SAVEPOINTS}

-- the savepoints that are open after statements, where these were open before
abbrev pub open_after : List (Saved (Unit {0})) → List Bound → List (Saved (Unit {0}))
open_after saved [] = saved
open_after saved (statement ∷ statements) = open_after (saved_after statement saved tt) statements

pub open_push : (saved : List (Saved (Unit {0}))) (statements : List Bound) (statement : Bound)
    → open_after saved (statements ++ statement ∷ []) ≡ saved_after statement (open_after saved statements) tt
open_push saved [] statement = refl
open_push saved (first ∷ statements) statement = open_push (saved_after first saved tt) statements statement

and_also : (one other : Bool) → IsTrue one → IsTrue other → IsTrue (one && other)
and_also true other e f = f
and_also false other e f = absurd cc

-- a statement more
pub opened_push : (saved : List (Saved (Unit {0}))) (statements : List Bound) (statement : Bound) → IsTrue (are_opened saved statements)
    → IsTrue (is_opened (open_after saved statements) statement) → IsTrue (are_opened saved (statements ++ statement ∷ []))
opened_push saved [] statement all one = and_also (is_opened saved statement) true one refl
opened_push saved (first ∷ statements) statement all one =
    let parts = and_parts (is_opened saved first) (are_opened (saved_after first saved tt) statements) all in
    and_also (is_opened saved first) (are_opened (saved_after first saved tt) (statements ++ statement ∷ [])) parts.0
    (opened_push (saved_after first saved tt) statements statement parts.1 one)

there : (found : Option ℕ) → is_none found ≡ false → IsTrue (is_some found)
there None e = absurd cc
there (Some number) e = refl

selection_opens : (script : List ℕ) (catalog : List TableDef) (saved : List (Saved (Unit {0}))) (selection : Selection)
    → IsTrue (is_opened saved (bound_of script catalog (tree.Select selection)))
selection_opens script catalog saved (tree.Rows listed table joins test) = refl
selection_opens script catalog saved (tree.Count table test) = refl
selection_opens script catalog saved (tree.Groups column total table test key) = refl

-- a statement whose savepoints are no cause to refuse it
pub code_opens : (script : List ℕ) (catalog : List TableDef) (saved : List (Saved (Unit {0}))) (s : Statement) → HasNames s
    → savepoint_code script saved s ≡ None → IsTrue (is_opened saved (bound_of script catalog s))
code_opens script catalog saved (tree.Insert table values) names h = refl
code_opens script catalog saved (tree.Update table sets test) names h = refl
code_opens script catalog saved (tree.Delete table test) names h = refl
code_opens script catalog saved (tree.Select selection) names h = selection_opens script catalog saved selection
code_opens script catalog saved (tree.Savepoint name) names h =
    lt-ltb (length saved) MOST_SAVEPOINTS (leb-false MOST_SAVEPOINTS (length saved) (not_so _ _ h))
code_opens script catalog saved (tree.RollbackTo name) names h = there (newest (name_in script name) saved) (not_so _ _ h)
code_opens script catalog saved (tree.Release name) names h = there (newest (name_in script name) saved) (not_so _ _ h)
code_opens script catalog saved _ names h = absurd names
