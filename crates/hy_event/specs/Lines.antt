-- What a line makes of a session's script.
use Rattle.std.specs.Prelude.{List, [], ◌∷◌, ◌++◌, Bool, true, false}
use Rattle.hy_bound.specs.declared.Bound.{Bound}
use Rattle.hy_bound.specs.declared.Txn.{Txn}
use Rattle.hy_event.specs.declared.SessionData.{SessionData}
use Rattle.hy_event.specs.declared.lines.SessionLine.{SessionLine}
use Rattle.hy_event.specs.declared.lines.SessionLine.TheVariants.{Begin, Statement, Commit, Rollback}

-- a list whose last element is changed
abbrev pub with_last : {A : Type 0} → (A → A) → List A → List A
with_last change [] = []
with_last change (x ∷ []) = change x ∷ []
with_last change (x ∷ y ∷ xs) = x ∷ with_last change (y ∷ xs)

-- a transaction that has said nothing yet, and rolls back
abbrev pub opened : Bool → Txn
opened read_only = record { read_only = read_only; statements = []; commits = false }

-- a transaction with a statement more
abbrev pub with_statement : Bound → Txn → Txn
with_statement statement txn = record txn { statements = txn.statements ++ statement ∷ [] }

-- a transaction that commits
abbrev pub committing : Txn → Txn
committing txn = record txn { commits = true }

-- a session's transactions after a line
abbrev pub grown : SessionLine → List Txn → List Txn
grown (Begin read_only) txns = txns ++ opened read_only ∷ []
grown (Statement statement) txns = with_last (with_statement statement) txns
grown Commit txns = with_last committing txns
grown Rollback txns = txns

-- a session whose script is a line longer
abbrev pub with_line : SessionData → SessionLine → SessionData
with_line session line = record session { program = grown line session.program }
