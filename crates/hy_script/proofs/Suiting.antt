-- A statement that is not refused suits the transaction.
use Rattle.std.specs.List.{All}
use Rattle.std.proofs.Common.{◌≡◌, ℕ, List, None}
use Rattle.hy_schema.specs.declared.TableDef.{TableDef}
use Rattle.hy_ast.specs.Trees.{Statement}
use Rattle.hy_bound.specs.Agreement.{HasItsKey}
use Rattle.hy_bound.specs.Fits.{FitsStatement}
use Rattle.hy_bind.specs.Shapes.{catalog_shapes}
use Rattle.hy_bind.specs.Statements.{HasNames, bind_fault, bound_of}
use Rattle.hy_script.specs.declared.judging.Standing.{Standing}
use Rattle.hy_script.specs.Refusals.{statement_code}
use Rattle.hy_script.specs.Suiting.{Suits}
use Rattle.hy_script.proofs.Accepted.{statement_taken}
use Rattle.hy_script.proofs.KeptBound.{statement_bound}
use Rattle.hy_script.proofs.Opened.{code_opens}
use Rattle.hy_script.proofs.Sections.{stands}

pub suits : ((script : List ℕ) (catalog : List TableDef) (s : Statement) → HasNames s → All HasItsKey (catalog_shapes catalog) → bind_fault script catalog s ≡ None → FitsStatement (catalog_shapes catalog) (bound_of script catalog s))
    → (script : List ℕ) (catalog : List TableDef) (standing : Standing) (s : Statement) → HasNames s → All HasItsKey (catalog_shapes catalog) → statement_code script catalog standing s ≡ None
    → Suits script catalog standing (bound_of script catalog s)
suits binding script catalog standing s names keys h =
    let taken = statement_taken script catalog standing s h in
    record {
      was = statement_bound script catalog s names taken.bound;
      fits = binding script catalog s names keys taken.bound;
      stands = stands standing.read_only script catalog s names taken.writes_there taken.groups_there;
      opened = code_opens script catalog standing.savepoints s names taken.saved_there;
      room = taken.room;
    }
