-- Where a script fits, so do its tables, and what an open transaction sees in them.
use Rattle.std.proofs.Common.{ℕ, ◌≡◌, ◌*◌, List, [], ◌∷◌, Option, None, Some, length}
use Rattle.std.specs.List.{AllZip}
use Rattle.std.proofs.lemmas.List.Elements.{recursion_from_All}
use Rattle.hy_value.specs.declared.Value.{Value}
use Rattle.hy_bound.specs.declared.Bound.{Bound}
use Rattle.hy_bound.specs.declared.Bound.TheVariants.{Select, Group, Insert, Update, Delete, Savepoint, RollbackTo, Release}
use Rattle.hy_bound.specs.declared.Shape.{Shape}
use Rattle.hy_bound.specs.Agreement.{HaveWidth}
use Rattle.hy_bound.specs.Fits.{FitsRows}
use Rattle.hy_machine.specs.declared.Setting.{Setting}
use Rattle.hy_machine.specs.States.{State}
use Rattle.hy_machine.specs.Tables.{Tables}
use Rattle.hy_machine.specs.Sessions.{session_at, txn_at, view}
use Rattle.hy_machine.specs.Runs.{IsReached}
use Rattle.hy_lawful.specs.Views.{TablesAreFitted, SeenFits, ReachedViewsFit}
use Rattle.hy_refinement.specs.Sessions.{statement_at}
use Rattle.hy_refinement.specs.Steps.{ReadsFit, ViewsFit}
use Rattle.hy_stepping.specs.Runnable.{IsRunnable}

-- what follows place by place
zip_so : {A B : Type 0} (R S : A → B → Type 0) (xs : List A) (ys : List B) → ((x : A) (y : B) → R x y → S x y) → AllZip R xs ys → AllZip S xs ys
zip_so R S [] [] so all = all
zip_so R S [] (y ∷ ys) so all = all
zip_so R S (x ∷ xs) [] so all = all
zip_so R S (x ∷ xs) (y ∷ ys) so all = (so x y all.0, zip_so R S xs ys so all.1)

have_width : (room : ℕ) (shape : Shape) (rows : List (List Value)) → FitsRows room shape rows → HaveWidth shape.width rows
have_width room shape rows fits = recursion_from_All (λ (row : List Value). length row ≡ shape.width) rows fits.widths

pub tables_fit : (setting : Setting) → IsRunnable setting → TablesAreFitted setting
tables_fit setting runnable = record {
  shapes = runnable.fits.tables;
  first_rows = zip_so (FitsRows (setting.chunks * setting.rows)) (λ (shape : Shape) (rows : List (List Value)). HaveWidth shape.width rows)
      setting.shapes setting.first (have_width (setting.chunks * setting.rows)) runnable.fits.first_rows;
  statements = λ session none below txn nothing within. ((runnable.fits.sessions session none below).fit txn nothing within).fit;
}

-- a statement finds what it reads fitting where all tables are seen so
reads_fit : (setting : Setting) (seen : Tables) → SeenFits setting seen → (statement : Option Bound) → ReadsFit setting seen statement
reads_fit setting seen fits None = tt
reads_fit setting seen fits (Some (Select tables ons pred items)) = (fits.joined tables, fits.keys tables)
reads_fit setting seen fits (Some (Group table pred key aggregate)) = fits.one table
reads_fit setting seen fits (Some (Insert table row)) = tt
reads_fit setting seen fits (Some (Update table sets pred)) = tt
reads_fit setting seen fits (Some (Delete table pred)) = tt
reads_fit setting seen fits (Some (Savepoint name)) = tt
reads_fit setting seen fits (Some (RollbackTo name)) = tt
reads_fit setting seen fits (Some (Release name)) = tt

pub views_fit : ReachedViewsFit → (setting : Setting) (state : State) → IsRunnable setting → IsReached setting state → ViewsFit setting state
views_fit law setting state runnable reached number current is_now =
    reads_fit setting (view setting state current.begun) (law setting state (tables_fit setting runnable) reached number current is_now)
    (statement_at (txn_at setting number (session_at state number)) (length current.begun.replies))
