-- The section where a script stands: the session and the transaction that are open there.
use Rattle.std.specs.Prelude.{IsTrue, not, ◌&&◌}
use Rattle.std.specs.List.{All}
use Rattle.std.proofs.Common.{◌≡◌, ℕ, ◌<◌, ◌≤◌, Bool, true, false, List, [], ◌∷◌, ◌++◌, None, length, refl, sym, ap, ◌∙◌, subst, arith}
use Rattle.std.proofs.lemmas.List.{length_push}
use Rattle.std.proofs.lemmas.List.Elements.{All-nil, All-push}
use Rattle.hy_schema.specs.declared.TableDef.{TableDef}
use Rattle.hy_ast.specs.Trees.{Selection, Statement}
use Rattle.hy_ast.specs.Trees as tree
use Rattle.hy_bind.specs.Statements.{HasNames, bind_fault, bound_of}
use Rattle.hy_bound.specs.declared.Bound.{Bound}
use Rattle.hy_bound.specs.declared.Shape.{Shape}
use Rattle.hy_bound.specs.Savepoints.{saved_after}
use Rattle.hy_bound.specs.OpenSavepoints.{is_opened, AreOpened}
use Rattle.hy_bound.specs.Fits.{FitsStatement, MayStand, FitsTxn, FitsSession}
use Rattle.hy_script.specs.declared.NamedTxns.{NamedTxns}
use Rattle.hy_script.specs.declared.sofar.OpenTxn.{OpenTxn}
use Rattle.hy_script.specs.declared.sofar.Section.{Section}
use Rattle.hy_script.specs.declared.sofar.Section.TheVariants.{Defining, Between, Within, Scheduled}
use Rattle.hy_script.specs.declared.sofar.SoFar.{SoFar}
use Rattle.hy_script.specs.Growing.{all_sessions, begun, and_bound, closed}
use Rattle.hy_script.specs.Refusals.{begin_code_at, standing_of, statement_code_at, writes_in, groups_in}
use Rattle.hy_script.proofs.Accepted.{begin_taken, statement_taken}
use Rattle.hy_script.proofs.Opened.{open_after, open_push, opened_push, code_opens}
use Rattle.hy_script.proofs.MoreTables.{statements_kept, session_kept}
use Rattle.hy_limits.specs.declared.TheConstants.{MOST_STATEMENTS, MOST_TXNS}

-- ---- what stands there fits

-- an open transaction
pub record IsOpen (shapes : List Shape) (txn : OpenTxn) : Type 0 where
  pub few : length txn.statements ≤ MOST_STATEMENTS
  pub fit : All (FitsStatement shapes) txn.statements
  pub stand : All (MayStand txn.read_only) txn.statements
  pub opened : AreOpened txn.statements
  pub savepoints : txn.savepoints ≡ open_after [] txn.statements

-- an open session with an open transaction
pub record IsWithin (shapes : List Shape) (session : NamedTxns) (txn : OpenTxn) : Type 0 where
  pub room : length session.txns < MOST_TXNS
  pub earlier : FitsSession shapes session.txns
  pub opened : IsOpen shapes txn

abbrev pub IsSection : List Shape → Section → Type 0
IsSection shapes Defining = Unit {0}
IsSection shapes (Between session) = FitsSession shapes session.txns
IsSection shapes (Within session txn) = IsWithin shapes session txn
IsSection shapes Scheduled = Unit {0}

abbrev pub IsSession : List Shape → NamedTxns → Type 0
IsSession shapes session = FitsSession shapes session.txns

pub no_txns : (shapes : List Shape) → FitsSession shapes []
no_txns shapes = record { few = omega arith; fit = All-nil (FitsTxn shapes) }

-- it fits more tables too
pub section_kept : (shapes more : List Shape) (section : Section) → IsSection shapes section → IsSection (shapes ++ more) section
section_kept shapes more Defining is = tt
section_kept shapes more (Between session) is = session_kept shapes more session.txns is
section_kept shapes more (Within session txn) is = record {
  room = is.room;
  earlier = session_kept shapes more session.txns is.earlier;
  opened = record { few = is.opened.few; fit = statements_kept shapes more txn.statements is.opened.fit; stand = is.opened.stand; opened = is.opened.opened; savepoints = is.opened.savepoints };
}
section_kept shapes more Scheduled is = tt

-- ---- BEGIN

pub begun_section : (shapes : List Shape) (only : Bool) (section : Section) → begin_code_at section ≡ None → IsSection shapes section → IsSection shapes (begun only section)
begun_section shapes only Defining h is = tt
begun_section shapes only (Between session) h is = record {
  room = begin_taken session h;
  earlier = is;
  opened = record { few = omega arith; fit = All-nil (FitsStatement shapes); stand = All-nil (MayStand only); opened = refl; savepoints = refl };
}
begun_section shapes only (Within session txn) h is = is
begun_section shapes only Scheduled h is = tt

-- ---- a statement more

writes_alone : (only : Bool) → (only && true) ≡ false → only ≡ false
writes_alone true h = absurd cc
writes_alone false h = refl

groups_alone : (only : Bool) → (not only && true) ≡ false → only ≡ true
groups_alone true h = refl
groups_alone false h = absurd cc

selection_stands : (only : Bool) (script : List ℕ) (catalog : List TableDef) (selection : Selection) → (not only && groups_in (tree.Select selection)) ≡ false
    → MayStand only (bound_of script catalog (tree.Select selection))
selection_stands only script catalog (tree.Rows listed table joins test) h = tt
selection_stands only script catalog (tree.Count table test) h = tt
selection_stands only script catalog (tree.Groups column total table test key) h = groups_alone only h

pub stands : (only : Bool) (script : List ℕ) (catalog : List TableDef) (s : Statement) → HasNames s → (only && writes_in s) ≡ false → (not only && groups_in s) ≡ false → MayStand only (bound_of script catalog s)
stands only script catalog (tree.Insert table values) names w g = writes_alone only w
stands only script catalog (tree.Update table sets test) names w g = writes_alone only w
stands only script catalog (tree.Delete table test) names w g = writes_alone only w
stands only script catalog (tree.Select selection) names w g = selection_stands only script catalog selection g
stands only script catalog (tree.Savepoint name) names w g = tt
stands only script catalog (tree.RollbackTo name) names w g = tt
stands only script catalog (tree.Release name) names w g = tt
stands only script catalog _ names w g = absurd names

pub bound_section : (shapes : List Shape) (script : List ℕ) (sofar : SoFar) (s : Statement) (section : Section) → HasNames s → (bind_fault script sofar.catalog s ≡ None → FitsStatement shapes (bound_of script sofar.catalog s))
    → statement_code_at script sofar section s ≡ None → IsSection shapes section → IsSection shapes (and_bound section script sofar.catalog s)
bound_section shapes script sofar s Defining names fits h is = tt
bound_section shapes script sofar s (Between session) names fits h is = is
bound_section shapes script sofar s (Within session txn) names fits h is =
    let taken = statement_taken script sofar.catalog (standing_of txn) s h in
    let room : length txn.statements < MOST_STATEMENTS = taken.room in
    let bound : Bound = bound_of script sofar.catalog s in
    let many = length_push txn.statements bound in
    record {
      room = is.room;
      earlier = is.earlier;
      opened = record {
        few = omega (arith, room, many);
        fit = All-push (FitsStatement shapes) txn.statements bound is.opened.fit (fits taken.bound);
        stand = All-push (MayStand txn.read_only) txn.statements bound is.opened.stand (stands txn.read_only script sofar.catalog s names taken.writes_there taken.groups_there);
        opened =
            opened_push [] txn.statements bound is.opened.opened
            (subst (λ saved. IsTrue (is_opened saved bound)) is.opened.savepoints (code_opens script sofar.catalog txn.savepoints s names taken.saved_there));
        savepoints = ap (λ saved. saved_after bound saved tt) is.opened.savepoints ∙ sym (open_push [] txn.statements bound);
      };
    }
bound_section shapes script sofar s Scheduled names fits h is = tt

-- ---- COMMIT and ROLLBACK

pub closed_section : (shapes : List Shape) (commits : Bool) (section : Section) → IsSection shapes section → IsSection shapes (closed commits section)
closed_section shapes commits Defining is = tt
closed_section shapes commits (Between session) is = is
closed_section shapes commits (Within session txn) is =
    let many = length_push session.txns (record { read_only = txn.read_only; statements = txn.statements; commits = commits }) in
    record {
      few = omega (arith, is.room, many);
      fit = All-push (FitsTxn shapes) session.txns (record { read_only = txn.read_only; statements = txn.statements; commits = commits }) is.earlier.fit (record { few = is.opened.few; fit = is.opened.fit; stand = is.opened.stand; savepoints = is.opened.opened });
    }
closed_section shapes commits Scheduled is = tt

-- ---- the sessions with the open one

pub sessions_fit : (shapes : List Shape) (sessions : List NamedTxns) (section : Section) → All (IsSession shapes) sessions → IsSection shapes section → All (IsSession shapes) (all_sessions sessions section)
sessions_fit shapes sessions Defining all is = all
sessions_fit shapes sessions (Between session) all is = All-push (IsSession shapes) sessions session all is
sessions_fit shapes sessions (Within session txn) all is = All-push (IsSession shapes) sessions session all is.earlier
sessions_fit shapes sessions Scheduled all is = all

-- how many they are doesn't change in them

pub begun_many : (sessions : List NamedTxns) (only : Bool) (section : Section) → length (all_sessions sessions (begun only section)) ≡ length (all_sessions sessions section)
begun_many sessions only Defining = refl
begun_many sessions only (Between session) = refl
begun_many sessions only (Within session txn) = refl
begun_many sessions only Scheduled = refl

pub bound_many : (sessions : List NamedTxns) (script : List ℕ) (catalog : List TableDef) (s : Statement) (section : Section) → length (all_sessions sessions (and_bound section script catalog s)) ≡ length (all_sessions sessions section)
bound_many sessions script catalog s Defining = refl
bound_many sessions script catalog s (Between session) = refl
bound_many sessions script catalog s (Within session txn) = refl
bound_many sessions script catalog s Scheduled = refl

pub closed_many : (sessions : List NamedTxns) (commits : Bool) (section : Section) → length (all_sessions sessions (closed commits section)) ≡ length (all_sessions sessions section)
closed_many sessions commits Defining = refl
closed_many sessions commits (Between session) = refl
closed_many sessions commits (Within session txn) =
    length_push sessions (record { name = session.name; txns = session.txns ++ record { read_only = txn.read_only; statements = txn.statements; commits = commits } ∷ [] }) ∙ sym (length_push sessions session)
closed_many sessions commits Scheduled = refl
