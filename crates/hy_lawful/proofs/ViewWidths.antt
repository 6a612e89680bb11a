-- In each state that the machine comes to the rows have the columns of their tables, so that what an open transaction sees
-- fits: an UPDATE leaves a row's columns as they are, and the row of an INSERT has its table's.
use Rattle.std.proofs.Common.{◌≡◌, ℕ, zero, suc, ◌≤◌, List, [], ◌∷◌, Option, None, Some, Result, Ok, Err, length, take, map, get_or, subst, arith, ◌∙◌}
use Rattle.std.proofs.Math.ListN.{set}
use Rattle.std.specs.Prelude.{IfSome}
use Rattle.std.specs.List.{All, AllByRecursion, AllZip}
use Rattle.std.proofs.lemmas.List.{length-set}
use Rattle.std.proofs.lemmas.List.Elements.{recursion_from_All, All-weaker}
use Rattle.hy_value.specs.declared.Value.{Value}
use Rattle.hy_bound.specs.declared.Assign.{Assign}
use Rattle.hy_bound.specs.declared.Bound.{Bound}
use Rattle.hy_bound.specs.declared.Bound.TheVariants.{Select, Group, Insert, Update, Delete, Savepoint, RollbackTo, Release}
use Rattle.hy_bound.specs.declared.Range.{Range}
use Rattle.hy_bound.specs.declared.Shape.{Shape}
use Rattle.hy_bound.specs.declared.Txn.{Txn}
use Rattle.hy_bound.specs.Agreement.{FitTable, FitTables, HasItsKey, HaveTheirKeys, HaveWidth}
use Rattle.hy_bound.specs.Assignment.{assigned_to, set_column, value_of}
use Rattle.hy_bound.specs.Changes.{present}
use Rattle.hy_bound.specs.Fits.{FitsShape, FitsStatement}
use Rattle.hy_bound.specs.Records.{no_shape, shape_of}
use Rattle.hy_machine.specs.declared.Setting.{Setting}
use Rattle.hy_machine.specs.States.{State, Open}
use Rattle.hy_machine.specs.Tables.{Cell, Tables, Own, over}
use Rattle.hy_machine.specs.Writes.{blank_own, with_writes}
use Rattle.hy_machine.specs.Sessions.{snapshot, view}
use Rattle.hy_machine.specs.Turns.{rows_seen}
use Rattle.hy_machine.specs.Runs.{IsReached}
use Rattle.hy_machine.specs.Kept.{IsNow}
use Rattle.hy_lawful.specs.Rows.{Demand, StatementMeets, SettingMeets}
use Rattle.hy_lawful.specs.Views.{TablesAreFitted, SeenFits, ReachedSeenFit}
use Rattle.hy_lawful.proofs.Tables.{got_of}
use Rattle.hy_lawful.proofs.ViewRows.{TablesMeet, over_meets, snapshot_meets}
use Rattle.hy_lawful.proofs.ViewSteps.{NowMeets, TrailMeets, StateMeets, view_meets, first_own_meets, reached_state_meets}

-- a row has its table's columns
abbrev pub IsWide : List Shape → Demand
IsWide shapes table row = length row ≡ (shape_of shapes table).width

-- ---- what is written

-- what follows for each statement of programs
each_statement : (P Q : Bound → Type 0) → ((statement : Bound) → P statement → Q statement) → (programs : List (List Txn))
    → All (λ (txns : List Txn). All (λ (txn : Txn). All P txn.statements) txns) programs
    → All (λ (txns : List Txn). All (λ (txn : Txn). All Q txn.statements) txns) programs
each_statement P Q so programs all =
    All-weaker (λ (txns : List Txn). All (λ (txn : Txn). All P txn.statements) txns) (λ (txns : List Txn). All (λ (txn : Txn). All Q txn.statements) txns)
    (λ txns. All-weaker (λ (txn : Txn). All P txn.statements) (λ (txn : Txn). All Q txn.statements)
    (λ txn. All-weaker P Q so txn.statements) txns) programs all

-- a row, if there is one, has so many columns
abbrev HasWidth : ℕ → Option (List Value) → Type 0
HasWidth width row = IfSome row (λ (row : List Value). length row ≡ width)

none_assigned : (sets : List Assign) (old : List Value) (width : ℕ) → HasWidth width (assigned_to sets old None)
none_assigned [] old width = tt
none_assigned (assign ∷ sets) old width = tt

assigned_wide : (sets : List Assign) (old new : List Value) (width : ℕ) → length new ≡ width → HasWidth width (assigned_to sets old (Some new))
assigned_wide [] old new width h = h
assigned_wide (assign ∷ sets) old new width h =
    by_value (value_of assign.value old)
    (λ value. assigned_wide sets old (set new assign.column value) width (length-set new assign.column value ∙ h))
  where
    by_value : (value : Result Value Range) → ((value : Value) → HasWidth width (assigned_to sets old (Some (set new assign.column value))))
        → HasWidth width (assigned_to sets old (set_column new assign.column value))
    by_value (Err range) more = none_assigned sets old width
    by_value (Ok value) more = more value

writes_wide : (shapes : List Shape) (statement : Bound) → FitsStatement shapes statement → StatementMeets (IsWide shapes) statement
writes_wide shapes (Select tables ons pred items) fits = tt
writes_wide shapes (Group table pred key aggregate) fits = tt
writes_wide shapes (Insert table row) fits = fits.1.width
writes_wide shapes (Update table sets pred) fits = λ row h. assigned_wide sets row row (shape_of shapes table).width h
writes_wide shapes (Delete table pred) fits = tt
writes_wide shapes (Savepoint name) fits = tt
writes_wide shapes (RollbackTo name) fits = tt
writes_wide shapes (Release name) fits = tt

first_wide : (shapes : List Shape) (first : List (List (List Value)))
    → AllZip (λ (shape : Shape) (rows : List (List Value)). HaveWidth shape.width rows) shapes first → (table : ℕ)
    → AllByRecursion (IsWide shapes table) (get_or first table [])
first_wide [] [] fit table = tt
first_wide [] (rows ∷ first) fit table = absurd fit
first_wide (shape ∷ shapes) [] fit table = absurd fit
first_wide (shape ∷ shapes) (rows ∷ first) fit zero = fit.0
first_wide (shape ∷ shapes) (rows ∷ first) fit (suc table) = first_wide shapes first fit.1 table

begins_wide : (setting : Setting) → TablesAreFitted setting → SettingMeets (IsWide setting.shapes) setting
begins_wide setting fit = record {
  first_rows = first_wide setting.shapes setting.first fit.first_rows;
  statements = each_statement (FitsStatement setting.shapes) (StatementMeets (IsWide setting.shapes)) (writes_wide setting.shapes)
      setting.programs fit.statements;
}

-- ---- the rows of a table

present_wide : (width : ℕ) (cells : List Cell) → AllByRecursion (λ (cell : Cell). IfSome cell (λ (row : List Value). length row ≡ width)) cells
    → HaveWidth width (present cells)
present_wide width [] h = tt
present_wide width (None ∷ cells) h = present_wide width cells h.1
present_wide width (Some row ∷ cells) h = (h.0, present_wide width cells h.1)

rows_wide : (shapes : List Shape) (tables : Tables) (table : ℕ) → TablesMeet (IsWide shapes) tables
    → HaveWidth (shape_of shapes table).width (rows_seen tables table)
rows_wide shapes tables table h = present_wide (shape_of shapes table).width (get_or tables table []) (h table)

-- ---- what is seen

-- a table that isn't there has no columns, and no key
shape_fits : (P : Shape → Type 0) (setting : Setting) → TablesAreFitted setting → ((shape : Shape) → FitsShape shape → P shape) → P no_shape
    → (table : ℕ) → P (shape_of setting.shapes table)
shape_fits P setting fit each none table =
    got_of P setting.shapes table no_shape (weaker setting.shapes (recursion_from_All FitsShape setting.shapes fit.shapes)) none
  where
    weaker : (shapes : List Shape) → AllByRecursion FitsShape shapes → AllByRecursion P shapes
    weaker [] h = tt
    weaker (shape ∷ shapes) h = (each shape h.0, weaker shapes h.1)

all_tables : (shapes : List Shape) (seen : Tables) → ((table : ℕ) → FitTable (shape_of shapes table) (rows_seen seen table)) → (tables : List ℕ)
    → FitTables shapes tables (map (rows_seen seen) tables)
all_tables shapes seen h [] = tt
all_tables shapes seen h (table ∷ tables) = (h table, all_tables shapes seen h tables)

all_keys : (shapes : List Shape) → ((table : ℕ) → HasItsKey (shape_of shapes table)) → (tables : List ℕ) → HaveTheirKeys shapes tables
all_keys shapes h [] = tt
all_keys shapes h (table ∷ tables) = (h table, all_keys shapes h tables)

seen_fits : (setting : Setting) (seen : Tables) → TablesAreFitted setting → TablesMeet (IsWide setting.shapes) seen → SeenFits setting seen
seen_fits setting seen fit wide = record { one = one; joined = all_tables setting.shapes seen one; keys = all_keys setting.shapes key }
  where
    one : (table : ℕ) → FitTable (shape_of setting.shapes table) (rows_seen seen table)
    one table = (
      shape_fits (λ (shape : Shape). shape.width ≤ 32) setting fit (λ shape fits. fits.few) (omega arith) table,
      rows_wide setting.shapes seen table wide,
    )

    key : (table : ℕ) → HasItsKey (shape_of setting.shapes table)
    key table = shape_fits HasItsKey setting fit (λ shape fits. fits.key) (λ column e. absurd cc) table

pub reached_see : (setting : Setting) (state : State) → TablesAreFitted setting → IsReached setting state → (number : ℕ) (current : Open)
    → IsNow state number current → SeenFits setting (view setting state current.begun)
reached_see setting state fit r number current is =
    let begins : SettingMeets (IsWide setting.shapes) setting = begins_wide setting fit in
    let all : StateMeets (IsWide setting.shapes) state = reached_state_meets (IsWide setting.shapes) setting state begins r in
    seen_fits setting (view setting state current.begun) fit
    (view_meets (IsWide setting.shapes) setting state current.begun begins all (subst (NowMeets (IsWide setting.shapes)) is (all.opens number)))

pub reached_saw : ReachedSeenFit
reached_saw setting state fit r number current is count =
    let begins : SettingMeets (IsWide setting.shapes) setting = begins_wide setting fit in
    let all : StateMeets (IsWide setting.shapes) state = reached_state_meets (IsWide setting.shapes) setting state begins r in
    let own : Own = with_writes (blank_own setting) (take count current.begun.trail) in
    seen_fits setting (over (snapshot setting state current.begun.prefix) own) fit
    (over_meets (IsWide setting.shapes) (λ (cell : Cell). cell) (snapshot setting state current.begun.prefix) own
    (snapshot_meets (IsWide setting.shapes) setting state.order current.begun.prefix begins.first_rows all.order)
    (first_own_meets (IsWide setting.shapes) setting current.begun count (subst (TrailMeets (IsWide setting.shapes)) is (all.trails number))))

pub reached_tables : (setting : Setting) (state : State) → TablesAreFitted setting → IsReached setting state → (prefix : ℕ)
    → SeenFits setting (snapshot setting state prefix)
reached_tables setting state fit r prefix =
    let begins : SettingMeets (IsWide setting.shapes) setting = begins_wide setting fit in
    seen_fits setting (snapshot setting state prefix) fit
    (snapshot_meets (IsWide setting.shapes) setting state.order prefix begins.first_rows
    (reached_state_meets (IsWide setting.shapes) setting state begins r).order)
