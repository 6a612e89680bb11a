-- What is read back of a world that shows a state at its end is what is told of it, and so the machine's outcome.
use Rattle.std.proofs.Common.{◌≡◌, ℕ, zero, suc, ◌+◌, ◌*◌, ◌<◌, List, [], ◌∷◌}
use Rattle.std.proofs.Common.{Some, length, map, take, get_or, refl, sym, ap, subst, ◌∙◌, arith}
use Rattle.std.specs.Prelude.{slice_get}
use Rattle.std.specs.List.{All, AllZip, flat_map, range_with_len}
use Rattle.std.proofs.lemmas.List.{length-map, take_all, get_or-map}
use Rattle.std.proofs.lemmas.List.Elements.{All-weaker, recursion_from_All}
use Rattle.std.proofs.lemmas.List.FromFn.{length-map-range_with_len, get_or-map-range_with_len}
use Rattle.hy_value.specs.declared.Kind.{Kind}
use Rattle.hy_value.specs.declared.Value.{Value}
use Rattle.hy_bound.specs.declared.Shape.{Shape}
use Rattle.hy_bound.specs.declared.Txn.{Txn}
use Rattle.hy_bound.specs.Agreement.{FitTable, HaveWidth}
use Rattle.hy_bound.specs.Fits.{FitsRows, FitsSession, FitsStatement, FitsTxn}
use Rattle.hy_bound.specs.Records.{no_shape, shape_of}
use Rattle.hy_journal.specs.declared.CoreData.{CoreData}
use Rattle.hy_chunk.specs.Views.{Whole}
use Rattle.hy_event.specs.declared.SessionData.{SessionData}
use Rattle.hy_event.specs.Events.{Part, ChunkPart}
use Rattle.hy_machine.specs.declared.Setting.{Setting}
use Rattle.hy_machine.specs.States.{State}
use Rattle.hy_machine.specs.Outcomes.{outcome_of, rows_sorted}
use Rattle.hy_machine.specs.Sessions.{snapshot}
use Rattle.hy_machine.specs.Tables.{history, opening_tables}
use Rattle.hy_machine.specs.Turns.{rows_seen}
use Rattle.hy_lawful.specs.Views.{TablesAreFitted, ReachedTablesFit}
use Rattle.hy_render.specs.declared.Committed.{Committed}
use Rattle.hy_render.specs.declared.Outcome.{Outcome}
use Rattle.hy_render.specs.declared.TxnOutcome.{TxnOutcome}
use Rattle.hy_stepping.specs.Outcomes.{OutcomesAreTold, last_viewer, told_outcome, told_entry, told_rows}
use Rattle.hy_stepping.specs.Runnable.{IsRunnable, IsShown}
use Rattle.hy_stepping.specs.Typed.{kinds_of}
use Rattle.hy_refinement.specs.Parts.{PartsAre}
use Rattle.hy_world.specs.Finished.{gathered_in, read_back, table_back, tables_back, HaveTheirWidths}
use Rattle.hy_world.specs.Follows.{Tells}
use Rattle.hy_world.specs.Worlds.{IsWorld, WorldData, ShowsState, parts_of, plain, seen_world}
use Rattle.hy_world.proofs.ListsAt.{both_at}
use Rattle.hy_world.proofs.OpenedWorlds.{core_got, parts_long}
use Rattle.hy_world.proofs.ReadBack.{table_seen, sorted_wide, was_wide, seen_back}
use Rattle.hy_world.proofs.Widths.{has_width}

-- ---- the tables of a setting that is run fit

zip_weaker : {A B : Type 0} (R S : A → B → Type 0) → ((x : A) (y : B) → R x y → S x y) → (xs : List A) (ys : List B) → AllZip R xs ys → AllZip S xs ys
zip_weaker R S each [] [] h = tt
zip_weaker R S each [] (y ∷ ys) h = absurd h
zip_weaker R S each (x ∷ xs) [] h = absurd h
zip_weaker R S each (x ∷ xs) (y ∷ ys) h = (each x y h.0, zip_weaker R S each xs ys h.1)

tables_fitted : (setting : Setting) → IsRunnable setting → TablesAreFitted setting
tables_fitted setting runnable = record {
  shapes = runnable.fits.tables;
  first_rows = zip_weaker (FitsRows (setting.chunks * setting.rows)) (λ (shape : Shape) (rows : List (List Value)). HaveWidth shape.width rows)
      (λ shape rows fits. recursion_from_All (λ row. length row ≡ shape.width) rows fits.widths) setting.shapes setting.first runnable.fits.first_rows;
  statements = All-weaker (FitsSession setting.shapes) (λ (txns : List Txn). All (λ (txn : Txn). All (FitsStatement setting.shapes) txn.statements) txns)
      (λ txns fits. All-weaker (FitsTxn setting.shapes) (λ (txn : Txn). All (FitsStatement setting.shapes) txn.statements) (λ txn one. one.fit) txns fits.fit)
      setting.programs runnable.fits.sessions;
}

-- ---- one table

-- the tables that are told are the last ones of the machine
table_told : (setting : Setting) (state : State) (core : CoreData) (parts : List Part) (tables table : ℕ)
    → map (told_rows core parts setting.chunks) (range_with_len 0 tables) ≡ map rows_sorted (history (opening_tables setting) state.order) → table < tables
    → told_rows core parts setting.chunks table ≡ rows_sorted (get_or (snapshot setting state (length state.order)) table [])
table_told setting state core parts tables table e h =
    let rows = told_rows core parts setting.chunks in
    let last = history (opening_tables setting) state.order in
    let within : table < length last =
    omega (arith, ap length e, length-map-range_with_len rows 0 tables, length-map last rows_sorted) in
    let read : rows table ≡ get_or (map rows (range_with_len 0 tables)) table [] =
    sym (get_or-map-range_with_len rows 0 tables table table [] h (omega arith)) in
    let all : take (length state.order) state.order ≡ state.order = take_all (length state.order) state.order (omega arith) in
    read ∙ (ap (λ (all : List (List (List Value))). get_or all table []) e ∙ (get_or-map rows_sorted last table [] [] within
    ∙ ap (λ order. rows_sorted (get_or (history (opening_tables setting) order) table [])) (sym all)))

-- so their rows have the widths
table_fits : ReachedTablesFit → (setting : Setting) (state : State) (core : CoreData) (chunks : List Whole) (sessions : List SessionData)
    (table : ℕ) → IsShown setting state (parts_of (plain chunks) core) sessions
    → told_rows core (parts_of (plain chunks) core) setting.chunks table ≡ rows_sorted (get_or (snapshot setting state (length state.order)) table [])
    → FitTable (shape_of setting.shapes table) (table_seen core chunks setting.chunks table)
table_fits law setting state core chunks sessions table shown e =
    let width = (shape_of setting.shapes table).width in
    let fit = (law setting state (tables_fitted setting shown.runnable) shown.reached (length state.order)).one table in
    let seen = rows_seen (snapshot setting state (length state.order)) table in
    (fit.0, was_wide width (table_seen core chunks setting.chunks table) (subst (HaveWidth width) (sym e) (sorted_wide width seen fit.1)))

-- ---- all tables

same_mapped : {A : Type 0} (f g : ℕ → A) (first count : ℕ) → ((n : ℕ) → n < first + count → f n ≡ g n)
    → map f (range_with_len first count) ≡ map g (range_with_len first count)
same_mapped f g first zero each = refl
same_mapped f g first (suc count) each =
    ap (λ (x : _). x ∷ map f (range_with_len (first + 1) count)) (each first (omega arith))
    ∙ ap (λ (xs : List _). g first ∷ xs) (same_mapped f g (first + 1) count (λ n h. each n (omega arith)))

-- two settings that one world shows have tables of one width
same_width : (setting other : Setting) (parts : List Part) (core another : CoreData) (table : ℕ) → PartsAre setting parts core → PartsAre other parts another
    → setting.chunks ≡ other.chunks → 0 < setting.chunks → table < length setting.shapes → table < length other.shapes
    → (shape_of setting.shapes table).width ≡ (shape_of other.shapes table).width
same_width setting other parts core another table are others chunks some below under =
    let one = are.chunks table 0 below some in
    let two = others.chunks table 0 under (omega arith) in
    let found = one.is_part.found in
    let there = subst (λ (chunks : ℕ). slice_get parts (table * chunks + 0) ≡ Some (ChunkPart two.part)) (sym chunks) two.is_part.found in
    let same : one.part ≡ two.part = cc in
    sym one.chunk_is.width ∙ (ap (λ part. part.width) same ∙ two.chunk_is.width)

outcome_is : (one other : Outcome) → one.txns ≡ other.txns → one.order ≡ other.order → one.tables ≡ other.tables → one ≡ other
outcome_is one other txns order tables =
    let made : List TxnOutcome → List Committed → List (List (List Value)) → Outcome =
    λ txns order tables. record { txns = txns; order = order; tables = tables } in
    ap (λ all. made all one.order one.tables) txns ∙ (ap (λ all. made other.txns all one.tables) order ∙ ap (made other.txns other.order) tables)

-- ---- a world

abbrev world_of : ℕ → ℕ → List Whole → CoreData → List SessionData → WorldData
world_of tables per_table chunks core sessions =
    seen_world tables per_table chunks core sessions

-- how many tables and chunks there are
pub tables_are : (shapes : List Shape) (tables per_table : ℕ) (chunks : List Whole) (core : CoreData) (sessions : List SessionData)
    → IsWorld shapes tables per_table chunks core sessions → length shapes ≡ tables
tables_are shapes tables per_table chunks core sessions is = ap length (sym is.shapes_are) ∙ is.shows.tables

chunks_count : (setting : Setting) (state : State) (tables per_table : ℕ) (chunks : List Whole) (core : CoreData) (sessions : List SessionData)
    → ShowsState setting state (world_of tables per_table chunks core sessions) → length setting.shapes * setting.chunks ≡ length chunks
chunks_count setting state tables per_table chunks core sessions shows =
    omega (arith, shows.shown.shows.parts_are.count, parts_long chunks core)

pub chunks_are : (shapes : List Shape) (tables per_table : ℕ) (chunks : List Whole) (core : CoreData) (sessions : List SessionData)
    → IsWorld shapes tables per_table chunks core sessions → length shapes * per_table ≡ length chunks
chunks_are shapes tables per_table chunks core sessions is =
    ap (λ (count : ℕ). count * per_table) (ap length (sym is.shapes_are)) ∙ (ap (λ (count : ℕ). length is.setting.shapes * count) (sym is.shows.per_table)
    ∙ chunks_count is.setting is.state tables per_table chunks core sessions is.shows)

core_same : (setting : Setting) (state : State) (tables per_table : ℕ) (chunks : List Whole) (core : CoreData) (sessions : List SessionData)
    → (shows : ShowsState setting state (world_of tables per_table chunks core sessions)) → shows.shown.shows.core ≡ core
core_same setting state tables per_table chunks core sessions shows =
    let last = shows.shown.shows.parts_are.core_last in
    let there = core_got chunks core (length setting.shapes * setting.chunks) (chunks_count setting state tables per_table chunks core sessions shows) in
    cc

-- the rows of a chunk have the width of its table
pub widths_are : (shapes : List Shape) (tables per_table : ℕ) (chunks : List Whole) (core : CoreData) (sessions : List SessionData)
    → IsWorld shapes tables per_table chunks core sessions → HaveTheirWidths shapes per_table chunks
widths_are shapes tables per_table chunks core sessions is =
    subst (λ (shapes : List Shape). HaveTheirWidths shapes per_table chunks) is.shapes_are
    (λ table there chunk part within e. has_width part (kinds_of is.kinds table) (shape_of is.setting.shapes table).width
    (is.types table chunk part within e)
    (both_at (λ (shape : Shape) (types : List Kind). length types ≡ shape.width) is.setting.shapes is.kinds table no_shape [] is.typed.tables there)
    (is.shows.shown.runnable.fits.tables table no_shape there).few)

-- a table is read back as it is told
table_is : ReachedTablesFit → (setting : Setting) (state : State) (shapes : List Shape) (tables per_table : ℕ) (chunks : List Whole) (core : CoreData)
    (sessions : List SessionData) (table : ℕ) → IsWorld shapes tables per_table chunks core sessions
    → (shows : ShowsState setting state (world_of tables per_table chunks core sessions)) → table < length setting.shapes
    → told_outcome (length setting.shapes) setting.chunks core (parts_of (plain chunks) core) sessions ≡ outcome_of setting state
    → table_back (last_viewer core) chunks shapes setting.chunks table ≡ told_rows core (parts_of (plain chunks) core) setting.chunks table
table_is law setting state shapes tables per_table chunks core sessions table is shows there e =
    let parts = parts_of (plain chunks) core in
    let width = (shape_of setting.shapes table).width in
    let fits = table_fits law setting state core chunks sessions table shows.shown
    (table_told setting state core parts (length setting.shapes) table (ap (λ (outcome : Outcome). outcome.tables) e) there) in
    let under : table < length is.setting.shapes = omega (arith, is.shows.tables, shows.tables) in
    let same : (shape_of shapes table).width ≡ width =
    ap (λ (shapes : List Shape). (shape_of shapes table).width) (sym is.shapes_are)
    ∙ same_width is.setting setting parts is.shows.shown.shows.core shows.shown.shows.core table is.shows.shown.shows.parts_are
    shows.shown.shows.parts_are (is.shows.per_table ∙ sym shows.per_table) is.shows.shown.runnable.some_chunk under there in
    ap (λ (width : ℕ). read_back width (gathered_in (last_viewer core) chunks (table * setting.chunks) setting.chunks)) same
    ∙ seen_back core chunks setting.chunks table width fits.0 fits.1

-- so is the outcome
pub tells : OutcomesAreTold → ReachedTablesFit → (shapes : List Shape) (tables per_table : ℕ) (chunks : List Whole) (core : CoreData)
    (sessions : List SessionData) (outcome : Outcome) → IsWorld shapes tables per_table chunks core sessions
    → outcome.txns ≡ flat_map (λ (session : SessionData). session.done) sessions → outcome.order ≡ map told_entry core.entries
    → outcome.tables ≡ tables_back (last_viewer core) chunks shapes per_table (length shapes)
    → Tells (world_of tables per_table chunks core sessions) outcome
tells are law shapes tables per_table chunks core sessions outcome is txns order back = λ setting state shows done.
    let parts = parts_of (plain chunks) core in
    let count = length setting.shapes in
    let by_law : told_outcome count setting.chunks core parts sessions ≡ outcome_of setting state =
    ap (λ (core : CoreData). told_outcome count setting.chunks core parts sessions) (sym (core_same setting state tables per_table chunks core sessions shows))
    ∙ are setting state parts sessions shows.shown done in
    let many : length shapes ≡ count = tables_are shapes tables per_table chunks core sessions is ∙ sym shows.tables in
    let each : (table : ℕ) → table < 0 + count
    → table_back (last_viewer core) chunks shapes setting.chunks table ≡ told_rows core parts setting.chunks table =
    λ table h. table_is law setting state shapes tables per_table chunks core sessions table is shows (omega arith) by_law in
    let all : outcome.tables ≡ map (told_rows core parts setting.chunks) (range_with_len 0 count) =
    back ∙ (ap (λ (per : ℕ). tables_back (last_viewer core) chunks shapes per (length shapes)) (sym shows.per_table)
    ∙ (ap (tables_back (last_viewer core) chunks shapes setting.chunks) many
    ∙ same_mapped (table_back (last_viewer core) chunks shapes setting.chunks) (told_rows core parts setting.chunks) 0 count each)) in
    outcome_is outcome (told_outcome count setting.chunks core parts sessions) txns order all ∙ by_law
