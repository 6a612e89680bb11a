-- The log of what a server has entered is that of the commit order which its lines come to, and recovers to their tables.
use Rattle.std.specs.List.{zip}
use Rattle.std.proofs.Common.{◌≡◌, ℕ, List, [], ◌∷◌, Option, None, Some, Ok, length, map, take, refl, sym, ap, ◌∙◌, subst, arith, le_refl}
use mathlib.Core.List.{map-map}
use Rattle.std.proofs.lemmas.List.{length-map, take_all}
use Rattle.std.proofs.lemmas.Slice.Zip.{AllZip-long}
use Rattle.hy_value.specs.declared.Kind.{Kind}
use Rattle.hy_value.specs.declared.Value.{Value}
use Rattle.hy_journal.specs.declared.Entry.{Entry}
use Rattle.hy_log_record.specs.declared.HeldTable.{HeldTable}
use Rattle.hy_machine.specs.declared.Setting.{Setting}
use Rattle.hy_machine.specs.States.{State}
use Rattle.hy_machine.specs.Tables.{Cell, capacity, history, laid_out, opening_tables}
use Rattle.hy_machine.specs.Tables as machine
use Rattle.hy_machine.specs.Validation.{committed_of}
use Rattle.hy_machine.specs.Outcomes.{rows_sorted}
use Rattle.hy_machine.specs.Runs.{items_of, run_of}
use Rattle.hy_growing.specs.Growing.{AreDropped, DropsAreRuns, OpenOnesAreDropped, open_before, whole_item}
use Rattle.hy_recovery.specs.Recovered.{AreRecovered, held, held_tables, rows_of}
use Rattle.hy_redo.specs.Laws.{LogsRecover}
use Rattle.hy_redo.specs.Logs.{IsLogOf}
use Rattle.hy_render.specs.declared.Committed.{Committed}
use Rattle.hy_render.specs.declared.Names.{Names}
use Rattle.hy_schema.specs.declared.Column.{Column}
use Rattle.hy_schema.specs.declared.TableDef.{TableDef}
use Rattle.hy_script.specs.declared.Options.{Options}
use Rattle.hy_serving.specs.declared.Desk.{Desk}
use Rattle.hy_serving.specs.Fitting.{WereHeard}
use Rattle.hy_serving.specs.Saying.{first_rows}
use Rattle.hy_stepping.specs.Outcomes.{told_entry}
use Rattle.hy_world.specs.Logged.{LogsTellOrders, RecoversAfter}
use Rattle.hy_world.specs.Worlds.{WorldData}
use Rattle.hy_service.specs.Knowing.{Knows, KnowsBy, ServerData}
use Rattle.hy_service.specs.Laws.{LogsTellOutcomes, ServicesAreSound, ServicesCanBeLogged}
use Rattle.hy_service.specs.Logging.{CanLog, IsWholeLogAt, entries_in, kinds_at, tables_at}
use Rattle.hy_service.specs.Service.{Service, after, outcome_at, setting_of}
use Rattle.hy_service.specs.Sound.{IsSound}

-- the laws of the crates below on which this rests
pub record Laws : Type 0 where
  pub all : OpenOnesAreDropped
  pub runs : DropsAreRuns
  pub tell : LogsTellOrders
  pub recover : LogsRecover

-- ---- what is dropped enters nothing

-- the state that the turns come to, with the rounds behind them
abbrev last_of : Options → Service → State
last_of options service = run_of (setting_of options service) (map whole_item service.turns)

same_order : Laws → (options : Options) (service : Service) → IsSound options service → (last_of options service).order ≡ service.state.order
same_order laws options service sound =
    let setting : Setting = setting_of options service in
    let next : State = items_of setting service.state (map whole_item (open_before service.state (length setting.programs))) in
    let dropped : AreDropped setting service.turns service.state (length setting.programs) next =
    laws.all setting service.state service.turns sound.between in
    ap (λ (state : State). state.order) (laws.runs setting service.state next service.turns sound.between dropped).1 ∙ dropped.order

-- ---- before there is a world

-- tables that are held have their cells
cells_of : (kinds : List (List Kind)) (tables : List (List Cell)) → length tables ≡ length kinds
    → map (λ (table : HeldTable). table.rows) (held_tables kinds tables) ≡ tables
cells_of [] [] same = refl
cells_of [] (cells ∷ tables) same = absurd (omega (arith, same))
cells_of (columns ∷ kinds) [] same = absurd (omega (arith, same))
cells_of (columns ∷ kinds) (cells ∷ tables) same = ap (λ (rest : List (List Cell)). cells ∷ rest) (cells_of kinds tables (omega (arith, same)))

as_many : (options : Options) (service : Service) → IsSound options service → length (opening_tables (setting_of options service)) ≡ length (kinds_at service)
as_many options service sound =
    length-map (first_rows service.desk) (laid_out (capacity (setting_of options service)))
    ∙ AllZip-long WereHeard service.desk.sofar.catalog (first_rows service.desk) sound.desk.rows
    ∙ sym (length-map service.desk.sofar.catalog (λ (table : TableDef). map (λ (column : Column). column.kind) table.columns))

nothing_entered : (options : Options) (service : Service) → IsSound options service → service.turns ≡ [] → service.state.order ≡ []
nothing_entered options service sound none = ap (λ (state : State). state.order) (sound.unused none).1

-- the empty log recovers to the first rows
first_recover : LogsRecover → (options : Options) (service : Service) → IsSound options service → service.turns ≡ [] → (gate : ℕ) (bytes : List ℕ)
    → IsLogOf [] gate bytes → RecoversAfter (setting_of options service) (kinds_at service) service.state (length service.state.order) bytes
first_recover law options service sound none gate bytes log =
    let setting : Setting = setting_of options service in
    let nothing : service.state.order ≡ [] = nothing_entered options service sound none in (
      tables_at options service,
      law (tables_at options service) [] gate bytes tt log,
      cells_of (kinds_at service) (opening_tables setting) (as_many options service sound)
          ∙ sym (ap (λ (entries : List machine.Entry). history (opening_tables setting) (take (length entries) entries)) nothing),
    )

-- ---- what is entered

-- entries that tell a service's commit order, whose log recovers to the tables after it
record AreTold (options : Options) (service : Service) (entries : List Entry) (bytes : List ℕ) : Type 0 where
  tell : map told_entry entries ≡ map committed_of service.state.order
  recovers : RecoversAfter (setting_of options service) (kinds_at service) service.state (length service.state.order) bytes

told_by : Laws → (options : Options) (service : Service) (desk : Desk) (names : Names) (world : Option WorldData) → IsSound options service
    → CanLog options service → KnowsBy options service desk names world → (gate : ℕ) (bytes : List ℕ) → IsLogOf (entries_in world) gate bytes
    → AreTold options service (entries_in world) bytes
told_by laws options service desk names None sound can knows gate bytes log = record {
  tell = sym (ap (λ (entries : List machine.Entry). map committed_of entries) (nothing_entered options service sound knows.turns));
  recovers = first_recover laws.recover options service sound knows.turns gate bytes log;
}
told_by laws options service desk names (Some world) sound can knows gate bytes log = record {
  tell = laws.tell.order (setting_of options service) service.state world knows.1.shows;
  recovers = laws.tell.all (setting_of options service) (kinds_at service) service.state world knows.1.shows can gate bytes log;
}

-- so of the outcome
tables_told : Laws → (options : Options) (service : Service) (bytes : List ℕ) → IsSound options service
    → RecoversAfter (setting_of options service) (kinds_at service) service.state (length service.state.order) bytes
    → AreRecovered (tables_at options service) bytes (outcome_at options service).tables
tables_told laws options service bytes sound found =
    let first : List (List Cell) = opening_tables (setting_of options service) in
    let order : List machine.Entry = service.state.order in (
      found.0,
      found.1,
      ap (λ (entries : List machine.Entry). map rows_sorted (history first entries))
          (same_order laws options service sound ∙ sym (take_all (length order) order (le_refl (length order))))
          ∙ sym (ap (map rows_sorted) found.2) ∙ map-map rows_sorted (λ (table : HeldTable). table.rows) found.0,
    )

pub logs_told : ServicesAreSound → ServicesCanBeLogged → Laws → LogsTellOutcomes
logs_told sound_law can_law laws lines server gate bytes knows log =
    let options : Options = server.options in
    let service : Service = after options lines in
    let sound : IsSound options service = sound_law options lines knows.sized in
    let told : AreTold options service (entries_in server.world) bytes =
    told_by laws options service server.desk server.names server.world sound (can_law options lines knows.sized) knows.knows gate bytes log in
    record {
      entries = entries_in server.world;
      tell = told.tell ∙ sym (ap (λ (order : List machine.Entry). map committed_of order) (same_order laws options service sound));
      gate = gate;
      log = log;
      recovers = tables_told laws options service bytes sound told.recovers;
    }
