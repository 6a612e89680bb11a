-- The journal of a state that is shown follows the machine's commit order, so its entries stand and leave the machine's tables.
use Rattle.std.proofs.Common.{◌≡◌, ℕ, suc, ◌≤◌, List, [], ◌∷◌, None, length, map, take, refl, ap, ◌∙◌, arith}
use Rattle.std.specs.Prelude.{slice_get}
use Rattle.std.specs.List.{All, AllByRecursion, AllZip}
use Rattle.std.proofs.lemmas.List.{length-map}
use Rattle.std.proofs.lemmas.List.FromFn.{length-map-range_with_len}
use Rattle.hy_value.specs.declared.Kind.{Kind}
use Rattle.hy_value.specs.declared.Value.{Value}
use Rattle.hy_notes.specs.Notes.{is_change}
use Rattle.hy_log_record.specs.declared.HeldTable.{HeldTable}
use Rattle.hy_chunk.specs.Sound.{FitsRow}
use Rattle.hy_event.specs.declared.SessionData.{SessionData}
use Rattle.hy_event.specs.Events.{Part}
use Rattle.hy_machine.specs.declared.Setting.{Setting}
use Rattle.hy_machine.specs.States.{State}
use Rattle.hy_machine.specs.Positions.{item_at}
use Rattle.hy_machine.specs.Tables.{Cell, capacity, laid_out, opening_tables}
use Rattle.hy_machine.specs.Sessions.{snapshot}
use Rattle.hy_lawful.specs.Rows.{passes, RowsMeet, StandsOnTables, ReachedRowsMeetDemands, ReachedEntriesStand}
use Rattle.hy_refinement.specs.Numbers.{EntryShows}
use Rattle.hy_refinement.specs.CoreVisits.{EntriesTellChanges}
use Rattle.hy_stepping.specs.Runnable.{IsShown}
use Rattle.hy_stepping.specs.Texts.{CanBeLogged}
use Rattle.hy_stepping.specs.Logs.{EntriesStand, EntriesLeaveTables}
use Rattle.hy_stepping.proofs.EntryPlaces.{kept_rise}
use Rattle.hy_stepping.proofs.RowTypes.{is_typed, begins_typed}
use Rattle.hy_stepping.proofs.RowTexts.{has_utf8, cell_fits, begins_utf8}
use Rattle.hy_stepping.proofs.Entries.{AreShaped, AllFollow, history_shaped, cells_held, stand_from, leave_from}

-- ---- the first tables

same_count : (kinds : List (List Kind)) (first : List (List (List Value)))
    → AllZip (λ (types : List Kind) (rows : List (List Value)). All (FitsRow types) rows) kinds first → length first ≡ length kinds
same_count [] [] fit = refl
same_count [] (rows ∷ first) fit = absurd fit
same_count (types ∷ kinds) [] fit = absurd fit
same_count (types ∷ kinds) (rows ∷ first) fit = ap suc (same_count kinds first fit.1)

laid_full : (most : ℕ) (first : List (List (List Value))) → AllByRecursion (λ (cells : List Cell). length cells ≡ most) (map (laid_out most) first)
laid_full most [] = tt
laid_full most (rows ∷ first) = (length-map-range_with_len (slice_get rows) 0 most, laid_full most first)

opening_shaped : (setting : Setting) (kinds : List (List Kind)) → CanBeLogged kinds setting
    → AreShaped (capacity setting) kinds (opening_tables setting)
opening_shaped setting kinds typed = record {
  many = length-map setting.first (laid_out (capacity setting)) ∙ same_count kinds setting.first typed.typed.rows;
  full = laid_full (capacity setting) setting.first;
}

-- ---- the entries

-- the journal of what is shown follows the commit order
all_follow : ReachedRowsMeetDemands → ReachedEntriesStand → EntriesTellChanges → (setting : Setting) (kinds : List (List Kind)) (state : State)
    (parts : List Part) (sessions : List SessionData) (shown : IsShown setting state parts sessions)
    → CanBeLogged kinds setting
    → AllFollow (capacity setting) kinds (opening_tables setting) state.order shown.shows.core.entries
all_follow stay stand tell setting kinds state parts sessions shown typed rank entered entry e f = record {
  net = tell entered entry shows;
  order = kept_rise is_change entry.notes shows.ascends;
  few = few;
  fit = stands.positions;
  begin = stands.befores;
  before = λ table pos. cell_fits kinds table (item_at (snapshot setting state rank) table pos) (of_types.tables rank table pos) (utf8.tables rank table pos);
  after = λ table pos pair g.
      cell_fits kinds table pair.after (of_types.entries rank entered e table pos pair g) (utf8.entries rank entered e table pos pair g);
}
  where
    of_types : RowsMeet (passes (is_typed kinds)) setting state
    of_types = stay (is_typed kinds) setting state (begins_typed kinds setting typed.typed) shown.reached

    utf8 : RowsMeet (passes has_utf8) setting state
    utf8 = stay has_utf8 setting state (begins_utf8 setting typed.texts) shown.reached

    stands : StandsOnTables setting state rank entered
    stands = stand setting state shown.reached rank entered e

    shows : EntryShows entered entry
    shows = shown.shows.core_shows.entries_show.each rank entered entry e f

    few : length entered.cells ≤ length kinds
    few = let most = stands.tables in let same : length setting.first ≡ length kinds = same_count kinds setting.first typed.typed.rows in omega (arith, most, same)

pub all_stand : ReachedRowsMeetDemands → ReachedEntriesStand → EntriesTellChanges → EntriesStand
all_stand stay stand tell setting kinds state parts sessions shown typed =
    stand_from (capacity setting) kinds (opening_tables setting) None state.order shown.shows.core.entries (opening_shaped setting kinds typed)
    shown.shows.core_shows.entries_show.count (all_follow stay stand tell setting kinds state parts sessions shown typed)
    (λ rank entry e. tt) shown.shows.core_shows.times_rise.rise

pub all_leave : ReachedRowsMeetDemands → ReachedEntriesStand → EntriesTellChanges → EntriesLeaveTables
all_leave stay stand tell setting kinds state parts sessions shown typed count =
    let shaped : AreShaped (capacity setting) kinds (opening_tables setting) = opening_shaped setting kinds typed in
    ap (map (λ (table : HeldTable). table.rows))
    (leave_from (capacity setting) kinds (opening_tables setting) state.order shown.shows.core.entries shaped
    shown.shows.core_shows.entries_show.count (all_follow stay stand tell setting kinds state parts sessions shown typed) count)
    ∙ cells_held kinds (snapshot setting state count)
    (history_shaped (capacity setting) kinds (opening_tables setting) (take count state.order) shaped).many
