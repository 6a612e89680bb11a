-- In each state that the machine comes to, the rows that entries and open transactions have written meet a demand, where the
-- first rows and the statements do: what holds of the opening and stays true along steps.
use Rattle.std.proofs.Common.{◌≡◌, ℕ, ◌<◌, List, [], ◌∷◌, Option, None, Some, length, take, sym, subst, ◌∙◌}
use Rattle.std.specs.Prelude.{slice_get, IfSome}
use Rattle.std.specs.Option.{option_map}
use Rattle.std.specs.List.{All, AllByRecursion}
use Rattle.std.proofs.lemmas.List.Elements.{recursion_from_All}
use Rattle.hy_bound.specs.declared.Bound.{Bound}
use Rattle.hy_bound.specs.declared.Txn.{Txn}
use Rattle.hy_machine.specs.Writes.{Write, blank_own, with_writes}
use Rattle.hy_machine.specs.declared.Setting.{Setting}
use Rattle.hy_protocol.specs.declared.Phase.TheVariants.{Working, Stamping}
use Rattle.hy_machine.specs.States.{State, Session, Open, Begun}
use Rattle.hy_machine.specs.Tables.{Entry, Cell, Own}
use Rattle.hy_machine.specs.Positions.{item_at}
use Rattle.hy_machine.specs.Saving.{count_at, own_at}
use Rattle.hy_protocol.specs.Turns.{Turn, Done, Waits, Begins, Visits, Answers, Saves, Enters, Ends}
use Rattle.hy_machine.specs.Turns.{phase_turn}
use Rattle.hy_machine.specs.Sessions.{session_at, program_of, snapshot, view, entry_of}
use Rattle.hy_machine.specs.Steps.{with_session, beginning, after_visit, after_answer, after_saving, done_with, order_with, after_turn}
use Rattle.hy_machine.specs.Runs.{IsReached}
use Rattle.hy_machine.specs.Kept.{IsNow}
use Rattle.hy_lawful.specs.Rows.{Demand, StatementMeets, SettingMeets, RowsMeet, ReachedEntriesStand}
use Rattle.hy_lawful.proofs.Fits.{FitsTables}
use Rattle.hy_lawful.proofs.Lists.{all_more, all_taken, one_of}
use Rattle.hy_lawful.proofs.Moves.{moved_to, sessions_moved}
use Rattle.hy_lawful.proofs.PassSteps.{reached_passes}
use Rattle.hy_lawful.proofs.PrintedTables.{pair_there}
use Rattle.hy_lawful.proofs.Reached.{fresh_at, reached_fits}
use Rattle.hy_lawful.proofs.ReachedBy.{reached_by}
use Rattle.hy_lawful.proofs.Tables.{got_of}
use Rattle.hy_lawful.proofs.Trails.{trail_all}
use Rattle.hy_lawful.proofs.ViewRows.{CellMeets, TablesMeet, OwnMeets, EntryMeets, WritesMeet, writes_meet, blank_meets, over_meets, snapshot_meets}
use Rattle.hy_lawful.proofs.ViewRows.{entry_meets, cell_meets, own_cell_meets, after_meets}
use Rattle.hy_lawful.proofs.ViewTurns.{TurnMeets, SeesMeet, phase_meets}

-- what an open transaction wrote meets the demand, if one is open
abbrev pub NowMeets : Demand → Option Open → Type 0
NowMeets P now = IfSome now (λ (current : Open). OwnMeets P current.begun.own)

-- and so does each row of its writes, one after another
abbrev pub TrailMeets : Demand → Option Open → Type 0
TrailMeets P now = IfSome now (λ (current : Open). WritesMeet P current.begun.trail)

-- what each entry and each open transaction wrote does
pub record StateMeets (P : Demand) (state : State) : Type 0 where
  pub order : AllByRecursion (EntryMeets P) state.order
  pub opens : (number : ℕ) → NowMeets P (session_at state number).now
  pub trails : (number : ℕ) → TrailMeets P (session_at state number).now

pub view_meets : (P : Demand) (setting : Setting) (state : State) (begun : Begun) → SettingMeets P setting → StateMeets P state → OwnMeets P begun.own
    → TablesMeet P (view setting state begun)
view_meets P setting state begun fit all own =
    over_meets P (λ (cell : Cell). cell) (snapshot setting state begun.prefix) begun.own
    (snapshot_meets P setting state.order begun.prefix fit.first_rows all.order) own

-- what was own when a transaction had written so much
pub first_own_meets : (P : Demand) (setting : Setting) (begun : Begun) (count : ℕ) → WritesMeet P begun.trail
    → OwnMeets P (with_writes (blank_own setting) (take count begun.trail))
first_own_meets P setting begun count h =
    writes_meet P (blank_own setting) (take count begun.trail) (blank_meets P setting)
    (all_taken (λ (write : Write). CellMeets P write.table write.cell) count begun.trail h)

sees_meet : (P : Demand) (setting : Setting) (state : State) (begun : Begun) → SettingMeets P setting → StateMeets P state → OwnMeets P begun.own
    → WritesMeet P begun.trail → SeesMeet P setting state begun
sees_meet P setting state begun fit all own trail = record {
  now = view_meets P setting state begun fit all own;
  saved = λ name.
      over_meets P (λ (cell : Cell). cell) (snapshot setting state begun.prefix) (own_at setting begun name)
      (snapshot_meets P setting state.order begun.prefix fit.first_rows all.order) (first_own_meets P setting begun (count_at begun name) trail);
}

-- ---- turns of an open transaction

moves_meet : (P : Demand) (state : State) (order : List Entry) (mark : Option ℕ) (number : ℕ) (session : Session) → StateMeets P state
    → number < length state.sessions → AllByRecursion (EntryMeets P) order → NowMeets P session.now → TrailMeets P session.now
    → StateMeets P (moved_to state order mark number session)
moves_meet P state order mark number session all there entries now trail = record {
  order = entries;
  opens = sessions_moved (λ other one. NowMeets P one.now) state order mark number session there now (λ other apart. all.opens other);
  trails = sessions_moved (λ other one. TrailMeets P one.now) state order mark number session there trail (λ other apart. all.trails other);
}

-- a turn of an open transaction leaves all so, if the rows that it writes meet the demand
turn_meets : (P : Demand) (setting : Setting) (state : State) (number : ℕ) (current : Open) → StateMeets P state → number < length state.sessions
    → (session_at state number).now ≡ Some current → OwnMeets P current.begun.own → WritesMeet P current.begun.trail → (turn : Turn Write)
    → TurnMeets P turn → StateMeets P (after_turn setting state number turn).0
turn_meets P setting state number current all there is own trail Done h = all
turn_meets P setting state number current all there is own trail (Waits by) h = all
turn_meets P setting state number current all there is own trail Begins h = absurd h
turn_meets P setting state number current all there is own trail (Visits writes phase) h =
    subst (λ (now : Option Open). StateMeets P
    (with_session state number (record { done = (session_at state number).done; now = option_map (after_visit writes phase) now })))
    (sym is)
    (moves_meet P state state.order state.mark number
    (record { done = (session_at state number).done; now = Some (after_visit writes phase current) }) all there all.order
    (writes_meet P current.begun.own writes own h)
    (trail_all (λ (write : Write). CellMeets P write.table write.cell) current.begun.trail writes trail h))
turn_meets P setting state number current all there is own trail (Answers writes reply took records) h =
    subst (λ (now : Option Open). StateMeets P
    (with_session state number (record { done = (session_at state number).done; now = option_map (after_answer writes reply took records) now })))
    (sym is)
    (moves_meet P state state.order state.mark number
    (record { done = (session_at state number).done; now = Some (after_answer writes reply took records current) }) all there all.order
    (writes_meet P current.begun.own writes own h)
    (trail_all (λ (write : Write). CellMeets P write.table write.cell) current.begun.trail writes trail h))
turn_meets P setting state number current all there is own trail (Saves statement reply) h =
    subst (λ (now : Option Open). StateMeets P
    (with_session state number (record { done = (session_at state number).done; now = option_map (after_saving statement reply) now })))
    (sym is)
    (moves_meet P state state.order state.mark number
    (record { done = (session_at state number).done; now = Some (after_saving statement reply current) }) all there all.order own trail)
turn_meets P setting state number current all there is own trail Enters h =
    subst (λ (now : Option Open). StateMeets P (moved_to state (order_with setting state number now) (Some number) number
    (record { done = (session_at state number).done; now = option_map (after_visit [] (Stamping 0)) now })))
    (sym is)
    (moves_meet P state (order_with setting state number (Some current)) (Some number) number
    (record { done = (session_at state number).done; now = Some (after_visit [] (Stamping 0) current) }) all there
    (all_more (EntryMeets P) state.order (entry_of setting state number current.begun) all.order
    (entry_meets P (snapshot setting state current.begun.prefix) current.begun.own own))
    own trail)
turn_meets P setting state number current all there is own trail (Ends ending) h =
    moves_meet P state state.order None number
    (record { done = done_with ending (session_at state number).done (session_at state number).now; now = None }) all there all.order tt tt

-- ---- steps

-- what holds of all statements of programs holds of those of a session's transaction
pub statements_so : (P : Bound → Type 0) (setting : Setting) (number before : ℕ) (txn : Txn)
    → All (λ (txns : List Txn). All (λ (txn : Txn). All P txn.statements) txns) setting.programs
    → slice_get (program_of setting number) before ≡ Some txn → AllByRecursion P txn.statements
statements_so P setting number before txn all e =
    recursion_from_All P txn.statements
    (one_of (λ (txn : Txn). All P txn.statements) (program_of setting number)
    (got_of (AllByRecursion (λ (txn : Txn). All P txn.statements)) setting.programs number [] sessions tt) before txn e)
  where
    each : (txns : List (List Txn)) → AllByRecursion (λ (txns : List Txn). All (λ (txn : Txn). All P txn.statements) txns) txns
        → AllByRecursion (AllByRecursion (λ (txn : Txn). All P txn.statements)) txns
    each [] h = tt
    each (txns ∷ others) h = (recursion_from_All (λ (txn : Txn). All P txn.statements) txns h.0, each others h.1)

    sessions : AllByRecursion (AllByRecursion (λ (txn : Txn). All P txn.statements)) setting.programs
    sessions = each setting.programs
        (recursion_from_All (λ (txns : List Txn). All (λ (txn : Txn). All P txn.statements) txns) setting.programs all)

pub reached_state_meets : (P : Demand) (setting : Setting) (state : State) → SettingMeets P setting → IsReached setting state → StateMeets P state
reached_state_meets P setting state fit = reached_by setting (StateMeets P) (record {
  begins = λ state number txn all may.
      moves_meet P state state.order state.mark number
      (record { done = (session_at state number).done; now = Some (record { begun = beginning setting state; phase = Working 0 0 }) }) all may.there all.order
      (blank_meets P setting) tt;
  turns = λ state number txn current all takes.
      let own : OwnMeets P current.begun.own = subst (NowMeets P) takes.is (all.opens number) in
      let trail : WritesMeet P current.begun.trail = subst (TrailMeets P) takes.is (all.trails number) in
      turn_meets P setting state number current all takes.there takes.is own trail (phase_turn setting state number txn current.begun current.phase)
      (phase_meets P setting state number txn current.begun current.phase
      (statements_so (StatementMeets P) setting number (length (session_at state number).done) txn fit.statements takes.at)
      (sees_meet P setting state current.begun fit all own trail));
})
    (record {
      order = tt;
      opens = λ number. subst (λ (session : Session). NowMeets P session.now) (sym (fresh_at setting number)) tt;
      trails = λ number. subst (λ (session : Session). TrailMeets P session.now) (sym (fresh_at setting number)) tt;
    }) state

-- ---- what is told of a state

first_meets : (P : Demand) (setting : Setting) (state : State) → StateMeets P state → (number : ℕ) (current : Open) → IsNow state number current
    → (count table pos : ℕ) (cell : Cell) → item_at (with_writes (blank_own setting) (take count current.begun.trail)) table pos ≡ Some cell
    → CellMeets P table cell
first_meets P setting state all number current is count table pos cell e =
    own_cell_meets P own table pos cell (first_own_meets P setting current.begun count (subst (TrailMeets P) is (all.trails number))) e
  where
    own : Own
    own = with_writes (blank_own setting) (take count current.begun.trail)

pub reached_rows_meet : (P : Demand) (setting : Setting) (state : State) → SettingMeets P setting → IsReached setting state → RowsMeet P setting state
reached_rows_meet P setting state fit r = record {
  tables = λ prefix table pos.
      cell_meets P (snapshot setting state prefix) table pos (snapshot_meets P setting state.order prefix fit.first_rows all.order);
  entries = λ rank entry stands table pos pair e. after_meets P entry (one_of (EntryMeets P) state.order all.order rank entry stands) table pos pair e;
  opens = first_meets P setting state all;
}
  where
    all : StateMeets P state
    all = reached_state_meets P setting state fit r

pub entries_stand : ReachedEntriesStand
entries_stand setting state r rank entry stands = record {
  tables = fits.tables;
  positions = fits.positions;
  befores = λ table pos pair e.
      (reached_passes setting state r).befores rank table pos pair (pair_there state.order rank entry stands table pos ∙ e);
}
  where
    fits : FitsTables setting entry.cells
    fits = one_of (λ (one : Entry). FitsTables setting one.cells) state.order (reached_fits setting state r).cells rank entry stands
