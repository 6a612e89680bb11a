-- What is known of a state at its end: its commit order is a serial history, and its transactions passed.
use Rattle.std.proofs.Common.{◌≡◌, ℕ, suc, ◌*◌, ◌<◌, ◌≤◌, List, [], Some, length, map, get_or, take, refl, ap, sym, ◌∙◌, subst, arith}
use Rattle.std.specs.Prelude.{IfSome, slice_get}
use Rattle.std.proofs.lemmas.List.{length-map, take_all, take-map}
use Rattle.std.proofs.lemmas.Option.{same_Some}
use Rattle.hy_bound.specs.declared.Bound.{Bound}
use Rattle.hy_bound.specs.Fits.{Fits as FitsScript}
use Rattle.hy_meaning.specs.Serial.{serial, database_of}
use Rattle.hy_stamp.specs.declared.Label.{Label}
use Rattle.hy_bound.specs.declared.Ending.{Ending}
use Rattle.hy_bound.specs.declared.Ending.TheVariants.{Committed, Read, RolledBack, Conflict, Invalid, Range, Full}
use Rattle.hy_render.specs.declared.Committed.{Committed as Committing}
use Rattle.hy_machine.specs.declared.Setting.{Setting}
use Rattle.hy_machine.specs.States.{State, Finished}
use Rattle.hy_machine.specs.Tables.{over}
use Rattle.hy_machine.specs.Sessions.{session_at, snapshot}
use Rattle.hy_machine.specs.Validation.{committed_of}
use Rattle.hy_machine.specs.Outcomes.{txn_outcome_of}
use Rattle.hy_replay.specs.Ran.{Ran, ran}
use Rattle.hy_replay.specs.Laws.{RunsAgain, RunsKeepWidths, bags_of}
use Rattle.hy_replay.specs.BagLaws.{RunsAreAlone, RunsLogAlone, logged_from}
use Rattle.hy_lawful.specs.Scripts.{statements_of}
use Rattle.hy_lawful.specs.Outcomes.{committed_at}
use Rattle.hy_lawful.specs.Reached.{AllHaveRun, AllPassedUnseen, EndedHasRun, PassedUnseen, statements_at}
use Rattle.hy_lawful.specs.Databases.{database_at, logged_by}
use Rattle.hy_lawful.specs.Endings.{AnswersAll}
use Rattle.hy_lawful.proofs.Fits.{Ends, IsCommitted}
use Rattle.hy_lawful.proofs.Followers.{done_fits}
use Rattle.hy_lawful.proofs.Over.{IsOver, HasCommitted, entry_committed}
use Rattle.hy_lawful.proofs.SerialHistory.{RanAt, History, serial_to}
use Rattle.hy_lawful.proofs.SerialScripts.{statements_behind, transactions_of, transaction_at, statements_stand}
use Rattle.hy_lawful.proofs.FullSince.{label_is as has_label}
use Rattle.hy_lawful.proofs.PrintedTables.{IsOrder}
use Rattle.hy_lawful.proofs.PassTables.{tables_are}
use Rattle.hy_lawful.proofs.PassStates.{EndPasses, Passes}
use Rattle.hy_machine.specs.Runs.{IsReached}
use Rattle.hy_lawful.proofs.Lists.{one_of}
use Rattle.hy_lawful.proofs.SerialTables.{opening_bags, opening_widths}
use Rattle.hy_lawful.proofs.WroteStates.{EndedAllWrote}

-- what is known of a state at its end
pub record AtEnd (setting : Setting) (state : State) : Type 0 where
  pub reached : IsReached setting state
  pub over : IsOver setting state
  pub ran : AllHaveRun setting state
  pub unseen : AllPassedUnseen setting state
  pub passes : Passes setting state
  pub wrote : EndedAllWrote setting state
  pub script : FitsScript setting.shapes (setting.chunks * setting.rows) setting.first setting.programs

-- the laws of transactions over positions
pub record Laws : Type 0 where
  pub again : RunsAgain
  pub keeps : RunsKeepWidths
  pub alone : RunsAreAlone
  pub logs : RunsLogAlone

-- an ended transaction that has committed
pub record Commits (setting : Setting) (state : State) (number before : ℕ) (finished : Finished) (rank : ℕ) : Type 0 where
  pub at : slice_get (session_at state number).done before ≡ Some finished
  pub ending : finished.ending ≡ Committed rank

-- the rank at which an ending commits
pub ending_at : (ending : Ending) (rank : ℕ) → committed_at ending ≡ Some rank → ending ≡ Committed rank
ending_at (Committed other) rank e = ap Committed (same_Some other rank e)
ending_at Read rank e = absurd cc
ending_at RolledBack rank e = absurd cc
ending_at (Conflict table pos other) rank e = absurd cc
ending_at (Invalid table pos other statement) rank e = absurd cc
ending_at (Range table pos) rank e = absurd cc
ending_at (Full table) rank e = absurd cc

-- as many transactions as entries
pub transactions_length : (setting : Setting) (state : State) → length (transactions_of setting.programs state.order) ≡ length state.order
transactions_length setting state =
    length-map (map committed_of state.order) (λ (entry : Committing). statements_of setting.programs entry.label) ∙ length-map state.order committed_of

-- ---- transactions at their ranks

pub stands_committed : (setting : Setting) (state : State) → AtEnd setting state → (number before : ℕ) (finished : Finished) (rank : ℕ)
    → Commits setting state number before finished rank → IsCommitted setting state.order (txn_outcome_of setting number before finished) rank
stands_committed setting state end number before finished rank c =
    subst (Ends setting state.order (txn_outcome_of setting number before finished)) c.ending
    (done_fits setting state end.over.fits number before finished c.at).ends

-- it has answered all its statements
pub answered_all : (setting : Setting) (number before : ℕ) (finished : Finished)
    → AnswersAll setting.programs (txn_outcome_of setting number before finished)
    → take (length finished.begun.replies) (statements_at setting number before) ≡ statements_at setting number before
answered_all setting number before finished answers =
    let same : statements_of setting.programs (record { session = number; txn = suc before }) ≡ statements_at setting number before =
    statements_behind setting (record { session = number; txn = suc before }) before refl in
    take_all (length finished.begun.replies) (statements_at setting number before) (omega (arith, answers, ap length same))

pub all_answered : (setting : Setting) (state : State) → AtEnd setting state → (number before : ℕ) (finished : Finished) (rank : ℕ)
    → Commits setting state number before finished rank
    → take (length finished.begun.replies) (statements_at setting number before) ≡ statements_at setting number before
all_answered setting state end number before finished rank c =
    answered_all setting number before finished (stands_committed setting state end number before finished rank c).ends.answers

pub ran_at : (setting : Setting) (state : State) (end : AtEnd setting state) → (number before : ℕ) (finished : Finished) (rank : ℕ)
    → (c : Commits setting state number before finished rank)
    → RanAt setting (snapshot setting state) (statements_at setting number before) (end.ran number before finished c.at).given rank
ran_at setting state end number before finished rank c =
    let has : EndedHasRun setting state number before finished = end.ran number before finished c.at in
    let passed : PassedUnseen setting state finished.begun rank =
    subst (λ (ending : Ending). IfSome (committed_at ending) (PassedUnseen setting state finished.begun)) c.ending
    (end.unseen number before finished c.at) in
    let own : has.given.own ≡ finished.begun.own =
    subst (λ (ending : Ending). IfSome (committed_at ending) (λ (rank : ℕ). has.given.own ≡ finished.begun.own)) c.ending has.wrote in
    record {
      took = finished.begun.took;
      start = finished.begun.prefix;
      later = (stands_committed setting state end number before finished rank c).later;
      came_to = subst (λ (statements : List Bound). ran setting (snapshot setting state finished.begun.prefix) statements finished.begun.took ≡ Some has.given)
          (all_answered setting state end number before finished rank c) has.has_run.came_to;
      stand = statements_stand setting end.script.sessions number before;
      positions = has.has_run.positions;
      unseen = λ at low below. rw (own, has.has_run.records) (passed.unseen at low below);
      lays = passed.lays ∙ sym (ap (over (snapshot setting state rank)) own);
    }

-- ---- the commit order

-- the transaction of each rank
pub ran_in_order : (setting : Setting) (state : State) → AtEnd setting state → (rank : ℕ) → rank < length (transactions_of setting.programs state.order)
    → (given : Ran) × RanAt setting (snapshot setting state) (get_or (transactions_of setting.programs state.order) rank []) given rank
ran_in_order setting state end rank below =
    let there = has_label state.order rank (omega (arith, below, transactions_length setting state)) in
    let committed : HasCommitted state there.0 rank = entry_committed setting state end.over rank there.0 (end.over.fits.ranked rank there.0 there.1) in
    let same : statements_at setting there.0.session committed.has.before ≡ get_or (transactions_of setting.programs state.order) rank [] =
    sym (transaction_at setting.programs state.order rank there.0 there.1 ∙ statements_behind setting there.0 committed.has.before committed.has.is) in
    let c : Commits setting state there.0.session committed.has.before committed.has.finished rank =
    record { at = committed.has.at; ending = committed.ending } in
    let given : Ran = (end.ran there.0.session committed.has.before committed.has.finished committed.has.at).given in (
      given,
      subst (λ (statements : List Bound). RanAt setting (snapshot setting state) statements given rank) same
          (ran_at setting state end there.0.session committed.has.before committed.has.finished rank c),
    )

pub history_of : (setting : Setting) (state : State) → AtEnd setting state
    → History setting (snapshot setting state) (transactions_of setting.programs state.order)
history_of setting state end = record {
  shapes = end.script.tables;
  are = tables_are setting state.order;
  wide = opening_widths setting end.script.first_rows;
  ran = ran_in_order setting state end;
}

-- the tables of a prefix have the rows that the transactions of its entries leave alone, one after another
pub bags_at : Laws → (setting : Setting) (state : State) → AtEnd setting state → (rank : ℕ) → rank ≤ length state.order
    → bags_of (snapshot setting state rank) ≡ database_at setting (map committed_of state.order) rank
bags_at laws setting state end rank below =
    let transactions : List (List Bound) = transactions_of setting.programs state.order in
    serial_to laws.again laws.keeps laws.alone setting (snapshot setting state) transactions (history_of setting state end) rank
    (omega (arith, below, transactions_length setting state))
    ∙ (ap (serial setting.shapes (take rank transactions)) (opening_bags setting end.script.first_rows)
    ∙ ap (λ (some : List (List Bound)). serial setting.shapes some (database_of setting.first))
    (take-map (λ (entry : Committing). statements_of setting.programs entry.label) rank (map committed_of state.order)))

-- what is known of the order of the entries
pub order_of : (setting : Setting) (state : State) → AtEnd setting state → IsOrder setting state.order
order_of setting state end = record { rows = end.script.first_rows; fit = end.over.fits.cells; befores = end.passes.befores }

-- what stands of an ended transaction that passes
pub end_passes : (setting : Setting) (state : State) → AtEnd setting state → (number before : ℕ) (finished : Finished)
    → slice_get (session_at state number).done before ≡ Some finished → EndPasses setting state.order finished
end_passes setting state end number before finished at =
    one_of (EndPasses setting state.order) (session_at state number).done (end.passes.sessions number).done before finished at

-- one that has answered all its statements has the records that it logs alone
pub logs_alone : Laws → (setting : Setting) (state : State) → AtEnd setting state → (number before : ℕ) (finished : Finished)
    → slice_get (session_at state number).done before ≡ Some finished
    → take (length finished.begun.replies) (statements_at setting number before) ≡ statements_at setting number before
    → finished.begun.records ≡ logged_by setting (map committed_of state.order) (txn_outcome_of setting number before finished)
logs_alone laws setting state end number before finished at answered =
    let has : EndedHasRun setting state number before finished = end.ran number before finished at in
    let start : ℕ = finished.begun.prefix in
    let statements : List Bound = statements_at setting number before in
    let label : Label = record { session = number; txn = suc before } in
    sym has.has_run.records
    ∙ (laws.logs setting (snapshot setting state start) (take (length finished.begun.replies) statements) finished.begun.took has.given
    (tables_are setting state.order start) has.has_run.positions has.has_run.came_to
    ∙ (ap (λ (some : List Bound). logged_from setting.shapes [] 1 some (bags_of (snapshot setting state start))) answered
    ∙ (ap (logged_from setting.shapes [] 1 statements)
    (bags_at laws setting state end start (done_fits setting state end.over.fits number before finished at).start)
    ∙ ap (λ (some : List Bound). logged_from setting.shapes [] 1 some (database_at setting (map committed_of state.order) start))
    (sym (statements_behind setting label before refl)))))
