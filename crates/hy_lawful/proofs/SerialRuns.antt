-- What the machine comes to is serializable, in the order of its commits.
use Rattle.std.proofs.Common.{◌≡◌, ℕ, suc, ◌<◌, ◌≤◌, List, [], Option, None, Some, length, map, take, refl, ap, sym, ◌∙◌, subst, arith}
use Rattle.std.specs.Prelude.{IfSome, slice_get}
use Rattle.std.specs.List.{AllByRecursion}
use Rattle.std.specs.Option.{IsSomeAnd}
use Rattle.std.proofs.lemmas.List.{length-map, take_all}
use Rattle.std.proofs.lemmas.Option.{IfSome_then}
use Rattle.hy_bound.specs.declared.Bound.{Bound}
use Rattle.hy_bound.specs.declared.Record.{Record}
use Rattle.hy_bound.specs.declared.Reply.{Reply}
use Rattle.hy_meaning.specs.Statement.{Database}
use Rattle.hy_meaning.specs.Serial.{Alone, alone_of}
use Rattle.hy_bound.specs.declared.Ending.{Ending}
use Rattle.hy_render.specs.declared.TxnOutcome.{TxnOutcome}
use Rattle.hy_render.specs.declared.Committed.{Committed as Committing}
use Rattle.hy_machine.specs.declared.Setting.{Setting}
use Rattle.hy_machine.specs.States.{State, Finished}
use Rattle.hy_machine.specs.Tables.{Entry, Tables, history, opening_tables}
use Rattle.hy_machine.specs.Sessions.{session_at, snapshot}
use Rattle.hy_machine.specs.Writes.{written}
use Rattle.hy_machine.specs.Validation.{committed_of}
use Rattle.hy_machine.specs.Outcomes.{txn_outcome_of, outcome_of}
use Rattle.hy_replay.specs.Ran.{ran}
use Rattle.hy_replay.specs.Laws.{RunsAgain, RunsKeepWidths, bags_of}
use Rattle.hy_replay.specs.BagLaws.{RunsAreAlone, RunsLogAlone, alone_as}
use Rattle.hy_lawful.specs.Outcomes.{committed_at}
use Rattle.hy_lawful.specs.Reached.{EndedHasRun, ReachedHaveRun, ReachedPassUnseen, statements_at}
use Rattle.hy_lawful.specs.Databases.{alone_at, database_at}
use Rattle.hy_lawful.specs.Refusing.{IsRefusedBy}
use Rattle.hy_lawful.specs.Serial.{AreFirstOf, IsSerial, RepliesAreOfStart, ReplaysAt}
use Rattle.hy_lawful.specs.Passing.{PassesBy, ChangesLieIn}
use Rattle.hy_lawful.specs.Written.{ReadersWriteNothing, PlacesWhatItInserts, WritesWhatItPlaces, WritesWhatItSelects}
use Rattle.hy_lawful.specs.Written.{ChangesWhatWasWritten, LeavesWhatFollows}
use Rattle.hy_lawful.specs.Laws.{SerialEnds}
use Rattle.hy_lawful.proofs.Followers.{done_fits}
use Rattle.hy_lawful.proofs.Outcomes.{each_outcome}
use Rattle.hy_lawful.proofs.Over.{is_over}
use Rattle.hy_lawful.proofs.Reached.{reached_fits}
use Rattle.hy_lawful.proofs.SerialAlone.{first_replies}
use Rattle.hy_lawful.proofs.SerialHistory.{alone_at_rank}
use Rattle.hy_lawful.proofs.SerialScripts.{statements_behind, transactions_of}
use Rattle.hy_lawful.proofs.Grows.{label_within}
use Rattle.hy_lawful.proofs.PrintedTables.{changes_at, bags_are}
use Rattle.hy_lawful.proofs.PassTables.{tables_are}
use Rattle.hy_lawful.proofs.PassStates.{Passed}
use Rattle.hy_lawful.proofs.PassSteps.{reached_passes}
use Rattle.hy_lawful.proofs.PrintedPlaces.{pass_by, lies_in}
use Rattle.hy_lawful.proofs.SerialEnd.{ending_at, transactions_length, stands_committed, all_answered, ran_at}
use Rattle.hy_lawful.proofs.SerialEnd.{history_of, bags_at, order_of, end_passes, logs_alone, AtEnd, Laws, Commits}
use Rattle.hy_lawful.proofs.SerialRefusals.{refused_by}
use Rattle.hy_lawful.proofs.WroteStates.{ended_wrote}
use Rattle.hy_lawful.proofs.KeptChanges.{changes_what_was_written}
use Rattle.hy_lawful.proofs.WroteSerial.{IsEnded, reader_wrote, inserts_placed, news_placed, selected_written, entry_leaves}

-- ---- the clauses

-- what a transaction gives alone, by its statements over the tables of a prefix
alone_there : Laws → (setting : Setting) (state : State) → AtEnd setting state → (number before rank : ℕ) → rank ≤ length state.order
    → alone_of setting.shapes (statements_at setting number before) (bags_of (snapshot setting state rank))
    ≡ alone_at setting (map committed_of state.order) (record { session = number; txn = suc before }) rank
alone_there laws setting state end number before rank below =
    ap (alone_of setting.shapes (statements_at setting number before)) (bags_at laws setting state end rank below)
    ∙ ap (λ (statements : List Bound). alone_of setting.shapes statements (database_at setting (map committed_of state.order) rank))
    (sym (statements_behind setting (record { session = number; txn = suc before }) before refl))

replies_of_start : Laws → (setting : Setting) (state : State) → AtEnd setting state → (number before : ℕ) (finished : Finished)
    → slice_get (session_at state number).done before ≡ Some finished
    → RepliesAreOfStart setting (map committed_of state.order) (txn_outcome_of setting number before finished)
replies_of_start laws setting state end number before finished at =
    let has : EndedHasRun setting state number before finished = end.ran number before finished at in
    let start : ℕ = finished.begun.prefix in
    let many : ℕ = length finished.begun.replies in
    let statements : List Bound = statements_at setting number before in
    let db : Database = bags_of (snapshot setting state start) in
    let first : alone_of setting.shapes (take many statements) db ≡ alone_as (snapshot setting state start) has.given =
    laws.alone setting (snapshot setting state start) (take many statements) finished.begun.took has.given (tables_are setting state.order start)
    has.has_run.positions has.has_run.came_to in
    let told : (alone_of setting.shapes (take many statements) db).replies ≡ finished.begun.replies =
    ap (λ (one : Alone). one.replies) first ∙ has.has_run.replies in
    let begins : AreFirstOf finished.begun.replies (alone_of setting.shapes statements db).replies =
    subst (λ (replies : List Reply). AreFirstOf replies (alone_of setting.shapes statements db).replies) told
    (first_replies setting.shapes [] 1 many statements db (ap (λ (one : Alone). one.stop) first)) in
    subst (λ (one : Alone). AreFirstOf finished.begun.replies one.replies)
    (alone_there laws setting state end number before start (done_fits setting state end.over.fits number before finished at).start) begins

passed_at : (setting : Setting) (state : State) → AtEnd setting state → (number before : ℕ) (finished : Finished) (rank : ℕ)
    → Commits setting state number before finished rank → Passed setting state.order finished.begun rank
passed_at setting state end number before finished rank c =
    subst (λ (ending : Ending). IfSome (committed_at ending) (Passed setting state.order finished.begun)) c.ending
    (end_passes setting state end number before finished c.at).0

replays_at : Laws → (setting : Setting) (state : State) → AtEnd setting state → (number before : ℕ) (finished : Finished) (rank : ℕ)
    → Commits setting state number before finished rank
    → ReplaysAt setting (map committed_of state.order) (txn_outcome_of setting number before finished) rank
replays_at laws setting state end number before finished rank c =
    let has : EndedHasRun setting state number before finished = end.ran number before finished c.at in
    let below : rank < length state.order =
    label_within state.order rank (record { session = number; txn = suc before }) (stands_committed setting state end number before finished rank c).stands in
    let there : Tables = snapshot setting state rank in
    let given : alone_of setting.shapes (statements_at setting number before) (bags_of there) ≡ alone_as there has.given =
    alone_at_rank laws.again laws.keeps laws.alone setting (snapshot setting state) (transactions_of setting.programs state.order)
    (history_of setting state end) (statements_at setting number before) has.given rank (ran_at setting state end number before finished rank c)
    (omega (arith, below, transactions_length setting state)) in
    let is : alone_at setting (map committed_of state.order) (record { session = number; txn = suc before }) rank ≡ alone_as there has.given =
    sym (alone_there laws setting state end number before rank (omega (arith, below))) ∙ given in
    record {
      gives = ap (λ (one : Alone). one.replies) is ∙ has.has_run.replies;
      runs_on = ap (λ (one : Alone). one.stop) is;
      passed = subst (λ (records : List Record). (at : ℕ) → finished.begun.prefix ≤ at → at < rank
          → IfSome (slice_get (map committed_of state.order) at) (PassesBy (written finished.begun.own) records))
          (logs_alone laws setting state end number before finished c.at (all_answered setting state end number before finished rank c))
          (pass_by setting state.order finished.begun rank (passed_at setting state end number before finished rank c));
    }

-- where it has committed
replays : Laws → (setting : Setting) (state : State) → AtEnd setting state → (number before : ℕ) (finished : Finished)
    → slice_get (session_at state number).done before ≡ Some finished → (rank : Option ℕ) → committed_at finished.ending ≡ rank
    → IfSome rank (ReplaysAt setting (map committed_of state.order) (txn_outcome_of setting number before finished))
replays laws setting state end number before finished at None e = tt
replays laws setting state end number before finished at (Some rank) e =
    replays_at laws setting state end number before finished rank (record { at = at; ending = ending_at finished.ending rank e })

-- its entry changes what it wrote
entry_there : (setting : Setting) (state : State) → AtEnd setting state → (number before : ℕ) (finished : Finished)
    → slice_get (session_at state number).done before ≡ Some finished
    → IfSome (committed_at finished.ending)
    (λ (rank : ℕ). IsSomeAnd (slice_get (map committed_of state.order) rank) (ChangesLieIn (written finished.begun.own)))
entry_there setting state end number before finished at =
    IfSome_then (committed_at finished.ending) (end_passes setting state end number before finished at).0
    (λ rank p. lies_in setting state.order finished.begun rank p)

-- and all of it that had a row at the start
entry_changed : (setting : Setting) (state : State) → AtEnd setting state → (number before : ℕ) (finished : Finished)
    → slice_get (session_at state number).done before ≡ Some finished → (rank : Option ℕ) → committed_at finished.ending ≡ rank
    → IfSome rank (λ (rank : ℕ). IsSomeAnd (slice_get (map committed_of state.order) rank)
    (ChangesWhatWasWritten setting (map committed_of state.order) (txn_outcome_of setting number before finished)))
entry_changed setting state end number before finished at None e = tt
entry_changed setting state end number before finished at (Some rank) e =
    let c : Commits setting state number before finished rank = record { at = at; ending = ending_at finished.ending rank e } in
    changes_what_was_written setting state.order (order_of setting state end) finished.begun rank
    (stands_committed setting state end number before finished rank c).later (passed_at setting state end number before finished rank c)

-- what is known of what an ended transaction wrote
is_ended : (setting : Setting) (state : State) → AtEnd setting state → (number before : ℕ) (finished : Finished)
    → slice_get (session_at state number).done before ≡ Some finished → IsEnded setting state.order number before finished
is_ended setting state end number before finished at = record { is = order_of setting state end; wrote = end.wrote number before finished at }

-- what its entry leaves, where it has committed
entry_left : (setting : Setting) (state : State) → AtEnd setting state → (number before : ℕ) (finished : Finished)
    → slice_get (session_at state number).done before ≡ Some finished → (rank : Option ℕ) → committed_at finished.ending ≡ rank
    → IfSome rank (λ (rank : ℕ). IsSomeAnd (slice_get (map committed_of state.order) rank) (λ (entry : Committing).
    AllByRecursion (LeavesWhatFollows setting (map committed_of state.order) (txn_outcome_of setting number before finished)) entry.changes))
entry_left setting state end number before finished at None e = tt
entry_left setting state end number before finished at (Some rank) e =
    entry_leaves setting state.order number before finished (is_ended setting state end number before finished at) rank (ending_at finished.ending rank e)
    (passed_at setting state end number before finished rank (record { at = at; ending = ending_at finished.ending rank e }))

all_tables : Laws → (setting : Setting) (state : State) → AtEnd setting state
    → (outcome_of setting state).tables ≡ database_at setting (map committed_of state.order) (length (map committed_of state.order))
all_tables laws setting state end =
    let all : take (length state.order) state.order ≡ state.order = take_all (length state.order) state.order (omega arith) in
    ap (λ (order : List Entry). bags_of (history (opening_tables setting) order)) (sym all)
    ∙ (bags_at laws setting state end (length state.order) (omega arith)
    ∙ ap (database_at setting (map committed_of state.order)) (sym (length-map state.order committed_of)))

end_serial : Laws → (setting : Setting) (state : State) → AtEnd setting state → IsSerial setting (outcome_of setting state)
end_serial laws setting state end = record {
  replies = each_outcome setting (RepliesAreOfStart setting (map committed_of state.order)) state (replies_of_start laws setting state end);
  replays = each_outcome setting (λ (txn : TxnOutcome). IfSome (committed_at txn.ending) (ReplaysAt setting (map committed_of state.order) txn)) state
      (λ number before finished at. replays laws setting state end number before finished at (committed_at finished.ending) refl);
  tables = all_tables laws setting state end;
  entries = each_outcome setting
      (λ (txn : TxnOutcome). IfSome (committed_at txn.ending)
      (λ (rank : ℕ). IsSomeAnd (slice_get (map committed_of state.order) rank) (ChangesLieIn txn.wrote)))
      state (entry_there setting state end);
  changed = each_outcome setting (λ (txn : TxnOutcome). IfSome (committed_at txn.ending)
      (λ (rank : ℕ). IsSomeAnd (slice_get (map committed_of state.order) rank) (ChangesWhatWasWritten setting (map committed_of state.order) txn))) state
      (λ number before finished at. entry_changed setting state end number before finished at (committed_at finished.ending) refl);
  refusals = each_outcome setting (λ (txn : TxnOutcome). IsRefusedBy setting (outcome_of setting state) txn txn.ending) state
      (λ number before finished at. refused_by laws setting state end number before finished at finished.ending refl);
  changes = changes_at setting state.order (order_of setting state end);
  history = λ rank below. bags_are setting state.order (order_of setting state end) rank
      ∙ bags_at laws setting state end rank (omega (arith, below, length-map state.order committed_of));
  readers = each_outcome setting (ReadersWriteNothing setting) state (λ number before finished at.
      reader_wrote setting state.order number before finished (is_ended setting state end number before finished at));
  inserted = each_outcome setting (PlacesWhatItInserts setting) state (λ number before finished at.
      inserts_placed setting state.order number before finished (is_ended setting state end number before finished at));
  placed = each_outcome setting (WritesWhatItPlaces setting (map committed_of state.order)) state (λ number before finished at.
      news_placed setting state.order number before finished (is_ended setting state end number before finished at));
  leaves = each_outcome setting (λ (txn : TxnOutcome). IfSome (committed_at txn.ending)
      (λ (rank : ℕ). IsSomeAnd (slice_get (map committed_of state.order) rank)
      (λ (entry : Committing). AllByRecursion (LeavesWhatFollows setting (map committed_of state.order) txn) entry.changes))) state
      (λ number before finished at. entry_left setting state end number before finished at (committed_at finished.ending) refl);
  wrote = each_outcome setting (WritesWhatItSelects setting (map committed_of state.order)) state (λ number before finished at.
      selected_written setting state.order number before finished (is_ended setting state end number before finished at));
}

-- ---- the end

-- a state that the machine comes to, and in which every session has ended, has a serializable outcome
pub serial_ends : ReachedHaveRun → ReachedPassUnseen → RunsAgain → RunsKeepWidths → RunsAreAlone → RunsLogAlone → SerialEnds
serial_ends ran unseen again keeps alone logs setting state reached ended chunked script =
    end_serial (record { again = again; keeps = keeps; alone = alone; logs = logs }) setting state
    (record {
      over = is_over setting state (reached_fits setting state reached) ended;
      ran = ran setting state chunked reached;
      unseen = unseen setting state reached;
      passes = reached_passes setting state reached;
      wrote = ended_wrote setting state chunked reached;
      script = script;
      reached = reached;
    })
