-- What the outcome of an ended transaction tells of what it wrote.
use Rattle.std.proofs.Common.{◌≡◌, ℕ, suc, ◌+◌, List, Some, length, take, map, refl, ap, sym, ◌∙◌, subst, arith}
use Rattle.std.specs.Prelude.{slice_get, ◌==◌, is_none, ◌||◌, ◌&&◌}
use Rattle.std.specs.List.{AllByRecursion, list_any, range_with_len}
use Rattle.std.specs.Option.{IsSomeAnd}
use Rattle.hy_value.specs.declared.Value.{Value}
use Rattle.hy_bound.specs.declared.Bound.{Bound}
use Rattle.hy_bound.specs.declared.Ending.TheVariants.{Committed}
use Rattle.hy_render.specs.declared.TxnOutcome.{TxnOutcome}
use Rattle.hy_render.specs.declared.Committed.{Committed as Committing}
use Rattle.hy_machine.specs.declared.Setting.{Setting}
use Rattle.hy_machine.specs.Tables.{Entry, Cell, Tables}
use Rattle.hy_machine.specs.States.{Finished}
use Rattle.hy_render.specs.declared.Place.{Place}
use Rattle.hy_machine.specs.Writes.{written}
use Rattle.hy_machine.specs.Validation.{committed_of}
use Rattle.hy_machine.specs.Outcomes.{txn_outcome_of}
use Rattle.hy_lawful.specs.Scripts.{statements_of}
use Rattle.hy_lawful.specs.Cells.{cell_at}
use Rattle.hy_lawful.specs.Passing.{has_place}
use Rattle.hy_lawful.specs.Reached.{statements_at}
use Rattle.hy_lawful.specs.Written.{is_change, inserted_in, followed, some_writes, would_write, refused_at, is_in_chunk_before, has_written}
use Rattle.hy_lawful.specs.Written.{answered_statements, new_in}
use Rattle.hy_lawful.specs.Written.{ReadersWriteNothing, PlacesWhatItInserts, WritesWhatItPlaces, WritesWhatItSelects, LeavesWhatFollows}
use Rattle.hy_lawful.proofs.SerialScripts.{statements_behind}
use Rattle.hy_lawful.proofs.PrintedChanges.{all_changes}
use Rattle.hy_lawful.proofs.PrintedTables.{IsOrder, if_some, pair_there, printed_is}
use Rattle.hy_lawful.proofs.PrintedPlaces.{mapped_and}
use Rattle.hy_lawful.proofs.PassTables.{tables_at}
use Rattle.hy_lawful.proofs.PassStates.{Passed}
use Rattle.hy_lawful.proofs.WroteSweeps.{HadWritten}
use Rattle.hy_lawful.proofs.WroteStates.{EndedWrote}
use Rattle.hy_lawful.proofs.WroteInserts.{readers_write_nothing, placed_below, places_what_it_inserts}
use Rattle.hy_lawful.proofs.WroteCounts.{count_from}
use Rattle.hy_lawful.proofs.WroteNew.{is_new, news_are_placed}
use Rattle.hy_lawful.proofs.WroteEnds.{writes_what_it_selects, leaves_what_follows}

-- an ended transaction, with so many before it in its session, in the commit order
pub record IsEnded (setting : Setting) (order : List Entry) (number before : ℕ) (finished : Finished) : Type 0 where
  pub is : IsOrder setting order
  pub wrote : EndedWrote setting order (statements_at setting number before) finished

same_statements : (setting : Setting) (number before : ℕ)
    → statements_of setting.programs (record { session = number; txn = suc before }) ≡ statements_at setting number before
same_statements setting number before = statements_behind setting (record { session = number; txn = suc before }) before refl

pub reader_wrote : (setting : Setting) (order : List Entry) (number before : ℕ) (finished : Finished) → IsEnded setting order number before finished
    → ReadersWriteNothing setting (txn_outcome_of setting number before finished)
reader_wrote setting order number before finished end reads =
    readers_write_nothing setting order (statements_at setting number before) finished end.wrote
    (ap (list_any is_change) (sym (same_statements setting number before)) ∙ reads)

pub inserts_placed : (setting : Setting) (order : List Entry) (number before : ℕ) (finished : Finished) → IsEnded setting order number before finished
    → PlacesWhatItInserts setting (txn_outcome_of setting number before finished)
inserts_placed setting order number before finished end =
    ap (λ (statements : List Bound). map (inserted_in statements finished.begun.replies) (range_with_len 0 (length setting.first)))
    (same_statements setting number before)
    ∙ places_what_it_inserts setting order (statements_at setting number before) finished end.wrote

pub news_placed : (setting : Setting) (order : List Entry) (number before : ℕ) (finished : Finished) → IsEnded setting order number before finished
    → WritesWhatItPlaces setting (map committed_of order) (txn_outcome_of setting number before finished)
news_placed setting order number before finished end =
    let txn : TxnOutcome = txn_outcome_of setting number before finished in
    let tables : Tables = tables_at setting order finished.begun.prefix in
    placed_below (new_in setting (map committed_of order) txn) (statements_at setting number before) finished.begun.took 0 (length setting.first)
    setting.first (omega arith)
    (λ table below. count_from
    (λ (place : Place). place.table == table && is_none (cell_at setting (map committed_of order) finished.begun.prefix place.table place.pos))
    (is_new tables table) 0 finished.begun.own
    (λ at pos. ap (λ (n : ℕ). n == table && is_none (cell_at setting (map committed_of order) finished.begun.prefix n pos))
    (let same : 0 + at ≡ at = omega arith in same)
    ∙ ap (λ (cell : Cell). at == table && is_none cell) (printed_is setting order end.is finished.begun.prefix at pos))
    ∙ news_are_placed setting order (statements_at setting number before) finished end.wrote table below)

pub selected_written : (setting : Setting) (order : List Entry) (number before : ℕ) (finished : Finished) → IsEnded setting order number before finished
    → WritesWhatItSelects setting (map committed_of order) (txn_outcome_of setting number before finished)
selected_written setting order number before finished end table pos =
    let many : ℕ = length finished.begun.replies in
    if_some (λ (row : List Value). has_place (written finished.begun.own) table pos
    ≡ has_written setting (txn_outcome_of setting number before finished) table pos (Some row))
    (cell_at setting (map committed_of order) finished.begun.prefix table pos)
    (λ row e. writes_what_it_selects setting order (statements_at setting number before) finished end.wrote table pos row
    (sym (printed_is setting order end.is finished.begun.prefix table pos) ∙ e)
    ∙ ap (λ (statements : List Bound). some_writes table (take many statements) (Some row)
    || (is_in_chunk_before setting.rows (refused_at table finished.ending) pos
    && would_write table (slice_get statements many) (followed table (take many statements) (Some row))))
    (sym (same_statements setting number before)))

pub entry_leaves : (setting : Setting) (order : List Entry) (number before : ℕ) (finished : Finished) → IsEnded setting order number before finished
    → (rank : ℕ) → finished.ending ≡ Committed rank → Passed setting order finished.begun rank
    → IsSomeAnd (slice_get (map committed_of order) rank) (λ (entry : Committing).
    AllByRecursion (LeavesWhatFollows setting (map committed_of order) (txn_outcome_of setting number before finished)) entry.changes)
entry_leaves setting order number before finished end rank committed passed =
    let many : ℕ = length finished.begun.replies in
    let statements : List Bound = statements_at setting number before in
    let txn : TxnOutcome = txn_outcome_of setting number before finished in
    mapped_and (λ (entry : Committing). AllByRecursion (LeavesWhatFollows setting (map committed_of order) txn) entry.changes) committed_of order rank
    passed.within (λ entry here. all_changes (LeavesWhatFollows setting (map committed_of order) txn) entry.cells
    (λ table pos pair e some. if_some (λ (row : List Value). pair.after ≡ followed table (answered_statements setting.programs txn) (Some row))
    (cell_at setting (map committed_of order) finished.begun.prefix table pos)
    (λ row h. leaves_what_follows setting order statements finished end.wrote end.is.fit rank passed
    (subst (HadWritten setting (tables_at setting order finished.begun.prefix) statements finished.begun end.wrote.given) committed end.wrote.wrote)
    table pos pair (pair_there order rank entry here table pos ∙ e) row
    (sym (printed_is setting order end.is finished.begun.prefix table pos) ∙ h)
    ∙ ap (λ (of : List Bound). followed table (take many of) (Some row)) (sym (same_statements setting number before)))))
