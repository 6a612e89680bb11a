-- In the outcomes of a script that is made each transaction is committed, has only read, is in conflict or is invalid.
use Rattle.std.proofs.Common.{◌≡◌, ℕ, ◌+◌, ◌*◌, ◌≤◌, false, not, List, [], ◌∷◌, Option, Some, None, length, refl, map, arith}
use Rattle.std.specs.Prelude.{take, IsTrue, IfSome}
use Rattle.std.specs.List.{AllByRecursion, list_any}
use Rattle.std.proofs.lemmas.Bool.{both_ways, not_from_true}
use Rattle.std.proofs.lemmas.List.{length-map, length-take}
use Rattle.hy_bound.specs.declared.Bound.{Bound}
use Rattle.hy_bound.specs.declared.Txn.{Txn}
use Rattle.hy_meaning.specs.Serial.{alone_of, database_of}
use Rattle.hy_bound.specs.declared.Ending.{Ending}
use Rattle.hy_bound.specs.declared.Ending.TheVariants.{Committed, Read, RolledBack, Conflict, Invalid, Range, Full}
use Rattle.hy_render.specs.declared.TxnOutcome.{TxnOutcome}
use Rattle.hy_render.specs.declared.Committed.{Committed as Entry}
use Rattle.hy_render.specs.declared.Outcome.{Outcome}
use Rattle.hy_machine.specs.declared.Setting.{Setting}
use Rattle.hy_lawful.specs.Scripts.{txn_of, statements_of, ClosesWithRollback}
use Rattle.hy_lawful.specs.Outcomes.{refused_statement}
use Rattle.hy_lawful.specs.Endings.{inserts, MayEnd}
use Rattle.hy_lawful.specs.Refusing.{goes_out, IsOutOfRangeAt, IsRefusedBy}
use Rattle.hy_lawful.specs.Databases.{database_at, rows_left}
use Rattle.hy_bank.specs.Outcomes.{made_setting}
use Rattle.hy_bank.specs.Endings.{IsEndingOfBank, MadeEndInFourWays}
use Rattle.hy_bank.proofs.Turns.{all_so, all_both, all_in_front}
use Rattle.hy_bank.proofs.EndRows.{IsModest, reads, moves, HoldsWithin, holds_wider, alone_within, none_goes_out}
use Rattle.hy_bank.proofs.EndTxns.{CommitsModestly, AreModest, labelled_commits, labelled_are_modest, statement_is_modest, serial_within, made_commit}
use Rattle.hy_bank.proofs.EndFirst.{begins_within}
use Rattle.hy_bank.proofs.EndOrder.{order_of_made_is_short}

-- ---- none is rolled back, and none is told that a table is full

closes_otherwise : (txn : Option Txn) → IfSome txn CommitsModestly → ClosesWithRollback txn → ⊥
closes_otherwise None h closes = absurd closes
closes_otherwise (Some txn) h closes = both_ways (not txn.commits) (not_from_true txn.commits h.commits) closes

no_insert : (table : ℕ) (statement : Option Bound) → IfSome statement IsModest → IsTrue (inserts table statement) → ⊥
no_insert table None is h = absurd cc
no_insert table (Some _) (reads tables ons pred items) h = absurd cc
no_insert table (Some _) (moves amount value pred small adds) h = absurd cc

-- ---- the balances while a made script runs

orders_are_modest : (setting : Setting) → AllByRecursion (AllByRecursion CommitsModestly) setting.programs → (order : List Entry)
    → AllByRecursion AreModest (map (λ (entry : Entry). statements_of setting.programs entry.label) order)
orders_are_modest setting h [] = tt
orders_are_modest setting h (entry ∷ order) = (labelled_are_modest setting.programs h entry.label, orders_are_modest setting h order)

-- the database after the first transactions of a commit order
reached_within : (setting : Setting) → AllByRecursion (AllByRecursion CommitsModestly) setting.programs → HoldsWithin 1000 (database_of setting.first)
    → (order : List Entry) → length order ≤ 64000 → (rank : ℕ) → HoldsWithin (1000 + 300 * 64000) (database_at setting order rank)
reached_within setting h first order short rank =
    let orders : List (List Bound) = map (λ (entry : Entry). statements_of setting.programs entry.label) (take rank order) in
    let many : length orders ≡ length (take rank order) = length-map (take rank order) (λ (entry : Entry). statements_of setting.programs entry.label) in
    let few = length-take rank order in
    holds_wider (1000 + 300 * length orders) (1000 + 300 * 64000) (omega (arith, many, few)) (database_at setting order rank)
    (serial_within setting.shapes orders (orders_are_modest setting h (take rank order)) 1000 (database_of setting.first) first)

-- and after the answered statements of a transaction
left_within : (setting : Setting) → AllByRecursion (AllByRecursion CommitsModestly) setting.programs → (order : List Entry) (txn : TxnOutcome)
    → HoldsWithin (1000 + 300 * 64000) (database_at setting order txn.start)
    → HoldsWithin (1000 + 300 * 64001)
    (alone_of setting.shapes (take (length txn.replies) (statements_of setting.programs txn.label)) (database_at setting order txn.start)).database
left_within setting h order txn begun =
    let all : List Bound = statements_of setting.programs txn.label in
    let answered : List Bound = take (length txn.replies) all in
    let modest = labelled_are_modest setting.programs h txn.label in
    let short = modest.short in
    let few = length-take (length txn.replies) all in
    holds_wider ((1000 + 300 * 64000) + 100 * length answered) (1000 + 300 * 64001) (omega (arith, short, few))
    (alone_of setting.shapes answered (database_at setting order txn.start)).database
    (alone_within setting.shapes [] answered (all_in_front IsModest (length txn.replies) all modest.modest) (1000 + 300 * 64000) 1
    (database_at setting order txn.start) begun)

-- ---- none is told that a value is out of range

never_out : (setting : Setting) → AllByRecursion (AllByRecursion CommitsModestly) setting.programs → HoldsWithin 1000 (database_of setting.first)
    → (order : List Entry) → length order ≤ 64000 → (txn : TxnOutcome) (table pos : ℕ) → IsOutOfRangeAt setting order txn table pos → ⊥
never_out setting h first order short txn table pos out =
    let all : List Bound = statements_of setting.programs txn.label in
    let stays : list_any (goes_out table (refused_statement setting.programs txn)) (rows_left setting order txn table) ≡ false =
    none_goes_out (1000 + 300 * 64001) (omega arith) (refused_statement setting.programs txn)
    (statement_is_modest all (labelled_are_modest setting.programs h txn.label) (length txn.replies))
    (alone_of setting.shapes (take (length txn.replies) all) (database_at setting order txn.start)).database
    (left_within setting h order txn (reached_within setting h first order short txn.start)) table in
    both_ways (list_any (goes_out table (refused_statement setting.programs txn)) (rows_left setting order txn table)) stays out.some

-- ---- so each ends in one of the four ways

ends_so : (setting : Setting) → AllByRecursion (AllByRecursion CommitsModestly) setting.programs → HoldsWithin 1000 (database_of setting.first)
    → (outcome : Outcome) → length outcome.order ≤ 64000 → (txn : TxnOutcome) (ending : Ending) → MayEnd setting.programs outcome txn ending
    → IsRefusedBy setting outcome txn ending → IsEndingOfBank ending
ends_so setting h first outcome short txn (Committed rank) may why = refl
ends_so setting h first outcome short txn Read may why = refl
ends_so setting h first outcome short txn RolledBack may why =
    absurd (closes_otherwise (txn_of setting.programs txn.label) (labelled_commits setting.programs h txn.label) may.closes)
ends_so setting h first outcome short txn (Conflict table pos other) may why = refl
ends_so setting h first outcome short txn (Invalid table pos other statement) may why = refl
ends_so setting h first outcome short txn (Range table pos) may why = absurd (never_out setting h first outcome.order short txn table pos why)
ends_so setting h first outcome short txn (Full table) may why =
    absurd (no_insert table (refused_statement setting.programs txn)
    (statement_is_modest (statements_of setting.programs txn.label) (labelled_are_modest setting.programs h txn.label) (length txn.replies)) may)

pub end_in_four_ways : MadeEndInFourWays
end_in_four_ways seed sessions txns few short outcome lawful is_serial =
    let setting : Setting = made_setting seed sessions txns in
    let may : TxnOutcome → Type 0 = λ (txn : TxnOutcome). MayEnd setting.programs outcome txn txn.ending in
    let why : TxnOutcome → Type 0 = λ (txn : TxnOutcome). IsRefusedBy setting outcome txn txn.ending in
    all_so (λ (txn : TxnOutcome). may txn × why txn) (λ (txn : TxnOutcome). IsEndingOfBank txn.ending) outcome.txns
    (λ txn both. ends_so setting (made_commit seed sessions txns) (begins_within seed sessions txns) outcome
    (order_of_made_is_short seed sessions txns few short outcome lawful) txn txn.ending both.0 both.1)
    (all_both may why outcome.txns lawful.endings is_serial.refusals)
