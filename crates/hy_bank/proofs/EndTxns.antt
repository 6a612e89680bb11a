-- The transactions of a script that is made close with COMMIT, and have at most three statements, each of which reads or
-- adds at most 100 to a balance or takes it away.
use Rattle.std.proofs.Common.{◌≡◌, ℕ, zero, suc, ◌+◌, ◌*◌, ◌≤◌, Bool, true, false, cond, List, [], ◌∷◌, Option, Some, None, length, refl, arith, pos, neg_ℤ}
use Rattle.std.specs.Prelude.{slice_get, slice_index_or, IfSome}
use Rattle.std.specs.List.{AllByRecursion}
use Rattle.std.proofs.lemmas.Int.{ints}
use Rattle.hy_bound.specs.declared.Bound.{Bound}
use Rattle.hy_bound.specs.declared.Items.TheVariants as items
use Rattle.hy_bound.specs.declared.Shape.{Shape}
use Rattle.hy_bound.specs.declared.Txn.{Txn}
use Rattle.hy_bound.specs.Condition.{True}
use Rattle.hy_bound.specs.Expression.{Literal, Column, Add, Sub}
use Rattle.hy_meaning.specs.Statement.{Database}
use Rattle.hy_meaning.specs.Serial.{alone_of, serial}
use Rattle.hy_stamp.specs.declared.Label.{Label}
use Rattle.hy_script.specs.declared.NamedTxns.{NamedTxns}
use Rattle.hy_gen.specs.declared.transactions.Transfer.{Transfer}
use Rattle.hy_gen.specs.Draws.{next_state, drawn}
use Rattle.hy_gen.specs.Accounts.{int, of_account}
use Rattle.hy_gen.specs.Transactions.{audit, transfer, transfer_by, transfer_from, txn_from, is_audit, state_after_txn, state_after_txns, txns_from}
use Rattle.hy_gen.specs.Made.{sessions_from, made}
use Rattle.hy_lawful.specs.Scripts.{Programs, numbered, txn_of, statements_in, statements_of}
use Rattle.hy_bank.specs.Outcomes.{made_setting}
use Rattle.hy_bank.proofs.Money.{withdrawn, deposited}
use Rattle.hy_bank.proofs.Turns.{all_mapped}
use Rattle.hy_bank.proofs.EndRows.{IsWithin, IsModest, reads, moves, HoldsWithin, holds_wider, alone_within}

-- statements of a transaction: at most three, each of which is modest
pub record AreModest (statements : List Bound) : Type 0 where
  pub short : length statements ≤ 3
  pub modest : AllByRecursion IsModest statements

-- a transaction that closes with COMMIT, of such statements
pub record CommitsModestly (txn : Txn) : Type 0 where
  pub commits : txn.commits ≡ true
  pub modest : AreModest txn.statements

-- ---- those that are made

given_within : (amount : ℕ) → amount ≤ 100 → IsWithin 100 (pos amount)
given_within amount few = record { below = omega (arith, ints); above = omega (arith, ints) }

taken_within : (amount : ℕ) → amount ≤ 100 → IsWithin 100 (neg_ℤ (pos amount))
taken_within amount few = record { below = omega (arith, ints); above = omega (arith, ints) }

audit_commits : CommitsModestly audit
audit_commits = record { commits = refl; modest = record { short = omega arith; modest = (reads (0 ∷ []) [] True (items.Sum 1), tt) } }

transfer_commits : (parts : Transfer) → parts.amount ≤ 100 → CommitsModestly (transfer parts)
transfer_commits parts few = record {
  commits = refl;
  modest = record {
    short = omega arith;
    modest = (
      reads (0 ∷ []) [] (of_account parts.source) (items.Columns (1 ∷ [])),
      (
        moves (neg_ℤ (pos parts.amount)) (Sub (Column 1) (Literal (int parts.amount))) (of_account parts.source) (taken_within parts.amount few)
            (withdrawn parts.amount),
        (
          moves (pos parts.amount) (Add (Column 1) (Literal (int parts.amount))) (of_account parts.target) (given_within parts.amount few)
              (deposited parts.amount),
          tt,
        ),
      ),
    );
  };
}

drawn_commits : (state : ℕ) → CommitsModestly (transfer (transfer_from state))
unfolding transfer_from
drawn_commits state =
    transfer_commits (transfer_by (drawn state) (drawn (next_state state)) (drawn (next_state (next_state state)))) (omega arith)

either_commits : (audited : Bool) (parts : Transfer) → CommitsModestly (transfer parts) → CommitsModestly (cond audited audit (transfer parts))
either_commits true parts h = audit_commits
either_commits false parts h = h

txn_commits : (state : ℕ) → CommitsModestly (txn_from state)
unfolding txn_from
txn_commits state = either_commits (is_audit state) (transfer_from (next_state state)) (drawn_commits (next_state state))

txns_commit : (count state : ℕ) → AllByRecursion CommitsModestly (txns_from count state)
unfolding txns_from
txns_commit zero state = tt
txns_commit (suc count) state = (txn_commits state, txns_commit count (state_after_txn state))

sessions_commit : (txns number count state : ℕ)
    → AllByRecursion (λ (session : NamedTxns). AllByRecursion CommitsModestly session.txns) (sessions_from txns number count state)
unfolding sessions_from
sessions_commit txns number zero state = tt
sessions_commit txns number (suc count) state = (txns_commit txns state, sessions_commit txns (number + 1) count (state_after_txns txns state))

pub made_commit : (seed sessions txns : ℕ) → AllByRecursion (AllByRecursion CommitsModestly) (made_setting seed sessions txns).programs
unfolding made
made_commit seed sessions txns =
    all_mapped (AllByRecursion CommitsModestly) (λ (session : NamedTxns). session.txns) (made seed sessions txns).sessions
    (sessions_commit txns 1 sessions seed)

-- ---- by their labels

item_so : {X : Type 0} (P : X → Type 0) (xs : List X) → AllByRecursion P xs → (at : ℕ) → IfSome (slice_get xs at) P
item_so P [] h at = tt
item_so P (x ∷ xs) h zero = h.0
item_so P (x ∷ xs) h (suc at) = item_so P xs h.1 at

numbered_commits : (txns : List Txn) → AllByRecursion CommitsModestly txns → (number : ℕ) → IfSome (numbered txns number) CommitsModestly
numbered_commits txns h zero = tt
numbered_commits txns h (suc before) = item_so CommitsModestly txns h before

session_commits : (programs : Programs) → AllByRecursion (AllByRecursion CommitsModestly) programs → (session : ℕ)
    → AllByRecursion CommitsModestly (slice_index_or programs session [])
session_commits [] h session = tt
session_commits (txns ∷ programs) h zero = h.0
session_commits (txns ∷ programs) h (suc session) = session_commits programs h.1 session

pub labelled_commits : (programs : Programs) → AllByRecursion (AllByRecursion CommitsModestly) programs → (label : Label)
    → IfSome (txn_of programs label) CommitsModestly
labelled_commits programs h label = numbered_commits (slice_index_or programs label.session []) (session_commits programs h label.session) label.txn

statements_are : (txn : Option Txn) → IfSome txn CommitsModestly → AreModest (statements_in txn)
statements_are None h = record { short = omega arith; modest = tt }
statements_are (Some txn) h = h.modest

pub labelled_are_modest : (programs : Programs) → AllByRecursion (AllByRecursion CommitsModestly) programs → (label : Label)
    → AreModest (statements_of programs label)
labelled_are_modest programs h label = statements_are (txn_of programs label) (labelled_commits programs h label)

-- the statement of a number is modest, if it is there
pub statement_is_modest : (statements : List Bound) → AreModest statements → (at : ℕ) → IfSome (slice_get statements at) IsModest
statement_is_modest statements h at = item_so IsModest statements h.modest at

-- ---- transactions that run in turn

-- each of them widens the bound by 300
pub serial_within : (shapes : List Shape) (orders : List (List Bound)) → AllByRecursion AreModest orders → (bound : ℕ) (db : Database)
    → HoldsWithin bound db → HoldsWithin (bound + 300 * length orders) (serial shapes orders db)
serial_within shapes [] are bound db h = holds_wider bound (bound + 300 * 0) (omega arith) db h
serial_within shapes (statements ∷ orders) are bound db h =
    let short = are.0.short in
    let one : HoldsWithin (bound + 300) (alone_of shapes statements db).database =
    holds_wider (bound + 100 * length statements) (bound + 300) (omega (arith, short)) (alone_of shapes statements db).database
    (alone_within shapes [] statements are.0.modest bound 1 db h) in
    holds_wider ((bound + 300) + 300 * length orders) (bound + 300 * length (statements ∷ orders)) (omega arith)
    (serial shapes orders (alone_of shapes statements db).database)
    (serial_within shapes orders are.1 (bound + 300) (alone_of shapes statements db).database one)
