-- The values of a script that is made are numbers, as are both columns of its table.
use Rattle.std.specs.Prelude.{◌+ℤ◌, ◌-ℤ◌}
use Rattle.std.specs.List.{All, range_with_len}
use Rattle.std.proofs.Common.{ℕ, zero, suc, ◌+◌, ℤ, Bool, true, false, cond, List, [], ◌∷◌, Result, Ok, Err, map, subst, arith}
use Rattle.std.proofs.lemmas.List.Elements.{All-nil, All-cons, All-map, All-from_recursion}
use Rattle.hy_value.specs.declared.Kind.{Kind}
use Rattle.hy_value.specs.declared.Kind.TheVariants.{Int}
use Rattle.hy_value.specs.declared.Value.{Value}
use Rattle.hy_value.specs.declared.Value.TheVariants as values
use Rattle.hy_bound.specs.declared.Shape.{Shape}
use Rattle.hy_bound.specs.declared.Txn.{Txn}
use Rattle.hy_bound.specs.declared.Range.{Range}
use Rattle.hy_bound.specs.Assignment.{has_64_bits, number_of, value_of}
use Rattle.hy_bound.specs.Expression.{Expression, Literal, Column, Add, Sub}
use Rattle.hy_bind.specs.Shapes.{catalog_shapes}
use Rattle.hy_column.specs.Cells.{FitsKind}
use Rattle.hy_chunk.specs.Sound.{FitsRow}
use Rattle.hy_gen.specs.declared.transactions.Transfer.{Transfer}
use Rattle.hy_gen.specs.Accounts.{account_table, int, first_row, first_rows, update_balance}
use Rattle.hy_gen.specs.Draws.{next_state}
use Rattle.hy_gen.specs.Transactions.{audit, transfer, transfer_from, txn_from, is_audit, state_after_txn, state_after_txns, txns_from}
use Rattle.hy_gen.specs.Made.{sessions_from, made}
use Rattle.hy_stepping.specs.Typed.{IsTypedIn, IsTypedTxn}
use Rattle.hy_script.specs.declared.NamedTxns.{NamedTxns}
use Rattle.hy_setting.specs.Kinds.{catalog_kinds}
use Rattle.hy_setting.specs.Typing.{WhatIsBoundIsTyped}
use Rattle.hy_top.specs.Typing.{IsTypedScript}

abbrev both : List Kind
both = Int ∷ Int ∷ []

abbrev kinds : List (List Kind)
kinds = catalog_kinds (account_table ∷ [])

abbrev shapes : List Shape
shapes = catalog_shapes (account_table ∷ [])

rows_typed : All (FitsRow both) first_rows
unfolding first_rows
rows_typed = All-map (FitsRow both) first_row (range_with_len 1 64) (λ k d below. (tt, (tt, tt)))

-- a result is a number, or NULL
abbrev IsNumber : Result Value Range → Type 0
IsNumber (Ok value) = FitsKind Int value
IsNumber (Err range) = Unit {0}

in_range : (fits : Bool) (z : ℤ) (range : Range) → IsNumber (cond fits (Ok (values.Int z)) (Err range))
in_range true z range = tt
in_range false z range = tt

-- an operator on two values, by what it makes of numbers
abbrev applied_by : (ℤ → ℤ → ℤ) → Value → Value → Result Value Range
applied_by exact (values.Int m) (values.Int n) = number_of (exact m n)
applied_by exact (values.Int m) values.Null = Ok values.Null
applied_by exact (values.Int m) (values.Text t) = Ok values.Null
applied_by exact values.Null right = Ok values.Null
applied_by exact (values.Text s) right = Ok values.Null

-- and on two sides
abbrev combined_by : (ℤ → ℤ → ℤ) → Result Value Range → Result Value Range → Result Value Range
combined_by exact (Err range) right = Err range
combined_by exact (Ok left) (Err range) = Err range
combined_by exact (Ok left) (Ok right) = applied_by exact left right

applied_is : (exact : ℤ → ℤ → ℤ) (left right : Value) → IsNumber (applied_by exact left right)
applied_is exact (values.Int m) (values.Int n) = in_range (has_64_bits (exact m n)) (exact m n) (record {})
applied_is exact (values.Int m) values.Null = tt
applied_is exact (values.Int m) (values.Text t) = tt
applied_is exact values.Null right = tt
applied_is exact (values.Text s) right = tt

-- gives a number, or NULL
combined_is : (exact : ℤ → ℤ → ℤ) (left right : Result Value Range) → IsNumber (combined_by exact left right)
combined_is exact (Err range) right = tt
combined_is exact (Ok left) (Err range) = tt
combined_is exact (Ok left) (Ok right) = applied_is exact left right

sum_is : (left right : Expression) (row : List Value) → IsNumber (value_of (Add left right) row)
sum_is left right row = combined_is (λ m n. m +ℤ n) (value_of left row) (value_of right row)

difference_is : (left right : Expression) (row : List Value) → IsNumber (value_of (Sub left right) row)
difference_is left right row = combined_is (λ m n. m -ℤ n) (value_of left row) (value_of right row)

-- an UPDATE that sets the balance to a number, or to NULL
update_typed : (value : Expression) (account : ℕ) → ((row : List Value) → IsNumber (value_of value row))
    → IsTypedIn kinds shapes (update_balance value account)
update_typed value account number = (
  record {
    column = omega arith;
    typed = λ row given fits gives. subst IsNumber gives (number row);
    spares_key = λ h. absurd cc;
  },
  tt,
)

audit_typed : IsTypedTxn kinds shapes audit
audit_typed = All-from_recursion (IsTypedIn kinds shapes) audit.statements (tt, tt)

transfer_typed : (parts : Transfer) → IsTypedTxn kinds shapes (transfer parts)
transfer_typed parts =
    let amount : Expression = Literal (int parts.amount) in
    All-from_recursion (IsTypedIn kinds shapes) (transfer parts).statements (
      tt,
      (
        update_typed (Sub (Column 1) amount) parts.source (difference_is (Column 1) amount),
        (update_typed (Add (Column 1) amount) parts.target (sum_is (Column 1) amount), tt),
      ),
    )

either_typed : (audits : Bool) (parts : Transfer) → IsTypedTxn kinds shapes (cond audits audit (transfer parts))
either_typed true parts = audit_typed
either_typed false parts = transfer_typed parts

txn_typed : (state : ℕ) → IsTypedTxn kinds shapes (txn_from state)
unfolding txn_from
txn_typed state = either_typed (is_audit state) (transfer_from (next_state state))

txns_typed : (count state : ℕ) → All (IsTypedTxn kinds shapes) (txns_from count state)
unfolding txns_from
txns_typed zero state = All-nil (IsTypedTxn kinds shapes)
txns_typed (suc count) state =
    All-cons (IsTypedTxn kinds shapes) (txn_from state) (txns_from count (state_after_txn state)) (txn_typed state) (txns_typed count (state_after_txn state))

abbrev programs_of : List NamedTxns → List (List Txn)
programs_of sessions = map (λ (session : NamedTxns). session.txns) sessions

sessions_typed : (txns number count state : ℕ)
    → All (λ (txns : List Txn). All (IsTypedTxn kinds shapes) txns) (programs_of (sessions_from txns number count state))
unfolding sessions_from
sessions_typed txns number zero state = All-nil (λ (txns : List Txn). All (IsTypedTxn kinds shapes) txns)
sessions_typed txns number (suc count) state =
    All-cons (λ (txns : List Txn). All (IsTypedTxn kinds shapes) txns) (txns_from txns state)
    (programs_of (sessions_from txns (number + 1) count (state_after_txns txns state)))
    (txns_typed txns state) (sessions_typed txns (number + 1) count (state_after_txns txns state))

pub made_typed : WhatIsBoundIsTyped → (seed sessions txns : ℕ) → IsTypedScript (made seed sessions txns)
unfolding made
made_typed law seed sessions txns = record {
  tables = law.tables (account_table ∷ []);
  rows = (rows_typed, tt);
  statements = sessions_typed txns 1 sessions seed;
}
