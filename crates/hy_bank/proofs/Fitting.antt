-- A script that is made fits its tables.
use Rattle.std.proofs.Common.{◌≡◌, ◌≢◌, refl, sym, ap, ◌∙◌, ℕ, zero, suc, ◌+◌, ◌*◌, ◌<◌, ◌≤◌, Bool, true, false, cond, List, [], ◌∷◌, map, length, get_or, pos, subst, arith}
use Rattle.std.specs.Prelude.{Some}
use Rattle.std.specs.List.{All, AllPairs, range_with_len}
use Rattle.std.proofs.lemmas.List.Elements.{All-nil, All-cons, All-map, All-from_recursion}
use Rattle.std.proofs.lemmas.List.FromFn.{length-map-range_with_len, get_or-map-range_with_len}
use Rattle.hy_value.specs.declared.Value.{Value}
use Rattle.hy_value.specs.declared.Value.TheVariants as values
use Rattle.hy_bound.specs.declared.Assign.{Assign}
use Rattle.hy_bound.specs.declared.Shape.{Shape}
use Rattle.hy_bound.specs.declared.Txn.{Txn}
use Rattle.hy_bound.specs.Expression.{Expression, Literal, Column, Add, Sub}
use Rattle.hy_bound.specs.Predicate.{column_of}
use Rattle.hy_bound.specs.Records.{set_columns}
use Rattle.hy_bound.specs.Fits.{LieWithin, MayStand, FitsShape, HaveOwnKeys, FitsRows, FitsStatement, FitsTxn, FitsSession}
use Rattle.hy_script.specs.declared.NamedTxns.{NamedTxns}
use Rattle.hy_gen.specs.declared.transactions.Transfer.{Transfer}
use Rattle.hy_gen.specs.Accounts.{int, first_row, first_rows, select_total, select_balance, update_balance}
use Rattle.hy_gen.specs.Transactions.{audit, transfer, transfer_from, txn_from, is_audit, state_after_txn, state_after_txns, txns_from}
use Rattle.hy_gen.specs.Draws.{next_state}
use Rattle.hy_gen.specs.Made.{sessions_from, made}
use Rattle.hy_bank.specs.Fitting.{MadeFits}

-- the shapes of the table of accounts
abbrev pub bank_shape : Shape
bank_shape = record { width = 2; key = Some 0 }

abbrev pub bank_shapes : List Shape
bank_shapes = bank_shape ∷ []

-- two elements of a list of one don't stand side by side
one_alone : {X : Type 0} (R : X → X → Type 0) (x : X) → AllPairs R (x ∷ [])
one_alone R x i j d before below = absurd (omega arith)

shape_fits : FitsShape bank_shape
shape_fits = record { some = omega arith; few = omega arith; key = λ key is. let e : 0 ≡ key = cc in omega (arith, e) }

-- ---- the first rows

abbrev id_of : List Value → Value
id_of row = column_of row 0

ids_differ : (m n : ℕ) → m < n → values.Int (pos m) ≢ values.Int (pos n)
ids_differ m n before same = let e : m ≡ n = cc in absurd (omega (arith, e))

first_ids : (i : ℕ) (d : List Value) → i < 64 → get_or (map first_row (range_with_len 1 64)) i d ≡ first_row (1 + i)
first_ids i d below = get_or-map-range_with_len first_row 1 64 i (1 + i) d below refl

own_keys : HaveOwnKeys 0 (map first_row (range_with_len 1 64))
own_keys = record {
  known = All-map (λ row. column_of row 0 ≢ values.Null) first_row (range_with_len 1 64) (λ k d below h. absurd cc);
  differ = λ i j d before below.
      let many : length (map first_row (range_with_len 1 64)) ≡ 64 = length-map-range_with_len first_row 1 64 in
      let last : j < 64 = omega (arith, many) in
      λ same. ids_differ (1 + i) (1 + j) (omega arith) (sym (ap id_of (first_ids i d (omega arith))) ∙ same ∙ ap id_of (first_ids j d last));
}

rows_fit : FitsRows (4 * 16) bank_shape first_rows
unfolding first_rows
rows_fit = record {
  widths = All-map (λ row. length row ≡ 2) first_row (range_with_len 1 64) (λ k d below. refl);
  few = let many : length (map first_row (range_with_len 1 64)) ≡ 64 = length-map-range_with_len first_row 1 64 in omega (arith, many);
  keys = λ key is. let e : 0 ≡ key = cc in subst (λ k. HaveOwnKeys k (map first_row (range_with_len 1 64))) e own_keys;
}

-- ---- the statements

total_fits : FitsStatement bank_shapes select_total
total_fits = record {
  many = refl;
  few = omega arith;
  there = All-from_recursion (λ table. table < 1) (0 ∷ []) (omega arith, tt);
  differ = one_alone (λ one other. one ≢ other) 0;
  joins = λ number d below. absurd (omega arith);
  filter = All-nil (λ column. column < 2);
  shown = All-from_recursion (λ column. column < 2) (1 ∷ []) (omega arith, tt);
  counts_one = λ h. absurd cc;
}

balance_fits : (account : ℕ) → FitsStatement bank_shapes (select_balance account)
balance_fits account = record {
  many = refl;
  few = omega arith;
  there = All-from_recursion (λ table. table < 1) (0 ∷ []) (omega arith, tt);
  differ = one_alone (λ one other. one ≢ other) 0;
  joins = λ number d below. absurd (omega arith);
  filter = All-from_recursion (λ column. column < 2) (0 ∷ []) (omega arith, tt);
  shown = All-from_recursion (λ column. column < 2) (1 ∷ []) (omega arith, tt);
  counts_one = λ h. absurd cc;
}

-- an UPDATE that sets the balance
abbrev sets_to : Expression → List Assign
sets_to value = record { column = 1; value = value } ∷ []

update_fits : (value : Expression) (account : ℕ) → LieWithin 2 (set_columns (sets_to value)) → FitsStatement bank_shapes (update_balance value account)
update_fits value account reads = (
  omega arith,
  record {
    set = All-from_recursion (λ column. column < 2) (1 ∷ []) (omega arith, tt);
    once = one_alone (λ (one other : Assign). one.column ≢ other.column) (record { column = 1; value = value });
    spares_key = All-from_recursion (λ (assign : Assign). bank_shape.key ≢ Some assign.column) (sets_to value) ((λ h. absurd cc), tt);
    values = reads;
    filter = All-from_recursion (λ column. column < 2) (0 ∷ []) (omega arith, tt);
  },
)

balance_read : LieWithin 2 (1 ∷ [])
balance_read = All-from_recursion (λ column. column < 2) (1 ∷ []) (omega arith, tt)

-- ---- the transactions

audit_fits : FitsTxn bank_shapes audit
audit_fits = record {
  few = omega arith;
  fit = All-from_recursion (FitsStatement bank_shapes) audit.statements (total_fits, tt);
  stand = All-from_recursion (MayStand true) audit.statements (tt, tt);
  savepoints = refl;
}

transfer_fits : (parts : Transfer) → FitsTxn bank_shapes (transfer parts)
transfer_fits parts = record {
  few = omega arith;
  fit = All-from_recursion (FitsStatement bank_shapes) (transfer parts).statements (
    balance_fits parts.source,
    (
      update_fits (Sub (Column 1) (Literal (int parts.amount))) parts.source balance_read,
      (update_fits (Add (Column 1) (Literal (int parts.amount))) parts.target balance_read, tt),
    ),
  );
  stand = All-from_recursion (MayStand false) (transfer parts).statements (tt, (refl, (refl, tt)));
  savepoints = refl;
}

either_fits : (audits : Bool) (parts : Transfer) → FitsTxn bank_shapes (cond audits audit (transfer parts))
either_fits true parts = audit_fits
either_fits false parts = transfer_fits parts

txn_fits : (state : ℕ) → FitsTxn bank_shapes (txn_from state)
unfolding txn_from
txn_fits state = either_fits (is_audit state) (transfer_from (next_state state))

txns_fit : (count state : ℕ) → All (FitsTxn bank_shapes) (txns_from count state)
unfolding txns_from
txns_fit zero state = All-nil (FitsTxn bank_shapes)
txns_fit (suc count) state =
    All-cons (FitsTxn bank_shapes) (txn_from state) (txns_from count (state_after_txn state)) (txn_fits state) (txns_fit count (state_after_txn state))

pub many_txns : (count state : ℕ) → length (txns_from count state) ≡ count
unfolding txns_from
many_txns zero state = refl
many_txns (suc count) state = ap suc (many_txns count (state_after_txn state))

session_fits : (txns state : ℕ) → txns ≤ 1000 → FitsSession bank_shapes (txns_from txns state)
session_fits txns state few = record { few = let many = many_txns txns state in omega (arith, many); fit = txns_fit txns state }

-- ---- the sessions

abbrev programs_of : List NamedTxns → List (List Txn)
programs_of sessions = map (λ (session : NamedTxns). session.txns) sessions

sessions_fit : (txns number count state : ℕ) → txns ≤ 1000 → All (FitsSession bank_shapes) (programs_of (sessions_from txns number count state))
unfolding sessions_from
sessions_fit txns number zero state few = All-nil (FitsSession bank_shapes)
sessions_fit txns number (suc count) state few =
    All-cons (FitsSession bank_shapes) (txns_from txns state) (programs_of (sessions_from txns (number + 1) count (state_after_txns txns state)))
    (session_fits txns state few) (sessions_fit txns (number + 1) count (state_after_txns txns state) few)

many_sessions : (txns number count state : ℕ) → length (programs_of (sessions_from txns number count state)) ≡ count
unfolding sessions_from
many_sessions txns number zero state = refl
many_sessions txns number (suc count) state = ap suc (many_sessions txns (number + 1) count (state_after_txns txns state))

pub made_fits : (seed sessions txns : ℕ) → sessions ≤ 64 → txns ≤ 1000 → MadeFits seed sessions txns
unfolding made
made_fits seed sessions txns few short = record {
  few_tables = omega arith;
  tables = All-from_recursion FitsShape bank_shapes (shape_fits, tt);
  first_rows = (rows_fit, tt);
  few_sessions = let many = many_sessions txns 1 sessions seed in omega (arith, many);
  sessions = sessions_fit txns 1 sessions seed short;
}
