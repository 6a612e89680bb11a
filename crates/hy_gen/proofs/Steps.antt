-- What one transaction and one session more come to.
use Rattle.std.proofs.Common.{◌≡◌, refl, sym, ap, ◌∙◌, ℕ, suc, ◌+◌, ◌-◌, ◌<◌, ◌≤◌, true, false, cond, List, [], ◌∷◌, ◌++◌, map, arith}
use Rattle.std.proofs.lemmas.List.{append_assoc, append-nil}
use Rattle.std.specs.Prelude.{Result, Ok, Err, OnOk}
use Rattle.std.proofs.lemmas.List.FromFn.{map-range_with_len_more}
use Rattle.std.specs.List.{range_with_len}
use Rattle.hy_value.specs.declared.Value.{Value}
use Rattle.hy_bound.specs.declared.Txn.{Txn}
use Rattle.hy_script.specs.declared.NamedTxns.{NamedTxns}
use Rattle.hy_schema.specs.declared.TableDef.{TableDef}
use Rattle.hy_bound.specs.declared.schedule.Item.{Item}
use Rattle.hy_gen.specs.Draws.{next_state}
use Rattle.hy_gen.specs.Transactions.{audit, transfer, transfer_from, is_audit, txn_from, state_after_txn, txns_from, state_after_txns}
use Rattle.hy_gen.specs.Accounts.{account_table, first_row, first_rows}
use Rattle.hy_gen.specs.Made.{session_name, sessions_from, made}

-- what holds anyway holds of an answer
pub on_any : {T E P : Type 0} (r : Result T E) → P → OnOk r P
on_any (Ok value) p = p
on_any (Err error) p = tt

-- what is there, with the next of what is left behind it
pub one_more : {A : Type 0} (so_far grown left rest all : List A) (next : A) → left ≡ next ∷ rest → grown ≡ so_far ++ next ∷ []
    → so_far ++ left ≡ all → grown ++ rest ≡ all
one_more so_far grown left rest all next begins pushed whole =
    ap (λ l. l ++ rest) pushed ∙ append_assoc so_far (next ∷ []) rest ∙ ap (λ l. so_far ++ l) (sym begins) ∙ whole

-- and where nothing is left
pub all_there : {A : Type 0} (so_far left all : List A) → left ≡ [] → so_far ++ left ≡ all → so_far ≡ all
all_there so_far left all none whole = sym (append-nil so_far) ∙ ap (λ l. so_far ++ l) (sym none) ∙ whole

-- the transaction from a state, by its first draw
pub audit_from : (state : ℕ) → is_audit state ≡ true → txn_from state ≡ audit
unfolding txn_from
audit_from state e = ap (λ b. cond b audit (transfer (transfer_from (next_state state)))) e

pub transfer_txn_from : (state : ℕ) → is_audit state ≡ false → txn_from state ≡ transfer (transfer_from (next_state state))
unfolding txn_from
transfer_txn_from state e = ap (λ b. cond b audit (transfer (transfer_from (next_state state)))) e

pub state_after_audit : (state : ℕ) → is_audit state ≡ true → state_after_txn state ≡ next_state state
unfolding state_after_txn
state_after_audit state e = ap (λ b. cond b (next_state state) (next_state (next_state (next_state (next_state state))))) e

pub state_after_transfer : (state : ℕ) → is_audit state ≡ false → state_after_txn state ≡ next_state (next_state (next_state (next_state state)))
unfolding state_after_txn
state_after_transfer state e = ap (λ b. cond b (next_state state) (next_state (next_state (next_state (next_state state))))) e

-- what is left of so many transactions begins with the next one
pub next_txn : (count i state behind : ℕ) (txn : Txn) → i < count → txn ≡ txn_from state → behind ≡ state_after_txn state
    → txns_from (count - i) state ≡ txn ∷ txns_from (count - (i + 1)) behind
unfolding txns_from
next_txn count i state behind txn below is moved =
    let e : count - i ≡ suc (count - (i + 1)) = omega arith in rw (e, is, moved) refl

pub state_after_next : (count i state behind : ℕ) → i < count → behind ≡ state_after_txn state
    → state_after_txns (count - (i + 1)) behind ≡ state_after_txns (count - i) state
unfolding state_after_txns
state_after_next count i state behind below moved =
    let e : count - i ≡ suc (count - (i + 1)) = omega arith in rw (e, moved) refl

pub no_more_txns : (count i state : ℕ) → count ≤ i → txns_from (count - i) state ≡ []
unfolding txns_from
no_more_txns count i state end = let e : count - i ≡ 0 = omega arith in rw e refl

pub state_at_end : (count i state : ℕ) → count ≤ i → state ≡ state_after_txns (count - i) state
unfolding state_after_txns
state_at_end count i state end = let e : count - i ≡ 0 = omega arith in rw e refl

-- and what is left of so many sessions begins with the next session
pub next_session : (txns count i state behind : ℕ) (name : List ℕ) (own : List Txn) → i < count → name ≡ session_name (i + 1)
    → own ≡ txns_from txns state → behind ≡ state_after_txns txns state
    → sessions_from txns (i + 1) (count - i) state ≡ record { name = name; txns = own } ∷ sessions_from txns (i + 1 + 1) (count - (i + 1)) behind
unfolding sessions_from
next_session txns count i state behind name own below named filled moved =
    let e : count - i ≡ suc (count - (i + 1)) = omega arith in rw (e, named, filled, moved) refl

pub no_more_sessions : (txns count i state : ℕ) → count ≤ i → sessions_from txns (i + 1) (count - i) state ≡ []
unfolding sessions_from
no_more_sessions txns count i state end = let e : count - i ≡ 0 = omega arith in rw e refl

-- a script is the one that is made where its parts are
pub made_by_parts : (seed sessions txns state : ℕ) (catalog : List TableDef) (rows : List (List (List Value))) (all : List NamedTxns) (schedule : List Item)
    → catalog ≡ account_table ∷ [] → rows ≡ first_rows ∷ [] → all ≡ sessions_from txns 1 sessions state → state ≡ seed → schedule ≡ []
    → record { catalog = catalog; rows = rows; sessions = all; schedule = schedule; options = record { chunks = 4; rows = 16 } }
    ≡ made seed sessions txns
unfolding made
made_by_parts seed sessions txns state catalog rows all schedule tables filled runs begun empty = rw (tables, filled, runs, begun, empty) refl

-- a first row more
pub row_more : (account : ℕ) (rows grown : List (List Value)) (row : List Value) → rows ≡ map first_row (range_with_len 1 account)
    → row ≡ first_row (account + 1) → grown ≡ rows ++ row ∷ [] → grown ≡ map first_row (range_with_len 1 (account + 1))
row_more account rows grown row so_far next pushed =
    let more : map first_row (range_with_len 1 (account + 1)) ≡ map first_row (range_with_len 1 account) ++ first_row (account + 1) ∷ [] =
    map-range_with_len_more first_row 1 account (account + 1) (omega arith) in
    rw (pushed, so_far, next) (sym more)
