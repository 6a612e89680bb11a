-- Transactions of the bank keep the sum of the balances.
use Rattle.std.proofs.Common.{◌≡◌, ℕ, List, Option, Some, None, [], ◌∷◌, refl, sym, ap, ◌∙◌, subst, arith, ℤ, pos, neg_ℤ, ◌+ℤ◌}
use Rattle.std.specs.List.{AllByRecursion}
use Rattle.std.proofs.lemmas.Int.{ints}
use Rattle.hy_value.specs.Sorted.{sorted}
use Rattle.hy_bound.specs.declared.Bound.{Bound}
use Rattle.hy_bound.specs.declared.Shape.{Shape}
use Rattle.hy_bound.specs.Condition.{Condition}
use Rattle.hy_bound.specs.Expression.{Expression, Literal, Column, Add, Sub}
use Rattle.hy_bind.specs.Shapes.{catalog_shapes}
use Rattle.hy_meaning.specs.Statement.{Table, Database, updated_rows, with_table}
use Rattle.hy_meaning.specs.Serial.{Alone, goes_on, alone_from, alone_of, serial, database_of}
use Rattle.hy_render.specs.Summary.{balances}
use Rattle.hy_gen.specs.declared.transactions.Transfer.{Transfer}
use Rattle.hy_gen.specs.Accounts.{int, of_account, first_rows, deposit}
use Rattle.hy_gen.specs.Transactions.{transfer}
use Rattle.hy_gen.specs.Made.{made}
use Rattle.hy_bank.specs.Bank.{IsAccount, IsOfBank, audits, transfers, NoneStops, RunInTurn, KeepsMoney, left_by, all_money}
use Rattle.hy_bank.proofs.Accounts.{HaveMoney, money_sorted, first_money}
use Rattle.hy_bank.proofs.Updates.{Adds, set_balance, money_moved}

-- a database of one table, whose rows have the money
pub record HoldsMoney (total : ℤ) (db : Database) : Type 0 where
  pub rows : Table
  pub alone : db ≡ rows ∷ []
  pub money : HaveMoney total rows

-- ---- an UPDATE and what follows it

-- where an UPDATE doesn't stop a transaction, it is in range, and the rest runs from the rows that it leaves
record Ran (found : Option Table) (rest : Database → Alone) (given : Alone) : Type 0 where
  after : Table
  there : found ≡ Some after
  goes_on_with : given.database ≡ (rest (sorted after ∷ [])).database
  stops_with : (rest (sorted after ∷ [])).stop ≡ None

ran : (pred : Condition) (number : ℕ) (rows : Table) (found : Option Table) (rest : Database → Alone)
    → (goes_on number (rows ∷ []) (with_table pred 0 (rows ∷ []) found) rest).stop ≡ None
    → Ran found rest (goes_on number (rows ∷ []) (with_table pred 0 (rows ∷ []) found) rest)
ran pred number rows None rest h = absurd cc
ran pred number rows (Some after) rest h = record { after = after; there = refl; goes_on_with = refl; stops_with = h }

-- ---- transactions

pub withdrawn : (amount : ℕ) → Adds (neg_ℤ (pos amount)) (Sub (Column 1) (Literal (int amount)))
withdrawn amount id n = refl

pub deposited : (amount : ℕ) → Adds (pos amount) (Add (Column 1) (Literal (int amount)))
deposited amount id n = refl

back_again : (total : ℤ) (amount : ℕ) → (total +ℤ neg_ℤ (pos amount)) +ℤ pos amount ≡ total
back_again total amount = omega (arith, ints)

transfer_keeps : (shapes : List Shape) (total : ℤ) (parts : Transfer) → IsAccount parts.source → IsAccount parts.target
    → (rows : Table) → HaveMoney total rows → (alone_of shapes (transfer parts).statements (rows ∷ [])).stop ≡ None
    → HoldsMoney total (alone_of shapes (transfer parts).statements (rows ∷ [])).database
transfer_keeps shapes total parts source target rows h goes =
    let taken : Expression = Sub (Column 1) (Literal (int parts.amount)) in
    let given : Expression = Add (Column 1) (Literal (int parts.amount)) in
    let first = ran (of_account parts.source) 2 rows (updated_rows (set_balance taken) (of_account parts.source) rows)
    (alone_from shapes [] 3 (deposit parts.amount parts.target ∷ [])) goes in
    let poorer = money_sorted (total +ℤ neg_ℤ (pos parts.amount)) first.after
    (money_moved (neg_ℤ (pos parts.amount)) taken (withdrawn parts.amount) parts.source source total rows first.after h first.there) in
    let second = ran (of_account parts.target) 3 (sorted first.after) (updated_rows (set_balance given) (of_account parts.target) (sorted first.after))
    (alone_from shapes [] 4 []) first.stops_with in
    let richer = money_sorted ((total +ℤ neg_ℤ (pos parts.amount)) +ℤ pos parts.amount) second.after
    (money_moved (pos parts.amount) given (deposited parts.amount) parts.target target (total +ℤ neg_ℤ (pos parts.amount)) (sorted first.after) second.after
    poorer second.there) in
    record {
      rows = sorted second.after;
      alone = first.goes_on_with ∙ second.goes_on_with;
      money = subst (λ (sum : ℤ). HaveMoney sum (sorted second.after)) (back_again total parts.amount) richer;
    }

kept_on : (shapes : List Shape) (total : ℤ) (statements : List Bound) → IsOfBank statements → (rows : Table) → HaveMoney total rows
    → (alone_of shapes statements (rows ∷ [])).stop ≡ None → HoldsMoney total (alone_of shapes statements (rows ∷ [])).database
kept_on shapes total _ audits rows h goes = record { rows = rows; alone = refl; money = h }
kept_on shapes total _ (transfers parts source target differ) rows h goes = transfer_keeps shapes total parts source target rows h goes

kept_by : (shapes : List Shape) (total : ℤ) (statements : List Bound) → IsOfBank statements → (db : Database) → HoldsMoney total db
    → (alone_of shapes statements db).stop ≡ None → HoldsMoney total (alone_of shapes statements db).database
kept_by shapes total statements is db h goes =
    subst (λ (d : Database). HoldsMoney total (alone_of shapes statements d).database) (sym h.alone)
    (kept_on shapes total statements is h.rows h.money (subst (λ (d : Database). (alone_of shapes statements d).stop ≡ None) h.alone goes))

kept_in_turn : (shapes : List Shape) (total : ℤ) (orders : List (List Bound)) → AllByRecursion IsOfBank orders → (db : Database)
    → NoneStops shapes orders db → HoldsMoney total db → HoldsMoney total (serial shapes orders db)
kept_in_turn shapes total [] are db goes h = h
kept_in_turn shapes total (statements ∷ others) are db goes h =
    kept_in_turn shapes total others are.1 (alone_of shapes statements db).database goes.1 (kept_by shapes total statements are.0 db h goes.0)

-- ---- from the first rows on

begins_with : HoldsMoney (pos all_money) (database_of (first_rows ∷ []))
begins_with = record { rows = sorted first_rows; alone = refl; money = money_sorted (pos all_money) first_rows first_money }

pub left_with : (seed sessions txns : ℕ) (orders : List (List Bound)) → RunInTurn (made seed sessions txns) orders
    → HoldsMoney (pos all_money) (left_by (made seed sessions txns) orders)
unfolding made
left_with seed sessions txns orders runs =
    kept_in_turn (catalog_shapes (made seed sessions txns).catalog) (pos all_money) orders runs.of_bank
    (database_of (first_rows ∷ [])) runs.none_stops begins_with

balances_of : (total : ℤ) (db : Database) → HoldsMoney total db → balances db ≡ total
balances_of total db h =
    let sum = h.money.sum in
    ap balances h.alone ∙ omega (arith, ints, sum)

pub money_kept : (seed sessions txns : ℕ) → KeepsMoney (made seed sessions txns)
money_kept seed sessions txns orders runs = balances_of (pos all_money) (left_by (made seed sessions txns) orders) (left_with seed sessions txns orders runs)
