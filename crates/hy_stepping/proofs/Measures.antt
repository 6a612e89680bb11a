-- How many steps the sessions of a setting that the engine runs have left at most.
use Rattle.std.proofs.Common.{◌≡◌, ℕ, suc, ◌+◌, ◌*◌, ◌<◌, ◌≤◌, List, [], ◌∷◌, length, drop, get_or, refl, ap, sym, subst, arith, Option, None, Some}
use Rattle.std.proofs.Common.{inl, inr}
use Rattle.std.proofs.Math.Nat.{mul-le-mul_left}
use Rattle.std.specs.List.{All}
use Rattle.std.proofs.lemmas.Bool.{cases_lt}
use Rattle.std.proofs.lemmas.List.{length-drop, get_or_past}
use Rattle.std.proofs.lemmas.List.Elements.{All-head, All-tail, All-drop, All-nil}
use Rattle.std.proofs.lemmas.Slice.Zip.{AllZip-long}
use Rattle.hy_bound.specs.declared.Bound.{Bound}
use Rattle.hy_bound.specs.declared.Bound.TheVariants.{Select, Group, Insert, Update, Delete, Savepoint, RollbackTo, Release}
use Rattle.hy_bound.specs.declared.Txn.{Txn}
use Rattle.hy_bound.specs.Fits.{FitsStatement, FitsTxn, FitsRows}
use Rattle.hy_machine.specs.declared.Setting.{Setting}
use Rattle.hy_protocol.specs.declared.Phase.{Phase}
use Rattle.hy_protocol.specs.declared.Phase.TheVariants.{Working, Stamping, Undoing}
use Rattle.hy_machine.specs.States.{State, Session, Open, Begun}
use Rattle.hy_machine.specs.Sessions.{fresh, session_at, program_of}
use Rattle.hy_machine.specs.Visits.{visits_of}
use Rattle.hy_machine.specs.Measures.{statements_left, open_left, txn_left, later_left, txns_left, steps_left, all_left, measure_of}
use Rattle.hy_machine.specs.Kept.{Kept}
use Rattle.hy_stepping.specs.Runnable.{IsRunnable}

-- ---- statements

parts_few : (setting : Setting) (tables : ℕ) → setting.chunks ≤ 64 → tables ≤ 16 → setting.chunks * tables ≤ 1024
parts_few setting tables few tables_few =
    let most : setting.chunks * tables ≤ setting.chunks * 16 = mul-le-mul_left setting.chunks tables_few in
    omega arith

-- a statement visits at most the chunks of four tables, or those of all of them and the core
visits_few : (setting : Setting) (statement : Bound) → setting.chunks ≤ 64 → length setting.first ≤ 16 → FitsStatement setting.shapes statement
    → visits_of setting statement ≤ 1025
visits_few setting (Select tables ons pred items) few first fits = omega (arith, few, mul-le-mul_left setting.chunks fits.few)
visits_few setting (Group table pred key aggregate) few first fits = omega (arith, few)
visits_few setting (Insert table row) few first fits = omega (arith, few)
visits_few setting (Update table sets pred) few first fits = omega (arith, few)
visits_few setting (Delete table pred) few first fits = omega (arith, few)
visits_few setting (Savepoint name) few first fits = omega arith
visits_few setting (RollbackTo name) few first fits = omega (arith, parts_few setting (length setting.first) few first)
visits_few setting (Release name) few first fits = omega arith

statements_few : (setting : Setting) (visited : ℕ) (statements : List Bound) → setting.chunks ≤ 64 → length setting.first ≤ 16
    → All (FitsStatement setting.shapes) statements → statements_left setting visited statements ≤ 1026 * length statements
statements_few setting visited [] few first fits = omega arith
statements_few setting visited (statement ∷ statements) few first fits =
    let visits = visits_few setting statement few first (All-head (FitsStatement setting.shapes) statement statements fits) in
    let rest = statements_few setting 0 statements few first (All-tail (FitsStatement setting.shapes) statement statements fits) in
    omega (arith, visits, rest)

-- ---- transactions

-- of up to 256 statements and 1,024 chunks
abbrev most_of_one : ℕ
most_of_one = 263683

txn_few : (setting : Setting) (txn : Txn) → setting.chunks ≤ 64 → length setting.first ≤ 16 → FitsTxn setting.shapes txn → txn_left setting txn ≤ most_of_one
txn_few setting txn few tables fits =
    omega (arith, fits.few, parts_few setting (length setting.first) few tables, statements_few setting 0 txn.statements few tables fits.fit)

open_few : (setting : Setting) (txn : Txn) (begun : Begun) (phase : Phase) → setting.chunks ≤ 64 → length setting.first ≤ 16
    → length begun.own ≤ 16 → FitsTxn setting.shapes txn → open_left setting txn begun phase ≤ most_of_one
open_few setting txn begun (Working visited count) few first tables fits =
    let rest = drop (length begun.replies) txn.statements in
    let short : length rest ≤ 256 = omega (arith, fits.few, length-drop (length begun.replies) txn.statements) in
    omega (
      arith,
      short,
      parts_few setting (length begun.own) few tables,
      statements_few setting visited rest few first (All-drop (FitsStatement setting.shapes) (length begun.replies) txn.statements fits.fit),
    )
open_few setting txn begun (Stamping visited) few first tables fits = omega (arith, parts_few setting (length begun.own) few tables)
open_few setting txn begun (Undoing visited cause) few first tables fits = omega (arith, parts_few setting (length begun.own) few tables)

later_few : (setting : Setting) (txns : List Txn) → setting.chunks ≤ 64 → length setting.first ≤ 16 → All (FitsTxn setting.shapes) txns
    → later_left setting txns ≤ most_of_one * length txns
later_few setting [] few tables fits = omega arith
later_few setting (txn ∷ txns) few tables fits =
    let first = txn_few setting txn few tables (All-head (FitsTxn setting.shapes) txn txns fits) in
    let rest = later_few setting txns few tables (All-tail (FitsTxn setting.shapes) txn txns fits) in
    omega (arith, first, rest)

-- what an open transaction wrote has a list for each of at most 16 tables
abbrev OwnFew : Option Open → Type 0
OwnFew now = (current : Open) → now ≡ Some current → length current.begun.own ≤ 16

txns_few : (setting : Setting) (now : Option Open) (txns : List Txn) → setting.chunks ≤ 64 → length setting.first ≤ 16 → OwnFew now
    → All (FitsTxn setting.shapes) txns → txns_left setting now txns ≤ most_of_one * length txns
txns_few setting now [] few tables own fits = omega arith
txns_few setting None (txn ∷ txns) few tables own fits = later_few setting (txn ∷ txns) few tables fits
txns_few setting (Some current) (txn ∷ txns) few tables own fits =
    let first = open_few setting txn current.begun current.phase few tables (own current refl) (All-head (FitsTxn setting.shapes) txn txns fits) in
    let rest = later_few setting txns few tables (All-tail (FitsTxn setting.shapes) txn txns fits) in
    omega (arith, first, rest)

-- ---- sessions

-- of 65,535 transactions
abbrev most_of_session : ℕ
most_of_session = 263683 * 65535

program_few : (setting : Setting) (number : ℕ) → IsRunnable setting → length (program_of setting number) ≤ 65535
program_few setting number runnable = elim (cases_lt number (length setting.programs)) [
  | inl lt ↦ (runnable.fits.sessions number [] lt).few
  | inr ge ↦
      let none : program_of setting number ≡ [] = get_or_past setting.programs number [] ge in
      omega (arith, ap (λ (txns : List Txn). length txns) none)
]

program_fits : (setting : Setting) (number : ℕ) → IsRunnable setting → All (FitsTxn setting.shapes) (program_of setting number)
program_fits setting number runnable = elim (cases_lt number (length setting.programs)) [
  | inl lt ↦ (runnable.fits.sessions number [] lt).fit
  | inr ge ↦
      let none : program_of setting number ≡ [] = get_or_past setting.programs number [] ge in
      subst (All (FitsTxn setting.shapes)) (sym none) (All-nil (FitsTxn setting.shapes))
]

-- the first rows are of the script's tables
pub first_of_shapes : (setting : Setting) → IsRunnable setting → length setting.first ≡ length setting.shapes
first_of_shapes setting runnable = AllZip-long (FitsRows (setting.chunks * setting.rows)) setting.shapes setting.first runnable.fits.first_rows

pub session_few : (setting : Setting) (state : State) (number : ℕ) → IsRunnable setting → Kept setting state
    → steps_left setting number (session_at state number) ≤ most_of_session
session_few setting state number runnable kept =
    let one = session_at state number in
    let program = program_of setting number in
    let tables : length setting.first ≤ 16 = omega (arith, runnable.fits.few_tables, first_of_shapes setting runnable) in
    let own : OwnFew one.now = λ current e. omega (arith, tables, (kept.fits.opens number current e).own.tables) in
    let left = txns_few setting one.now (drop (length one.done) program) runnable.few_chunks tables own
    (All-drop (FitsTxn setting.shapes) (length one.done) program (program_fits setting number runnable)) in
    omega (arith, left, length-drop (length one.done) program, program_few setting number runnable)

all_few : (setting : Setting) (most first : ℕ) (sessions : List Session)
    → ((number i : ℕ) → number ≡ first + i → i < length sessions → steps_left setting number (get_or sessions i fresh) ≤ most)
    → all_left setting first sessions ≤ most * length sessions
all_few setting most first [] each = omega arith
all_few setting most first (session ∷ sessions) each =
    let here = each first 0 (omega arith) (omega arith) in
    let rest = all_few setting most (suc first) sessions (λ number i e l. each number (suc i) (omega (arith, e)) (omega (arith, l))) in
    omega (arith, here, rest)

-- of 64 sessions
pub measure_few : (setting : Setting) (state : State) → IsRunnable setting → Kept setting state → measure_of setting state ≤ most_of_session * 64
measure_few setting state runnable kept =
    let each = all_few setting most_of_session 0 state.sessions (λ number i e l.
    let same : number ≡ i = omega arith in
    rw same (session_few setting state i runnable kept)) in
    omega (arith, each, kept.fits.count, runnable.fits.few_sessions)
