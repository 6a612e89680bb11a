-- That a transaction has written a position, and that one in conflict names such a transaction, along steps.
use Rattle.std.proofs.Common.{◌≡◌, ℕ, zero, suc, List, [], ◌∷◌, ◌++◌, Option, None, Some, true, is_some, length, get_or, refl, sym, ◌∙◌, subst, ◌<◌}
use Rattle.std.proofs.Math.ListN.{set}
use Rattle.std.specs.Prelude.{slice_get}
use Rattle.std.specs.List.{AllByRecursion}
use Rattle.std.proofs.lemmas.Option.{same_Some}
use Rattle.hy_stamp.specs.declared.Label.{Label}
use Rattle.hy_bound.specs.declared.Ending.{Ending}
use Rattle.hy_bound.specs.declared.Ending.TheVariants.{Committed, Read, RolledBack, Conflict, Invalid, Range, Full}
use Rattle.hy_protocol.specs.declared.Phase.{Phase}
use Rattle.hy_protocol.specs.declared.Phase.TheVariants.{Working, Stamping, Undoing}
use Rattle.hy_machine.specs.States.{State, Session, Open, Finished}
use Rattle.hy_machine.specs.Tables.{Entry, Cell, Own}
use Rattle.hy_machine.specs.Writes.{Write, with_write, with_writes}
use Rattle.hy_machine.specs.Positions.{item_at}
use Rattle.hy_machine.specs.Sessions.{session_at}
use Rattle.hy_lawful.proofs.Lists.{kept_in_front, last_item, all_so}
use Rattle.hy_lawful.proofs.Moves.{moved_to, sessions_moved}

-- ---- own writes stay

set_keeps : (items : List (Option Cell)) (at pos : ℕ) (cell : Cell) → is_some (get_or items pos None) ≡ true
    → is_some (get_or (set items at (Some cell)) pos None) ≡ true
set_keeps [] at pos cell e = absurd cc
set_keeps (item ∷ items) zero zero cell e = refl
set_keeps (item ∷ items) zero (suc pos) cell e = e
set_keeps (item ∷ items) (suc at) zero cell e = e
set_keeps (item ∷ items) (suc at) (suc pos) cell e = set_keeps items at pos cell e

write_keeps : (own : Own) (written at : ℕ) (cell : Cell) (table pos : ℕ) → is_some (item_at own table pos) ≡ true
    → is_some (item_at (set own written (set (get_or own written []) at (Some cell))) table pos) ≡ true
write_keeps [] written at cell table pos e = absurd cc
write_keeps (items ∷ own) zero at cell zero pos e = set_keeps items at pos cell e
write_keeps (items ∷ own) zero at cell (suc table) pos e = e
write_keeps (items ∷ own) (suc written) at cell zero pos e = e
write_keeps (items ∷ own) (suc written) at cell (suc table) pos e = write_keeps own written at cell table pos e

pub writes_keep : (own : Own) (writes : List Write) (table pos : ℕ) → is_some (item_at own table pos) ≡ true
    → is_some (item_at (with_writes own writes) table pos) ≡ true
writes_keep own [] table pos e = e
writes_keep own (write ∷ writes) table pos e =
    writes_keep (with_write own write) writes table pos (write_keeps own write.table write.pos write.cell table pos e)

-- ---- who has written

-- the transaction of this number of a session has written a position
pub data WrittenIn (session : Session) (txn table pos : ℕ) : Type 0 where
  by_ended : (before : ℕ) (finished : Finished) → txn ≡ suc before → slice_get session.done before ≡ Some finished
      → is_some (item_at finished.begun.own table pos) ≡ true → WrittenIn session txn table pos
  by_open : (current : Open) → txn ≡ suc (length session.done) → session.now ≡ Some current
      → is_some (item_at current.begun.own table pos) ≡ true → WrittenIn session txn table pos

abbrev pub HasWritten : State → Label → ℕ → ℕ → Type 0
HasWritten state label table pos = WrittenIn (session_at state label.session) label.txn table pos

abbrev pub Keeps : Session → Session → Type 0
Keeps old new = (txn table pos : ℕ) → WrittenIn old txn table pos → WrittenIn new txn table pos

pub keeps_open : (old : Session) (current new : Open) → old.now ≡ Some current
    → ((table pos : ℕ) → is_some (item_at current.begun.own table pos) ≡ true → is_some (item_at new.begun.own table pos) ≡ true)
    → Keeps old (record { done = old.done; now = Some new })
keeps_open old current new is more txn table pos (by_ended before finished e at own) = by_ended before finished e at own
keeps_open old current new is more txn table pos (by_open one e now own) =
    by_open new e refl (more table pos (subst (λ (o : Open). is_some (item_at o.begun.own table pos) ≡ true)
    (same_Some one current (sym now ∙ is)) own))

pub keeps_begun : (old : Session) (new : Open) → old.now ≡ None → Keeps old (record { done = old.done; now = Some new })
keeps_begun old new is txn table pos (by_ended before finished e at own) = by_ended before finished e at own
keeps_begun old new is txn table pos (by_open one e now own) = absurd (let never : None ≡ Some one = sym is ∙ now in cc)

pub keeps_ended : (old : Session) (current : Open) (ending : Ending) → old.now ≡ Some current
    → Keeps old (record { done = old.done ++ record { begun = current.begun; ending = ending } ∷ []; now = None })
keeps_ended old current ending is txn table pos (by_ended before finished e at own) =
    by_ended before finished e (kept_in_front old.done (record { begun = current.begun; ending = ending } ∷ []) before finished at) own
keeps_ended old current ending is txn table pos (by_open one e now own) =
    by_ended (length old.done) (record { begun = current.begun; ending = ending }) e (last_item old.done (record { begun = current.begun; ending = ending }))
    (subst (λ (o : Open). is_some (item_at o.begun.own table pos) ≡ true) (same_Some one current (sym now ∙ is)) own)

-- ---- who names

-- one that is in conflict names a transaction that has written that position
abbrev pub Names : State → Ending → Type 0
Names state (Committed rank) = Unit {0}
Names state Read = Unit {0}
Names state RolledBack = Unit {0}
Names state (Conflict table pos other) = HasWritten state other table pos
Names state (Invalid table pos other statement) = Unit {0}
Names state (Range table pos) = Unit {0}
Names state (Full table) = Unit {0}

abbrev pub PhaseNames : State → Phase → Type 0
PhaseNames state (Working visited count) = Unit {0}
PhaseNames state (Stamping visited) = Unit {0}
PhaseNames state (Undoing visited cause) = Names state cause

abbrev pub NowNames : State → Option Open → Type 0
NowNames state None = Unit {0}
NowNames state (Some current) = PhaseNames state current.phase

pub record SessionNames (state : State) (session : Session) : Type 0 where
  pub done : AllByRecursion (λ (finished : Finished). Names state finished.ending) session.done
  pub now : NowNames state session.now

-- what has been written in a state has been written in a later one
abbrev Stays : State → State → Type 0
Stays state later = (label : Label) (table pos : ℕ) → HasWritten state label table pos → HasWritten later label table pos

names_stay : (state later : State) → Stays state later → (ending : Ending) → Names state ending → Names later ending
names_stay state later stays (Committed rank) h = tt
names_stay state later stays Read h = tt
names_stay state later stays RolledBack h = tt
names_stay state later stays (Conflict table pos other) h = stays other table pos h
names_stay state later stays (Invalid table pos other statement) h = tt
names_stay state later stays (Range table pos) h = tt
names_stay state later stays (Full table) h = tt

phase_stays : (state later : State) → Stays state later → (phase : Phase) → PhaseNames state phase → PhaseNames later phase
phase_stays state later stays (Working visited count) h = tt
phase_stays state later stays (Stamping visited) h = tt
phase_stays state later stays (Undoing visited cause) h = names_stay state later stays cause h

now_stays : (state later : State) → Stays state later → (now : Option Open) → NowNames state now → NowNames later now
now_stays state later stays None h = tt
now_stays state later stays (Some current) h = phase_stays state later stays current.phase h

session_stays : (state later : State) → Stays state later → (session : Session) → SessionNames state session → SessionNames later session
session_stays state later stays session h = record {
  done = all_so (λ (finished : Finished). Names state finished.ending) (λ (finished : Finished). Names later finished.ending) session.done
      (λ finished. names_stay state later stays finished.ending) h.done;
  now = now_stays state later stays session.now h.now;
}

pub names_moved : (state : State) (order : List Entry) (mark : Option ℕ) (number : ℕ) (session : Session) → number < length state.sessions
    → Keeps (session_at state number) session → SessionNames state session → ((other : ℕ) → SessionNames state (session_at state other))
    → (other : ℕ) → SessionNames (moved_to state order mark number session) (session_at (moved_to state order mark number session) other)
names_moved state order mark number session there keeps here others =
    let later : State = moved_to state order mark number session in
    let stays : Stays state later = λ label.
    sessions_moved (λ other one. (table pos : ℕ) → WrittenIn (session_at state other) label.txn table pos → WrittenIn one label.txn table pos)
    state order mark number session there (λ table pos. keeps label.txn table pos) (λ other apart table pos h. h) label.session in
    sessions_moved (λ other one. SessionNames later one) state order mark number session there
    (session_stays state later stays session here) (λ other apart. session_stays state later stays (session_at state other) (others other))
