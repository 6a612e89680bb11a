-- The statement at which an open transaction is at work: its values are of the types of the chunk that it needs, and a visit of it is left.
use Rattle.std.proofs.Common.{◌≡◌, ◌⊎◌, ℕ, ◌-◌, ◌<◌, List, [], length, Option, Some, Bool, true, false, cond, sym, ap, ◌∙◌, subst}
use Rattle.std.specs.Prelude.{slice_get, nat_lt}
use Rattle.std.specs.List.{All}
use Rattle.hy_value.specs.declared.Kind.{Kind}
use Rattle.hy_bound.specs.declared.Bound.{Bound}
use Rattle.hy_bound.specs.declared.Bound.TheVariants.{Select, Group, Insert, Update, Delete, Savepoint, RollbackTo, Release}
use Rattle.hy_bound.specs.declared.Reply.{Reply}
use Rattle.hy_bound.specs.declared.Shape.{Shape}
use Rattle.hy_bound.specs.declared.Txn.{Txn}
use Rattle.hy_bound.specs.Records.{shape_of}
use Rattle.hy_journal.specs.declared.CoreData.{CoreData}
use Rattle.hy_event.specs.declared.SessionData.{SessionData}
use Rattle.hy_event.specs.declared.Open.{Open}
use Rattle.hy_event.specs.declared.Need.{Need}
use Rattle.hy_event.specs.declared.Need.TheVariants.{Core, Chunk, Done}
use Rattle.hy_protocol.specs.declared.Phase.{Phase}
use Rattle.hy_protocol.specs.declared.Phase.TheVariants as phase
use Rattle.hy_event.specs.Ended.{statements_in}
use Rattle.hy_event.specs.Needs.{need_of, session_need, phase_need, working_need, statement_need, checks_of}
use Rattle.hy_machine.specs.declared.Setting.{Setting}
use Rattle.hy_machine.specs.States.{State}
use Rattle.hy_machine.specs.Sessions.{program_of}
use Rattle.hy_machine.specs.Kept.{PhaseFits, visits_in}
use Rattle.hy_session.specs.Near.{IsTyped, HasVisitLeft, present_statement}
use Rattle.hy_stepping.specs.Typed.{IsTypedOf, IsTypedIn, IsTypedTxn, kinds_of}
use Rattle.hy_stepping.proofs.OpenOnes.{one_of_all, session_within, OpenOne}

-- ---- the statement

-- the present statement is one of the transaction's
pub at_present : (setting : Setting) (state : State) (core : CoreData) (number : ℕ) (session : SessionData) (now : Open) (statement : Bound)
    → (one : OpenOne setting state core number session now) → present_statement session now ≡ Some statement
    → slice_get one.txn.statements (length now.replies) ≡ Some statement
at_present setting state core number session now statement one present =
    sym (ap (λ (txn : Option Txn). slice_get (statements_in txn) (length now.replies)) one.txn_here) ∙ present

-- a session at work needs what its statement needs
pub statement_needs : (setting : Setting) (state : State) (core : CoreData) (number : ℕ) (session : SessionData) (now : Open) (statement : Bound)
    (visited count : ℕ) → (one : OpenOne setting state core number session now) → session.now ≡ Some now → now.phase ≡ phase.Working visited count
    → slice_get one.txn.statements (length now.replies) ≡ Some statement → need_of session ≡ statement_need session now visited statement
statement_needs setting state core number session now statement visited count one here working at =
    ap (λ (txn : Option Txn). session_need session txn session.now) one.txn_here
    ∙ (ap (λ (open' : Option Open). session_need session (Some one.txn) open') here
    ∙ (ap (λ (p : Phase). phase_need session one.txn now p) working
    ∙ ap (λ (present : Option Bound). working_need session one.txn now visited present) at))

-- ---- types

-- a transaction of a program is of the types of its tables
pub txn_typed : (kinds : List (List Kind)) (setting : Setting) (number before : ℕ) (txn : Txn)
    → All (λ (txns : List Txn). All (IsTypedTxn kinds setting.shapes) txns) setting.programs → slice_get (program_of setting number) before ≡ Some txn
    → IsTypedTxn kinds setting.shapes txn
txn_typed kinds setting number before txn all e =
    one_of_all (IsTypedTxn kinds setting.shapes) (program_of setting number) before txn (all number [] (session_within setting number before txn e)) e

-- the table of a chunk that is needed
abbrev table_needed : Need → ℕ
table_needed Core = 0
table_needed (Chunk table chunk) = table
table_needed Done = 0

insert_table : (other one another table chunk : ℕ) (checks : Bool) → cond checks (Chunk other one) (Chunk other another) ≡ Chunk table chunk
    → other ≡ table
insert_table other one another table chunk true e = ap table_needed e
insert_table other one another table chunk false e = ap table_needed e

-- what is of the types of a table is so of the same ones
typed_by : (kinds : List (List Kind)) (shapes : List Shape) (types : List Kind) (key : Option ℕ) (table other : ℕ) (statement : Bound)
    → types ≡ kinds_of kinds table → key ≡ (shape_of shapes table).key → other ≡ table → IsTypedOf kinds shapes other statement
    → IsTyped types key statement
typed_by kinds shapes types key table other statement types_are key_is same typed =
    subst (λ (k : Option ℕ). IsTyped types k statement) (sym key_is)
    (subst (λ (ts : List Kind). IsTyped ts (shape_of shapes table).key statement) (sym types_are)
    (subst (λ (t : ℕ). IsTypedOf kinds shapes t statement) same typed))

-- a statement is of the types of the chunk that it needs
pub typed_here : (kinds : List (List Kind)) (shapes : List Shape) (types : List Kind) (key : Option ℕ) (session : SessionData) (now : Open)
    (visited table chunk : ℕ) (statement : Bound) → types ≡ kinds_of kinds table → key ≡ (shape_of shapes table).key
    → statement_need session now visited statement ≡ Chunk table chunk → IsTypedIn kinds shapes statement → IsTyped types key statement
typed_here kinds shapes types key session now visited table chunk (Select tables ons pred items) types_are key_is need typed = tt
typed_here kinds shapes types key session now visited table chunk (Group other pred grouped aggregate) types_are key_is need typed = tt
typed_here kinds shapes types key session now visited table chunk (Insert other row) types_are key_is need typed =
    let checks : ℕ = checks_of session (shape_of session.shapes other).key in
    typed_by kinds shapes types key table other (Insert other row) types_are key_is
    (insert_table other visited (visited - checks) table chunk (nat_lt visited checks) need) typed
typed_here kinds shapes types key session now visited table chunk (Update other sets pred) types_are key_is need typed =
    typed_by kinds shapes types key table other (Update other sets pred) types_are key_is (ap table_needed need) typed
typed_here kinds shapes types key session now visited table chunk (Delete other pred) types_are key_is need typed = tt
typed_here kinds shapes types key session now visited table chunk (Savepoint name) types_are key_is need typed = tt
typed_here kinds shapes types key session now visited table chunk (RollbackTo name) types_are key_is need typed = tt
typed_here kinds shapes types key session now visited table chunk (Release name) types_are key_is need typed = tt

-- ---- visits

-- so of its statement no visit is done, or some but not all
pub visits_fit : (setting : Setting) (state : State) (core : CoreData) (number : ℕ) (session : SessionData) (now : Open) (statement : Bound)
    (visited count : ℕ) → (one : OpenOne setting state core number session now) → now.phase ≡ phase.Working visited count
    → slice_get one.txn.statements (length now.replies) ≡ Some statement → (visited ≡ 0) ⊎ (visited < visits_in setting statement)
visits_fit setting state core number session now statement visited count one working at =
    let stands : one.current.phase ≡ phase.Working visited count = sym one.shows.open_shows.phase ∙ working in
    let fits : PhaseFits setting (Some one.txn) one.current.begun (phase.Working visited count) =
    subst (λ (s : Phase). PhaseFits setting (Some one.txn) one.current.begun s) stands one.phase_fits in
    fits.visits statement (ap (λ (replies : List Reply). slice_get one.txn.statements (length replies)) (sym one.shows.open_shows.replies) ∙ at)

-- a visit is left of a statement that reads
pub left_of : (setting : Setting) (visited : ℕ) (statement : Bound) → visited < visits_in setting statement
    → HasVisitLeft setting.chunks visited statement
left_of setting visited (Select tables ons pred items) left = left
left_of setting visited (Group table pred grouped aggregate) left = left
left_of setting visited (Insert table row) left = tt
left_of setting visited (Update table sets pred) left = tt
left_of setting visited (Delete table pred) left = tt
left_of setting visited (Savepoint name) left = tt
left_of setting visited (RollbackTo name) left = tt
left_of setting visited (Release name) left = tt
