-- Where the visits of an open transaction stand, and what a turn makes of that.
use Rattle.std.proofs.Common.{◌≡◌, ℕ, zero, suc, ◌+◌, ◌*◌, ◌<◌, ◌≤◌, List, [], ◌∷◌, Option, None, Some, Result, length}
use Rattle.std.proofs.Common.{map, replicate, get_or, refl, sym, ◌∙◌, subst, arith, inr, ◌⊎◌}
use Rattle.std.proofs.Math.ListN.{set}
use Rattle.std.specs.Prelude.{slice_get}
use Rattle.std.specs.List.{AllByRecursion}
use Rattle.std.proofs.lemmas.List.{length-map, length-set, length-replicate}
use Rattle.std.proofs.lemmas.Option.{same_Some, slice_get_within}
use Rattle.hy_value.specs.declared.Value.{Value}
use Rattle.hy_bound.specs.declared.Txn.{Txn}
use Rattle.hy_bound.specs.declared.Bound.{Bound}
use Rattle.hy_bound.specs.declared.Bound.TheVariants.{Select, Group, Insert, Update, Delete, Savepoint, RollbackTo, Release}
use Rattle.hy_bound.specs.declared.Reply.{Reply}
use Rattle.hy_bound.specs.declared.WriteKind.{WriteKind}
use Rattle.hy_bound.specs.declared.WriteKind.TheVariants as kind
use Rattle.hy_bound.specs.Records.{shape_of}
use Rattle.hy_meaning.specs.Statement.{answer_of, grouped}
use Rattle.hy_bound.specs.declared.Ending.{Ending}
use Rattle.hy_bound.specs.declared.Ending.TheVariants.{RolledBack}
use Rattle.hy_machine.specs.declared.Setting.{Setting}
use Rattle.hy_protocol.specs.declared.Phase.{Phase}
use Rattle.hy_protocol.specs.declared.Phase.TheVariants.{Working, Stamping, Undoing}
use Rattle.hy_machine.specs.States.{State, Begun}
use Rattle.hy_machine.specs.Writes.{Write, blank_own, with_write, with_writes, written_chunks}
use Rattle.hy_protocol.specs.Turns.{Turn, Done, Waits, Begins, Visits, Answers, Saves, Enters, Ends}
use Rattle.hy_machine.specs.Tables.{Cell, Own, capacity}
use Rattle.hy_machine.specs.Sessions.{view}
use Rattle.hy_machine.specs.Saving.{written_since}
use Rattle.hy_machine.specs.ChunkCounts.{since_few}
use Rattle.hy_machine.specs.Visits.{swept, checks_of}
use Rattle.hy_machine.specs.Turns.{rows_seen}
use Rattle.hy_machine.specs.Turns.{phase_turn}
use Rattle.hy_machine.specs.Kept.{OwnFits, visits_in}
use Rattle.hy_machine.specs.TurnCases.{ReadCases, WriteCases, StatementCases, UndoCases, statement_cases, undo_cases, stamp_cases, working_cases}

-- ---- what a transaction writes has a cell for each position of each table

blank_long : (long : ℕ) (rows : List (List (List Value)))
    → AllByRecursion (λ (cells : List (Option Cell)). length cells ≡ long) (map (λ one. replicate {A = Option Cell} long None) rows)
blank_long long [] = tt
blank_long long (one ∷ rows) = (length-replicate {A = Option Cell} long None, blank_long long rows)

pub blank_has : (setting : Setting) → OwnFits setting (blank_own setting)
blank_has setting = record {
  tables = length-map setting.first (λ (rows : List (List Value)). replicate {A = Option Cell} (capacity setting) None);
  positions = blank_long (capacity setting) setting.first;
}

write_long : (long : ℕ) (own : Own) (table pos : ℕ) (cell : Cell) → AllByRecursion (λ (cells : List (Option Cell)). length cells ≡ long) own
    → AllByRecursion (λ (cells : List (Option Cell)). length cells ≡ long) (set own table (set (get_or own table []) pos (Some cell)))
write_long long [] table pos cell h = tt
write_long long (cells ∷ own) zero pos cell h = (length-set cells pos (Some cell) ∙ h.0, h.1)
write_long long (cells ∷ own) (suc table) pos cell h = (h.0, write_long long own table pos cell h.1)

pub writes_have : (setting : Setting) (own : Own) (writes : List Write) → OwnFits setting own → OwnFits setting (with_writes own writes)
writes_have setting own [] h = h
writes_have setting own (write ∷ writes) h = writes_have setting (with_write own write) writes (record {
  tables = length-set own write.table (set (get_or own write.table []) write.pos (Some write.cell)) ∙ h.tables;
  positions = write_long (capacity setting) own write.table write.pos write.cell h.positions;
})

-- ---- where visits stand

-- of the present statement, if there is one, no visit is done, or some but not all
abbrev pub VisitsStand : Setting → List Bound → Begun → ℕ → Type 0
VisitsStand setting statements begun visited = (statement : Bound) → slice_get statements (length begun.replies) ≡ Some statement
    → (visited ≡ 0) ⊎ (visited < visits_in setting statement)

-- and at most as many chunks are stamped or undone as were written
abbrev pub PhaseStands : Setting → List Bound → Begun → Phase → Type 0
PhaseStands setting statements begun (Working visited count) = VisitsStand setting statements begun visited
PhaseStands setting statements begun (Stamping visited) = visited ≤ length (written_chunks setting begun.own)
PhaseStands setting statements begun (Undoing visited cause) = visited ≤ length (written_chunks setting begun.own)

-- a turn of an open transaction leaves its visits so
abbrev pub TurnStands : Setting → List Bound → Begun → Turn Write → Type 0
TurnStands setting statements begun Done = Unit {0}
TurnStands setting statements begun (Waits by) = Unit {0}
TurnStands setting statements begun Begins = ⊥
TurnStands setting statements begun (Visits writes phase) = PhaseStands setting statements (record begun { own = with_writes begun.own writes }) phase
TurnStands setting statements begun (Answers writes reply took records) = Unit {0}
TurnStands setting statements begun (Saves statement reply) = Unit {0}
TurnStands setting statements begun Enters = Unit {0}
TurnStands setting statements begun (Ends ending) = Unit {0}

-- ---- statements

few_visits : (setting : Setting) (statements : List Bound) (begun : Begun) (statement : Bound) (visited : ℕ)
    → slice_get statements (length begun.replies) ≡ Some statement → visited < visits_in setting statement
    → VisitsStand setting statements begun visited
few_visits setting statements begun statement visited e few other f =
    inr (subst (λ (one : Bound). visited < visits_in setting one) (same_Some statement other (sym e ∙ f)) few)

writes_stand : (setting : Setting) (statements : List Bound) (begun : Begun) (visited count : ℕ) (statement : Bound) (kind : WriteKind)
    (result : Result (List Write) Ending) → slice_get statements (length begun.replies) ≡ Some statement → visits_in setting statement ≡ setting.chunks
    → WriteCases setting begun (TurnStands setting statements begun) visited count statement kind result
writes_stand setting statements begun visited count statement kind result e many = record {
  out = λ cause is. omega arith;
  goes = λ writes is few. few_visits setting statements (record begun { own = with_writes begun.own writes }) statement (suc visited) e
      (subst (λ (n : ℕ). suc visited < n) (sym many) few);
  ends = λ writes is. tt;
}

reads_stand : (setting : Setting) (statements : List Bound) (begun : Begun) (visited tables : ℕ) (statement : Bound)
    (gathered : List (List (List Value))) (reply : Reply) → slice_get statements (length begun.replies) ≡ Some statement
    → visits_in setting statement ≡ setting.chunks * tables
    → ReadCases setting begun (TurnStands setting statements begun) visited tables statement gathered reply
reads_stand setting statements begun visited tables statement gathered reply e many = record {
  goes = λ few. few_visits setting statements begun statement (suc visited) e (subst (λ (n : ℕ). suc visited < n) (sym many) few);
  ends = tt;
}

-- behind a check there are places to look at
checks_left : (setting : Setting) (key : Option ℕ) (visited : ℕ) → visited < checks_of setting key → suc visited < checks_of setting key + setting.chunks
checks_left setting None visited h = absurd (omega (arith, h))
checks_left setting (Some column) visited h = omega (arith, h)

statement_stands : (setting : Setting) (state : State) (number : ℕ) (statements : List Bound) (begun : Begun) (visited count : ℕ) (statement : Bound)
    → slice_get statements (length begun.replies) ≡ Some statement
    → StatementCases setting state number begun (TurnStands setting statements begun) visited count statement
statement_stands setting state number statements begun visited count (Select tables ons pred items) e =
    reads_stand setting statements begun visited (length tables) (Select tables ons pred items) (map (rows_seen (view setting state begun)) tables)
    (answer_of ons pred items (map (rows_seen (view setting state begun)) tables)) e refl
statement_stands setting state number statements begun visited count (Group table pred key aggregate) e =
    reads_stand setting statements begun visited 1 (Group table pred key aggregate) []
    (grouped pred key aggregate (rows_seen (view setting state begun) table)) e (omega arith)
statement_stands setting state number statements begun visited count (Insert table row) e = record {
  checked = λ few. few_visits setting statements begun (Insert table row) (suc visited) e
      (checks_left setting (shape_of setting.shapes table).key visited few);
  twice = tt;
  takes = λ pos is. tt;
  goes = λ past is few. few_visits setting statements begun (Insert table row) (suc visited) e (omega (arith, past, few));
  full = λ past is most. omega arith;
}
statement_stands setting state number statements begun visited count (Update table sets pred) e =
    writes_stand setting statements begun visited count (Update table sets pred) (kind.Set sets)
    (swept setting state number begun (kind.Set sets) pred table visited) e refl
statement_stands setting state number statements begun visited count (Delete table pred) e =
    writes_stand setting statements begun visited count (Delete table pred) kind.Delete
    (swept setting state number begun kind.Delete pred table visited) e refl
statement_stands setting state number statements begun visited count (Savepoint name) e = record { waits = λ by is. tt; saves = λ free. tt }
statement_stands setting state number statements begun visited count (RollbackTo name) e = record {
  goes = λ chunk is. few_visits setting statements begun (RollbackTo name) (suc visited) e
      (omega (arith, since_few setting begun name, slice_get_within (written_since setting begun name) visited chunk is));
  ends = λ none. record { waits = λ by is. tt; saves = λ free. tt };
}
statement_stands setting state number statements begun visited count (Release name) e = record { waits = λ by is. tt; saves = λ free. tt }

undo_stands : (setting : Setting) (state : State) (number : ℕ) (statements : List Bound) (begun : Begun) (visited : ℕ) (cause : Ending)
    → UndoCases setting state number begun (TurnStands setting statements begun) visited cause
undo_stands setting state number statements begun visited cause = record { goes = λ few. omega (arith, few); waits = λ by is. tt; ends = λ free. tt }

-- the turn of an open transaction
pub phase_stands : (setting : Setting) (state : State) (number : ℕ) (txn : Txn) (begun : Begun) (phase : Phase)
    → TurnStands setting txn.statements begun (phase_turn setting state number txn begun phase)
phase_stands setting state number txn begun (Working visited count) =
    working_cases setting state number begun (TurnStands setting txn.statements begun) txn visited count
    (λ statement e. statement_cases setting state number begun (TurnStands setting txn.statements begun) visited count statement
    (statement_stands setting state number txn.statements begun visited count statement e))
    (λ none commits. record { waits = λ by is. tt; reads = λ free nothing. tt; enters = λ free some e. tt; out = λ some cause e. omega arith })
    (λ none rolls. undo_stands setting state number txn.statements begun 0 RolledBack)
phase_stands setting state number txn begun (Stamping visited) =
    stamp_cases setting state number begun (TurnStands setting txn.statements begun) visited (λ few. omega (arith, few)) tt
phase_stands setting state number txn begun (Undoing visited cause) =
    undo_cases setting state number begun (TurnStands setting txn.statements begun) visited cause
    (undo_stands setting state number txn.statements begun visited cause)
