-- The positions that an INSERT has passed are accounted for, and where a table is full all of its positions are: kept along steps.
use Rattle.std.proofs.Common.{◌≡◌, ℕ, zero, suc, ◌+◌, ◌-◌, ◌*◌, ◌<◌, ◌≤◌, List, [], ◌∷◌, ◌++◌, Option, None, Some, Bool, false}
use Rattle.std.proofs.Common.{length, drop, cond, ap, sym, ◌∙◌, subst, arith, inl, inr, mul-le-mul_right}
use Rattle.std.specs.Prelude.{slice_get, find}
use Rattle.std.specs.List.{AllByRecursion, range_with_len}
use Rattle.std.proofs.lemmas.Bool.{cases_Bool, cases_lt}
use Rattle.hy_value.specs.declared.Value.{Value}
use Rattle.hy_bound.specs.declared.Txn.{Txn}
use Rattle.hy_bound.specs.declared.Bound.{Bound}
use Rattle.hy_bound.specs.declared.Bound.TheVariants.{Select, Group, Insert, Update, Delete, Savepoint, RollbackTo, Release}
use Rattle.hy_bound.specs.declared.Record.{Record}
use Rattle.hy_bound.specs.declared.WriteKind.{WriteKind}
use Rattle.hy_bound.specs.declared.WriteKind.TheVariants as kind
use Rattle.hy_bound.specs.Condition.{Condition}
use Rattle.hy_bound.specs.Records.{shape_of}
use Rattle.hy_stamp.specs.declared.Label.{Label}
use Rattle.hy_bound.specs.declared.Ending.{Ending}
use Rattle.hy_bound.specs.declared.Ending.TheVariants.{Committed, Read, RolledBack, Conflict, Invalid, Range, Full}
use Rattle.hy_machine.specs.declared.Setting.{Setting}
use Rattle.hy_protocol.specs.declared.Phase.{Phase}
use Rattle.hy_protocol.specs.declared.Phase.TheVariants.{Working, Stamping, Undoing}
use Rattle.hy_machine.specs.States.{State, Session, Open, Begun, Finished}
use Rattle.hy_machine.specs.Tables.{Entry, capacity, positions_in}
use Rattle.hy_machine.specs.Writes.{Write}
use Rattle.hy_protocol.specs.Turns.{Turn, Done, Waits, Begins, Visits, Answers, Saves, Enters, Ends}
use Rattle.hy_machine.specs.Positions.{item_at}
use Rattle.hy_machine.specs.Sessions.{session_at, view}
use Rattle.hy_machine.specs.Holding.{opponent, is_free}
use Rattle.hy_machine.specs.Visits.{verdict_at, swept, free_position, checks_of}
use Rattle.hy_machine.specs.Turns.{statement_turn}
use Rattle.hy_machine.specs.Turns.{undo_turn, stamp_turn, working_turn}
use Rattle.hy_lawful.specs.Reached.{statements_at}
use Rattle.hy_lawful.proofs.Fits.{label_at, IsNumbered}
use Rattle.hy_lawful.proofs.Refusals.{Refuses, verdict_refuses, sweep_refuses, first_hit_is}
use Rattle.hy_lawful.proofs.FullRoom.{Accounted, accounted_goes, AtWork, taken_accounted, opponent_meets}
use Rattle.hy_lawful.proofs.FullOverlaps.{Meets, Reaches, reaches_later, overlap_later, open_reaches}
use Rattle.hy_lawful.proofs.Grows.{grows_by, label_within}
use Rattle.hy_lawful.proofs.FullSince.{StandsSince, since_goes, opponent_since}
use Rattle.hy_lawful.proofs.FoundRows.{FindsToo, finds_go, opponent_finds}
use Rattle.hy_lawful.proofs.Opponents.{label_dropped}
use Rattle.hy_lawful.proofs.FullKeeps.{Goes}
use Rattle.hy_machine.specs.TurnCases.{InsertCases, WriteCases, StatementCases, CommitCases, statement_cases, undo_cases, stamp_cases, working_cases}

-- ---- what is passed

-- all positions below a bound are accounted for
abbrev pub RoomBelow : Setting → State → ℕ → ℕ → ℕ → ℕ → ℕ → Type 0
RoomBelow setting state number before prefix table end = (pos : ℕ) → pos < end → Accounted setting state number before prefix table pos

-- the transaction of an entry, which came before another one ended
pub record Met (state : State) (number before : ℕ) (other : Label) : Type 0 where
  pub rank : ℕ
  pub stands : label_at state.order rank ≡ Some other
  pub reaches : Reaches state number before (rank + 1)

-- a transaction may have been open with the one of a label, which does not stand in the order before its start, and found
-- a row at a position if the other one did
pub record Rivals (setting : Setting) (state : State) (number before prefix table pos : ℕ) (other : Label) : Type 0 where
  pub meets : Meets state number before prefix other
  pub since : StandsSince state prefix other
  pub found : FindsToo setting state prefix table pos other

-- where a table is full, all of its positions; who is named may have been open with the refused one
abbrev pub EndRoom : Setting → State → ℕ → ℕ → ℕ → Ending → Type 0
EndRoom setting state number before prefix (Committed rank) = Unit {0}
EndRoom setting state number before prefix Read = Unit {0}
EndRoom setting state number before prefix RolledBack = Unit {0}
EndRoom setting state number before prefix (Conflict table pos other) = Rivals setting state number before prefix table pos other
EndRoom setting state number before prefix (Invalid table pos other statement) = Met state number before other
EndRoom setting state number before prefix (Range table pos) = Unit {0}
EndRoom setting state number before prefix (Full table) = RoomBelow setting state number before prefix table (capacity setting)

abbrev key_of : Setting → ℕ → Option ℕ
key_of setting table = (shape_of setting.shapes table).key

-- so many visits of a statement are done
abbrev pub WorkRoom : Setting → State → ℕ → ℕ → ℕ → ℕ → Option Bound → Type 0
WorkRoom setting state number before prefix visited None = Unit {0}
WorkRoom setting state number before prefix visited (Some (Select tables ons pred items)) = Unit {0}
WorkRoom setting state number before prefix visited (Some (Group table pred key aggregate)) = Unit {0}
WorkRoom setting state number before prefix visited (Some (Insert table row)) =
    RoomBelow setting state number before prefix table ((visited - checks_of setting (key_of setting table)) * setting.rows)
WorkRoom setting state number before prefix visited (Some (Update table sets pred)) = Unit {0}
WorkRoom setting state number before prefix visited (Some (Delete table pred)) = Unit {0}
WorkRoom setting state number before prefix visited (Some (Savepoint name)) = Unit {0}
WorkRoom setting state number before prefix visited (Some (RollbackTo name)) = Unit {0}
WorkRoom setting state number before prefix visited (Some (Release name)) = Unit {0}

abbrev pub PhaseRoom : Setting → State → ℕ → ℕ → ℕ → Option Bound → Phase → Type 0
PhaseRoom setting state number before prefix statement (Working visited count) = WorkRoom setting state number before prefix visited statement
PhaseRoom setting state number before prefix statement (Stamping visited) = Unit {0}
PhaseRoom setting state number before prefix statement (Undoing visited cause) = EndRoom setting state number before prefix cause

abbrev pub present_statement : List Bound → Begun → Option Bound
present_statement statements begun = slice_get statements (length begun.replies)

abbrev pub NowRoom : Setting → State → ℕ → ℕ → List Bound → Option Open → Type 0
NowRoom setting state number before statements None = Unit {0}
NowRoom setting state number before statements (Some current) =
    PhaseRoom setting state number before current.begun.prefix (present_statement statements current.begun) current.phase

-- the ended transactions of a session, the first of them with so many before it, and the open one
abbrev pub DoneRoom : Setting → State → ℕ → ℕ → List Finished → Option Open → Type 0
DoneRoom setting state number before [] now = NowRoom setting state number before (statements_at setting number before) now
DoneRoom setting state number before (finished ∷ done) now =
    EndRoom setting state number before finished.begun.prefix finished.ending × DoneRoom setting state number (suc before) done now

abbrev pub SessionRoom : Setting → State → ℕ → Session → Type 0
SessionRoom setting state number session = DoneRoom setting state number 0 session.done session.now

abbrev pub AllRoom : Setting → State → Type 0
AllRoom setting state = (number : ℕ) → SessionRoom setting state number (session_at state number)

-- ---- it stays so

met_goes : (setting : Setting) (state later : State) → Goes state later → (number before : ℕ) (other : Label) → Met state number before other
    → Met later number before other
met_goes setting state later g number before other m = record {
  rank = m.rank;
  stands = ap (λ (order : List Entry). label_at order m.rank) g.order ∙ (grows_by state.order g.entries).stands m.rank other m.stands;
  reaches = reaches_later state later g.starts number before (m.rank + 1) (omega (arith, label_within state.order m.rank other m.stands)) m.reaches;
}

rivals_go : (setting : Setting) (state later : State) → Goes state later → (number before prefix table pos : ℕ) (other : Label)
    → Rivals setting state number before prefix table pos other → Rivals setting later number before prefix table pos other
rivals_go setting state later g number before prefix table pos other h = record {
  meets = record {
    after = h.meets.after;
    begin = h.meets.begin;
    is = h.meets.is;
    overlap = overlap_later state later g.starts number before prefix other.session h.meets.after h.meets.begin h.meets.overlap;
  };
  since = since_goes setting state later g prefix other h.meets.overlap.within h.since;
  found = finds_go setting state later g prefix table pos other h.meets.overlap.within h.found;
}

end_goes : (setting : Setting) (state later : State) → Goes state later → (number before prefix : ℕ) (ending : Ending)
    → EndRoom setting state number before prefix ending → EndRoom setting later number before prefix ending
end_goes setting state later g number before prefix (Committed rank) h = tt
end_goes setting state later g number before prefix Read h = tt
end_goes setting state later g number before prefix RolledBack h = tt
end_goes setting state later g number before prefix (Conflict table pos other) h =
    rivals_go setting state later g number before prefix table pos other h
end_goes setting state later g number before prefix (Invalid table pos other statement) h = met_goes setting state later g number before other h
end_goes setting state later g number before prefix (Range table pos) h = tt
end_goes setting state later g number before prefix (Full table) h =
    λ pos below. accounted_goes setting state later g number before prefix table pos (h pos below)

work_goes : (setting : Setting) (state later : State) → Goes state later → (number before prefix visited : ℕ) (statement : Option Bound)
    → WorkRoom setting state number before prefix visited statement → WorkRoom setting later number before prefix visited statement
work_goes setting state later g number before prefix visited None h = tt
work_goes setting state later g number before prefix visited (Some (Select tables ons pred items)) h = tt
work_goes setting state later g number before prefix visited (Some (Group table pred key aggregate)) h = tt
work_goes setting state later g number before prefix visited (Some (Insert table row)) h =
    λ pos below. accounted_goes setting state later g number before prefix table pos (h pos below)
work_goes setting state later g number before prefix visited (Some (Update table sets pred)) h = tt
work_goes setting state later g number before prefix visited (Some (Delete table pred)) h = tt
work_goes setting state later g number before prefix visited (Some (Savepoint name)) h = tt
work_goes setting state later g number before prefix visited (Some (RollbackTo name)) h = tt
work_goes setting state later g number before prefix visited (Some (Release name)) h = tt

pub phase_goes : (setting : Setting) (state later : State) → Goes state later → (number before prefix : ℕ) (statement : Option Bound) (phase : Phase)
    → PhaseRoom setting state number before prefix statement phase → PhaseRoom setting later number before prefix statement phase
phase_goes setting state later g number before prefix statement (Working visited count) h =
    work_goes setting state later g number before prefix visited statement h
phase_goes setting state later g number before prefix statement (Stamping visited) h = tt
phase_goes setting state later g number before prefix statement (Undoing visited cause) h =
    end_goes setting state later g number before prefix cause h

pub now_goes : (setting : Setting) (state later : State) → Goes state later → (number before : ℕ) (statements : List Bound) (now : Option Open)
    → NowRoom setting state number before statements now → NowRoom setting later number before statements now
now_goes setting state later g number before statements None h = tt
now_goes setting state later g number before statements (Some current) h =
    phase_goes setting state later g number before current.begun.prefix (present_statement statements current.begun) current.phase h

pub done_goes : (setting : Setting) (state later : State) → Goes state later → (number before : ℕ) (done : List Finished) (now new : Option Open)
    → ((at : ℕ) → at ≡ before + length done → NowRoom setting state number at (statements_at setting number at) now
    → NowRoom setting later number at (statements_at setting number at) new)
    → DoneRoom setting state number before done now → DoneRoom setting later number before done new
done_goes setting state later g number before [] now new f h = f before (omega arith) h
done_goes setting state later g number before (finished ∷ done) now new f h = (
  end_goes setting state later g number before finished.begun.prefix finished.ending h.0,
  done_goes setting state later g number (suc before) done now new (λ at e k. f at (omega (arith, e)) k) h.1,
)

pub ended_goes : (setting : Setting) (state later : State) → Goes state later → (number before : ℕ) (done : List Finished) (now : Option Open)
    (finished : Finished) → ((at : ℕ) → at ≡ before + length done → EndRoom setting state number at finished.begun.prefix finished.ending)
    → DoneRoom setting state number before done now → DoneRoom setting later number before (done ++ finished ∷ []) None
ended_goes setting state later g number before [] now finished f h =
    (end_goes setting state later g number before finished.begun.prefix finished.ending (f before (omega arith)), tt)
ended_goes setting state later g number before (first ∷ done) now finished f h = (
  end_goes setting state later g number before first.begun.prefix first.ending h.0,
  ended_goes setting state later g number (suc before) done now finished (λ at e. f at (omega (arith, e))) h.1,
)

-- what is kept of the open one
pub open_room : (setting : Setting) (state : State) (number before : ℕ) (done : List Finished) (now : Option Open)
    → DoneRoom setting state number before done now
    → NowRoom setting state number (before + length done) (statements_at setting number (before + length done)) now
open_room setting state number before [] now h =
    subst (λ (n : ℕ). NowRoom setting state number n (statements_at setting number n) now) (let e : before ≡ before + 0 = omega arith in e) h
open_room setting state number before (finished ∷ done) now h =
    subst (λ (n : ℕ). NowRoom setting state number n (statements_at setting number n) now)
    (let e : suc before + length done ≡ before + suc (length done) = omega arith in e) (open_room setting state number (suc before) done now h.1)

-- ---- turns

abbrev pub RoomTurn : Setting → State → ℕ → ℕ → ℕ → Option Bound → Turn Write → Type 0
RoomTurn setting state number before prefix statement Done = Unit {0}
RoomTurn setting state number before prefix statement (Waits by) = Unit {0}
RoomTurn setting state number before prefix statement Begins = Unit {0}
RoomTurn setting state number before prefix statement (Visits writes phase) = PhaseRoom setting state number before prefix statement phase
RoomTurn setting state number before prefix statement (Answers writes reply took records) = Unit {0}
RoomTurn setting state number before prefix statement (Saves saved reply) = Unit {0}
RoomTurn setting state number before prefix statement Enters = Unit {0}
RoomTurn setting state number before prefix statement (Ends ending) = EndRoom setting state number before prefix ending

none_found : (test : ℕ → Bool) (first many : ℕ) → find test (range_with_len first many) ≡ None → (pos : ℕ) → first ≤ pos → pos < first + many
    → test pos ≡ false
none_found test first zero e pos from below = absurd (omega (arith, from, below))
none_found test first (suc many) e pos from below = elim (cases_Bool (test first)) [
  | inl t ↦ absurd (let never : Some first ≡ None = ap (λ (b : Bool). cond b (Some first) (find test (range_with_len (first + 1) many))) (sym t) ∙ e in cc)
  | inr f ↦ elim (cases_lt first pos) [
    | inl above ↦ none_found test (first + 1) many
        (ap (λ (b : Bool). cond b (Some first) (find test (range_with_len (first + 1) many))) (sym f) ∙ e) pos (omega (arith, above)) (omega (arith, below))
    | inr here ↦ ap test (let same : pos ≡ first = omega (arith, here, from) in same) ∙ f
  ]
]

-- a chunk more is passed
chunk_room : (setting : Setting) (state : State) (number : ℕ) (current : Open) → AtWork setting state number current → (table chunk : ℕ)
    → RoomBelow setting state number (length (session_at state number).done) current.begun.prefix table (chunk * setting.rows)
    → free_position setting state current.begun table chunk ≡ None
    → RoomBelow setting state number (length (session_at state number).done) current.begun.prefix table (chunk * setting.rows + setting.rows)
chunk_room setting state number current w table chunk h e pos below = elim (cases_lt pos (chunk * setting.rows)) [
  | inl front ↦ h pos front
  | inr here ↦ taken_accounted setting state number current w table pos
      (none_found (is_free setting state current.begun table) (chunk * setting.rows) setting.rows e pos here below)
]

-- a check passes no room, and a chunk without a free position its own
insert_room : (setting : Setting) (state : State) (number : ℕ) (current : Open) → AtWork setting state number current → (visited table : ℕ)
    (row : List Value) → WorkRoom setting state number (length (session_at state number).done) current.begun.prefix visited (Some (Insert table row))
    → InsertCases setting state current.begun
    (RoomTurn setting state number (length (session_at state number).done) current.begun.prefix (Some (Insert table row))) visited table row
    (checks_of setting (key_of setting table))
insert_room setting state number current w visited table row h = record {
  checked = λ few pos below. absurd (let none : (suc visited - checks) * setting.rows ≡ 0 =
      ap (λ (n : ℕ). n * setting.rows) (let s : suc visited - checks ≡ 0 = omega (arith, few) in s)
      ∙ (let z : 0 * setting.rows ≡ 0 = omega arith in z) in omega (arith, below, none));
  twice = tt;
  takes = λ pos e. tt;
  goes = λ past e few pos below. chunk_room setting state number current w table chunk h e pos
      (let same : (suc visited - checks) * setting.rows ≡ chunk * setting.rows + setting.rows =
      ap (λ (n : ℕ). n * setting.rows) (let s : suc visited - checks ≡ suc chunk = omega (arith, past) in s) ∙ next in omega (arith, below, same));
  full = λ past e most pos below. chunk_room setting state number current w table chunk h e pos
      (let all : setting.chunks * setting.rows ≤ suc chunk * setting.rows = mul-le-mul_right setting.rows most in omega (arith, below, all, next));
}
  where
    checks : ℕ
    checks = checks_of setting (key_of setting table)

    chunk : ℕ
    chunk = visited - checks_of setting (key_of setting table)

    next : suc chunk * setting.rows ≡ chunk * setting.rows + setting.rows
    next = omega arith

refusal_room : (setting : Setting) (state : State) (number before prefix : ℕ) (kind : WriteKind) (table pos : ℕ) (opponent : Option Label) (cause : Ending)
    → ((other : Label) → opponent ≡ Some other → Rivals setting state number before prefix table pos other)
    → Refuses kind table pos opponent cause → EndRoom setting state number before prefix cause
refusal_room setting state number before prefix kind table pos opponent (Committed rank) meets r = absurd r
refusal_room setting state number before prefix kind table pos opponent Read meets r = absurd r
refusal_room setting state number before prefix kind table pos opponent RolledBack meets r = tt
refusal_room setting state number before prefix kind table pos opponent (Conflict of at other) meets r =
    subst (λ (n : ℕ). Rivals setting state number before prefix n at other) r.0
    (subst (λ (n : ℕ). Rivals setting state number before prefix table n other) r.2 (meets other r.1))
refusal_room setting state number before prefix kind table pos opponent (Invalid of at other statement) meets r = absurd r
refusal_room setting state number before prefix kind table pos opponent (Range of at) meets r = tt
refusal_room setting state number before prefix kind table pos opponent (Full of) meets r = absurd r

opponent_rivals : (setting : Setting) (state : State) (number : ℕ) (current : Open) → AtWork setting state number current → (table pos : ℕ)
    (other : Label) → opponent setting state number current.begun.prefix table pos ≡ Some other
    → Rivals setting state number (length (session_at state number).done) current.begun.prefix table pos other
opponent_rivals setting state number current w table pos other e = record {
  meets = opponent_meets setting state number current w table pos other e;
  since = opponent_since setting state number current w table pos other e;
  found = opponent_finds setting state number current w table pos other e;
}

write_room : (setting : Setting) (state : State) (number : ℕ) (current : Open) → AtWork setting state number current → (visited count : ℕ) (statement : Bound)
    (kind : WriteKind) (pred : Condition) (table : ℕ)
    → WorkRoom setting state number (length (session_at state number).done) current.begun.prefix (suc visited) (Some statement)
    → WriteCases setting current.begun (RoomTurn setting state number (length (session_at state number).done) current.begun.prefix (Some statement))
    visited count statement kind (swept setting state number current.begun kind pred table visited)
write_room setting state number current w visited count statement kind pred table h = record {
  out = λ cause e.
      sweep_refuses (λ (one : Ending). EndRoom setting state number (length (session_at state number).done) current.begun.prefix one) table
      (verdict_at setting state number current.begun kind pred table) (positions_in setting visited) cause
      (λ pos one v. refusal_room setting state number (length (session_at state number).done) current.begun.prefix kind table pos
      (opponent setting state number current.begun.prefix table pos) one (opponent_rivals setting state number current w table pos)
      (verdict_refuses kind pred table pos (opponent setting state number current.begun.prefix table pos)
      (item_at (view setting state current.begun) table pos) one v))
      e;
  goes = λ writes e few. h;
  ends = λ writes e. tt;
}

statement_room : (setting : Setting) (state : State) (number : ℕ) (current : Open) → AtWork setting state number current → (visited count : ℕ)
    → (statement : Bound) → WorkRoom setting state number (length (session_at state number).done) current.begun.prefix visited (Some statement)
    → StatementCases setting state number current.begun
    (RoomTurn setting state number (length (session_at state number).done) current.begun.prefix (Some statement)) visited count statement
statement_room setting state number current w visited count (Select tables ons pred items) h = record { goes = λ few. tt; ends = tt }
statement_room setting state number current w visited count (Group table pred key aggregate) h = record { goes = λ few. tt; ends = tt }
statement_room setting state number current w visited count (Insert table row) h = insert_room setting state number current w visited table row h
statement_room setting state number current w visited count (Update table sets pred) h =
    write_room setting state number current w visited count (Update table sets pred) (kind.Set sets) pred table tt
statement_room setting state number current w visited count (Delete table pred) h =
    write_room setting state number current w visited count (Delete table pred) kind.Delete pred table tt
statement_room setting state number current w visited count (Savepoint name) h = record { waits = λ by is. tt; saves = λ free. tt }
statement_room setting state number current w visited count (RollbackTo name) h =
    record { goes = λ chunk e. tt; ends = λ none. record { waits = λ by is. tt; saves = λ free. tt } }
statement_room setting state number current w visited count (Release name) h = record { waits = λ by is. tt; saves = λ free. tt }

pub undo_room : (setting : Setting) (state : State) (number before prefix : ℕ) (statement : Option Bound) (begun : Begun) (visited : ℕ) (cause : Ending)
    → EndRoom setting state number before prefix cause
    → RoomTurn setting state number before prefix statement (undo_turn setting state number begun visited cause)
undo_room setting state number before prefix statement begun visited cause h =
    undo_cases setting state number begun (RoomTurn setting state number before prefix statement) visited cause
    (record { goes = λ few. h; waits = λ by is. tt; ends = λ free. h })

pub stamp_room : (setting : Setting) (state : State) (number before prefix : ℕ) (statement : Option Bound) (begun : Begun) (visited : ℕ)
    → RoomTurn setting state number before prefix statement (stamp_turn setting state begun visited)
stamp_room setting state number before prefix statement begun visited =
    stamp_cases setting state number begun (RoomTurn setting state number before prefix statement) visited (λ few. tt) tt

commit_room : (setting : Setting) (state : State) (number before prefix : ℕ) (statement : Option Bound) (begun : Begun)
    → AllByRecursion (λ (of : Record). IsNumbered (length begun.replies) of.statement) begun.records
    → ((rank : ℕ) → Reaches state number before rank) → CommitCases state number begun (RoomTurn setting state number before prefix statement)
commit_room setting state number before prefix statement begun records last = record {
  waits = λ by is. tt;
  reads = λ free nothing. tt;
  enters = λ free some e. tt;
  out = λ some cause e.
      first_hit_is (λ (one : Ending). EndRoom setting state number before prefix one) (IsNumbered (length begun.replies)) begun.records
      (drop begun.prefix state.order) cause records (λ i label at table pos statement q. record {
        rank = begun.prefix + i;
        stands = sym (label_dropped begun.prefix state.order i) ∙ at;
        reaches = last (begun.prefix + i + 1);
      }) e;
}

pub working_room : (setting : Setting) (state : State) (number : ℕ) (txn : Txn) (current : Open) → AtWork setting state number current
    → AllByRecursion (λ (of : Record). IsNumbered (length current.begun.replies) of.statement) current.begun.records → (visited count : ℕ)
    → WorkRoom setting state number (length (session_at state number).done) current.begun.prefix visited
    (slice_get txn.statements (length current.begun.replies))
    → RoomTurn setting state number (length (session_at state number).done) current.begun.prefix (slice_get txn.statements (length current.begun.replies))
    (working_turn setting state number txn current.begun visited count (slice_get txn.statements (length current.begun.replies)))
working_room setting state number txn current w records visited count h =
    let present : Option Bound = slice_get txn.statements (length current.begun.replies) in
    let before : ℕ = length (session_at state number).done in
    working_cases setting state number current.begun (RoomTurn setting state number before current.begun.prefix present) txn visited count
    (λ statement e. subst (λ (one : Option Bound). RoomTurn setting state number before current.begun.prefix one
    (statement_turn setting state number current.begun visited count statement)) (sym e)
    (statement_cases setting state number current.begun (RoomTurn setting state number before current.begun.prefix (Some statement)) visited count statement
    (statement_room setting state number current w visited count statement
    (subst (WorkRoom setting state number before current.begun.prefix visited) e h))))
    (λ none commits. commit_room setting state number before current.begun.prefix present current.begun records (open_reaches state number current w.is))
    (λ none rolls. record { goes = λ few. tt; waits = λ by is. tt; ends = λ free. tt })
