-- Where a SELECT that asks for a key goes past chunks of its first table that lack it, its session does.
use Rattle.std.proofs.Common.{◌≡◌, ◌≢◌, ℕ, zero, suc, ◌+◌, ◌*◌, ◌/◌, ◌%◌, ◌<◌, ◌≤◌, List, [], ◌∷◌, ◌++◌, Option, None, Some, Bool, true, false, length, map, refl, ap, ◌∙◌, sym, subst, arith, add-one, append-nil}
use Rattle.std.specs.Prelude.{◌||◌, filter, slice_get, slice_index_or}
use Rattle.std.specs.List.{AllByRecursion}
use Rattle.std.specs.Option.{option_map}
use Rattle.std.proofs.Math.Nat.{div-eq_of_lt, mod-eq_of_lt, mul-le-mul_left}
use Rattle.hy_value.specs.declared.Value.{Value}
use Rattle.hy_bound.specs.declared.Bound.{Bound}
use Rattle.hy_bound.specs.declared.Bound.TheVariants.{Select, Group, Insert, Update, Delete, Savepoint, RollbackTo, Release}
use Rattle.hy_bound.specs.declared.Txn.{Txn}
use Rattle.hy_bound.specs.Changes.{present}
use Rattle.hy_bound.specs.Condition.{Condition}
use Rattle.hy_bound.specs.Predicate.{truth_at, truth_of}
use Rattle.hy_bound.specs.Projection.{projected}
use Rattle.hy_plan.specs.Cells.{GatheredRows}
use Rattle.hy_plan.specs.declared.PlanPart.{PlanPart}
use Rattle.hy_plan.specs.Reads.{is_read_of}
use Rattle.hy_meaning.specs.Statement.{Table}
use Rattle.hy_gathered.specs.Answers.{spread_all}
use Rattle.hy_stamp.specs.declared.Viewer.{Viewer}
use Rattle.hy_undo.specs.Places.{Place, Cell, sees}
use Rattle.hy_undo.specs.Chunks.{ChunkData, rows_seen}
use Rattle.hy_chunk.specs.Views.{Whole}
use Rattle.hy_visit.specs.declared.reader.Reader.{Reader}
use Rattle.hy_visit.specs.Readers.{IsPlanOf, plan_by}
use Rattle.hy_visit.specs.Sparing.{SelectsNone}
use Rattle.hy_protocol.specs.declared.Phase.TheVariants.{Working}
use Rattle.hy_protocol.specs.declared.Progress.TheVariants.{Moved}
use Rattle.hy_protocol.specs.Turns.{Visits}
use Rattle.hy_event.specs.declared.SessionData.{SessionData}
use Rattle.hy_event.specs.declared.Open.{Open}
use Rattle.hy_event.specs.declared.Need.{Need}
use Rattle.hy_event.specs.declared.Need.TheVariants.{Chunk}
use Rattle.hy_event.specs.Events.{ChunkEvent}
use Rattle.hy_event.specs.Gathering.{conditions_by, joined_columns, rows_gathered, with_rows}
use Rattle.hy_event.specs.Needs.{need_of, statement_need, working_need}
use Rattle.hy_event.specs.Reading.{with_gathered}
use Rattle.hy_event.specs.Sessions.{txn_at, viewer_of}
use Rattle.hy_event.specs.Turns.{Takes, with_open}
use Rattle.hy_session.specs.declared.reading.ReadStep.TheVariants.{More}
use Rattle.hy_session.specs.declared.visitors.Visitor.{Visitor}
use Rattle.hy_session.specs.Passing.{IsPassed, IsSpared, Passes, ReadTo, SparedTo, gone_past}
use Rattle.hy_session.specs.Reading.{IsStep}
use Rattle.hy_session.specs.Short.{statement_prunes}
use Rattle.hy_session.specs.Visitors.{IsVisitor}
use Rattle.hy_session.proofs.Dispatch.{statement_is, work_needs}
use Rattle.hy_session.proofs.PassedChunks.{gone_next, leaves_short, needed_so, onward}
use Rattle.hy_session.proofs.SelectSteps.{more_step, rows_taken}
use Rattle.hy_session.proofs.SelectVisits.{read_event}
use Rattle.hy_session.proofs.VisitTurns.{takes_visit}

-- ---- what is gathered where no row is selected

none_read : (pred : Condition) (viewer : Viewer) (places : List Place) → SelectsNone pred places
    → filter (is_read_of (pred ∷ [])) (present (rows_seen viewer places)) ≡ []
none_read pred viewer [] none = refl
none_read pred viewer (place ∷ places) none = by (sees viewer place) (none.0 viewer) (none_read pred viewer places none.1)
  where
    by : (cell : Cell) → truth_at pred cell ≡ false → filter (is_read_of (pred ∷ [])) (present (rows_seen viewer places)) ≡ []
        → filter (is_read_of (pred ∷ [])) (present (cell ∷ rows_seen viewer places)) ≡ []
    by None barred rest = rest
    by (Some row) barred rest =
        let unread : is_read_of (pred ∷ []) row ≡ false = ap (λ (b : Bool). b || false) barred in
        rw unread rest

none_gathered : (viewer : Viewer) (part : PlanPart) (columns : List (List Value)) (places : List Place) → part.lookup ≡ None → SelectsNone part.pred places
    → rows_gathered viewer part (conditions_by part.pred part.lookup columns) places ≡ []
none_gathered viewer part columns places plain none =
    ap (λ lookup. rows_gathered viewer part (conditions_by part.pred lookup columns) places) plain
    ∙ ap (map (projected part.columns)) (none_read part.pred viewer places none)

-- nothing more is gathered of a first table of which something was
nothing_more : (gathered : List Table) → 0 < length gathered → with_rows 0 [] gathered ≡ gathered
nothing_more [] some = absurd (omega (arith, some))
nothing_more (table ∷ tables) some = ap (λ (first : Table). first ∷ tables) (append-nil table)

-- ---- what a visit of its first table needs

abbrev first_table : Bound → ℕ
first_table (Select tables ons pred items) = slice_index_or tables 0 0
first_table (Group table pred key aggregate) = table
first_table _ = 0

first_need : (session : SessionData) (now : Open) (visited : ℕ) (statement : Bound) (reader : Reader) → IsPlanOf session.shapes statement (plan_by reader)
    → visited < session.chunks → statement_need session now visited statement ≡ Chunk (first_table statement) visited
first_need session now visited (Select tables ons pred items) reader is few =
    ap (λ (number : ℕ). Chunk (slice_index_or tables number 0) (visited % session.chunks)) (div-eq_of_lt few)
    ∙ ap (λ (chunk : ℕ). Chunk (slice_index_or tables 0 0) chunk) (mod-eq_of_lt few)
first_need session now visited (Group table pred key aggregate) reader is few = refl
first_need session now visited (Insert table row) reader is few = absurd is
first_need session now visited (Update table sets pred) reader is few = absurd is
first_need session now visited (Delete table pred) reader is few = absurd is
first_need session now visited (Savepoint name) reader is few = absurd is
first_need session now visited (RollbackTo name) reader is few = absurd is
first_need session now visited (Release name) reader is few = absurd is

-- it prunes nothing
prunes_nothing : (session : SessionData) (visited : ℕ) (statement : Bound) (reader : Reader) → IsPlanOf session.shapes statement (plan_by reader)
    → statement_prunes session visited statement ≡ true → ⊥
prunes_nothing session visited (Select tables ons pred items) reader is e = cc
prunes_nothing session visited (Group table pred key aggregate) reader is e = cc
prunes_nothing session visited (Insert table row) reader is e = absurd is
prunes_nothing session visited (Update table sets pred) reader is e = absurd is
prunes_nothing session visited (Delete table pred) reader is e = absurd is
prunes_nothing session visited (Savepoint name) reader is e = absurd is
prunes_nothing session visited (RollbackTo name) reader is e = absurd is
prunes_nothing session visited (Release name) reader is e = absurd is

some_parts : (parts : List PlanPart) (part : PlanPart) → slice_get parts 0 ≡ Some part → 0 < length parts
some_parts [] part e = absurd (cc e)
some_parts (first ∷ parts) part e = omega arith

-- ---- one visit

module _ (statement : Bound) (reader : Reader) (part : PlanPart) (txn : Txn) (first : slice_get reader.parts 0 ≡ Some part) (plain : part.lookup ≡ None) where
  module _ (session : SessionData) (now : Open) (visited count : ℕ) (planned : IsPlanOf session.shapes statement (plan_by reader))
      (there : txn_at session ≡ Some txn) (opened : session.now ≡ Some now) (works : now.phase ≡ Working visited count)
      (at_present : slice_get txn.statements (length now.replies) ≡ Some statement) (some : 0 < length now.gathered)
      (more : suc visited < session.chunks) (chunk : ChunkData) (none : SelectsNone part.pred chunk.places) where
    abbrev next : SessionData
    next = with_open (onward 0 visited now) session

    abbrev nothing : GatheredRows
    nothing = record { width = 0; rows = [] }

    left : suc visited < session.chunks * length reader.parts
    left =
        let parts = some_parts reader.parts part first in
        let whole : session.chunks * 1 ≤ session.chunks * length reader.parts = mul-le-mul_left session.chunks (omega (arith, parts)) in
        omega (arith, whole, more)

    number_is : 0 ≡ visited / session.chunks
    number_is = sym (div-eq_of_lt (let l : visited < session.chunks = omega (arith, more) in l))

    goes : IsStep session now visited statement chunk.places (More 0 nothing (suc visited))
    goes =
        more_step session now visited statement chunk.places (plan_by reader) part 0 (suc visited) nothing planned
        (subst (λ (n : ℕ). slice_get reader.parts n ≡ Some part) number_is first) number_is (sym (add-one visited)) left
        (sym (none_gathered (viewer_of session now) part (joined_columns reader.parts (spread_all reader.parts now.gathered)) chunk.places plain none))

    takes : (gathered : List Table) → gathered ≡ with_rows 0 [] now.gathered
        → Takes (with_gathered gathered session) (Visits [] (Working (suc visited) 0)) Moved next
    takes gathered is =
        let same : gathered ≡ now.gathered = is ∙ nothing_more now.gathered some in
        let held : (with_gathered gathered session).now ≡ Some (record now { gathered = gathered }) =
        ap (option_map (λ (one : Open). record one { gathered = gathered })) opened in
        subst (λ (s : SessionData). Takes (with_gathered gathered session) (Visits [] (Working (suc visited) 0)) Moved s)
        (ap (λ (tables : List Table). with_open (onward 0 visited (record now { gathered = tables })) session) same)
        (takes_visit (with_gathered gathered session) (record now { gathered = gathered }) (onward 0 visited (record now { gathered = gathered })) []
        (Working (suc visited) 0) held refl)

    event : ChunkEvent session chunk Moved next chunk
    event =
        read_event session now visited count statement (More 0 nothing (suc visited)) chunk Moved next chunk opened works
        (statement_is session txn now there opened visited count works statement at_present) goes takes refl

    read_past : IsPassed session (first_table statement) visited chunk next
    read_past = record {
      needed = work_needs session txn now there opened visited count works
          ∙ (ap (working_need session txn now visited) at_present ∙ first_need session now visited statement reader planned (omega (arith, more)));
      event = event;
      short = leaves_short session txn now visited count statement there opened works at_present chunk
          (λ prunes does. absurd (prunes_nothing session visited statement reader planned prunes));
    }

  -- ---- one after another

  read_from : (chunks : List Whole) (session : SessionData) (now : Open) (visited count : ℕ) → IsPlanOf session.shapes statement (plan_by reader)
      → txn_at session ≡ Some txn → session.now ≡ Some now → now.phase ≡ Working visited count
      → slice_get txn.statements (length now.replies) ≡ Some statement → (length chunks ≢ 0 → 0 < length now.gathered)
      → (length chunks ≢ 0 → visited + length chunks < session.chunks)
      → AllByRecursion (λ (chunk : Whole). IsSpared false now.cover part.pred chunk.shown) chunks
      → Passes session (first_table statement) visited chunks (with_open (gone_past 0 visited (length chunks) now) session)
  read_from [] session now visited count planned there opened works at_present some few spared =
      ap (λ (o : Option Open). record session { now = o }) (sym opened)
  read_from (chunk ∷ chunks) session now visited count planned there opened works at_present some few spared =
      let next : SessionData = with_open (onward 0 visited now) session in
      let many = few (λ e. cc e) in
      let before = some (λ e. cc e) in
      let all = read_from chunks next (onward 0 visited now) (suc visited) 0 planned there refl refl at_present (λ _. before)
      (λ more. omega (arith, many)) spared.1 in (
        next,
        read_past session now visited count planned there opened works at_present before (omega (arith, many)) chunk.shown spared.0.none,
        subst (λ (o : Open). Passes next (first_table statement) (suc visited) chunks (with_open o session)) (gone_next 0 (length chunks) visited now) all,
      )

pub session_reads : (session : SessionData) (visitor : Visitor) (txn : Txn) (now after : Open) (visited count : ℕ) (statement : Bound) (reader : Reader)
    (part : PlanPart) (chunks : List Whole) → IsVisitor session visitor → txn_at session ≡ Some txn → session.now ≡ Some now
    → now.phase ≡ Working visited count → slice_get txn.statements (length now.replies) ≡ Some statement
    → IsPlanOf session.shapes statement (plan_by reader) → slice_get reader.parts 0 ≡ Some part → ReadTo visitor.chunks part visited now chunks after
    → (other number : ℕ) → need_of session ≡ Chunk other number → Passes session other number chunks (with_open after session)
session_reads session visitor txn now after visited count statement reader part [] is there opened works at_present planned first gone other number need =
    ap (λ (o : Option Open). record session { now = o }) (ap (λ (one : Open). Some one) gone.gone.moved ∙ sym opened)
session_reads session visitor txn now after visited count statement reader part (chunk ∷ chunks) is there opened works at_present planned first gone other number need =
    let all : List Whole = chunk ∷ chunks in
    let plain = gone.plain (λ e. cc e) in
    let few : length all ≢ 0 → visited + length all < session.chunks =
    subst (λ (n : ℕ). length all ≢ 0 → visited + length all < n) is.chunks gone.gone.few in
    let passes = read_from statement reader part txn first plain.0 all session now visited count planned there opened works at_present (λ _. plain.1) few gone.gone.spared in
    let ended : Passes session (first_table statement) visited all (with_open after session) =
    subst (λ (o : Open). Passes session (first_table statement) visited all (with_open o session)) (sym gone.gone.moved) passes in
    needed_so session (with_open after session) other number (first_table statement) visited all need ended
