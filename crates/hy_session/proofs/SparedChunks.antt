-- Where a statement that asks for a key goes past chunks that lack it, its session does.
use Rattle.std.proofs.Common.{◌≡◌, ◌≢◌, inl, inr, take, ℕ, zero, suc, ◌+◌, ◌*◌, ◌/◌, ◌%◌, ◌<◌, ◌≤◌, List, [], ◌∷◌, ◌++◌, Option, None, Some, Result, Ok, Err, Bool, true, false, length, map, refl, ap, ◌∙◌, sym, subst, arith, add-one}
use Rattle.std.specs.Prelude.{nat_lt, slice_get, slice_index_or, if◌then◌else◌}
use Rattle.std.specs.List.{AllByRecursion}
use Rattle.std.specs.Option.{option_map}
use Rattle.std.proofs.lemmas.Bool.{cases_lt, lt-ltb}
use Rattle.std.proofs.lemmas.List.{length-take-le}
use Rattle.hy_value.specs.declared.Value.{Value}
use Rattle.hy_value.specs.declared.change.Change.{Change}
use Rattle.hy_bound.specs.declared.Assign.{Assign}
use Rattle.hy_bound.specs.declared.Bound.{Bound}
use Rattle.hy_bound.specs.declared.Bound.TheVariants.{Update, Delete}
use Rattle.hy_bound.specs.declared.Txn.{Txn}
use Rattle.hy_bound.specs.Condition.{Condition}
use Rattle.hy_bound.specs.Predicate.{truth_at, truth_of}
use Rattle.hy_stamp.specs.declared.Label.{Label}
use Rattle.hy_stamp.specs.declared.Viewer.{Viewer}
use Rattle.hy_chain.specs.Chains.{rival}
use Rattle.hy_undo.specs.declared.refusal.Refusal.{Refusal}
use Rattle.hy_undo.specs.Places.{Place, Cell, sees}
use Rattle.hy_undo.specs.Chunks.{ChunkData}
use Rattle.hy_undo.specs.Sweeps.{AllWritten, and_new, new_cell, swept, verdict}
use Rattle.hy_chunk.specs.Views.{Whole}
use Rattle.hy_visit.specs.Sparing.{SelectsNone}
use Rattle.hy_protocol.specs.declared.Phase.TheVariants.{Working}
use Rattle.hy_protocol.specs.declared.Progress.TheVariants.{Moved}
use Rattle.hy_event.specs.declared.SessionData.{SessionData}
use Rattle.hy_event.specs.declared.Open.{Open}
use Rattle.hy_event.specs.declared.Need.TheVariants.{Chunk}
use Rattle.hy_event.specs.Changing.{changes_from}
use Rattle.hy_event.specs.Events.{StatementVisit}
use Rattle.hy_event.specs.Needs.{need_of, statement_need, working_need}
use Rattle.hy_event.specs.Sessions.{label_of, txn_at, viewer_of}
use Rattle.hy_event.specs.Turns.{Takes, with_open}
use Rattle.hy_event.specs.Writing.{Becomes, WriteVisit, cells_by, changes_by, write_turn}
use Rattle.hy_session.specs.declared.visitors.Visitor.{Visitor}
use Rattle.hy_session.specs.Passing.{IsPassed, IsSpared, Passes, SparedTo, gone_past}
use Rattle.hy_session.specs.Visitors.{IsVisitor}
use Rattle.hy_session.specs.Written.{kept_in}
use Rattle.hy_session.proofs.Dispatch.{work_needs, statement_event}
use Rattle.hy_session.proofs.PassedChunks.{gone_by, gone_next, leaves_short, needed_so, onward}
use Rattle.hy_session.proofs.VisitTurns.{write_goes}

-- ---- what an UPDATE or a DELETE writes where no row is selected

-- a new cell at none of these positions
abbrev pub no_cells : List Place → List (Option Cell)
no_cells places = map (λ place. None) places

unselected : (sets : Option (List Assign)) (pred : Condition) (pos : ℕ) (other : Option Label) (cell : Cell) → truth_at pred cell ≡ false
    → verdict sets pred pos other cell ≡ Ok None
unselected sets pred pos other None barred = refl
unselected sets pred pos other (Some row) barred = rw barred refl

none_swept : (sets : Option (List Assign)) (pred : Condition) (viewer : Viewer) (pos : ℕ) (places : List Place) → SelectsNone pred places
    → swept sets pred viewer pos places ≡ Ok (no_cells places)
none_swept sets pred viewer pos [] none = refl
none_swept sets pred viewer pos (place ∷ places) none =
    ap (λ (first : Result (Option Cell) Refusal). and_new first (swept sets pred viewer (suc pos) places))
    (unselected sets pred pos (rival viewer place.chain) (sees viewer place) (none.0 viewer))
    ∙ ap (λ (rest : Result (List (Option Cell)) Refusal). and_new (Ok None) rest) (none_swept sets pred viewer (suc pos) places none.1)

none_written : (viewer : Viewer) (label : Label) (places : List Place) → AllWritten viewer label (no_cells places) places places
none_written viewer label [] = tt
none_written viewer label (place ∷ places) = (refl, none_written viewer label places)

none_changed : (table pos : ℕ) (viewer : Viewer) (places : List Place) → changes_from table pos viewer (no_cells places) places ≡ []
none_changed table pos viewer [] = refl
none_changed table pos viewer (place ∷ places) = none_changed table (suc pos) viewer places

-- ---- one visit of it

module _ (session : SessionData) (txn : Txn) (now : Open) (visited count table : ℕ) (there : txn_at session ≡ Some txn)
    (opened : session.now ≡ Some now) (works : now.phase ≡ Working visited count) (sets : Option (List Assign)) (pred : Condition) (chunk : ChunkData)
    (more : suc visited < session.chunks) (spared : IsSpared session.prunes now.cover pred chunk) where
  abbrev next : SessionData
  next = with_open (onward count visited now) session

  abbrev viewer : Viewer
  viewer = viewer_of session now

  goes_on : (statement : Bound) (changes : Result (List Change) Refusal) → changes ≡ Ok []
      → Takes session (write_turn session now visited count statement table sets changes) Moved next
  goes_on statement changes none =
      let all : count ≡ count + 0 = omega arith in
      subst (λ (r : Result (List Change) Refusal). Takes session (write_turn session now visited count statement table sets r) Moved next) (sym none)
      (write_goes session now (onward count visited now) (kept_in now) visited count statement table sets opened 0 (Ok []) refl refl
      (lt-ltb (suc visited) session.chunks more) (ap (λ (n : ℕ). record now { phase = Working (suc visited) n }) all))

  write_visit : (statement : Bound) → WriteVisit session now visited count statement table sets pred chunk Moved next chunk
  write_visit statement =
      let cells : cells_by sets pred viewer chunk ≡ Ok (no_cells chunk.places) = none_swept sets pred viewer chunk.first chunk.places spared.none in
      record {
        between = chunk;
        prunes = spared.pruned;
        chunk = subst (λ (r : Result (List (Option Cell)) Refusal). Becomes viewer (label_of session) r chunk chunk) (sym cells)
            (record { places = none_written viewer (label_of session) chunk.places; others = refl });
        turn = goes_on statement (changes_by table viewer chunk (cells_by sets pred viewer chunk))
            (ap (changes_by table viewer chunk) cells
            ∙ ap (λ (changes : List Change). Ok changes) (none_changed table chunk.first viewer chunk.places));
      }

  written_past : (statement : Bound) → slice_get txn.statements (length now.replies) ≡ Some statement
      → statement_need session now visited statement ≡ Chunk table visited
      → StatementVisit session now visited count statement chunk Moved next chunk → IsPassed session table visited chunk next
  written_past statement present need visit = record {
    needed = work_needs session txn now there opened visited count works ∙ (ap (working_need session txn now visited) present ∙ need);
    event = statement_event session txn now there opened visited count works statement present chunk chunk Moved next visit;
    short = leaves_short session txn now visited count statement there opened works present chunk (λ prunes does. spared.short does);
  }

-- ---- one after another

-- a statement is an UPDATE, or else a DELETE, of this table with this condition
abbrev pub Writes : Option (List Assign) → ℕ → Condition → Bound → Type 0
Writes None table pred statement = statement ≡ Delete table pred
Writes (Some sets) table pred statement = statement ≡ Update table sets pred

written_one : (session : SessionData) (txn : Txn) (now : Open) (visited count table : ℕ) → txn_at session ≡ Some txn → session.now ≡ Some now
    → now.phase ≡ Working visited count → (sets : Option (List Assign)) (pred : Condition) (chunk : ChunkData) → suc visited < session.chunks
    → IsSpared session.prunes now.cover pred chunk → (statement : Bound) → Writes sets table pred statement
    → slice_get txn.statements (length now.replies) ≡ Some statement
    → IsPassed session table visited chunk (with_open (onward count visited now) session)
written_one session txn now visited count table there opened works None pred chunk more spared statement is present =
    written_past session txn now visited count table there opened works None pred chunk more spared (Delete table pred) (present ∙ ap Some is) refl
    (write_visit session txn now visited count table there opened works None pred chunk more spared (Delete table pred))
written_one session txn now visited count table there opened works (Some sets) pred chunk more spared statement is present =
    written_past session txn now visited count table there opened works (Some sets) pred chunk more spared (Update table sets pred) (present ∙ ap Some is) refl
    (write_visit session txn now visited count table there opened works (Some sets) pred chunk more spared (Update table sets pred))

written_from : (table : ℕ) (sets : Option (List Assign)) (pred : Condition) (statement : Bound) (txn : Txn) (chunks : List Whole) (session : SessionData)
    (now : Open) (visited count : ℕ) → Writes sets table pred statement → txn_at session ≡ Some txn → session.now ≡ Some now
    → now.phase ≡ Working visited count → slice_get txn.statements (length now.replies) ≡ Some statement
    → (length chunks ≢ 0 → visited + length chunks < session.chunks)
    → AllByRecursion (λ (chunk : Whole). IsSpared session.prunes now.cover pred chunk.shown) chunks
    → Passes session table visited chunks (with_open (gone_past count visited (length chunks) now) session)
written_from table sets pred statement txn [] session now visited count is there opened works present few spared =
    ap (λ (o : Option Open). record session { now = o }) (sym opened)
written_from table sets pred statement txn (chunk ∷ chunks) session now visited count is there opened works present few spared =
    let next : SessionData = with_open (onward count visited now) session in
    let many = few (λ e. cc e) in
    let all = written_from table sets pred statement txn chunks next (onward count visited now) (suc visited) count is there refl refl present
    (λ some. omega (arith, many)) spared.1 in (
      next,
      written_one session txn now visited count table there opened works sets pred chunk.shown (omega (arith, many)) spared.0 statement is present,
      subst (λ (o : Open). Passes next table (suc visited) chunks (with_open o session)) (gone_next count (length chunks) visited now) all,
    )

pub session_spares : (session : SessionData) (visitor : Visitor) (txn : Txn) (now after : Open) (visited count table : ℕ) (sets : Option (List Assign))
    (pred : Condition) (statement : Bound) (chunks : List Whole) → IsVisitor session visitor → txn_at session ≡ Some txn → session.now ≡ Some now
    → now.phase ≡ Working visited count → slice_get txn.statements (length now.replies) ≡ Some statement → Writes sets table pred statement
    → SparedTo visitor.chunks visitor.prunes pred visited count now chunks after
    → (other number : ℕ) → need_of session ≡ Chunk other number → Passes session other number chunks (with_open after session)
session_spares session visitor txn now after visited count table sets pred statement chunks is there opened works present writes gone other number need =
    let few : length chunks ≢ 0 → visited + length chunks < session.chunks =
    subst (λ (n : ℕ). length chunks ≢ 0 → visited + length chunks < n) is.chunks gone.few in
    let spared : AllByRecursion (λ (chunk : Whole). IsSpared session.prunes now.cover pred chunk.shown) chunks =
    subst (λ (b : Bool). AllByRecursion (λ (chunk : Whole). IsSpared b now.cover pred chunk.shown) chunks) is.prunes gone.spared in
    let all = written_from table sets pred statement txn chunks session now visited count writes there opened works present few spared in
    let ended : Passes session table visited chunks (with_open after session) =
    subst (λ (o : Open). Passes session table visited chunks (with_open o session)) (sym gone.moved) all in
    needed_so session (with_open after session) other number table visited chunks need ended

-- ---- an open transaction

pub spared_none : (per_table : ℕ) (prunes : Bool) (pred : Condition) (visited count : ℕ) (old : Open) → SparedTo per_table prunes pred visited count old [] old
spared_none per_table prunes pred visited count old = record { few = λ some. absurd (some refl); spared = tt; moved = refl }

-- one that goes past so many of these chunks
pub spared_to : (per_table : ℕ) (prunes : Bool) (pred : Condition) (visited count passed : ℕ) (old new : Open) (chunks : List Whole)
    → passed ≤ length chunks → (0 < passed → visited + passed < per_table)
    → AllByRecursion (λ (chunk : Whole). IsSpared prunes old.cover pred chunk.shown) (take passed chunks)
    → (0 < passed → new ≡ record old { phase = Working (visited + passed) count }) → (passed ≡ 0 → new ≡ old)
    → SparedTo per_table prunes pred visited count old (take passed chunks) new
spared_to per_table prunes pred visited count passed old new chunks within few spared moved stayed =
    let long : length (take passed chunks) ≡ passed = length-take-le passed chunks within in
    record {
      few = λ some. subst (λ (n : ℕ). visited + n < per_table) (sym long)
          (few (elim (cases_lt 0 passed) [ inl l ↦ l | inr l ↦ absurd (some (long ∙ (let none : passed ≡ 0 = omega (arith, l) in none))) ]));
      spared = spared;
      moved = elim (cases_lt 0 passed) [
        | inl l ↦ moved l ∙ sym (ap (λ (n : ℕ). gone_past count visited n old) long ∙ gone_by count visited passed old l)
        | inr l ↦
            let none : passed ≡ 0 = omega (arith, l) in
            stayed none ∙ sym (ap (λ (n : ℕ). gone_past count visited n old) (long ∙ none))
      ];
    }
