-- Visits of statements that write, put together of what they did to the chunk and to the open transaction.
use Rattle.std.proofs.Common.{◌≡◌, ℕ, suc, ◌+◌, ◌<◌, ◌≤◌, List, [], ◌∷◌, ◌++◌, Option, None, Some, Ok, Err, true, false, length, ap, sym, ◌∙◌, arith}
use Rattle.std.specs.Prelude.{nat_lt, if◌then◌else◌}
use Rattle.std.specs.Option.{SomeIff}
use Rattle.std.proofs.lemmas.Bool.{lt-ltb, le-ltb}
use Rattle.hy_value.specs.declared.Value.{Value}
use Rattle.hy_bound.specs.declared.Assign.{Assign}
use Rattle.hy_bound.specs.declared.Bound.{Bound}
use Rattle.hy_bound.specs.declared.Record.{Record}
use Rattle.hy_bound.specs.declared.Reply.{Reply}
use Rattle.hy_bound.specs.declared.Reply.TheVariants as reply
use Rattle.hy_bound.specs.declared.Shape.{Shape}
use Rattle.hy_bound.specs.Condition.{Condition}
use Rattle.hy_value.specs.declared.change.Change.{Change}
use Rattle.hy_meaning.specs.Statement.{Table}
use Rattle.hy_plan.specs.Reads.{records_of}
use Rattle.hy_bound.specs.declared.Ending.TheVariants.{Full}
use Rattle.hy_undo.specs.declared.refusal.Refusal.{Refusal}
use Rattle.hy_undo.specs.Chunks.{ChunkData}
use Rattle.hy_event.specs.declared.SessionData.{SessionData}
use Rattle.hy_event.specs.declared.Open.{Open}
use Rattle.hy_protocol.specs.declared.Phase.{Phase}
use Rattle.hy_protocol.specs.declared.Phase.TheVariants.{Working, Undoing}
use Rattle.hy_protocol.specs.declared.Progress.TheVariants.{Moved, Answered}
use Rattle.hy_event.specs.Inserting.{PlaceVisit}
use Rattle.hy_event.specs.Turns.{with_open}
use Rattle.hy_event.specs.Writing.{WriteVisit, ending_by, told_by}
use Rattle.hy_session.specs.declared.visitors.Visitor.{Visitor}
use Rattle.hy_session.specs.Visitors.{IsVisitor}
use Rattle.hy_bound.specs.Savepoints.{Saved}
use Rattle.hy_session.specs.Savepoints.{savepoints}
use Rattle.hy_session.specs.Written.{Came, HasNoted, NotesKept, Wrote}
use Rattle.hy_session.proofs.VisitTurns.{moved_to, answered_so, write_refused, write_goes, write_answers, place_answers, place_passes}

-- what an open transaction has noted is what is seen of it
pub has_noted : (view now : Open) (names : List (Saved (Unit {0}))) (levels : List (List Change)) → view ≡ now → view.saved ≡ savepoints names levels
    → HasNoted view.start view.cover view.notes names levels now
has_noted view now names levels same saved = record {
  starts = ap (λ (v : Open). v.start) (sym same);
  covers = ap (λ (v : Open). v.cover) (sym same);
  noted = ap (λ (v : Open). v.notes) (sym same);
  saved = ap (λ (v : Open). v.saved) (sym same) ∙ saved;
}

-- an open transaction that has room for an answer, and goes on to a phase without one
pub reserved_so : (view now : Open) (kept : NotesKept) (replies : List Reply) (took : List (Option ℕ)) (log : List Record) (phase : Phase)
    → view ≡ now → replies ≡ view.replies → took ≡ view.took → log ≡ view.records
    → record view { notes = kept.notes; saved = kept.saved; took = took; replies = replies; records = log; phase = phase } ≡ moved_to now kept phase
reserved_so view now kept replies took log phase same told taken logged =
    let one : List Reply → Open = λ r. record view { notes = kept.notes; saved = kept.saved; took = took; replies = r; records = log; phase = phase } in
    let two : List (Option ℕ) → Open = λ t. record view { notes = kept.notes; saved = kept.saved; took = t; records = log; phase = phase } in
    let three : List Record → Open = λ l. record view { notes = kept.notes; saved = kept.saved; records = l; phase = phase } in
    ap one told ∙ (ap two taken ∙ (ap three logged ∙ ap (λ (v : Open). moved_to v kept phase) same))

-- one more, where that fits
pub added_one : (n next : ℕ) (fits : Type 0) (sum : Option ℕ) → SomeIff sum fits (n + 1) → sum ≡ Some next → next ≡ suc n
added_one n next fits (Some x) added is =
    let same : x ≡ next = cc in
    omega (arith, added.1)
added_one n next fits None added is = cc

-- an open transaction whose answers have one more, and which has gathered nothing then, has answered so
pub answered_by : (view now : Open) (kept : NotesKept) (replies : List Reply) (took : List (Option ℕ)) (log : List Record) (gathered : List Table)
    (reply answer : Reply) (pos : Option ℕ) (records own : List Record) → view ≡ now → replies ≡ view.replies ++ reply ∷ [] → took ≡ view.took ++ pos ∷ []
    → log ≡ view.records ++ records → gathered ≡ [] → reply ≡ answer → records ≡ own
    → record view { notes = kept.notes; saved = kept.saved; took = took; replies = replies; records = log; gathered = gathered; phase = Working 0 0 } ≡ answered_so now kept answer pos own
answered_by view now kept replies took log gathered reply answer pos records own same told taken logged none is_answer is_own =
    let one : List Reply → Open =
    λ r. record view { notes = kept.notes; saved = kept.saved; took = took; replies = r; records = log; gathered = gathered; phase = Working 0 0 } in
    let two : List (Option ℕ) → Open =
    λ t. record view { notes = kept.notes; saved = kept.saved; took = t; replies = view.replies ++ reply ∷ []; records = log; gathered = gathered; phase = Working 0 0 } in
    let three : List Record → Open =
    λ l. record view { notes = kept.notes; saved = kept.saved; took = view.took ++ pos ∷ []; replies = view.replies ++ reply ∷ []; records = l; gathered = gathered; phase = Working 0 0 } in
    let four : List Table → Open =
    λ g. record view {
      notes = kept.notes;
      saved = kept.saved;
      took = view.took ++ pos ∷ [];
      replies = view.replies ++ reply ∷ [];
      records = view.records ++ records;
      gathered = g;
      phase = Working 0 0;
    } in
    ap one told ∙ (ap two taken ∙ (ap three logged ∙ (ap four none ∙ (ap (λ (v : Open). answered_so v kept reply pos records) same
    ∙ (ap (λ (r : Reply). answered_so now kept r pos records) is_answer ∙ ap (λ (l : List Record). answered_so now kept answer pos l) is_own)))))

-- the number of a chunk behind which there are others, and of the last one
is_more : (visitors chunks next visited : ℕ) → visitors ≡ chunks → next ≡ suc visited → next < visitors → nat_lt (suc visited) chunks ≡ true
is_more visitors chunks next visited same one more = lt-ltb (suc visited) chunks (omega arith)

is_last : (visitors chunks visited : ℕ) → visitors ≡ chunks → visitors ≤ suc visited → nat_lt (suc visited) chunks ≡ false
is_last visitors chunks visited same last = le-ltb (suc visited) chunks (omega arith)

module _ (session : SessionData) (now after : Open) (visitor : Visitor) (visited : ℕ) (statement : Bound) (table : ℕ) (old new : ChunkData)
    (is : IsVisitor session visitor) (opened : session.now ≡ Some now) where
  -- the records of the statement are those by the shapes of the visitor
  abbrev own_records : List Shape → List Record
  own_records shapes = records_of shapes (suc (length now.replies)) statement []

  -- ---- UPDATE and DELETE

  module _ (count : ℕ) (sets : Option (List Assign)) (pred : Condition) (kept : NotesKept) where
    pub refuses : (refusal : Refusal) → Wrote session now table sets pred old (Err refusal) new kept
        → after ≡ moved_to now kept (Undoing 0 (ending_by table refusal))
        → WriteVisit session now visited count statement table sets pred old Moved (with_open after session) new
    refuses refusal did same = record {
      between = did.between;
      prunes = did.prunes;
      chunk = did.chunk;
      turn = write_refused session now after kept visited count statement table sets opened refusal _ did.told did.noted same;
    }

    pub writes_on : (rows next : ℕ) → Wrote session now table sets pred old (Ok rows) new kept → next ≡ suc visited → next < visitor.chunks
        → after ≡ moved_to now kept (Working next (count + rows))
        → WriteVisit session now visited count statement table sets pred old Moved (with_open after session) new
    writes_on rows next did one more same = record {
      between = did.between;
      prunes = did.prunes;
      chunk = did.chunk;
      turn = write_goes session now after kept visited count statement table sets opened rows _ did.told did.noted
          (is_more visitor.chunks session.chunks next visited is.chunks one more)
          (same ∙ ap (λ (n : ℕ). moved_to now kept (Working n (count + rows))) one);
    }

    pub writes_last : (rows : ℕ) → Wrote session now table sets pred old (Ok rows) new kept → visitor.chunks ≤ suc visited
        → after ≡ answered_so now kept (told_by sets (count + rows)) None (own_records visitor.shapes.now)
        → WriteVisit session now visited count statement table sets pred old Answered (with_open after session) new
    writes_last rows did last same = record {
      between = did.between;
      prunes = did.prunes;
      chunk = did.chunk;
      turn = write_answers session now after kept visited count statement table sets opened rows _ did.told did.noted
          (is_last visitor.chunks session.chunks visited is.chunks last)
          (same ∙ ap (λ (s : List Shape). answered_so now kept (told_by sets (count + rows)) None (own_records s)) is.shapes);
    }

  -- ---- INSERT

  module _ (row : List Value) where
    module _ (kept : NotesKept) (number : ℕ) where
      pub places_here : (pos : ℕ) → Came session now table row old (Some pos) new kept
          → after ≡ answered_so now kept reply.Inserted (Some pos) (own_records visitor.shapes.now)
          → PlaceVisit session now visited number statement table row old Answered (with_open after session) new
      places_here pos did same = record {
        between = did.between;
        prunes = did.prunes;
        chunk = did.chunk;
        turn = place_answers session now after visited statement opened kept number table row pos _ did.told did.noted
            (same ∙ ap (λ (s : List Shape). answered_so now kept reply.Inserted (Some pos) (own_records s)) is.shapes);
      }

      pub places_not : (next : ℕ) → Came session now table row old None new kept → next ≡ suc visited
          → after ≡ moved_to now kept (if nat_lt (suc number) visitor.chunks then Working next 0 else Undoing 0 (Full table))
          → PlaceVisit session now visited number statement table row old Moved (with_open after session) new
      places_not next did one same = record {
        between = did.between;
        prunes = did.prunes;
        chunk = did.chunk;
        turn = place_passes session now after visited statement opened kept number table row _ (nat_lt (suc number) visitor.chunks) did.told did.noted
            (ap (nat_lt (suc number)) (sym is.chunks))
            (same ∙ ap (λ (n : ℕ). moved_to now kept (if nat_lt (suc number) visitor.chunks then Working n 0 else Undoing 0 (Full table))) one);
      }
