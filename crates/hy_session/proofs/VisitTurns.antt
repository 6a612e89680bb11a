-- Turns of a visit: the open transaction changes, and nothing else of the session.
use Rattle.std.proofs.Common.{◌≡◌, ℕ, suc, ◌+◌, List, [], ◌∷◌, ◌++◌, Option, None, Some, Result, Ok, Err, Bool, true, false, length, ap, sym, ◌∙◌}
use Rattle.std.specs.Prelude.{nat_lt, if◌then◌else◌}
use Rattle.std.specs.Option.{option_map}
use Rattle.hy_value.specs.declared.Value.{Value}
use Rattle.hy_bound.specs.declared.Assign.{Assign}
use Rattle.hy_bound.specs.declared.Bound.{Bound}
use Rattle.hy_bound.specs.declared.Record.{Record}
use Rattle.hy_bound.specs.declared.Reply.{Reply}
use Rattle.hy_bound.specs.declared.Reply.TheVariants as reply
use Rattle.hy_value.specs.declared.change.Change.{Change}
use Rattle.hy_plan.specs.Reads.{records_of}
use Rattle.hy_bound.specs.declared.Ending.TheVariants.{Full}
use Rattle.hy_undo.specs.declared.refusal.Refusal.{Refusal}
use Rattle.hy_visit.specs.Placing.{change_at}
use Rattle.hy_visit.specs.Writing.{counted}
use Rattle.hy_event.specs.declared.SessionData.{SessionData}
use Rattle.hy_event.specs.declared.Open.{Open}
use Rattle.hy_protocol.specs.declared.Phase.{Phase}
use Rattle.hy_protocol.specs.declared.Phase.TheVariants.{Working, Undoing}
use Rattle.hy_protocol.specs.declared.Progress.{Progress}
use Rattle.hy_protocol.specs.declared.Progress.TheVariants.{Moved, Answered}
use Rattle.hy_event.specs.Inserting.{place_turn}
use Rattle.hy_protocol.specs.Turns.{Visits, Answers}
use Rattle.hy_event.specs.Turns.{Step, Takes, with_open, after_visit, after_answer}
use Rattle.hy_event.specs.Writing.{ending_by, told_by, write_turn}
use Rattle.hy_session.specs.Written.{NotesKept, kept_in, kept_with, kept_after}

-- an open transaction that has written so and goes on to a phase
abbrev pub moved_to : Open → NotesKept → Phase → Open
moved_to now kept phase = record now { notes = kept.notes; saved = kept.saved; phase = phase }

-- an open transaction that has written so and answered
abbrev pub answered_so : Open → NotesKept → Reply → Option ℕ → List Record → Open
answered_so now kept reply took records = record now {
  notes = kept.notes;
  saved = kept.saved;
  took = now.took ++ took ∷ [];
  replies = now.replies ++ reply ∷ [];
  records = now.records ++ records;
  gathered = [];
  phase = Working 0 0;
}

-- the session whose open transaction is changed is that with the changed one
pub takes_changed : (session : SessionData) (now after : Open) (change : Open → Open) (progress : Progress) → session.now ≡ Some now → after ≡ change now
    → ◌≡◌ {A = Step} (with_open after session, progress) (record session { now = option_map change session.now }, progress)
takes_changed session now after change progress opened same =
    let all : Some after ≡ option_map change session.now = ap (λ (one : Open). Some one) same ∙ ap (option_map change) (sym opened) in
    let step : Option Open → Step = λ one. (record session { now = one }, progress) in
    ap step all

pub takes_visit : (session : SessionData) (now after : Open) (changes : List Change) (phase : Phase) → session.now ≡ Some now → after ≡ after_visit changes phase now
    → Takes session (Visits changes phase) Moved (with_open after session)
takes_visit session now after changes phase opened same = takes_changed session now after (after_visit changes phase) Moved opened same

pub takes_answer : (session : SessionData) (now after : Open) (changes : List Change) (reply : Reply) (took : Option ℕ) (records : List Record)
    → session.now ≡ Some now → after ≡ after_answer changes reply took records now → Takes session (Answers changes reply took records) Answered (with_open after session)
takes_answer session now after changes reply took records opened same = takes_changed session now after (after_answer changes reply took records) Answered opened same

-- ---- UPDATE and DELETE

module _ (session : SessionData) (now after : Open) (kept : NotesKept) (visited count : ℕ) (statement : Bound) (table : ℕ) (sets : Option (List Assign))
    (opened : session.now ≡ Some now) where
  -- a refused write undoes from the first chunk
  pub write_refused : (refusal : Refusal) (changes : Result (List Change) Refusal) → Err refusal ≡ counted changes → kept ≡ kept_after (kept_in now) changes
      → after ≡ moved_to now kept (Undoing 0 (ending_by table refusal))
      → Takes session (write_turn session now visited count statement table sets changes) Moved (with_open after session)
  write_refused refusal (Err other) told noted same =
      let one : refusal ≡ other = cc in
      takes_visit session now after [] (Undoing 0 (ending_by table other)) opened
      (same ∙ (ap (λ (n : NotesKept). moved_to now n (Undoing 0 (ending_by table refusal))) noted
      ∙ ap (λ (r : Refusal). moved_to now (kept_in now) (Undoing 0 (ending_by table r))) one))
  write_refused refusal (Ok changes) told noted same = cc

  -- one that isn't the last goes on
  pub write_goes : (rows : ℕ) (changes : Result (List Change) Refusal) → Ok rows ≡ counted changes → kept ≡ kept_after (kept_in now) changes
      → nat_lt (suc visited) session.chunks ≡ true → after ≡ moved_to now kept (Working (suc visited) (count + rows))
      → Takes session (write_turn session now visited count statement table sets changes) Moved (with_open after session)
  write_goes rows (Err other) told noted more same = cc
  write_goes rows (Ok changes) told noted more same =
      let one : rows ≡ length changes = cc in
      rw more (takes_visit session now after changes (Working (suc visited) (count + length changes)) opened
      (same ∙ (ap (λ (n : NotesKept). moved_to now n (Working (suc visited) (count + rows))) noted
      ∙ ap (λ (r : ℕ). moved_to now (kept_with (kept_in now) changes) (Working (suc visited) (count + r))) one)))

  -- the last one answers
  pub write_answers : (rows : ℕ) (changes : Result (List Change) Refusal) → Ok rows ≡ counted changes → kept ≡ kept_after (kept_in now) changes
      → nat_lt (suc visited) session.chunks ≡ false
      → after ≡ answered_so now kept (told_by sets (count + rows)) None (records_of session.shapes (suc (length now.replies)) statement [])
      → Takes session (write_turn session now visited count statement table sets changes) Answered (with_open after session)
  write_answers rows (Err other) told noted last same = cc
  write_answers rows (Ok changes) told noted last same =
      let one : rows ≡ length changes = cc in
      let records : List Record = records_of session.shapes (suc (length now.replies)) statement [] in
      rw last (takes_answer session now after changes (told_by sets (count + length changes)) None records opened
      (same ∙ (ap (λ (n : NotesKept). answered_so now n (told_by sets (count + rows)) None records) noted
      ∙ ap (λ (r : ℕ). answered_so now (kept_with (kept_in now) changes) (told_by sets (count + r)) None records) one)))

-- ---- INSERT

module _ (session : SessionData) (now after : Open) (visited : ℕ) (statement : Bound) (opened : session.now ≡ Some now) where
  module _ (kept : NotesKept) (number table : ℕ) (row : List Value) where
    -- the row has come
    pub place_answers : (pos : ℕ) (found : Option ℕ) → Some pos ≡ found → kept ≡ kept_with (kept_in now) (change_at table row (Some pos))
        → after ≡ answered_so now kept reply.Inserted (Some pos) (records_of session.shapes (suc (length now.replies)) statement [])
        → Takes session (place_turn session now visited number statement table row found) Answered (with_open after session)
    place_answers pos found told noted same =
        let records : List Record = records_of session.shapes (suc (length now.replies)) statement [] in
        rw (← told) (takes_answer session now after (change_at table row (Some pos)) reply.Inserted (Some pos) records opened
        (same ∙ ap (λ (n : NotesKept). answered_so now n reply.Inserted (Some pos) records) noted))

    -- no position is free here, and there are other chunks
    pub place_goes : (found : Option ℕ) → None ≡ found → kept ≡ kept_in now → nat_lt (suc number) session.chunks ≡ true
        → after ≡ moved_to now kept (Working (suc visited) 0)
        → Takes session (place_turn session now visited number statement table row found) Moved (with_open after session)
    place_goes found told noted more same =
        rw (← told, more) (takes_visit session now after [] (Working (suc visited) 0) opened
        (same ∙ ap (λ (n : NotesKept). moved_to now n (Working (suc visited) 0)) noted))

    -- no position is free
    pub place_refused : (found : Option ℕ) → None ≡ found → kept ≡ kept_in now → nat_lt (suc number) session.chunks ≡ false
        → after ≡ moved_to now kept (Undoing 0 (Full table))
        → Takes session (place_turn session now visited number statement table row found) Moved (with_open after session)
    place_refused found told noted last same =
        rw (← told, last) (takes_visit session now after [] (Undoing 0 (Full table)) opened
        (same ∙ ap (λ (n : NotesKept). moved_to now n (Undoing 0 (Full table))) noted))

    -- no position is free here, whether there are other chunks or not
    pub place_passes : (found : Option ℕ) (more : Bool) → None ≡ found → kept ≡ kept_in now → nat_lt (suc number) session.chunks ≡ more
        → after ≡ moved_to now kept (if more then Working (suc visited) 0 else Undoing 0 (Full table))
        → Takes session (place_turn session now visited number statement table row found) Moved (with_open after session)
    place_passes found true told noted is_more same = place_goes found told noted is_more same
    place_passes found false told noted is_more same = place_refused found told noted is_more same
