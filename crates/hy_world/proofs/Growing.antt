-- A visit of the core adds one entry to the journal, or none.
use Rattle.std.proofs.Common.{◌≡◌, Bool, true, false, Option, None, Some, Result, Ok, Err, refl, ap, cond, inl, inr, subst, sym}
use Rattle.std.specs.Prelude.{IfOk, OnErr}
use Rattle.hy_value.specs.declared.change.Change.{Change}
use Rattle.hy_journal.specs.declared.CoreData.{CoreData}
use Rattle.hy_journal.specs.Core.{core_left, core_closed}
use Rattle.hy_event.specs.declared.SessionData.{SessionData}
use Rattle.hy_event.specs.declared.Open.{Open}
use Rattle.hy_protocol.specs.declared.Progress.{Progress}
use Rattle.hy_protocol.specs.Turns.{Turn, Done, Waits, Begins, Visits, Answers, Saves, Enters, Ends, is_stamping}
use Rattle.hy_event.specs.CoreTurns.{core_after, core_turn, ended_by, entered_by, TakesAtCore, CoreEvent}
use Rattle.hy_world.specs.Logged.{GrowByOne}

-- what a turn makes of the core: the entry, or none
abbrev Grows : CoreData → CoreData → Type 0
Grows core new = GrowByOne core.entries new.entries

entered_grows : (session : SessionData) (core : CoreData) (now : Option Open) → Grows core (entered_by session core now)
entered_grows session core None = inl refl
entered_grows session core (Some now) = inr (_, refl)

end_grows : (core : CoreData) (now : Open) (entered : Bool) → Grows core (cond entered (core_left core now.start) (core_closed core now.start))
end_grows core now true = inl refl
end_grows core now false = inl refl

ended_grows : (core : CoreData) (now : Option Open) → Grows core (ended_by core now)
ended_grows core None = inl refl
ended_grows core (Some now) = end_grows core now (is_stamping now.phase)

turn_grows : (session : SessionData) (core : CoreData) (turn : Turn Change) → Grows core (core_after session core turn)
turn_grows session core Done = inl refl
turn_grows session core (Waits by) = inl refl
turn_grows session core Begins = inl refl
turn_grows session core (Visits changes phase) = inl refl
turn_grows session core (Answers changes reply took records) = inl refl
turn_grows session core (Saves statement reply) = inl refl
turn_grows session core Enters = entered_grows session core session.now
turn_grows session core (Ends ending) = ended_grows core session.now

pub taken_grows : (session after : SessionData) (core new : CoreData) (progress : Progress) (turn : Option (Turn Change))
    → TakesAtCore session core turn progress after new → Grows core new
taken_grows session after core new progress None taken = absurd taken
taken_grows session after core new progress (Some turn) taken = subst (Grows core) (sym taken.1) (turn_grows session core turn)

-- after a visit of the core, or where nothing changed
pub visit_grows : {E : Type 0} (r : Result Progress E) (session after : SessionData) (core new : CoreData)
    → IfOk r (λ progress. CoreEvent session core progress after new) → OnErr r ((after ≡ session) × (new ≡ core)) → GrowByOne core.entries new.entries
visit_grows (Ok progress) session after core new event kept = taken_grows session after core new progress (core_turn session core) event
visit_grows (Err e) session after core new event kept = inl (ap (λ (other : CoreData). other.entries) kept.1)
