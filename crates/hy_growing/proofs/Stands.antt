-- Where a session stands before a turn, by where it stands after it; and which turn a longer script gives it there.
use Rattle.std.proofs.Common.{◌≡◌, ◌⊎◌, ℕ, ◌<◌, ◌≤◌, List, [], ◌∷◌, length, refl, ap, arith, zero, suc, Option, None, Some, inl, inr}
use Rattle.std.specs.Prelude.{slice_get}
use Rattle.std.proofs.lemmas.Bool.{cases_lt}
use Rattle.std.proofs.lemmas.List.{length-append}
use Rattle.hy_bound.specs.declared.Txn.{Txn}
use Rattle.hy_bound.specs.declared.Bound.{Bound}
use Rattle.hy_stamp.specs.declared.Label.{Label}
use Rattle.hy_machine.specs.declared.Setting.{Setting}
use Rattle.hy_machine.specs.States.{State, Session, Finished, Open, Begun}
use Rattle.hy_protocol.specs.declared.Phase.{Phase}
use Rattle.hy_protocol.specs.declared.Phase.TheVariants.{Working, Stamping, Undoing}
use Rattle.hy_protocol.specs.Turns.{Turn, Done, Waits, Begins, Visits, Answers, Saves, Enters, Ends}
use Rattle.hy_machine.specs.Writes.{Write}
use Rattle.hy_machine.specs.Sessions.{blocker}
use Rattle.hy_machine.specs.Turns.{undo_turn, stamp_turn, closing_turn, working_turn, phase_turn, session_turn}
use Rattle.hy_machine.specs.Steps.{with_open, beginning, after_visit, after_answer, after_saving, with_changed, with_ended}
use Rattle.hy_growing.proofs.Turning.{IsNotWorking, IsClosing, IsOfOpen, undo_closes, stamp_closes, closing_closes, phase_open}

-- ---- where a session stands

-- at work, with at most so many statements answered
abbrev pub IsWithin : ℕ → Begun → Phase → Type 0
IsWithin most begun (Working visited count) = length begun.replies ≤ most
IsWithin most begun (Stamping visited) = ⊥
IsWithin most begun (Undoing visited cause) = ⊥

abbrev pub IsWithinNow : ℕ → Option Open → Type 0
IsWithinNow most None = Unit {0}
IsWithinNow most (Some current) = IsWithin most current.begun current.phase

-- fewer than so many transactions have ended; or so many, and none is open, or one at work with at most so many answered
abbrev pub Stands : ℕ → ℕ → Session → Type 0
Stands ended most session = (length session.done < ended) ⊎ ((length session.done ≡ ended) × IsWithinNow most session.now)

-- ---- a session after a turn

abbrev pub session_after : Setting → State → Turn Write → Session → Session
session_after setting state Done session = session
session_after setting state (Waits by) session = session
session_after setting state Begins session = with_open (beginning setting state) session
session_after setting state (Visits writes phase) session = with_changed (after_visit writes phase) session
session_after setting state (Answers writes reply took records) session = with_changed (after_answer writes reply took records) session
session_after setting state (Saves statement reply) session = with_changed (after_saving statement reply) session
session_after setting state Enters session = with_changed (after_visit [] (Stamping 0)) session
session_after setting state (Ends how) session = with_ended how session

-- a turn that changes nothing
abbrev pub IsIdle : Turn Write → Type 0
IsIdle Done = Unit {0}
IsIdle (Waits by) = Unit {0}
IsIdle Begins = ⊥
IsIdle (Visits writes phase) = ⊥
IsIdle (Answers writes reply took records) = ⊥
IsIdle (Saves statement reply) = ⊥
IsIdle Enters = ⊥
IsIdle (Ends how) = ⊥

-- ---- no turn goes back

-- as many transactions have ended after a turn as before it, or more
done_grows : (setting : Setting) (state : State) (session : Session) (turn : Turn Write) → length session.done ≤ length (session_after setting state turn session).done
done_grows setting state session Done = omega arith
done_grows setting state session (Waits by) = omega arith
done_grows setting state session Begins = omega arith
done_grows setting state session (Visits writes phase) = omega arith
done_grows setting state session (Answers writes reply took records) = omega arith
done_grows setting state session (Saves statement reply) = omega arith
done_grows setting state session Enters = omega arith
done_grows setting state session (Ends how) = ending session.now
  where
    ending : (now : Option Open) → length session.done ≤ length (with_ended how (record { done = session.done; now = now })).done
    ending None = omega arith
    ending (Some current) = omega (arith, length-append session.done (record { begun = current.begun; ending = how } ∷ []))

-- what stands after a turn of an open transaction that is past what is asked, or not at work
abbrev IsPast : ℕ → Begun → Phase → Type 0
IsPast most begun (Working visited count) = most < length begun.replies
IsPast most begun (Stamping visited) = Unit {0}
IsPast most begun (Undoing visited cause) = Unit {0}

-- a turn that leaves an open transaction where it may not be
abbrev Leaves : ℕ → Begun → Turn Write → Type 0
Leaves most begun Done = ⊥
Leaves most begun (Waits by) = Unit {0}
Leaves most begun Begins = ⊥
Leaves most begun (Visits writes phase) = IsPast most begun phase
Leaves most begun (Answers writes reply took records) = most < suc (length begun.replies)
Leaves most begun (Saves statement reply) = most < suc (length begun.replies)
Leaves most begun Enters = Unit {0}
Leaves most begun (Ends how) = Unit {0}

-- such a turn waits, or the session doesn't stand so after it
leaves_or_waits : (setting : Setting) (state : State) (ended most : ℕ) (done : List Finished) (current : Open) (turn : Turn Write) → length done ≡ ended → Leaves most current.begun turn
    → Stands ended most (session_after setting state turn (record { done = done; now = Some current })) → IsIdle turn
leaves_or_waits setting state ended most done current Done d l s = tt
leaves_or_waits setting state ended most done current (Waits by) d l s = tt
leaves_or_waits setting state ended most done current Begins d l s = absurd l
leaves_or_waits setting state ended most done current (Visits writes phase) d l (inl s) = absurd (omega (arith, d, s))
leaves_or_waits setting state ended most done current (Visits writes (Working visited count)) d l (inr s) = absurd (omega (arith, l, s.1))
leaves_or_waits setting state ended most done current (Visits writes (Stamping visited)) d l (inr s) = absurd s.1
leaves_or_waits setting state ended most done current (Visits writes (Undoing visited cause)) d l (inr s) = absurd s.1
leaves_or_waits setting state ended most done current (Answers writes reply took records) d l (inl s) = absurd (omega (arith, d, s))
leaves_or_waits setting state ended most done current (Answers writes reply took records) d l (inr s) =
    absurd (omega (arith, l, s.1, length-append current.begun.replies (reply ∷ [])))
leaves_or_waits setting state ended most done current (Saves statement reply) d l (inl s) = absurd (omega (arith, d, s))
leaves_or_waits setting state ended most done current (Saves statement reply) d l (inr s) =
    absurd (omega (arith, l, s.1, length-append current.begun.replies (reply ∷ [])))
leaves_or_waits setting state ended most done current Enters d l (inl s) = absurd (omega (arith, d, s))
leaves_or_waits setting state ended most done current Enters d l (inr s) = absurd s.1
leaves_or_waits setting state ended most done current (Ends how) d l (inl s) =
    absurd (omega (arith, d, s, length-append done (record { begun = current.begun; ending = how } ∷ [])))
leaves_or_waits setting state ended most done current (Ends how) d l (inr s) =
    absurd (omega (arith, d, s.0, length-append done (record { begun = current.begun; ending = how } ∷ [])))

-- ---- the turns of what closes a transaction

not_working_past : (most : ℕ) (begun : Begun) (phase : Phase) → IsNotWorking phase → IsPast most begun phase
not_working_past most begun (Working visited count) n = absurd n
not_working_past most begun (Stamping visited) n = tt
not_working_past most begun (Undoing visited cause) n = tt

closing_leaves : (by : Option Label) (most : ℕ) (begun : Begun) (turn : Turn Write) → IsClosing by turn → Leaves most begun turn
closing_leaves by most begun Done c = absurd c
closing_leaves by most begun (Waits other) c = tt
closing_leaves by most begun Begins c = absurd c
closing_leaves by most begun (Visits writes phase) c = not_working_past most begun phase c
closing_leaves by most begun (Answers writes reply took records) c = absurd c
closing_leaves by most begun (Saves statement reply) c = absurd c
closing_leaves by most begun Enters c = tt
closing_leaves by most begun (Ends how) c = tt

-- a transaction with more answered leaves by whatever it does
more_leaves : (by : Option Label) (most : ℕ) (begun : Begun) (turn : Turn Write) → most < length begun.replies → IsOfOpen by turn → Leaves most begun turn
more_leaves by most begun Done h o = absurd o
more_leaves by most begun (Waits other) h o = tt
more_leaves by most begun Begins h o = absurd o
more_leaves by most begun (Visits writes (Working visited count)) h o = h
more_leaves by most begun (Visits writes (Stamping visited)) h o = tt
more_leaves by most begun (Visits writes (Undoing visited cause)) h o = tt
more_leaves by most begun (Answers writes reply took records) h o = omega (arith, h)
more_leaves by most begun (Saves statement reply) h o = omega (arith, h)
more_leaves by most begun Enters h o = tt
more_leaves by most begun (Ends how) h o = tt

-- ---- the longer script

-- a longer script has the same transaction here, as far as so many statements go, which are all of it; or has one where there was none
abbrev pub SameTo : ℕ → Option Txn → Option Txn → Type 0
SameTo most None new = Unit {0}
SameTo most (Some old) None = ⊥
SameTo most (Some old) (Some new) = ((i : ℕ) → i < most → slice_get new.statements i ≡ slice_get old.statements i) × (most ≡ length old.statements)

-- the session stood so before the turn, and its turn changes nothing or is the one that the longer script gives
abbrev pub StoodAndSame : Setting → State → ℕ → ℕ → ℕ → Session → Option Txn → Option Txn → Type 0
StoodAndSame setting state number ended most session old new =
    Stands ended most session
    × (IsIdle (session_turn setting state number old session.now) ⊎ (session_turn setting state number new session.now ≡ session_turn setting state number old session.now))

idle_stood : (setting : Setting) (state : State) (ended most : ℕ) (session : Session) (turn : Turn Write) → IsIdle turn → Stands ended most (session_after setting state turn session) → Stands ended most session
idle_stood setting state ended most session Done i s = s
idle_stood setting state ended most session (Waits by) i s = s
idle_stood setting state ended most session Begins i s = absurd i
idle_stood setting state ended most session (Visits writes phase) i s = absurd i
idle_stood setting state ended most session (Answers writes reply took records) i s = absurd i
idle_stood setting state ended most session (Saves statement reply) i s = absurd i
idle_stood setting state ended most session Enters i s = absurd i
idle_stood setting state ended most session (Ends how) i s = absurd i

-- a turn that leaves was idle
left_idle : (setting : Setting) (state : State) (number ended most : ℕ) (done : List Finished) (current : Open) (old : Txn) (new : Option Txn) → length done ≡ ended
    → Leaves most current.begun (phase_turn setting state number old current.begun current.phase)
    → Stands ended most (session_after setting state (phase_turn setting state number old current.begun current.phase) (record { done = done; now = Some current }))
    → StoodAndSame setting state number ended most (record { done = done; now = Some current }) (Some old) new
left_idle setting state number ended most done current old new d l s =
    let turn = phase_turn setting state number old current.begun current.phase in
    let i = leaves_or_waits setting state ended most done current turn d l s in
    (idle_stood setting state ended most (record { done = done; now = Some current }) turn i s, inl i)

pub none_past : {A : Type 0} (xs : List A) (n : ℕ) → length xs ≤ n → slice_get xs n ≡ None
none_past [] n h = refl
none_past (x ∷ xs) zero h = absurd (omega (arith, h))
none_past (x ∷ xs) (suc n) h = none_past xs n (omega (arith, h))

none_not_within : {A : Type 0} (xs : List A) (n : ℕ) → n < length xs → slice_get xs n ≡ None → ⊥
none_not_within [] n h e = omega (arith, h)
none_not_within (x ∷ xs) zero h e = absurd (cc e)
none_not_within (x ∷ xs) (suc n) h e = none_not_within xs n (omega (arith, h)) e

same_statement : (setting : Setting) (state : State) (number : ℕ) (old new : Txn) (begun : Begun) (visited count : ℕ) (before after : Option Bound) → after ≡ before → (before ≡ None → ⊥)
    → working_turn setting state number new begun visited count after ≡ working_turn setting state number old begun visited count before
same_statement setting state number old new begun visited count None after e n = absurd (n refl)
same_statement setting state number old new begun visited count (Some statement) after e n = ap (working_turn setting state number new begun visited count) e

working_same : (setting : Setting) (state : State) (number ended most : ℕ) (done : List Finished) (begun : Begun) (visited count : ℕ) (old new : Txn) → length done ≡ ended
    → SameTo most (Some old) (Some new)
    → Stands ended most (session_after setting state (phase_turn setting state number old begun (Working visited count)) (record { done = done; now = Some (record { begun = begun; phase = Working visited count }) }))
    → StoodAndSame setting state number ended most (record { done = done; now = Some (record { begun = begun; phase = Working visited count }) }) (Some old) (Some new)
working_same setting state number ended most done begun visited count old new d same s = elim (cases_lt (length begun.replies) most) [
  | inl lt ↦
      let within : length begun.replies < length old.statements = omega (arith, lt, same.1) in (
        inr (d, omega (arith, lt)),
        inr (same_statement setting state number old new begun visited count (slice_get old.statements (length begun.replies)) (slice_get new.statements (length begun.replies))
            (same.0 (length begun.replies) lt) (none_not_within old.statements (length begun.replies) within)),
      )
  | inr ge ↦ elim (cases_lt most (length begun.replies)) [
    | inl more ↦ left_idle setting state number ended most done current old (Some new) d
        (more_leaves (blocker state number) most begun (phase_turn setting state number old begun (Working visited count)) more
        (phase_open setting state number old begun (Working visited count))) s
    | inr le ↦
        let none : slice_get old.statements (length begun.replies) ≡ None = none_past old.statements (length begun.replies) (omega (arith, ge, same.1)) in
        left_idle setting state number ended most done current old (Some new) d (by_none none) s
  ]
]
  where
    current : Open
    current = record { begun = begun; phase = Working visited count }

    by_none : slice_get old.statements (length begun.replies) ≡ None → Leaves most begun (phase_turn setting state number old begun (Working visited count))
    by_none none = rw none (closing_leaves (blocker state number) most begun (closing_turn setting state number begun old.commits) (closing_closes setting state number begun old.commits))

open_same : (setting : Setting) (state : State) (number ended most : ℕ) (done : List Finished) (begun : Begun) (phase : Phase) (old new : Txn) → length done ≡ ended
    → SameTo most (Some old) (Some new)
    → Stands ended most (session_after setting state (phase_turn setting state number old begun phase) (record { done = done; now = Some (record { begun = begun; phase = phase }) }))
    → StoodAndSame setting state number ended most (record { done = done; now = Some (record { begun = begun; phase = phase }) }) (Some old) (Some new)
open_same setting state number ended most done begun (Working visited count) old new d same s = working_same setting state number ended most done begun visited count old new d same s
open_same setting state number ended most done begun (Stamping visited) old new d same s =
    left_idle setting state number ended most done (record { begun = begun; phase = Stamping visited }) old (Some new) d (closing_leaves (blocker state number) most begun (stamp_turn setting state begun visited) (stamp_closes setting state number begun visited)) s
open_same setting state number ended most done begun (Undoing visited cause) old new d same s =
    left_idle setting state number ended most done (record { begun = begun; phase = Undoing visited cause }) old (Some new) d (closing_leaves (blocker state number) most begun (undo_turn setting state number begun visited cause) (undo_closes setting state number begun visited cause)) s

-- where so many have ended
here_same : (setting : Setting) (state : State) (number ended most : ℕ) (done : List Finished) (now : Option Open) (old new : Option Txn) → length done ≡ ended → SameTo most old new
    → Stands ended most (session_after setting state (session_turn setting state number old now) (record { done = done; now = now }))
    → StoodAndSame setting state number ended most (record { done = done; now = now }) old new
here_same setting state number ended most done now None new d same s = (s, inl tt)
here_same setting state number ended most done now (Some old) None d same s = absurd same
here_same setting state number ended most done None (Some old) (Some new) d same s = (inr (d, tt), inr refl)
here_same setting state number ended most done (Some current) (Some old) (Some new) d same s =
    open_same setting state number ended most done current.begun current.phase old new d same s

-- a session that stands so after its turn stood so before it, and the turn was idle or is the longer script's as well
pub stood_and_same : (setting : Setting) (state : State) (number ended most : ℕ) (session : Session) (old new : Option Txn)
    → (length session.done < ended → new ≡ old) → (length session.done ≡ ended → SameTo most old new)
    → Stands ended most (session_after setting state (session_turn setting state number old session.now) session)
    → StoodAndSame setting state number ended most session old new
stood_and_same setting state number ended most session old new before here s = elim (cases_lt (length session.done) ended) [
  | inl lt ↦ (inl lt, inr (ap (λ (txn : Option Txn). session_turn setting state number txn session.now) (before lt)))
  | inr ge ↦ elim (cases_lt ended (length session.done)) [
    | inl more ↦ absurd (too_many more s)
    | inr le ↦
        let d : length session.done ≡ ended = omega (arith, ge, le) in
        here_same setting state number ended most session.done session.now old new d (here d) s
  ]
]
  where
    turn : Turn Write
    turn = session_turn setting state number old session.now

    too_many : ended < length session.done → Stands ended most (session_after setting state turn session) → ⊥
    too_many more (inl s) = omega (arith, more, s, done_grows setting state session turn)
    too_many more (inr s) = omega (arith, more, s.0, done_grows setting state session turn)
