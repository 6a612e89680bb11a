-- What holds of each state that the machine comes to: where its sessions stand in their scripts, and which of them is marked.
use Rattle.std.proofs.Common.{◌≡◌, ℕ, ◌<◌, ◌≤◌, List, [], ◌∷◌, ◌++◌, length, map, get_or, refl, ap, ◌∙◌, sym, arith, zero, suc, Option, None, Some, Bool, true, false, inl, inr}
use Rattle.std.proofs.Math.ListN.{set}
use Rattle.std.specs.Prelude.{slice_get, ◌==◌}
use Rattle.std.proofs.lemmas.Bool.{cases_Bool, cases_eq, eqb-true, eq-eqb, ne_eqb}
use Rattle.std.proofs.lemmas.List.{length-append, length-map, length-set, get_or-set_same, get_or-set_other}
use Rattle.std.proofs.lemmas.Option.{slice_get_within}
use Rattle.hy_bound.specs.declared.Txn.{Txn}
use Rattle.hy_stamp.specs.declared.Label.{Label}
use Rattle.hy_bound.specs.declared.Ending.{Ending}
use Rattle.hy_bound.specs.declared.Ending.TheVariants.{RolledBack}
use Rattle.hy_machine.specs.declared.Setting.{Setting}
use Rattle.hy_protocol.specs.declared.Phase.{Phase}
use Rattle.hy_protocol.specs.declared.Phase.TheVariants.{Working, Stamping, Undoing}
use Rattle.hy_machine.specs.States.{State, Session, Finished, Open, Begun}
use Rattle.hy_protocol.specs.Turns.{Turn, Done, Waits, Begins, Visits, Answers, Saves, Enters, Ends, unless_blocked, is_stamping}
use Rattle.hy_machine.specs.Writes.{Write}
use Rattle.hy_machine.specs.Sessions.{fresh, session_at, program_of, txn_at, blocker_of, blocker}
use Rattle.hy_machine.specs.Visits.{visits_of}
use Rattle.hy_machine.specs.Turns.{statement_turn, phase_turn, session_turn}
use Rattle.hy_machine.specs.Steps.{after_turn, step_of, with_open, beginning, after_visit, after_answer, after_saving, with_changed, with_ended}
use Rattle.hy_machine.specs.Runs.{opening_of, after_steps}
use Rattle.hy_machine.specs.TurnCases.{UndoCases, undo_cases, stamp_cases, working_cases}
use Rattle.hy_machine.proofs.Falls.{Advances, statement_advances}

-- ---- the invariant

-- so many transactions of a script that has so many have ended; the one that is open is of the script too
abbrev pub Fits : Option Open → ℕ → ℕ → Type 0
Fits None done most = done ≤ most
Fits (Some current) done most = done < most

abbrev pub has_entered : Option Open → Bool
has_entered None = false
has_entered (Some current) = is_stamping current.phase

-- whether this session is the marked one
abbrev pub is_marked : Option ℕ → ℕ → Bool
is_marked None number = false
is_marked (Some marked) number = marked == number

-- what holds along steps
pub record IsKept (setting : Setting) (state : State) : Type 0 where
  -- there is a session for each script
  pub sessions : length state.sessions ≡ length setting.programs
  pub within : (number : ℕ) → Fits (session_at state number).now (length (session_at state number).done) (length (program_of setting number))
  -- the session that stands between its entry and its end is the marked one, and no other
  pub marks : (number : ℕ) → has_entered (session_at state number).now ≡ is_marked state.mark number

-- ---- what a turn may be

-- what the turn of an open transaction may be, that stands at this phase, where this one blocks it
abbrev pub Follows : Option Label → Phase → Turn Write → Type 0
Follows by phase Done = ⊥
Follows by phase (Waits other) = (by ≡ Some other) × (is_stamping phase ≡ false)
Follows by phase Begins = ⊥
Follows by phase (Visits writes next) = is_stamping next ≡ is_stamping phase
Follows by phase (Answers writes reply took records) = is_stamping phase ≡ false
Follows by phase (Saves statement reply) = is_stamping phase ≡ false
Follows by phase Enters = by ≡ None
Follows by phase (Ends how) = is_stamping phase ≡ false → by ≡ None

advance_follows : (by : Option Label) (visited count most : ℕ) (turn : Turn Write) → Advances by visited most turn → Follows by (Working visited count) turn
advance_follows by visited count most (Visits writes (Working next more)) a = refl
advance_follows by visited count most (Visits writes (Undoing next cause)) a = refl
advance_follows by visited count most (Answers writes reply took records) a = refl
advance_follows by visited count most (Saves statement reply) a = refl
advance_follows by visited count most (Waits other) a = (a, refl)
advance_follows by visited count most Done a = absurd a
advance_follows by visited count most Begins a = absurd a
advance_follows by visited count most (Visits writes (Stamping next)) a = absurd a
advance_follows by visited count most Enters a = absurd a
advance_follows by visited count most (Ends how) a = absurd a

undo_follows : (setting : Setting) (state : State) (number : ℕ) (begun : Begun) (visited : ℕ) (cause : Ending) (phase : Phase) → is_stamping phase ≡ false
    → UndoCases setting state number begun (Follows (blocker state number) phase) visited cause
undo_follows setting state number begun visited cause phase p =
    record { goes = λ few. sym p; waits = λ by is. (is, p); ends = λ free q. free }

pub phase_follows : (setting : Setting) (state : State) (number : ℕ) (txn : Txn) (begun : Begun) (phase : Phase)
    → Follows (blocker state number) phase (phase_turn setting state number txn begun phase)
phase_follows setting state number txn begun (Working visited count) =
    working_cases setting state number begun (Follows (blocker state number) (Working visited count)) txn visited count
    (λ statement e. advance_follows (blocker state number) visited count (visits_of setting statement)
    (statement_turn setting state number begun visited count statement) (statement_advances setting state number begun visited count statement))
    (λ none commits. record { waits = λ by is. (is, refl); reads = λ free nothing q. free; enters = λ free some e. free; out = λ some cause e. refl })
    (λ none rolls. undo_follows setting state number begun 0 RolledBack (Working visited count) refl)
phase_follows setting state number txn begun (Stamping visited) =
    stamp_cases setting state number begun (Follows (blocker state number) (Stamping visited)) visited (λ few. refl) (λ p. absurd (cc p))
phase_follows setting state number txn begun (Undoing visited cause) =
    undo_cases setting state number begun (Follows (blocker state number) (Undoing visited cause)) visited cause
    (undo_follows setting state number begun visited cause (Undoing visited cause) refl)

-- ---- a step keeps it

-- where nobody blocks a session, no other one is marked
pub none_marked : (state : State) (number other : ℕ) (mark : Option ℕ) → blocker_of state number mark ≡ None → (other ≡ number → ⊥)
    → is_marked mark other ≡ false
none_marked state number other None b n = refl
none_marked state number other (Some marked) b n = elim (cases_Bool (marked == number)) [
  | inl t ↦ ne_eqb marked other (λ e. n (sym e ∙ eqb-true marked number t))
  | inr f ↦
      let blocked = rw f at b in
      absurd (cc blocked)
]

-- nobody blocks the marked session
pub marked_free : (state : State) (number : ℕ) (mark : Option ℕ) → is_marked mark number ≡ true → blocker_of state number mark ≡ None
marked_free state number None t = absurd (cc t)
marked_free state number (Some marked) t = rw t refl

-- a session that has a transaction before it has a script
pub has_script : (setting : Setting) (state : State) (number : ℕ) (done : List Finished) (txn : Txn) → IsKept setting state
    → slice_get (program_of setting number) (length done) ≡ Some txn
    → number < length state.sessions
has_script setting state number done txn k t = rw k.sessions (scripted setting.programs number t)
  where
    scripted : (programs : List (List Txn)) (number : ℕ) → slice_get (get_or programs number []) (length done) ≡ Some txn → number < length programs
    scripted [] number e = absurd (cc e)
    scripted (program ∷ programs) zero e = omega arith
    scripted (program ∷ programs) (suc number) e = omega (arith, scripted programs number e)

-- a session that is put in the place of another one keeps it, where it fits and the mark is right for it and for the others
kept_by : (setting : Setting) (state next : State) (number : ℕ) (session : Session) → IsKept setting state → number < length state.sessions
    → next.sessions ≡ set state.sessions number session
    → Fits session.now (length session.done) (length (program_of setting number)) → has_entered session.now ≡ is_marked next.mark number
    → ((other : ℕ) → (other ≡ number → ⊥) → is_marked next.mark other ≡ is_marked state.mark other) → IsKept setting next
kept_by setting state next number session k l s w m o = record {
  sessions = ap length s ∙ (length-set state.sessions number session ∙ k.sessions);
  within = λ other. elim (cases_eq other number) [
    | inl e ↦ rw (e, here) w
    | inr n ↦ rw (there other n) (k.within other)
  ];
  marks = λ other. elim (cases_eq other number) [
    | inl e ↦ rw (e, here) m
    | inr n ↦ rw (there other n) (k.marks other ∙ sym (o other n))
  ];
}
  where
    here : session_at next number ≡ session
    here = ap (λ (sessions : List Session). get_or sessions number fresh) s ∙ get_or-set_same state.sessions number session fresh l

    there : (other : ℕ) → (other ≡ number → ⊥) → session_at next other ≡ session_at state other
    there other n = ap (λ (sessions : List Session). get_or sessions other fresh) s ∙ get_or-set_other state.sessions number other session fresh n

kept_open : (setting : Setting) (state : State) (number : ℕ) (done : List Finished) (current : Open) (turn : Turn Write) → IsKept setting state
    → number < length state.sessions
    → session_at state number ≡ record { done = done; now = Some current } → length done < length (program_of setting number)
    → Follows (blocker state number) current.phase turn
    → IsKept setting (after_turn setting state number turn).0
kept_open setting state number done current (Visits writes phase) k l s w f =
    kept_by setting state (after_turn setting state number (Visits writes phase)).0 number
    (record { done = done; now = Some (after_visit writes phase current) }) k l
    (ap (λ (one : Session). set state.sessions number (with_changed (after_visit writes phase) one)) s) w
    (f ∙ (ap (λ (one : Session). has_entered one.now) (sym s) ∙ k.marks number)) (λ other n. refl)
kept_open setting state number done current (Answers writes reply took records) k l s w f =
    kept_by setting state (after_turn setting state number (Answers writes reply took records)).0 number
    (record { done = done; now = Some (after_answer writes reply took records current) }) k l
    (ap (λ (one : Session). set state.sessions number (with_changed (after_answer writes reply took records) one)) s) w
    (sym f ∙ (ap (λ (one : Session). has_entered one.now) (sym s) ∙ k.marks number)) (λ other n. refl)
kept_open setting state number done current (Saves statement reply) k l s w f =
    kept_by setting state (after_turn setting state number (Saves statement reply)).0 number
    (record { done = done; now = Some (after_saving statement reply current) }) k l
    (ap (λ (one : Session). set state.sessions number (with_changed (after_saving statement reply) one)) s) w
    (sym f ∙ (ap (λ (one : Session). has_entered one.now) (sym s) ∙ k.marks number)) (λ other n. refl)
kept_open setting state number done current Enters k l s w f =
    kept_by setting state (after_turn setting state number Enters).0 number (record { done = done; now = Some (after_visit [] (Stamping 0) current) }) k l
    (ap (λ (one : Session). set state.sessions number (with_changed (after_visit [] (Stamping 0)) one)) s) w
    (sym (eq-eqb number number refl)) (λ other n. ne_eqb number other (λ e. n (sym e)) ∙ sym (none_marked state number other state.mark f n))
kept_open setting state number done current (Ends how) k l s w f =
    kept_by setting state (after_turn setting state number (Ends how)).0 number
    (record { done = done ++ record { begun = current.begun; ending = how } ∷ []; now = None }) k l
    (ap (λ (one : Session). set state.sessions number (with_ended how one)) s)
    (omega (arith, length-append done (record { begun = current.begun; ending = how } ∷ []))) refl
    (λ other n. sym (none_marked state number other state.mark free n))
  where
    free : blocker state number ≡ None
    free = elim (cases_Bool (is_stamping current.phase)) [
      | inl t ↦ marked_free state number state.mark (sym (k.marks number) ∙ (ap (λ (one : Session). has_entered one.now) s ∙ t))
      | inr p ↦ f p
    ]
kept_open setting state number done current (Waits by) k l s w f = k
kept_open setting state number done current Done k l s w f = absurd f
kept_open setting state number done current Begins k l s w f = absurd f

kept_begun : (setting : Setting) (state : State) (number : ℕ) (done : List Finished) (by : Option Label) → IsKept setting state → number < length state.sessions
    → session_at state number ≡ record { done = done; now = None } → length done < length (program_of setting number)
    → IsKept setting (after_turn setting state number (unless_blocked by Begins)).0
kept_begun setting state number done None k l s w =
    kept_by setting state (after_turn setting state number Begins).0 number (with_open (beginning setting state) (record { done = done; now = None })) k l
    (ap (λ (one : Session). set state.sessions number (with_open (beginning setting state) one)) s) w
    (ap (λ (one : Session). has_entered one.now) (sym s) ∙ k.marks number) (λ other n. refl)
kept_begun setting state number done (Some by) k l s w = k

kept_turn : (setting : Setting) (state : State) (number : ℕ) (done : List Finished) (now : Option Open) (txn : Option Txn) → IsKept setting state
    → session_at state number ≡ record { done = done; now = now }
    → slice_get (program_of setting number) (length done) ≡ txn → IsKept setting (after_turn setting state number (session_turn setting state number txn now)).0
kept_turn setting state number done now None k s t = k
kept_turn setting state number done None (Some txn) k s t =
    kept_begun setting state number done (blocker state number) k (has_script setting state number done txn k t) s
    (slice_get_within (program_of setting number) (length done) txn t)
kept_turn setting state number done (Some current) (Some txn) k s t =
    kept_open setting state number done current (phase_turn setting state number txn current.begun current.phase) k
    (has_script setting state number done txn k t) s (slice_get_within (program_of setting number) (length done) txn t)
    (phase_follows setting state number txn current.begun current.phase)

pub kept_step : (setting : Setting) (state : State) (number : ℕ) → IsKept setting state → IsKept setting (step_of setting state number).0
kept_step setting state number k =
    kept_turn setting state number (session_at state number).done (session_at state number).now (txn_at setting number (session_at state number)) k refl refl

-- ---- along steps, from the opening on

pub kept_steps : (setting : Setting) (state : State) (numbers : List ℕ) → IsKept setting state → IsKept setting (after_steps setting state numbers)
kept_steps setting state [] k = k
kept_steps setting state (number ∷ numbers) k = kept_steps setting (step_of setting state number).0 numbers (kept_step setting state number k)

all_fresh : (programs : List (List Txn)) (number : ℕ) → get_or (map (λ (txns : List Txn). fresh) programs) number fresh ≡ fresh
all_fresh [] number = refl
all_fresh (program ∷ programs) zero = refl
all_fresh (program ∷ programs) (suc number) = all_fresh programs number

pub kept_opening : (setting : Setting) → IsKept setting (opening_of setting)
kept_opening setting = record {
  sessions = length-map setting.programs (λ (txns : List Txn). fresh);
  within = λ number. rw (all_fresh setting.programs number) (omega arith);
  marks = λ number. rw (all_fresh setting.programs number) refl;
}
