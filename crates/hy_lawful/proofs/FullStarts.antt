-- The starts of a session's transactions: steps add none but those at the end of the commit order.
use Rattle.std.proofs.Common.{◌≡◌, ℕ, zero, suc, ◌+◌, ◌-◌, ◌<◌, ◌≤◌, List, [], ◌∷◌, ◌++◌, Option, None, Some, get_or, length, map, refl, ap, sym, ◌∙◌}
use Rattle.std.proofs.Common.{subst, arith}
use Rattle.std.proofs.Common.{inl, inr, ◌⊎◌}
use Rattle.std.specs.Prelude.{slice_get}
use Rattle.std.specs.Option.{option_map}
use Rattle.std.specs.List.{AllByRecursion}
use Rattle.std.proofs.lemmas.Bool.{cases_lt}
use Rattle.std.proofs.lemmas.List.{length-append, append-nil, append_assoc, map-append}
use Rattle.std.proofs.lemmas.Option.{slice_get-get_or}
use Rattle.hy_bound.specs.declared.Txn.{Txn}
use Rattle.hy_bound.specs.declared.Ending.{Ending}
use Rattle.hy_machine.specs.Writes.{Write}
use Rattle.hy_machine.specs.declared.Setting.{Setting}
use Rattle.hy_protocol.specs.declared.Phase.TheVariants.{Stamping}
use Rattle.hy_machine.specs.States.{State, Session, Open, Finished}
use Rattle.hy_machine.specs.Tables.{Entry}
use Rattle.hy_protocol.specs.Turns.{Turn, Done, Waits, Begins, Visits, Answers, Saves, Enters, Ends}
use Rattle.hy_machine.specs.Turns.{session_turn, phase_turn}
use Rattle.hy_machine.specs.Sessions.{session_at, txn_at, entry_of}
use Rattle.hy_machine.specs.Steps.{with_open, beginning, with_changed, with_ended, after_visit, after_answer, after_saving, order_with, after_turn, step_of}
use Rattle.hy_machine.specs.Runs.{after_steps}
use Rattle.hy_lawful.proofs.Fits.{OpenFits, NowFits, NowStamps, Fits}
use Rattle.hy_lawful.proofs.Lists.{kept_in_front, all_so, all_joined, one_of}
use Rattle.hy_lawful.proofs.Moves.{moved_to, sessions_moved}
use Rattle.hy_lawful.proofs.Reached.{is_there, step_fits}
use Rattle.hy_lawful.proofs.Turns.{FitsTurn, phase_fits}

abbrev pub now_starts : Option Open → List ℕ
now_starts None = []
now_starts (Some current) = current.begun.prefix ∷ []

-- the starts of the ended transactions, and of the open one
abbrev pub starts_of : Session → List ℕ
starts_of session = map (λ (finished : Finished). finished.begun.prefix) session.done ++ now_starts session.now

-- ---- more starts

-- a list with more numbers behind it, none below this one
pub record Adds (least : ℕ) (xs ys : List ℕ) : Type 0 where
  pub more : List ℕ
  pub joined : ys ≡ xs ++ more
  pub late : AllByRecursion (λ (start : ℕ). least ≤ start) more

adds_none : (least : ℕ) (xs ys : List ℕ) → ys ≡ xs → Adds least xs ys
adds_none least xs ys e = record { more = []; joined = e ∙ sym (append-nil xs); late = tt }

adds_then : (least more : ℕ) (xs ys zs : List ℕ) → least ≤ more → Adds least xs ys → Adds more ys zs → Adds least xs zs
adds_then least more xs ys zs h a b = record {
  more = a.more ++ b.more;
  joined = b.joined ∙ (ap (λ (l : List ℕ). l ++ b.more) a.joined ∙ append_assoc xs a.more b.more);
  late = all_joined (λ (start : ℕ). least ≤ start) a.more b.more a.late
      (all_so (λ (start : ℕ). more ≤ start) (λ (start : ℕ). least ≤ start) b.more (λ start k. omega (arith, h, k)) b.late);
}

past_front : {X : Type 0} (xs ys : List X) (i j : ℕ) → length xs + j ≡ i → slice_get (xs ++ ys) i ≡ slice_get ys j
past_front [] ys i j h = ap (slice_get ys) (let e : i ≡ j = omega (arith, h) in e)
past_front (x ∷ xs) ys zero j h = absurd (omega (arith, h))
past_front (x ∷ xs) ys (suc i) j h = past_front xs ys i j (omega (arith, h))

-- one of a longer list is one of the first, or none below the number
pub added : (least : ℕ) (xs ys : List ℕ) → Adds least xs ys → (i start : ℕ) → slice_get ys i ≡ Some start
    → (slice_get xs i ≡ Some start) ⊎ (least ≤ start)
added least xs ys a i start e = elim (cases_lt i (length xs)) [
  | inl below ↦
      let here : slice_get xs i ≡ Some (get_or xs i 0) = slice_get-get_or xs i 0 below in
      inl (here ∙ (sym (kept_in_front xs a.more i (get_or xs i 0) here) ∙ (ap (λ (l : List ℕ). slice_get l i) (sym a.joined) ∙ e)))
  | inr past ↦ inr (one_of (λ (start : ℕ). least ≤ start) a.more a.late (i - length xs) start
      (sym (past_front xs a.more i (i - length xs) (omega (arith, past))) ∙ (ap (λ (l : List ℕ). slice_get l i) (sym a.joined) ∙ e)))
]

-- ---- steps

-- a state that comes later
pub record Later (state later : State) : Type 0 where
  pub order : length state.order ≤ length later.order
  pub starts : (number : ℕ) → Adds (length state.order) (starts_of (session_at state number)) (starts_of (session_at later number))

later_same : (state : State) → Later state state
later_same state = record { order = omega arith; starts = λ number. adds_none (length state.order) _ _ refl }

later_then : (state one two : State) → Later state one → Later one two → Later state two
later_then state one two h k = record {
  order = omega (arith, h.order, k.order);
  starts = λ number. adds_then (length state.order) (length one.order) (starts_of (session_at state number)) (starts_of (session_at one number))
      (starts_of (session_at two number)) h.order (h.starts number) (k.starts number);
}

later_moved : (state : State) (order : List Entry) (mark : Option ℕ) (number : ℕ) (session : Session) → number < length state.sessions
    → length state.order ≤ length order → Adds (length state.order) (starts_of (session_at state number)) (starts_of session)
    → Later state (moved_to state order mark number session)
later_moved state order mark number session there longer adds = record {
  order = longer;
  starts = sessions_moved (λ other one. Adds (length state.order) (starts_of (session_at state other)) (starts_of one)) state order mark number session
      there adds (λ other apart. adds_none (length state.order) _ _ refl);
}

changed_starts : (change : Open → Open) → ((current : Open) → (change current).begun.prefix ≡ current.begun.prefix) → (session : Session)
    → starts_of (with_changed change session) ≡ starts_of session
changed_starts change same session = ap (λ (l : List ℕ). map (λ (finished : Finished). finished.begun.prefix) session.done ++ l) (by_now session.now)
  where
    by_now : (now : Option Open) → now_starts (option_map change now) ≡ now_starts now
    by_now None = refl
    by_now (Some current) = ap (λ (n : ℕ). n ∷ []) (same current)

ended_starts : (ending : Ending) (done : List Finished) (now : Option Open)
    → starts_of (with_ended ending (record { done = done; now = now })) ≡ starts_of (record { done = done; now = now })
ended_starts ending done None = refl
ended_starts ending done (Some current) =
    append-nil (map (λ (finished : Finished). finished.begun.prefix) (done ++ record { begun = current.begun; ending = ending } ∷ []))
    ∙ map-append (λ (finished : Finished). finished.begun.prefix) done (record { begun = current.begun; ending = ending } ∷ [])

begun_starts : (setting : Setting) (state : State) (session : Session) → session.now ≡ None
    → Adds (length state.order) (starts_of session) (starts_of (with_open (beginning setting state) session))
begun_starts setting state session e = record {
  more = length state.order ∷ [];
  joined = ap (λ (l : List ℕ). l ++ length state.order ∷ [])
      (sym (ap (λ (now : Option Open). map (λ (finished : Finished). finished.begun.prefix) session.done ++ now_starts now) e
      ∙ append-nil (map (λ (finished : Finished). finished.begun.prefix) session.done)));
  late = (omega arith, tt);
}

order_longer : (setting : Setting) (state : State) (number : ℕ) (now : Option Open) → length state.order ≤ length (order_with setting state number now)
order_longer setting state number None = omega arith
order_longer setting state number (Some current) = omega (arith, length-append state.order (entry_of setting state number current.begun ∷ []))

turn_later : (setting : Setting) (state : State) (number : ℕ) → number < length state.sessions → (turn : Turn Write)
    → (turn ≡ Begins → (session_at state number).now ≡ None) → Later state (after_turn setting state number turn).0
turn_later setting state number there Done h = later_same state
turn_later setting state number there (Waits by) h = later_same state
turn_later setting state number there Begins h =
    later_moved state state.order state.mark number (with_open (beginning setting state) (session_at state number)) there (omega arith)
    (begun_starts setting state (session_at state number) (h refl))
turn_later setting state number there (Visits writes phase) h =
    later_moved state state.order state.mark number (with_changed (after_visit writes phase) (session_at state number)) there (omega arith)
    (adds_none (length state.order) _ _ (changed_starts (after_visit writes phase) (λ current. refl) (session_at state number)))
turn_later setting state number there (Answers writes reply took records) h =
    later_moved state state.order state.mark number (with_changed (after_answer writes reply took records) (session_at state number)) there (omega arith)
    (adds_none (length state.order) _ _ (changed_starts (after_answer writes reply took records) (λ current. refl) (session_at state number)))
turn_later setting state number there (Saves statement reply) h =
    later_moved state state.order state.mark number (with_changed (after_saving statement reply) (session_at state number)) there (omega arith)
    (adds_none (length state.order) _ _ (changed_starts (after_saving statement reply) (λ current. refl) (session_at state number)))
turn_later setting state number there Enters h =
    later_moved state (order_with setting state number (session_at state number).now) (Some number) number
    (with_changed (after_visit [] (Stamping 0)) (session_at state number)) there (order_longer setting state number (session_at state number).now)
    (adds_none (length state.order) _ _ (changed_starts (after_visit [] (Stamping 0)) (λ current. refl) (session_at state number)))
turn_later setting state number there (Ends ending) h =
    later_moved state state.order None number (with_ended ending (session_at state number)) there (omega arith)
    (adds_none (length state.order) _ _ (ended_starts ending (session_at state number).done (session_at state number).now))

never_begins : (setting : Setting) (state : State) (number : ℕ) (current : Open) (turn : Turn Write) → FitsTurn setting state number current.begun turn
    → turn ≡ Begins → ⊥
never_begins setting state number current turn h e = subst (FitsTurn setting state number current.begun) e h

pub begins_fresh : (setting : Setting) (state : State) (number : ℕ) (txn : Txn) → Fits setting state
    → txn_at setting number (session_at state number) ≡ Some txn
    → (now : Option Open) → (session_at state number).now ≡ now → session_turn setting state number (Some txn) now ≡ Begins → now ≡ None
begins_fresh setting state number txn fits e None is b = refl
begins_fresh setting state number txn fits e (Some current) is b =
    let present : OpenFits setting state.order state.mark number (session_at state number).done current =
    subst (NowFits setting state.order state.mark number (session_at state number).done) is (fits.sessions number).now in
    absurd (never_begins setting state number current (phase_turn setting state number txn current.begun current.phase)
    (phase_fits setting state fits number txn current.begun e present.above present.records current.phase present.phase
    (λ m. subst NowStamps is (fits.marked number m))) b)

by_txn : (setting : Setting) (state : State) (number : ℕ) → Fits setting state → (txn : Option Txn) → txn_at setting number (session_at state number) ≡ txn
    → Later state (after_turn setting state number (session_turn setting state number txn (session_at state number).now)).0
by_txn setting state number fits None e = later_same state
by_txn setting state number fits (Some txn) e =
    turn_later setting state number (is_there setting state number txn fits e) (session_turn setting state number (Some txn) (session_at state number).now)
    (begins_fresh setting state number txn fits e (session_at state number).now refl)

pub step_later : (setting : Setting) (state : State) (number : ℕ) → Fits setting state → Later state (step_of setting state number).0
step_later setting state number fits = by_txn setting state number fits (txn_at setting number (session_at state number)) refl

pub steps_later : (setting : Setting) (state : State) (numbers : List ℕ) → Fits setting state → Later state (after_steps setting state numbers)
steps_later setting state [] fits = later_same state
steps_later setting state (number ∷ numbers) fits =
    later_then state (step_of setting state number).0 (after_steps setting state (number ∷ numbers)) (step_later setting state number fits)
    (steps_later setting (step_of setting state number).0 numbers (step_fits setting state number fits))
