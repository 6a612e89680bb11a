-- After a run every session has ended.
use Rattle.std.proofs.Common.{◌≡◌, ◌⊎◌, ℕ, ◌+◌, ◌<◌, ◌≤◌, List, [], ◌∷◌, length, drop, get_or, refl, ap, ◌∙◌, sym, arith, zero, suc, Option, None, Some, Bool, true, false, cond, inl, inr, subst}
use Rattle.std.proofs.Math.ListN.{set}
use Rattle.std.specs.Prelude.{slice_get}
use Rattle.std.proofs.lemmas.Bool.{cases_Bool, cases_lt, cases_eq, eq-eqb, and_from, both_ways}
use Rattle.std.proofs.lemmas.List.{length-map, get_or-set_same, get_or_past, set-get_or}
use Rattle.hy_bound.specs.declared.Txn.{Txn}
use Rattle.hy_stamp.specs.declared.Label.{Label}
use Rattle.hy_machine.specs.Writes.{Write}
use Rattle.hy_machine.specs.declared.Setting.{Setting}
use Rattle.hy_protocol.specs.declared.Phase.{Phase}
use Rattle.hy_protocol.specs.declared.Phase.TheVariants.{Stamping}
use Rattle.hy_machine.specs.States.{State, Session, Finished, Open}
use Rattle.hy_protocol.specs.Turns.{Turn, Done, Waits, Begins, Visits, Answers, Saves, Enters, Ends, unless_blocked, is_stamping}
use Rattle.hy_machine.specs.Turns.{turn, phase_turn, session_turn}
use Rattle.hy_machine.specs.Sessions.{fresh, session_at, program_of, txn_at, has_ended, blocker_of, blocker}
use Rattle.hy_machine.specs.Steps.{after_turn, step_of, with_open, beginning, after_visit, after_answer, after_saving, with_changed, with_ended}
use Rattle.hy_machine.specs.Measures.{later_left, txns_left, steps_left, all_left, measure_of}
use Rattle.hy_machine.specs.Runs.{is_moved, moves, whole_of, round_from, round_of, all_ended_from, repeated, opening_of, items_of, RunsEnd}
use Rattle.hy_machine.proofs.Falls.{IsActing, phase_falls, drop_at, left_is, session_set, whole_first}
use Rattle.hy_machine.proofs.Marks.{IsKept, Follows, Fits, is_marked, has_entered, phase_follows, has_script, kept_step, kept_opening, kept_steps}
use Rattle.hy_machine.proofs.Reached.{IsAfter, whole_is_after, items_after, round_after}

-- ---- what one turn does to the steps that are left

-- a turn that leaves the state as it is
abbrev pub IsIdle : Turn Write → Type 0
IsIdle Done = Unit {0}
IsIdle (Waits by) = Unit {0}
IsIdle Begins = ⊥
IsIdle (Visits writes phase) = ⊥
IsIdle (Answers writes reply took records) = ⊥
IsIdle (Saves statement reply) = ⊥
IsIdle Enters = ⊥
IsIdle (Ends how) = ⊥

idle_stays : (setting : Setting) (state : State) (number : ℕ) (turn : Turn Write) → IsIdle turn
    → ((after_turn setting state number turn).0 ≡ state) × (is_moved (after_turn setting state number turn).1 ≡ false)
idle_stays setting state number Done i = (refl, refl)
idle_stays setting state number (Waits by) i = (refl, refl)
idle_stays setting state number Begins i = absurd i
idle_stays setting state number (Visits writes phase) i = absurd i
idle_stays setting state number (Answers writes reply took records) i = absurd i
idle_stays setting state number (Saves statement reply) i = absurd i
idle_stays setting state number Enters i = absurd i
idle_stays setting state number (Ends how) i = absurd i

idle_or_acting : (by : Option Label) (phase : Phase) (turn : Turn Write) → Follows by phase turn → IsIdle turn ⊎ IsActing turn
idle_or_acting by phase Done f = absurd f
idle_or_acting by phase (Waits other) f = inl tt
idle_or_acting by phase Begins f = absurd f
idle_or_acting by phase (Visits writes next) f = inr tt
idle_or_acting by phase (Answers writes reply took records) f = inr tt
idle_or_acting by phase (Saves statement reply) f = inr tt
idle_or_acting by phase Enters f = inr tt
idle_or_acting by phase (Ends how) f = inr tt

-- the steps that a session has left after a turn
abbrev left_then : Setting → State → ℕ → Turn Write → ℕ
left_then setting state number turn = steps_left setting number (session_at (after_turn setting state number turn).0 number)

-- the steps that a session with this open transaction has left, so many having ended
abbrev left_of : Setting → ℕ → Option Open → List Finished → ℕ
left_of setting number now done = txns_left setting now (drop (length done) (program_of setting number))

begin_falls : (setting : Setting) (state : State) (number : ℕ) (done : List Finished) (txn : Txn) (txns : List Txn) → number < length state.sessions
    → session_at state number ≡ record { done = done; now = None } → drop (length done) (program_of setting number) ≡ txn ∷ txns
    → left_then setting state number Begins < left_of setting number None done
begin_falls setting state number done txn txns l s d =
    let opened : Session → Session = with_open (beginning setting state) in
    let after : left_then setting state number Begins ≡ left_of setting number (opened (record { done = done; now = None })).now done =
    ap (steps_left setting number) (session_set state number (opened (session_at state number)) l ∙ ap opened s) in
    rw (after, d) (simp length-map (omega arith))

turn_falls : (setting : Setting) (state : State) (number : ℕ) (done : List Finished) (now : Option Open) (txn : Option Txn) → IsKept setting state
    → session_at state number ≡ record { done = done; now = now }
    → slice_get (program_of setting number) (length done) ≡ txn
    → IsIdle (session_turn setting state number txn now) ⊎ ((number < length state.sessions)
    × (left_then setting state number (session_turn setting state number txn now) < left_of setting number now done))
turn_falls setting state number done now None k s t = inl tt
turn_falls setting state number done None (Some txn) k s t = by_blocker (blocker state number)
  where
    by_blocker : (by : Option Label) → IsIdle (unless_blocked by Begins) ⊎ ((number < length state.sessions)
        × (left_then setting state number (unless_blocked by Begins) < left_of setting number None done))
    by_blocker None =
        let l = has_script setting state number done txn k t in
        inr (
          l,
          begin_falls setting state number done txn (drop (suc (length done)) (program_of setting number)) l s
              (drop_at (program_of setting number) (length done) txn t),
        )
    by_blocker (Some by) = inl tt
turn_falls setting state number done (Some current) (Some txn) k s t =
    let turn = phase_turn setting state number txn current.begun current.phase in
    let l = has_script setting state number done txn k t in
    let d = drop_at (program_of setting number) (length done) txn t in
    elim (idle_or_acting (blocker state number) current.phase turn (phase_follows setting state number txn current.begun current.phase)) [
      | inl i ↦ inl i
      | inr a ↦ inr (
        l,
        rw (left_is setting state number done current txn (drop (suc (length done)) (program_of setting number)) turn l s d a, d)
            (phase_falls setting state number txn current.begun current.phase (later_left setting (drop (suc (length done)) (program_of setting number))) a),
      )
    ]

-- ---- what one step does to the measure

-- the sessions' measure where one of them is put in the place of another one
all_left_set : (setting : Setting) (first i number : ℕ) (sessions : List Session) (session : Session) → number ≡ first + i → i < length sessions
    → all_left setting first (set sessions i session) + steps_left setting number (get_or sessions i fresh)
    ≡ all_left setting first sessions + steps_left setting number session
all_left_set setting first i number [] session e l = absurd (omega (arith, l))
all_left_set setting first zero number (one ∷ sessions) session e l =
    let here : number ≡ first = omega arith in
    rw here (omega arith)
all_left_set setting first (suc i) number (one ∷ sessions) session e l =
    omega (arith, all_left_set setting (suc first) i number sessions session (omega arith) (omega arith))

-- a turn puts one session in the place of another one
put_by : (setting : Setting) (state : State) (number : ℕ) (turn : Turn Write)
    → (session : Session) × ((after_turn setting state number turn).0.sessions ≡ set state.sessions number session)
put_by setting state number Done = (session_at state number, sym (set-get_or state.sessions number fresh))
put_by setting state number (Waits by) = (session_at state number, sym (set-get_or state.sessions number fresh))
put_by setting state number Begins = (with_open (beginning setting state) (session_at state number), refl)
put_by setting state number (Visits writes phase) = (with_changed (after_visit writes phase) (session_at state number), refl)
put_by setting state number (Answers writes reply took records) = (with_changed (after_answer writes reply took records) (session_at state number), refl)
put_by setting state number (Saves statement reply) = (with_changed (after_saving statement reply) (session_at state number), refl)
put_by setting state number Enters = (with_changed (after_visit [] (Stamping 0)) (session_at state number), refl)
put_by setting state number (Ends how) = (with_ended how (session_at state number), refl)

measure_falls : (setting : Setting) (state next : State) (number : ℕ) (session : Session) → number < length state.sessions
    → next.sessions ≡ set state.sessions number session
    → steps_left setting number (session_at next number) < steps_left setting number (session_at state number)
    → measure_of setting next < measure_of setting state
measure_falls setting state next number session l s f =
    let here : session_at next number ≡ session =
    ap (λ (sessions : List Session). get_or sessions number fresh) s ∙ get_or-set_same state.sessions number session fresh l in
    let less : steps_left setting number session < steps_left setting number (session_at state number) = rw here at f in
    rw s (omega (arith, less, all_left_set setting 0 number number state.sessions session (omega arith) l))

-- the state stays as it is, whereby this holds, or fewer steps are left
abbrev pub StaysOrFalls : Setting → State → Type 0 → State → Type 0
StaysOrFalls setting state Idle next = ((next ≡ state) × Idle) ⊎ (measure_of setting next < measure_of setting state)

no_more : (setting : Setting) (state next : State) (Idle : Type 0) → StaysOrFalls setting state Idle next → measure_of setting next ≤ measure_of setting state
no_more setting state next Idle (inl stays) = rw stays.0 (omega arith)
no_more setting state next Idle (inr falls) = omega (arith, falls)

pub step_falls_or_idles : (setting : Setting) (state : State) (number : ℕ) → IsKept setting state
    → StaysOrFalls setting state (IsIdle (turn setting state number)) (step_of setting state number).0
step_falls_or_idles setting state number k =
    let one = session_at state number in
    let put = put_by setting state number (turn setting state number) in
    elim (turn_falls setting state number one.done one.now (txn_at setting number one) k refl refl) [
      | inl i ↦ inl ((idle_stays setting state number (turn setting state number) i).0, i)
      | inr falls ↦ inr (measure_falls setting state (step_of setting state number).0 number put.0 falls.0 put.1 falls.1)
    ]

-- ---- what whole statements and rounds do to the measure

moves_no_more : (most : ℕ) (setting : Setting) (state : State) (number : ℕ) → IsKept setting state
    → measure_of setting (moves most setting state number) ≤ measure_of setting state
unfolding moves
moves_no_more zero setting state number k = omega arith
moves_no_more (suc most) setting state number k =
    let next = (step_of setting state number).0 in
    let one : measure_of setting next ≤ measure_of setting state =
    no_more setting state next (IsIdle (turn setting state number)) (step_falls_or_idles setting state number k) in
    elim (cases_Bool (is_moved (step_of setting state number).1)) [
      | inl t ↦ rw t (omega (arith, one, moves_no_more most setting next number (kept_step setting state number k)))
      | inr f ↦ rw f one
    ]

whole_falls_or_idles : (setting : Setting) (state : State) (number : ℕ) → IsKept setting state
    → StaysOrFalls setting state (IsIdle (turn setting state number)) (whole_of setting state number)
whole_falls_or_idles setting state number k = elim (cases_Bool (is_moved (step_of setting state number).1)) [
  | inl t ↦ subst (StaysOrFalls setting state Idle) (sym (first ∙ ap choice t)) (moving t (step_falls_or_idles setting state number k))
  | inr f ↦ subst (StaysOrFalls setting state Idle) (sym (first ∙ ap choice f)) (step_falls_or_idles setting state number k)
]
  where
    Idle : Type 0
    Idle = IsIdle (turn setting state number)

    next : State
    next = (step_of setting state number).0

    choice : Bool → State
    choice b = cond b (whole_of setting next number) next

    first : whole_of setting state number ≡ cond (is_moved (step_of setting state number).1) (whole_of setting next number) next
    first = whole_first setting state number

    moving : is_moved (step_of setting state number).1 ≡ true → StaysOrFalls setting state Idle next
        → StaysOrFalls setting state Idle (whole_of setting next number)
    moving t (inl stays) =
        absurd (both_ways (is_moved (step_of setting state number).1) (idle_stays setting state number (turn setting state number) stays.1).1 t)
    moving t (inr falls) =
        inr (omega (arith, falls, moves_no_more (steps_left setting number (session_at next number)) setting next number (kept_step setting state number k)))

kept_after : (setting : Setting) (from state : State) → IsKept setting from → IsAfter setting from state → IsKept setting state
unfolding IsAfter
kept_after setting from state k after = subst (IsKept setting) (sym after.1) (kept_steps setting from after.0 k)

-- each of so many sessions idles, the first of them having this number
abbrev pub AllIdle : Setting → State → ℕ → ℕ → Type 0
AllIdle setting state first left = (number : ℕ) → first ≤ number → number < first + left → IsIdle (turn setting state number)

round_falls_or_idles : (left : ℕ) (setting : Setting) (state : State) (first : ℕ) → IsKept setting state
    → StaysOrFalls setting state (AllIdle setting state first left) (round_from setting state first left)
round_falls_or_idles zero setting state first k = inl (refl, λ number a b. absurd (omega (arith, a, b)))
round_falls_or_idles (suc left) setting state first k = elim (whole_falls_or_idles setting state first k) [
  | inl stays ↦
      let P : State → Type 0 = λ next. StaysOrFalls setting state (AllIdle setting state first (suc left)) (round_from setting next (suc first) left) in
      subst P (sym stays.0) (others stays.1 (round_falls_or_idles left setting state (suc first) k))
  | inr falls ↦
      let next = whole_of setting state first in
      let rest = round_falls_or_idles left setting next (suc first) (kept_after setting state next k (whole_is_after setting state first)) in
      inr (omega (arith, falls, no_more setting next (round_from setting next (suc first) left) (AllIdle setting next (suc first) left) rest))
]
  where
    others : IsIdle (turn setting state first) → StaysOrFalls setting state (AllIdle setting state (suc first) left) (round_from setting state (suc first) left)
        → StaysOrFalls setting state (AllIdle setting state first (suc left)) (round_from setting state (suc first) left)
    others i (inl stays) = inl (
      stays.0,
      λ number a b. elim (cases_eq number first) [
        | inl e ↦ rw e i
        | inr n ↦ stays.1 number (omega (arith, a, n)) (omega (arith, b))
      ],
    )
    others i (inr falls) = inr falls

-- ---- where all sessions idle, all have ended

past_end : {A : Type 0} (xs : List A) (n : ℕ) → slice_get xs n ≡ None → length xs ≤ n
past_end [] n e = omega arith
past_end (x ∷ xs) zero e = absurd (cc e)
past_end (x ∷ xs) (suc n) e = omega (arith, past_end xs n e)

fits_most : (now : Option Open) (done most : ℕ) → Fits now done most → done ≤ most
fits_most None done most f = f
fits_most (Some current) done most f = omega (arith, f)

waits_why : (by : Option Label) (phase : Phase) (turn : Turn Write) → Follows by phase turn → IsIdle turn → (by ≡ None → ⊥) × (is_stamping phase ≡ false)
waits_why by phase (Waits other) f i = ((λ e. absurd (cc (f.0, e))), f.1)
waits_why by phase Done f i = absurd f
waits_why by phase Begins f i = absurd i
waits_why by phase (Visits writes next) f i = absurd i
waits_why by phase (Answers writes reply took records) f i = absurd i
waits_why by phase (Saves statement reply) f i = absurd i
waits_why by phase Enters f i = absurd i
waits_why by phase (Ends how) f i = absurd i

-- a session idles at the end of its script, or where another session blocks it and it isn't marked itself
idle_why : (setting : Setting) (state : State) (number : ℕ) (now : Option Open) (txn : Option Txn) → IsIdle (session_turn setting state number txn now)
    → (txn ≡ None) ⊎ ((blocker state number ≡ None → ⊥) × (has_entered now ≡ false))
idle_why setting state number now None i = inl refl
idle_why setting state number None (Some txn) i = inr (by_blocker (blocker state number) i)
  where
    by_blocker : (by : Option Label) → IsIdle (unless_blocked by Begins) → (by ≡ None → ⊥) × (false ≡ false)
    by_blocker None i = absurd i
    by_blocker (Some by) i = ((λ e. absurd (cc e)), refl)
idle_why setting state number (Some current) (Some txn) i =
    inr (waits_why (blocker state number) current.phase (phase_turn setting state number txn current.begun current.phase)
    (phase_follows setting state number txn current.begun current.phase) i)

-- the marked session doesn't idle
marked_acts : (setting : Setting) (number : ℕ) (state : State) (now : Option Open) (done : List Finished)
    → Fits now (length done) (length (program_of setting number)) → has_entered now ≡ true
    → IsIdle (session_turn setting state number (slice_get (program_of setting number) (length done)) now) → ⊥
marked_acts setting number state None done w m i = absurd (cc m)
marked_acts setting number state (Some current) done w m i =
    elim (idle_why setting state number (Some current) (slice_get (program_of setting number) (length done)) i) [
      | inl e ↦ absurd (omega (arith, w, past_end (program_of setting number) (length done) e))
      | inr why ↦ absurd (both_ways (is_stamping current.phase) why.1 m)
    ]

none_of : (mark : Option ℕ) → ((number : ℕ) → is_marked mark number ≡ true → ⊥) → mark ≡ None
none_of None h = refl
none_of (Some marked) h = absurd (h marked (eq-eqb marked marked refl))

each_ended : (setting : Setting) (first : ℕ) (sessions : List Session)
    → ((number i : ℕ) → number ≡ first + i → i < length sessions → has_ended setting number (get_or sessions i fresh) ≡ true)
    → all_ended_from setting first sessions ≡ true
each_ended setting first [] h = refl
each_ended setting first (session ∷ sessions) h =
    and_from (has_ended setting first session) (all_ended_from setting (suc first) sessions) (h first 0 (omega arith) (omega arith))
    (each_ended setting (suc first) sessions (λ number i e l. h number (suc i) (omega (arith, e)) (omega (arith, l))))

idle_ended : (setting : Setting) (state : State) → IsKept setting state → AllIdle setting state 0 (length state.sessions)
    → all_ended_from setting 0 state.sessions ≡ true
idle_ended setting state k idle = each_ended setting 0 state.sessions (λ number i e l.
    let same : number ≡ i = omega arith in
    rw same (ended i l))
  where
    entered_within : (number : ℕ) → has_entered (session_at state number).now ≡ true → number < length state.sessions
    entered_within number m = elim (cases_lt number (length state.sessions)) [
      | inl l ↦ l
      | inr ge ↦
          let none = rw (get_or_past state.sessions number fresh ge) at m in
          absurd (cc none)
    ]

    unmarked : state.mark ≡ None
    unmarked = none_of state.mark (λ number m.
        let e : has_entered (session_at state number).now ≡ true = k.marks number ∙ m in
        let one = session_at state number in
        marked_acts setting number state one.now one.done (k.within number) e (idle number (omega arith) (omega (arith, entered_within number e))))

    at_end : (number : ℕ) (session : Session) → txn_at setting number session ≡ None
        → Fits session.now (length session.done) (length (program_of setting number))
        → has_ended setting number session ≡ true
    at_end number session e w =
        let most = length (program_of setting number) in
        let all : length session.done ≡ most =
        omega (arith, past_end (program_of setting number) (length session.done) e, fits_most session.now (length session.done) most w) in
        eq-eqb (length session.done) most all

    ended : (number : ℕ) → number < length state.sessions → has_ended setting number (session_at state number) ≡ true
    ended number l =
        let one = session_at state number in
        elim (idle_why setting state number one.now (txn_at setting number one) (idle number (omega arith) (omega arith))) [
          | inl e ↦ at_end number one e (k.within number)
          | inr why ↦ absurd (why.0 (ap (blocker_of state number) unmarked))
        ]

-- ---- rounds

repeated_ends : (most : ℕ) (setting : Setting) (state : State) → IsKept setting state → measure_of setting state ≤ most
    → all_ended_from setting 0 (repeated most setting state).sessions ≡ true
unfolding repeated
repeated_ends zero setting state k h = elim (round_falls_or_idles (length state.sessions) setting state 0 k) [
  | inl stays ↦ idle_ended setting state k stays.1
  | inr falls ↦ absurd (omega (arith, falls, h))
]
repeated_ends (suc most) setting state k h = elim (cases_Bool (all_ended_from setting 0 state.sessions)) [
  | inl t ↦ rw t t
  | inr f ↦ rw f (elim (round_falls_or_idles (length state.sessions) setting state 0 k) [
    | inl stays ↦ absurd (both_ways (all_ended_from setting 0 state.sessions) f (idle_ended setting state k stays.1))
    | inr falls ↦
        let kept = kept_after setting state (round_of setting state) k (round_after setting state 0 (length state.sessions)) in
        repeated_ends most setting (round_of setting state) kept (omega (arith, falls, h))
  ])
]

pub runs_end : RunsEnd
runs_end setting items =
    let scheduled = items_of setting (opening_of setting) items in
    let kept = kept_after setting (opening_of setting) scheduled (kept_opening setting) (items_after setting (opening_of setting) items) in
    repeated_ends (measure_of setting scheduled) setting scheduled kept (omega arith)
