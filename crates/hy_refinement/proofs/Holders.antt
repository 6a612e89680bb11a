-- Who holds a position: sessions of the machine, and the same in the engine.
use Rattle.std.proofs.Common.{◌≡◌, ◌⊎◌, ℕ, zero, suc, ◌+◌, ◌-◌, ◌≤◌, List, [], ◌∷◌, length, get_or, Option, None, Some, Bool, true, false}
use Rattle.std.proofs.Common.{not, refl, sym, ap, ◌∙◌, subst, arith, inl, inr, cond}
use Rattle.std.specs.Prelude.{slice_get, ◌&&◌, ◌==◌}
use Rattle.std.proofs.lemmas.Bool.{cases_Bool, cases_eq, cases_lt, ne_eqb, eq-eqb}
use Rattle.std.proofs.lemmas.Option.{same_Some, slice_get_within, slice_get-get_or}
use Rattle.hy_stamp.specs.declared.Label.{Label}
use Rattle.hy_render.specs.declared.TxnOutcome.{TxnOutcome}
use Rattle.hy_journal.specs.declared.CoreData.{CoreData}
use Rattle.hy_event.specs.declared.SessionData.{SessionData}
use Rattle.hy_event.specs.declared.Open.{Open}
use Rattle.hy_event.specs.Sessions.{label_of as label_here}
use Rattle.hy_machine.specs.declared.Setting.{Setting}
use Rattle.hy_machine.specs.States.{State, Session, Finished, Open as MachineOpen}
use Rattle.hy_machine.specs.Sessions.{fresh, session_at, label_of}
use Rattle.hy_machine.specs.Holding.{holds, holder_from}
use Rattle.hy_machine.specs.Outcomes.{outcomes_from}
use Rattle.hy_refinement.specs.Stamped.{HasNotStamped, is_unstamped, entries_counted}
use Rattle.hy_refinement.specs.Transactions.{IsOpen}
use Rattle.hy_refinement.specs.Sessions.{NowShows, SessionShows}
use Rattle.hy_refinement.specs.Shows.{SessionsShow}
use Rattle.hy_machine.specs.Kept.{Fits}

-- ---- holders

-- nobody but a session holds a position, or this one does
pub data Holder (setting : Setting) (number table pos first : ℕ) (sessions : List Session) (found : Option Label) : Type 0 where
  nobody : found ≡ None
      → ((k : ℕ) (session : Session) → slice_get sessions k ≡ Some session → (first + k ≡ number → ⊥) → holds setting table pos session.now ≡ false)
      → Holder setting number table pos first sessions found
  somebody : (k : ℕ) (session : Session) → slice_get sessions k ≡ Some session → (first + k ≡ number → ⊥) → holds setting table pos session.now ≡ true
      → found ≡ Some (label_of (first + k) session) → Holder setting number table pos first sessions found

both_true : (x y : Bool) → x ≡ false → y ≡ true → (not x && y) ≡ true
both_true true y e f = absurd cc
both_true false y e f = f

second_false : (x y : Bool) → (not x && y) ≡ false → x ≡ false → y ≡ false
second_false true y e f = absurd cc
second_false false y e f = e

pub holder_cases : (setting : Setting) (number table pos first : ℕ) (sessions : List Session)
    → Holder setting number table pos first sessions (holder_from setting number table pos first sessions)
holder_cases setting number table pos first [] = nobody refl (λ k session e. absurd cc)
holder_cases setting number table pos first (session ∷ sessions) =
    elim (cases_Bool (not (first == number) && holds setting table pos session.now)) [
      | inl here ↦
          let found : holder_from setting number table pos first (session ∷ sessions) ≡ Some (label_of first session) =
          ap (λ (b : Bool). cond b (Some (label_of first session)) (holder_from setting number table pos (suc first) sessions)) here in
          elim (cases_eq first number) [
            | inl same ↦ absurd (let f : (not (first == number) && holds setting table pos session.now) ≡ false = left_is same in let g = sym here ∙ f in cc)
            | inr apart ↦ somebody zero session refl (λ e. apart (omega (arith, e)))
                (held_here apart here)
                (found ∙ ap (λ (n : ℕ). Some (label_of n session)) (let e : first ≡ first + zero = omega arith in e))
          ]
      | inr not_here ↦
          later (ap (λ (b : Bool). cond b (Some (label_of first session)) (holder_from setting number table pos (suc first) sessions)) not_here) not_here
          (holder_cases setting number table pos (suc first) sessions)
    ]
  where
    left_is : first ≡ number → (not (first == number) && holds setting table pos session.now) ≡ false
    left_is same = ap (λ (b : Bool). not b && holds setting table pos session.now) (eq-eqb first number same)

    held_here : (first ≡ number → ⊥) → (not (first == number) && holds setting table pos session.now) ≡ true → holds setting table pos session.now ≡ true
    held_here apart e = sym (ap (λ (b : Bool). not b && holds setting table pos session.now) (ne_eqb first number apart)) ∙ e

    later : holder_from setting number table pos first (session ∷ sessions) ≡ holder_from setting number table pos (suc first) sessions
        → (not (first == number) && holds setting table pos session.now) ≡ false
        → Holder setting number table pos (suc first) sessions (holder_from setting number table pos (suc first) sessions)
        → Holder setting number table pos first (session ∷ sessions) (holder_from setting number table pos first (session ∷ sessions))
    later e not_here (nobody none all) = nobody (e ∙ none) quiet
      where
        quiet : (k : ℕ) (other : Session) → slice_get (session ∷ sessions) k ≡ Some other → (first + k ≡ number → ⊥)
            → holds setting table pos other.now ≡ false
        quiet zero other g apart =
            subst (λ (one : Session). holds setting table pos one.now ≡ false) (same_Some session other g)
            (second_false (first == number) (holds setting table pos session.now) not_here (ne_eqb first number (λ s. apart (omega (arith, s)))))
        quiet (suc k) other g apart = all k other g (λ s. apart (omega (arith, s)))
    later e not_here (somebody k other g apart held found) =
        somebody (suc k) other g (λ s. apart (omega (arith, s))) held
        (e ∙ (found ∙ ap (λ (n : ℕ). Some (label_of n other)) (let s : suc first + k ≡ first + suc k = omega arith in s)))

-- ---- sessions

-- a session that holds a position has an open transaction
pub holder_open : (setting : Setting) (table pos : ℕ) (now : Option MachineOpen) → holds setting table pos now ≡ true → (current : MachineOpen) × (now ≡ Some current)
holder_open setting table pos None e = absurd cc
holder_open setting table pos (Some current) e = (current, refl)

-- a session with an open transaction is there
pub is_there : (state : State) (number : ℕ) (current : MachineOpen) → (session_at state number).now ≡ Some current
    → slice_get state.sessions number ≡ Some (session_at state number)
is_there state number current e = elim (cases_lt number (length state.sessions)) [
  | inl below ↦ slice_get-get_or state.sessions number fresh below
  | inr past ↦
      absurd (let f : None ≡ Some current = sym (ap (λ (one : Session). one.now) (get_or_past state.sessions number past)) ∙ e in cc)
]
  where
    get_or_past : (sessions : List Session) (number : ℕ) → length sessions ≤ number → get_or sessions number fresh ≡ fresh
    get_or_past [] number past = refl
    get_or_past (session ∷ sessions) zero past = absurd (omega (arith, past))
    get_or_past (session ∷ sessions) (suc number) past = get_or_past sessions number (omega (arith, past))

-- the machine's open transactions are the engine's
pub record Opened (state : State) (sessions : List SessionData) (number : ℕ) (current : MachineOpen) : Type 0 where
  pub session : SessionData
  pub now : Open
  pub is_open : IsOpen state sessions number session now current

pub opened : (setting : Setting) (state : State) (core : CoreData) (sessions : List SessionData) (number : ℕ) (current : MachineOpen)
    → Fits setting state → SessionsShow setting state core sessions → (session_at state number).now ≡ Some current → Opened state sessions number current
opened setting state core sessions number current fits shows e =
    let within = slice_get_within state.sessions number (session_at state number) (is_there state number current e) in
    let count = fits.count in
    let same = shows.count in
    let nobody_here : SessionData = record { number = 0; program = []; shapes = []; chunks = 0; rows = 0; prunes = false; done = []; now = None } in
    let session : SessionData = get_or sessions number nobody_here in
    let found : slice_get sessions number ≡ Some session = slice_get-get_or sessions number nobody_here (omega (arith, within, count, same)) in
    by_now session found session.now refl
    (subst (λ (there : Option MachineOpen). NowShows setting state core number session.now there) e (shows.each number session found).now_shows)
  where
    by_now : (session : SessionData) → slice_get sessions number ≡ Some session → (now : Option Open) → session.now ≡ now
        → NowShows setting state core number now (Some current)
        → Opened state sessions number current
    by_now session found None is n = absurd n
    by_now session found (Some now) is n = record { session = session; now = now; is_open = record { found = found; open_here = is; open_there = e } }

pub outcomes_length : (setting : Setting) (number before : ℕ) (done : List Finished) → length (outcomes_from setting number before done) ≡ length done
outcomes_length setting number before [] = refl
outcomes_length setting number before (finished ∷ done) = let e = outcomes_length setting number (suc before) done in omega (arith, e)

-- a session's label is the machine's
pub same_label : (setting : Setting) (state : State) (core : CoreData) (number : ℕ) (session : SessionData) → SessionShows setting state core number session
    → label_here session ≡ label_of number (session_at state number)
same_label setting state core number session shows =
    let n = shows.session_is.number_is in
    let d : length session.done ≡ length (session_at state number).done =
    ap (λ (done : List TxnOutcome). length done) shows.done_shows ∙ outcomes_length setting number 0 (session_at state number).done in
    label_by session.number number (length session.done) (length (session_at state number).done) n d
  where
    label_by : (a b c d : ℕ) → a ≡ b → c ≡ d → ◌≡◌ {A = Label} (record { session = a; txn = suc c }) (record { session = b; txn = suc d })
    label_by a b c d e f = cc

-- ---- the marked session

-- a session has not stamped a chunk, or it is marked and all entries count there
pub stamped_or_not : (setting : Setting) (state : State) (number table chunk : ℕ)
    → HasNotStamped setting state number table chunk ⊎ ((state.mark ≡ Some number) × (entries_counted setting state table chunk ≡ length state.order))
stamped_or_not setting state number table chunk = elim (cases_Bool (is_unstamped setting state table chunk)) [
  | inl un ↦ inl (inr un)
  | inr st ↦ by_mark state.mark refl st
]
  where
    by_mark : (mark : Option ℕ) → state.mark ≡ mark → is_unstamped setting state table chunk ≡ false
        → HasNotStamped setting state number table chunk ⊎ ((state.mark ≡ Some number) × (entries_counted setting state table chunk ≡ length state.order))
    by_mark None e st = inl (inl (λ f. absurd (let g : None ≡ Some number = sym e ∙ f in cc)))
    by_mark (Some marked) e st = elim (cases_eq marked number) [
      | inr apart ↦ inl (inl (λ f. apart (same_Some marked number (sym e ∙ f))))
      | inl same ↦ inr (e ∙ ap (λ (n : ℕ). Some n) same, ap (λ (b : Bool). cond b (length state.order - 1) (length state.order)) st)
    ]
