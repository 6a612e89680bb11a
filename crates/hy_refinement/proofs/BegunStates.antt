-- The state and the sessions after a BEGIN.
use Rattle.std.proofs.Common.{◌≡◌, ◌≢◌, ℕ, zero, suc, ◌+◌, ◌<◌, List, [], ◌∷◌, length, map, drop, get_or, replicate, Option, None, Some, Bool, false}
use Rattle.std.proofs.Common.{refl, sym, ap, ◌∙◌, arith, inl, inr, is_some}
use Rattle.std.specs.Prelude.{slice_get, sum_by, ◌||◌}
use Rattle.std.specs.List.{list_any}
use Rattle.std.proofs.Math.ListN.{set}
use Rattle.std.proofs.lemmas.Bool.{cases_eq, and_left}
use Rattle.std.proofs.lemmas.List.{get_or-set_same, get_or-set_other}
use Rattle.std.proofs.lemmas.List.Sums.{sum_by-cons}
use Rattle.std.proofs.lemmas.Option.{same_Some, slice_get_within, slice_get-get_or}
use Rattle.hy_value.specs.declared.Value.{Value}
use Rattle.hy_journal.specs.declared.CoreData.{CoreData}
use Rattle.hy_event.specs.declared.SessionData.{SessionData}
use Rattle.hy_event.specs.declared.Open.{Open}
use Rattle.hy_event.specs.Turns.{beginning}
use Rattle.hy_machine.specs.declared.Setting.{Setting}
use Rattle.hy_protocol.specs.declared.Phase.TheVariants.{Working}
use Rattle.hy_machine.specs.States.{State, Session, Open as MachineOpen}
use Rattle.hy_machine.specs.Positions.{item_at}
use Rattle.hy_machine.specs.Tables.{capacity, chunk_of}
use Rattle.hy_machine.specs.Writes.{blank_own, written_chunks, is_among}
use Rattle.hy_machine.specs.Sessions.{session_at, fresh}
use Rattle.hy_machine.specs.Holding.{holds, undone}
use Rattle.hy_machine.specs.Steps.{beginning as beginning_there, with_session, with_open}
use Rattle.hy_machine.specs.Kept.{Fits}
use Rattle.hy_machine.specs.Begun.{count_open, count_begun}
use Rattle.hy_refinement.specs.Transactions.{IsOpen}
use Rattle.hy_refinement.specs.Frames.{went_on, sessions_on}
use Rattle.hy_refinement.specs.Shows.{SessionsShow}
use Rattle.hy_refinement.proofs.FramesLists.{got_set, got_other}

-- ---- the transaction

-- the machine's, as it begins
abbrev pub begun_there : Setting → State → MachineOpen
begun_there setting state = record { begun = beginning_there setting state; phase = Working 0 0 }

-- the state after it began
abbrev pub begun_state : Setting → State → ℕ → State
begun_state setting state number = with_session state number (with_open (beginning_there setting state) (session_at state number))

-- ---- it wrote nothing yet

blank_item : {A : Type 0} (none : Option A) (many pos : ℕ) → get_or (replicate many none) pos none ≡ none
blank_item none zero pos = refl
blank_item none (suc many) zero = refl
blank_item none (suc many) (suc pos) = blank_item none many pos

blank_from : (setting : Setting) (first : List (List (List Value))) (table pos : ℕ)
    → (none : Option (Option (List Value))) → none ≡ None → item_at (map (λ (rows : List (List Value)). replicate (capacity setting) none) first) table pos ≡ None
blank_from setting [] table pos none e = refl
blank_from setting (rows ∷ first) zero pos none e =
    ap (λ (d : Option (Option (List Value))). get_or (replicate (capacity setting) none) pos d) (sym e) ∙ (blank_item none (capacity setting) pos ∙ e)
blank_from setting (rows ∷ first) (suc table) pos none e = blank_from setting first table pos none e

pub nothing_own : (setting : Setting) (table pos : ℕ) → item_at (blank_own setting) table pos ≡ None
nothing_own setting table pos = blank_from setting setting.first table pos None refl

pub holds_none : (setting : Setting) (state : State) (table pos : ℕ) → holds setting table pos (Some (begun_there setting state)) ≡ false
holds_none setting state table pos =
    and_left (is_some (item_at (blank_own setting) table pos))
    (is_among (drop (undone (begun_there setting state).phase) (written_chunks setting (blank_own setting))) table (chunk_of setting pos))
    (ap is_some (nothing_own setting table pos))

-- ---- sessions

-- the session is there
pub rests_there : (setting : Setting) (state : State) (core : CoreData) (sessions : List SessionData) (number : ℕ) (session : SessionData)
    → Fits setting state → SessionsShow setting state core sessions → slice_get sessions number ≡ Some session → number < length state.sessions
rests_there setting state core sessions number session fits shows found =
    let within = slice_get_within sessions number session found in
    let count = fits.count in
    let same = shows.count in
    omega (arith, within, count, same)

pub begins_there : (setting : Setting) (state : State) (number : ℕ) → number < length state.sessions
    → session_at (begun_state setting state number) number ≡ record { done = (session_at state number).done; now = Some (begun_there setting state) }
begins_there setting state number within =
    get_or-set_same state.sessions number (record { done = (session_at state number).done; now = Some (begun_there setting state) }) fresh within

pub others_there : (setting : Setting) (state : State) (number other : ℕ) → other ≢ number
    → session_at (begun_state setting state number) other ≡ session_at state other
others_there setting state number other apart =
    get_or-set_other state.sessions number other (record { done = (session_at state number).done; now = Some (begun_there setting state) }) fresh apart

-- who is open is the one that begins, or was open, and is another
pub data OpenThen (setting : Setting) (state : State) (core : CoreData) (sessions : List SessionData) (number : ℕ) (session : SessionData)
    (other : ℕ) (another : SessionData) (its : Open) (present : MachineOpen) : Type 0 where
  begins : other ≡ number → another ≡ went_on session (beginning core) → its ≡ beginning core → present ≡ begun_there setting state
      → OpenThen setting state core sessions number session other another its present
  stays : other ≢ number → IsOpen state sessions other another its present
      → OpenThen setting state core sessions number session other another its present

pub open_then : (setting : Setting) (state : State) (core : CoreData) (sessions : List SessionData) (number : ℕ) (session : SessionData)
    → slice_get sessions number ≡ Some session → number < length state.sessions
    → (other : ℕ) (another : SessionData) (its : Open) (present : MachineOpen)
    → IsOpen (begun_state setting state number) (sessions_on sessions number session (beginning core)) other another its present
    → OpenThen setting state core sessions number session other another its present
open_then setting state core sessions number session found within other another its present open' = elim (cases_eq other number) [
  | inl e ↦
      let here : slice_get (set sessions number (went_on session (beginning core))) number ≡ Some another =
      sym (ap (slice_get (set sessions number (went_on session (beginning core)))) e) ∙ open'.found in
      let one : went_on session (beginning core) ≡ another =
      same_Some (went_on session (beginning core)) another (sym (got_set sessions number session (went_on session (beginning core)) found) ∙ here) in
      let there : Some (begun_there setting state) ≡ Some present =
      sym (ap (λ (n : ℕ). (session_at (begun_state setting state number) n).now) e
      ∙ ap (λ (one : Session). one.now) (begins_there setting state number within)) ∙ open'.open_there in
      begins e (sym one) (sym (same_Some (beginning core) its (ap (λ (one : SessionData). one.now) one ∙ open'.open_here)))
      (sym (same_Some (begun_there setting state) present there))
  | inr apart ↦ stays apart (record {
    found = sym (got_other sessions number other (went_on session (beginning core)) apart) ∙ open'.found;
    open_here = open'.open_here;
    open_there = sym (ap (λ (one : Session). one.now) (others_there setting state number other apart)) ∙ open'.open_there;
  })
]

-- the one that begins is open then
pub opens_it : (setting : Setting) (state : State) (core : CoreData) (sessions : List SessionData) (number : ℕ) (session : SessionData)
    → slice_get sessions number ≡ Some session → number < length state.sessions
    → IsOpen (begun_state setting state number) (sessions_on sessions number session (beginning core)) number
    (went_on session (beginning core)) (beginning core) (begun_there setting state)
opens_it setting state core sessions number session found within = record {
  found = got_set sessions number session (went_on session (beginning core)) found;
  open_here = refl;
  open_there = ap (λ (one : Session). one.now) (begins_there setting state number within);
}

-- who was open is another, and is so then
pub not_open : (state : State) (sessions : List SessionData) (number other : ℕ) (session another : SessionData) (its : Open) (present : MachineOpen)
    → slice_get sessions number ≡ Some session → session.now ≡ None → IsOpen state sessions other another its present → other ≢ number
not_open state sessions number other session another its present found rests is e =
    let one : session ≡ another = same_Some session another (sym found ∙ (ap (slice_get sessions) (sym e) ∙ is.found)) in
    absurd (let f : None ≡ Some its = sym rests ∙ (ap (λ (s : SessionData). s.now) one ∙ is.open_here) in cc)

pub opens_still : (setting : Setting) (state : State) (core : CoreData) (sessions : List SessionData) (number : ℕ) (session : SessionData)
    → (other : ℕ) (another : SessionData) (its : Open) (present : MachineOpen) → other ≢ number → IsOpen state sessions other another its present
    → IsOpen (begun_state setting state number) (sessions_on sessions number session (beginning core)) other another its present
opens_still setting state core sessions number session other another its present apart is = record {
  found = got_other sessions number other (went_on session (beginning core)) apart ∙ is.found;
  open_here = is.open_here;
  open_there = ap (λ (one : Session). one.now) (others_there setting state number other apart) ∙ is.open_there;
}

-- ---- counts

more_set : {A : Type 0} (of : A → ℕ) (xs : List A) (k : ℕ) (x y : A) → slice_get xs k ≡ Some x → of y ≡ suc (of x) → sum_by of (set xs k y) ≡ suc (sum_by of xs)
more_set of [] k x y e more = absurd cc
more_set of (z ∷ xs) zero x y e more =
    let was : of z ≡ of x = ap of (same_Some z x e) in
    let before = sum_by-cons of z xs in
    let after = sum_by-cons of y xs in
    omega (arith, was, before, after, more)
more_set of (z ∷ xs) (suc k) x y e more =
    let rest = more_set of xs k x y e more in
    let before = sum_by-cons of z xs in
    let after = sum_by-cons of z (set xs k y) in
    omega (arith, rest, before, after)

-- one more has begun
pub one_more : (setting : Setting) (state : State) (number : ℕ) → number < length state.sessions → (session_at state number).now ≡ None
    → count_begun (begun_state setting state number) ≡ suc (count_begun state)
one_more setting state number within rests =
    let none : count_open (session_at state number).now ≡ 0 = ap count_open rests in
    more_set (λ (one : Session). length one.done + count_open one.now) state.sessions number (session_at state number)
    (record { done = (session_at state number).done; now = Some (begun_there setting state) })
    (slice_get-get_or state.sessions number fresh within)
    (omega (arith, none))

any_alike : {A : Type 0} (test : A → Bool) (xs : List A) (k : ℕ) (d y : A) → k < length xs → test y ≡ test (get_or xs k d) → list_any test (set xs k y) ≡ list_any test xs
any_alike test [] k d y within e = refl
any_alike test (z ∷ xs) zero d y within e = ap (λ (b : Bool). b || list_any test xs) e
any_alike test (z ∷ xs) (suc k) d y within e = ap (λ (b : Bool). test z || b) (any_alike test xs k d y (omega (arith, within)) e)

-- a position is held as before
pub held_alike : (setting : Setting) (state : State) (number table pos : ℕ) → number < length state.sessions → (session_at state number).now ≡ None
    → list_any (λ (one : Session). holds setting table pos one.now) (begun_state setting state number).sessions
    ≡ list_any (λ (one : Session). holds setting table pos one.now) state.sessions
held_alike setting state number table pos within rests =
    any_alike (λ (one : Session). holds setting table pos one.now) state.sessions number fresh
    (record { done = (session_at state number).done; now = Some (begun_there setting state) }) within
    (holds_none setting state table pos ∙ sym (ap (λ (now : Option MachineOpen). holds setting table pos now) rests))
