-- A line makes a script grow where its session is ready for it.
use Rattle.std.proofs.Common.{◌≡◌, ◌⊎◌, ℕ, ◌-◌, ◌<◌, ◌≤◌, List, [], ◌∷◌, ◌++◌, length, map, refl, ap, ◌∙◌, sym, arith, zero, suc, Bool, false, Option, None, Some, inl, inr, subst}
use Rattle.std.proofs.Math.ListN.{set}
use Rattle.std.specs.Prelude.{slice_get}
use Rattle.std.proofs.lemmas.Bool.{cases_lt}
use Rattle.std.proofs.lemmas.List.{length-append, length-set, get_or-set_same, get_or-set_other, length-map}
use Rattle.hy_bound.specs.declared.Bound.{Bound}
use Rattle.hy_bound.specs.declared.Txn.{Txn}
use Rattle.hy_machine.specs.declared.Setting.{Setting}
use Rattle.hy_machine.specs.States.{State, Session}
use Rattle.hy_machine.specs.Sessions.{fresh, session_at, program_of, txn_at}
use Rattle.hy_machine.specs.Runs.{opening_of, after_steps, IsReached, StepsFall}
use Rattle.hy_machine.specs.Turns.{turn}
use Rattle.hy_event.specs.declared.lines.SessionLine.{SessionLine}
use Rattle.hy_event.specs.declared.lines.SessionLine.TheVariants.{Begin, Statement, Commit, Rollback}
use Rattle.hy_event.specs.Lines.{with_last, opened, with_statement, committing, grown}
use Rattle.hy_growing.specs.Growing.{with_programs, pushed, IsAtEnd, IsWaiting, IsReady, AreAnswered, LinesAreReached, LinesGoOn, AnswersAreReached, LinesAreAnswered, AnswersLeaveReady, IsClosingLine, ClosingsEnd, OthersStay, IsAnswered, at_once, later}
use Rattle.hy_growing.proofs.Stands.{Stands, SameTo, IsWithinNow, none_past}
use Rattle.hy_growing.proofs.Reaching.{Grows, other_after, steps_back, turns_many, turns_back, turns_steps}
use Rattle.hy_growing.proofs.Next.{IsNear, IsOver, closed_after, IsLeft, left_after}
use Rattle.hy_growing.proofs.Reply.{comes_to_answer, answered_unmarked, turns_unmarked, turns_then}

-- ---- lists

append_before : {A : Type 0} (xs ys : List A) (i : ℕ) → i < length xs → slice_get (xs ++ ys) i ≡ slice_get xs i
append_before [] ys i h = absurd (omega (arith, h))
append_before (x ∷ xs) ys zero h = refl
append_before (x ∷ xs) ys (suc i) h = append_before xs ys i (omega (arith, h))

last_before : {A : Type 0} (change : A → A) (xs : List A) (i : ℕ) → suc i < length xs → slice_get (with_last change xs) i ≡ slice_get xs i
last_before change [] i h = absurd (omega (arith, h))
last_before change (x ∷ []) i h = absurd (omega (arith, h))
last_before change (x ∷ y ∷ xs) zero h = refl
last_before change (x ∷ y ∷ xs) (suc i) h = last_before change (y ∷ xs) i (omega (arith, h))

last_here : {A : Type 0} (change : A → A) (xs : List A) (i : ℕ) (one : A) → suc i ≡ length xs → slice_get xs i ≡ Some one → slice_get (with_last change xs) i ≡ Some (change one)
last_here change [] i one h e = absurd (cc e)
last_here change (x ∷ []) zero one h e =
    let same : x ≡ one = cc e in
    ap (λ z. Some (change z)) same
last_here change (x ∷ []) (suc i) one h e = absurd (cc e)
last_here change (x ∷ y ∷ xs) zero one h e = absurd (omega (arith, h))
last_here change (x ∷ y ∷ xs) (suc i) one h e = last_here change (y ∷ xs) i one (omega (arith, h)) e

set_past : {A : Type 0} (xs : List A) (i : ℕ) (x : A) → length xs ≤ i → set xs i x ≡ xs
set_past [] i x h = refl
set_past (y ∷ xs) zero x h = absurd (omega (arith, h))
set_past (y ∷ xs) (suc i) x h = ap (λ zs. y ∷ zs) (set_past xs i x (omega (arith, h)))

same_opening : (programs : List (List Txn)) (i : ℕ) (program : List Txn) → map (λ (txns : List Txn). fresh) (set programs i program) ≡ map (λ (txns : List Txn). fresh) programs
same_opening [] i program = refl
same_opening (one ∷ programs) zero program = refl
same_opening (one ∷ programs) (suc i) program = ap (λ sessions. fresh ∷ sessions) (same_opening programs i program)

-- ---- a line

-- the setting is the same where there is no such session
pushed_past : (setting : Setting) (number : ℕ) (line : SessionLine) → length setting.programs ≤ number → pushed setting number line ≡ setting
pushed_past setting number line h = ap (with_programs setting) (set_past setting.programs number (grown line (program_of setting number)) h)

pushed_opening : (setting : Setting) (number : ℕ) (line : SessionLine) → opening_of (pushed setting number line) ≡ opening_of setting
pushed_opening setting number line =
    ap (λ (sessions : List Session). let at : State = record { order = []; mark = None; sessions = sessions } in at)
    (same_opening setting.programs number (grown line (program_of setting number)))

pushed_own : (setting : Setting) (number : ℕ) (line : SessionLine) → number < length setting.programs → program_of (pushed setting number line) number ≡ grown line (program_of setting number)
pushed_own setting number line l = get_or-set_same setting.programs number (grown line (program_of setting number)) [] l

-- a script that grows so
grows_by : (setting : Setting) (number ended most : ℕ) (line : SessionLine) → number < length setting.programs
    → ((i : ℕ) → i < ended → slice_get (grown line (program_of setting number)) i ≡ slice_get (program_of setting number) i)
    → SameTo most (slice_get (program_of setting number) ended) (slice_get (grown line (program_of setting number)) ended)
    → Grows setting (set setting.programs number (grown line (program_of setting number))) number ended most
grows_by setting number ended most line l before here = record {
  others = λ other n. get_or-set_other setting.programs number other (grown line (program_of setting number)) [] n;
  before = λ i h. ap (λ (program : List Txn). slice_get program i) own ∙ before i h;
  here = subst (λ (program : List Txn). SameTo most (slice_get (program_of setting number) ended) (slice_get program ended)) (sym own) here;
}
  where
    own : program_of (pushed setting number line) number ≡ grown line (program_of setting number)
    own = pushed_own setting number line l

-- where a session is ready for a line it stands so that its script grows so
pub record IsGrowing (setting : Setting) (state : State) (number : ℕ) (line : SessionLine) : Type 0 where
  pub ended : ℕ
  pub most : ℕ
  pub grows : Grows setting (set setting.programs number (grown line (program_of setting number))) number ended most
  pub stands : Stands ended most (session_at state number)

at_end : (setting : Setting) (state : State) (number : ℕ) (read_only : Bool) → number < length setting.programs → IsAtEnd setting state number
    → IsGrowing setting state number (Begin read_only)
at_end setting state number read_only l r = record {
  ended = length (program_of setting number);
  most = 0;
  grows = grows_by setting number (length (program_of setting number)) 0 (Begin read_only) l
      (λ i h. append_before (program_of setting number) (opened read_only ∷ []) i h)
      (subst (λ (old : Option Txn). SameTo 0 old (slice_get (program_of setting number ++ opened read_only ∷ []) (length (program_of setting number)))) (sym none) tt);
  stands = inr (r.all, subst (IsWithinNow 0) (sym r.closed) tt);
}
  where
    none : slice_get (program_of setting number) (length (program_of setting number)) ≡ None
    none = none_past (program_of setting number) (length (program_of setting number)) (omega arith)

waiting_stands : (setting : Setting) (state : State) (number : ℕ) → (w : IsWaiting setting state number) → Stands (length (session_at state number).done) (length w.begun.replies) (session_at state number)
waiting_stands setting state number w = inr (refl, subst (IsWithinNow (length w.begun.replies)) (sym w.open_now) (omega arith))

-- a line that changes the last transaction, and no statement that is answered
waiting : (setting : Setting) (state : State) (number : ℕ) (line : SessionLine) (change : Txn → Txn) → number < length setting.programs → (w : IsWaiting setting state number)
    → grown line (program_of setting number) ≡ with_last change (program_of setting number)
    → ((txn : Txn) (i : ℕ) → i < length txn.statements → slice_get (change txn).statements i ≡ slice_get txn.statements i)
    → IsGrowing setting state number line
waiting setting state number line change l w e keeps = record {
  ended = ended;
  most = length w.begun.replies;
  grows = grows_by setting number ended (length w.begun.replies) line l
      (λ i h. ap (λ (program : List Txn). slice_get program i) e ∙ last_before change (program_of setting number) i (omega (arith, h, w.last)))
      (subst (λ (old : Option Txn). SameTo (length w.begun.replies) old (slice_get (grown line (program_of setting number)) ended)) (sym w.here)
      (subst (SameTo (length w.begun.replies) (Some w.txn)) (sym new) ((λ i h. keeps w.txn i (omega (arith, h, w.answered))), w.answered)));
  stands = waiting_stands setting state number w;
}
  where
    ended : ℕ
    ended = length (session_at state number).done

    new : slice_get (grown line (program_of setting number)) ended ≡ Some (change w.txn)
    new = ap (λ (program : List Txn). slice_get program ended) e ∙ last_here change (program_of setting number) ended w.txn w.last w.here

-- a line that adds nothing
nothing : (setting : Setting) (state : State) (number : ℕ) → number < length setting.programs → (w : IsWaiting setting state number) → IsGrowing setting state number Rollback
nothing setting state number l w = record {
  ended = length (session_at state number).done;
  most = length w.begun.replies;
  grows = grows_by setting number (length (session_at state number).done) (length w.begun.replies) Rollback l (λ i h. refl)
      (subst (λ (old : Option Txn). SameTo (length w.begun.replies) old old) (sym w.here) ((λ i h. refl), w.answered));
  stands = waiting_stands setting state number w;
}

growing : (setting : Setting) (state : State) (number : ℕ) (line : SessionLine) → number < length setting.programs → IsReady setting state number line → IsGrowing setting state number line
growing setting state number (Begin read_only) l r = at_end setting state number read_only l r
growing setting state number (Statement statement) l r =
    waiting setting state number (Statement statement) (with_statement statement) l r refl (λ txn i h. append_before txn.statements (statement ∷ []) i h)
growing setting state number Commit l r = waiting setting state number Commit committing l r refl (λ txn i h. refl)
growing setting state number Rollback l r = nothing setting state number l r

-- ---- the laws

opening_within : (setting : Setting) (number : ℕ) → number < length setting.programs → number < length (opening_of setting).sessions
opening_within setting number l = omega (arith, l, length-map setting.programs (λ (txns : List Txn). fresh))

pub lines_reached : LinesAreReached
lines_reached setting state number line reached ready = elim (cases_lt number (length setting.programs)) [
  | inr past ↦ subst (λ (one : Setting). IsReached one state) (sym (pushed_past setting number line past)) reached
  | inl l ↦
      let g = growing setting state number line l ready in
      let stands : Stands g.ended g.most (session_at (after_steps setting (opening_of setting) reached.0) number) =
      subst (λ (to : State). Stands g.ended g.most (session_at to number)) reached.1 g.stands in
      let back = steps_back setting (set setting.programs number (grown line (program_of setting number))) number g.ended g.most g.grows reached.0 (opening_of setting)
      (opening_within setting number l) stands in (
        back.1.0,
        reached.1 ∙ (back.1.1 ∙ ap (λ (from : State). after_steps (pushed setting number line) from back.1.0) (sym (pushed_opening setting number line))),
      )
]

pub lines_on : LinesGoOn
lines_on setting state turns number line answered ready = elim (cases_lt number (length setting.programs)) [
  | inr past ↦
      subst (λ (one : Setting). AreAnswered one (opening_of one) turns state) (sym (pushed_past setting number line past)) answered
  | inl l ↦
      let g = growing setting state number line l ready in
      let back = turns_back setting (set setting.programs number (grown line (program_of setting number))) number g.ended g.most g.grows turns (opening_of setting) state
      (opening_within setting number l) answered g.stands in
      subst (λ (from : State). AreAnswered (pushed setting number line) from turns state) (sym (pushed_opening setting number line)) back.1
]

-- ---- a line is answered

appended_here : {A : Type 0} (xs : List A) (x : A) → slice_get (xs ++ x ∷ []) (length xs) ≡ Some x
appended_here [] x = refl
appended_here (y ∷ xs) x = appended_here xs x

waiting_here : (setting : Setting) (state : State) (number : ℕ) (change : Txn → Txn) → (w : IsWaiting setting state number)
    → (txn : Txn) × (slice_get (with_last change (program_of setting number)) (length (session_at state number).done) ≡ Some txn)
waiting_here setting state number change w = (change w.txn, last_here change (program_of setting number) (length (session_at state number).done) w.txn w.last w.here)

-- after a line its session has a transaction before it
ready_here : (setting : Setting) (state : State) (number : ℕ) (line : SessionLine) → IsReady setting state number line
    → (txn : Txn) × (slice_get (grown line (program_of setting number)) (length (session_at state number).done) ≡ Some txn)
ready_here setting state number (Begin read_only) r =
    (opened read_only, ap (slice_get (program_of setting number ++ opened read_only ∷ [])) r.all ∙ appended_here (program_of setting number) (opened read_only))
ready_here setting state number (Statement statement) r = waiting_here setting state number (with_statement statement) r
ready_here setting state number Commit r = waiting_here setting state number committing r
ready_here setting state number Rollback r = (r.txn, r.here)

pub answers_reached : AnswersAreReached
answers_reached setting state turns answered = (
  turns_steps setting turns (opening_of setting) state answered,
  turns_unmarked setting turns (opening_of setting) state (length-map setting.programs (λ (txns : List Txn). fresh)) refl answered,
)

-- in the longer script, the turns before the line and the line are answered, and no session is marked then
pub record IsTaken (setting : Setting) (state : State) (turns : List ℕ) (number : ℕ) (next : State) : Type 0 where
  pub before : AreAnswered setting (opening_of setting) turns state
  pub within : number < length state.sessions
  pub answered : IsAnswered setting number state next
  pub unmarked : next.mark ≡ None

pub line_taken : StepsFall → (setting : Setting) (state : State) (turns : List ℕ) (number : ℕ) (line : SessionLine) → AreAnswered setting (opening_of setting) turns state
    → IsReady setting state number line → number < length setting.programs → (next : State) × IsTaken (pushed setting number line) state turns number next
line_taken falls setting state turns number line answered ready l =
    let longer : Setting = pushed setting number line in
    let on : AreAnswered longer (opening_of longer) turns state = lines_on setting state turns number line answered ready in
    let many : length (opening_of longer).sessions ≡ length longer.programs = length-map longer.programs (λ (txns : List Txn). fresh) in
    let unmarked = turns_unmarked longer turns (opening_of longer) state many refl on in
    let within : number < length state.sessions = omega (
      arith,
      l,
      turns_many longer turns (opening_of longer) state on,
      many,
      length-set setting.programs number (grown line (program_of setting number)),
    ) in
    let one = ready_here setting state number line ready in
    let here : txn_at longer number (session_at state number) ≡ Some one.0 =
    ap (λ (program : List Txn). slice_get program (length (session_at state number).done)) (pushed_own setting number line l) ∙ one.1 in
    let answer = comes_to_answer falls longer state number one.0 within unmarked here in (
      answer.0,
      record {
        before = on;
        within = within;
        answered = answer.1;
        unmarked = answered_unmarked longer number state answer.0 within (inl unmarked) answer.1;
      },
    )

pub lines_answered : StepsFall → LinesAreAnswered
lines_answered falls setting state turns number line answered ready l =
    let longer : Setting = pushed setting number line in
    let taken = line_taken falls setting state turns number line answered ready l in
    (taken.0, turns_then longer turns number (opening_of longer) state taken.0 taken.1.before taken.1.answered, taken.1.unmarked)

-- ---- where its answer leaves a session

last_length : {A : Type 0} (change : A → A) (xs : List A) → length (with_last change xs) ≡ length xs
last_length change [] = refl
last_length change (x ∷ []) = refl
last_length change (x ∷ y ∷ xs) = ap suc (last_length change (y ∷ xs))

-- after a line its session is at the last transaction of its script, all whose statements but the line's own are answered
pub record IsNext (setting : Setting) (state : State) (number : ℕ) (program : List Txn) : Type 0 where
  pub txn : Txn
  pub here : slice_get program (length (session_at state number).done) ≡ Some txn
  pub last : suc (length (session_at state number).done) ≡ length program
  pub near : IsNear txn (session_at state number).now

waiting_next : (setting : Setting) (state : State) (number : ℕ) (change : Txn → Txn) → (w : IsWaiting setting state number)
    → length (change w.txn).statements ≤ suc (length w.txn.statements)
    → IsNext setting state number (with_last change (program_of setting number))
waiting_next setting state number change w few = record {
  txn = change w.txn;
  here = last_here change (program_of setting number) (length (session_at state number).done) w.txn w.last w.here;
  last = w.last ∙ sym (last_length change (program_of setting number));
  near = subst (IsNear (change w.txn)) (sym w.open_now) (omega (arith, few, w.answered));
}

pub ready_next : (setting : Setting) (state : State) (number : ℕ) (line : SessionLine) → IsReady setting state number line → IsNext setting state number (grown line (program_of setting number))
ready_next setting state number (Begin read_only) r = record {
  txn = opened read_only;
  here = ap (slice_get (program_of setting number ++ opened read_only ∷ [])) r.all ∙ appended_here (program_of setting number) (opened read_only);
  last = omega (arith, r.all, length-append (program_of setting number) (opened read_only ∷ []));
  near = subst (IsNear (opened read_only)) (sym r.closed) refl;
}
ready_next setting state number (Statement statement) r =
    waiting_next setting state number (with_statement statement) r (omega (arith, length-append r.txn.statements (statement ∷ [])))
ready_next setting state number Commit r = waiting_next setting state number committing r (omega arith)
ready_next setting state number Rollback r = record {
  txn = r.txn;
  here = r.here;
  last = r.last;
  near = subst (IsNear r.txn) (sym r.open_now) (omega (arith, r.answered));
}

-- whether that transaction commits
pub opened_rolls : (setting : Setting) (state : State) (number : ℕ) (read_only : Bool) → (ready : IsAtEnd setting state number)
    → (ready_next setting state number (Begin read_only) ready).txn.commits ≡ false
unfolding ready_next
opened_rolls setting state number read_only ready = refl

pub said_commits : (setting : Setting) (state : State) (number : ℕ) (statement : Bound) → (ready : IsWaiting setting state number)
    → (ready_next setting state number (Statement statement) ready).txn.commits ≡ ready.txn.commits
unfolding ready_next waiting_next
said_commits setting state number statement ready = refl

-- it waits in this transaction, or is between two transactions
abbrev pub IsLeftAt : Setting → State → ℕ → Txn → Type 0
IsLeftAt setting state number txn = ((waiting : IsWaiting setting state number) × (waiting.txn ≡ txn)) ⊎ IsAtEnd setting state number

left_ready : (setting : Setting) (state : State) (number : ℕ) (txn : Txn) → slice_get (program_of setting number) (length (program_of setting number) - 1) ≡ Some txn
    → IsLeft (length (program_of setting number)) txn (session_at state number) → IsLeftAt setting state number txn
left_ready setting state number txn t (inl left) = inr (record { closed = left.0; all = left.1 })
left_ready setting state number txn t (inr left) =
    let at : length (program_of setting number) - 1 ≡ length (session_at state number).done = omega (arith, left.2) in
    inl (
      record {
        begun = left.0;
        visited = 0;
        count = 0;
        txn = txn;
        open_now = left.1;
        last = left.2;
        here = ap (slice_get (program_of setting number)) (sym at) ∙ t;
        answered = left.3;
      },
      refl,
    )

pub answers_left : (setting : Setting) (state next : State) (number : ℕ) (line : SessionLine) → (ready : IsReady setting state number line) → number < length setting.programs
    → number < length state.sessions → IsAnswered (pushed setting number line) number state next
    → IsLeftAt (pushed setting number line) next number (ready_next setting state number line ready).txn
answers_left setting state next number line ready l within answered =
    let longer : Setting = pushed setting number line in
    let one = ready_next setting state number line ready in
    let own : program_of longer number ≡ grown line (program_of setting number) = pushed_own setting number line l in
    let here : txn_at longer number (session_at state number) ≡ Some one.txn = ap (λ (program : List Txn). slice_get program (length (session_at state number).done)) own ∙ one.here in
    let last : suc (length (session_at state number).done) ≡ length (program_of longer number) = one.last ∙ ap length (sym own) in
    let at : length (session_at state number).done ≡ length (program_of longer number) - 1 = omega (arith, last) in
    left_ready longer next number one.txn (ap (slice_get (program_of longer number)) (sym at) ∙ here)
    (left_after longer number one.txn state next within here last one.near answered)

pub answers_ready : AnswersLeaveReady
answers_ready setting state next number line ready l within answered = elim (answers_left setting state next number line ready l within answered) [
  | inl waits ↦ inl waits.0
  | inr ends ↦ inr ends
]

-- ---- the other sessions

pub others_after : (setting : Setting) (number other : ℕ) (state next : State) → (other ≡ number → ⊥) → IsAnswered setting number state next → session_at next other ≡ session_at state other
others_after setting number other state next n (at_once _ _ e a) =
    ap (λ (to : State). session_at to other) (sym e) ∙ other_after setting state number other (turn setting state number) n
others_after setting number other state next n (later _ mid _ e m rest) =
    others_after setting number other mid next n rest ∙ (ap (λ (to : State). session_at to other) (sym e) ∙ other_after setting state number other (turn setting state number) n)

pub others_stay : OthersStay
others_stay setting state next number other line n answered = (
  others_after (pushed setting number line) number other state next n answered,
  get_or-set_other setting.programs number other (grown line (program_of setting number)) [] n,
)

-- ---- what closes a transaction

-- it is at the last transaction of its script, all whose statements are answered
pub record IsDue (setting : Setting) (state : State) (number : ℕ) (program : List Txn) : Type 0 where
  pub txn : Txn
  pub here : slice_get program (length (session_at state number).done) ≡ Some txn
  pub last : suc (length (session_at state number).done) ≡ length program
  pub over : IsOver txn (session_at state number).now

closing_due : (setting : Setting) (state : State) (number : ℕ) (line : SessionLine) → IsClosingLine line → IsReady setting state number line
    → IsDue setting state number (grown line (program_of setting number))
closing_due setting state number (Begin read_only) c r = absurd c
closing_due setting state number (Statement statement) c r = absurd c
closing_due setting state number Commit c r = record {
  txn = committing r.txn;
  here = last_here committing (program_of setting number) (length (session_at state number).done) r.txn r.last r.here;
  last = r.last ∙ sym (last_length committing (program_of setting number));
  over = subst (IsOver (committing r.txn)) (sym r.open_now) (omega (arith, r.answered));
}
closing_due setting state number Rollback c r = record {
  txn = r.txn;
  here = r.here;
  last = r.last;
  over = subst (IsOver r.txn) (sym r.open_now) (omega (arith, r.answered));
}

pub closings_end : ClosingsEnd
closings_end setting state next number line c ready l within answered =
    let longer : Setting = pushed setting number line in
    let one = closing_due setting state number line c ready in
    let own : program_of longer number ≡ grown line (program_of setting number) = pushed_own setting number line l in
    let here : txn_at longer number (session_at state number) ≡ Some one.txn = ap (λ (program : List Txn). slice_get program (length (session_at state number).done)) own ∙ one.here in
    let last : suc (length (session_at state number).done) ≡ length (program_of longer number) = one.last ∙ ap length (sym own) in
    let end = closed_after longer number one.txn state next within here last one.over answered in
    record { closed = end.0; all = end.1 }
