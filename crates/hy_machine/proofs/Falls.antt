-- A step that goes on brings its session nearer to its end.
use Rattle.std.proofs.Common.{◌≡◌, ℕ, ◌+◌, ◌-◌, ◌<◌, ◌≤◌, List, [], ◌∷◌, ◌++◌, length, drop, refl, ap, ◌∙◌, sym, arith, zero, suc, Option, None, Some, true, cond, inl, inr}
use Rattle.std.specs.Prelude.{slice_get}
use Rattle.std.proofs.lemmas.Bool.{cases_Bool, cases_lt}
use Rattle.std.proofs.lemmas.List.{length-append, get_or-set_same, get_or_past}
use Rattle.std.proofs.lemmas.Option.{same_Some, none-some, slice_get_within}
use Rattle.hy_bound.specs.declared.Txn.{Txn}
use Rattle.hy_bound.specs.declared.Bound.{Bound}
use Rattle.hy_bound.specs.declared.Bound.TheVariants.{Select, Group, Insert, Update, Delete, Savepoint, RollbackTo, Release}
use Rattle.hy_bound.specs.declared.Reply.{Reply}
use Rattle.hy_bound.specs.declared.Reply.TheVariants.{Saved, Back, Released}
use Rattle.hy_bound.specs.Records.{shape_of}
use Rattle.hy_stamp.specs.declared.Label.{Label}
use Rattle.hy_bound.specs.declared.Ending.{Ending}
use Rattle.hy_bound.specs.declared.Ending.TheVariants.{RolledBack}
use Rattle.hy_machine.specs.declared.Setting.{Setting}
use Rattle.hy_protocol.specs.declared.Phase.{Phase}
use Rattle.hy_protocol.specs.declared.Phase.TheVariants.{Working, Stamping, Undoing}
use Rattle.hy_machine.specs.States.{State, Session, Finished, Open, Begun}
use Rattle.hy_machine.specs.Writes.{Write, with_writes, written_chunks}
use Rattle.hy_machine.specs.Saving.{written_since}
use Rattle.hy_protocol.specs.Turns.{Turn, Done, Waits, Begins, Visits, Answers, Saves, Enters, Ends}
use Rattle.hy_machine.specs.Sessions.{fresh, session_at, program_of, txn_at, blocker}
use Rattle.hy_protocol.specs.declared.Progress.TheVariants.{Ended}
use Rattle.hy_machine.specs.Runs.{is_moved, moves, whole_of}
use Rattle.hy_machine.specs.Visits.{visits_of, checks_of}
use Rattle.hy_protocol.specs.Turns.{unless_blocked}
use Rattle.hy_machine.specs.Turns.{statement_turn, phase_turn, session_turn}
use Rattle.hy_machine.specs.Steps.{with_session, after_turn, step_of, after_visit, after_answer, after_saving, with_changed, with_ended}
use Rattle.hy_machine.specs.TurnCases.{StatementCases, SaveCases, UndoCases, CommitCases, statement_cases, undo_cases, stamp_cases, working_cases}
use Rattle.hy_machine.specs.ChunkCounts.{chunks_few, with_writes_length, since_few}
use Rattle.hy_machine.specs.Measures.{parts_of, open_left, later_left, txns_left, steps_left}

-- ---- how many chunks may be written

written_few : (setting : Setting) (begun : Begun) → length (written_chunks setting begun.own) ≤ parts_of setting begun
written_few setting begun = chunks_few setting 0 begun.own

-- ---- what a statement's turn may be

-- it goes on in its statement, is refused, answers, or waits for the transaction that blocks it, if one does
abbrev pub Advances : Option Label → ℕ → ℕ → Turn Write → Type 0
Advances by visited most Done = ⊥
Advances by visited most (Waits other) = by ≡ Some other
Advances by visited most Begins = ⊥
Advances by visited most (Visits writes (Working next count)) = (next ≡ suc visited) × (visited < most)
Advances by visited most (Visits writes (Stamping next)) = ⊥
Advances by visited most (Visits writes (Undoing next cause)) = next ≡ 0
Advances by visited most (Answers writes reply took records) = Unit {0}
Advances by visited most (Saves statement reply) = Unit {0}
Advances by visited most Enters = ⊥
Advances by visited most (Ends ending) = ⊥

saving_advances : (state : State) (number visited most : ℕ) (statement : Bound) (reply : Reply)
    → SaveCases state number (Advances (blocker state number) visited most) statement reply
saving_advances state number visited most statement reply = record { waits = λ by is. is; saves = λ free. tt }

few_checks : (setting : Setting) (key : Option ℕ) → checks_of setting key ≤ setting.chunks
few_checks setting None = omega arith
few_checks setting (Some key) = omega arith

advances_in : (setting : Setting) (state : State) (number : ℕ) (begun : Begun) (visited count : ℕ) (statement : Bound)
    → StatementCases setting state number begun (Advances (blocker state number) visited (visits_of setting statement)) visited count statement
advances_in setting state number begun visited count (Select tables ons pred items) = record { goes = λ few. (refl, omega (arith, few)); ends = tt }
advances_in setting state number begun visited count (Group table pred key aggregate) = record { goes = λ few. (refl, omega (arith, few)); ends = tt }
advances_in setting state number begun visited count (Insert table row) =
    let most = few_checks setting (shape_of setting.shapes table).key in record {
      checked = λ few. (refl, omega (arith, few, most));
      twice = tt;
      takes = λ pos e. tt;
      goes = λ past e few. (refl, omega (arith, few, most));
      full = λ past e all. refl;
    }
advances_in setting state number begun visited count (Update table sets pred) =
    record { out = λ cause e. refl; goes = λ writes e few. (refl, omega (arith, few)); ends = λ writes e. tt }
advances_in setting state number begun visited count (Delete table pred) =
    record { out = λ cause e. refl; goes = λ writes e few. (refl, omega (arith, few)); ends = λ writes e. tt }
advances_in setting state number begun visited count (Savepoint name) = saving_advances state number visited 1 (Savepoint name) Saved
advances_in setting state number begun visited count (RollbackTo name) = record {
  goes = λ chunk e. (refl, omega (arith, since_few setting begun name, slice_get_within (written_since setting begun name) visited chunk e));
  ends = λ none. saving_advances state number visited (visits_of setting (RollbackTo name)) (RollbackTo name) Back;
}
advances_in setting state number begun visited count (Release name) = saving_advances state number visited 1 (Release name) Released

pub statement_advances : (setting : Setting) (state : State) (number : ℕ) (begun : Begun) (visited count : ℕ) (statement : Bound)
    → Advances (blocker state number) visited (visits_of setting statement) (statement_turn setting state number begun visited count statement)
statement_advances setting state number begun visited count statement =
    statement_cases setting state number begun (Advances (blocker state number) visited (visits_of setting statement)) visited count statement
    (advances_in setting state number begun visited count statement)

-- ---- what is left after a turn of an open transaction

-- the steps left of a session whose open transaction takes a turn, its script having these transactions behind it
abbrev pub left_after : Setting → Txn → Begun → ℕ → Turn Write → ℕ
left_after setting txn begun rest Done = 0
left_after setting txn begun rest (Waits by) = 0
left_after setting txn begun rest Begins = 0
left_after setting txn begun rest (Visits writes phase) = open_left setting txn (record begun { own = with_writes begun.own writes }) phase + rest
left_after setting txn begun rest (Answers writes reply took records) =
    open_left setting txn (after_answer writes reply took records (record { begun = begun; phase = Working 0 0 })).begun (Working 0 0) + rest
left_after setting txn begun rest (Saves statement reply) =
    open_left setting txn (after_saving statement reply (record { begun = begun; phase = Working 0 0 })).begun (Working 0 0) + rest
left_after setting txn begun rest Enters = open_left setting txn begun (Stamping 0) + rest
left_after setting txn begun rest (Ends ending) = rest

-- a turn that changes something
abbrev pub IsActing : Turn Write → Type 0
IsActing Done = ⊥
IsActing (Waits by) = ⊥
IsActing Begins = ⊥
IsActing (Visits writes phase) = Unit {0}
IsActing (Answers writes reply took records) = Unit {0}
IsActing (Saves statement reply) = Unit {0}
IsActing Enters = Unit {0}
IsActing (Ends ending) = Unit {0}

pub drop_at : {A : Type 0} (xs : List A) (n : ℕ) (x : A) → slice_get xs n ≡ Some x → drop n xs ≡ x ∷ drop (suc n) xs
drop_at [] n x e = absurd (cc e)
drop_at (y ∷ ys) zero x e = ap (λ z. z ∷ ys) (same_Some y x e)
drop_at (y ∷ ys) (suc n) x e = drop_at ys n x e

-- a turn that changes something leaves less than so many steps and the rest
abbrev FallsBelow : Setting → Txn → Begun → ℕ → ℕ → Turn Write → Type 0
FallsBelow setting txn begun rest bound turn = IsActing turn → left_after setting txn begun rest turn < bound + rest

advance_falls : (setting : Setting) (txn : Txn) (begun : Begun) (by : Option Label) (visited count rest : ℕ) (statement : Bound) (turn : Turn Write)
    → slice_get txn.statements (length begun.replies) ≡ Some statement → Advances by visited (visits_of setting statement) turn
    → FallsBelow setting txn begun rest (open_left setting txn begun (Working visited count)) turn
advance_falls setting txn begun by visited count rest statement (Visits writes (Working next more)) e a acts =
    let left = drop_at txn.statements (length begun.replies) statement e in
    rw (left, with_writes_length begun.own writes, a.0) (omega (arith, a.1))
advance_falls setting txn begun by visited count rest statement (Visits writes (Undoing next cause)) e a acts =
    rw (with_writes_length begun.own writes) (omega (arith, a))
advance_falls setting txn begun by visited count rest statement (Answers writes reply took records) e a acts =
    let left = drop_at txn.statements (length begun.replies) statement e in
    let one : length (begun.replies ++ reply ∷ []) ≡ suc (length begun.replies) = omega (arith, length-append begun.replies (reply ∷ [])) in
    rw (left, with_writes_length begun.own writes, one) (omega arith)
advance_falls setting txn begun by visited count rest statement (Saves saving reply) e a acts =
    let left = drop_at txn.statements (length begun.replies) statement e in
    let one : length (begun.replies ++ reply ∷ []) ≡ suc (length begun.replies) = omega (arith, length-append begun.replies (reply ∷ [])) in
    rw (left, one) (omega arith)
advance_falls setting txn begun by visited count rest statement Done e a acts = absurd a
advance_falls setting txn begun by visited count rest statement (Waits other) e a acts = absurd acts
advance_falls setting txn begun by visited count rest statement Begins e a acts = absurd a
advance_falls setting txn begun by visited count rest statement (Visits writes (Stamping next)) e a acts = absurd a
advance_falls setting txn begun by visited count rest statement Enters e a acts = absurd a
advance_falls setting txn begun by visited count rest statement (Ends how) e a acts = absurd a

undo_falls : (setting : Setting) (state : State) (number : ℕ) (txn : Txn) (begun : Begun) (visited rest bound : ℕ) (cause : Ending)
    → suc (parts_of setting begun - visited) ≤ bound → UndoCases setting state number begun (FallsBelow setting txn begun rest bound) visited cause
undo_falls setting state number txn begun visited rest bound cause h = record {
  goes = λ few a. let within : visited < parts_of setting begun = omega (arith, written_few setting begun, few) in omega (arith, h, within);
  waits = λ by is a. absurd a;
  ends = λ free a. omega (arith, h);
}

commit_falls : (setting : Setting) (state : State) (number : ℕ) (txn : Txn) (begun : Begun) (rest bound : ℕ) → suc (suc (parts_of setting begun)) ≤ bound
    → CommitCases state number begun (FallsBelow setting txn begun rest bound)
commit_falls setting state number txn begun rest bound h = record {
  waits = λ by is a. absurd a;
  reads = λ free nothing a. omega (arith, h);
  enters = λ free some e a. omega (arith, h);
  out = λ some cause e a. omega (arith, h);
}

pub phase_falls : (setting : Setting) (state : State) (number : ℕ) (txn : Txn) (begun : Begun) (phase : Phase) (rest : ℕ)
    → IsActing (phase_turn setting state number txn begun phase) → left_after setting txn begun rest (phase_turn setting state number txn begun phase) < open_left setting txn begun phase + rest
phase_falls setting state number txn begun (Working visited count) rest =
    let most : ℕ = open_left setting txn begun (Working visited count) in
    working_cases setting state number begun (FallsBelow setting txn begun rest most) txn visited count
    (λ statement e. advance_falls setting txn begun (blocker state number) visited count rest statement (statement_turn setting state number begun visited count statement) e
    (statement_advances setting state number begun visited count statement))
    (λ none commits. commit_falls setting state number txn begun rest most (omega arith))
    (λ none rolls. undo_falls setting state number txn begun 0 rest most RolledBack (omega arith))
phase_falls setting state number txn begun (Stamping visited) rest =
    stamp_cases setting state number begun (FallsBelow setting txn begun rest (suc (parts_of setting begun - visited))) visited
    (λ few a. let within : visited < parts_of setting begun = omega (arith, written_few setting begun, few) in omega (arith, within)) (λ a. omega arith)
phase_falls setting state number txn begun (Undoing visited cause) rest =
    undo_cases setting state number begun (FallsBelow setting txn begun rest (suc (parts_of setting begun - visited))) visited cause
    (undo_falls setting state number txn begun visited rest (suc (parts_of setting begun - visited)) cause (omega arith))

-- ---- what is left of the session after a step

drop_next : {A : Type 0} (xs : List A) (n : ℕ) (x : A) (rest : List A) → drop n xs ≡ x ∷ rest → drop (suc n) xs ≡ rest
drop_next [] zero x rest e = absurd (cc e)
drop_next [] (suc n) x rest e = absurd (cc e)
drop_next (y ∷ ys) zero x rest e = cc e
drop_next (y ∷ ys) (suc n) x rest e = drop_next ys n x rest e

none_open : (setting : Setting) (txns : List Txn) → txns_left setting None txns ≡ later_left setting txns
none_open setting [] = refl
none_open setting (txn ∷ txns) = refl

pub session_set : (state : State) (number : ℕ) (session : Session) → number < length state.sessions → session_at (with_session state number session) number ≡ session
session_set state number session l = get_or-set_same state.sessions number session fresh l

pub left_is : (setting : Setting) (state : State) (number : ℕ) (done : List Finished) (current : Open) (txn : Txn) (txns : List Txn) (turn : Turn Write) → number < length state.sessions
    → session_at state number ≡ record { done = done; now = Some current } → drop (length done) (program_of setting number) ≡ txn ∷ txns → IsActing turn
    → steps_left setting number (session_at (after_turn setting state number turn).0 number) ≡ left_after setting txn current.begun (later_left setting txns) turn
left_is setting state number done current txn txns (Visits writes phase) l s d a =
    ap (steps_left setting number) (session_set state number (with_changed (after_visit writes phase) (session_at state number)) l ∙ ap (with_changed (after_visit writes phase)) s)
    ∙ ap (txns_left setting (Some (after_visit writes phase current))) d
left_is setting state number done current txn txns (Answers writes reply took records) l s d a =
    ap (steps_left setting number) (session_set state number (with_changed (after_answer writes reply took records) (session_at state number)) l ∙ ap (with_changed (after_answer writes reply took records)) s)
    ∙ ap (txns_left setting (Some (after_answer writes reply took records current))) d
left_is setting state number done current txn txns (Saves statement reply) l s d a =
    ap (steps_left setting number) (session_set state number (with_changed (after_saving statement reply) (session_at state number)) l
    ∙ ap (with_changed (after_saving statement reply)) s)
    ∙ ap (txns_left setting (Some (after_saving statement reply current))) d
left_is setting state number done current txn txns Enters l s d a =
    ap (steps_left setting number) (session_set state number (with_changed (after_visit [] (Stamping 0)) (session_at state number)) l ∙ ap (with_changed (after_visit [] (Stamping 0))) s)
    ∙ ap (txns_left setting (Some (after_visit [] (Stamping 0) current))) d
left_is setting state number done current txn txns (Ends how) l s d a =
    let one : length (done ++ record { begun = current.begun; ending = how } ∷ []) ≡ suc (length done) = omega (arith, length-append done (record { begun = current.begun; ending = how } ∷ [])) in
    ap (steps_left setting number) (session_set state number (with_ended how (session_at state number)) l ∙ ap (with_ended how) s)
    ∙ (ap (λ n. txns_left setting None (drop n (program_of setting number))) one ∙ (ap (txns_left setting None) (drop_next (program_of setting number) (length done) txn txns d) ∙ none_open setting txns))
left_is setting state number done current txn txns Done l s d a = absurd a
left_is setting state number done current txn txns (Waits by) l s d a = absurd a
left_is setting state number done current txn txns Begins l s d a = absurd a

moved_acts : (setting : Setting) (state : State) (number : ℕ) (turn : Turn Write) → is_moved (after_turn setting state number turn).1 ≡ true → IsActing turn
moved_acts setting state number Done e = absurd (cc e)
moved_acts setting state number (Waits by) e = absurd (cc e)
moved_acts setting state number Begins e = absurd (cc e)
moved_acts setting state number (Visits writes phase) e = tt
moved_acts setting state number (Answers writes reply took records) e = tt
moved_acts setting state number (Saves statement reply) e = absurd (cc e)
moved_acts setting state number Enters e = tt
moved_acts setting state number (Ends how) e = tt

-- only an open transaction moves
not_begun : (setting : Setting) (state : State) (number : ℕ) (by : Option Label) → is_moved (after_turn setting state number (unless_blocked by Begins)).1 ≡ true → ⊥
not_begun setting state number None e = absurd (cc e)
not_begun setting state number (Some by) e = absurd (cc e)

fresh_past : (state : State) (number : ℕ) → length state.sessions ≤ number → session_at state number ≡ fresh
fresh_past state number h = get_or_past state.sessions number fresh h

falls_by : (setting : Setting) (state : State) (number : ℕ) (done : List Finished) (now : Option Open) (txn : Option Txn) → session_at state number ≡ record { done = done; now = now }
    → slice_get (program_of setting number) (length done) ≡ txn → is_moved (after_turn setting state number (session_turn setting state number txn now)).1 ≡ true
    → steps_left setting number (session_at (after_turn setting state number (session_turn setting state number txn now)).0 number) < txns_left setting now (drop (length done) (program_of setting number))
falls_by setting state number done now None s t m = absurd (cc m)
falls_by setting state number done None (Some txn) s t m = absurd (not_begun setting state number (blocker state number) m)
falls_by setting state number done (Some current) (Some txn) s t m =
    let turn = phase_turn setting state number txn current.begun current.phase in
    let a = moved_acts setting state number turn m in
    let d = drop_at (program_of setting number) (length done) txn t in
    let within : number < length state.sessions = elim (cases_lt number (length state.sessions)) [
      | inl lt ↦ lt
      | inr ge ↦ absurd (now_none (sym s ∙ fresh_past state number ge))
    ] in
    rw (left_is setting state number done current txn (drop (suc (length done)) (program_of setting number)) turn within s d a, d)
    (phase_falls setting state number txn current.begun current.phase (later_left setting (drop (suc (length done)) (program_of setting number))) a)
  where
    now_none : ◌≡◌ {A = Session} (record { done = done; now = Some current }) fresh → ⊥
    now_none e =
        let same : ◌≡◌ {A = Option Open} (Some current) None = ap (λ (one : Session). one.now) e in
        none-some current (sym same)

-- a step that goes on brings its session nearer to its end
pub step_falls : (setting : Setting) (state : State) (number : ℕ) → is_moved (step_of setting state number).1 ≡ true
    → steps_left setting number (session_at (step_of setting state number).0 number) < steps_left setting number (session_at state number)
step_falls setting state number m =
    falls_by setting state number (session_at state number).done (session_at state number).now (txn_at setting number (session_at state number)) refl refl m

-- ---- the steps of a whole statement

-- where no steps are left the session has ended
none_left : (setting : Setting) (state : State) (number : ℕ) (now : Option Open) (txns : List Txn) (n : ℕ) (txn : Option Txn) → slice_get txns n ≡ txn → txns_left setting now (drop n txns) ≡ 0
    → after_turn setting state number (session_turn setting state number txn now) ≡ (state, Ended)
none_left setting state number now txns n None e h = refl
none_left setting state number None txns n (Some txn) e h =
    let d = drop_at txns n txn e in
    absurd (omega (arith, rw d at h))
none_left setting state number (Some current) txns n (Some txn) e h =
    let d = drop_at txns n txn e in
    absurd (open_some current.phase (rw d at h))
  where
    open_some : (phase : Phase) → open_left setting txn current.begun phase + later_left setting (drop (suc n) txns) ≡ 0 → ⊥
    open_some (Working visited count) h = omega (arith, h)
    open_some (Stamping visited) h = omega (arith, h)
    open_some (Undoing visited cause) h = omega (arith, h)

pub over : (setting : Setting) (state : State) (number : ℕ) → steps_left setting number (session_at state number) ≡ 0 → step_of setting state number ≡ (state, Ended)
over setting state number h =
    none_left setting state number (session_at state number).now (program_of setting number) (length (session_at state number).done) (txn_at setting number (session_at state number)) refl h

-- more fuel than steps are left makes no difference
moves_same : (a b : ℕ) (setting : Setting) (state : State) (number : ℕ) → steps_left setting number (session_at state number) ≤ a → steps_left setting number (session_at state number) ≤ b
    → moves a setting state number ≡ moves b setting state number
unfolding moves
moves_same zero zero setting state number h k = refl
moves_same zero (suc b) setting state number h k = rw (over setting state number (omega arith)) refl
moves_same (suc a) zero setting state number h k = rw (over setting state number (omega arith)) refl
moves_same (suc a) (suc b) setting state number h k = elim (cases_Bool (is_moved (step_of setting state number).1)) [
  | inl t ↦
      let f = step_falls setting state number t in
      rw t (moves_same a b setting (step_of setting state number).0 number (omega arith) (omega arith))
  | inr f ↦ rw f refl
]

-- a whole statement is its first step and what is left of it
whole_more : (fuel : ℕ) (setting : Setting) (state : State) (number : ℕ) → steps_left setting number (session_at state number) ≡ fuel
    → moves fuel setting state number ≡ cond (is_moved (step_of setting state number).1) (whole_of setting (step_of setting state number).0 number) (step_of setting state number).0
unfolding moves
whole_more zero setting state number e = rw (over setting state number e) refl
whole_more (suc fuel) setting state number e = elim (cases_Bool (is_moved (step_of setting state number).1)) [
  | inl t ↦
      let f = step_falls setting state number t in
      rw t (moves_same fuel (steps_left setting number (session_at (step_of setting state number).0 number)) setting (step_of setting state number).0 number (omega arith) (omega arith))
  | inr f ↦ rw f refl
]

pub whole_first : (setting : Setting) (state : State) (number : ℕ)
    → whole_of setting state number ≡ cond (is_moved (step_of setting state number).1) (whole_of setting (step_of setting state number).0 number) (step_of setting state number).0
whole_first setting state number = whole_more (steps_left setting number (session_at state number)) setting state number refl
