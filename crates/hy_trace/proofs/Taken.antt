-- The steps that a run takes lead where the run leads.
use Rattle.std.proofs.Common.{◌≡◌, ℕ, zero, suc, List, [], ◌∷◌, ◌++◌, length, Option, None, Some, Bool, true, false, cond, refl, ap, sym, ◌∙◌}
use Rattle.hy_bound.specs.declared.schedule.Item.{Item}
use Rattle.hy_bound.specs.declared.Txn.{Txn}
use Rattle.hy_protocol.specs.declared.Progress.TheVariants.{Ended}
use Rattle.hy_machine.specs.declared.Setting.{Setting}
use Rattle.hy_machine.specs.States.{State}
use Rattle.hy_machine.specs.Turns.{session_turn}
use Rattle.hy_machine.specs.Steps.{Step, after_turn, step_of}
use Rattle.hy_machine.specs.Measures.{steps_left, measure_of}
use Rattle.hy_machine.specs.Sessions.{session_at, txn_at}
use Rattle.hy_machine.specs.Runs.{opening_of, after_steps, is_moved, moves, whole_of, item_of, items_of, round_from, round_of, all_ended_from}
use Rattle.hy_machine.specs.Runs.{repeated, rounds_of}
use Rattle.hy_trace.specs.Steps.{step_and, unless_ended, moves_taken, whole_taken, item_taken, items_taken, sessions_taken, round_taken, repeated_taken}
use Rattle.hy_trace.specs.Steps.{rounds_taken, all_taken, TakenStepsAreTheRun}

-- ---- steps one after another

pub steps_joined : (setting : Setting) (state : State) (xs ys : List ℕ)
    → after_steps setting state (xs ++ ys) ≡ after_steps setting (after_steps setting state xs) ys
steps_joined setting state [] ys = refl
steps_joined setting state (x ∷ xs) ys = steps_joined setting (step_of setting state x).0 xs ys

-- a first part leads to a state, and what follows from there to another one
then : (setting : Setting) (state mid last : State) (xs ys : List ℕ) → after_steps setting state xs ≡ mid → after_steps setting mid ys ≡ last
    → after_steps setting state (xs ++ ys) ≡ last
then setting state mid last xs ys first rest =
    steps_joined setting state xs ys ∙ (ap (λ (from : State). after_steps setting from ys) first ∙ rest)

-- ---- a session's steps

-- a step of one that is at the end of its script changes nothing
pub at_the_end : (setting : Setting) (state : State) (number : ℕ) → txn_at setting number (session_at state number) ≡ None
    → step_of setting state number ≡ (state, Ended)
at_the_end setting state number e =
    ap (λ (txn : Option Txn). after_turn setting state number (session_turn setting state number txn (session_at state number).now)) e

step_leads : (setting : Setting) (state : State) (number : ℕ) (behind : List ℕ) (last : State) (txn : Option Txn) (goes_on : Bool)
    → txn_at setting number (session_at state number) ≡ txn → is_moved (step_of setting state number).1 ≡ goes_on
    → after_steps setting (step_of setting state number).0 behind ≡ last
    → after_steps setting state (unless_ended txn (step_and number goes_on behind)) ≡ cond goes_on last (step_of setting state number).0
step_leads setting state number behind last None true e m leads =
    absurd (let ended = at_the_end setting state number e in false_is_true (sym (ap (λ (step : Step). is_moved step.1) ended) ∙ m))
  where
    false_is_true : false ≡ true → ⊥
    false_is_true h = cc h
step_leads setting state number behind last None false e m leads = sym (ap (λ (step : Step). step.0) (at_the_end setting state number e))
step_leads setting state number behind last (Some txn) true e m leads = leads
step_leads setting state number behind last (Some txn) false e m leads = refl

moves_lead : (most : ℕ) (setting : Setting) (state : State) (number : ℕ)
    → after_steps setting state (moves_taken most setting state number) ≡ moves most setting state number
unfolding moves moves_taken
moves_lead zero setting state number = refl
moves_lead (suc most) setting state number =
    step_leads setting state number (moves_taken most setting (step_of setting state number).0 number)
    (moves most setting (step_of setting state number).0 number) (txn_at setting number (session_at state number))
    (is_moved (step_of setting state number).1) refl refl
    (moves_lead most setting (step_of setting state number).0 number)

pub whole_leads : (setting : Setting) (state : State) (number : ℕ) → after_steps setting state (whole_taken setting state number) ≡ whole_of setting state number
whole_leads setting state number = moves_lead (steps_left setting number (session_at state number)) setting state number

-- ---- items

pub item_leads : (setting : Setting) (state : State) (item : Item) → after_steps setting state (item_taken setting state item) ≡ item_of setting state item
item_leads setting state item = by item.whole
  where
    by : (whole : Bool) → after_steps setting state (cond whole (whole_taken setting state item.session) (item.session ∷ []))
        ≡ cond whole (whole_of setting state item.session) (step_of setting state item.session).0
    by true = whole_leads setting state item.session
    by false = refl

pub items_lead : (setting : Setting) (state : State) (items : List Item) → after_steps setting state (items_taken setting state items) ≡ items_of setting state items
items_lead setting state [] = refl
items_lead setting state (item ∷ items) =
    then setting state (item_of setting state item) (items_of setting state (item ∷ items)) (item_taken setting state item)
    (items_taken setting (item_of setting state item) items) (item_leads setting state item) (items_lead setting (item_of setting state item) items)

-- ---- rounds

sessions_lead : (left : ℕ) (setting : Setting) (state : State) (number : ℕ)
    → after_steps setting state (sessions_taken setting state number left) ≡ round_from setting state number left
sessions_lead zero setting state number = refl
sessions_lead (suc left) setting state number =
    then setting state (whole_of setting state number) (round_from setting state number (suc left)) (whole_taken setting state number)
    (sessions_taken setting (whole_of setting state number) (suc number) left) (whole_leads setting state number)
    (sessions_lead left setting (whole_of setting state number) (suc number))

pub round_leads : (setting : Setting) (state : State) → after_steps setting state (round_taken setting state) ≡ round_of setting state
round_leads setting state = sessions_lead (length state.sessions) setting state 0

rounds_by : (setting : Setting) (state : State) (behind : List ℕ) (last : State) (ended : Bool)
    → after_steps setting (round_of setting state) behind ≡ last
    → after_steps setting state (cond ended [] (round_taken setting state ++ behind)) ≡ cond ended state last
rounds_by setting state behind last true leads = refl
rounds_by setting state behind last false leads =
    then setting state (round_of setting state) last (round_taken setting state) behind (round_leads setting state) leads

repeated_lead : (most : ℕ) (setting : Setting) (state : State)
    → after_steps setting state (repeated_taken most setting state) ≡ repeated most setting state
unfolding repeated repeated_taken
repeated_lead zero setting state = refl
repeated_lead (suc most) setting state =
    rounds_by setting state (repeated_taken most setting (round_of setting state)) (repeated most setting (round_of setting state))
    (all_ended_from setting 0 state.sessions) (repeated_lead most setting (round_of setting state))

-- ---- a run

all_lead : (items : List Item) (setting : Setting) (state : State)
    → after_steps setting state (all_taken items setting state) ≡ rounds_of setting (items_of setting state items)
all_lead items setting state =
    then setting state (items_of setting state items) (rounds_of setting (items_of setting state items)) (items_taken setting state items)
    (rounds_taken setting (items_of setting state items)) (items_lead setting state items)
    (repeated_lead (measure_of setting (items_of setting state items)) setting (items_of setting state items))

pub taken_are_the_run : TakenStepsAreTheRun
taken_are_the_run setting items = all_lead items setting (opening_of setting)
