-- Where every session has ended: each transaction of the script has its outcome, each entry a transaction that committed.
use Rattle.std.proofs.Common.{◌≡◌, ℕ, zero, suc, ◌+◌, ◌<◌, ◌≤◌, List, [], ◌∷◌, Option, None, Some, true, length, get_or, refl, ap, sym, ◌∙◌}
use Rattle.std.proofs.Common.{subst, arith, inl, inr, zero-add, add-zero}
use Rattle.std.specs.Prelude.{slice_get}
use Rattle.std.proofs.Math.ListN.{get_or-eq_default}
use Rattle.std.proofs.lemmas.Bool.{cases_lt, eqb-true}
use Rattle.hy_bound.specs.declared.Txn.{Txn}
use Rattle.hy_stamp.specs.declared.Label.{Label}
use Rattle.hy_bound.specs.declared.Ending.TheVariants.{Committed}
use Rattle.hy_machine.specs.declared.Setting.{Setting}
use Rattle.hy_machine.specs.States.{State, Session, Open, Finished}
use Rattle.hy_machine.specs.Sessions.{fresh, session_at, program_of, has_ended}
use Rattle.hy_machine.specs.Outcomes.{txn_outcome_of, outcome_of}
use Rattle.hy_machine.specs.Runs.{all_ended_from}
use Rattle.hy_lawful.specs.Outcomes.{outcome_at}
use Rattle.hy_lawful.proofs.Fits.{HasTxn, OpenFits, NowFits, Ranked, ended, entered, NowStamps}
use Rattle.hy_lawful.proofs.Fits.{Fits}
use Rattle.hy_lawful.proofs.Outcomes.{outcome_found}
use Rattle.hy_lawful.proofs.Booleans.{and_left, and_right}

ended_at : (setting : Setting) (first : ℕ) (sessions : List Session) → all_ended_from setting first sessions ≡ true → (i : ℕ) → i < length sessions
    → has_ended setting (first + i) (get_or sessions i fresh) ≡ true
ended_at setting first [] h i below = absurd (omega arith)
ended_at setting first (session ∷ sessions) h zero below =
    subst (λ (n : ℕ). has_ended setting n session ≡ true) (sym (add-zero first))
    (and_left (has_ended setting first session) (all_ended_from setting (suc first) sessions) h)
ended_at setting first (session ∷ sessions) h (suc i) below =
    subst (λ (n : ℕ). has_ended setting n (get_or sessions i fresh) ≡ true) (let e : suc first + i ≡ first + suc i = omega arith in e)
    (ended_at setting (suc first) sessions (and_right (has_ended setting first session) (all_ended_from setting (suc first) sessions) h) i (omega arith))

-- a state at its end
pub record IsOver (setting : Setting) (state : State) : Type 0 where
  pub fits : Fits setting state
  pub all : (number : ℕ) → length (session_at state number).done ≡ length (program_of setting number)

pub is_over : (setting : Setting) (state : State) → Fits setting state → all_ended_from setting 0 state.sessions ≡ true → IsOver setting state
is_over setting state fits over = record {
  fits = fits;
  all = λ number. elim (cases_lt number (length state.sessions)) [
    | inl there ↦ eqb-true (length (session_at state number).done) (length (program_of setting number))
        (subst (λ (n : ℕ). has_ended setting n (session_at state number) ≡ true) (zero-add number) (ended_at setting 0 state.sessions over number there))
    | inr past ↦ ap (λ (session : Session). length session.done) (get_or-eq_default state.sessions fresh past)
        ∙ sym (ap (λ (txns : List Txn). length txns)
        (get_or-eq_default setting.programs [] (let more : length setting.programs ≤ number = omega (arith, past, fits.count) in more)))
  ];
}

-- ---- transactions by their labels

-- an ended transaction of a label
pub record HasEnded (state : State) (label : Label) : Type 0 where
  pub before : ℕ
  pub finished : Finished
  pub is : label.txn ≡ suc before
  pub at : slice_get (session_at state label.session).done before ≡ Some finished

item_within : {X : Type 0} (xs : List X) (i : ℕ) → i < length xs → (x : X) × (slice_get xs i ≡ Some x)
item_within [] i below = absurd (omega arith)
item_within (x ∷ xs) zero below = (x, refl)
item_within (x ∷ xs) (suc i) below = item_within xs i (omega arith)

-- each transaction of the script has ended
pub txn_ended : (setting : Setting) (state : State) → IsOver setting state → (label : Label) → HasTxn setting label → HasEnded state label
txn_ended setting state over label has = by_number label.txn refl
  where
    by_number : (t : ℕ) → label.txn ≡ t → HasEnded state label
    by_number zero e = absurd (omega (arith, has.first))
    by_number (suc before) e =
        let within : before < length (session_at state label.session).done = omega (arith, e, has.few, over.all label.session) in
        let found : (x : Finished) × (slice_get (session_at state label.session).done before ≡ Some x) =
        item_within (session_at state label.session).done before within in
        record { before = before; finished = found.0; is = e; at = found.1 }

-- nothing is open
none_open : (setting : Setting) (state : State) → IsOver setting state → (number : ℕ) (now : Option Open) → (session_at state number).now ≡ now
    → NowStamps now → ⊥
none_open setting state over number None is h = h
none_open setting state over number (Some current) is h =
    let present : OpenFits setting state.order state.mark number (session_at state number).done current =
    subst (NowFits setting state.order state.mark number (session_at state number).done) is (over.fits.sessions number).now in
    omega (arith, present.there, over.all number)

-- a committed transaction of a label
pub record HasCommitted (state : State) (label : Label) (rank : ℕ) : Type 0 where
  pub has : HasEnded state label
  pub ending : has.finished.ending ≡ Committed rank

pub entry_committed : (setting : Setting) (state : State) → IsOver setting state → (rank : ℕ) (label : Label) → Ranked state rank label
    → HasCommitted state label rank
entry_committed setting state over rank label (ended before finished e at is) =
    record { has = record { before = before; finished = finished; is = e; at = at }; ending = is }
entry_committed setting state over rank label (entered m e r) =
    absurd (none_open setting state over label.session (session_at state label.session).now refl (over.fits.marked label.session m))

pub outcome_has : (setting : Setting) (state : State) (label : Label) (has : HasEnded state label)
    → outcome_at (outcome_of setting state) label ≡ Some (txn_outcome_of setting label.session has.before has.finished)
outcome_has setting state label has = outcome_found setting state label has.before has.finished has.is has.at
