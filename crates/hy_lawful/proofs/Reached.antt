-- What holds of the opening and stays true along steps holds of each state that the machine comes to.
use Rattle.std.proofs.Common.{◌≡◌, ℕ, suc, ◌+◌, ◌-◌, ◌<◌, ◌≤◌, List, [], ◌∷◌, ◌++◌, Option, None, Some, length, refl, ap, sym, ◌∙◌, subst, arith, inl, inr}
use Rattle.std.specs.Prelude.{slice_get}
use Rattle.std.specs.Option.{option_map}
use Rattle.std.specs.List.{AllByRecursion}
use Rattle.std.proofs.Math.ListN.{get_or-map, get_or-eq_default}
use Rattle.std.proofs.lemmas.Bool.{cases_lt}
use Rattle.std.proofs.lemmas.List.{length-append, length-map}
use Rattle.std.proofs.lemmas.Option.{slice_get_within}
use Rattle.hy_bound.specs.declared.Txn.{Txn}
use Rattle.hy_bound.specs.declared.Record.{Record}
use Rattle.hy_stamp.specs.declared.Label.{Label}
use Rattle.hy_bound.specs.declared.Ending.TheVariants.{Committed}
use Rattle.hy_machine.specs.Writes.{Write}
use Rattle.hy_machine.specs.declared.Setting.{Setting}
use Rattle.hy_protocol.specs.declared.Phase.TheVariants.{Working, Stamping}
use Rattle.hy_machine.specs.States.{State, Open}
use Rattle.hy_protocol.specs.Turns.{Turn, Done, Waits, Begins, Visits, Answers, Saves, Enters, Ends, unless_blocked}
use Rattle.hy_machine.specs.Turns.{session_turn, phase_turn}
use Rattle.hy_machine.specs.Sessions.{fresh, session_at, program_of, txn_at, blocker, entry_of}
use Rattle.hy_machine.specs.Steps.{with_session, beginning, after_visit, after_answer, after_saving, done_with, order_with, after_turn, step_of}
use Rattle.hy_machine.specs.Runs.{opening_of, after_steps, IsReached}
use Rattle.hy_lawful.proofs.Lists.{all_so, all_joined}
use Rattle.hy_lawful.proofs.Grows.{last_label}
use Rattle.hy_lawful.proofs.Fits.{IsNumbered, EndsAs, FitsTables, PhaseFits, OpenFits, NowFits, SessionFits, NowStamps, Fits}
use Rattle.hy_lawful.proofs.Moves.{moved_to, fits_now, fits_entered, fits_ended}
use Rattle.hy_lawful.proofs.Tables.{writes_fit, blank_fits, entry_fits}
use Rattle.hy_lawful.proofs.Turns.{before_of, FitsTurn, phase_fits}

-- ---- the opening

pub fresh_at : (setting : Setting) (number : ℕ) → session_at (opening_of setting) number ≡ fresh
fresh_at setting number = get_or-map (λ (txns : List Txn). fresh) setting.programs number []

fresh_fits : (setting : Setting) (number : ℕ) → SessionFits setting [] None number fresh
fresh_fits setting number = record { done = tt; few = omega arith; climbs = tt; top = omega arith; now = tt }

pub opening_fits : (setting : Setting) → Fits setting (opening_of setting)
opening_fits setting = record {
  count = length-map setting.programs (λ (txns : List Txn). fresh);
  sessions = λ number. subst (SessionFits setting [] None number) (sym (fresh_at setting number)) (fresh_fits setting number);
  ranked = λ rank label e. absurd cc;
  marked = λ number e. absurd cc;
  cells = tt;
}

-- ---- steps

-- what a session is that is open
record IsOpen (setting : Setting) (state : State) (number : ℕ) (current : Open) : Type 0 where
  fits : Fits setting state
  there : number < length state.sessions
  is : (session_at state number).now ≡ Some current
  open_fits : OpenFits setting state.order state.mark number (session_at state number).done current

goes_on : (setting : Setting) (state : State) (number : ℕ) (current new : Open) → IsOpen setting state number current
    → new.begun.prefix ≡ current.begun.prefix → FitsTables setting new.begun.own
    → AllByRecursion (λ (of : Record). IsNumbered (length new.begun.replies) of.statement) new.begun.records
    → PhaseFits setting state.order state.mark number (before_of state number) new.begun new.phase → (state.mark ≡ Some number → NowStamps (Some new))
    → Fits setting (moved_to state state.order state.mark number (record { done = (session_at state number).done; now = Some new }))
goes_on setting state number current new o same own records phase marked = fits_now setting state number (Some new) o.fits o.there
    (record {
      there = o.open_fits.there;
      above = omega (arith, o.open_fits.above, same);
      start = omega (arith, o.open_fits.start, same);
      own = own;
      records = records;
      phase = phase;
    })
    marked

enters : (setting : Setting) (state : State) (number : ℕ) (current : Open) → IsOpen setting state number current
    → FitsTurn setting state number current.begun Enters
    → Fits setting (moved_to state (state.order ++ entry_of setting state number current.begun ∷ []) (Some number) number
    (record { done = (session_at state number).done; now = Some (after_visit [] (Stamping 0) current) }))
enters setting state number current o h =
    let longer : length (state.order ++ entry_of setting state number current.begun ∷ []) ≡ length state.order + 1 =
    length-append state.order (entry_of setting state number current.begun ∷ []) in
    fits_entered setting state number current.begun (Some (after_visit [] (Stamping 0) current)) o.fits o.there h.1
    (record {
      there = o.open_fits.there;
      above = o.open_fits.above;
      start = omega (arith, o.open_fits.start);
      own = o.open_fits.own;
      records = o.open_fits.records;
      phase = (
        refl,
        subst (λ (rank : ℕ). EndsAs setting (state.order ++ entry_of setting state number current.begun ∷ []) number (before_of state number)
            (record { begun = current.begun; ending = Committed rank }))
            (let e : length state.order ≡ length (state.order ++ entry_of setting state number current.begun ∷ []) - 1 = omega arith in e)
            (record {
              ends = h.0;
              later = o.open_fits.start;
              stands = last_label state.order (entry_of setting state number current.begun);
            }),
      );
    })
    tt (entry_fits setting state number current.begun o.open_fits.own)

-- a statement more is answered, and its records are added
numbered_more : (answered more : ℕ) (records others : List Record) → more ≡ answered + 1
    → AllByRecursion (λ (of : Record). IsNumbered answered of.statement) records → AllByRecursion (λ (of : Record). of.statement ≡ suc answered) others
    → AllByRecursion (λ (of : Record). IsNumbered more of.statement) (records ++ others)
numbered_more answered more records others e h k =
    all_joined (λ (of : Record). IsNumbered more of.statement) records others
    (all_so (λ (of : Record). IsNumbered answered of.statement) (λ (of : Record). IsNumbered more of.statement) records
    (λ of n. (n.0, omega (arith, n.1, e))) h)
    (all_so (λ (of : Record). of.statement ≡ suc answered) (λ (of : Record). IsNumbered more of.statement) others
    (λ of same. (omega (arith, same), omega (arith, same, e))) k)

-- a turn of an open transaction leaves what fits
turn_fits : (setting : Setting) (state : State) (number : ℕ) (current : Open) → IsOpen setting state number current → (turn : Turn Write)
    → FitsTurn setting state number current.begun turn → Fits setting (after_turn setting state number turn).0
turn_fits setting state number current o Done h = absurd h
turn_fits setting state number current o (Waits by) h = o.fits
turn_fits setting state number current o Begins h = absurd h
turn_fits setting state number current o (Visits writes phase) h =
    subst (λ (now : Option Open). Fits setting
    (with_session state number (record { done = (session_at state number).done; now = option_map (after_visit writes phase) now })))
    (sym o.is)
    (goes_on setting state number current (after_visit writes phase current) o refl (writes_fit setting current.begun.own writes o.open_fits.own)
    o.open_fits.records h.0 h.1)
turn_fits setting state number current o (Answers writes reply took records) h =
    subst (λ (now : Option Open). Fits setting
    (with_session state number (record { done = (session_at state number).done; now = option_map (after_answer writes reply took records) now })))
    (sym o.is)
    (goes_on setting state number current (after_answer writes reply took records current) o refl
    (writes_fit setting current.begun.own writes o.open_fits.own)
    (numbered_more (length current.begun.replies) (length (current.begun.replies ++ reply ∷ [])) current.begun.records records
    (length-append current.begun.replies (reply ∷ [])) o.open_fits.records h.1)
    (omega (arith, h.0.0, length-append current.begun.replies (reply ∷ []))) (λ e. absurd (h.0.1 e)))
turn_fits setting state number current o (Saves statement reply) h =
    subst (λ (now : Option Open). Fits setting
    (with_session state number (record { done = (session_at state number).done; now = option_map (after_saving statement reply) now })))
    (sym o.is)
    (goes_on setting state number current (after_saving statement reply current) o refl o.open_fits.own
    (numbered_more (length current.begun.replies) (length (current.begun.replies ++ reply ∷ [])) current.begun.records []
    (length-append current.begun.replies (reply ∷ [])) o.open_fits.records tt)
    (omega (arith, h.0, length-append current.begun.replies (reply ∷ []))) (λ e. absurd (h.1 e)))
turn_fits setting state number current o Enters h =
    subst (λ (now : Option Open). Fits setting (moved_to state (order_with setting state number now) (Some number) number
    (record { done = (session_at state number).done; now = option_map (after_visit [] (Stamping 0)) now })))
    (sym o.is) (enters setting state number current o h)
turn_fits setting state number current o (Ends ending) h =
    subst (λ (now : Option Open). Fits setting
    (moved_to state state.order None number (record { done = done_with ending (session_at state number).done now; now = None })))
    (sym o.is) (fits_ended setting state number current ending o.fits o.there h.1 h.2 o.is h.0)

-- a transaction begins
begins : (setting : Setting) (state : State) (number : ℕ) → Fits setting state → number < length state.sessions
    → length (session_at state number).done < length (program_of setting number) → (session_at state number).now ≡ None
    → Fits setting (after_turn setting state number Begins).0
begins setting state number fits there more none =
    fits_now setting state number (Some (record { begun = beginning setting state; phase = Working 0 0 })) fits there
    (record {
      there = more;
      above = (fits.sessions number).top;
      start = omega arith;
      own = blank_fits setting;
      records = tt;
      phase = omega arith;
    })
    (λ e. absurd (subst NowStamps none (fits.marked number e)))

begins_unless : (setting : Setting) (state : State) (number : ℕ) (by : Option Label) → Fits setting state
    → Fits setting (after_turn setting state number Begins).0
    → Fits setting (after_turn setting state number (unless_blocked by Begins)).0
begins_unless setting state number None fits h = h
begins_unless setting state number (Some by) fits h = fits

-- a session that has a transaction is there
pub is_there : (setting : Setting) (state : State) (number : ℕ) (txn : Txn) → Fits setting state → txn_at setting number (session_at state number) ≡ Some txn
    → number < length state.sessions
is_there setting state number txn fits e = elim (cases_lt number (length state.sessions)) [
  | inl h ↦ h
  | inr past ↦ absurd (let past_programs : length setting.programs ≤ number = omega (arith, past, fits.count) in
      let never : None ≡ Some txn = ap (λ (txns : List Txn). slice_get txns (length (session_at state number).done))
      (sym (get_or-eq_default setting.programs [] past_programs)) ∙ e in cc)
]

session_fits : (setting : Setting) (state : State) (number : ℕ) (txn : Txn) → Fits setting state → txn_at setting number (session_at state number) ≡ Some txn
    → (now : Option Open) → (session_at state number).now ≡ now
    → Fits setting (after_turn setting state number (session_turn setting state number (Some txn) now)).0
session_fits setting state number txn fits e None is =
    begins_unless setting state number (blocker state number) fits
    (begins setting state number fits (is_there setting state number txn fits e)
    (slice_get_within (program_of setting number) (length (session_at state number).done) txn e) is)
session_fits setting state number txn fits e (Some current) is =
    let present : OpenFits setting state.order state.mark number (session_at state number).done current =
    subst (NowFits setting state.order state.mark number (session_at state number).done) is (fits.sessions number).now in
    turn_fits setting state number current
    (record { fits = fits; there = is_there setting state number txn fits e; is = is; open_fits = present })
    (phase_turn setting state number txn current.begun current.phase)
    (phase_fits setting state fits number txn current.begun e present.above present.records current.phase present.phase
    (λ m. subst NowStamps is (fits.marked number m)))

by_txn : (setting : Setting) (state : State) (number : ℕ) → Fits setting state → (txn : Option Txn) → txn_at setting number (session_at state number) ≡ txn
    → Fits setting (after_turn setting state number (session_turn setting state number txn (session_at state number).now)).0
by_txn setting state number fits None e = fits
by_txn setting state number fits (Some txn) e = session_fits setting state number txn fits e (session_at state number).now refl

pub step_fits : (setting : Setting) (state : State) (number : ℕ) → Fits setting state → Fits setting (step_of setting state number).0
step_fits setting state number fits = by_txn setting state number fits (txn_at setting number (session_at state number)) refl

pub steps_fit : (setting : Setting) (state : State) (numbers : List ℕ) → Fits setting state → Fits setting (after_steps setting state numbers)
steps_fit setting state [] fits = fits
steps_fit setting state (number ∷ numbers) fits = steps_fit setting (step_of setting state number).0 numbers (step_fits setting state number fits)

pub reached_fits : (setting : Setting) (state : State) → IsReached setting state → Fits setting state
reached_fits setting state r = subst (Fits setting) (sym r.1) (steps_fit setting (opening_of setting) r.0 (opening_fits setting))
