-- While a transaction is being stamped, each open one began before its entry came into the commit order.
use Rattle.std.proofs.Common.{◌≡◌, ℕ, ◌<◌, List, [], ◌∷◌, Option, None, Some, Bool, true, false, length, cond, refl, sym, ◌∙◌, subst, arith, ap}
use Rattle.std.specs.Prelude.{◌==◌}
use Rattle.std.specs.Option.{option_map}
use Rattle.std.proofs.lemmas.Bool.{eqb-true}
use Rattle.std.proofs.lemmas.List.{length-append}
use Rattle.hy_machine.specs.Writes.{Write}
use Rattle.hy_machine.specs.declared.Setting.{Setting}
use Rattle.hy_protocol.specs.declared.Phase.TheVariants.{Stamping}
use Rattle.hy_machine.specs.States.{State, Open}
use Rattle.hy_machine.specs.Tables.{Entry}
use Rattle.hy_protocol.specs.Turns.{Turn, Done, Waits, Begins, Visits, Answers, Saves, Enters, Ends}
use Rattle.hy_machine.specs.Turns.{phase_turn}
use Rattle.hy_machine.specs.Sessions.{session_at, label_of, blocker_of, entry_of}
use Rattle.hy_machine.specs.Steps.{with_changed, after_visit, after_answer, after_saving, order_with, after_turn}
use Rattle.hy_machine.specs.Runs.{IsReached}
use Rattle.hy_lawful.proofs.Fits.{OpenFits, NowFits, NowStamps, Fits}
use Rattle.hy_lawful.proofs.Moves.{moved_to, sessions_moved}
use Rattle.hy_lawful.proofs.ReachedBy.{reached_by}
use Rattle.hy_lawful.proofs.Turns.{FitsTurn}

-- if a session is marked, an open transaction starts before the last entry
abbrev pub NowBefore : ℕ → Option ℕ → Option Open → Type 0
NowBefore long None now = Unit {0}
NowBefore long (Some marked) None = Unit {0}
NowBefore long (Some marked) (Some current) = current.begun.prefix < long

abbrev pub AllBefore : State → Type 0
AllBefore state = (number : ℕ) → NowBefore (length state.order) state.mark (session_at state number).now

changed_before : (long : ℕ) (mark : Option ℕ) (change : Open → Open) → ((current : Open) → (change current).begun.prefix ≡ current.begun.prefix)
    → (now : Option Open) → NowBefore long mark now → NowBefore long mark (option_map change now)
changed_before long None change same now h = tt
changed_before long (Some marked) change same None h = tt
changed_before long (Some marked) change same (Some current) h = omega (arith, h, same current)

entered_before : (setting : Setting) (state : State) → Fits setting state → (number other long : ℕ) → length state.order < long → (now : Option Open)
    → (session_at state other).now ≡ now → NowBefore long (Some number) now
entered_before setting state fits number other long more None is = tt
entered_before setting state fits number other long more (Some current) is =
    let present : OpenFits setting state.order state.mark other (session_at state other).done current =
    subst (NowFits setting state.order state.mark other (session_at state other).done) is (fits.sessions other).now in
    omega (arith, present.start, more)

goes_on : (state : State) (number : ℕ) (change : Open → Open) → ((current : Open) → (change current).begun.prefix ≡ current.begun.prefix)
    → number < length state.sessions → AllBefore state
    → AllBefore (moved_to state state.order state.mark number (with_changed change (session_at state number)))
goes_on state number change same there all =
    sessions_moved (λ other one. NowBefore (length state.order) state.mark one.now) state state.order state.mark number
    (with_changed change (session_at state number)) there
    (changed_before (length state.order) state.mark change same (session_at state number).now (all number)) (λ other apart. all other)

turn_before : (setting : Setting) (state : State) (number : ℕ) (current : Open) → Fits setting state → number < length state.sessions → AllBefore state
    → (session_at state number).now ≡ Some current → (turn : Turn Write) → FitsTurn setting state number current.begun turn
    → AllBefore (after_turn setting state number turn).0
turn_before setting state number current fits there all is Done f = all
turn_before setting state number current fits there all is (Waits by) f = all
turn_before setting state number current fits there all is Begins f = absurd f
turn_before setting state number current fits there all is (Visits writes phase) f =
    goes_on state number (after_visit writes phase) (λ one. refl) there all
turn_before setting state number current fits there all is (Answers writes reply took records) f =
    goes_on state number (after_answer writes reply took records) (λ one. refl) there all
turn_before setting state number current fits there all is (Saves statement reply) f =
    goes_on state number (after_saving statement reply) (λ one. refl) there all
turn_before setting state number current fits there all is Enters f =
    let order : List Entry = order_with setting state number (session_at state number).now in
    let more : length state.order < length order =
    subst (λ (now : Option Open). length state.order < length (order_with setting state number now)) (sym is)
    (omega (arith, length-append state.order (entry_of setting state number current.begun ∷ []))) in
    sessions_moved (λ other one. NowBefore (length order) (Some number) one.now) state order (Some number) number
    (with_changed (after_visit [] (Stamping 0)) (session_at state number)) there
    (changed_before (length order) (Some number) (after_visit [] (Stamping 0)) (λ one. refl) (session_at state number).now
    (entered_before setting state fits number number (length order) more (session_at state number).now refl))
    (λ other apart. entered_before setting state fits number other (length order) more (session_at state other).now refl)
turn_before setting state number current fits there all is (Ends ending) f = λ other. tt

-- a transaction that begins finds no session marked
unmarked : (state : State) (number : ℕ) → (state.mark ≡ Some number → ⊥) → (mark : Option ℕ) → state.mark ≡ mark → blocker_of state number mark ≡ None
    → state.mark ≡ None
unmarked state number free None e b = e
unmarked state number free (Some marked) e b = by_same (marked == number) refl b
  where
    by_same : (same : Bool) → (marked == number) ≡ same → cond same None (Some (label_of marked (session_at state marked))) ≡ None → state.mark ≡ None
    by_same true s h = absurd (free (e ∙ ap Some (eqb-true marked number s)))
    by_same false s h = absurd cc

pub reached_before : (setting : Setting) (state : State) → IsReached setting state → AllBefore state
reached_before setting = reached_by setting AllBefore (record {
  begins = λ state number txn all may other.
      let later : State = (after_turn setting state number Begins).0 in
      subst (λ (mark : Option ℕ). NowBefore (length state.order) mark (session_at later other).now)
      (sym (unmarked state number (λ m. absurd (subst NowStamps may.rests (may.fits.marked number m))) state.mark refl may.free)) tt;
  turns = λ state number txn current all takes. turn_before setting state number current takes.fits takes.there all takes.is
      (phase_turn setting state number txn current.begun current.phase) takes.turn;
}) (λ number. tt)
