-- An open transaction starts no earlier than the watermark of another one that is open, or has come into the commit order
-- since its start.
use Rattle.std.proofs.Common.{◌≡◌, ℕ, zero, suc, ◌<◌, ◌≤◌, List, [], ◌∷◌, ◌++◌, Option, None, Some, min, length, get_or, refl, sym, subst, arith}
use Rattle.std.specs.Prelude.{IfSome}
use Rattle.std.specs.List.{AllByRecursion}
use Rattle.std.specs.Option.{option_map}
use Rattle.std.proofs.lemmas.Option.{same_Some, IfSome_then}
use Rattle.hy_bound.specs.declared.Ending.{Ending}
use Rattle.hy_machine.specs.Writes.{Write}
use Rattle.hy_machine.specs.declared.Setting.{Setting}
use Rattle.hy_protocol.specs.declared.Phase.TheVariants.{Stamping}
use Rattle.hy_machine.specs.States.{State, Session, Open, Finished}
use Rattle.hy_machine.specs.Tables.{Entry}
use Rattle.hy_protocol.specs.Turns.{Turn, Done, Waits, Begins, Visits, Answers, Saves, Enters, Ends}
use Rattle.hy_machine.specs.Turns.{phase_turn}
use Rattle.hy_machine.specs.Sessions.{fresh, session_at, least_with, least_prefix}
use Rattle.hy_machine.specs.Steps.{with_open, beginning, with_changed, after_visit, after_answer, after_saving, done_with, order_with, after_turn}
use Rattle.hy_machine.specs.Runs.{opening_of, IsReached}
use Rattle.hy_lawful.specs.Outcomes.{committed_at}
use Rattle.hy_lawful.proofs.Lists.{all_so, all_more}
use Rattle.hy_lawful.proofs.Moves.{moved_to, sessions_moved}
use Rattle.hy_lawful.proofs.PassStates.{EndPasses, NowPasses, Passes}
use Rattle.hy_lawful.proofs.PassSteps.{least_below, reached_passes}
use Rattle.hy_lawful.proofs.ReachedBy.{reached_by}
use Rattle.hy_lawful.proofs.PrintedTables.{if_some}
use Rattle.hy_lawful.proofs.Reached.{fresh_at}
use Rattle.hy_lawful.proofs.Turns.{FitsTurn}

-- ---- watermarks

-- the watermark of an open transaction lies at a start or below it
abbrev pub NowLow : ℕ → Option Open → Type 0
NowLow start None = Unit {0}
NowLow start (Some current) = current.begun.low ≤ start

-- the same of one that has come into the commit order since
abbrev pub EndLow : ℕ → Finished → Type 0
EndLow start finished = IfSome (committed_at finished.ending) (λ (rank : ℕ). start ≤ rank → finished.begun.low ≤ start)

pub record SessionLow (start : ℕ) (session : Session) : Type 0 where
  pub done : AllByRecursion (EndLow start) session.done
  pub now : NowLow start session.now

-- the watermarks of those that an open transaction may come upon
abbrev pub LowsUnder : State → Option Open → Type 0
LowsUnder state None = Unit {0}
LowsUnder state (Some current) = (other : ℕ) → SessionLow current.begun.prefix (session_at state other)

abbrev pub AllLow : State → Type 0
AllLow state = (number : ℕ) → LowsUnder state (session_at state number).now

-- ---- a transaction begins

with_at : (least : ℕ) (now : Option Open) (current : Open) → now ≡ Some current → least_with least now ≤ current.begun.prefix
with_at least None current e = absurd cc
with_at least (Some one) current e =
    subst (λ (of : Open). min one.begun.prefix least ≤ of.begun.prefix) (same_Some one current e)
    (let least_one : min one.begun.prefix least ≤ one.begun.prefix = omega arith in least_one)

-- the least start of those that are open
least_at : (least : ℕ) (sessions : List Session) (i : ℕ) (current : Open) → (get_or sessions i fresh).now ≡ Some current
    → least_prefix least sessions ≤ current.begun.prefix
least_at least [] i current e = absurd cc
least_at least (session ∷ sessions) zero current e =
    omega (arith, least_below (least_with least session.now) sessions, with_at least session.now current e)
least_at least (session ∷ sessions) (suc i) current e = least_at (least_with least session.now) sessions i current e

now_within : (setting : Setting) (order : List Entry) (now : Option Open) → NowPasses setting order now → NowLow (length order) now
now_within setting order None h = tt
now_within setting order (Some current) h = omega (arith, h.low, h.born.start)

-- no entry stands behind the end of the commit order
done_within : (setting : Setting) (order : List Entry) (done : List Finished) → AllByRecursion (EndPasses setting order) done
    → AllByRecursion (EndLow (length order)) done
done_within setting order done h =
    all_so (EndPasses setting order) (EndLow (length order)) done
    (λ finished k. IfSome_then (committed_at finished.ending) k.0 (λ rank p from. absurd (omega (arith, p.within, from)))) h

-- ---- a session moves

under : (state : State) (order : List Entry) (mark : Option ℕ) (number : ℕ) (session : Session) → number < length state.sessions → (now : Option Open)
    → LowsUnder state now
    → ((current : Open) → now ≡ Some current → SessionLow current.begun.prefix (session_at state number) → SessionLow current.begun.prefix session)
    → LowsUnder (moved_to state order mark number session) now
under state order mark number session there None h f = tt
under state order mark number session there (Some current) h f =
    sessions_moved (λ other one. SessionLow current.begun.prefix one) state order mark number session there (f current refl (h number))
    (λ other apart. h other)

changed_under : (state : State) (change : Open → Open) → ((current : Open) → (change current).begun.prefix ≡ current.begun.prefix) → (now : Option Open)
    → LowsUnder state now → LowsUnder state (option_map change now)
changed_under state change same None h = tt
changed_under state change same (Some current) h =
    subst (λ (start : ℕ). (other : ℕ) → SessionLow start (session_at state other)) (sym (same current)) h

changed_low : (start : ℕ) (change : Open → Open) → ((current : Open) → (change current).begun.low ≡ current.begun.low) → (now : Option Open)
    → NowLow start now → NowLow start (option_map change now)
changed_low start change same None h = tt
changed_low start change same (Some current) h = omega (arith, same current, h)

goes_on : (state : State) (order : List Entry) (mark : Option ℕ) (number : ℕ) (change : Open → Open)
    → ((current : Open) → (change current).begun.prefix ≡ current.begun.prefix) → ((current : Open) → (change current).begun.low ≡ current.begun.low)
    → number < length state.sessions → AllLow state
    → AllLow (moved_to state order mark number (with_changed change (session_at state number)))
goes_on state order mark number change prefix low there all =
    sessions_moved (λ one given. LowsUnder later given.now) state order mark number session there
    (changed_under later change prefix (session_at state number).now (still (session_at state number).now (all number)))
    (λ one apart. still (session_at state one).now (all one))
  where
    session : Session
    session = with_changed change (session_at state number)

    later : State
    later = moved_to state order mark number (with_changed change (session_at state number))

    still : (now : Option Open) → LowsUnder state now
        → LowsUnder (moved_to state order mark number (with_changed change (session_at state number))) now
    still now h = under state order mark number (with_changed change (session_at state number)) there now h
        (λ current e s. record { done = s.done; now = changed_low current.begun.prefix change low (session_at state number).now s.now })

begins : (setting : Setting) (state : State) (number : ℕ) → Passes setting state → number < length state.sessions → AllLow state
    → AllLow (after_turn setting state number Begins).0
begins setting state number passes there all =
    sessions_moved (λ one given. LowsUnder (moved_to state state.order state.mark number session) given.now) state state.order state.mark number session there
    (sessions_moved (λ other given. SessionLow (length state.order) given) state state.order state.mark number session there
    (record { done = done number; now = least_below (length state.order) state.sessions })
    (λ other apart. record {
      done = done other;
      now = now_within setting state.order (session_at state other).now (passes.sessions other).now;
    }))
    (λ one apart. under state state.order state.mark number session there (session_at state one).now (all one)
    (λ current e s. record { done = s.done; now = least_at (length state.order) state.sessions one current e }))
  where
    session : Session
    session = with_open (beginning setting state) (session_at state number)

    done : (other : ℕ) → AllByRecursion (EndLow (length state.order)) (session_at state other).done
    done other = done_within setting state.order (session_at state other).done (passes.sessions other).done

ends : (state : State) (number : ℕ) (current : Open) (ending : Ending) → number < length state.sessions → AllLow state
    → (session_at state number).now ≡ Some current
    → AllLow (moved_to state state.order None number
    (record { done = (session_at state number).done ++ record { begun = current.begun; ending = ending } ∷ []; now = None }))
ends state number current ending there all is =
    sessions_moved (λ one given. LowsUnder (moved_to state state.order None number session) given.now) state state.order None number session there tt
    (λ one apart. under state state.order None number session there (session_at state one).now (all one)
    (λ other e s. record {
      done = all_more (EndLow other.begun.prefix) (session_at state number).done finished s.done
          (if_some (λ (rank : ℕ). other.begun.prefix ≤ rank → current.begun.low ≤ other.begun.prefix) (committed_at ending)
          (λ rank k from. subst (NowLow other.begun.prefix) is s.now));
      now = tt;
    }))
  where
    finished : Finished
    finished = record { begun = current.begun; ending = ending }

    session : Session
    session = record { done = (session_at state number).done ++ record { begun = current.begun; ending = ending } ∷ []; now = None }

turn_low : (setting : Setting) (state : State) (number : ℕ) (current : Open) → number < length state.sessions → AllLow state
    → (session_at state number).now ≡ Some current → (turn : Turn Write) → FitsTurn setting state number current.begun turn
    → AllLow (after_turn setting state number turn).0
turn_low setting state number current there all is Done f = all
turn_low setting state number current there all is (Waits by) f = all
turn_low setting state number current there all is Begins f = absurd f
turn_low setting state number current there all is (Visits writes phase) f =
    goes_on state state.order state.mark number (after_visit writes phase) (λ one. refl) (λ one. refl) there all
turn_low setting state number current there all is (Answers writes reply took records) f =
    goes_on state state.order state.mark number (after_answer writes reply took records) (λ one. refl) (λ one. refl) there all
turn_low setting state number current there all is (Saves statement reply) f =
    goes_on state state.order state.mark number (after_saving statement reply) (λ one. refl) (λ one. refl) there all
turn_low setting state number current there all is Enters f =
    goes_on state (order_with setting state number (session_at state number).now) (Some number) number (after_visit [] (Stamping 0)) (λ one. refl)
    (λ one. refl) there all
turn_low setting state number current there all is (Ends ending) f =
    subst (λ (now : Option Open). AllLow
    (moved_to state state.order None number (record { done = done_with ending (session_at state number).done now; now = None })))
    (sym is) (ends state number current ending there all is)

-- ---- steps

pub reached_low : (setting : Setting) (state : State) → IsReached setting state → AllLow state
reached_low setting = reached_by setting AllLow (record {
  begins = λ state number txn all may. begins setting state number (reached_passes setting state may.reached) may.there all;
  turns = λ state number txn current all takes. turn_low setting state number current takes.there all takes.is
      (phase_turn setting state number txn current.begun current.phase) takes.turn;
}) (λ number. subst (λ (session : Session). LowsUnder (opening_of setting) session.now) (sym (fresh_at setting number)) tt)
