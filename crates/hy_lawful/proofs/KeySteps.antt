-- In each state that the machine comes to, each row that an open transaction has written has the key of the row that stood at its
-- position at its start: what holds of the opening and stays true along steps.
use Rattle.std.proofs.Common.{◌≡◌, ℕ, ◌<◌, ◌≤◌, List, [], ◌∷◌, ◌++◌, Option, None, Some, length, take, refl, sym, subst}
use Rattle.std.specs.Prelude.{IfSome}
use Rattle.std.specs.Option.{option_map}
use Rattle.hy_bound.specs.Fits.{FitsStatement}
use Rattle.hy_bound.specs.declared.Txn.{Txn}
use Rattle.hy_machine.specs.declared.Setting.{Setting}
use Rattle.hy_protocol.specs.declared.Phase.TheVariants.{Working, Stamping}
use Rattle.hy_protocol.specs.Turns.{Turn, Done, Waits, Begins, Visits, Answers, Saves, Enters, Ends}
use Rattle.hy_machine.specs.States.{State, Session, Open, Begun}
use Rattle.hy_machine.specs.Tables.{Entry, Tables}
use Rattle.hy_machine.specs.Writes.{Write, blank_own, with_writes}
use Rattle.hy_machine.specs.Saving.{count_at}
use Rattle.hy_machine.specs.Sessions.{session_at, snapshot, entry_of}
use Rattle.hy_machine.specs.Turns.{phase_turn}
use Rattle.hy_machine.specs.Steps.{with_session, beginning, after_visit, after_answer, after_saving, done_with, order_with, after_turn}
use Rattle.hy_machine.specs.Runs.{IsReached}
use Rattle.hy_machine.specs.Kept.{TrailFits}
use Rattle.hy_lawful.specs.Views.{TablesAreFitted, ReachedKeysStay}
use Rattle.hy_lawful.proofs.Fits.{FitsTables, OpenFits, NowFits, Fits}
use Rattle.hy_lawful.proofs.Lists.{all_taken}
use Rattle.hy_lawful.proofs.Moves.{moved_to, sessions_moved}
use Rattle.hy_lawful.proofs.PassTables.{tables_at, tables_grow}
use Rattle.hy_lawful.proofs.PassStates.{OpenPasses, NowPasses}
use Rattle.hy_lawful.proofs.PassSteps.{reached_passes}
use Rattle.hy_lawful.proofs.Reached.{fresh_at}
use Rattle.hy_lawful.proofs.ReachedBy.{TakesTurn, reached_by}
use Rattle.hy_lawful.proofs.Tables.{blank_fits, writes_fit}
use Rattle.hy_lawful.proofs.Trails.{reached_trails, trail_all}
use Rattle.hy_lawful.proofs.ViewSteps.{statements_so}
use Rattle.hy_lawful.proofs.KeyRows.{KeepsKey, WritesKeep, OwnKeeps, written_keeps, seen_keeps}
use Rattle.hy_lawful.proofs.KeyTurns.{TurnKeeps, SeesKeys, phase_keeps}

-- the writes of an open transaction keep keys, if one is open, over the tables of its start
abbrev NowKeeps : Setting → List Entry → Option Open → Type 0
NowKeeps setting order now = IfSome now (λ (current : Open). WritesKeep setting (tables_at setting order current.begun.prefix) current.begun.trail)

abbrev AllKeep : Setting → State → Type 0
AllKeep setting state = (number : ℕ) → NowKeeps setting state.order (session_at state number).now

-- ---- what is seen

-- what was own when it had written so much keeps keys
first_own_keeps : (setting : Setting) (start : Tables) (trail : List Write) (count : ℕ) → WritesKeep setting start trail
    → OwnKeeps setting start (with_writes (blank_own setting) (take count trail))
first_own_keeps setting start trail count h =
    written_keeps setting start (take count trail)
    (all_taken (λ (write : Write). KeepsKey setting start write.table write.pos write.cell) count trail h)

sees_keys : (setting : Setting) (state : State) (begun : Begun) → begun.low ≤ begun.prefix → FitsTables setting begun.own → TrailFits setting begun
    → WritesKeep setting (snapshot setting state begun.prefix) begun.trail → SeesKeys setting state begun
sees_keys setting state begun low fits trail keeps = record {
  low = low;
  now = seen_keeps setting state begun.prefix begun.own fits
      (subst (OwnKeeps setting start) (sym trail.own_is) (written_keeps setting start begun.trail keeps));
  saved = λ name.
      seen_keeps setting state begun.prefix (with_writes (blank_own setting) (take (count_at begun name) begun.trail))
      (writes_fit setting (blank_own setting) (take (count_at begun name) begun.trail) (blank_fits setting))
      (first_own_keeps setting start begun.trail (count_at begun name) keeps);
}
  where
    start : Tables
    start = snapshot setting state begun.prefix

-- ---- turns of an open transaction

moves_keep : (setting : Setting) (state : State) (mark : Option ℕ) (number : ℕ) (session : Session) → AllKeep setting state
    → number < length state.sessions → NowKeeps setting state.order session.now → AllKeep setting (moved_to state state.order mark number session)
moves_keep setting state mark number session all there now =
    sessions_moved (λ other one. NowKeeps setting state.order one.now) state state.order mark number session there now (λ other apart. all other)

-- an entry more leaves the tables of a start as they were
now_grows : (setting : Setting) (order more : List Entry) (now : Option Open) → IfSome now (λ (current : Open). current.begun.prefix ≤ length order)
    → NowKeeps setting order now → NowKeeps setting (order ++ more) now
now_grows setting order more None within h = tt
now_grows setting order more (Some current) within h =
    subst (λ (start : Tables). WritesKeep setting start current.begun.trail) (sym (tables_grow setting order more current.begun.prefix within)) h

now_within : (setting : Setting) (state : State) → Fits setting state → (number : ℕ) (now : Option Open) → (session_at state number).now ≡ now
    → IfSome now (λ (current : Open). current.begun.prefix ≤ length state.order)
now_within setting state fits number None is = tt
now_within setting state fits number (Some current) is =
    let present : OpenFits setting state.order state.mark number (session_at state number).done current =
    subst (NowFits setting state.order state.mark number (session_at state number).done) is (fits.sessions number).now in
    present.start

enters : (setting : Setting) (state : State) (number : ℕ) (current : Open) → Fits setting state → AllKeep setting state → number < length state.sessions
    → (session_at state number).now ≡ Some current
    → AllKeep setting (moved_to state (state.order ++ entry_of setting state number current.begun ∷ []) (Some number) number
    (record { done = (session_at state number).done; now = Some (after_visit [] (Stamping 0) current) }))
enters setting state number current fits all there is =
    sessions_moved (λ other one. NowKeeps setting (state.order ++ more) one.now) state (state.order ++ more) (Some number) number
    (record { done = (session_at state number).done; now = Some (after_visit [] (Stamping 0) current) }) there
    (subst (NowKeeps setting (state.order ++ more)) is (grown number)) (λ other apart. grown other)
  where
    more : List Entry
    more = entry_of setting state number current.begun ∷ []

    grown : (other : ℕ) → NowKeeps setting (state.order ++ entry_of setting state number current.begun ∷ []) (session_at state other).now
    grown other =
        now_grows setting state.order more (session_at state other).now (now_within setting state fits other (session_at state other).now refl) (all other)

turn_keeps : (setting : Setting) (state : State) (number : ℕ) (current : Open) → Fits setting state → AllKeep setting state
    → number < length state.sessions → (session_at state number).now ≡ Some current
    → WritesKeep setting (snapshot setting state current.begun.prefix) current.begun.trail → (turn : Turn Write)
    → TurnKeeps setting (snapshot setting state current.begun.prefix) turn → AllKeep setting (after_turn setting state number turn).0
turn_keeps setting state number current fits all there is trail Done h = all
turn_keeps setting state number current fits all there is trail (Waits by) h = all
turn_keeps setting state number current fits all there is trail Begins h = absurd h
turn_keeps setting state number current fits all there is trail (Visits writes phase) h =
    subst (λ (now : Option Open). AllKeep setting
    (with_session state number (record { done = (session_at state number).done; now = option_map (after_visit writes phase) now })))
    (sym is)
    (moves_keep setting state state.mark number (record { done = (session_at state number).done; now = Some (after_visit writes phase current) }) all there
    (trail_all (λ (write : Write). KeepsKey setting (snapshot setting state current.begun.prefix) write.table write.pos write.cell)
    current.begun.trail writes trail h))
turn_keeps setting state number current fits all there is trail (Answers writes reply took records) h =
    subst (λ (now : Option Open). AllKeep setting
    (with_session state number (record { done = (session_at state number).done; now = option_map (after_answer writes reply took records) now })))
    (sym is)
    (moves_keep setting state state.mark number
    (record { done = (session_at state number).done; now = Some (after_answer writes reply took records current) }) all there
    (trail_all (λ (write : Write). KeepsKey setting (snapshot setting state current.begun.prefix) write.table write.pos write.cell)
    current.begun.trail writes trail h))
turn_keeps setting state number current fits all there is trail (Saves statement reply) h =
    subst (λ (now : Option Open). AllKeep setting
    (with_session state number (record { done = (session_at state number).done; now = option_map (after_saving statement reply) now })))
    (sym is)
    (moves_keep setting state state.mark number (record { done = (session_at state number).done; now = Some (after_saving statement reply current) })
    all there trail)
turn_keeps setting state number current fits all there is trail Enters h =
    subst (λ (now : Option Open). AllKeep setting (moved_to state (order_with setting state number now) (Some number) number
    (record { done = (session_at state number).done; now = option_map (after_visit [] (Stamping 0)) now })))
    (sym is) (enters setting state number current fits all there is)
turn_keeps setting state number current fits all there is trail (Ends ending) h =
    moves_keep setting state None number
    (record { done = done_with ending (session_at state number).done (session_at state number).now; now = None }) all there tt

-- ---- steps

takes_keeps : (setting : Setting) (state : State) → TablesAreFitted setting → (number : ℕ) (txn : Txn) (current : Open) → AllKeep setting state
    → TakesTurn setting state number txn current
    → AllKeep setting (after_turn setting state number (phase_turn setting state number txn current.begun current.phase)).0
takes_keeps setting state fit number txn current all takes =
    turn_keeps setting state number current takes.fits all takes.there takes.is trail (phase_turn setting state number txn current.begun current.phase)
    (phase_keeps setting state number txn current.begun current.phase
    (statements_so (FitsStatement setting.shapes) setting number (length (session_at state number).done) txn fit.statements takes.at)
    (sees_keys setting state current.begun passing.low takes.present.own (reached_trails setting state takes.reached number current takes.is) trail))
  where
    trail : WritesKeep setting (snapshot setting state current.begun.prefix) current.begun.trail
    trail = subst (NowKeeps setting state.order) takes.is (all number)

    passing : OpenPasses setting state.order current
    passing = subst (NowPasses setting state.order) takes.is ((reached_passes setting state takes.reached).sessions number).now

reached_all : (setting : Setting) (state : State) → TablesAreFitted setting → IsReached setting state → AllKeep setting state
reached_all setting state fit = reached_by setting (AllKeep setting) (record {
  begins = λ state number txn all may.
      moves_keep setting state state.mark number
      (record { done = (session_at state number).done; now = Some (record { begun = beginning setting state; phase = Working 0 0 }) }) all may.there tt;
  turns = λ state number txn current all takes. takes_keeps setting state fit number txn current all takes;
}) (λ number. subst (λ (session : Session). NowKeeps setting [] session.now) (sym (fresh_at setting number)) tt) state

pub reached_keys : ReachedKeysStay
reached_keys setting state fit r number current is count table pos column row new key stood own =
    first_own_keeps setting (snapshot setting state current.begun.prefix) current.begun.trail count
    (subst (NowKeeps setting state.order) is (reached_all setting state fit r number)) table pos (Some new) own row new stood refl column key
