-- In each state that the machine comes to, those that have committed were passed unseen.
use Rattle.std.proofs.Common.{◌≡◌, ℕ, zero, suc, ◌-◌, ◌<◌, ◌≤◌, List, [], ◌∷◌, ◌++◌, Option, None, Some, true, false, is_some, length, map, drop}
use Rattle.std.proofs.Common.{get_or, replicate, refl, ap, sym, ◌∙◌, subst, arith}
use Rattle.std.specs.Option.{option_map}
use Rattle.std.proofs.lemmas.Bool.{and_parts}
use Rattle.std.proofs.lemmas.List.{length-append}
use Rattle.std.proofs.lemmas.Option.{IfSome_then}
use Rattle.hy_value.specs.declared.Value.{Value}
use Rattle.hy_bound.specs.declared.Ending.{Ending}
use Rattle.hy_machine.specs.declared.Setting.{Setting}
use Rattle.hy_protocol.specs.declared.Phase.TheVariants.{Working, Stamping}
use Rattle.hy_machine.specs.States.{State, Session, Open, Finished}
use Rattle.hy_machine.specs.Tables.{Entry, Cell, capacity, chunk_of}
use Rattle.hy_protocol.specs.Turns.{Turn, Done, Waits, Begins, Visits, Answers, Saves, Enters, Ends}
use Rattle.hy_machine.specs.Turns.{phase_turn}
use Rattle.hy_machine.specs.Positions.{item_at}
use Rattle.hy_machine.specs.Writes.{Write, blank_own, written_chunks, is_among}
use Rattle.hy_machine.specs.Sessions.{session_at, least_with, least_prefix, entry_of}
use Rattle.hy_machine.specs.Holding.{holds}
use Rattle.hy_machine.specs.Validation.{committed_of, first_hit}
use Rattle.hy_machine.specs.Steps.{with_session, beginning, after_visit, after_answer, after_saving, done_with, order_with, after_turn}
use Rattle.hy_machine.specs.Runs.{opening_of, IsReached}
use Rattle.hy_lawful.specs.Outcomes.{committed_at}
use Rattle.hy_lawful.specs.Reached.{ReachedPassUnseen}
use Rattle.hy_lawful.proofs.Lists.{all_more, one_of}
use Rattle.hy_lawful.proofs.Backs.{since_own}
use Rattle.hy_lawful.proofs.Fits.{PhaseFits, OpenFits, NowFits, Fits}
use Rattle.hy_lawful.proofs.Moves.{moved_to}
use Rattle.hy_lawful.proofs.Turns.{FitsTurn}
use Rattle.hy_lawful.proofs.Reached.{fresh_at}
use Rattle.hy_lawful.proofs.ReachedBy.{reached_by}
use Rattle.hy_lawful.proofs.PassTables.{pair_at}
use Rattle.hy_lawful.proofs.PassStates.{BornEmpty, born_grows}
use Rattle.hy_lawful.proofs.PassStates.{Passed, EndPasses, OpenPasses, NowPasses, SessionPasses, Passes, passes_moved, done_grows, session_grows, NowSpared}
use Rattle.hy_lawful.proofs.PassStates.{IsEntry, entry_pair, befores_grow, entered_passed}
use Rattle.hy_lawful.proofs.PassWritten.{keeps_open, keeps_begun, keeps_ended, writes_keep, Names, NowNames, SessionNames}
use Rattle.hy_lawful.proofs.PassMays.{OwnMay}
use Rattle.hy_lawful.proofs.PassTurns.{GoesOn, PassesTurn, phase_passes}

-- ---- a transaction begins

with_below : (least : ℕ) (now : Option Open) → least_with least now ≤ least
with_below least None = omega arith
with_below least (Some current) = omega arith

pub least_below : (least : ℕ) (sessions : List Session) → least_prefix least sessions ≤ least
least_below least [] = omega arith
least_below least (session ∷ sessions) = omega (arith, least_below (least_with least session.now) sessions, with_below least session.now)

past_order : (order : List Entry) (rank table pos : ℕ) → length order ≤ rank → pair_at order rank table pos ≡ None
past_order [] rank table pos h = refl
past_order (entry ∷ order) zero table pos h = absurd (omega (arith, h))
past_order (entry ∷ order) (suc rank) table pos h = past_order order rank table pos (omega (arith, h))

blank_cells : (n pos : ℕ) → get_or (replicate {A = Option Cell} n None) pos None ≡ None
blank_cells zero pos = refl
blank_cells (suc n) zero = refl
blank_cells (suc n) (suc pos) = blank_cells n pos

pub blank_items : (n : ℕ) (rows : List (List (List Value))) (table pos : ℕ) → item_at (map (λ one. replicate {A = Option Cell} n None) rows) table pos ≡ None
blank_items n [] table pos = refl
blank_items n (one ∷ rows) zero pos = blank_cells n pos
blank_items n (one ∷ rows) (suc table) pos = blank_items n rows table pos

blank_not : (setting : Setting) (table pos : ℕ) → is_some (item_at (blank_own setting) table pos) ≡ true → ⊥
blank_not setting table pos some =
    let none : item_at (blank_own setting) table pos ≡ None = blank_items (capacity setting) setting.first table pos in
    let never : is_some (item_at (blank_own setting) table pos) ≡ false = ap is_some none in
    absurd cc

blank_free : (setting : Setting) (state : State) (table pos : ℕ)
    → holds setting table pos (Some (record { begun = beginning setting state; phase = Working 0 0 })) ≡ true → ⊥
blank_free setting state table pos h =
    blank_not setting table pos (and_parts (is_some (item_at (blank_own setting) table pos))
    (is_among (written_chunks setting (blank_own setting)) table (chunk_of setting pos)) h).0

begins : (setting : Setting) (state : State) (number : ℕ) → Passes setting state → number < length state.sessions
    → (session_at state number).now ≡ None → Passes setting (after_turn setting state number Begins).0
begins setting state number passes there is =
    passes_moved setting state state.order state.mark number
    (record { done = (session_at state number).done; now = Some (record { begun = beginning setting state; phase = Working 0 0 }) }) there passes.befores
    (record {
      done = (passes.sessions number).done;
      now = record {
        low = least_below (length state.order) state.sessions;
        born = record {
          start = let whole : length state.order ≤ length state.order = omega arith in whole;
          empty = λ table pos own. absurd (blank_not setting table pos own);
        };
        phase = λ table pos h rank from. past_order state.order rank table pos from;
      };
    })
    (λ other apart. passes.sessions other) (λ other table pos apart h. absurd (blank_free setting state table pos h))
    (keeps_begun (session_at state number) (record { begun = beginning setting state; phase = Working 0 0 }) is)
    (record { done = (passes.names number).done; now = tt }) passes

-- ---- a transaction goes on

-- what a session is that is open
record IsOpen (setting : Setting) (state : State) (number : ℕ) (current : Open) : Type 0 where
  fits : Fits setting state
  passes : Passes setting state
  there : number < length state.sessions
  is : (session_at state number).now ≡ Some current
  low : current.begun.low ≤ current.begun.prefix
  born : BornEmpty setting state.order current.begun

goes : (setting : Setting) (state : State) (number : ℕ) (current new : Open) → IsOpen setting state number current → GoesOn setting state number new
    → ((table pos : ℕ) → is_some (item_at current.begun.own table pos) ≡ true → is_some (item_at new.begun.own table pos) ≡ true)
    → Passes setting (moved_to state state.order state.mark number (record { done = (session_at state number).done; now = Some new }))
goes setting state number current new o h more =
    passes_moved setting state state.order state.mark number (record { done = (session_at state number).done; now = Some new }) o.there o.passes.befores
    (record { done = (o.passes.sessions number).done; now = h.0 }) (λ other apart. o.passes.sessions other) h.1
    (keeps_open (session_at state number) current new o.is more) (record { done = (o.passes.names number).done; now = h.2 }) o.passes

not_stamping : (setting : Setting) (state : State) (number before : ℕ) (current : Open) → (state.mark ≡ Some number → ⊥)
    → PhaseFits setting state.order state.mark number before current.begun current.phase → (visited : ℕ) → current.phase ≡ Stamping visited → ⊥
not_stamping setting state number before current free fits visited e =
    free (subst (PhaseFits setting state.order state.mark number before current.begun) e fits).0

enters : (setting : Setting) (state : State) (number : ℕ) (current : Open) → IsOpen setting state number current
    → OwnMay setting state number current.begun → first_hit current.begun.records (map committed_of (drop current.begun.prefix state.order)) ≡ None
    → ((other : ℕ) → state.mark ≡ Some other → ⊥)
    → Passes setting (moved_to state (state.order ++ entry_of setting state number current.begun ∷ []) (Some number) number
    (record { done = (session_at state number).done; now = Some (after_visit [] (Stamping 0) current) }))
enters setting state number current o may hit free =
    passes_moved setting state (state.order ++ entry ∷ []) (Some number) number
    (record { done = (session_at state number).done; now = Some (after_visit [] (Stamping 0) current) }) o.there
    (befores_grow setting state.order current.begun entry is_entry)
    (record {
      done = done_grows setting state.order (entry ∷ []) (session_at state number).done (o.passes.sessions number).done;
      now = record {
        low = o.low;
        born = born_grows setting state.order (entry ∷ []) current.begun o.born;
        phase = subst (Passed setting (state.order ++ entry ∷ []) current.begun)
            (let e : length state.order ≡ length (state.order ++ entry ∷ []) - 1 = omega (arith, length-append state.order (entry ∷ [])) in e)
            (entered_passed setting state.order current.begun entry is_entry hit);
      };
    })
    (λ other apart. session_grows setting state.order entry (session_at state other) (o.passes.sessions other)
    (spared other apart (session_at state other).now refl))
    (λ other table pos apart h. (may table pos (and_parts (is_some (item_at current.begun.own table pos))
    (is_among (written_chunks setting current.begun.own) table (chunk_of setting pos)) h).0).alone other apart)
    (keeps_open (session_at state number) current (after_visit [] (Stamping 0) current) o.is (λ table pos own. own))
    (record { done = (o.passes.names number).done; now = tt })
    o.passes
  where
    entry : Entry
    entry = entry_of setting state number current.begun

    is_entry : IsEntry setting state.order current.begun (entry_of setting state number current.begun)
    is_entry = record {
      fit = o.fits.cells;
      befores = o.passes.befores;
      born = o.born;
      clear = λ table pos own. (may table pos own).clear;
      cells = refl;
    }

    spared : (other : ℕ) → (other ≡ number → ⊥) → (now : Option Open) → (session_at state other).now ≡ now
        → NowSpared setting (entry_of setting state number current.begun) now
    spared other apart None e = tt
    spared other apart (Some one) e = (
      λ table pos pair h p.
          (may table pos (entry_pair setting state.order current.begun (entry_of setting state number current.begun) is_entry table pos pair p).0).alone
          other apart (ap (holds setting table pos) e ∙ h),
      let present : OpenFits setting state.order state.mark other (session_at state other).done one =
          subst (NowFits setting state.order state.mark other (session_at state other).done) e (o.fits.sessions other).now in
          not_stamping setting state other (length (session_at state other).done) one (free other) present.phase,
    )

ends : (setting : Setting) (state : State) (number : ℕ) (current : Open) (ending : Ending) → IsOpen setting state number current
    → EndPasses setting state.order (record { begun = current.begun; ending = ending }) → Names state ending
    → Passes setting (moved_to state state.order None number
    (record { done = (session_at state number).done ++ record { begun = current.begun; ending = ending } ∷ []; now = None }))
ends setting state number current ending o h named =
    passes_moved setting state state.order None number
    (record { done = (session_at state number).done ++ record { begun = current.begun; ending = ending } ∷ []; now = None }) o.there o.passes.befores
    (record {
      done = all_more (EndPasses setting state.order) (session_at state number).done (record { begun = current.begun; ending = ending })
          (o.passes.sessions number).done h;
      now = tt;
    })
    (λ other apart. o.passes.sessions other) (λ other table pos apart held. absurd cc) (keeps_ended (session_at state number) current ending o.is)
    (record {
      done = all_more (λ (finished : Finished). Names state finished.ending) (session_at state number).done
          (record { begun = current.begun; ending = ending }) (o.passes.names number).done named;
      now = tt;
    })
    o.passes

turn_passes : (setting : Setting) (state : State) (number : ℕ) (current : Open) → IsOpen setting state number current → (turn : Turn Write)
    → FitsTurn setting state number current.begun turn → PassesTurn setting state number current turn
    → Passes setting (after_turn setting state number turn).0
turn_passes setting state number current o Done f h = o.passes
turn_passes setting state number current o (Waits by) f h = o.passes
turn_passes setting state number current o Begins f h = absurd h
turn_passes setting state number current o (Visits writes phase) f h =
    subst (λ (now : Option Open). Passes setting
    (with_session state number (record { done = (session_at state number).done; now = option_map (after_visit writes phase) now })))
    (sym o.is) (goes setting state number current (after_visit writes phase current) o h (writes_keep current.begun.own writes))
turn_passes setting state number current o (Answers writes reply took records) f h =
    subst (λ (now : Option Open). Passes setting
    (with_session state number (record { done = (session_at state number).done; now = option_map (after_answer writes reply took records) now })))
    (sym o.is) (goes setting state number current (after_answer writes reply took records current) o h (writes_keep current.begun.own writes))
turn_passes setting state number current o (Saves statement reply) f h =
    subst (λ (now : Option Open). Passes setting
    (with_session state number (record { done = (session_at state number).done; now = option_map (after_saving statement reply) now })))
    (sym o.is) (goes setting state number current (after_saving statement reply current) o h (λ table pos own. own))
turn_passes setting state number current o Enters f h =
    subst (λ (now : Option Open). Passes setting (moved_to state (order_with setting state number now) (Some number) number
    (record { done = (session_at state number).done; now = option_map (after_visit [] (Stamping 0)) now })))
    (sym o.is) (enters setting state number current o h.0 h.1 f.1)
turn_passes setting state number current o (Ends ending) f h =
    subst (λ (now : Option Open). Passes setting
    (moved_to state state.order None number (record { done = done_with ending (session_at state number).done now; now = None })))
    (sym o.is) (ends setting state number current ending o h.0 h.1)

-- ---- the opening

opening_passes : (setting : Setting) → Passes setting (opening_of setting)
opening_passes setting = record {
  befores = λ rank table pos pair e. absurd cc;
  sessions = λ number. subst (SessionPasses setting []) (sym (fresh_at setting number)) (record { done = tt; now = tt });
  alone = λ number other table pos apart h. absurd
      (let never : holds setting table pos None ≡ true =
      ap (λ (session : Session). holds setting table pos session.now) (sym (fresh_at setting number)) ∙ h in cc);
  names = λ number. subst (SessionNames (opening_of setting)) (sym (fresh_at setting number)) (record { done = tt; now = tt });
}

-- ---- steps

pub reached_passes : (setting : Setting) (state : State) → IsReached setting state → Passes setting state
reached_passes setting = reached_by setting (Passes setting) (record {
  begins = λ state number txn passes may. begins setting state number passes may.there may.rests;
  turns = λ state number txn current passes takes.
      let passing : OpenPasses setting state.order current = subst (NowPasses setting state.order) takes.is (passes.sessions number).now in
      turn_passes setting state number current
      (record { fits = takes.fits; passes = passes; there = takes.there; is = takes.is; low = passing.low; born = passing.born })
      (phase_turn setting state number txn current.begun current.phase) takes.turn
      (phase_passes setting state takes.fits passes number txn current.begun takes.present.own
      (since_own setting state takes.reached number current takes.is) current.phase passing
      (λ other table pos apart h. passes.alone number other table pos apart (ap (holds setting table pos) takes.is ∙ h))
      (subst (NowNames state) takes.is (passes.names number).now));
}) (opening_passes setting)

pub reached_pass : ReachedPassUnseen
reached_pass setting state r number before finished e =
    IfSome_then (committed_at finished.ending)
    (one_of (EndPasses setting state.order) (session_at state number).done ((reached_passes setting state r).sessions number).done before finished e).0
    (λ rank p. record { unseen = p.unseen; lays = p.lays })
