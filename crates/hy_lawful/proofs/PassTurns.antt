-- What a session's turn makes of its open transaction passes.
use Rattle.std.proofs.Common.{◌≡◌, ℕ, suc, ◌+◌, ◌-◌, ◌≤◌, List, [], Option, None, Some, true, is_some, length}
use Rattle.std.proofs.Common.{map, drop, refl, ap, sym, ◌∙◌, subst, arith}
use Rattle.std.specs.Prelude.{IfSome, slice_get}
use Rattle.std.proofs.lemmas.Bool.{and_parts, and_from}
use Rattle.hy_bound.specs.declared.Txn.{Txn}
use Rattle.hy_bound.specs.declared.Bound.{Bound}
use Rattle.hy_bound.specs.declared.Bound.TheVariants.{Select, Group, Insert, Update, Delete, Savepoint, RollbackTo, Release}
use Rattle.hy_bound.specs.declared.WriteKind.{WriteKind}
use Rattle.hy_bound.specs.declared.WriteKind.TheVariants as kind
use Rattle.hy_bound.specs.Condition.{Condition}
use Rattle.hy_bound.specs.Records.{shape_of}
use Rattle.hy_stamp.specs.declared.Label.{Label}
use Rattle.hy_bound.specs.declared.Ending.{Ending}
use Rattle.hy_machine.specs.declared.Setting.{Setting}
use Rattle.hy_protocol.specs.declared.Phase.{Phase}
use Rattle.hy_protocol.specs.declared.Phase.TheVariants.{Working, Stamping, Undoing}
use Rattle.hy_machine.specs.States.{State, Open, Begun}
use Rattle.hy_machine.specs.Tables.{Entry, Cell, Own, positions_in, chunk_of}
use Rattle.hy_machine.specs.Writes.{Write, with_writes, with_trail, written_chunks, is_among}
use Rattle.hy_protocol.specs.Turns.{Turn, Done, Waits, Begins, Visits, Answers, Saves, Enters, Ends}
use Rattle.hy_machine.specs.Positions.{item_at}
use Rattle.hy_machine.specs.Saving.{taken_back}
use Rattle.hy_machine.specs.Sessions.{view}
use Rattle.hy_machine.specs.Holding.{undone, holds, is_free, opponent}
use Rattle.hy_machine.specs.Validation.{committed_of, first_hit}
use Rattle.hy_machine.specs.Visits.{verdict_at, swept, checks_of}
use Rattle.hy_machine.specs.Turns.{undo_turn, stamp_turn, working_turn, phase_turn}
use Rattle.hy_machine.specs.Steps.{after_visit, after_answer, after_saving}
use Rattle.hy_lawful.specs.Outcomes.{committed_at}
use Rattle.hy_lawful.proofs.Backs.{SinceIsOwn, backs_all}
use Rattle.hy_lawful.proofs.Fits.{FitsTables, Fits}
use Rattle.hy_lawful.proofs.Opponents.{label_dropped}
use Rattle.hy_lawful.proofs.Refusals.{sweep_refuses, verdict_fails, first_hit_is, any_record, is_invalid}
use Rattle.hy_lawful.proofs.PassHolds.{own_among, fewer_among, written_is}
use Rattle.hy_lawful.proofs.PassTables.{cell_at}
use Rattle.hy_lawful.proofs.PassStates.{BornEmpty, OwnClear, Passed, IsRefusal, EndPasses, PhasePasses, HeldClear, OpenPasses, HoldsAlone, Passes}
use Rattle.hy_lawful.proofs.PassWritten.{Names, PhaseNames}
use Rattle.hy_lawful.proofs.PassRivals.{opponent_wrote}
use Rattle.hy_machine.specs.TurnCases.{WriteCases, StatementCases, CommitCases, statement_cases, undo_cases, stamp_cases, working_cases}
use Rattle.hy_lawful.proofs.PassMays.{OwnMay, AllMay, MayWrite, IsAtWork, no_opponent, swept_may, found_is, free_may}

-- an open transaction goes on as this one
abbrev pub GoesOn : Setting → State → ℕ → Open → Type 0
GoesOn setting state number new =
    OpenPasses setting state.order new × HoldsAlone setting state number (Some new) × PhaseNames state new.phase

-- a turn of an open transaction passes
abbrev pub PassesTurn : Setting → State → ℕ → Open → Turn Write → Type 0
PassesTurn setting state number current Done = Unit {0}
PassesTurn setting state number current (Waits by) = Unit {0}
PassesTurn setting state number current Begins = ⊥
PassesTurn setting state number current (Visits writes phase) = GoesOn setting state number (after_visit writes phase current)
PassesTurn setting state number current (Answers writes reply took records) =
    GoesOn setting state number (after_answer writes reply took records current)
PassesTurn setting state number current (Saves statement reply) = GoesOn setting state number (after_saving statement reply current)
PassesTurn setting state number current Enters =
    OwnMay setting state number current.begun
    × (first_hit current.begun.records (map committed_of (drop current.begun.prefix state.order)) ≡ None)
PassesTurn setting state number current (Ends ending) =
    EndPasses setting state.order (record { begun = current.begun; ending = ending }) × Names state ending

abbrev Refused : State → Begun → Ending → Type 0
Refused state begun ending = (committed_at ending ≡ None) × IsRefusal state.order begun ending × Names state ending

-- a phase that a transaction at work comes to
abbrev NextPhase : State → Begun → Phase → Type 0
NextPhase state begun (Working visited count) = Unit {0}
NextPhase state begun (Stamping visited) = ⊥
NextPhase state begun (Undoing visited cause) = Refused state begun cause

-- a turn of a transaction at work
abbrev WorkTurn : Setting → State → ℕ → Begun → Turn Write → Type 0
WorkTurn setting state number begun Done = Unit {0}
WorkTurn setting state number begun (Waits by) = Unit {0}
WorkTurn setting state number begun Begins = ⊥
WorkTurn setting state number begun (Visits writes phase) =
    AllMay setting state number begun writes
    × NextPhase state (record begun { own = with_writes begun.own writes; trail = with_trail begun.trail writes }) phase
WorkTurn setting state number begun (Answers writes reply took records) = AllMay setting state number begun writes
WorkTurn setting state number begun (Saves statement reply) = Unit {0}
WorkTurn setting state number begun Enters = first_hit begun.records (map committed_of (drop begun.prefix state.order)) ≡ None
WorkTurn setting state number begun (Ends ending) = Refused state begun ending

-- ---- statements

-- where somebody is in the way nothing is written
not_own : (setting : Setting) (state : State) (number : ℕ) (begun : Begun) (table pos : ℕ) (other : Label) → IsAtWork setting state number begun
    → opponent setting state number begun.prefix table pos ≡ Some other → (own : Option Cell) → item_at begun.own table pos ≡ own → own ≡ None
not_own setting state number begun table pos other w o None e = refl
not_own setting state number begun table pos other w o (Some cell) e =
    absurd (let never : None ≡ Some other = sym (no_opponent setting state number begun table pos (w.may table pos (ap is_some e))) ∙ o in cc)

sweep_writes : (setting : Setting) (state : State) (number : ℕ) (begun : Begun) (visited count : ℕ) (statement : Bound) (kind : WriteKind) (pred : Condition)
    (table : ℕ) → IsAtWork setting state number begun
    → WriteCases setting begun (WorkTurn setting state number begun) visited count statement kind (swept setting state number begun kind pred table visited)
sweep_writes setting state number begun visited count statement kind pred table w = record {
  out = λ cause e. (
    tt,
    sweep_refuses (λ (one : Ending). Refused state begun one) table (verdict_at setting state number begun kind pred table)
        (positions_in setting visited) cause
        (λ pos one v. verdict_fails (λ (one : Ending). Refused state begun one) kind pred table pos
        (opponent setting state number begun.prefix table pos) (item_at (view setting state begun) table pos) one
        (λ row other here t o. (
          refl,
          not_own setting state number begun table pos other w o (item_at begun.own table pos) refl,
          opponent_wrote setting state w.fits w.passes number begun.prefix table pos other o,
        ))
        (λ row here t n. (refl, tt, tt)) v)
        e,
  );
  goes = λ writes e few. (swept_may setting state number begun kind pred table visited writes w e, tt);
  ends = λ writes e. swept_may setting state number begun kind pred table visited writes w e;
}

-- what is written back is written where one has written
backs_may : (setting : Setting) (state : State) (number : ℕ) (begun : Begun) (name : List ℕ) (table chunk : ℕ) → IsAtWork setting state number begun
    → AllMay setting state number begun (taken_back setting state begun name table chunk)
backs_may setting state number begun name table chunk w =
    backs_all (λ (write : Write). MayWrite setting state number begun write.table write.pos) setting state begun name table chunk
    (λ pos since. w.may table pos (w.since name table pos since))

statement_writes : (setting : Setting) (state : State) (number : ℕ) (begun : Begun) (visited count : ℕ) (statement : Bound)
    → IsAtWork setting state number begun → StatementCases setting state number begun (WorkTurn setting state number begun) visited count statement
statement_writes setting state number begun visited count (Select tables ons pred items) w = record { goes = λ few. (tt, tt); ends = tt }
statement_writes setting state number begun visited count (Group table pred key aggregate) w = record { goes = λ few. (tt, tt); ends = tt }
statement_writes setting state number begun visited count (Insert table row) w =
    let chunk : ℕ = visited - checks_of setting (shape_of setting.shapes table).key in record {
      checked = λ few. (tt, tt);
      twice = tt;
      takes = λ pos e.
          (free_may setting state number begun table pos w.low (found_is (is_free setting state begun table) (positions_in setting chunk) pos e), tt);
      goes = λ past e few. (tt, tt);
      full = λ past e most. (tt, (refl, tt, tt));
    }
statement_writes setting state number begun visited count (Update table sets pred) w =
    sweep_writes setting state number begun visited count (Update table sets pred) (kind.Set sets) pred table w
statement_writes setting state number begun visited count (Delete table pred) w =
    sweep_writes setting state number begun visited count (Delete table pred) kind.Delete pred table w
statement_writes setting state number begun visited count (Savepoint name) w = record { waits = λ by is. tt; saves = λ free. tt }
statement_writes setting state number begun visited count (RollbackTo name) w = record {
  goes = λ chunk e. (backs_may setting state number begun name chunk.0 chunk.1 w, tt);
  ends = λ none. record { waits = λ by is. tt; saves = λ free. tt };
}
statement_writes setting state number begun visited count (Release name) w = record { waits = λ by is. tt; saves = λ free. tt }

-- ---- what closes a transaction

-- what validation refuses names its hit
hit_names : (order : List Entry) (begun : Begun) → OwnClear order begun → (cause : Ending)
    → first_hit begun.records (map committed_of (drop begun.prefix order)) ≡ Some cause → IsRefusal order begun cause
hit_names order begun clear cause e =
    first_hit_is (λ (one : Ending). first_hit begun.records (map committed_of (drop begun.prefix order)) ≡ Some one → IsRefusal order begun one)
    (λ (n : ℕ). Unit {0}) begun.records (drop begun.prefix order) cause (any_record begun.records)
    (λ i label at table pos statement q hit. record {
      hit = hit;
      rank = begun.prefix + i;
      stands = sym (label_dropped begun.prefix order i) ∙ at;
      clear = λ of there own before from to. clear of there own before from;
    }) e e

commit_writes : (setting : Setting) (state : State) (number : ℕ) (begun : Begun) → OwnClear state.order begun
    → CommitCases state number begun (WorkTurn setting state number begun)
commit_writes setting state number begun clear = record {
  waits = λ by is. tt;
  reads = λ free nothing. (refl, tt, tt);
  enters = λ free some e. e;
  out = λ some cause e. (
    tt,
    (
      is_invalid (λ (one : Ending). committed_at one ≡ None) begun.records (drop begun.prefix state.order) cause
          (λ table pos label statement. refl) e,
      hit_names state.order begun clear cause e,
      is_invalid (λ (one : Ending). Names state one) begun.records (drop begun.prefix state.order) cause
          (λ table pos label statement. tt) e,
    ),
  );
}

working_writes : (setting : Setting) (state : State) (number : ℕ) (txn : Txn) (begun : Begun) (visited count : ℕ) → IsAtWork setting state number begun
    → WorkTurn setting state number begun (working_turn setting state number txn begun visited count (slice_get txn.statements (length begun.replies)))
working_writes setting state number txn begun visited count w =
    working_cases setting state number begun (WorkTurn setting state number begun) txn visited count
    (λ statement here. statement_cases setting state number begun (WorkTurn setting state number begun) visited count statement
    (statement_writes setting state number begun visited count statement w))
    (λ none commits. commit_writes setting state number begun (λ table pos own. (w.may table pos own).clear))
    (λ none rolls. record { goes = λ few. (tt, (refl, tt, tt)); waits = λ by is. tt; ends = λ free. (refl, tt, tt) })

-- ---- what the open transaction is then

phase_clear : (setting : Setting) (state : State) (begun : Begun) (phase : Phase) → NextPhase state begun phase
    → HeldClear setting state.order (record { begun = begun; phase = phase }) → PhasePasses setting state.order begun phase
phase_clear setting state begun (Working visited count) n h = h
phase_clear setting state begun (Stamping visited) n h = absurd n
phase_clear setting state begun (Undoing visited cause) n h = (h, n.0, n.1)

phase_names : (state : State) (begun : Begun) (phase : Phase) → NextPhase state begun phase → PhaseNames state phase
phase_names state begun (Working visited count) n = tt
phase_names state begun (Stamping visited) n = tt
phase_names state begun (Undoing visited cause) n = n.2

goes_on : (setting : Setting) (state : State) (number : ℕ) (begun : Begun) (writes : List Write) (new : Open) → IsAtWork setting state number begun
    → AllMay setting state number begun writes → new.begun.own ≡ with_writes begun.own writes → new.begun.prefix ≡ begun.prefix
    → new.begun.low ≡ begun.low → NextPhase state new.begun new.phase → GoesOn setting state number new
goes_on setting state number begun writes new w all own prefix low n = (
  record {
    low = omega (arith, w.low, prefix, low);
    born = record {
      start = omega (arith, w.start, prefix);
      empty = λ table pos wrote none rank from to. (may table pos wrote).empty
          (ap (λ (n : ℕ). cell_at setting state.order n table pos) (sym prefix) ∙ none) rank (omega (arith, from, low)) (omega (arith, to, prefix));
    };
    phase = phase_clear setting state new.begun new.phase n
        (λ table pos h rank from. (may table pos (held table pos h)).clear rank (omega (arith, from, prefix)));
  },
  λ other table pos apart h. (may table pos (held table pos h)).alone other apart,
  phase_names state new.begun new.phase n,
)
  where
    held : (table pos : ℕ) → holds setting table pos (Some new) ≡ true → is_some (item_at new.begun.own table pos) ≡ true
    held table pos h = (and_parts (is_some (item_at new.begun.own table pos))
        (is_among (drop (undone new.phase) (written_chunks setting new.begun.own)) table (chunk_of setting pos)) h).0

    may : (table pos : ℕ) → is_some (item_at new.begun.own table pos) ≡ true → MayWrite setting state number begun table pos
    may table pos h = written_is (MayWrite setting state number begun) writes begun.own all w.may table pos
        (ap (λ (own : Own). is_some (item_at own table pos)) (sym own) ∙ h)

writes_pass : (setting : Setting) (state : State) (number : ℕ) (current : Open) → IsAtWork setting state number current.begun → (turn : Turn Write)
    → WorkTurn setting state number current.begun turn → PassesTurn setting state number current turn
writes_pass setting state number current w Done h = tt
writes_pass setting state number current w (Waits by) h = tt
writes_pass setting state number current w Begins h = absurd h
writes_pass setting state number current w (Visits writes phase) h =
    goes_on setting state number current.begun writes (after_visit writes phase current) w h.0 refl refl refl h.1
writes_pass setting state number current w (Answers writes reply took records) h =
    goes_on setting state number current.begun writes (after_answer writes reply took records current) w h refl refl refl tt
writes_pass setting state number current w (Saves statement reply) h =
    goes_on setting state number current.begun [] (after_saving statement reply current) w tt refl refl refl tt
writes_pass setting state number current w Enters h = (w.may, h)
writes_pass setting state number current w (Ends ending) h =
    ((subst (λ (rank : Option ℕ). IfSome rank (Passed setting state.order current.begun)) (sym h.0) tt, h.1), h.2)

-- a chunk less is held
holds_less : (setting : Setting) (begun : Begun) (visited : ℕ) (cause : Ending) (table pos : ℕ)
    → holds setting table pos (Some (record { begun = begun; phase = Undoing (suc visited) cause })) ≡ true
    → holds setting table pos (Some (record { begun = begun; phase = Undoing visited cause })) ≡ true
holds_less setting begun visited cause table pos h =
    let parts = and_parts (is_some (item_at begun.own table pos))
    (is_among (drop (suc visited) (written_chunks setting begun.own)) table (chunk_of setting pos)) h in
    and_from (is_some (item_at begun.own table pos)) (is_among (drop visited (written_chunks setting begun.own)) table (chunk_of setting pos))
    parts.0 (fewer_among visited (written_chunks setting begun.own) table (chunk_of setting pos) parts.1)

undo_passes : (setting : Setting) (state : State) (number : ℕ) (begun : Begun) (visited : ℕ) (cause : Ending) → begun.low ≤ begun.prefix
    → BornEmpty setting state.order begun → PhasePasses setting state.order begun (Undoing visited cause) → Names state cause
    → HoldsAlone setting state number (Some (record { begun = begun; phase = Undoing visited cause }))
    → PassesTurn setting state number (record { begun = begun; phase = Undoing visited cause }) (undo_turn setting state number begun visited cause)
undo_passes setting state number begun visited cause low born h named alone =
    undo_cases setting state number begun (PassesTurn setting state number (record { begun = begun; phase = Undoing visited cause })) visited cause (record {
      goes = λ few. (
        record { low = low; born = born; phase = (λ table pos held. h.0 table pos (holds_less setting begun visited cause table pos held), h.1, h.2) },
        λ other table pos apart held. alone other table pos apart (holds_less setting begun visited cause table pos held),
        named,
      );
      waits = λ by is. tt;
      ends = λ free. ((subst (λ (rank : Option ℕ). IfSome rank (Passed setting state.order begun)) (sym h.1) tt, h.2), named);
    })

stamp_passes : (setting : Setting) (state : State) (number : ℕ) (begun : Begun) (visited : ℕ) → begun.low ≤ begun.prefix
    → BornEmpty setting state.order begun → Passed setting state.order begun (length state.order - 1)
    → HoldsAlone setting state number (Some (record { begun = begun; phase = Stamping visited }))
    → PassesTurn setting state number (record { begun = begun; phase = Stamping visited }) (stamp_turn setting state begun visited)
stamp_passes setting state number begun visited low born passed alone =
    stamp_cases setting state number begun (PassesTurn setting state number (record { begun = begun; phase = Stamping visited })) visited
    (λ few. (record { low = low; born = born; phase = passed }, alone, tt)) ((passed, tt), tt)

-- the turn of an open transaction
pub phase_passes : (setting : Setting) (state : State) → Fits setting state → Passes setting state → (number : ℕ) (txn : Txn) (begun : Begun)
    → FitsTables setting begun.own → SinceIsOwn setting begun → (phase : Phase)
    → OpenPasses setting state.order (record { begun = begun; phase = phase })
    → HoldsAlone setting state number (Some (record { begun = begun; phase = phase })) → PhaseNames state phase
    → PassesTurn setting state number (record { begun = begun; phase = phase }) (phase_turn setting state number txn begun phase)
phase_passes setting state fits passes number txn begun own since (Working visited count) present alone named =
    let works : IsAtWork setting state number begun = record {
      fits = fits;
      passes = passes;
      own = own;
      low = present.low;
      start = present.born.start;
      since = since;
      may = λ table pos e.
          let held : holds setting table pos (Some (record { begun = begun; phase = Working visited count })) ≡ true =
          and_from (is_some (item_at begun.own table pos)) (is_among (written_chunks setting begun.own) table (chunk_of setting pos)) e
          (own_among setting begun.own table pos own e) in
          record {
            clear = present.phase table pos held;
            alone = λ other apart. alone other table pos apart held;
            empty = present.born.empty table pos e;
          };
    } in
    writes_pass setting state number (record { begun = begun; phase = Working visited count }) works
    (working_turn setting state number txn begun visited count (slice_get txn.statements (length begun.replies)))
    (working_writes setting state number txn begun visited count works)
phase_passes setting state fits passes number txn begun own since (Stamping visited) present alone named =
    stamp_passes setting state number begun visited present.low present.born present.phase alone
phase_passes setting state fits passes number txn begun own since (Undoing visited cause) present alone named =
    undo_passes setting state number begun visited cause present.low present.born present.phase named alone
