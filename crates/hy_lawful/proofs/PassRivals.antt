-- Whoever is in the way of a write has written the position.
use Rattle.std.proofs.Common.{◌≡◌, ℕ, suc, ◌+◌, ◌-◌, List, [], ◌∷◌, Option, None, Some, true, is_some, length, drop, cond}
use Rattle.std.proofs.Common.{refl, ap, sym, ◌∙◌, subst, arith, inl, inr, zero-add}
use Rattle.std.specs.Prelude.{IfSome}
use Rattle.std.proofs.lemmas.Bool.{and_parts}
use Rattle.hy_stamp.specs.declared.Label.{Label}
use Rattle.hy_bound.specs.declared.Ending.{Ending}
use Rattle.hy_machine.specs.declared.Setting.{Setting}
use Rattle.hy_protocol.specs.declared.Phase.{Phase}
use Rattle.hy_protocol.specs.declared.Phase.TheVariants.{Working, Stamping, Undoing}
use Rattle.hy_machine.specs.States.{State, Session, Open}
use Rattle.hy_machine.specs.Tables.{Entry, Pair, chunk_of}
use Rattle.hy_machine.specs.Positions.{item_at, last_some}
use Rattle.hy_machine.specs.Writes.{written_chunks, is_among}
use Rattle.hy_machine.specs.Sessions.{session_at}
use Rattle.hy_machine.specs.Holding.{undone, holds, holder_from, changes_row, changer_at, opponent}
use Rattle.hy_lawful.specs.Outcomes.{committed_at}
use Rattle.hy_lawful.proofs.Lists.{or_some, chosen, one_of}
use Rattle.hy_lawful.proofs.Fits.{label_at, Ranked, ended, entered, Stamps, NowStamps, Fits}
use Rattle.hy_lawful.proofs.Opponents.{holder_is, label_dropped}
use Rattle.hy_lawful.proofs.PassTables.{pair_at}
use Rattle.hy_lawful.proofs.PassHits.{dropped_pair}
use Rattle.hy_lawful.proofs.PassWritten.{WrittenIn, by_ended, by_open, HasWritten}
use Rattle.hy_lawful.proofs.PassStates.{Passed, EndPasses, PhasePasses, NowPasses, Passes}

pub changer_pair : (P : Label → Type 0) (table pos : ℕ) (entries : List Entry) (label : Label)
    → ((i : ℕ) (one : Label) (pair : Pair) → label_at entries i ≡ Some one → pair_at entries i table pos ≡ Some pair → P one)
    → last_some (changer_at table pos) entries ≡ Some label → P label
changer_pair P table pos [] label f e = absurd cc
changer_pair P table pos (entry ∷ entries) label f e =
    elim (or_some (last_some (changer_at table pos) entries) (changer_at table pos entry) label e) [
      | inl h ↦ changer_pair P table pos entries label (λ i one. f (suc i) one) h
      | inr h ↦ by_item (item_at entry.cells table pos) refl h
    ]
  where
    by_item : (item : Option Pair) → item_at entry.cells table pos ≡ item → cond (changes_row item) (Some entry.label) None ≡ Some label → P label
    by_item None i h = absurd cc
    by_item (Some pair) i h = subst P (chosen (changes_row (Some pair)) entry.label label h) (f 0 entry.label pair refl i)

-- what is held has been written
held_written : (setting : Setting) (table pos : ℕ) (session : Session) (now : Option Open) → session.now ≡ now → holds setting table pos now ≡ true
    → WrittenIn session (suc (length session.done)) table pos
held_written setting table pos session None is h = absurd cc
held_written setting table pos session (Some current) is h =
    by_open current refl is (and_parts (is_some (item_at current.begun.own table pos))
    (is_among (drop (undone current.phase) (written_chunks setting current.begun.own)) table (chunk_of setting pos)) h).0

stamped_written : (setting : Setting) (order : List Entry) (rank table pos : ℕ) (pair : Pair) (session : Session) (now : Option Open)
    → session.now ≡ now → NowStamps now → NowPasses setting order now → suc rank ≡ length order → pair_at order rank table pos ≡ Some pair
    → WrittenIn session (suc (length session.done)) table pos
stamped_written setting order rank table pos pair session None is s h r e = absurd s
stamped_written setting order rank table pos pair session (Some current) is s h r e = by_open current refl is (by_phase current.phase s h.phase)
  where
    by_phase : (phase : Phase) → Stamps phase → PhasePasses setting order current.begun phase → is_some (item_at current.begun.own table pos) ≡ true
    by_phase (Working visited count) t p = absurd t
    by_phase (Stamping visited) t p =
        p.wrote table pos pair (ap (λ (n : ℕ). pair_at order n table pos) (let same : length order - 1 ≡ rank = omega (arith, r) in same) ∙ e)
    by_phase (Undoing visited cause) t p = absurd t

entry_written : (setting : Setting) (state : State) → Fits setting state → Passes setting state → (rank table pos : ℕ) (label : Label) (pair : Pair)
    → pair_at state.order rank table pos ≡ Some pair → Ranked state rank label → HasWritten state label table pos
entry_written setting state fits passes rank table pos label pair e (ended before finished is at ending) =
    let one : EndPasses setting state.order finished =
    one_of (EndPasses setting state.order) (session_at state label.session).done (passes.sessions label.session).done before finished at in
    let passed : Passed setting state.order finished.begun rank =
    subst (λ (ending : Ending). IfSome (committed_at ending) (Passed setting state.order finished.begun)) ending one.0 in
    by_ended before finished is at (passed.wrote table pos pair e)
entry_written setting state fits passes rank table pos label pair e (entered m is r) =
    subst (λ (txn : ℕ). WrittenIn (session_at state label.session) txn table pos) (sym is)
    (stamped_written setting state.order rank table pos pair (session_at state label.session) (session_at state label.session).now refl
    (fits.marked label.session m) (passes.sessions label.session).now r e)

-- whoever is in the way has written the position
pub opponent_wrote : (setting : Setting) (state : State) → Fits setting state → Passes setting state → (number prefix table pos : ℕ) (other : Label)
    → opponent setting state number prefix table pos ≡ Some other → HasWritten state other table pos
opponent_wrote setting state fits passes number prefix table pos other e =
    elim (or_some (holder_from setting number table pos 0 state.sessions) (last_some (changer_at table pos) (drop prefix state.order)) other e) [
      | inl h ↦ holder_is (λ (label : Label). HasWritten state label table pos) setting number table pos 0 state.sessions other
          (λ i apart held. subst (λ (n : ℕ). WrittenIn (session_at state n) (suc (length (session_at state i).done)) table pos) (sym (zero-add i))
          (held_written setting table pos (session_at state i) (session_at state i).now refl held)) h
      | inr c ↦ changer_pair (λ (label : Label). HasWritten state label table pos) table pos (drop prefix state.order) other
          (λ i one pair at there. entry_written setting state fits passes (prefix + i) table pos one pair
          (sym (dropped_pair prefix state.order i table pos) ∙ there)
          (fits.ranked (prefix + i) one (sym (label_dropped prefix state.order i) ∙ at))) c
    ]
