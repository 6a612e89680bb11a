-- In each state that the machine comes to, each entry is of a transaction that committed at its rank, or of the marked one.
use Rattle.std.proofs.Common.{◌≡◌, ℕ, zero, suc, ◌-◌, List, [], ◌∷◌, Option, None, Some, true, length, refl, ap}
use Rattle.std.specs.Prelude.{slice_get}
use Rattle.std.proofs.lemmas.Option.{same_Some}
use Rattle.hy_stamp.specs.declared.Label.{Label}
use Rattle.hy_machine.specs.declared.Setting.{Setting}
use Rattle.hy_protocol.specs.declared.Phase.{Phase}
use Rattle.hy_protocol.specs.declared.Phase.TheVariants.{Working, Stamping, Undoing}
use Rattle.hy_protocol.specs.Turns.{is_stamping}
use Rattle.hy_machine.specs.States.{State, Open, Begun}
use Rattle.hy_machine.specs.Tables.{Entry}
use Rattle.hy_machine.specs.Sessions.{session_at, label_of}
use Rattle.hy_machine.specs.Runs.{IsReached}
use Rattle.hy_machine.specs.Kept.{IsNow, IsRanked, committed, entered, Ranks}
use Rattle.hy_lawful.proofs.Fits.{label_at, PhaseFits, Ranked, Stamps, NowStamps, Fits}
use Rattle.hy_lawful.proofs.Fits as fit
use Rattle.hy_lawful.proofs.Reached.{reached_fits}
use Rattle.hy_lawful.proofs.KeptFits.{open_fits}

-- ---- labels and entries

label_there : (order : List Entry) (rank : ℕ) (entry : Entry) → slice_get order rank ≡ Some entry → label_at order rank ≡ Some entry.label
label_there [] rank entry e = absurd cc
label_there (first ∷ order) zero entry e = ap (λ (one : Entry). Some one.label) (same_Some first entry e)
label_there (first ∷ order) (suc rank) entry e = label_there order rank entry e

-- the entry of this label stands at a rank
record EntryOf (order : List Entry) (rank : ℕ) (label : Label) : Type 0 where
  entry : Entry
  stands : slice_get order rank ≡ Some entry
  label_is : entry.label ≡ label

entry_there : (order : List Entry) (rank : ℕ) (label : Label) → label_at order rank ≡ Some label → EntryOf order rank label
entry_there [] rank label e = absurd cc
entry_there (first ∷ order) zero label e = record { entry = first; stands = refl; label_is = same_Some first.label label e }
entry_there (first ∷ order) (suc rank) label e =
    let later : EntryOf order rank label = entry_there order rank label e in
    record { entry = later.entry; stands = later.stands; label_is = later.label_is }

-- ---- the marked session

stamping_is : (phase : Phase) → Stamps phase → is_stamping phase ≡ true
stamping_is (Working visited count) h = absurd h
stamping_is (Stamping visited) h = refl
stamping_is (Undoing visited cause) h = absurd h

-- the marked session's transaction, which is open
pub record IsMarked (state : State) (number : ℕ) : Type 0 where
  pub current : Open
  pub is : IsNow state number current
  pub stamps : Stamps current.phase

pub marked_open : (state : State) (number : ℕ) → NowStamps (session_at state number).now → IsMarked state number
marked_open state number h = by_now (session_at state number).now refl h
  where
    by_now : (now : Option Open) → (session_at state number).now ≡ now → NowStamps now → IsMarked state number
    by_now None is h = absurd h
    by_now (Some current) is h = record { current = current; is = is; stamps = h }

mark_of : (setting : Setting) (order : List Entry) (mark : Option ℕ) (number before : ℕ) (begun : Begun) (phase : Phase)
    → PhaseFits setting order mark number before begun phase → is_stamping phase ≡ true → mark ≡ Some number
mark_of setting order mark number before begun (Working visited count) h e = absurd cc
mark_of setting order mark number before begun (Stamping visited) h e = h.0
mark_of setting order mark number before begun (Undoing visited cause) h e = absurd cc

last_stands : (setting : Setting) (order : List Entry) (mark : Option ℕ) (number before : ℕ) (begun : Begun) (phase : Phase)
    → PhaseFits setting order mark number before begun phase → Stamps phase
    → label_at order (length order - 1) ≡ Some (record { session = number; txn = suc before })
last_stands setting order mark number before begun (Working visited count) h s = absurd s
last_stands setting order mark number before begun (Stamping visited) h s = h.1.stands
last_stands setting order mark number before begun (Undoing visited cause) h s = absurd s

-- ---- ranks

-- a transaction with its entry
abbrev HasRank : State → ℕ → Label → Type 0
HasRank state rank label = (begun : Begun) × IsRanked state rank label begun

ranked_kept : (setting : Setting) (state : State) → Fits setting state → (rank : ℕ) (label : Label) → Ranked state rank label → HasRank state rank label
ranked_kept setting state fits rank label (fit.ended before finished e at is) = (finished.begun, committed before finished e at is)
ranked_kept setting state fits rank label (fit.entered m e r) =
    let marked : IsMarked state label.session = marked_open state label.session (fits.marked label.session m) in
    (marked.current.begun, entered marked.current m (same e) marked.is r)
  where
    same : label.txn ≡ suc (length (session_at state label.session).done) → label ≡ label_of label.session (session_at state label.session)
    same e = ap (λ (n : ℕ). record { session = label.session; txn = n }) e

last_kept : (setting : Setting) (state : State) → IsReached setting state → (number : ℕ) → state.mark ≡ Some number
    → EntryOf state.order (length state.order - 1) (label_of number (session_at state number))
last_kept setting state r number m =
    let marked : IsMarked state number = marked_open state number ((reached_fits setting state r).marked number m) in
    entry_there state.order (length state.order - 1) (label_of number (session_at state number))
    (last_stands setting state.order state.mark number (length (session_at state number).done) marked.current.begun marked.current.phase
    (open_fits setting state r number marked.current marked.is).phase marked.stamps)

pub ranks_kept : (setting : Setting) (state : State) → IsReached setting state → Ranks state
ranks_kept setting state r = record {
  each = λ rank entry e. ranked_kept setting state (reached_fits setting state r) rank entry.label
      ((reached_fits setting state r).ranked rank entry.label (label_there state.order rank entry e));
  marked = λ number m.
      let marked : IsMarked state number = marked_open state number ((reached_fits setting state r).marked number m) in
      (marked.current, (marked.is, stamping_is marked.current.phase marked.stamps));
  stamping = λ number current is e. mark_of setting state.order state.mark number (length (session_at state number).done) current.begun current.phase
      (open_fits setting state r number current is).phase e;
  last = λ number m.
      let last : EntryOf state.order (length state.order - 1) (label_of number (session_at state number)) = last_kept setting state r number m in
      (last.entry, (last.stands, last.label_is));
}
