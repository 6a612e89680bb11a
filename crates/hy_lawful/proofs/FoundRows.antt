-- Where a row stood at a position at the start of a transaction, whoever is in the way of its write there found one too.
use Rattle.std.proofs.Common.{◌≡◌, ℕ, suc, ◌+◌, ◌-◌, ◌<◌, ◌≤◌, List, Option, None, Some, true, is_some, length, drop, refl, ap, sym, ◌∙◌, subst}
use Rattle.std.proofs.Common.{arith, inl, inr, zero-add}
use Rattle.std.specs.Prelude.{slice_get, IfSome}
use Rattle.std.proofs.lemmas.Bool.{cases_lt}
use Rattle.hy_stamp.specs.declared.Label.{Label}
use Rattle.hy_bound.specs.declared.Ending.{Ending}
use Rattle.hy_machine.specs.declared.Setting.{Setting}
use Rattle.hy_protocol.specs.declared.Phase.{Phase}
use Rattle.hy_protocol.specs.declared.Phase.TheVariants.{Working, Stamping, Undoing}
use Rattle.hy_machine.specs.States.{State, Open, Begun}
use Rattle.hy_machine.specs.Tables.{Entry, Pair, Cell, Tables, chunk_of}
use Rattle.hy_machine.specs.Positions.{item_at, last_some}
use Rattle.hy_machine.specs.Writes.{written_chunks, is_among}
use Rattle.hy_machine.specs.Sessions.{session_at, label_of}
use Rattle.hy_machine.specs.Holding.{undone, holds, holder_from, changer_at, opponent}
use Rattle.hy_lawful.specs.Outcomes.{committed_at}
use Rattle.hy_lawful.proofs.Booleans.{and_left}
use Rattle.hy_lawful.proofs.Fits.{OpenFits, NowFits, PhaseFits, Ranked, ended, entered, NowStamps, Fits}
use Rattle.hy_lawful.proofs.Lists.{one_of, or_some}
use Rattle.hy_lawful.proofs.Opponents.{holder_is, label_dropped}
use Rattle.hy_lawful.proofs.PassTables.{cell_at, pair_at, stays_to, tables_grow}
use Rattle.hy_lawful.proofs.PassHits.{dropped_pair}
use Rattle.hy_lawful.proofs.PassStates.{BornEmpty, Passed, untouched, EndPasses, PhasePasses, OpenPasses, NowPasses}
use Rattle.hy_lawful.proofs.PassRivals.{changer_pair}
use Rattle.hy_lawful.proofs.FullKeeps.{beguns_from, beguns_of, HasBegun, ended_begun, open_begun, StillHas, Goes}
use Rattle.hy_lawful.proofs.FullMarks.{NowBefore}
use Rattle.hy_lawful.proofs.FoundLows.{NowLow, EndLow, SessionLow, LowsUnder}
use Rattle.hy_lawful.proofs.FullRoom.{AtWork}

-- ---- rows that were found

-- a begun transaction found a row at a position, at its start
pub record FoundRow (setting : Setting) (state : State) (other : Label) (table pos : ℕ) : Type 0 where
  pub after : ℕ
  pub is : other.txn ≡ suc after
  pub begun : Begun
  pub has : HasBegun state other.session after begun
  pub start : begun.prefix ≤ length state.order
  pub row : is_some (cell_at setting state.order begun.prefix table pos) ≡ true

-- where a row stood at a start, another transaction found one too
abbrev pub FindsToo : Setting → State → ℕ → ℕ → ℕ → Label → Type 0
FindsToo setting state start table pos other =
    is_some (cell_at setting state.order start table pos) ≡ true → FoundRow setting state other table pos

cell_goes : (setting : Setting) (state later : State) → Goes state later → (rank table pos : ℕ) → rank ≤ length state.order
    → cell_at setting later.order rank table pos ≡ cell_at setting state.order rank table pos
cell_goes setting state later g rank table pos within =
    ap (λ (order : List Entry). cell_at setting order rank table pos) g.order
    ∙ ap (λ (tables : Tables). item_at tables table pos) (tables_grow setting state.order g.entries rank within)

found_goes : (setting : Setting) (state later : State) → Goes state later → (other : Label) (table pos : ℕ) → FoundRow setting state other table pos
    → FoundRow setting later other table pos
found_goes setting state later g other table pos h =
    let still : StillHas (beguns_of (session_at later other.session)) h.after h.begun = g.keeps other.session h.after h.begun h.has in
    record {
      after = h.after;
      is = h.is;
      begun = still.later;
      has = still.has;
      start = omega (arith, still.gone.prefix, h.start, g.starts.order);
      row = ap (λ (n : ℕ). is_some (cell_at setting later.order n table pos)) still.gone.prefix
          ∙ (ap is_some (cell_goes setting state later g h.begun.prefix table pos h.start) ∙ h.row);
    }

pub finds_go : (setting : Setting) (state later : State) → Goes state later → (start table pos : ℕ) (other : Label) → start ≤ length state.order
    → FindsToo setting state start table pos other → FindsToo setting later start table pos other
finds_go setting state later g start table pos other within h row =
    found_goes setting state later g other table pos (h (ap is_some (sym (cell_goes setting state later g start table pos within)) ∙ row))

-- ---- one that wrote a position

-- a transaction wrote a position, and no entry between its start and another one does anything there; its watermark lies at
-- this other start or below it
record WroteThere (setting : Setting) (state : State) (other : Label) (table pos start : ℕ) : Type 0 where
  after : ℕ
  is : other.txn ≡ suc after
  begun : Begun
  has : HasBegun state other.session after begun
  own : is_some (item_at begun.own table pos) ≡ true
  low : begun.low ≤ start
  born : BornEmpty setting state.order begun
  clear : (rank : ℕ) → begun.prefix ≤ rank → rank < start → pair_at state.order rank table pos ≡ None

not_both : (cell : Cell) → cell ≡ None → is_some cell ≡ true → ⊥
not_both None e h = absurd cc
not_both (Some row) e h = absurd cc

found_by : (setting : Setting) (state : State) → Fits setting state → (other : Label) (table pos start : ℕ)
    → WroteThere setting state other table pos start → FindsToo setting state start table pos other
found_by setting state fits other table pos start w row = record {
  after = w.after;
  is = w.is;
  begun = w.begun;
  has = w.has;
  start = w.born.start;
  row = by_cell (cell_at setting state.order w.begun.prefix table pos) refl;
}
  where
    at_start : cell_at setting state.order w.begun.prefix table pos ≡ None → cell_at setting state.order start table pos ≡ None
    at_start none = elim (cases_lt w.begun.prefix start) [
      | inl before ↦
          let last : start ≡ w.begun.prefix + (start - w.begun.prefix) = omega (arith, before) in
          ap (λ (n : ℕ). cell_at setting state.order n table pos) last
          ∙ (stays_to setting state.order fits.cells w.begun.prefix table pos (start - w.begun.prefix)
          (λ rank from below. w.clear rank from (omega (arith, below, before))) ∙ none)
      | inr since ↦ w.born.empty table pos w.own none start w.low since
    ]

    by_cell : (cell : Cell) → cell_at setting state.order w.begun.prefix table pos ≡ cell → is_some cell ≡ true
    by_cell None e = absurd (not_both (cell_at setting state.order start table pos) (at_start e) row)
    by_cell (Some row) e = refl

-- ---- whoever is in the way

-- what an open transaction comes upon
lows_of : (setting : Setting) (state : State) (number : ℕ) (current : Open) → AtWork setting state number current → (other : ℕ)
    → SessionLow current.begun.prefix (session_at state other)
lows_of setting state number current w other = subst (LowsUnder state) w.is (w.lows number) other

-- an open transaction's start lies before the entry of the marked one
before_last : (long marked : ℕ) (mark : Option ℕ) (current : Open) → mark ≡ Some marked → NowBefore long mark (Some current) → current.begun.prefix < long
before_last long marked None current m h = absurd cc
before_last long marked (Some one) current m h = h

open_wrote : (setting : Setting) (state : State) (number : ℕ) (current : Open) (w : AtWork setting state number current) (other : Label) (rival : Open)
    → other.txn ≡ suc (length (session_at state other.session).done) → (session_at state other.session).now ≡ Some rival → (table pos : ℕ)
    → is_some (item_at rival.begun.own table pos) ≡ true
    → ((rank : ℕ) → rival.begun.prefix ≤ rank → rank < current.begun.prefix → pair_at state.order rank table pos ≡ None)
    → WroteThere setting state other table pos current.begun.prefix
open_wrote setting state number current w other rival t is table pos own clear = record {
  after = length (session_at state other.session).done;
  is = t;
  begun = rival.begun;
  has = ap (λ (now : Option Open). slice_get (beguns_from (session_at state other.session).done now) (length (session_at state other.session).done)) is
      ∙ open_begun (session_at state other.session).done rival;
  own = own;
  low = let session : SessionLow current.begun.prefix (session_at state other.session) = lows_of setting state number current w other.session in
      subst (λ (now : Option Open). NowLow current.begun.prefix now) is session.now;
  born = let passes : OpenPasses setting state.order rival = subst (NowPasses setting state.order) is (w.passes.sessions other.session).now in
      passes.born;
  clear = clear;
}

-- the marked transaction
stamping_clear : (setting : Setting) (state : State) (number : ℕ) (current : Open) → AtWork setting state number current → (begun : Begun) (marked : ℕ)
    → state.mark ≡ Some marked → Passed setting state.order begun (length state.order - 1) → (table pos : ℕ)
    → is_some (item_at begun.own table pos) ≡ true → (rank : ℕ) → begun.prefix ≤ rank → rank < current.begun.prefix
    → pair_at state.order rank table pos ≡ None
stamping_clear setting state number current w begun marked m passed table pos own rank from below =
    let last : current.begun.prefix < length state.order =
    before_last (length state.order) marked state.mark current m (subst (NowBefore (length state.order) state.mark) w.is (w.before number)) in
    untouched setting state.order begun (length state.order - 1) passed table pos own rank from (omega (arith, below, last))

-- no entry between the start of one that holds a position and that of another open one does anything there
held_clear : (setting : Setting) (state : State) (number : ℕ) (current : Open) → AtWork setting state number current → (other table pos : ℕ)
    (begun : Begun) (phase : Phase) → PhaseFits setting state.order state.mark other (length (session_at state other).done) begun phase
    → PhasePasses setting state.order begun phase → holds setting table pos (Some (record { begun = begun; phase = phase })) ≡ true
    → (rank : ℕ) → begun.prefix ≤ rank → rank < current.begun.prefix → pair_at state.order rank table pos ≡ None
held_clear setting state number current w other table pos begun (Working visited count) f p held rank from below = p table pos held rank from
held_clear setting state number current w other table pos begun (Stamping visited) f p held rank from below =
    stamping_clear setting state number current w begun other f.0 p table pos
    (and_left (is_some (item_at begun.own table pos)) (is_among (written_chunks setting begun.own) table (chunk_of setting pos)) held) rank from below
held_clear setting state number current w other table pos begun (Undoing visited cause) f p held rank from below = p.0 table pos held rank from

holder_wrote : (setting : Setting) (state : State) (number : ℕ) (current : Open) → AtWork setting state number current → (other : Label) (table pos : ℕ)
    → other.txn ≡ suc (length (session_at state other.session).done) → (now : Option Open) → (session_at state other.session).now ≡ now
    → holds setting table pos now ≡ true → WroteThere setting state other table pos current.begun.prefix
holder_wrote setting state number current w other table pos t None is held = absurd cc
holder_wrote setting state number current w other table pos t (Some rival) is held =
    let fits : OpenFits setting state.order state.mark other.session (session_at state other.session).done rival =
    subst (NowFits setting state.order state.mark other.session (session_at state other.session).done) is (w.fits.sessions other.session).now in
    let passes : OpenPasses setting state.order rival = subst (NowPasses setting state.order) is (w.passes.sessions other.session).now in
    open_wrote setting state number current w other rival t is table pos
    (and_left (is_some (item_at rival.begun.own table pos))
    (is_among (drop (undone rival.phase) (written_chunks setting rival.begun.own)) table (chunk_of setting pos)) held)
    (held_clear setting state number current w other.session table pos rival.begun rival.phase fits.phase passes.phase held)

marked_wrote : (setting : Setting) (state : State) (number : ℕ) (current : Open) → AtWork setting state number current → (other : Label) (table pos : ℕ)
    → other.txn ≡ suc (length (session_at state other.session).done) → state.mark ≡ Some other.session → (rank : ℕ) → suc rank ≡ length state.order
    → (pair : Pair) → pair_at state.order rank table pos ≡ Some pair → (now : Option Open) → (session_at state other.session).now ≡ now → NowStamps now
    → WroteThere setting state other table pos current.begun.prefix
marked_wrote setting state number current w other table pos t m rank r pair e None is s = absurd s
marked_wrote setting state number current w other table pos t m rank r pair e (Some rival) is s =
    let passes : OpenPasses setting state.order rival = subst (NowPasses setting state.order) is (w.passes.sessions other.session).now in
    by_phase rival.phase s passes.phase
  where
    by_phase : (phase : Phase) → NowStamps (Some (record { begun = rival.begun; phase = phase })) → PhasePasses setting state.order rival.begun phase
        → WroteThere setting state other table pos current.begun.prefix
    by_phase (Working visited count) s p = absurd s
    by_phase (Undoing visited cause) s p = absurd s
    by_phase (Stamping visited) s p =
        let own : is_some (item_at rival.begun.own table pos) ≡ true = p.wrote table pos pair
        (ap (λ (n : ℕ). pair_at state.order n table pos) (let same : length state.order - 1 ≡ rank = omega (arith, r) in same) ∙ e) in
        open_wrote setting state number current w other rival t is table pos own
        (stamping_clear setting state number current w rival.begun other.session m p table pos own)

ranked_wrote : (setting : Setting) (state : State) (number : ℕ) (current : Open) → AtWork setting state number current → (other : Label)
    (table pos rank : ℕ) → current.begun.prefix ≤ rank → (pair : Pair) → pair_at state.order rank table pos ≡ Some pair → Ranked state rank other
    → WroteThere setting state other table pos current.begun.prefix
ranked_wrote setting state number current w other table pos rank since pair e (ended before finished t at is) =
    let passes : EndPasses setting state.order finished =
    one_of (EndPasses setting state.order) (session_at state other.session).done (w.passes.sessions other.session).done before finished at in
    let passed : Passed setting state.order finished.begun rank =
    subst (λ (ending : Ending). IfSome (committed_at ending) (Passed setting state.order finished.begun)) is passes.0 in
    let session : SessionLow current.begun.prefix (session_at state other.session) = lows_of setting state number current w other.session in
    let low : EndLow current.begun.prefix finished =
    one_of (EndLow current.begun.prefix) (session_at state other.session).done session.done before finished at in
    let own : is_some (item_at finished.begun.own table pos) ≡ true = passed.wrote table pos pair e in
    record {
      after = before;
      is = t;
      begun = finished.begun;
      has = ended_begun (session_at state other.session).done (session_at state other.session).now before finished at;
      own = own;
      low = subst (λ (ending : Ending). IfSome (committed_at ending) (λ (rank : ℕ). current.begun.prefix ≤ rank → finished.begun.low ≤ current.begun.prefix))
          is low since;
      born = passed.born;
      clear = λ at from below. untouched setting state.order finished.begun rank passed table pos own at from (omega (arith, below, since));
    }
ranked_wrote setting state number current w other table pos rank since pair e (entered m t r) =
    marked_wrote setting state number current w other table pos t m rank r pair e (session_at state other.session).now refl
    (w.fits.marked other.session m)

-- whoever is in the way of a write found a row where the writer did
pub opponent_finds : (setting : Setting) (state : State) (number : ℕ) (current : Open) → AtWork setting state number current → (table pos : ℕ)
    (other : Label) → opponent setting state number current.begun.prefix table pos ≡ Some other
    → FindsToo setting state current.begun.prefix table pos other
opponent_finds setting state number current w table pos other e =
    let start : ℕ = current.begun.prefix in
    elim (or_some (holder_from setting number table pos 0 state.sessions) (last_some (changer_at table pos) (drop start state.order)) other e) [
      | inl h ↦ holder_is (FindsToo setting state start table pos) setting number table pos 0 state.sessions other
          (λ i apart held. subst (λ (n : ℕ). FindsToo setting state start table pos (label_of n (session_at state i))) (sym (zero-add i))
          (found_by setting state w.fits (label_of i (session_at state i)) table pos start
          (holder_wrote setting state number current w (label_of i (session_at state i)) table pos refl (session_at state i).now refl held))) h
      | inr c ↦ changer_pair (FindsToo setting state start table pos) table pos (drop start state.order) other
          (λ i one pair at there. found_by setting state w.fits one table pos start
          (ranked_wrote setting state number current w one table pos (start + i) (omega arith) pair
          (sym (dropped_pair start state.order i table pos) ∙ there)
          (w.fits.ranked (start + i) one (sym (label_dropped start state.order i) ∙ at)))) c
    ]
