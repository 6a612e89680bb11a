-- A position that isn't free for an INSERT is accounted for: it is a first row's, or was placed by the transaction itself, by
-- one that stands before its start, or by one that may have been open with it.
use Rattle.std.proofs.Common.{◌≡◌, ℕ, zero, suc, ◌+◌, ◌-◌, ◌<◌, ◌≤◌, List, [], ◌∷◌, Option, None, Some, Bool, true, false, not, is_some, get_or}
use Rattle.std.proofs.Common.{length, map, drop, refl, ap, sym, ◌∙◌}
use Rattle.std.proofs.Common.{subst, arith, inl, inr, ◌⊎◌, zero-add}
use Rattle.std.specs.Prelude.{slice_get, IfSome, ◌&&◌, ◌||◌}
use Rattle.std.specs.List.{list_any, range_with_len}
use Rattle.std.proofs.lemmas.Bool.{cases_lt, cases_eq}
use Rattle.hy_value.specs.declared.Value.{Value}
use Rattle.hy_stamp.specs.declared.Label.{Label}
use Rattle.hy_bound.specs.declared.Ending.{Ending}
use Rattle.hy_bound.specs.declared.Ending.TheVariants.{Committed}
use Rattle.hy_machine.specs.declared.Setting.{Setting}
use Rattle.hy_protocol.specs.declared.Phase.{Phase}
use Rattle.hy_protocol.specs.declared.Phase.TheVariants.{Working, Stamping, Undoing}
use Rattle.hy_machine.specs.States.{State, Session, Open, Begun}
use Rattle.hy_machine.specs.Tables.{Entry, Pair, Cell, Tables, chunk_of, laid_out, capacity}
use Rattle.hy_machine.specs.Positions.{item_at, last_some}
use Rattle.hy_machine.specs.Writes.{written_chunks, is_among}
use Rattle.hy_machine.specs.Sessions.{fresh, session_at, label_of, snapshot}
use Rattle.hy_machine.specs.Holding.{undone, holds, holder_from, changer_at, opponent, is_held, has_pair, is_free}
use Rattle.hy_lawful.specs.Outcomes.{committed_at}
use Rattle.hy_lawful.proofs.Booleans.{and_left}
use Rattle.hy_lawful.proofs.Fits.{label_at, EndsAs, OpenFits, NowFits, PhaseFits, Ranked, ended, entered, NowStamps, top_of, Fits}
use Rattle.hy_lawful.proofs.Grows.{grows_by}
use Rattle.hy_lawful.proofs.Followers.{done_fits}
use Rattle.hy_lawful.proofs.Opponents.{holder_is, changer_is, label_dropped, held_open, ranked_apart}
use Rattle.hy_lawful.proofs.PassStates.{Passed, still_there, EndPasses, OpenPasses, NowPasses, PhasePasses, Passes}
use Rattle.hy_lawful.proofs.Lists.{one_of, or_some}
use Rattle.hy_lawful.proofs.PassTables.{cell_at, pair_at, cell_next, tables_grow}
use Rattle.hy_lawful.proofs.FullKeeps.{beguns_from, beguns_of, HasBegun, ended_begun, open_begun, StillHas, Goes}
use Rattle.hy_lawful.proofs.FullMarks.{AllBefore}
use Rattle.hy_lawful.proofs.FoundLows.{AllLow}
use Rattle.hy_lawful.proofs.FullOverlaps.{Overlap, overlap_later, open_overlap, MeetsOne, meets_ranked, meets_open}

-- ---- what is accounted for

-- a begun transaction placed a position
pub record Placed (setting : Setting) (state : State) (number before table pos : ℕ) : Type 0 where
  pub begun : Begun
  pub has : HasBegun state number before begun
  pub start : begun.prefix ≤ length state.order
  pub wrote : is_some (item_at begun.own table pos) ≡ true
  pub empty : cell_at setting state.order begun.prefix table pos ≡ None

pub data Accounted (setting : Setting) (state : State) (number before prefix table pos : ℕ) : Type 0 where
  of_first : pos < length (get_or setting.first table []) → Accounted setting state number before prefix table pos
  of_own : Placed setting state number before table pos → Accounted setting state number before prefix table pos
  of_earlier : (rank : ℕ) (label : Label) (after : ℕ) → label_at state.order rank ≡ Some label → rank < prefix → label.txn ≡ suc after
      → Placed setting state label.session after table pos → Accounted setting state number before prefix table pos
  of_rival : (other after begin : ℕ) → Overlap state number before prefix other after begin → Placed setting state other after table pos
      → Accounted setting state number before prefix table pos

placed_goes : (setting : Setting) (state later : State) → Goes state later → (number before table pos : ℕ) → Placed setting state number before table pos
    → Placed setting later number before table pos
placed_goes setting state later g number before table pos p =
    let still : StillHas (beguns_of (session_at later number)) before p.begun = g.keeps number before p.begun p.has in
    record {
      begun = still.later;
      has = still.has;
      start = omega (arith, still.gone.prefix, p.start, g.starts.order);
      wrote = still.gone.wrote table pos p.wrote;
      empty = ap (λ (n : ℕ). cell_at setting later.order n table pos) still.gone.prefix
          ∙ (ap (λ (order : List Entry). cell_at setting order p.begun.prefix table pos) g.order
          ∙ (ap (λ (tables : Tables). item_at tables table pos) (tables_grow setting state.order g.entries p.begun.prefix p.start) ∙ p.empty));
    }

pub accounted_goes : (setting : Setting) (state later : State) → Goes state later → (number before prefix table pos : ℕ)
    → Accounted setting state number before prefix table pos → Accounted setting later number before prefix table pos
accounted_goes setting state later g number before prefix table pos (of_first h) = of_first h
accounted_goes setting state later g number before prefix table pos (of_own p) = of_own (placed_goes setting state later g number before table pos p)
accounted_goes setting state later g number before prefix table pos (of_earlier rank label after e below t p) =
    of_earlier rank label after
    (ap (λ (order : List Entry). label_at order rank) g.order ∙ (grows_by state.order g.entries).stands rank label e) below t
    (placed_goes setting state later g label.session after table pos p)
accounted_goes setting state later g number before prefix table pos (of_rival other after begin o p) =
    of_rival other after begin (overlap_later state later g.starts number before prefix other after begin o)
    (placed_goes setting state later g other after table pos p)

-- ---- the transaction of an entry

-- whose entry stands at a rank
record EntryOf (setting : Setting) (state : State) (label : Label) (rank : ℕ) : Type 0 where
  after : ℕ
  begun : Begun
  is : label.txn ≡ suc after
  has : HasBegun state label.session after begun
  passed : Passed setting state.order begun rank
  later : begun.prefix ≤ rank

entered_open : (setting : Setting) (state : State) → Fits setting state → Passes setting state → (rank : ℕ) (label : Label) → suc rank ≡ length state.order
    → label.txn ≡ suc (length (session_at state label.session).done) → (now : Option Open) → (session_at state label.session).now ≡ now → NowStamps now
    → EntryOf setting state label rank
entered_open setting state fits passes rank label r t None e s = absurd s
entered_open setting state fits passes rank label r t (Some current) e s = by_phase current.phase refl s
  where
    by_phase : (phase : Phase) → current.phase ≡ phase → NowStamps (Some (record { begun = current.begun; phase = phase })) → EntryOf setting state label rank
    by_phase (Working visited count) p s = absurd s
    by_phase (Undoing visited cause) p s = absurd s
    by_phase (Stamping visited) p s =
        let present : OpenFits setting state.order state.mark label.session (session_at state label.session).done current =
        subst (NowFits setting state.order state.mark label.session (session_at state label.session).done) e (fits.sessions label.session).now in
        let passing : OpenPasses setting state.order current = subst (NowPasses setting state.order) e (passes.sessions label.session).now in
        let last : length state.order - 1 ≡ rank = omega (arith, r) in
        record {
          after = length (session_at state label.session).done;
          begun = current.begun;
          is = t;
          has = ap (λ (now : Option Open). slice_get (beguns_from (session_at state label.session).done now)
              (length (session_at state label.session).done)) e
              ∙ open_begun (session_at state label.session).done current;
          passed = subst (Passed setting state.order current.begun) last (subst (PhasePasses setting state.order current.begun) p passing.phase);
          later =
              let ends = subst (PhaseFits setting state.order state.mark label.session (length (session_at state label.session).done) current.begun)
              p present.phase in
              let from : current.begun.prefix ≤ length state.order - 1 = ends.1.later in omega (arith, from, last);
        }

entry_of_rank : (setting : Setting) (state : State) → Fits setting state → Passes setting state → (rank : ℕ) (label : Label) → Ranked state rank label
    → EntryOf setting state label rank
entry_of_rank setting state fits passes rank label (ended before finished t at is) = record {
  after = before;
  begun = finished.begun;
  is = t;
  has = ended_begun (session_at state label.session).done (session_at state label.session).now before finished at;
  passed = subst (λ (ending : Ending). IfSome (committed_at ending) (Passed setting state.order finished.begun)) is
      (one_of (EndPasses setting state.order) (session_at state label.session).done (passes.sessions label.session).done before finished at).0;
  later = let ends : EndsAs setting state.order label.session before (record { begun = finished.begun; ending = Committed rank }) =
      subst (λ (ending : Ending). EndsAs setting state.order label.session before (record { begun = finished.begun; ending = ending })) is
      (done_fits setting state fits label.session before finished at).ends in ends.later;
}
entry_of_rank setting state fits passes rank label (entered m t r) =
    entered_open setting state fits passes rank label r t (session_at state label.session).now refl (fits.marked label.session m)

label_there : (order : List Entry) (rank table pos : ℕ) (pair : Pair) → pair_at order rank table pos ≡ Some pair
    → (label : Label) × (label_at order rank ≡ Some label)
label_there [] rank table pos pair e = absurd cc
label_there (entry ∷ order) zero table pos pair e = (entry.label, refl)
label_there (entry ∷ order) (suc rank) table pos pair e = label_there order rank table pos pair e

entry_placed : (setting : Setting) (state : State) → Fits setting state → Passes setting state → (rank : ℕ) (label : Label)
    → (o : EntryOf setting state label rank) → (table pos : ℕ) (pair : Pair) → pair_at state.order rank table pos ≡ Some pair → pair.before ≡ None
    → Placed setting state label.session o.after table pos
entry_placed setting state fits passes rank label o table pos pair e b =
    let own : is_some (item_at o.begun.own table pos) ≡ true = o.passed.wrote table pos pair e in
    record {
      begun = o.begun;
      has = o.has;
      start = omega (arith, o.later, o.passed.within);
      wrote = own;
      empty = sym (still_there setting state.order fits.cells o.begun rank o.later o.passed table pos own) ∙ (sym (passes.befores rank table pos pair e) ∙ b);
    }

-- ---- an open transaction

-- a transaction that is at work
pub record AtWork (setting : Setting) (state : State) (number : ℕ) (current : Open) : Type 0 where
  pub fits : Fits setting state
  pub passes : Passes setting state
  pub is : (session_at state number).now ≡ Some current
  pub free : state.mark ≡ Some number → ⊥
  pub before : AllBefore state
  pub lows : AllLow state

abbrev pub IsAccounted : Setting → State → ℕ → Open → ℕ → ℕ → Type 0
IsAccounted setting state number current table pos =
    Accounted setting state number (length (session_at state number).done) current.begun.prefix table pos

present_of : (setting : Setting) (state : State) (number : ℕ) (current : Open) → AtWork setting state number current
    → OpenFits setting state.order state.mark number (session_at state number).done current
present_of setting state number current w =
    subst (NowFits setting state.order state.mark number (session_at state number).done) w.is (w.fits.sessions number).now

-- the transaction of an entry since its start may have been open with it
ranked_meets : (setting : Setting) (state : State) (number : ℕ) (current : Open) → AtWork setting state number current → (rank : ℕ) (other : Label)
    → current.begun.prefix ≤ rank → Ranked state rank other → MeetsOne state number current other
ranked_meets setting state number current w rank other since ranked =
    let above : top_of 0 (session_at state number).done ≤ rank = omega (arith, since, (present_of setting state number current w).above) in
    meets_ranked setting state w.fits number current w.is other (ranked_apart setting state w.fits number w.free rank other above ranked) rank since ranked

-- whoever is in the way of a write may have been open with the writer
pub opponent_meets : (setting : Setting) (state : State) (number : ℕ) (current : Open) → AtWork setting state number current → (table pos : ℕ)
    (other : Label) → opponent setting state number current.begun.prefix table pos ≡ Some other → MeetsOne state number current other
opponent_meets setting state number current w table pos other e =
    let prefix : ℕ = current.begun.prefix in
    elim (or_some (holder_from setting number table pos 0 state.sessions) (last_some (changer_at table pos) (drop prefix state.order)) other e) [
      | inl h ↦ holder_is (MeetsOne state number current) setting number table pos 0 state.sessions other
          (λ i apart held. subst (λ (n : ℕ). MeetsOne state number current (label_of n (session_at state i))) (sym (zero-add i))
          (meets_open setting state w.fits number current w.is (label_of i (session_at state i)) (λ same. apart (zero-add i ∙ same))
          (session_at state i).now refl (inr (held_open setting table pos (session_at state i).now held)) refl)) h
      | inr c ↦ changer_is (MeetsOne state number current) table pos (drop prefix state.order) other
          (λ i one at. ranked_meets setting state number current w (prefix + i) one (omega arith)
          (w.fits.ranked (prefix + i) one (sym (label_dropped prefix state.order i) ∙ at))) c
    ]

born_accounted : (setting : Setting) (state : State) (number : ℕ) (current : Open) → AtWork setting state number current → (rank table pos : ℕ) (pair : Pair)
    → pair_at state.order rank table pos ≡ Some pair → pair.before ≡ None → IsAccounted setting state number current table pos
born_accounted setting state number current w rank table pos pair e b =
    let named = label_there state.order rank table pos pair e in
    let ranked : Ranked state rank named.0 = w.fits.ranked rank named.0 named.1 in
    let o : EntryOf setting state named.0 rank = entry_of_rank setting state w.fits w.passes rank named.0 ranked in
    let placed : Placed setting state named.0.session o.after table pos = entry_placed setting state w.fits w.passes rank named.0 o table pos pair e b in
    elim (cases_lt rank current.begun.prefix) [
      | inl below ↦ of_earlier rank named.0 o.after named.1 below o.is placed
      | inr since ↦
          let meets : MeetsOne state number current named.0 = ranked_meets setting state number current w rank named.0 since ranked in
          of_rival named.0.session meets.after meets.begin meets.overlap
          (subst (λ (n : ℕ). Placed setting state named.0.session n table pos)
          (let same : o.after ≡ meets.after = omega (arith, o.is, meets.is) in same) placed)
    ]

-- the rows that stand before any commit are the first ones
row_within : (rows : List (List Value)) (n first pos : ℕ) → is_some (get_or (map (slice_get rows) (range_with_len first n)) pos None) ≡ true
    → first + pos < length rows
row_within rows zero first pos e = absurd cc
row_within rows (suc n) first zero e = omega (arith, there rows first e)
  where
    there : (rows : List (List Value)) (i : ℕ) → is_some (slice_get rows i) ≡ true → i < length rows
    there [] i e = absurd cc
    there (row ∷ rows) zero e = omega arith
    there (row ∷ rows) (suc i) e = omega (arith, there rows i e)
row_within rows (suc n) first (suc pos) e = omega (arith, row_within rows n (first + 1) pos e)

first_within : (n : ℕ) (first : List (List (List Value))) (table pos : ℕ) → is_some (item_at (map (laid_out n) first) table pos) ≡ true
    → pos < length (get_or first table [])
first_within n [] table pos e = absurd cc
first_within n (rows ∷ first) zero pos e = omega (arith, row_within rows n 0 pos e)
first_within n (rows ∷ first) (suc table) pos e = first_within n first table pos e

pub row_accounted : (setting : Setting) (state : State) (number : ℕ) (current : Open) → AtWork setting state number current → (table pos rank : ℕ)
    → is_some (cell_at setting state.order rank table pos) ≡ true → IsAccounted setting state number current table pos
row_accounted setting state number current w table pos zero e = of_first (first_within (capacity setting) setting.first table pos e)
row_accounted setting state number current w table pos (suc rank) e =
    by_pair (λ there. row_accounted setting state number current w table pos rank there) (pair_at state.order rank table pos) refl
  where
    by_before : (is_some (cell_at setting state.order rank table pos) ≡ true → IsAccounted setting state number current table pos)
        → (pair : Pair) → pair_at state.order rank table pos ≡ Some pair → (cell : Cell) → pair.before ≡ cell
        → IsAccounted setting state number current table pos
    by_before ih pair p None b = born_accounted setting state number current w rank table pos pair p b
    by_before ih pair p (Some row) b = ih (ap is_some (sym (w.passes.befores rank table pos pair p) ∙ b))

    by_pair : (is_some (cell_at setting state.order rank table pos) ≡ true → IsAccounted setting state number current table pos)
        → (item : Option Pair) → pair_at state.order rank table pos ≡ item → IsAccounted setting state number current table pos
    by_pair ih None p = ih (ap is_some (sym (cell_next setting state.order w.fits.cells rank table pos None p)) ∙ e)
    by_pair ih (Some pair) p = by_before ih pair p pair.before refl

pair_accounted : (setting : Setting) (state : State) (number : ℕ) (current : Open) → AtWork setting state number current → (table pos rank : ℕ) (pair : Pair)
    → pair_at state.order rank table pos ≡ Some pair → (cell : Cell) → pair.before ≡ cell → IsAccounted setting state number current table pos
pair_accounted setting state number current w table pos rank pair p None b = born_accounted setting state number current w rank table pos pair p b
pair_accounted setting state number current w table pos rank pair p (Some row) b =
    row_accounted setting state number current w table pos rank (ap is_some (sym (w.passes.befores rank table pos pair p) ∙ b))

-- ---- a position that isn't free

holder_placed : (setting : Setting) (state : State) (other : ℕ) (rival : Open) → Fits setting state → (session_at state other).now ≡ Some rival
    → (table pos : ℕ) → is_some (item_at rival.begun.own table pos) ≡ true → cell_at setting state.order rival.begun.prefix table pos ≡ None
    → Placed setting state other (length (session_at state other).done) table pos
holder_placed setting state other rival fits is table pos own empty =
    let there : OpenFits setting state.order state.mark other (session_at state other).done rival =
    subst (NowFits setting state.order state.mark other (session_at state other).done) is (fits.sessions other).now in
    record {
      begun = rival.begun;
      has = ap (λ (now : Option Open). slice_get (beguns_from (session_at state other).done now) (length (session_at state other).done)) is
          ∙ open_begun (session_at state other).done rival;
      start = there.start;
      wrote = own;
      empty = empty;
    }

held_accounted : (setting : Setting) (state : State) (number : ℕ) (current : Open) → AtWork setting state number current → (table pos other : ℕ)
    → (now : Option Open) → (session_at state other).now ≡ now → holds setting table pos now ≡ true → IsAccounted setting state number current table pos
held_accounted setting state number current w table pos other None is h = absurd cc
held_accounted setting state number current w table pos other (Some rival) is h = by_cell (cell_at setting state.order rival.begun.prefix table pos) refl
  where
    own : is_some (item_at rival.begun.own table pos) ≡ true
    own = and_left (is_some (item_at rival.begun.own table pos))
        (is_among (drop (undone rival.phase) (written_chunks setting rival.begun.own)) table (chunk_of setting pos)) h

    by_cell : (cell : Cell) → cell_at setting state.order rival.begun.prefix table pos ≡ cell → IsAccounted setting state number current table pos
    by_cell (Some row) e = row_accounted setting state number current w table pos rival.begun.prefix (ap is_some e)
    by_cell None e = elim (cases_eq other number) [
      | inl same ↦ of_own (subst (λ (n : ℕ). Placed setting state n (length (session_at state n).done) table pos) same
          (holder_placed setting state other rival w.fits is table pos own e))
      | inr apart ↦ of_rival other (length (session_at state other).done) rival.begun.prefix
          (open_overlap setting state w.fits number current w.is other rival apart is)
          (holder_placed setting state other rival w.fits is table pos own e)
    ]

any_held : (setting : Setting) (table pos : ℕ) (sessions : List Session)
    → list_any (λ (session : Session). holds setting table pos session.now) sessions ≡ true
    → (i : ℕ) × (holds setting table pos (get_or sessions i fresh).now ≡ true)
any_held setting table pos [] h = absurd cc
any_held setting table pos (session ∷ sessions) h =
    by_first (holds setting table pos session.now) refl (λ k. any_held setting table pos sessions k)
  where
    by_first : (b : Bool) → holds setting table pos session.now ≡ b
        → (list_any (λ (session : Session). holds setting table pos session.now) sessions ≡ true
        → (i : ℕ) × (holds setting table pos (get_or sessions i fresh).now ≡ true))
        → (i : ℕ) × (holds setting table pos (get_or (session ∷ sessions) i fresh).now ≡ true)
    by_first true e ih = (0, e)
    by_first false e ih =
        let rest = ih (ap (λ (b : Bool). b || list_any (λ (session : Session). holds setting table pos session.now) sessions) (sym e) ∙ h) in
        (suc rest.0, rest.1)

any_pair : (table pos : ℕ) (order : List Entry) (from : ℕ) → list_any (has_pair table pos) (drop from order) ≡ true
    → (rank : ℕ) × (is_some (pair_at order rank table pos) ≡ true)
any_pair table pos [] zero h = absurd cc
any_pair table pos [] (suc from) h = absurd cc
any_pair table pos (entry ∷ order) (suc from) h = let rest = any_pair table pos order from h in (suc rest.0, rest.1)
any_pair table pos (entry ∷ order) zero h = by_first (has_pair table pos entry) refl (λ k. any_pair table pos order 0 k)
  where
    by_first : (b : Bool) → has_pair table pos entry ≡ b
        → (list_any (has_pair table pos) order ≡ true → (rank : ℕ) × (is_some (pair_at order rank table pos) ≡ true))
        → (rank : ℕ) × (is_some (pair_at (entry ∷ order) rank table pos) ≡ true)
    by_first true e ih = (0, e)
    by_first false e ih =
        let rest = ih (ap (λ (b : Bool). b || list_any (has_pair table pos) order) (sym e) ∙ h) in
        (suc rest.0, rest.1)

not_free : (a b c : Bool) → (not a && not b && not c) ≡ false → (a ≡ true) ⊎ ((b ≡ true) ⊎ (c ≡ true))
not_free true b c h = inl refl
not_free false true c h = inr (inl refl)
not_free false false true h = inr (inr refl)
not_free false false false h = absurd cc

pub taken_accounted : (setting : Setting) (state : State) (number : ℕ) (current : Open) → AtWork setting state number current → (table pos : ℕ)
    → is_free setting state current.begun table pos ≡ false → IsAccounted setting state number current table pos
taken_accounted setting state number current w table pos h =
    elim (not_free (is_held setting state table pos) (is_some (item_at (snapshot setting state current.begun.low) table pos))
    (list_any (has_pair table pos) (drop current.begun.low state.order)) h) [
      | inl held ↦ let holder = any_held setting table pos state.sessions held in
          held_accounted setting state number current w table pos holder.0 (session_at state holder.0).now refl holder.1
      | inr (inl row) ↦ row_accounted setting state number current w table pos current.begun.low row
      | inr (inr pair) ↦ let there = any_pair table pos state.order current.begun.low pair in
          by_pair there.0 (pair_at state.order there.0 table pos) refl there.1
    ]
  where
    by_pair : (rank : ℕ) (item : Option Pair) → pair_at state.order rank table pos ≡ item → is_some (pair_at state.order rank table pos) ≡ true
        → IsAccounted setting state number current table pos
    by_pair rank None e h = absurd (let never : is_some (pair_at state.order rank table pos) ≡ false = ap is_some e in cc)
    by_pair rank (Some pair) e h = pair_accounted setting state number current w table pos rank pair e pair.before refl
