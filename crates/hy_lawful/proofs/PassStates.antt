-- What is kept along steps for those that committed to be passed unseen: no entry from the start of an open transaction on
-- does anything at the positions that it holds, no other holds these, and what was passed unseen stays so.
use Rattle.std.proofs.Common.{◌≡◌, ℕ, zero, suc, ◌+◌, ◌-◌, ◌<◌, ◌≤◌, List, [], ◌∷◌, ◌++◌, Option, None, Some, true, false}
use Rattle.std.proofs.Common.{is_some, length, map, drop, refl, ap, sym, ◌∙◌, subst, arith, inl, inr, ◌⊎◌}
use Rattle.std.specs.Prelude.{IfSome}
use Rattle.std.specs.List.{AllByRecursion}
use Rattle.std.proofs.lemmas.List.{length-append}
use Rattle.std.proofs.lemmas.Option.{same_Some, IfSome_then}
use Rattle.hy_bound.specs.declared.Record.{Record}
use Rattle.hy_stamp.specs.declared.Label.{Label}
use Rattle.hy_bound.specs.declared.Ending.{Ending}
use Rattle.hy_bound.specs.declared.Ending.TheVariants.{Committed, Read, RolledBack, Conflict, Invalid, Range, Full}
use Rattle.hy_machine.specs.declared.Setting.{Setting}
use Rattle.hy_protocol.specs.declared.Phase.{Phase}
use Rattle.hy_protocol.specs.declared.Phase.TheVariants.{Working, Stamping, Undoing}
use Rattle.hy_machine.specs.States.{State, Session, Open, Begun, Finished}
use Rattle.hy_machine.specs.Tables.{Entry, Pair, Cell, Tables, over}
use Rattle.hy_machine.specs.Positions.{item_at}
use Rattle.hy_machine.specs.Sessions.{session_at, pair_of, entry_cells}
use Rattle.hy_machine.specs.Holding.{holds}
use Rattle.hy_machine.specs.Validation.{committed_of, record_hit, first_hit}
use Rattle.hy_replay.specs.Laws.{IsUnseenAt, DifferUnseen}
use Rattle.hy_lawful.specs.Outcomes.{committed_at}
use Rattle.hy_lawful.proofs.Fits.{label_at}
use Rattle.hy_lawful.proofs.Grows.{grows_by, label_within}
use Rattle.hy_lawful.proofs.Lists.{all_so}
use Rattle.hy_lawful.proofs.Moves.{moved_to, sessions_moved}
use Rattle.hy_lawful.proofs.PassTables.{tables_at, cell_at, pair_at, AllFit, cell_next, stays_to, cell_stays, tables_grow, more_pairs, entry_item, entry_lays}
use Rattle.hy_lawful.proofs.PassWritten.{Keeps, SessionNames, names_moved}
use Rattle.hy_lawful.proofs.PassHits.{from_dropped, pair_missed, hit_stays}

-- ---- the invariant

-- what an entry does at a position is not at one of a transaction's own, and hits none of its records
pub record PassesAt (begun : Begun) (table pos : ℕ) (pair : Pair) : Type 0 where
  pub apart : item_at begun.own table pos ≡ None
  pub missed : record_hit begun.records table pair.before pair.after ≡ None

-- where nothing stood at a position at a transaction's start, nothing stood there from its watermark on
abbrev pub EmptyAt : Setting → List Entry → Begun → ℕ → ℕ → Type 0
EmptyAt setting order begun table pos = cell_at setting order begun.prefix table pos ≡ None
    → (rank : ℕ) → begun.low ≤ rank → rank ≤ begun.prefix → cell_at setting order rank table pos ≡ None

-- a transaction placed rows only at such positions
pub record BornEmpty (setting : Setting) (order : List Entry) (begun : Begun) : Type 0 where
  pub start : begun.prefix ≤ length order
  pub empty : (table pos : ℕ) → is_some (item_at begun.own table pos) ≡ true → EmptyAt setting order begun table pos

-- what stands before the place of a transaction in an order, from its start on, is unseen by it; its entry lays what it
-- wrote, and does something there and nowhere else
pub record Passed (setting : Setting) (order : List Entry) (begun : Begun) (rank : ℕ) : Type 0 where
  pub within : suc rank ≤ length order
  pub unseen : (at : ℕ) → begun.prefix ≤ at → at < rank
      → DifferUnseen (tables_at setting order at) (tables_at setting order (suc at)) begun.own begun.records
  pub lays : tables_at setting order (suc rank) ≡ over (tables_at setting order rank) begun.own
  pub passes : (at : ℕ) → begun.prefix ≤ at → at < rank → (table pos : ℕ) (pair : Pair) → pair_at order at table pos ≡ Some pair
      → PassesAt begun table pos pair
  pub wrote : (table pos : ℕ) (pair : Pair) → pair_at order rank table pos ≡ Some pair → is_some (item_at begun.own table pos) ≡ true
  pub has : (table pos : ℕ) → is_some (item_at begun.own table pos) ≡ true → is_some (pair_at order rank table pos) ≡ true
  pub born : BornEmpty setting order begun

-- so no entry from its start on before its place does anything where it wrote
pub untouched : (setting : Setting) (order : List Entry) (begun : Begun) (rank : ℕ) → Passed setting order begun rank → (table pos : ℕ)
    → is_some (item_at begun.own table pos) ≡ true → (at : ℕ) → begun.prefix ≤ at → at < rank → pair_at order at table pos ≡ None
untouched setting order begun rank passed table pos own at from below = by_item (pair_at order at table pos) refl
  where
    by_item : (item : Option Pair) → pair_at order at table pos ≡ item → item ≡ None
    by_item None e = refl
    by_item (Some pair) e =
        let passes : PassesAt begun table pos pair = passed.passes at from below table pos pair e in
        let never : is_some (item_at begun.own table pos) ≡ false = ap is_some passes.apart in
        absurd (cc (never, own))

-- and what stood there at its start still stands there before its entry
pub still_there : (setting : Setting) (order : List Entry) → AllFit setting order → (begun : Begun) (rank : ℕ) → begun.prefix ≤ rank
    → Passed setting order begun rank → (table pos : ℕ) → is_some (item_at begun.own table pos) ≡ true
    → cell_at setting order rank table pos ≡ cell_at setting order begun.prefix table pos
still_there setting order fit begun rank later passed table pos own =
    ap (λ (n : ℕ). cell_at setting order n table pos) (let same : rank ≡ begun.prefix + (rank - begun.prefix) = omega (arith, later) in same)
    ∙ stays_to setting order fit begun.prefix table pos (rank - begun.prefix)
    (λ at from below. untouched setting order begun rank passed table pos own at from (omega (arith, below, later)))

-- the first hit of a transaction's records by the entries from its start on is one of this transaction's entry, and up to
-- that one no entry does anything at the positions that it wrote
pub record IsFirstHit (order : List Entry) (begun : Begun) (table pos : ℕ) (other : Label) (statement : ℕ) : Type 0 where
  pub hit : first_hit begun.records (map committed_of (drop begun.prefix order)) ≡ Some (Invalid table pos other statement)
  pub rank : ℕ
  pub stands : label_at order rank ≡ Some other
  pub clear : (of at : ℕ) → is_some (item_at begun.own of at) ≡ true → (before : ℕ) → begun.prefix ≤ before → before ≤ rank
      → pair_at order before of at ≡ None

-- one that is in conflict has not written that position; one that is invalid names the first hit
abbrev pub IsRefusal : List Entry → Begun → Ending → Type 0
IsRefusal order begun (Committed rank) = Unit {0}
IsRefusal order begun Read = Unit {0}
IsRefusal order begun RolledBack = Unit {0}
IsRefusal order begun (Conflict table pos other) = item_at begun.own table pos ≡ None
IsRefusal order begun (Invalid table pos other statement) = IsFirstHit order begun table pos other statement
IsRefusal order begun (Range table pos) = Unit {0}
IsRefusal order begun (Full table) = Unit {0}

abbrev pub EndPasses : Setting → List Entry → Finished → Type 0
EndPasses setting order finished =
    IfSome (committed_at finished.ending) (Passed setting order finished.begun) × IsRefusal order finished.begun finished.ending

-- no entry from the start of a transaction on does anything at a position
abbrev pub Clear : List Entry → Begun → ℕ → ℕ → Type 0
Clear order begun table pos = (rank : ℕ) → begun.prefix ≤ rank → pair_at order rank table pos ≡ None

abbrev pub HeldClear : Setting → List Entry → Open → Type 0
HeldClear setting order current = (table pos : ℕ) → holds setting table pos (Some current) ≡ true → Clear order current.begun table pos

abbrev pub PhasePasses : Setting → List Entry → Begun → Phase → Type 0
PhasePasses setting order begun (Working visited count) = HeldClear setting order (record { begun = begun; phase = Working visited count })
PhasePasses setting order begun (Stamping visited) = Passed setting order begun (length order - 1)
PhasePasses setting order begun (Undoing visited cause) =
    HeldClear setting order (record { begun = begun; phase = Undoing visited cause }) × (committed_at cause ≡ None) × IsRefusal order begun cause

pub record OpenPasses (setting : Setting) (order : List Entry) (current : Open) : Type 0 where
  pub low : current.begun.low ≤ current.begun.prefix
  pub born : BornEmpty setting order current.begun
  pub phase : PhasePasses setting order current.begun current.phase

abbrev pub NowPasses : Setting → List Entry → Option Open → Type 0
NowPasses setting order None = Unit {0}
NowPasses setting order (Some current) = OpenPasses setting order current

pub record SessionPasses (setting : Setting) (order : List Entry) (session : Session) : Type 0 where
  pub done : AllByRecursion (EndPasses setting order) session.done
  pub now : NowPasses setting order session.now

-- the cell before an entry, at a position that it writes, is the one that stands there
abbrev pub Befores : Setting → List Entry → Type 0
Befores setting order = (rank table pos : ℕ) (pair : Pair) → pair_at order rank table pos ≡ Some pair → pair.before ≡ cell_at setting order rank table pos

-- what is held so in a session is held in no other
abbrev pub HoldsAlone : Setting → State → ℕ → Option Open → Type 0
HoldsAlone setting state number now = (other table pos : ℕ) → (other ≡ number → ⊥) → holds setting table pos now ≡ true
    → holds setting table pos (session_at state other).now ≡ true → ⊥

pub record Passes (setting : Setting) (state : State) : Type 0 where
  pub befores : Befores setting state.order
  pub sessions : (number : ℕ) → SessionPasses setting state.order (session_at state number)
  pub alone : (number : ℕ) → HoldsAlone setting state number (session_at state number).now
  pub names : (number : ℕ) → SessionNames state (session_at state number)

pub passes_moved : (setting : Setting) (state : State) (order : List Entry) (mark : Option ℕ) (number : ℕ) (session : Session)
    → number < length state.sessions → Befores setting order → SessionPasses setting order session
    → ((other : ℕ) → (other ≡ number → ⊥) → SessionPasses setting order (session_at state other))
    → HoldsAlone setting state number session.now → Keeps (session_at state number) session → SessionNames state session → Passes setting state
    → Passes setting (moved_to state order mark number session)
passes_moved setting state order mark number session there befores here others alone keeps names passes = record {
  names = names_moved state order mark number session there keeps names passes.names;
  befores = befores;
  sessions = sessions_moved (λ other one. SessionPasses setting order one) state order mark number session there here others;
  alone = sessions_moved (λ one given. HoldsAlone setting (moved_to state order mark number session) one given.now) state order mark number session there
      (sessions_moved (λ other given. (table pos : ℕ) → (other ≡ number → ⊥) → holds setting table pos session.now ≡ true
      → holds setting table pos given.now ≡ true → ⊥) state order mark number session there
      (λ table pos apart. absurd (apart refl))
      (λ other apart table pos n h k. alone other table pos n h k))
      (λ one apart. sessions_moved (λ other given. (table pos : ℕ) → (other ≡ one → ⊥) → holds setting table pos (session_at state one).now ≡ true
      → holds setting table pos given.now ≡ true → ⊥) state order mark number session there
      (λ table pos n h k. alone one table pos apart k h)
      (λ other away table pos n h k. passes.alone one other table pos n h k));
}

-- ---- an entry more

pair_stays : (order more : List Entry) (rank table pos : ℕ) → rank < length order → pair_at (order ++ more) rank table pos ≡ pair_at order rank table pos
pair_stays [] more rank table pos below = absurd (omega (arith, below))
pair_stays (entry ∷ order) more zero table pos below = refl
pair_stays (entry ∷ order) more (suc rank) table pos below = pair_stays order more rank table pos (omega (arith, below))

pub born_grows : (setting : Setting) (order more : List Entry) (begun : Begun) → BornEmpty setting order begun → BornEmpty setting (order ++ more) begun
born_grows setting order more begun h = record {
  start = omega (arith, h.start, length-append order more);
  empty = λ table pos own none rank from to.
      ap (λ (tables : Tables). item_at tables table pos) (tables_grow setting order more rank (omega (arith, to, h.start)))
      ∙ h.empty table pos own
      (sym (ap (λ (tables : Tables). item_at tables table pos) (tables_grow setting order more begun.prefix h.start)) ∙ none) rank from to;
}

pub passed_grows : (setting : Setting) (order more : List Entry) (begun : Begun) (rank : ℕ) → Passed setting order begun rank
    → Passed setting (order ++ more) begun rank
passed_grows setting order more begun rank p = record {
  within = omega (arith, p.within, length-append order more);
  unseen = λ at from to. subst (λ (tables : Tables). DifferUnseen tables (tables_at setting (order ++ more) (suc at)) begun.own begun.records)
      (sym (tables_grow setting order more at (omega (arith, to, p.within))))
      (subst (λ (tables : Tables). DifferUnseen (tables_at setting order at) tables begun.own begun.records)
      (sym (tables_grow setting order more (suc at) (omega (arith, to, p.within)))) (p.unseen at from to));
  lays = tables_grow setting order more (suc rank) p.within
      ∙ (p.lays ∙ ap (λ (tables : Tables). over tables begun.own) (sym (tables_grow setting order more rank (omega (arith, p.within)))));
  passes = λ at from to table pos pair e. p.passes at from to table pos pair
      (sym (pair_stays order more at table pos (omega (arith, to, p.within))) ∙ e);
  wrote = λ table pos pair e. p.wrote table pos pair (sym (pair_stays order more rank table pos p.within) ∙ e);
  has = λ table pos own. ap is_some (pair_stays order more rank table pos p.within) ∙ p.has table pos own;
  born = born_grows setting order more begun p.born;
}

refusal_grows : (order more : List Entry) (begun : Begun) (ending : Ending) → IsRefusal order begun ending → IsRefusal (order ++ more) begun ending
refusal_grows order more begun (Committed rank) h = tt
refusal_grows order more begun Read h = tt
refusal_grows order more begun RolledBack h = tt
refusal_grows order more begun (Conflict table pos other) h = h
refusal_grows order more begun (Invalid table pos other statement) h = record {
  hit = hit_stays begun.records begun.prefix order more (Invalid table pos other statement) h.hit;
  rank = h.rank;
  stands = (grows_by order more).stands h.rank other h.stands;
  clear = λ of at own before from to.
      pair_stays order more before of at (omega (arith, to, label_within order h.rank other h.stands)) ∙ h.clear of at own before from to;
}
refusal_grows order more begun (Range table pos) h = tt
refusal_grows order more begun (Full table) h = tt

pub ends_grow : (setting : Setting) (order more : List Entry) (finished : Finished) → EndPasses setting order finished
    → EndPasses setting (order ++ more) finished
ends_grow setting order more finished h = (
  IfSome_then (committed_at finished.ending) h.0 (λ rank p. passed_grows setting order more finished.begun rank p),
  refusal_grows order more finished.begun finished.ending h.1,
)

-- an entry does nothing at the positions that an open transaction holds
abbrev pub Spares : Setting → Entry → Open → Type 0
Spares setting entry current = (table pos : ℕ) (pair : Pair) → holds setting table pos (Some current) ≡ true → item_at entry.cells table pos ≡ Some pair → ⊥

held_grows : (setting : Setting) (order : List Entry) (entry : Entry) (current : Open) → HeldClear setting order current → Spares setting entry current
    → HeldClear setting (order ++ entry ∷ []) current
held_grows setting order entry current clear spares table pos h rank from = by_item (pair_at (order ++ entry ∷ []) rank table pos) refl
  where
    by_item : (item : Option Pair) → pair_at (order ++ entry ∷ []) rank table pos ≡ item → item ≡ None
    by_item None e = refl
    by_item (Some pair) e = absurd (elim (more_pairs order entry rank table pos pair e) [
      | inl old ↦ (let never : None ≡ Some pair = sym (clear table pos h rank from) ∙ old.1 in cc)
      | inr new ↦ spares table pos pair h new.1
    ])

phase_grows : (setting : Setting) (order : List Entry) (entry : Entry) (begun : Begun) (phase : Phase) → PhasePasses setting order begun phase
    → Spares setting entry (record { begun = begun; phase = phase }) → ((visited : ℕ) → phase ≡ Stamping visited → ⊥)
    → PhasePasses setting (order ++ entry ∷ []) begun phase
phase_grows setting order entry begun (Working visited count) h spares n =
    held_grows setting order entry (record { begun = begun; phase = Working visited count }) h spares
phase_grows setting order entry begun (Stamping visited) h spares n = absurd (n visited refl)
phase_grows setting order entry begun (Undoing visited cause) h spares n = (
  held_grows setting order entry (record { begun = begun; phase = Undoing visited cause }) h.0 spares,
  h.1,
  refusal_grows order (entry ∷ []) begun cause h.2,
)

abbrev pub NowSpared : Setting → Entry → Option Open → Type 0
NowSpared setting entry None = Unit {0}
NowSpared setting entry (Some current) = Spares setting entry current × ((visited : ℕ) → current.phase ≡ Stamping visited → ⊥)

now_grows : (setting : Setting) (order : List Entry) (entry : Entry) (now : Option Open) → NowPasses setting order now → NowSpared setting entry now
    → NowPasses setting (order ++ entry ∷ []) now
now_grows setting order entry None h s = tt
now_grows setting order entry (Some current) h s = record {
  low = h.low;
  born = born_grows setting order (entry ∷ []) current.begun h.born;
  phase = phase_grows setting order entry current.begun current.phase h.phase s.0 s.1;
}

pub done_grows : (setting : Setting) (order more : List Entry) (done : List Finished) → AllByRecursion (EndPasses setting order) done
    → AllByRecursion (EndPasses setting (order ++ more)) done
done_grows setting order more done h =
    all_so (EndPasses setting order) (EndPasses setting (order ++ more)) done (λ finished. ends_grow setting order more finished) h

pub session_grows : (setting : Setting) (order : List Entry) (entry : Entry) (session : Session) → SessionPasses setting order session
    → NowSpared setting entry session.now → SessionPasses setting (order ++ entry ∷ []) session
session_grows setting order entry session h s = record {
  done = done_grows setting order (entry ∷ []) session.done h.done;
  now = now_grows setting order entry session.now h.now s;
}

-- ---- the entry of a transaction

-- one's own positions are clear
abbrev pub OwnClear : List Entry → Begun → Type 0
OwnClear order begun = (table pos : ℕ) → is_some (item_at begun.own table pos) ≡ true → Clear order begun table pos

pub record IsEntry (setting : Setting) (order : List Entry) (begun : Begun) (entry : Entry) : Type 0 where
  pub fit : AllFit setting order
  pub befores : Befores setting order
  pub born : BornEmpty setting order begun
  pub clear : OwnClear order begun
  pub cells : entry.cells ≡ entry_cells (tables_at setting order begun.prefix) 0 begun.own

pair_of_is : (before : Cell) (own : Option Cell) (pair : Pair) → pair_of before own ≡ Some pair → (is_some own ≡ true) × (before ≡ pair.before)
pair_of_is before None pair e = absurd cc
pair_of_is before (Some own) pair e = (refl, ap (λ (pair : Pair). pair.before) (same_Some (record { before = before; after = own }) pair e))

-- it writes one's own positions, and the cell before is the one of one's start
pub entry_pair : (setting : Setting) (order : List Entry) (begun : Begun) (entry : Entry) → IsEntry setting order begun entry → (table pos : ℕ) (pair : Pair)
    → item_at entry.cells table pos ≡ Some pair
    → (is_some (item_at begun.own table pos) ≡ true) × (cell_at setting order begun.prefix table pos ≡ pair.before)
entry_pair setting order begun entry is table pos pair e =
    pair_of_is (cell_at setting order begun.prefix table pos) (item_at begun.own table pos) pair
    (sym (entry_item (tables_at setting order begun.prefix) begun.own table pos)
    ∙ (ap (λ (cells : List (List (Option Pair))). item_at cells table pos) (sym is.cells) ∙ e))

pub befores_grow : (setting : Setting) (order : List Entry) (begun : Begun) (entry : Entry) → IsEntry setting order begun entry
    → Befores setting (order ++ entry ∷ [])
befores_grow setting order begun entry is rank table pos pair e = elim (more_pairs order entry rank table pos pair e) [
  | inl old ↦ is.befores rank table pos pair old.1
      ∙ ap (λ (tables : Tables). item_at tables table pos) (sym (tables_grow setting order (entry ∷ []) rank (omega (arith, old.0))))
  | inr new ↦
      let parts = entry_pair setting order begun entry is table pos pair new.1 in
      let last : begun.prefix + (length order - begun.prefix) ≡ rank = omega (arith, is.born.start, new.0) in
      sym parts.1 ∙ (sym (cell_stays setting order is.fit begun.prefix table pos (is.clear table pos parts.0) (length order - begun.prefix))
      ∙ (ap (λ (n : ℕ). cell_at setting order n table pos) last
      ∙ ap (λ (tables : Tables). item_at tables table pos) (sym (tables_grow setting order (entry ∷ []) rank (omega (arith, new.0))))))
]

missed_from : (records : List Record) (from : ℕ) (order : List Entry) → first_hit records (map committed_of (drop from order)) ≡ None → (rank : ℕ)
    → from ≤ rank → (table pos : ℕ) (pair : Pair) → pair_at order rank table pos ≡ Some pair → record_hit records table pair.before pair.after ≡ None
missed_from records from order hit rank h table pos =
    from_dropped (λ (item : Option Pair). (pair : Pair) → item ≡ Some pair → record_hit records table pair.before pair.after ≡ None) from order table pos
    (λ i pair e. pair_missed records (drop from order) i table pos pair hit e) rank h

not_own : (order : List Entry) (begun : Begun) → OwnClear order begun → (rank table pos : ℕ) → begun.prefix ≤ rank → (pair : Pair)
    → pair_at order rank table pos ≡ Some pair → (own : Option Cell) → item_at begun.own table pos ≡ own → own ≡ None
not_own order begun clear rank table pos from pair e None o = refl
not_own order begun clear rank table pos from pair e (Some cell) o =
    absurd (let never : None ≡ Some pair = sym (clear table pos (ap is_some o) rank from) ∙ e in cc)

unseen_at : (setting : Setting) (order : List Entry) (begun : Begun) (entry : Entry) → IsEntry setting order begun entry
    → first_hit begun.records (map committed_of (drop begun.prefix order)) ≡ None → (at : ℕ) → begun.prefix ≤ at
    → DifferUnseen (tables_at setting order at) (tables_at setting order (suc at)) begun.own begun.records
unseen_at setting order begun entry is hit at from table pos = by_item (pair_at order at table pos) refl
  where
    by_item : (item : Option Pair) → pair_at order at table pos ≡ item
        → (cell_at setting order at table pos ≡ cell_at setting order (suc at) table pos)
        ⊎ IsUnseenAt begun.own begun.records table pos (cell_at setting order at table pos) (cell_at setting order (suc at) table pos)
    by_item None e = inl (sym (cell_next setting order is.fit at table pos None e))
    by_item (Some pair) e = inr (record {
      apart = not_own order begun is.clear at table pos from pair e (item_at begun.own table pos) refl;
      missed = subst (λ (cell : Cell). record_hit begun.records table cell (cell_at setting order (suc at) table pos) ≡ None)
          (is.befores at table pos pair e)
          (subst (λ (cell : Cell). record_hit begun.records table pair.before cell ≡ None) (sym (cell_next setting order is.fit at table pos (Some pair) e))
          (missed_from begun.records begun.prefix order hit at from table pos pair e));
    })

passes_at : (setting : Setting) (order : List Entry) (begun : Begun) (entry : Entry) → IsEntry setting order begun entry
    → first_hit begun.records (map committed_of (drop begun.prefix order)) ≡ None → (at : ℕ) → begun.prefix ≤ at → (table pos : ℕ) (pair : Pair)
    → pair_at order at table pos ≡ Some pair → PassesAt begun table pos pair
passes_at setting order begun entry is hit at from table pos pair e = record {
  apart = not_own order begun is.clear at table pos from pair e (item_at begun.own table pos) refl;
  missed = missed_from begun.records begun.prefix order hit at from table pos pair e;
}

wrote_at : (setting : Setting) (order : List Entry) (begun : Begun) (entry : Entry) → IsEntry setting order begun entry → (table pos : ℕ) (pair : Pair)
    → pair_at (order ++ entry ∷ []) (length order) table pos ≡ Some pair → is_some (item_at begun.own table pos) ≡ true
wrote_at setting order begun entry is table pos pair e = elim (more_pairs order entry (length order) table pos pair e) [
  | inl old ↦ absurd (omega (arith, old.0))
  | inr new ↦ (entry_pair setting order begun entry is table pos pair new.1).0
]

last_pair : (order : List Entry) (entry : Entry) (table pos : ℕ) → pair_at (order ++ entry ∷ []) (length order) table pos ≡ item_at entry.cells table pos
last_pair [] entry table pos = refl
last_pair (first ∷ order) entry table pos = last_pair order entry table pos

pair_of_own : (before : Cell) (own : Option Cell) → is_some own ≡ true → is_some (pair_of before own) ≡ true
pair_of_own before None h = absurd cc
pair_of_own before (Some cell) h = refl

has_at : (setting : Setting) (order : List Entry) (begun : Begun) (entry : Entry) → IsEntry setting order begun entry → (table pos : ℕ)
    → is_some (item_at begun.own table pos) ≡ true → is_some (pair_at (order ++ entry ∷ []) (length order) table pos) ≡ true
has_at setting order begun entry is table pos own =
    ap is_some (last_pair order entry table pos
    ∙ (ap (λ (cells : List (List (Option Pair))). item_at cells table pos) is.cells
    ∙ entry_item (tables_at setting order begun.prefix) begun.own table pos))
    ∙ pair_of_own (cell_at setting order begun.prefix table pos) (item_at begun.own table pos) own

pub entered_passed : (setting : Setting) (order : List Entry) (begun : Begun) (entry : Entry) → IsEntry setting order begun entry
    → first_hit begun.records (map committed_of (drop begun.prefix order)) ≡ None → Passed setting (order ++ entry ∷ []) begun (length order)
entered_passed setting order begun entry is hit = record {
  within = omega (arith, length-append order (entry ∷ []));
  unseen = λ at from to. subst (λ (tables : Tables). DifferUnseen tables (tables_at setting (order ++ entry ∷ []) (suc at)) begun.own begun.records)
      (sym (tables_grow setting order (entry ∷ []) at (omega (arith, to))))
      (subst (λ (tables : Tables). DifferUnseen (tables_at setting order at) tables begun.own begun.records)
      (sym (tables_grow setting order (entry ∷ []) (suc at) (omega (arith, to)))) (unseen_at setting order begun entry is hit at from));
  lays = entry_lays setting order entry (tables_at setting order begun.prefix) begun.own is.cells;
  passes = λ at from to table pos pair e. passes_at setting order begun entry is hit at from table pos pair
      (sym (pair_stays order (entry ∷ []) at table pos to) ∙ e);
  wrote = wrote_at setting order begun entry is;
  has = has_at setting order begun entry is;
  born = born_grows setting order (entry ∷ []) begun is.born;
}
