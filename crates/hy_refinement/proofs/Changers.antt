-- The last entry that wrote a position where a transaction sees a row changed it.
use Rattle.std.proofs.Common.{◌≡◌, ℕ, ◌<◌, ◌≤◌, List, length, Option, None, Some, true, false, refl, sym, ap, ◌∙◌, arith, inl, inr}
use Rattle.std.specs.Prelude.{slice_get, is_some}
use Rattle.std.proofs.lemmas.Bool.{cases_Bool, cases_lt}
use Rattle.hy_value.specs.declared.Value.{Value}
use Rattle.hy_stamp.specs.declared.Label.{Label}
use Rattle.hy_machine.specs.declared.Setting.{Setting}
use Rattle.hy_machine.specs.States.{State, Open, Begun}
use Rattle.hy_machine.specs.Tables.{Entry, Cell}
use Rattle.hy_machine.specs.Positions.{item_at}
use Rattle.hy_machine.specs.Sessions.{snapshot, pair_of}
use Rattle.hy_machine.specs.Holding.{has_pair, changes_row}
use Rattle.hy_machine.specs.Kept.{Kept, IsNow, IsAtOrOpen, ended, at_work, IsRanked, committed, entered}
use Rattle.hy_refinement.proofs.Orders.{cell_stays}

-- the transaction of an entry began before it
record BeganBefore (state : State) (rank : ℕ) (begun : Begun) : Type 0 where
  there : IsAtOrOpen state rank begun
  before : begun.prefix ≤ rank

began : (setting : Setting) (state : State) (rank : ℕ) (label : Label) (begun : Begun) → Kept setting state → IsRanked state rank label begun
    → BeganBefore state rank begun
began setting state rank label begun kept (committed before finished txn is ends) = record {
  there = ended label.session before finished is ends;
  before = (kept.starts.ended label.session before finished rank is ends).1;
}
began setting state rank label begun kept (entered current marked own is last) = record {
  there = at_work label.session current is;
  before = let since = kept.none_began_since label.session marked label.session current is in omega (arith, since, last);
}

-- a pair of an own cell that changes no row has none before it
unchanged : (before : Cell) (own : Option Cell) → is_some (pair_of before own) ≡ true → changes_row (pair_of before own) ≡ false
    → (is_some own ≡ true) × (before ≡ None)
unchanged before None e f = absurd cc
unchanged None (Some cell) e f = (refl, refl)
unchanged (Some row) (Some cell) e f = absurd cc

pub is_changed : (setting : Setting) (state : State) (table pos : ℕ) → Kept setting state → (number : ℕ) (current : Open) → IsNow state number current
    → (row : List Value) → item_at (snapshot setting state current.begun.prefix) table pos ≡ Some row
    → (rank : ℕ) (entry : Entry) → slice_get state.order rank ≡ Some entry → has_pair table pos entry ≡ true → current.begun.prefix ≤ rank
    → rank < length state.order
    → ((other : ℕ) (later : Entry) → rank < other → slice_get state.order other ≡ Some later → has_pair table pos later ≡ false)
    → changes_row (item_at entry.cells table pos) ≡ true
is_changed setting state table pos kept number current is row sees rank entry stands wrote since within last =
    elim (cases_Bool (changes_row (item_at entry.cells table pos))) [
      | inl yes' ↦ yes'
      | inr isnt ↦ absurd (never isnt)
    ]
  where
    found : (begun : Begun) × IsRanked state rank entry.label begun
    found = kept.ranks.each rank entry stands

    never : changes_row (item_at entry.cells table pos) ≡ false → ⊥
    never isnt =
        let begun : Begun = found.0 in
        let pair : item_at entry.cells table pos ≡ pair_of (item_at (snapshot setting state rank) table pos) (item_at begun.own table pos) =
        kept.entries_are rank entry begun stands found.1 table pos in
        let none = unchanged (item_at (snapshot setting state rank) table pos) (item_at begun.own table pos) (sym (ap is_some pair) ∙ wrote) (sym
        (ap changes_row pair) ∙ isnt) in
        let when = began setting state rank entry.label begun kept found.1 in
        let quiet = λ (other : ℕ) (earlier : Entry) (l : begun.prefix ≤ other) (m : other < rank) (e : slice_get state.order other ≡ Some earlier).
        kept.positions_are_own.committed rank other entry earlier begun stands found.1 l m e table pos none.0 in
        let at_start : item_at (snapshot setting state begun.prefix) table pos ≡ None =
        sym (cell_stays setting state table pos begun.prefix rank when.before (omega (arith, within)) quiet) ∙ none.1 in
        let gone : item_at (snapshot setting state current.begun.prefix) table pos ≡ None = elim (cases_lt current.begun.prefix begun.prefix) [
          | inl earlier ↦
              kept.born_empty rank begun when.there table pos none.0 at_start current.begun.prefix
              (kept.lows_lie_low number current is rank since begun when.there) (omega (arith, earlier))
          | inr later ↦
              cell_stays setting state table pos begun.prefix current.begun.prefix later (omega (arith, since, within))
              (λ other one l m e. quiet other one l (omega (arith, m, since)) e)
              ∙ at_start
        ] in
        absurd (let e : Some row ≡ None = sym sees ∙ gone in cc)
