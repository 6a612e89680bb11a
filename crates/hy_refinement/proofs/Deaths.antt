-- When the last writer of a position left it without a row, by the entries that count in its chunk.
use Rattle.std.proofs.Common.{◌≡◌, ℕ, ◌<◌, ◌≤◌, List, [], length, take, get_or, Option, None, Some, Bool, true, false, not}
use Rattle.std.proofs.Common.{refl, sym, ap, ◌∙◌, arith, inl, inr}
use Rattle.std.specs.Prelude.{slice_get, is_some, unwrap_or, ◌||◌, ◌==◌}
use Rattle.std.specs.List.{list_any}
use Rattle.std.proofs.lemmas.Bool.{ne_eqb, cases_lt, or_right}
use Rattle.std.proofs.lemmas.Option.{slice_get_within, slice_get-get_or}
use Rattle.hy_undo.specs.Places.{Place}
use Rattle.hy_journal.specs.declared.CoreData.{CoreData}
use Rattle.hy_journal.specs.declared.Entry.{Entry as Noted}
use Rattle.hy_event.specs.declared.SessionData.{SessionData}
use Rattle.hy_machine.specs.declared.Setting.{Setting}
use Rattle.hy_machine.specs.States.{State, Open as MachineOpen}
use Rattle.hy_machine.specs.Tables.{Entry, Cell, opening_tables}
use Rattle.hy_machine.specs.Positions.{item_at}
use Rattle.hy_machine.specs.Sessions.{session_at, snapshot}
use Rattle.hy_machine.specs.Holding.{has_pair}
use Rattle.hy_refinement.specs.Stamped.{entries_counted}
use Rattle.hy_refinement.specs.Numbers.{EntriesShow}
use Rattle.hy_refinement.specs.Places.{emptied_at, death_of}
use Rattle.hy_machine.specs.Kept.{Kept}
use Rattle.hy_refinement.specs.Rivals.{ShownAt}
use Rattle.hy_refinement.specs.Free.{HasPosition}
use Rattle.hy_refinement.proofs.Orders.{IsLastOf, last_or_none, last_some_at, last_some_none, cell_stays}
use Rattle.hy_refinement.proofs.LastCells.{any_true, any_false, taken_get, taken_below, leaves, emptied, not_emptied}
use Rattle.hy_refinement.proofs.RivalTops.{has_entry}
use Rattle.hy_refinement.proofs.Rivals.{all_or_marked}

-- ---- entries that count

-- all entries before a start count in every chunk
pub counted_since : (setting : Setting) (state : State) (table chunk : ℕ) → Kept setting state → (number : ℕ) (current : MachineOpen)
    → (session_at state number).now ≡ Some current
    → (current.begun.prefix ≤ entries_counted setting state table chunk) × (entries_counted setting state table chunk ≤ length state.order)
counted_since setting state table chunk kept number current is =
    let low = (kept.starts.opens number current is).1 in
    elim (all_or_marked setting state table chunk) [
      | inl all ↦ (omega (arith, all, low), omega (arith, all))
      | inr one ↦
          let since = kept.none_began_since one.0 one.1.0 number current is in
          let count = one.1.1 in
          (omega (arith, count, since), omega (arith, count))
    ]

-- the commit order has an entry where the journal has one
entered_of : (order : List Entry) (entries : List Noted) → EntriesShow order entries → (rank : ℕ) (entry : Noted) → slice_get entries rank ≡ Some entry
    → (entered : Entry) × (slice_get order rank ≡ Some entered)
entered_of order entries shows rank entry e =
    let count = shows.count in
    let within = slice_get_within entries rank entry e in
    let none : Entry = record { label = record { session = 0; txn = 0 }; cells = [] } in
    (get_or order rank none, slice_get-get_or order rank none (omega (arith, count, within)))

-- ---- death times

module _ (setting : Setting) (state : State) (core : CoreData) (sessions : List SessionData) (table chunk pos : ℕ)
    (shows : EntriesShow state.order core.entries) where
  abbrev counted : ℕ
  counted = entries_counted setting state table chunk

  emptied_not : (rank : ℕ) (entry : Noted) → slice_get (take counted core.entries) rank ≡ Some entry
      → ((entered : Entry) → slice_get state.order rank ≡ Some entered → has_pair table pos entered ≡ false) → emptied_at table pos entry ≡ None
  emptied_not rank entry e none =
      let there : slice_get core.entries rank ≡ Some entry = sym (taken_get counted core.entries rank (taken_below counted core.entries rank entry e)) ∙ e in
      let one = entered_of state.order core.entries shows rank entry there in
      not_emptied state.order core.entries table pos rank one.0 entry shows one.1 there (none one.0 one.1)

  -- where no entry wrote a position none emptied it
  pub death_by_none : ((rank : ℕ) (entry : Entry) → slice_get state.order rank ≡ Some entry → has_pair table pos entry ≡ false)
      → death_of setting state core table chunk pos ≡ 0
  death_by_none none =
      ap (λ (o : Option ℕ). unwrap_or o 0)
      (last_some_none (emptied_at table pos) (take counted core.entries) (λ rank entry e. emptied_not rank entry e (λ entered s. none rank entered s)))

  -- where the last writer left no row its time is the death time
  pub death_by_last : HasPosition (opening_tables setting) table pos → (last : IsLastOf (has_pair table pos) state.order) → last.rank < counted
      → item_at (snapshot setting state (length state.order)) table pos ≡ None → (entry : Noted) → slice_get core.entries last.rank ≡ Some entry
      → death_of setting state core table chunk pos ≡ entry.time
  death_by_last has last below gone entry stands =
      let left = leaves setting state table pos has last in
      ap (λ (o : Option ℕ). unwrap_or o 0)
      (last_some_at (emptied_at table pos) (take counted core.entries) last.rank entry entry.time
      (taken_get counted core.entries last.rank below ∙ stands)
      (emptied state.order core.entries table pos last.rank last.item entry left.pair shows last.stands stands left.pair_is (sym left.after ∙ gone))
      (λ other later less e. emptied_not other later e (λ entered s. last.last other entered less s)))

-- ---- a position that no entry wrote since a start

-- it had a first row, or an entry wrote it, exactly where it has a row or was emptied
pub row_or_emptied : (setting : Setting) (state : State) (core : CoreData) (sessions : List SessionData) (table chunk pos : ℕ) (place : Place)
    → ShownAt setting state core sessions table chunk pos place → HasPosition (opening_tables setting) table pos
    → (number : ℕ) (current : MachineOpen) → (session_at state number).now ≡ Some current
    → ((rank : ℕ) (entry : Entry) → current.begun.prefix ≤ rank → slice_get state.order rank ≡ Some entry → has_pair table pos entry ≡ false)
    → (is_some (item_at (snapshot setting state (entries_counted setting state table chunk)) table pos)
    || not (death_of setting state core table chunk pos == 0))
    ≡ (is_some (item_at (opening_tables setting) table pos) || list_any (has_pair table pos) state.order)
row_or_emptied setting state core sessions table chunk pos place shown has number current is quiet =
    elim (last_or_none (has_pair table pos) state.order) [
      | inl none ↦ by_none none
      | inr last ↦ by_last last
    ]
  where
    range : (current.begun.prefix ≤ entries_counted setting state table chunk) × (entries_counted setting state table chunk ≤ length state.order)
    range = counted_since setting state table chunk shown.kept number current is

    by_none : ((rank : ℕ) (entry : Entry) → slice_get state.order rank ≡ Some entry → has_pair table pos entry ≡ false)
        → (is_some (item_at (snapshot setting state (entries_counted setting state table chunk)) table pos)
        || not (death_of setting state core table chunk pos == 0))
        ≡ (is_some (item_at (opening_tables setting) table pos) || list_any (has_pair table pos) state.order)
    by_none none =
        let cell : item_at (snapshot setting state (entries_counted setting state table chunk)) table pos ≡ item_at (opening_tables setting) table pos =
        cell_stays setting state table pos 0 (entries_counted setting state table chunk) (omega arith) range.1 (λ rank entry l m e. none rank entry e) in
        let death = death_by_none setting state core sessions table chunk pos shown.core_shows.entries_show none in
        ap (λ (c : Cell). is_some c || not (death_of setting state core table chunk pos == 0)) cell
        ∙ (ap (λ (n : ℕ). is_some (item_at (opening_tables setting) table pos) || not (n == 0)) death
        ∙ sym (ap (λ (b : Bool). is_some (item_at (opening_tables setting) table pos) || b) (any_false (has_pair table pos) state.order none)))

    by_last : IsLastOf (has_pair table pos) state.order
        → (is_some (item_at (snapshot setting state (entries_counted setting state table chunk)) table pos)
        || not (death_of setting state core table chunk pos == 0))
        ≡ (is_some (item_at (opening_tables setting) table pos) || list_any (has_pair table pos) state.order)
    by_last last =
        let before : last.rank < current.begun.prefix = elim (cases_lt last.rank current.begun.prefix) [
          | inl less ↦ less
          | inr since ↦ absurd (let e = sym (quiet last.rank last.item since last.stands) ∙ last.passes in cc)
        ] in
        let low = range.0 in
        let cell : item_at (snapshot setting state (length state.order)) table pos
        ≡ item_at (snapshot setting state (entries_counted setting state table chunk)) table pos =
        cell_stays setting state table pos (entries_counted setting state table chunk) (length state.order) range.1 (omega arith)
        (λ rank entry l m e. quiet rank entry (omega (arith, l, low)) e) in
        row_or_death cell last (omega (arith, before, low))
        ∙ sym (or_right (is_some (item_at (opening_tables setting) table pos)) (list_any (has_pair table pos) state.order)
        (any_true (has_pair table pos) state.order last.rank last.item last.stands last.passes))
      where
        row_or_death : item_at (snapshot setting state (length state.order)) table pos
            ≡ item_at (snapshot setting state (entries_counted setting state table chunk)) table pos
            → (last : IsLastOf (has_pair table pos) state.order) → last.rank < entries_counted setting state table chunk
            → (is_some (item_at (snapshot setting state (entries_counted setting state table chunk)) table pos)
            || not (death_of setting state core table chunk pos == 0)) ≡ true
        row_or_death cell last below = by_cell (item_at (snapshot setting state (entries_counted setting state table chunk)) table pos) refl
          where
            by_cell : (c : Cell) → item_at (snapshot setting state (entries_counted setting state table chunk)) table pos ≡ c
                → (is_some c || not (death_of setting state core table chunk pos == 0)) ≡ true
            by_cell (Some row) e = refl
            by_cell None e =
                let found = has_entry setting state core sessions table chunk pos place shown last.rank last.item last.stands in
                let time = death_by_last setting state core sessions table chunk pos shown.core_shows.entries_show has last below (cell ∙ e) found.0 found.1 in
                let above = shown.core_shows.times_rise.above last.rank found.0 found.1 in
                ap (λ (n : ℕ). not (n == 0)) time ∙ ap not (ne_eqb found.0.time 0 (λ z. omega (arith, z, above)))
