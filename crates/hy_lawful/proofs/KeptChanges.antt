-- The entry of a committed transaction has a change at each position that the transaction wrote where a row stood at its start.
use Rattle.std.proofs.Common.{◌≡◌, ℕ, ◌≤◌, List, [], ◌∷◌, Option, None, Some, Bool, true, false, is_some, map}
use Rattle.std.proofs.Common.{refl, ap, sym, ◌∙◌}
use Rattle.std.specs.Prelude.{slice_get, IfSome, ◌&&◌, ◌||◌, ◌==◌}
use Rattle.std.specs.List.{list_any}
use Rattle.std.specs.Option.{IsSomeAnd}
use Rattle.std.proofs.lemmas.Bool.{or_left, and_from, eq-eqb}
use Rattle.hy_value.specs.declared.Value.{Value}
use Rattle.hy_value.specs.declared.change.Change.{Change}
use Rattle.hy_render.specs.declared.Place.{Place}
use Rattle.hy_render.specs.declared.Committed.{Committed as Committing}
use Rattle.hy_machine.specs.declared.Setting.{Setting}
use Rattle.hy_machine.specs.States.{Begun}
use Rattle.hy_machine.specs.Tables.{Entry, Pair, Cell}
use Rattle.hy_machine.specs.Positions.{item_at, by_place}
use Rattle.hy_machine.specs.Writes.{written}
use Rattle.hy_machine.specs.Validation.{change_between, change_at, committed_of}
use Rattle.hy_lawful.specs.Cells.{cell_at as printed_at}
use Rattle.hy_lawful.specs.Passing.{has_place}
use Rattle.hy_lawful.specs.Positions.{places_of}
use Rattle.hy_lawful.proofs.PassTables.{cell_at, pair_at}
use Rattle.hy_lawful.proofs.PassStates.{Passed, still_there}
use Rattle.hy_lawful.proofs.PrintedChanges.{any_by_place}
use Rattle.hy_lawful.proofs.PrintedPlaces.{mapped_and}
use Rattle.hy_lawful.proofs.PrintedTables.{IsOrder, if_some, pair_there, printed_is}
use Rattle.hy_lawful.proofs.WroteEnds.{place_is}

-- ---- a pair with a row before it is a change

any_place : (test : Place → Bool) (changes : List Change)
    → list_any test (places_of changes) ≡ list_any (λ (change : Change). test (record { table = change.table; pos = change.pos })) changes
any_place test [] = refl
any_place test (change ∷ changes) = ap (λ (b : Bool). test (record { table = change.table; pos = change.pos }) || b) (any_place test changes)

changed_here : (table pos : ℕ) (before after : Cell) → is_some before ≡ true
    → list_any (λ (change : Change). change.table == table && change.pos == pos) (change_between table pos before after) ≡ true
changed_here table pos None after b = absurd cc
changed_here table pos (Some row) after b =
    or_left (table == table && pos == pos) false (and_from (table == table) (pos == pos) (eq-eqb table table refl) (eq-eqb pos pos refl))

change_found : (cells : List (List (Option Pair))) (table pos : ℕ) (pair : Pair) → item_at cells table pos ≡ Some pair → is_some pair.before ≡ true
    → has_place (places_of (by_place change_at cells)) table pos ≡ true
change_found cells table pos pair e b =
    any_place (λ (place : Place). place.table == table && place.pos == pos) (by_place change_at cells)
    ∙ any_by_place (λ (change : Change). change.table == table && change.pos == pos) change_at cells table pos pair e
    (changed_here table pos pair.before pair.after b)

-- ---- an entry

-- the entry of a transaction changes what this wrote where a row stood at its start
pub changes_what_was_written : (setting : Setting) (order : List Entry) → IsOrder setting order → (begun : Begun) (rank : ℕ) → begun.prefix ≤ rank
    → Passed setting order begun rank
    → IsSomeAnd (slice_get (map committed_of order) rank) (λ (entry : Committing). (table pos : ℕ) → has_place (written begun.own) table pos ≡ true
    → IfSome (printed_at setting (map committed_of order) begun.prefix table pos)
    (λ (row : List Value). has_place (places_of entry.changes) table pos ≡ true))
changes_what_was_written setting order is begun rank later passed =
    mapped_and (λ (entry : Committing). (table pos : ℕ) → has_place (written begun.own) table pos ≡ true
    → IfSome (printed_at setting (map committed_of order) begun.prefix table pos)
    (λ (row : List Value). has_place (places_of entry.changes) table pos ≡ true)) committed_of order rank passed.within
    (λ entry here table pos wrote. if_some (λ (row : List Value). has_place (places_of (committed_of entry).changes) table pos ≡ true)
    (printed_at setting (map committed_of order) begun.prefix table pos)
    (λ row e. changed entry here table pos (sym (place_is begun.own table pos (item_at begun.own table pos) refl) ∙ wrote) row
    (sym (printed_is setting order is begun.prefix table pos) ∙ e) (pair_at order rank table pos) refl))
  where
    changed : (entry : Entry) → slice_get order rank ≡ Some entry → (table pos : ℕ) → is_some (item_at begun.own table pos) ≡ true
        → (row : List Value) → cell_at setting order begun.prefix table pos ≡ Some row → (item : Option Pair) → pair_at order rank table pos ≡ item
        → has_place (places_of (by_place change_at entry.cells)) table pos ≡ true
    changed entry here table pos own row e None p =
        let never : is_some (pair_at order rank table pos) ≡ false = ap is_some p in
        absurd (cc (never, passed.has table pos own))
    changed entry here table pos own row e (Some pair) p =
        change_found entry.cells table pos pair (sym (pair_there order rank entry here table pos) ∙ p)
        (ap is_some (is.befores rank table pos pair p ∙ (still_there setting order is.fit begun rank later passed table pos own ∙ e)))
