-- The entries of a journal on held tables, each of which follows one of the machine on the machine's tables: they stand, and
-- leave the machine's tables.
use Rattle.std.proofs.Common.{◌≡◌, ℕ, zero, suc, ◌<◌, ◌≤◌, List, [], ◌∷◌, Option, None, Some, length, map, take, get_or, refl, ap, sym, ◌∙◌, subst, arith}
use Rattle.std.specs.Prelude.{slice_get, IsTrue, IsSomeAnd}
use Rattle.std.specs.List.{AllByRecursion}
use Rattle.std.specs.Option.{option_and_then}
use Rattle.std.proofs.lemmas.Option.{slice_get-get_or}
use Rattle.hy_value.specs.declared.Kind.{Kind}
use Rattle.hy_value.specs.declared.change.Change.{Change}
use Rattle.hy_journal.specs.declared.Entry.{Entry}
use Rattle.hy_log_record.specs.declared.HeldTable.{HeldTable}
use Rattle.hy_log_record.specs.Bytes.{net_of}
use Rattle.hy_log_record.specs.Bodies.{IsRowOf, IsChangeOf}
use Rattle.hy_machine.specs.Tables.{Pair, Entry as Entered, Cell, Tables, overlaid, covered, covered_tables, after_entry, history}
use Rattle.hy_machine.specs.Positions.{item_at, by_place}
use Rattle.hy_machine.specs.Validation.{change_at}
use Rattle.hy_redo.specs.Tables.{Held, after_changes, after_entry as after_noted, applied, rise, BeginsFrom, IsBehind, Stands, AllStand}
use Rattle.hy_stepping.specs.Typed.{kinds_of}
use Rattle.hy_recovery.specs.Recovered.{held, held_tables}
use Rattle.hy_stepping.proofs.EntryPlaces.{change_of, all_changes}
use Rattle.hy_stepping.proofs.LaidEntries.{left, AllBegin, changes_left}

-- tables of so many positions each, one for each list of kinds
pub record AreShaped (most : ℕ) (kinds : List (List Kind)) (tables : Tables) : Type 0 where
  pub many : length tables ≡ length kinds
  pub full : AllByRecursion (λ (cells : List Cell). length cells ≡ most) tables

-- An entry of the journal follows one of the machine on these tables: its net changes are the machine's, in order and within
-- the tables, they begin from the cells that stand there, and the rows before and after are of their table's kinds.
pub record Follows (most : ℕ) (kinds : List (List Kind)) (tables : Tables) (entered : Entered) (entry : Entry) : Type 0 where
  pub net : net_of entry ≡ by_place change_at entered.cells
  pub order : IsTrue (rise (net_of entry))
  pub few : length entered.cells ≤ length kinds
  pub fit : AllByRecursion (λ (items : List (Option Pair)). length items ≤ most) entered.cells
  pub begin : AllBegin tables entered.cells
  pub before : (table pos : ℕ) → IsRowOf (kinds_of kinds table) (item_at tables table pos)
  pub after : (table pos : ℕ) (pair : Pair) → item_at entered.cells table pos ≡ Some pair → IsRowOf (kinds_of kinds table) pair.after

-- each entry follows that of its rank on the tables after those before it
abbrev pub AllFollow : ℕ → List (List Kind) → Tables → List Entered → List Entry → Type 0
AllFollow most kinds tables order entries = (rank : ℕ) (entered : Entered) (entry : Entry) → slice_get order rank ≡ Some entered
    → slice_get entries rank ≡ Some entry → Follows most kinds (history tables (take rank order)) entered entry

-- ---- one place

-- a table is there with its kinds and its cells, and so is a cell of it
record IsThere (kinds : List (List Kind)) (tables : Tables) (table pos : ℕ) : Type 0 where
  table_is : slice_get (held_tables kinds tables) table ≡ Some (held (kinds_of kinds table) (get_or tables table []))
  cell_is : slice_get (get_or tables table []) pos ≡ Some (item_at tables table pos)

within : (items : List (Option Pair)) (pos : ℕ) (pair : Pair) → get_or items pos None ≡ Some pair → pos < length items
within [] pos pair e = absurd cc
within (item ∷ items) zero pair e = omega arith
within (item ∷ items) (suc pos) pair e = omega (arith, within items pos pair e)

-- so it is where an entry that fits has a pair
there : (most : ℕ) (kinds : List (List Kind)) (tables : Tables) (lists : List (List (Option Pair))) (table pos : ℕ) (pair : Pair)
    → length tables ≡ length kinds → AllByRecursion (λ (cells : List Cell). length cells ≡ most) tables → length lists ≤ length kinds
    → AllByRecursion (λ (items : List (Option Pair)). length items ≤ most) lists → item_at lists table pos ≡ Some pair → IsThere kinds tables table pos
there most kinds tables [] table pos pair many full few fit e = absurd cc
there most [] tables (items ∷ lists) table pos pair many full few fit e = absurd (omega (arith, few))
there most (one ∷ kinds) [] (items ∷ lists) table pos pair many full few fit e = absurd (omega (arith, many))
there most (one ∷ kinds) (cells ∷ tables) (items ∷ lists) zero pos pair many full few fit e = record {
  table_is = refl;
  cell_is = slice_get-get_or cells pos None (omega (arith, within items pos pair e, fit.0, full.0));
}
there most (one ∷ kinds) (cells ∷ tables) (items ∷ lists) (suc table) pos pair many full few fit e =
    let more : IsThere kinds tables table pos =
    there most kinds tables lists table pos pair (omega (arith, many)) full.1 (omega (arith, few)) fit.1 e in
    record { table_is = more.table_is; cell_is = more.cell_is }

-- ---- one entry

-- the change of a place is one of the tables, and begins from what stands there
record StandsAt (tables : Held) (change : Change) : Type 0 where
  of : IsChangeOf tables change
  begins : BeginsFrom tables change

stands_at : (most : ℕ) (kinds : List (List Kind)) (tables : Tables) (entered : Entered) (entry : Entry) → AreShaped most kinds tables
    → Follows most kinds tables entered entry → (table pos : ℕ) (pair : Pair) → item_at entered.cells table pos ≡ Some pair
    → StandsAt (held_tables kinds tables) (change_of table pos pair)
stands_at most kinds tables entered entry shaped follows table pos pair e = record {
  of = subst
      (λ (found : Option HeldTable). IsSomeAnd found (λ (one : HeldTable). IsRowOf one.kinds pair.before × IsRowOf one.kinds pair.after))
      (sym place.table_is)
      (subst (IsRowOf (kinds_of kinds table)) (sym begin) (follows.before table pos), follows.after table pos pair e);
  begins = ap (option_and_then (λ (one : HeldTable). slice_get one.rows pos)) place.table_is ∙ (place.cell_is ∙ ap Some (sym begin));
}
  where
    place : IsThere kinds tables table pos
    place = there most kinds tables entered.cells table pos pair shaped.many shaped.full follows.few follows.fit e

    begin : pair.before ≡ item_at tables table pos
    begin = follows.begin table pos pair e

stands_one : (most : ℕ) (kinds : List (List Kind)) (tables : Tables) (last : Option ℕ) (entered : Entered) (entry : Entry)
    → AreShaped most kinds tables → Follows most kinds tables entered entry → IsBehind last entry.time → Stands (held_tables kinds tables) last entry
stands_one most kinds tables last entered entry shaped follows behind = record {
  of = subst (AllByRecursion (IsChangeOf (held_tables kinds tables))) (sym follows.net)
      (all_changes (IsChangeOf (held_tables kinds tables)) entered.cells
      (λ table pos pair e. (stands_at most kinds tables entered entry shaped follows table pos pair e).of));
  order = follows.order;
  begins = subst (AllByRecursion (BeginsFrom (held_tables kinds tables))) (sym follows.net)
      (all_changes (BeginsFrom (held_tables kinds tables)) entered.cells
      (λ table pos pair e. (stands_at most kinds tables entered entry shaped follows table pos pair e).begins));
  behind = behind;
}

-- it leaves the tables that the machine's leaves
after_one : (most : ℕ) (kinds : List (List Kind)) (tables : Tables) (entered : Entered) (entry : Entry) → AreShaped most kinds tables
    → Follows most kinds tables entered entry → after_noted (held_tables kinds tables) entry ≡ held_tables kinds (after_entry tables entered)
after_one most kinds tables entered entry shaped follows =
    let many : length tables ≡ length kinds = shaped.many in
    let few : length entered.cells ≤ length kinds = follows.few in
    ap (after_changes (held_tables kinds tables)) follows.net
    ∙ changes_left most kinds tables entered.cells shaped.many shaped.full (omega (arith, many, few)) follows.fit follows.begin

-- ---- the shape of tables

overlaid_length : {A B : Type 0} (f : A → B → A) (xs : List A) (ys : List B) → length (overlaid f xs ys) ≡ length xs
overlaid_length f [] ys = refl
overlaid_length f (x ∷ xs) [] = refl
overlaid_length f (x ∷ xs) (y ∷ ys) = ap suc (overlaid_length f xs ys)

covered_full : (most : ℕ) (tables : Tables) (lists : List (List (Option Pair))) → AllByRecursion (λ (cells : List Cell). length cells ≡ most) tables
    → AllByRecursion (λ (cells : List Cell). length cells ≡ most) (covered_tables left tables lists)
covered_full most [] lists h = tt
covered_full most (cells ∷ tables) [] h = h
covered_full most (cells ∷ tables) (items ∷ lists) h = (overlaid_length (covered left) cells items ∙ h.0, covered_full most tables lists h.1)

after_shaped : (most : ℕ) (kinds : List (List Kind)) (tables : Tables) (entered : Entered) → AreShaped most kinds tables
    → AreShaped most kinds (after_entry tables entered)
after_shaped most kinds tables entered shaped = record {
  many = overlaid_length (overlaid (covered left)) tables entered.cells ∙ shaped.many;
  full = covered_full most tables entered.cells shaped.full;
}

pub history_shaped : (most : ℕ) (kinds : List (List Kind)) (tables : Tables) (order : List Entered) → AreShaped most kinds tables
    → AreShaped most kinds (history tables order)
history_shaped most kinds tables [] shaped = shaped
history_shaped most kinds tables (entered ∷ order) shaped =
    history_shaped most kinds (after_entry tables entered) order (after_shaped most kinds tables entered shaped)

-- the cells of held tables
pub cells_held : (kinds : List (List Kind)) (tables : Tables) → length tables ≡ length kinds
    → map (λ (table : HeldTable). table.rows) (held_tables kinds tables) ≡ tables
cells_held [] [] many = refl
cells_held [] (cells ∷ tables) many = absurd (omega (arith, many))
cells_held (one ∷ kinds) [] many = absurd (omega (arith, many))
cells_held (one ∷ kinds) (cells ∷ tables) many = ap (λ (rest : Tables). cells ∷ rest) (cells_held kinds tables (omega (arith, many)))

-- ---- all entries

-- the times of entries rise
abbrev pub TimesAscend : List Entry → Type 0
TimesAscend entries = (rank other : ℕ) (entry later : Entry) → rank < other → slice_get entries rank ≡ Some entry → slice_get entries other ≡ Some later
    → entry.time < later.time

pub stand_from : (most : ℕ) (kinds : List (List Kind)) (tables : Tables) (last : Option ℕ) (order : List Entered) (entries : List Entry)
    → AreShaped most kinds tables → length entries ≡ length order → AllFollow most kinds tables order entries
    → ((rank : ℕ) (entry : Entry) → slice_get entries rank ≡ Some entry → IsBehind last entry.time) → TimesAscend entries
    → AllStand (held_tables kinds tables) last entries
stand_from most kinds tables last order [] shaped count each behind ascend = tt
stand_from most kinds tables last [] (entry ∷ entries) shaped count each behind ascend = absurd (omega (arith, count))
stand_from most kinds tables last (entered ∷ order) (entry ∷ entries) shaped count each behind ascend =
    let now : Follows most kinds tables entered entry = each 0 entered entry refl refl in (
      stands_one most kinds tables last entered entry shaped now (behind 0 entry refl),
      subst (λ (after : Held). AllStand after (Some entry.time) entries) (sym (after_one most kinds tables entered entry shaped now))
          (stand_from most kinds (after_entry tables entered) (Some entry.time) order entries (after_shaped most kinds tables entered shaped)
          (omega (arith, count)) (λ rank one other e f. each (suc rank) one other e f)
          (λ rank later e. ascend 0 (suc rank) entry later (omega arith) refl e)
          (λ rank other one later less e f. ascend (suc rank) (suc other) one later (omega (arith, less)) e f)),
    )

pub leave_from : (most : ℕ) (kinds : List (List Kind)) (tables : Tables) (order : List Entered) (entries : List Entry)
    → AreShaped most kinds tables → length entries ≡ length order → AllFollow most kinds tables order entries → (count : ℕ)
    → applied (held_tables kinds tables) (take count entries) ≡ held_tables kinds (history tables (take count order))
leave_from most kinds tables order entries shaped long each zero = refl
leave_from most kinds tables [] [] shaped long each (suc count) = refl
leave_from most kinds tables [] (entry ∷ entries) shaped long each (suc count) = absurd (omega (arith, long))
leave_from most kinds tables (entered ∷ order) [] shaped long each (suc count) = absurd (omega (arith, long))
leave_from most kinds tables (entered ∷ order) (entry ∷ entries) shaped long each (suc count) =
    let now : Follows most kinds tables entered entry = each 0 entered entry refl refl in
    ap (λ (after : Held). applied after (take count entries)) (after_one most kinds tables entered entry shaped now)
    ∙ leave_from most kinds (after_entry tables entered) order entries (after_shaped most kinds tables entered shaped) (omega (arith, long))
    (λ rank one other e f. each (suc rank) one other e f) count
