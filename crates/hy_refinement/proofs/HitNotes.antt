-- The notes that tell what an entry of the machine does, in order, and its changes among them.
use Rattle.std.proofs.Common.{◌≡◌, ◌≢◌, ℕ, zero, suc, ◌+◌, ◌<◌, ◌≤◌, List, [], ◌∷◌, ◌++◌, get_or, Option, None, Some, Bool, false}
use Rattle.std.proofs.Common.{refl, sym, ap, ◌∙◌, arith, cond}
use Rattle.std.specs.Prelude.{filter, ◌==◌, ◌&&◌}
use Rattle.std.specs.List.{AllByRecursion}
use Rattle.std.specs.Ordering.{ordering_then, nat_cmp}
use Rattle.std.specs.declared.cmp.Ordering.TheVariants.{Less, Equal, Greater}
use Rattle.std.proofs.lemmas.Bool.{lt-ltb, le-ltb, eq-eqb, ne_eqb, and_from, and_left, and_right}
use Rattle.std.proofs.lemmas.List.Elements.{filter-append}
use Rattle.hy_value.specs.declared.change.Change.{Change}
use Rattle.hy_notes.specs.Notes.{Cell, Ascends, order_of, note_at, is_change}
use Rattle.hy_machine.specs.Tables.{Pair}
use Rattle.hy_machine.specs.Positions.{item_at, by_position, by_table, by_place}
use Rattle.hy_machine.specs.Validation.{change_between, change_at}
use Rattle.hy_refinement.specs.Numbers.{noted}

-- what an entry does at a position, also where nothing was and nothing is
abbrev pub whole_at : ℕ → ℕ → Pair → List Change
whole_at table pos pair = record { table = table; pos = pos; before = pair.before; after = pair.after } ∷ []

-- ---- in order

by_table_less : (note : Change) (table pos : ℕ) → note.table < table → order_of note table pos ≡ Less
by_table_less note table pos less =
    ap (λ (b : Bool). ordering_then (cond b Less (cond (note.table == table) Equal Greater)) (nat_cmp note.pos pos)) (lt-ltb note.table table less)

by_pos_less : (note : Change) (table pos : ℕ) → note.table ≡ table → note.pos < pos → order_of note table pos ≡ Less
by_pos_less note table pos same less =
    ap (λ (b : Bool). ordering_then (cond b Less (cond (note.table == table) Equal Greater)) (nat_cmp note.pos pos))
    (le-ltb note.table table (omega (arith, same)))
    ∙ (ap (λ (b : Bool). ordering_then (cond b Equal Greater) (nat_cmp note.pos pos)) (eq-eqb note.table table same)
    ∙ ap (λ (b : Bool). cond b Less (cond (note.pos == pos) Equal Greater)) (lt-ltb note.pos pos less))

abbrev AllOf : (Change → Type 0) → List Change → Type 0
AllOf P notes = AllByRecursion P notes

all_map : (P Q : Change → Type 0) (notes : List Change) → ((note : Change) → P note → Q note) → AllOf P notes → AllOf Q notes
all_map P Q [] f all = tt
all_map P Q (note ∷ notes) f all = (f note all.0, all_map P Q notes f all.1)

all_append : (P : Change → Type 0) (notes others : List Change) → AllOf P notes → AllOf P others → AllOf P (notes ++ others)
all_append P [] others a b = b
all_append P (note ∷ notes) others a b = (a.0, all_append P notes others a.1 b)

-- notes of a table's positions from one on
positions_from : (table bound pos : ℕ) (items : List (Option Pair)) → bound ≤ pos
    → AllOf (λ note. (note.table ≡ table) × (bound ≤ note.pos)) (by_position (whole_at table) pos items)
positions_from table bound pos [] le = tt
positions_from table bound pos (None ∷ items) le = positions_from table bound (suc pos) items (omega (arith, le))
positions_from table bound pos (Some pair ∷ items) le = ((refl, le), positions_from table bound (suc pos) items (omega (arith, le)))

-- notes of tables from one on
tables_from : (bound table : ℕ) (lists : List (List (Option Pair))) → bound ≤ table → AllOf (λ note. bound ≤ note.table) (by_table whole_at table lists)
tables_from bound table [] le = tt
tables_from bound table (items ∷ lists) le =
    all_append (λ note. bound ≤ note.table) (by_position (whole_at table) 0 items) (by_table whole_at (suc table) lists)
    (all_map (λ note. (note.table ≡ table) × (0 ≤ note.pos)) (λ note. bound ≤ note.table) (by_position (whole_at table) 0 items)
    (λ note h. let same = h.0 in omega (arith, same, le)) (positions_from table 0 0 items (omega arith)))
    (tables_from bound (suc table) lists (omega (arith, le)))

positions_ascend : (table pos : ℕ) (items : List (Option Pair)) → Ascends (by_position (whole_at table) pos items)
positions_ascend table pos [] = tt
positions_ascend table pos (None ∷ items) = positions_ascend table (suc pos) items
positions_ascend table pos (Some pair ∷ items) =
    let note : Change = record { table = table; pos = pos; before = pair.before; after = pair.after } in (
      all_map (λ later. (later.table ≡ table) × (suc pos ≤ later.pos)) (λ later. order_of note later.table later.pos ≡ Less)
          (by_position (whole_at table) (suc pos) items)
          (λ later h. by_pos_less note later.table later.pos (sym h.0) (let more = h.1 in omega (arith, more)))
          (positions_from table (suc pos) (suc pos) items (omega arith)),
      positions_ascend table (suc pos) items,
    )

ascend_append : (table : ℕ) (notes others : List Change) → Ascends notes → Ascends others → AllOf (λ note. note.table ≡ table) notes
    → AllOf (λ note. suc table ≤ note.table) others → Ascends (notes ++ others)
ascend_append table [] others a b first later = b
ascend_append table (note ∷ notes) others a b first later = (
  all_append (λ other. order_of note other.table other.pos ≡ Less) notes others a.0
      (all_map (λ other. suc table ≤ other.table) (λ other. order_of note other.table other.pos ≡ Less) others
      (λ other more. by_table_less note other.table other.pos (let same = first.0 in omega (arith, same, more))) later),
  ascend_append table notes others a.1 b first.1 later,
)

tables_ascend : (table : ℕ) (lists : List (List (Option Pair))) → Ascends (by_table whole_at table lists)
tables_ascend table [] = tt
tables_ascend table (items ∷ lists) =
    ascend_append table (by_position (whole_at table) 0 items) (by_table whole_at (suc table) lists)
    (positions_ascend table 0 items) (tables_ascend (suc table) lists)
    (all_map (λ note. (note.table ≡ table) × (0 ≤ note.pos)) (λ note. note.table ≡ table) (by_position (whole_at table) 0 items)
    (λ note h. h.0) (positions_from table 0 0 items (omega arith)))
    (tables_from (suc table) (suc table) lists (omega arith))

pub wholes_ascend : (lists : List (List (Option Pair))) → Ascends (by_place whole_at lists)
wholes_ascend lists = tables_ascend 0 lists

-- ---- what they tell

-- nothing is noted at a position where no note is
none_at : (notes : List Change) (table pos : ℕ) → AllOf (λ note. (note.table == table && note.pos == pos) ≡ false) notes → note_at notes table pos ≡ None
none_at [] table pos all = refl
none_at (note ∷ notes) table pos all =
    ap (λ (b : Bool). cond b (Some (note.before, note.after)) (note_at notes table pos)) all.0 ∙ none_at notes table pos all.1

-- behind notes of other positions what the others tell
behind_notes : (notes others : List Change) (table pos : ℕ) → AllOf (λ note. (note.table == table && note.pos == pos) ≡ false) notes
    → note_at (notes ++ others) table pos ≡ note_at others table pos
behind_notes [] others table pos all = refl
behind_notes (note ∷ notes) others table pos all =
    ap (λ (b : Bool). cond b (Some (note.before, note.after)) (note_at (notes ++ others) table pos)) all.0 ∙ behind_notes notes others table pos all.1

-- before notes of other tables what the first tell
before_notes : (notes others : List Change) (table pos : ℕ) → AllOf (λ note. (note.table == table && note.pos == pos) ≡ false) others
    → note_at (notes ++ others) table pos ≡ note_at notes table pos
before_notes [] others table pos all = none_at others table pos all
before_notes (note ∷ notes) others table pos all =
    ap (λ (rest : Option (Cell × Cell)). cond (note.table == table && note.pos == pos) (Some (note.before, note.after)) rest) (before_notes notes others table pos all)

told_in_table : (table pos index : ℕ) (items : List (Option Pair))
    → note_at (by_position (whole_at table) pos items) table (pos + index) ≡ noted (get_or items index None)
told_in_table table pos index [] = refl
told_in_table table pos zero (None ∷ items) =
    none_at (by_position (whole_at table) (suc pos) items) table (pos + 0)
    (all_map (λ note. (note.table ≡ table) × (suc pos ≤ note.pos)) (λ note. (note.table == table && note.pos == (pos + 0)) ≡ false)
    (by_position (whole_at table) (suc pos) items)
    (λ note h. and_right (note.table == table) (note.pos == (pos + 0)) (ne_eqb note.pos (pos + 0) (λ e. let more = h.1 in absurd (omega (arith, e, more)))))
    (positions_from table (suc pos) (suc pos) items (omega arith)))
told_in_table table pos (suc index) (None ∷ items) =
    ap (λ (n : ℕ). note_at (by_position (whole_at table) (suc pos) items) table n) (let e : pos + suc index ≡ suc pos + index = omega arith in e)
    ∙ told_in_table table (suc pos) index items
told_in_table table pos zero (Some pair ∷ items) =
    ap (λ (b : Bool). cond b (Some (pair.before, pair.after)) (note_at (by_position (whole_at table) (suc pos) items) table (pos + 0)))
    (and_from (table == table) (pos == (pos + 0)) (eq-eqb table table refl) (eq-eqb pos (pos + 0) (omega arith)))
told_in_table table pos (suc index) (Some pair ∷ items) =
    ap (λ (b : Bool). cond b (Some (pair.before, pair.after)) (note_at (by_position (whole_at table) (suc pos) items) table (pos + suc index)))
    (and_right (table == table) (pos == (pos + suc index)) (ne_eqb pos (pos + suc index) (λ e. absurd (omega (arith, e)))))
    ∙ (ap (λ (n : ℕ). note_at (by_position (whole_at table) (suc pos) items) table n) (let e : pos + suc index ≡ suc pos + index = omega arith in e)
    ∙ told_in_table table (suc pos) index items)

other_table : (table other pos : ℕ) (items : List (Option Pair)) → table ≢ other
    → AllOf (λ note. (note.table == other && note.pos == pos) ≡ false) (by_position (whole_at table) 0 items)
other_table table other pos items apart =
    all_map (λ note. (note.table ≡ table) × (0 ≤ note.pos)) (λ note. (note.table == other && note.pos == pos) ≡ false)
    (by_position (whole_at table) 0 items)
    (λ note h. and_left (note.table == other) (note.pos == pos) (ne_eqb note.table other (λ e. apart (sym h.0 ∙ e))))
    (positions_from table 0 0 items (omega arith))

told_in_tables : (table index pos : ℕ) (lists : List (List (Option Pair)))
    → note_at (by_table whole_at table lists) (table + index) pos ≡ noted (item_at lists index pos)
told_in_tables table index pos [] = refl
told_in_tables table zero pos (items ∷ lists) =
    before_notes (by_position (whole_at table) 0 items) (by_table whole_at (suc table) lists) (table + 0) pos
    (all_map (λ note. suc table ≤ note.table) (λ note. (note.table == (table + 0) && note.pos == pos) ≡ false) (by_table whole_at (suc table) lists)
    (λ note more. and_left (note.table == (table + 0)) (note.pos == pos) (ne_eqb note.table (table + 0) (λ e. absurd (omega (arith, e, more)))))
    (tables_from (suc table) (suc table) lists (omega arith)))
    ∙ (ap (λ (n : ℕ). note_at (by_position (whole_at table) 0 items) n pos) (let e : table + 0 ≡ table = omega arith in e)
    ∙ (ap (λ (n : ℕ). note_at (by_position (whole_at table) 0 items) table n) (let e : pos ≡ 0 + pos = omega arith in e)
    ∙ told_in_table table 0 pos items))
told_in_tables table (suc index) pos (items ∷ lists) =
    behind_notes (by_position (whole_at table) 0 items) (by_table whole_at (suc table) lists) (table + suc index) pos
    (other_table table (table + suc index) pos items (λ e. absurd (omega (arith, e))))
    ∙ (ap (λ (n : ℕ). note_at (by_table whole_at (suc table) lists) n pos) (let e : table + suc index ≡ suc table + index = omega arith in e)
    ∙ told_in_tables (suc table) index pos lists)

pub wholes_tell : (lists : List (List (Option Pair))) (table pos : ℕ) → note_at (by_place whole_at lists) table pos ≡ noted (item_at lists table pos)
wholes_tell lists table pos =
    ap (λ (n : ℕ). note_at (by_place whole_at lists) n pos) (let e : table ≡ 0 + table = omega arith in e) ∙ told_in_tables 0 table pos lists

-- ---- the changes among them

one_change : (table pos : ℕ) (before after : Cell) (rest : List Change)
    → filter is_change (record { table = table; pos = pos; before = before; after = after } ∷ rest) ≡ change_between table pos before after ++ filter is_change rest
one_change table pos None None rest = refl
one_change table pos None (Some row) rest = refl
one_change table pos (Some row) after rest = refl

changes_in_table : (table pos : ℕ) (items : List (Option Pair))
    → filter is_change (by_position (whole_at table) pos items) ≡ by_position (change_at table) pos items
changes_in_table table pos [] = refl
changes_in_table table pos (None ∷ items) = changes_in_table table (suc pos) items
changes_in_table table pos (Some pair ∷ items) =
    one_change table pos pair.before pair.after (by_position (whole_at table) (suc pos) items)
    ∙ ap (λ (rest : List Change). change_between table pos pair.before pair.after ++ rest) (changes_in_table table (suc pos) items)

changes_in_tables : (table : ℕ) (lists : List (List (Option Pair))) → filter is_change (by_table whole_at table lists) ≡ by_table change_at table lists
changes_in_tables table [] = refl
changes_in_tables table (items ∷ lists) =
    filter-append is_change (by_position (whole_at table) 0 items) (by_table whole_at (suc table) lists)
    ∙ (ap (λ (first : List Change). first ++ filter is_change (by_table whole_at (suc table) lists)) (changes_in_table table 0 items)
    ∙ ap (λ (rest : List Change). by_position (change_at table) 0 items ++ rest) (changes_in_tables (suc table) lists))

pub wholes_changes : (lists : List (List (Option Pair))) → filter is_change (by_place whole_at lists) ≡ by_place change_at lists
wholes_changes lists = changes_in_tables 0 lists
