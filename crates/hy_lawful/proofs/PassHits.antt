-- What it says of the pairs of entries that none changed a position, none wrote it, and none hit a record.
use Rattle.std.proofs.Common.{◌≡◌, ℕ, zero, suc, ◌+◌, ◌-◌, ◌≤◌, List, [], ◌∷◌, ◌++◌, Option, None, Some, Bool, true, false, is_some, map}
use Rattle.std.proofs.Common.{drop, get_or, cond, refl, ap, sym, ◌∙◌, subst, arith, inl, inr, zero-add, add-zero}
use Rattle.std.specs.Prelude.{◌==◌}
use Rattle.std.specs.List.{list_any}
use Rattle.std.specs.Option.{option_or, option_map}
use Rattle.std.proofs.lemmas.Bool.{cases_Bool, or_parts}
use Rattle.std.proofs.lemmas.Option.{same_Some}
use Rattle.hy_bound.specs.declared.Record.{Record}
use Rattle.hy_value.specs.declared.change.Change.{Change}
use Rattle.hy_stamp.specs.declared.Label.{Label}
use Rattle.hy_bound.specs.declared.Ending.{Ending}
use Rattle.hy_machine.specs.Tables.{Entry, Pair, Cell}
use Rattle.hy_machine.specs.Positions.{item_at, last_some, by_position, by_table}
use Rattle.hy_machine.specs.Holding.{changes_row, changer_at, has_pair}
use Rattle.hy_machine.specs.Validation.{change_between, change_at, committed_of, record_hit, invalid_at, change_hits, hit_among, first_hit}
use Rattle.hy_lawful.proofs.PassTables.{pair_at}

-- ---- the entries from one on

pub dropped_pair : (from : ℕ) (order : List Entry) (i table pos : ℕ) → pair_at (drop from order) i table pos ≡ pair_at order (from + i) table pos
dropped_pair zero order i table pos = ap (λ (n : ℕ). pair_at order n table pos) (sym (zero-add i))
dropped_pair (suc from) [] i table pos = refl
dropped_pair (suc from) (entry ∷ order) i table pos = dropped_pair from order i table pos
    ∙ ap (λ (n : ℕ). pair_at (entry ∷ order) n table pos) (let e : suc (from + i) ≡ suc from + i = omega arith in e)

pub from_dropped : (P : Option Pair → Type 0) (from : ℕ) (order : List Entry) (table pos : ℕ) → ((i : ℕ) → P (pair_at (drop from order) i table pos))
    → (rank : ℕ) → from ≤ rank → P (pair_at order rank table pos)
from_dropped P from order table pos f rank h =
    subst P (dropped_pair from order (rank - from) table pos
    ∙ ap (λ (n : ℕ). pair_at order n table pos) (let e : from + (rank - from) ≡ rank = omega (arith, h) in e)) (f (rank - from))

-- ---- no change, no write

pub or_none : {X : Type 0} (a b : Option X) → option_or a b ≡ None → (a ≡ None) × (b ≡ None)
or_none None b e = (refl, e)
or_none (Some a) b e = absurd cc

not_chosen : {X : Type 0} (b : Bool) (x : X) → cond b (Some x) None ≡ None → b ≡ false
not_chosen true x e = absurd cc
not_chosen false x e = refl

pub unchanged : (table pos : ℕ) (entries : List Entry) → last_some (changer_at table pos) entries ≡ None → (i : ℕ)
    → changes_row (pair_at entries i table pos) ≡ false
unchanged table pos [] e i = refl
unchanged table pos (entry ∷ entries) e zero =
    not_chosen (changes_row (item_at entry.cells table pos)) entry.label
    (or_none (last_some (changer_at table pos) entries) (changer_at table pos entry) e).1
unchanged table pos (entry ∷ entries) e (suc i) =
    unchanged table pos entries (or_none (last_some (changer_at table pos) entries) (changer_at table pos entry) e).0 i

pub none_there : {X : Type 0} (item : Option X) → is_some item ≡ false → item ≡ None
none_there None e = refl
none_there (Some x) e = absurd cc

pub unwritten : (table pos : ℕ) (entries : List Entry) → list_any (has_pair table pos) entries ≡ false → (i : ℕ) → pair_at entries i table pos ≡ None
unwritten table pos [] e i = refl
unwritten table pos (entry ∷ entries) e zero =
    none_there (item_at entry.cells table pos) (or_parts (has_pair table pos entry) (list_any (has_pair table pos) entries) e).0
unwritten table pos (entry ∷ entries) e (suc i) =
    unwritten table pos entries (or_parts (has_pair table pos entry) (list_any (has_pair table pos) entries) e).1 i

-- ---- no record is hit

record_missed : (records : List Record) (table : ℕ) → record_hit records table None None ≡ None
record_missed [] table = refl
record_missed (of ∷ others) table = elim (cases_Bool (of.table == table)) [
  | inl t ↦ rw t (record_missed others table)
  | inr f ↦ rw f (record_missed others table)
]

unmapped : {X Y : Type 0} (f : X → Y) (item : Option X) → option_map f item ≡ None → item ≡ None
unmapped f None e = refl
unmapped f (Some x) e = absurd cc

one_missed : (records : List Record) (other : Label) (change : Change) → hit_among records other (change ∷ []) ≡ None
    → record_hit records change.table change.before change.after ≡ None
one_missed records other change e =
    unmapped (invalid_at other change.table change.pos) (record_hit records change.table change.before change.after)
    (or_none (change_hits records other change) None e).0

change_missed : (records : List Record) (other : Label) (table pos : ℕ) (before after : Cell)
    → hit_among records other (change_between table pos before after) ≡ None → record_hit records table before after ≡ None
change_missed records other table pos None None e = record_missed records table
change_missed records other table pos None (Some after) e =
    one_missed records other (record { table = table; pos = pos; before = None; after = Some after }) e
change_missed records other table pos (Some before) after e =
    one_missed records other (record { table = table; pos = pos; before = Some before; after = after }) e

both_missed : (records : List Record) (other : Label) (changes more : List Change) → hit_among records other (changes ++ more) ≡ None
    → (hit_among records other changes ≡ None) × (hit_among records other more ≡ None)
both_missed records other [] more e = (refl, e)
both_missed records other (change ∷ changes) more e =
    let first = or_none (change_hits records other change) (hit_among records other (changes ++ more)) e in
    let rest = both_missed records other changes more first.1 in
    (ap (λ (hit : Option Ending). option_or hit (hit_among records other changes)) first.0 ∙ rest.0, rest.1)

positions_missed : (records : List Record) (other : Label) (table at : ℕ) (items : List (Option Pair)) (pos : ℕ) (pair : Pair)
    → hit_among records other (by_position (change_at table) at items) ≡ None → get_or items pos None ≡ Some pair
    → record_hit records table pair.before pair.after ≡ None
positions_missed records other table at [] pos pair e p = absurd cc
positions_missed records other table at (None ∷ items) zero pair e p = absurd cc
positions_missed records other table at (None ∷ items) (suc pos) pair e p = positions_missed records other table (suc at) items pos pair e p
positions_missed records other table at (Some one ∷ items) zero pair e p =
    subst (λ (pair : Pair). record_hit records table pair.before pair.after ≡ None) (same_Some one pair p)
    (change_missed records other table at one.before one.after
    (both_missed records other (change_at table at one) (by_position (change_at table) (suc at) items) e).0)
positions_missed records other table at (Some one ∷ items) (suc pos) pair e p =
    positions_missed records other table (suc at) items pos pair
    (both_missed records other (change_at table at one) (by_position (change_at table) (suc at) items) e).1 p

tables_missed : (records : List Record) (other : Label) (first : ℕ) (lists : List (List (Option Pair))) (table pos : ℕ) (pair : Pair)
    → hit_among records other (by_table change_at first lists) ≡ None → item_at lists table pos ≡ Some pair
    → record_hit records (first + table) pair.before pair.after ≡ None
tables_missed records other first [] table pos pair e p = absurd cc
tables_missed records other first (items ∷ lists) zero pos pair e p =
    subst (λ (n : ℕ). record_hit records n pair.before pair.after ≡ None) (sym (add-zero first))
    (positions_missed records other first 0 items pos pair
    (both_missed records other (by_position (change_at first) 0 items) (by_table change_at (suc first) lists) e).0 p)
tables_missed records other first (items ∷ lists) (suc table) pos pair e p =
    subst (λ (n : ℕ). record_hit records n pair.before pair.after ≡ None) (let same : suc first + table ≡ first + suc table = omega arith in same)
    (tables_missed records other (suc first) lists table pos pair
    (both_missed records other (by_position (change_at first) 0 items) (by_table change_at (suc first) lists) e).1 p)

-- where nothing is hit, no pair hits a record
pub pair_missed : (records : List Record) (entries : List Entry) (i table pos : ℕ) (pair : Pair)
    → first_hit records (map committed_of entries) ≡ None → pair_at entries i table pos ≡ Some pair
    → record_hit records table pair.before pair.after ≡ None
pair_missed records [] i table pos pair e p = absurd cc
pair_missed records (entry ∷ entries) zero table pos pair e p =
    subst (λ (n : ℕ). record_hit records n pair.before pair.after ≡ None) (zero-add table)
    (tables_missed records entry.label 0 entry.cells table pos pair
    (or_none (hit_among records entry.label (committed_of entry).changes) (first_hit records (map committed_of entries)) e).0 p)
pair_missed records (entry ∷ entries) (suc i) table pos pair e p =
    pair_missed records entries i table pos pair
    (or_none (hit_among records entry.label (committed_of entry).changes) (first_hit records (map committed_of entries)) e).1 p

pub unchanged_by : (table pos : ℕ) (entries : List Entry) → ((i : ℕ) → pair_at entries i table pos ≡ None) → last_some (changer_at table pos) entries ≡ None
unchanged_by table pos [] h = refl
unchanged_by table pos (entry ∷ entries) h =
    ap (λ (last : Option Label). option_or last (changer_at table pos entry)) (unchanged_by table pos entries (λ i. h (suc i)))
    ∙ ap (λ (item : Option Pair). cond (changes_row item) (Some entry.label) None) (h 0)

or_more : {X : Type 0} (a b longer : Option X) (x : X) → (b ≡ Some x → longer ≡ Some x) → option_or a b ≡ Some x → option_or a longer ≡ Some x
or_more None b longer x f e = f e
or_more (Some a) b longer x f e = e

-- the first hit of entries is that of more entries behind them
pub hit_stays : (records : List Record) (from : ℕ) (order more : List Entry) (cause : Ending)
    → first_hit records (map committed_of (drop from order)) ≡ Some cause → first_hit records (map committed_of (drop from (order ++ more))) ≡ Some cause
hit_stays records zero [] more cause e = absurd cc
hit_stays records (suc from) [] more cause e = absurd cc
hit_stays records zero (entry ∷ order) more cause e =
    or_more (hit_among records entry.label (committed_of entry).changes) (first_hit records (map committed_of order))
    (first_hit records (map committed_of (order ++ more))) cause (hit_stays records zero order more cause) e
hit_stays records (suc from) (entry ∷ order) more cause e = hit_stays records from order more cause e
