-- The changes of a machine's entry, each by its place, and that the changes among notes that ascend rise.
use Rattle.std.proofs.Common.{◌≡◌, ℕ, suc, ◌+◌, List, [], ◌∷◌, ◌++◌, Option, None, Some, Bool, true, false, cond, get_or, refl, ap, sym, subst}
use Rattle.std.proofs.Common.{arith, zero-add, add-zero}
use Rattle.std.specs.Prelude.{IsTrue, filter}
use Rattle.std.specs.List.{AllByRecursion}
use Rattle.std.specs.Ordering.{is_lt}
use Rattle.std.specs.declared.cmp.Ordering.TheVariants.{Less}
use Rattle.std.proofs.lemmas.Bool.{and_from}
use Rattle.hy_value.specs.declared.change.Change.{Change}
use Rattle.hy_notes.specs.Notes.{Ascends, order_of}
use Rattle.hy_machine.specs.Tables.{Pair, Cell}
use Rattle.hy_machine.specs.Positions.{item_at, by_position, by_table, by_place}
use Rattle.hy_machine.specs.Validation.{change_between, change_at}
use Rattle.hy_redo.specs.Tables.{is_past, rise_past, rise}

-- ---- one by one

-- the change of a pair at a place
abbrev pub change_of : ℕ → ℕ → Pair → Change
change_of table pos pair = record { table = table; pos = pos; before = pair.before; after = pair.after }

one_more : (P : Change → Type 0) (table pos : ℕ) (before after : Cell) (more : List Change)
    → P (record { table = table; pos = pos; before = before; after = after }) → AllByRecursion P more
    → AllByRecursion P (change_between table pos before after ++ more)
one_more P table pos None None more h k = k
one_more P table pos None (Some after) more h k = (h, k)
one_more P table pos (Some before) after more h k = (h, k)

all_joined : {X : Type 0} (P : X → Type 0) (xs ys : List X) → AllByRecursion P xs → AllByRecursion P ys → AllByRecursion P (xs ++ ys)
all_joined P [] ys h k = k
all_joined P (x ∷ xs) ys h k = (h.0, all_joined P xs ys h.1 k)

all_in_table : (P : Change → Type 0) (table at : ℕ) (items : List (Option Pair))
    → ((pos : ℕ) (pair : Pair) → get_or items pos None ≡ Some pair → P (change_of table (at + pos) pair))
    → AllByRecursion P (by_position (change_at table) at items)
all_in_table P table at [] h = tt
all_in_table P table at (None ∷ items) h = all_in_table P table (suc at) items (λ pos pair e.
    subst (λ (n : ℕ). P (change_of table n pair)) (let same : at + suc pos ≡ suc at + pos = omega arith in same) (h (suc pos) pair e))
all_in_table P table at (Some one ∷ items) h =
    one_more P table at one.before one.after (by_position (change_at table) (suc at) items)
    (subst (λ (n : ℕ). P (change_of table n one)) (add-zero at) (h 0 one refl))
    (all_in_table P table (suc at) items (λ pos pair e.
    subst (λ (n : ℕ). P (change_of table n pair)) (let same : at + suc pos ≡ suc at + pos = omega arith in same) (h (suc pos) pair e)))

all_in_tables : (P : Change → Type 0) (first : ℕ) (lists : List (List (Option Pair)))
    → ((table pos : ℕ) (pair : Pair) → item_at lists table pos ≡ Some pair → P (change_of (first + table) pos pair))
    → AllByRecursion P (by_table change_at first lists)
all_in_tables P first [] h = tt
all_in_tables P first (items ∷ lists) h =
    all_joined P (by_position (change_at first) 0 items) (by_table change_at (suc first) lists)
    (all_in_table P first 0 items (λ pos pair e.
    subst (λ (n : ℕ). P (change_of first n pair)) (sym (zero-add pos))
    (subst (λ (n : ℕ). P (change_of n pos pair)) (add-zero first) (h 0 pos pair e))))
    (all_in_tables P (suc first) lists (λ table pos pair e.
    subst (λ (n : ℕ). P (change_of n pos pair)) (let same : first + suc table ≡ suc first + table = omega arith in same) (h (suc table) pos pair e)))

-- what holds of the change of each pair holds of each change
pub all_changes : (P : Change → Type 0) (cells : List (List (Option Pair)))
    → ((table pos : ℕ) (pair : Pair) → item_at cells table pos ≡ Some pair → P (change_of table pos pair))
    → AllByRecursion P (by_place change_at cells)
all_changes P cells h = all_in_tables P 0 cells
    (λ table pos pair e. subst (λ (n : ℕ). P (change_of n pos pair)) (sym (zero-add table)) (h table pos pair e))

-- ---- in order

rise_behind : (note : Change) (notes : List Change) → AllByRecursion (λ later. order_of note later.table later.pos ≡ Less) notes → Ascends notes
    → rise_past note.table note.pos notes ≡ true
rise_behind note [] all ascends = refl
rise_behind note (later ∷ notes) all ascends =
    and_from (is_past note.table note.pos later) (rise_past later.table later.pos notes) (ap is_lt all.0) (rise_behind later notes ascends.0 ascends.1)

rise_all : (notes : List Change) → Ascends notes → rise notes ≡ true
rise_all [] ascends = refl
rise_all (note ∷ notes) ascends = rise_behind note notes ascends.0 ascends.1

kept_then : {X : Type 0} (P : X → Type 0) (x : X) (kept : List X) (b : Bool) → P x → AllByRecursion P kept → AllByRecursion P (cond b (x ∷ kept) kept)
kept_then P x kept true h rest = (h, rest)
kept_then P x kept false h rest = rest

all_kept : {X : Type 0} (P : X → Type 0) (keep : X → Bool) (xs : List X) → AllByRecursion P xs → AllByRecursion P (filter keep xs)
all_kept P keep [] h = tt
all_kept P keep (x ∷ xs) h = kept_then P x (filter keep xs) (keep x) h.0 (all_kept P keep xs h.1)

ascends_then : (note : Change) (notes : List Change) (b : Bool) → AllByRecursion (λ later. order_of note later.table later.pos ≡ Less) notes
    → Ascends notes → Ascends (cond b (note ∷ notes) notes)
ascends_then note notes true all ascends = (all, ascends)
ascends_then note notes false all ascends = ascends

ascends_kept : (keep : Change → Bool) (notes : List Change) → Ascends notes → Ascends (filter keep notes)
ascends_kept keep [] ascends = tt
ascends_kept keep (note ∷ notes) ascends =
    ascends_then note (filter keep notes) (keep note) (all_kept (λ later. order_of note later.table later.pos ≡ Less) keep notes ascends.0)
    (ascends_kept keep notes ascends.1)

-- notes in order rise, and so do those of them that are kept
pub kept_rise : (keep : Change → Bool) (notes : List Change) → Ascends notes → IsTrue (rise (filter keep notes))
kept_rise keep notes ascends = rise_all (filter keep notes) (ascends_kept keep notes ascends)
