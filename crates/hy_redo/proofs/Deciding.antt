-- That the tests decide whether an entry stands, and that changes may be put one by one.
use Rattle.std.proofs.Common.{◌≡◌, ℕ, zero, suc, ◌<◌, ◌≤◌, true, false, List, [], ◌∷◌, ◌++◌, length}
use Rattle.std.proofs.Common.{get_or, set, Option, None, Some, Ordering, refl, sym, ap, subst, ◌∙◌, arith}
use Rattle.std.specs.Prelude.{◌&&◌, IsTrue}
use Rattle.std.specs.List.{list_all, AllByRecursion}
use Rattle.std.specs.Ordering.{is_eq}
use Rattle.std.specs.declared.cmp.Ordering.TheVariants.{Less, Equal, Greater}
use Rattle.std.proofs.lemmas.Bool.{and_parts, and_from, ltb-true, lt-ltb}
use Rattle.std.proofs.lemmas.Cmp.{tied_itself}
use Rattle.hy_value.specs.declared.Value.{Value}
use Rattle.hy_value.specs.Order.{row_cmp}
use Rattle.hy_value.specs.TotalOrder.{rows_total, rows_tie}
use Rattle.hy_value.specs.declared.change.Change.{Change}
use Rattle.hy_notes.specs.Notes.{Cell}
use Rattle.hy_journal.specs.declared.Entry.{Entry}
use Rattle.hy_log_record.specs.declared.HeldTable.{HeldTable}
use Rattle.hy_log_record.specs.Bytes.{net_of}
use Rattle.hy_log_record.specs.Bodies.{IsEntryOf, IsBody}
use Rattle.hy_log_record.specs.Laws.{netted, BodiesAreOne}
use Rattle.hy_redo.specs.Tables.{Held, held_at, with_cell, with_table, after_changes, rise, BeginsFrom, IsBehind, Stands}
use Rattle.hy_redo.specs.Tests.{same_cells, stands_there, begins_from, is_behind, stand_test}

equal_from : (o : Ordering) → is_eq o ≡ true → o ≡ Equal
equal_from Less e = cc
equal_from Equal e = refl
equal_from Greater e = cc

same_from_test : (left right : Cell) → same_cells left right ≡ true → left ≡ right
same_from_test None None e = refl
same_from_test None (Some row) e = cc
same_from_test (Some row) None e = cc
same_from_test (Some row) (Some other) e = ap (λ (r : List Value). Some r) (rows_tie row other (equal_from (row_cmp row other) e))

test_of_same : (cell : Cell) → same_cells cell cell ≡ true
test_of_same None = refl
test_of_same (Some row) = ap is_eq (tied_itself rows_total row)

there_from_test : (held : Option Cell) (cell : Cell) → stands_there held cell ≡ true → held ≡ Some cell
there_from_test None cell e = cc
there_from_test (Some there) cell e = ap (λ (c : Cell). Some c) (same_from_test there cell e)

test_from_there : (held : Option Cell) (cell : Cell) → held ≡ Some cell → stands_there held cell ≡ true
test_from_there held cell e = ap (λ (h : Option Cell). stands_there h cell) e ∙ test_of_same cell

all_begin : (tables : Held) (cs : List Change) → list_all (begins_from tables) cs ≡ true → AllByRecursion (BeginsFrom tables) cs
all_begin tables [] e = tt
all_begin tables (c ∷ cs) e =
    let p = and_parts (begins_from tables c) (list_all (begins_from tables) cs) e in
    (there_from_test (held_at tables c.table c.pos) c.before p.0, all_begin tables cs p.1)

test_from_all : (tables : Held) (cs : List Change) → AllByRecursion (BeginsFrom tables) cs → list_all (begins_from tables) cs ≡ true
test_from_all tables [] h = refl
test_from_all tables (c ∷ cs) h = and_from (begins_from tables c) (list_all (begins_from tables) cs)
    (test_from_there (held_at tables c.table c.pos) c.before h.0) (test_from_all tables cs h.1)

behind_from_test : (last : Option ℕ) (time : ℕ) → is_behind last time ≡ true → IsBehind last time
behind_from_test None time e = tt
behind_from_test (Some last) time e = ltb-true last time e

test_from_behind : (last : Option ℕ) (time : ℕ) → IsBehind last time → is_behind last time ≡ true
test_from_behind None time h = refl
test_from_behind (Some last) time h = lt-ltb last time h

module _ (tables : Held) (last : Option ℕ) (entry : Entry) (net : net_of entry ≡ entry.notes) where
  pub stands_from_test : IsEntryOf tables entry → stand_test tables last entry.time entry.notes ≡ true → Stands tables last entry
  stands_from_test of e =
      let p = and_parts (rise entry.notes) (list_all (begins_from tables) entry.notes && is_behind last entry.time) e in
      let q = and_parts (list_all (begins_from tables) entry.notes) (is_behind last entry.time) p.1 in
      record {
        of = of;
        order = subst (λ (cs : List Change). IsTrue (rise cs)) (sym net) p.0;
        begins = subst (AllByRecursion (BeginsFrom tables)) (sym net) (all_begin tables entry.notes q.0);
        behind = behind_from_test last entry.time q.1;
      }

  test_from_stands : (other : Entry) → Stands tables last other → stand_test tables last other.time (net_of other) ≡ true
  test_from_stands other s =
      and_from (rise (net_of other)) (list_all (begins_from tables) (net_of other) && is_behind last other.time) s.order
      (and_from (list_all (begins_from tables) (net_of other)) (is_behind last other.time) (test_from_all tables (net_of other) s.begins)
      (test_from_behind last other.time s.behind))

  -- where the test fails no entry of the same net changes stands
  pub none_stands : stand_test tables last entry.time entry.notes ≡ false → (other : Entry) → netted other ≡ netted entry → Stands tables last other → ⊥
  none_stands e other same s =
      let notes : net_of other ≡ entry.notes = ap (λ (x : Entry). x.notes) same ∙ net in
      let time : other.time ≡ entry.time = ap (λ (x : Entry). x.time) same in
      let passes : stand_test tables last entry.time entry.notes ≡ true =
      subst (λ (t : ℕ). stand_test tables last t entry.notes ≡ true) time
      (subst (λ (cs : List Change). stand_test tables last other.time cs ≡ true) notes (test_from_stands other s)) in
      cc

-- ---- changes one by one

pub after_push : (tables : Held) (cs : List Change) (c : Change) → after_changes tables (cs ++ c ∷ []) ≡ after_changes
    (with_table c.table (with_cell c.pos c.after) tables) cs
after_push tables [] c = refl
after_push tables (x ∷ cs) c = ap (with_table x.table (with_cell x.pos x.after)) (after_push tables cs c)

pub with_table_set : (n : ℕ) (f : HeldTable → HeldTable) (xs : Held) (d : HeldTable) → n < length xs → with_table n f xs ≡ set xs n (f (get_or xs n d))
with_table_set n f [] d lt = absurd (omega arith)
with_table_set zero f (x ∷ xs) d lt = refl
with_table_set (suc n) f (x ∷ xs) d lt = ap (λ (ys : Held). x ∷ ys) (with_table_set n f xs d (omega arith))

pub with_table_past : (n : ℕ) (f : HeldTable → HeldTable) (xs : Held) → length xs ≤ n → with_table n f xs ≡ xs
with_table_past n f [] le = refl
with_table_past zero f (x ∷ xs) le = absurd (omega arith)
with_table_past (suc n) f (x ∷ xs) le = ap (λ (ys : Held). x ∷ ys) (with_table_past n f xs (omega arith))

-- a table that was changed where it stands
pub put_there : (n : ℕ) (f : HeldTable → HeldTable) (xs : Held) (x new : HeldTable) → n < length xs → x ≡ get_or xs n x → new ≡ f x
    → set xs n new ≡ with_table n f xs
put_there n f xs x new lt at is = ap (set xs n) (is ∙ ap f at) ∙ sym (with_table_set n f xs x lt)

-- one change of the last ones that are left
pub put_one : (now next : Held) (left popped : List Change) (c : Change) (total : Held) → left ≡ popped ++ c ∷ []
    → next ≡ with_table c.table (with_cell c.pos c.after) now
    → after_changes now left ≡ total → after_changes next popped ≡ total
put_one now next left popped c total parts is so_far =
    ap (λ (ts : Held). after_changes ts popped) is ∙ sym (after_push now popped c) ∙ ap (after_changes now) (sym parts) ∙ so_far

-- where the test fails of the entry that the bytes are the body of, no entry with that body stands
pub none_there : (tables : Held) (last : Option ℕ) (entry : Entry) (bytes : List ℕ) → IsBody tables entry bytes → entry ≡ netted entry → BodiesAreOne
    → stand_test tables last entry.time entry.notes ≡ false
    → (other : Entry) → IsBody tables other bytes → Stands tables last other → ⊥
none_there tables last entry bytes body net one fails other also =
    none_stands tables last entry (sym (ap (λ (e : Entry). e.notes) net)) fails other (one tables other entry bytes also body)
