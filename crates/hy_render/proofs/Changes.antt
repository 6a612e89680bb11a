-- The commit order and the final tables are read off the front of a text.
use Rattle.std.proofs.Common.{◌≡◌, ◌≢◌, ℕ, suc, List, [], ◌∷◌, ◌++◌, length, refl, ap, sym, arith, inl, inr}
use Rattle.std.proofs.lemmas.List.{append_assoc, append_cancel_left}
use Rattle.std.proofs.lemmas.List.Elements.{All-head, All-tail}
use Rattle.std.specs.Fmt.{decimal}
use Rattle.std.specs.Prelude.{codes}
use Rattle.std.specs.List.{All, flat_map}
use Rattle.hy_value.specs.declared.Value.{Value}
use Rattle.hy_value.specs.declared.change.Change.{Change}
use Rattle.hy_render.specs.declared.Names.{Names}
use Rattle.hy_render.specs.declared.Committed.{Committed as Entry}
use Rattle.hy_render.specs.Named.{AreTelling, IsNamedChange, IsNamedEntry, IsPrintedRow}
use Rattle.hy_render.specs.Report.{table_name, label_name, place_name, row_or_none, row_line, change_line, order_lines, table_lines}
use Rattle.hy_render.proofs.Reading.{Reads, AnyText, byte, behind_first, reads_list}
use Rattle.hy_render.proofs.Values.{reads_version, reads_rows}
use Rattle.hy_render.proofs.Labels.{reads_place, reads_label}
use Rattle.hy_render.proofs.Replies.{skips_count}

-- what follows begins no entry and no change
pub record EndsOrder (x : List ℕ) : Type 0 where
  pub no_entry : byte 2 x ≢ 116
  pub no_change : byte 0 x ≢ 99

module _ (names : Names) (tell : AreTelling names) where
  -- changes of the same are the same
  same_change : (r s : Change) → r.table ≡ s.table → r.pos ≡ s.pos → r.before ≡ s.before → r.after ≡ s.after → r ≡ s
  same_change r s a b c d = λ j. record { table = a j; pos = b j; before = c j; after = d j }

  -- changes are read, whatever follows
  reads_change : Reads (IsNamedChange names) AnyText (change_line names)
  reads_change r s x y k l h i e =
      let whole : codes "change " ++ (place_name names r.table r.pos ++ (codes " from " ++ (row_or_none r.before ++ (codes " to " ++ (row_or_none r.after ++ 10 ∷ x)))))
      ≡ codes "change " ++ (place_name names s.table s.pos ++ (codes " from " ++ (row_or_none s.before ++ (codes " to " ++ (row_or_none s.after ++ 10 ∷ y))))) = simp append_assoc (simp append_assoc at e) in
      let place = reads_place names tell (record { table = r.table; pos = r.pos }) (record { table = s.table; pos = s.pos }) _ _
      k.place l.place (inr (inl refl)) (inr (inl refl)) (append_cancel_left (codes "change ") _ _ whole) in
      let before = reads_version r.before s.before _ _ k.before l.before (inr refl) (inr refl) (append_cancel_left (codes " from ") _ _ place.1) in
      let after = reads_version r.after s.after _ _ k.after l.after (inl refl) (inl refl) (append_cancel_left (codes " to ") _ _ before.1) in
      (same_change r s (λ j. (place.0 j).table) (λ j. (place.0 j).pos) before.0 after.0, behind_first 10 10 x y after.1)

  -- changes are read where no further one follows
  reads_changes : Reads (All (IsNamedChange names)) (λ x. byte 0 x ≢ 99) (flat_map (change_line names))
  reads_changes = reads_list (IsNamedChange names) AnyText (λ x. byte 0 x ≢ 99) (change_line names) reads_change
      (λ change x. tt) (λ x h. tt) (λ x h change z e. h (ap (byte 0) e))

  -- the entries begin no change
  no_change : (place : ℕ) (entries : List Entry) (x : List ℕ) → byte 0 x ≢ 99 → byte 0 (order_lines names place entries ++ x) ≢ 99
  no_change place [] x h = h
  no_change place (entry ∷ entries) x h = omega arith

  -- the entries from a place on
  entries_text : ℕ → Entry → List Entry → List ℕ → List ℕ
  entries_text place entry entries x =
      codes "entry " ++ (decimal place ++ (32 ∷ [] ++ (label_name names entry.label ++ (10 ∷ [] ++ (flat_map (change_line names) entry.changes ++ (order_lines names (suc place) entries ++ x))))))

  -- the order is read where no further entry follows
  pub reads_order : (place : ℕ) → Reads (All (IsNamedEntry names)) EndsOrder (order_lines names place)
  unfolding entries_text
  reads_order place [] [] x y k l h i e = (refl, e)
  reads_order place [] (s ∷ ss) x y k l h i e = absurd (h.no_entry (ap (byte 2) e))
  reads_order place (r ∷ rs) [] x y k l h i e = absurd (i.no_entry (ap (byte 2) (sym e)))
  reads_order place (r ∷ rs) (s ∷ ss) x y k l h i e =
      let whole : entries_text place r rs x ≡ entries_text place s ss y = simp append_assoc (simp append_assoc at e) in
      let one = All-head (IsNamedEntry names) r rs k in
      let other = All-head (IsNamedEntry names) s ss l in
      let label = reads_label names tell r.label s.label _ _ one.label other.label (inl refl) (inl refl)
      (behind_first 32 32 _ _ (append_cancel_left (decimal place) _ _ (append_cancel_left (codes "entry ") _ _ whole))) in
      let changes = reads_changes r.changes s.changes _ _ one.changes other.changes
      (no_change (suc place) rs x h.no_change) (no_change (suc place) ss y i.no_change) (behind_first 10 10 _ _ label.1) in
      let rest = reads_order (suc place) rs ss x y (All-tail (IsNamedEntry names) r rs k) (All-tail (IsNamedEntry names) s ss l) h i changes.1 in
      ((λ j. record { label = label.0 j; changes = changes.0 j } ∷ rest.0 j), rest.1)

-- what follows begins no table and no row
pub record EndsTables (x : List ℕ) : Type 0 where
  pub no_table : byte 0 x ≢ 116
  pub no_row : byte 3 x ≢ 32

-- the tables begin no row
no_row : (names : Names) (table : ℕ) (tables : List (List (List Value))) (x : List ℕ) → byte 3 x ≢ 32 → byte 3 (table_lines names table tables ++ x) ≢ 32
no_row names table [] x h = h
no_row names table (rows ∷ tables) x h = omega arith

-- the tables from one on
tables_text : Names → ℕ → List (List Value) → List (List (List Value)) → List ℕ → List ℕ
tables_text names table rows tables x =
    codes "table " ++ (table_name names table ++ (32 ∷ [] ++ (decimal (length rows) ++ (10 ∷ [] ++ (flat_map row_line rows ++ (table_lines names (suc table) tables ++ x))))))

-- the tables are read where no further table follows
pub reads_tables : (names : Names) (table : ℕ) → Reads (All (All IsPrintedRow)) EndsTables (table_lines names table)
unfolding tables_text
reads_tables names table [] [] x y k l h i e = (refl, e)
reads_tables names table [] (s ∷ ss) x y k l h i e = absurd (h.no_table (ap (byte 0) e))
reads_tables names table (r ∷ rs) [] x y k l h i e = absurd (i.no_table (ap (byte 0) (sym e)))
reads_tables names table (r ∷ rs) (s ∷ ss) x y k l h i e =
    let whole : tables_text names table r rs x ≡ tables_text names table s ss y = simp append_assoc at e in
    let count = skips_count (length r) (length s) _ _ (behind_first 32 32 _ _ (append_cancel_left (table_name names table) _ _ (append_cancel_left (codes "table ") _ _ whole))) in
    let rows = reads_rows r s _ _ (All-head (All IsPrintedRow) r rs k) (All-head (All IsPrintedRow) s ss l)
    (no_row names (suc table) rs x h.no_row) (no_row names (suc table) ss y i.no_row) count in
    let rest = reads_tables names (suc table) rs ss x y (All-tail (All IsPrintedRow) r rs k) (All-tail (All IsPrintedRow) s ss l) h i rows.1 in
    ((λ j. rows.0 j ∷ rest.0 j), rest.1)
