-- What stands at a position of tables with own writes over them, and of own writes after more of them.
use Rattle.std.proofs.Common.{◌≡◌, ℕ, zero, suc, ◌<◌, ◌≤◌, List, [], ◌∷◌, length, map, get_or, replicate, Option, None, Some}
use Rattle.std.proofs.Common.{◌⊎◌, inl, inr, refl, ap, sym, ◌∙◌, subst, arith}
use Rattle.std.proofs.Math.ListN.{set}
use Rattle.std.specs.List.{AllByRecursion}
use Rattle.std.proofs.lemmas.Bool.{cases_lt, cases_eq}
use Rattle.std.proofs.lemmas.List.{get_or_past, get_or-set_same, get_or-set_other, length-map, length-set}
use Rattle.hy_value.specs.declared.Value.{Value}
use Rattle.hy_bound.specs.Agreement.{HaveWidth}
use Rattle.hy_bound.specs.Changes.{present}
use Rattle.hy_bound.specs.Records.{shape_of}
use Rattle.hy_machine.specs.declared.Setting.{Setting}
use Rattle.hy_machine.specs.Writes.{Write, blank_own, with_write, with_writes}
use Rattle.hy_machine.specs.Positions.{item_at}
use Rattle.hy_machine.specs.Tables.{Cell, Tables, Own, capacity, overlaid, covered, over}
use Rattle.hy_replay.specs.Laws.{AreTables, HaveWidths}

-- ---- lists laid over lists

overlaid_length : {A B : Type 0} (f : A → B → A) (xs : List A) (ys : List B) → length (overlaid f xs ys) ≡ length xs
overlaid_length f [] ys = refl
overlaid_length f (x ∷ xs) [] = refl
overlaid_length f (x ∷ xs) (y ∷ ys) = ap suc (overlaid_length f xs ys)

overlaid_at : {A B : Type 0} (f : A → B → A) (blank : B) → ((x : A) → f x blank ≡ x) → (xs : List A) (ys : List B) (i : ℕ) (d : A) → i < length xs
    → get_or (overlaid f xs ys) i d ≡ f (get_or xs i d) (get_or ys i blank)
overlaid_at f blank same [] ys i d h = absurd (omega arith)
overlaid_at f blank same (x ∷ xs) [] i d h = past i
  where
    past : (i : ℕ) → get_or (x ∷ xs) i d ≡ f (get_or (x ∷ xs) i d) (get_or [] i blank)
    past zero = sym (same x)
    past (suc i) = sym (same (get_or xs i d))
overlaid_at f blank same (x ∷ xs) (y ∷ ys) zero d h = refl
overlaid_at f blank same (x ∷ xs) (y ∷ ys) (suc i) d h = overlaid_at f blank same xs ys i d (omega arith)

overlaid_nothing : {A B : Type 0} (f : A → B → A) (xs : List A) → overlaid f xs [] ≡ xs
overlaid_nothing f [] = refl
overlaid_nothing f (x ∷ xs) = refl

-- ---- lists of one shape

-- so many lists of so many items
pub record HasShape {A : Type 0} (lists : List (List A)) (count positions : ℕ) : Type 0 where
  pub lists_are : length lists ≡ count
  pub items_are : (table : ℕ) → table < count → length (get_or lists table []) ≡ positions

pub got : {X : Type 0} (P : X → Type 0) (xs : List X) (i : ℕ) (d : X) → AllByRecursion P xs → i < length xs → P (get_or xs i d)
got P [] i d h below = absurd (omega arith)
got P (x ∷ xs) zero d h below = h.0
got P (x ∷ xs) (suc i) d h below = got P xs i d h.1 (omega arith)

pub tables_shape : (setting : Setting) (tables : Tables) → AreTables setting tables → HasShape tables (length setting.first) (capacity setting)
tables_shape setting tables are = record {
  lists_are = are.many;
  items_are = λ table below. got (λ (cells : List Cell). length cells ≡ capacity setting) tables table [] are.long (omega (arith, are.many));
}

-- nothing stands where there is no such position
pub no_item : {A : Type 0} (lists : List (List (Option A))) (count positions table pos : ℕ) → HasShape lists count positions
    → (count ≤ table) ⊎ (positions ≤ pos) → item_at lists table pos ≡ None
no_item {A = A} lists count positions table pos s (inl past) =
    ap (λ (items : List (Option A)). get_or items pos None) (get_or_past lists table [] (omega (arith, s.lists_are)))
no_item {A = A} lists count positions table pos s (inr past) = elim (cases_lt table count) [
  | inl t ↦ get_or_past (get_or lists table []) pos None (omega (arith, s.items_are table t))
  | inr t ↦ ap (λ (items : List (Option A)). get_or items pos None) (get_or_past lists table [] (omega (arith, s.lists_are)))
]

-- a position is there, or not
pub where_is : (count positions table pos : ℕ) → ((table < count) × (pos < positions)) ⊎ ((count ≤ table) ⊎ (positions ≤ pos))
where_is count positions table pos = elim (cases_lt table count) [
  | inl t ↦ elim (cases_lt pos positions) [
    | inl p ↦ inl (t, p)
    | inr p ↦ inr (inr p)
  ]
  | inr t ↦ inr (inl t)
]

-- where something stands there is such a position
pub there_is : {A : Type 0} (lists : List (List (Option A))) (count positions table pos : ℕ) (item : A) → HasShape lists count positions
    → item_at lists table pos ≡ Some item → (table < count) × (pos < positions)
there_is lists count positions table pos item s e = elim (where_is count positions table pos) [
  | inl within ↦ within
  | inr out ↦ absurd (cc (e, no_item lists count positions table pos s out))
]

-- ---- own writes over tables

covered_cells : (tables : Tables) (own : Own) (table : ℕ) → table < length tables
    → get_or (over tables own) table [] ≡ overlaid (covered (λ own. own)) (get_or tables table []) (get_or own table [])
covered_cells tables own table h =
    overlaid_at (overlaid (covered (λ (own : Cell). own))) [] (overlaid_nothing (covered (λ (own : Cell). own))) tables own table [] h

pub over_shape : (tables : Tables) (own : Own) (count positions : ℕ) → HasShape tables count positions → HasShape (over tables own) count positions
over_shape tables own count positions s = record {
  lists_are = overlaid_length (overlaid (covered (λ (own : Cell). own))) tables own ∙ s.lists_are;
  items_are = λ table h. ap length (covered_cells tables own table (omega (arith, s.lists_are)))
      ∙ (overlaid_length (covered (λ (own : Cell). own)) (get_or tables table []) (get_or own table []) ∙ s.items_are table h);
}

-- the cell at a position is the table's, unless one's own covers it
pub over_item : (tables : Tables) (own : Own) (count positions table pos : ℕ) → HasShape tables count positions → HasShape own count positions
    → item_at (over tables own) table pos ≡ covered (λ own. own) (item_at tables table pos) (item_at own table pos)
over_item tables own count positions table pos s o = elim (where_is count positions table pos) [
  | inl within ↦ ap (λ (cells : List Cell). get_or cells pos None) (covered_cells tables own table (omega (arith, s.lists_are, within.0)))
      ∙ overlaid_at (covered (λ (own : Cell). own)) None (λ x. refl) (get_or tables table []) (get_or own table []) pos None
      (omega (arith, s.items_are table within.0, within.1))
  | inr out ↦ no_item (over tables own) count positions table pos (over_shape tables own count positions s) out
      ∙ sym (rw (no_item tables count positions table pos s out, no_item own count positions table pos o out) refl)
]

-- ---- a write more

pub write_shape : (own : Own) (write : Write) (count positions : ℕ) → HasShape own count positions → HasShape (with_write own write) count positions
write_shape own write count positions s = record {
  lists_are = length-set own write.table (set (get_or own write.table []) write.pos (Some write.cell)) ∙ s.lists_are;
  items_are = λ table below. elim (cases_eq table write.table) [
    | inl same ↦ ap length (ap (λ (i : ℕ). get_or (with_write own write) i []) same
        ∙ get_or-set_same own write.table (set (get_or own write.table []) write.pos (Some write.cell)) [] (omega (arith, s.lists_are, same)))
        ∙ (length-set (get_or own write.table []) write.pos (Some write.cell) ∙ s.items_are write.table (omega (arith, same)))
    | inr apart ↦ ap length (get_or-set_other own write.table table (set (get_or own write.table []) write.pos (Some write.cell)) [] apart)
        ∙ s.items_are table below
  ];
}

-- at its position stands the cell that was written
pub written_at : (own : Own) (write : Write) (count positions : ℕ) → HasShape own count positions → write.table < count → write.pos < positions
    → item_at (with_write own write) write.table write.pos ≡ Some write.cell
written_at own write count positions s t p =
    ap (λ (items : List (Option Cell)). get_or items write.pos None)
    (get_or-set_same own write.table (set (get_or own write.table []) write.pos (Some write.cell)) [] (omega (arith, s.lists_are)))
    ∙ get_or-set_same (get_or own write.table []) write.pos (Some write.cell) None (omega (arith, s.items_are write.table t))

-- at a position stands what stood there, or what was written at it
pub write_cases : (own : Own) (write : Write) (count positions table pos : ℕ) → HasShape own count positions
    → (item_at (with_write own write) table pos ≡ item_at own table pos)
    ⊎ ((table ≡ write.table) × (item_at (with_write own write) table pos ≡ Some write.cell))
write_cases own write count positions table pos s = elim (where_is count positions table pos) [
  | inr out ↦ inl (no_item (with_write own write) count positions table pos (write_shape own write count positions s) out
      ∙ sym (no_item own count positions table pos s out))
  | inl within ↦ elim (cases_eq table write.table) [
    | inr apart ↦ inl (ap (λ (items : List (Option Cell)). get_or items pos None)
        (get_or-set_other own write.table table (set (get_or own write.table []) write.pos (Some write.cell)) [] apart))
    | inl same ↦ elim (cases_eq pos write.pos) [
      | inl also ↦ inr (
        same,
        subst (λ (i : ℕ). item_at (with_write own write) i pos ≡ Some write.cell) (sym same)
            (subst (λ (i : ℕ). item_at (with_write own write) write.table i ≡ Some write.cell) (sym also)
            (written_at own write count positions s (omega (arith, same, within.0)) (omega (arith, also, within.1)))),
      )
      | inr away ↦ inl (subst (λ (i : ℕ). item_at (with_write own write) i pos ≡ item_at own i pos) (sym same)
          (ap (λ (items : List (Option Cell)). get_or items pos None)
          (get_or-set_same own write.table (set (get_or own write.table []) write.pos (Some write.cell)) [] (omega (arith, s.lists_are, same, within.0)))
          ∙ get_or-set_other (get_or own write.table []) write.pos pos (Some write.cell) None away))
    ]
  ]
]

-- what is not one's own after a write was not before
pub write_grows : (own : Own) (write : Write) (count positions table pos : ℕ) → HasShape own count positions
    → item_at (with_write own write) table pos ≡ None → item_at own table pos ≡ None
write_grows own write count positions table pos s e = elim (write_cases own write count positions table pos s) [
  | inl same ↦ sym same ∙ e
  | inr written ↦ absurd (cc (e, written.1))
]

pub writes_shape : (own : Own) (writes : List Write) (count positions : ℕ) → HasShape own count positions → HasShape (with_writes own writes) count positions
writes_shape own [] count positions s = s
writes_shape own (write ∷ writes) count positions s = writes_shape (with_write own write) writes count positions (write_shape own write count positions s)

pub writes_grow : (own : Own) (writes : List Write) (count positions table pos : ℕ) → HasShape own count positions
    → item_at (with_writes own writes) table pos ≡ None → item_at own table pos ≡ None
writes_grow own [] count positions table pos s e = e
writes_grow own (write ∷ writes) count positions table pos s e =
    write_grows own write count positions table pos s
    (writes_grow (with_write own write) writes count positions table pos (write_shape own write count positions s) e)

-- a write is of a position that there is
abbrev pub IsWithin : ℕ → ℕ → Write → Type 0
IsWithin count positions write = (write.table < count) × (write.pos < positions)

-- every position that is written is one's own
pub writes_own : (own : Own) (writes : List Write) (count positions : ℕ) → HasShape own count positions → AllByRecursion (IsWithin count positions) writes
    → AllByRecursion (λ (write : Write). item_at (with_writes own writes) write.table write.pos ≡ None → ⊥) writes
writes_own own [] count positions s h = tt
writes_own own (write ∷ writes) count positions s h = (
  λ e. absurd (cc (
    written_at own write count positions s h.0.0 h.0.1,
    writes_grow (with_write own write) writes count positions write.table write.pos (write_shape own write count positions s) e,
  )),
  writes_own (with_write own write) writes count positions (write_shape own write count positions s) h.1,
)

-- ---- widths

-- a position has no row, or one of this width
abbrev pub HasWidth : ℕ → Cell → Type 0
HasWidth width None = Unit {0}
HasWidth width (Some row) = length row ≡ width

pub width_at : (width : ℕ) (cells : List Cell) → HaveWidth width (present cells) → (i : ℕ) → HasWidth width (get_or cells i None)
width_at width [] h i = tt
width_at width (None ∷ cells) h zero = tt
width_at width (None ∷ cells) h (suc i) = width_at width cells h i
width_at width (Some row ∷ cells) h zero = h.0
width_at width (Some row ∷ cells) h (suc i) = width_at width cells h.1 i

widths_of : (width : ℕ) (cells : List Cell) → ((i : ℕ) → HasWidth width (get_or cells i None)) → HaveWidth width (present cells)
widths_of width [] h = tt
widths_of width (None ∷ cells) h = widths_of width cells (λ i. h (suc i))
widths_of width (Some row ∷ cells) h = (h zero, widths_of width cells (λ i. h (suc i)))

-- what is one's own at a position is nothing, or a cell with no row or one of this width
abbrev pub OwnWidth : ℕ → Option Cell → Type 0
OwnWidth width None = Unit {0}
OwnWidth width (Some cell) = HasWidth width cell

-- own writes fit tables of these settings
pub record FitsOwn (setting : Setting) (own : Own) : Type 0 where
  pub shape : HasShape own (length setting.first) (capacity setting)
  pub widths : (table pos : ℕ) → OwnWidth (shape_of setting.shapes table).width (item_at own table pos)

covered_width : (width : ℕ) (cell : Cell) (own : Option Cell) → HasWidth width cell → OwnWidth width own → HasWidth width (covered (λ own. own) cell own)
covered_width width cell None h o = h
covered_width width cell (Some own) h o = o

-- the rows of tables with own writes over them have the widths of theirs
pub over_widths : (setting : Setting) (tables : Tables) (own : Own) → AreTables setting tables → HaveWidths setting.shapes tables → FitsOwn setting own
    → HaveWidths setting.shapes (over tables own)
over_widths setting tables own are wide fits table = widths_of (shape_of setting.shapes table).width (get_or (over tables own) table []) (λ pos.
    subst (HasWidth (shape_of setting.shapes table).width)
    (sym (over_item tables own (length setting.first) (capacity setting) table pos (tables_shape setting tables are) fits.shape))
    (covered_width (shape_of setting.shapes table).width (item_at tables table pos) (item_at own table pos)
    (width_at (shape_of setting.shapes table).width (get_or tables table []) (wide table) pos) (fits.widths table pos)))

-- a write of a row of its table's width
abbrev pub FitsWrite : Setting → Write → Type 0
FitsWrite setting write = HasWidth (shape_of setting.shapes write.table).width write.cell

pub write_fits : (setting : Setting) (own : Own) (write : Write) → FitsOwn setting own → FitsWrite setting write → FitsOwn setting (with_write own write)
write_fits setting own write fits w = record {
  shape = write_shape own write (length setting.first) (capacity setting) fits.shape;
  widths = λ table pos. elim (write_cases own write (length setting.first) (capacity setting) table pos fits.shape) [
    | inl same ↦ subst (OwnWidth (shape_of setting.shapes table).width) (sym same) (fits.widths table pos)
    | inr written ↦ subst (OwnWidth (shape_of setting.shapes table).width) (sym written.1)
        (subst (λ (i : ℕ). HasWidth (shape_of setting.shapes i).width write.cell) (sym written.0) w)
  ];
}

pub writes_fit : (setting : Setting) (own : Own) (writes : List Write) → FitsOwn setting own → AllByRecursion (FitsWrite setting) writes
    → FitsOwn setting (with_writes own writes)
writes_fit setting own [] fits h = fits
writes_fit setting own (write ∷ writes) fits h = writes_fit setting (with_write own write) writes (write_fits setting own write fits h.0) h.1

-- ---- nothing is written

replicate_length : {X : Type 0} (n : ℕ) (x : X) → length (replicate n x) ≡ n
replicate_length zero x = refl
replicate_length (suc n) x = ap suc (replicate_length n x)

blank_lengths : {X : Type 0} (n : ℕ) (x : X) (rows : List (List (List Value))) (table : ℕ) → table < length rows
    → length (get_or (map (λ one. replicate n x) rows) table []) ≡ n
blank_lengths n x [] table below = absurd (omega arith)
blank_lengths n x (one ∷ rows) zero below = replicate_length n x
blank_lengths n x (one ∷ rows) (suc table) below = blank_lengths n x rows table (omega arith)

blank_cells : (n pos : ℕ) → get_or (replicate {A = Option Cell} n None) pos None ≡ None
blank_cells zero pos = refl
blank_cells (suc n) zero = refl
blank_cells (suc n) (suc pos) = blank_cells n pos

blank_items : (n : ℕ) (rows : List (List (List Value))) (table pos : ℕ) → item_at (map (λ one. replicate {A = Option Cell} n None) rows) table pos ≡ None
blank_items n [] table pos = refl
blank_items n (one ∷ rows) zero pos = blank_cells n pos
blank_items n (one ∷ rows) (suc table) pos = blank_items n rows table pos

pub blank_fits : (setting : Setting) → FitsOwn setting (blank_own setting)
blank_fits setting = record {
  shape = record {
    lists_are = length-map setting.first (λ (rows : List (List Value)). replicate {A = Option Cell} (capacity setting) None);
    items_are = blank_lengths (capacity setting) None setting.first;
  };
  widths = λ table pos. subst (OwnWidth (shape_of setting.shapes table).width) (sym (blank_items (capacity setting) setting.first table pos)) tt;
}
