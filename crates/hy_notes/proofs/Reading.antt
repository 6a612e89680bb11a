-- The notes since stretches began, as they are found and read.
use Rattle.std.proofs.Common.{◌≡◌, ℕ, zero, suc, ◌+◌, ◌<◌, ◌≤◌, Bool, true, false, List, [], ◌∷◌, ◌++◌, Option, None, Some, length, get_or, drop, filter, refl, sym, ap, ◌∙◌, inl, inr, arith, cond, add-one, drop-cons, append_assoc, option_map, slice_get, subst}
use Rattle.std.specs.Prelude.{◌==◌, ◌&&◌, nat_le, nat_lt}
use Rattle.std.specs.List.{prefix_len, AllByRecursion}
use Rattle.std.specs.Global.{Vec}
use Rattle.std.specs.Cmp.{tied_itself, ranks}
use Rattle.std.specs.Ordering.{ordering_then, nat_cmp, is_lt, MatchOrdering}
use Rattle.std.specs.declared.cmp.Ordering.{Ordering}
use Rattle.std.specs.declared.cmp.Ordering.TheVariants.{Less, Greater}
use Rattle.std.proofs.lemmas.Bool.{cases_Bool, and_parts, eqb-true, leb-true, ltb-true}
use Rattle.std.proofs.lemmas.Cmp.{nat_cmp_total}
use Rattle.std.proofs.lemmas.List.{append-nil}
use Rattle.std.proofs.lemmas.List.Elements.{filter-append}
use Rattle.hy_value.specs.declared.change.Change.{Change}
use Rattle.hy_notes.specs.declared.NotedPlace.{NotedPlace}
use Rattle.hy_notes.specs.Notes.{Cell, order_of, Ascends, below, is_between, place_of}
use Rattle.hy_notes.specs.Blocks.{joined, AreBefore, AreBehind}
use Rattle.hy_notes.specs.Levels.{was_at, note_from, noted_since}
use Rattle.hy_notes.proofs.Orders.{note_cmp, notes_total, lt_is}
use Rattle.hy_notes.proofs.Prefixes.{passes, fails}
use Rattle.hy_notes.proofs.Finding.{or_else, found, found_in, placed}
use Rattle.hy_notes.proofs.Since.{since_all, since_behind, since_append}

pub drop_item : {X : Type 0} (xs : List X) (i : ℕ) (x : X) → i < length xs → x ≡ get_or xs i x → drop i xs ≡ x ∷ drop (i + 1) xs
drop_item xs i x within is = drop-cons xs i x within ∙ (ap (λ y. y ∷ drop (suc i) xs) (sym is) ∙ ap (λ n. x ∷ drop n xs) (sym (add-one i)))

pub drop_past : {X : Type 0} (xs : List X) (n : ℕ) → length xs ≤ n → drop n xs ≡ []
drop_past [] zero l = refl
drop_past [] (suc n) l = refl
drop_past (x ∷ xs) zero l = absurd (omega (arith, l))
drop_past (x ∷ xs) (suc n) l = drop_past xs n (omega (arith, l))

-- the notes since, of the blocks from one on
pub blocks_next : (stretches : List (List Change)) (blocks : List (Vec Change)) (i : ℕ) (block : Vec Change) → i < length blocks → block ≡ get_or blocks i block
    → noted_since stretches (joined (drop i blocks)) ≡ noted_since stretches block.items ++ noted_since stretches (joined (drop (i + 1) blocks))
blocks_next stretches blocks i block within is =
    ap (λ (bs : List (Vec Change)). noted_since stretches (joined bs)) (drop_item blocks i block within is) ∙ since_append stretches block.items (joined (drop (i + 1) blocks))

-- the first of notes is the first with more behind them, and where there is none, those behind are all
pub head_left : (xs ys : List Change) (place : NotedPlace) → option_map place_of (slice_get xs 0) ≡ Some place → option_map place_of (slice_get (xs ++ ys) 0) ≡ Some place
head_left [] ys place h = absurd (let f = h in cc)
head_left (x ∷ xs) ys place h = h

pub none_left : (xs ys : List Change) → option_map place_of (slice_get xs 0) ≡ None → xs ++ ys ≡ ys
none_left [] ys h = refl
none_left (x ∷ xs) ys h = absurd (let f = h in cc)

not_below : (table pos : ℕ) (zs : List Change) → AllByRecursion (λ n. below table pos n ≡ false) zs → found table pos zs ≡ slice_get zs 0
not_below table pos [] all = refl
not_below table pos (z ∷ zs) all = ap (λ (k : ℕ). slice_get (z ∷ zs) k) (fails (below table pos) z zs all.0)

not_true : (b : Bool) → (b ≡ true → ⊥) → b ≡ false
not_true true h = absurd (h refl)
not_true false h = refl

later_not_below : (table pos : ℕ) (x : Change) (xs : List Change) → below table pos x ≡ false → AllByRecursion (λ later. note_cmp x later ≡ Less) xs → AllByRecursion (λ n. below table pos n ≡ false) xs
later_not_below table pos x [] h all = tt
later_not_below table pos x (y ∷ ys) h all = (
  not_true (below table pos y) (λ low. absurd (let first = sym h ∙ ap is_lt (notes_total.trans x y (record y { table = table; pos = pos }) all.0 (lt_is (order_of y table pos) low)) in cc)),
  later_not_below table pos x ys h all.1,
)

front_passed : (table pos : ℕ) (w : Option Cell) (x : Change) (rest : List Change) → below table pos x ≡ true → found table pos (note_from w x ++ rest) ≡ found table pos rest
front_passed table pos None x rest h = refl
front_passed table pos (Some before) x rest h =
    ap (λ (k : ℕ). slice_get (record x { before = before } ∷ rest) k) (passes (below table pos) (record x { before = before }) rest h)

-- the first since that isn't before a position, among notes in order
found_own : (stretches : List (List Change)) (table pos : ℕ) (own : List Change) → Ascends own
    → found table pos (noted_since stretches own) ≡ slice_get (noted_since stretches (drop (prefix_len (below table pos) own) own)) 0
found_own stretches table pos [] up = refl
found_own stretches table pos (x ∷ xs) up = elim (cases_Bool (below table pos x)) [
  | inl h ↦ front_passed table pos (was_at stretches x.table x.pos) x (noted_since stretches xs) h
      ∙ (found_own stretches table pos xs up.1
      ∙ ap (λ (k : ℕ). slice_get (noted_since stretches (drop k (x ∷ xs))) 0) (sym (passes (below table pos) x xs h)))
  | inr h ↦ not_below table pos (noted_since stretches (x ∷ xs))
      (since_all (λ n. below table pos n ≡ false) stretches (x ∷ xs) (λ n before p. p) (h, later_not_below table pos x xs h up.0))
      ∙ ap (λ (k : ℕ). slice_get (noted_since stretches (drop k (x ∷ xs))) 0) (sym (fails (below table pos) x xs h))
]

pub since_before : (stretches : List (List Change)) (ns : List Change) (table pos : ℕ) → AreBefore table pos ns → AreBefore table pos (noted_since stretches ns)
since_before stretches ns table pos all = since_all (λ note. order_of note table pos ≡ Less) stretches ns (λ n before h. h) all

since_parts : (stretches : List (List Change)) (before own behind : List Change)
    → noted_since stretches (before ++ (own ++ behind)) ≡ noted_since stretches before ++ (noted_since stretches own ++ noted_since stretches behind)
since_parts stretches before own behind =
    since_append stretches before (own ++ behind) ∙ ap (λ (ns : List Change). noted_since stretches before ++ ns) (since_append stretches own behind)

-- the first since that isn't before a position is one of its block from there on, or the first one behind it
pub found_since : (stretches : List (List Change)) (before own behind : List Change) (table pos : ℕ) → AreBefore table pos before → Ascends own → AreBehind table pos behind
    → option_map place_of (found table pos (noted_since stretches (before ++ (own ++ behind))))
    ≡ or_else (option_map place_of (slice_get (noted_since stretches (drop (prefix_len (below table pos) own) own)) 0)) (option_map place_of (slice_get (noted_since stretches behind) 0))
found_since stretches before own behind table pos lows up highs =
    ap (λ (ns : List Change). option_map place_of (found table pos ns)) (since_parts stretches before own behind)
    ∙ (ap (option_map place_of) (found_in table pos (noted_since stretches before) (noted_since stretches own) (noted_since stretches behind)
    (since_before stretches before table pos lows) (since_behind stretches behind table pos highs))
    ∙ (placed (found table pos (noted_since stretches own)) (slice_get (noted_since stretches behind) 0)
    ∙ ap (λ (o : Option Change). or_else (option_map place_of o) (option_map place_of (slice_get (noted_since stretches behind) 0))) (found_own stretches table pos own up)))

pos_order : (n : Change) (table pos : ℕ) (o : Ordering) → n.table ≡ table → order_of n table pos ≡ o → nat_cmp n.pos pos ≡ o
pos_order n table pos o same h =
    let tie = ap (λ (m : ℕ). nat_cmp m table) same ∙ tied_itself nat_cmp_total table in
    sym (ap (λ (p : Ordering). ordering_then p (nat_cmp n.pos pos)) tie) ∙ h

pos_less : (m n : ℕ) → nat_cmp m n ≡ Less → m < n
pos_less m n h = subst (λ (o : Ordering). MatchOrdering o (m < n) (m ≡ n) (n < m)) h (ranks m n)

pos_more : (m n : ℕ) → nat_cmp m n ≡ Greater → n < m
pos_more m n h = subst (λ (o : Ordering). MatchOrdering o (m < n) (m ≡ n) (n < m)) h (ranks m n)

-- a note before the first position is not between, nor is one behind the last
not_yet : (n : Change) (table from to : ℕ) → order_of n table from ≡ Less → is_between table from to n ≡ false
not_yet n table from to e = not_true (is_between table from to n) (λ h.
    let parts = and_parts (n.table == table) (nat_le from n.pos && nat_lt n.pos to) h in
    let bounds = and_parts (nat_le from n.pos) (nat_lt n.pos to) parts.1 in
    let low : from ≤ n.pos = leb-true from n.pos bounds.0 in
    let less : n.pos < from = pos_less n.pos from (pos_order n table from Less (eqb-true n.table table parts.0) e) in
    absurd (omega (arith, low, less)))

no_more : (n : Change) (table from to : ℕ) → order_of n table to ≡ Greater → is_between table from to n ≡ false
no_more n table from to e = not_true (is_between table from to n) (λ h.
    let parts = and_parts (n.table == table) (nat_le from n.pos && nat_lt n.pos to) h in
    let bounds = and_parts (nat_le from n.pos) (nat_lt n.pos to) parts.1 in
    let low : n.pos < to = ltb-true n.pos to bounds.1 in
    let more : to < n.pos = pos_more n.pos to (pos_order n table to Greater (eqb-true n.table table parts.0) e) in
    absurd (omega (arith, low, more)))

dropped : (f : Change → Bool) (x : Change) (xs : List Change) → f x ≡ false → filter f (x ∷ xs) ≡ filter f xs
dropped f x xs h = ap (λ (b : Bool). cond b (x ∷ filter f xs) (filter f xs)) h

none_between_before : (ns : List Change) (table from to : ℕ) → AreBefore table from ns → filter (is_between table from to) ns ≡ []
none_between_before [] table from to all = refl
none_between_before (n ∷ ns) table from to all = dropped (is_between table from to) n ns (not_yet n table from to all.0) ∙ none_between_before ns table from to all.1

none_between_behind : (ns : List Change) (table from to : ℕ) → AreBehind table to ns → filter (is_between table from to) ns ≡ []
none_between_behind [] table from to all = refl
none_between_behind (n ∷ ns) table from to all = dropped (is_between table from to) n ns (no_more n table from to all.0) ∙ none_between_behind ns table from to all.1

-- what is wanted of all notes is among those of blocks up to that of the last position
pub wanted_within : (stretches : List (List Change)) (before own span rest : List Change) (table from to : ℕ) → AreBefore table from before → AreBehind table to rest
    → filter (is_between table from to) (noted_since stretches (before ++ (own ++ (span ++ rest))))
    ≡ filter (is_between table from to) (noted_since stretches own) ++ filter (is_between table from to) (noted_since stretches span)
wanted_within stretches before own span rest table from to lows highs =
    let f = is_between table from to in
    let since = noted_since stretches in
    let last : filter f (since (span ++ rest)) ≡ filter f (since span) =
    ap (filter f) (since_append stretches span rest) ∙ (filter-append f (since span) (since rest)
    ∙ (ap (λ (ns : List Change). filter f (since span) ++ ns) (none_between_behind (since rest) table from to (since_behind stretches rest table to highs)) ∙ append-nil (filter f (since span)))) in
    ap (filter f) (since_append stretches before (own ++ (span ++ rest))) ∙ (filter-append f (since before) (since (own ++ (span ++ rest)))
    ∙ (ap (λ (ns : List Change). ns ++ filter f (since (own ++ (span ++ rest)))) (none_between_before (since before) table from to (since_before stretches before table from lows))
    ∙ (ap (filter f) (since_append stretches own (span ++ rest)) ∙ (filter-append f (since own) (since (span ++ rest))
    ∙ ap (λ (ns : List Change). filter f (since own) ++ ns) last))))

kept_from : (f : Change → Bool) (w : Option Cell) (x : Change) (rest : List Change) → ((before : Cell) → f (record x { before = before }) ≡ f x) → f x ≡ true
    → filter f (note_from w x ++ rest) ≡ note_from w x ++ filter f rest
kept_from f None x rest same h = refl
kept_from f (Some before) x rest same h = ap (λ (b : Bool). cond b (record x { before = before } ∷ filter f rest) (filter f rest)) (same before ∙ h)

lost_from : (f : Change → Bool) (w : Option Cell) (x : Change) (rest : List Change) → ((before : Cell) → f (record x { before = before }) ≡ f x) → f x ≡ false
    → filter f (note_from w x ++ rest) ≡ filter f rest
lost_from f None x rest same h = refl
lost_from f (Some before) x rest same h = dropped f (record x { before = before }) rest (same before ∙ h)

-- one more of the notes was looked at: it was pushed where it is wanted and was written since
module _ (stretches : List (List Change)) (table from to : ℕ) (notes list : List Change) (i : ℕ) (x : Change) (within : i < length notes) (is : x ≡ get_or notes i x) (all : List Change)
    (so_far : list ++ filter (is_between table from to) (noted_since stretches (drop i notes)) ≡ all) where
  next : list ++ filter (is_between table from to) (note_from (was_at stretches x.table x.pos) x ++ noted_since stretches (drop (i + 1) notes)) ≡ all
  next = ap (λ (ns : List Change). list ++ filter (is_between table from to) (noted_since stretches ns)) (sym (drop_item notes i x within is)) ∙ so_far

  pub pushed : (more : List Change) → is_between table from to x ≡ true → more ≡ list ++ note_from (was_at stretches x.table x.pos) x
      → more ++ filter (is_between table from to) (noted_since stretches (drop (i + 1) notes)) ≡ all
  pushed more wanted e =
      let f = is_between table from to in
      let rest = noted_since stretches (drop (i + 1) notes) in
      let w = was_at stretches x.table x.pos in
      ap (λ (ns : List Change). ns ++ filter f rest) e
      ∙ (append_assoc list (note_from w x) (filter f rest) ∙ (ap (λ (ns : List Change). list ++ ns) (sym (kept_from f w x rest (λ before. refl) wanted)) ∙ next))

  pub left_out : is_between table from to x ≡ false → list ++ filter (is_between table from to) (noted_since stretches (drop (i + 1) notes)) ≡ all
  left_out other =
      ap (λ (ns : List Change). list ++ ns)
      (sym (lost_from (is_between table from to) (was_at stretches x.table x.pos) x (noted_since stretches (drop (i + 1) notes)) (λ before. refl) other)) ∙ next

-- what is wanted of one more block was pushed
pub block_pushed : (stretches : List (List Change)) (f : Change → Bool) (blocks : List (Vec Change)) (list more : List Change) (i : ℕ) (block : Vec Change)
    → i < length blocks → block ≡ get_or blocks i block → (all : List Change) → list ++ filter f (noted_since stretches (joined (drop i blocks))) ≡ all
    → more ≡ list ++ filter f (noted_since stretches block.items) → more ++ filter f (noted_since stretches (joined (drop (i + 1) blocks))) ≡ all
block_pushed stretches f blocks list more i block within is all so_far e =
    let rest = noted_since stretches (joined (drop (i + 1) blocks)) in
    ap (λ (ns : List Change). ns ++ filter f rest) e
    ∙ (append_assoc list (filter f (noted_since stretches block.items)) (filter f rest)
    ∙ (ap (λ (ns : List Change). list ++ ns)
    (sym (ap (filter f) (blocks_next stretches blocks i block within is) ∙ filter-append f (noted_since stretches block.items) rest)) ∙ so_far))
