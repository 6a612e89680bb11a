-- What is gathered by column of the rows in place, and a chunk in parts.
use Rattle.std.proofs.Common.{◌≡◌, ℕ, zero, suc, ◌+◌, ◌-◌, ◌<◌, ◌≤◌, Bool, true, false, List, [], ◌∷◌, ◌++◌, map, take, drop, length, get_or, refl, sym, ap, ◌∙◌, arith, cond, add-one}
use Rattle.std.specs.Prelude.{◌&&◌, Option, None, Result, Ok, Err, OnErr, All, filter}
use Rattle.std.specs.List.{flat_map, range_with_len}
use Rattle.std.proofs.lemmas.List.{append-nil, map_push, take_all, get_or-drop, get_or-map, length-drop, map-append, take-append-drop, drop-drop, length-append, take-take}
use Rattle.std.proofs.lemmas.List.Concat.{flat_map-append}
use Rattle.std.proofs.lemmas.List.Elements.{All-filter, All-nil, All-push, All-same}
use Rattle.std.proofs.lemmas.List.FromFn.{get_or-range_with_len, length-range_with_len}
use Rattle.hy_value.specs.declared.Value.{Value}
use Rattle.hy_value.specs.declared.ColMask.{ColMask}
use Rattle.hy_stamp.specs.declared.Viewer.{Viewer}
use Rattle.hy_bound.specs.Condition.{Condition}
use Rattle.hy_bound.specs.Predicate.{column_of, truth_of}
use Rattle.hy_bound.specs.Projection.{projected, projected_from}
use Rattle.hy_value.specs.Columns.{has_column}
use Rattle.hy_bound.specs.Records.{conjuncts}
use Rattle.hy_plan.specs.Placed.{row_picked}
use Rattle.hy_chain.specs.Chains.{Undo, seen}
use Rattle.hy_undo.specs.Images.{Image, before}
use Rattle.hy_undo.specs.Places.{Place, Cell, cell_of, in_place, sees}
use Rattle.hy_undo.specs.Chunks.{rows_seen}
use Rattle.hy_chunk.specs.Fields.{nth, blank_with}
use Rattle.hy_chunk.specs.Gathering.{conditions_of, gathered_by, gathered_of, kept_of}
use Rattle.hy_chunk.specs.declared.gathering.Keys.{Keys}
use Rattle.hy_chunk.proofs.Gathers.{by_one}
use Rattle.hy_chunk.specs.Masked.{Admits, Confirms}
use Rattle.hy_chunk.specs.Parts.{is_set_at, part_of, places_set}
use Rattle.hy_chunk.proofs.Looks.{gathered_more}
use Rattle.hy_chunk.proofs.Masking.{bit_is_truth}

-- ---- numbers in order

-- each of the numbers is below an end
pub set_within : (test : ℕ → Bool) (first many bound : ℕ) → first + many ≤ bound → All (λ k. k < bound) (filter test (range_with_len first many))
set_within test first many bound l =
    All-filter test (λ k. k < bound) (range_with_len first many) (λ k d m.
    let inside : k < many = omega (arith, m, length-range_with_len first many) in
    let at : get_or (range_with_len first many) k d ≡ first + k = get_or-range_with_len first many k d inside in
    omega (arith, at, inside, l))

-- ---- parts of a list

pub drop_next : (places : List Place) (first : ℕ) → first < length places → drop first places ≡ nth places first ∷ drop (first + 1) places
drop_next [] first l = absurd (omega arith)
drop_next (p ∷ ps) zero l = refl
drop_next (p ∷ ps) (suc first) l =
    drop_next ps first (omega arith)
    ∙ ap (λ (n : ℕ). nth ps first ∷ drop n (p ∷ ps)) (let e : ◌≡◌ {A = ℕ} (suc (first + 1)) (suc first + 1) = omega arith in e)

pub all_of : (places : List Place) → part_of 0 (length places) places ≡ places
all_of places = take_all (length places - 0) places (omega arith)

-- the parts before, within and behind a range are all
pub three_parts : (places : List Place) (first end : ℕ) → first ≤ end → end ≤ length places
    → part_of 0 first places ++ (part_of first end places ++ part_of end (length places) places) ≡ places
three_parts places first end l m =
    let rest : List Place = drop first places in
    let start : take (first - 0) places ≡ take first places = ap (λ (n : ℕ). take n places) (let e : ◌≡◌ {A = ℕ} (first - 0) first = omega arith in e) in
    let last : drop end places ≡ drop (end - first) rest =
    ap (λ (n : ℕ). drop n places) (let e : ◌≡◌ {A = ℕ} end (first + (end - first)) = omega (arith, l) in e) ∙ sym (drop-drop (end - first) first places) in
    let to_end : part_of end (length places) places ≡ drop (end - first) rest =
    take_all (length places - end) (drop end places) (omega (arith, length-drop end places)) ∙ last in
    (λ i. start i ++ (take (end - first) rest ++ to_end i))
    ∙ (ap (λ (ps : List Place). take first places ++ ps) (take-append-drop (end - first) rest) ∙ take-append-drop first places)

-- what is gathered of one position more of a part
pub part_more : (keeps : Cell → List (List Value)) (viewer : Viewer) (places : List Place) (first place : ℕ) (old : List (List Value)) → first ≤ place
    → place < length places
    → (old ++ flat_map keeps (rows_seen viewer (take (place - first) (drop first places)))) ++ keeps (sees viewer (nth places place))
    ≡ old ++ flat_map keeps (rows_seen viewer (take (place + 1 - first) (drop first places)))
part_more keeps viewer places first place old l m =
    let rest : List Place = drop first places in
    let far : ◌≡◌ {A = ℕ} (first + (place - first)) place = omega (arith, l) in
    let more : ◌≡◌ {A = ℕ} (place - first + 1) (place + 1 - first) = omega (arith, l) in
    let there : nth places place ≡ nth rest (place - first) =
    sym (get_or-drop first places (place - first) (blank_with []) ∙ ap (nth places) far) in
    ap (λ (p : Place). (old ++ flat_map keeps (rows_seen viewer (take (place - first) rest))) ++ keeps (sees viewer p)) there
    ∙ (gathered_more keeps viewer rest (place - first) old (omega (arith, l, m, length-drop first places))
    ∙ ap (λ (n : ℕ). old ++ flat_map keeps (rows_seen viewer (take n rest))) more)

-- a position at which nothing is kept adds nothing
pub part_passed : (keeps : Cell → List (List Value)) (viewer : Viewer) (places : List Place) (first place : ℕ) (old gathered : List (List Value))
    → first ≤ place → place < length places → keeps (sees viewer (nth places place)) ≡ []
    → gathered ≡ old ++ flat_map keeps (rows_seen viewer (take (place - first) (drop first places)))
    → gathered ≡ old ++ flat_map keeps (rows_seen viewer (take (place + 1 - first) (drop first places)))
part_passed keeps viewer places first place old gathered l m none so_far =
    let rows : List (List Value) = old ++ flat_map keeps (rows_seen viewer (take (place - first) (drop first places))) in
    so_far ∙ (sym (append-nil rows) ∙ (ap (λ (kept : List (List Value)). rows ++ kept) (sym none) ∙ part_more keeps viewer places first place old l m))

-- what is gathered of three parts is gathered of all
pub gathered_parts : (keeps : Cell → List (List Value)) (viewer : Viewer) (places : List Place) (first end : ℕ) (old one two three : List (List Value))
    → first ≤ end → end ≤ length places
    → one ≡ old ++ flat_map keeps (rows_seen viewer (part_of 0 first places))
    → two ≡ one ++ flat_map keeps (rows_seen viewer (part_of first end places))
    → three ≡ two ++ flat_map keeps (rows_seen viewer (part_of end (length places) places))
    → three ≡ old ++ flat_map keeps (rows_seen viewer places)
gathered_parts keeps viewer places first end old one two three l m a b c =
    let x : List Place = part_of 0 first places in
    let y : List Place = part_of first end places in
    let z : List Place = part_of end (length places) places in
    let gather : List Place → List (List Value) = λ ps. flat_map keeps (rows_seen viewer ps) in
    c ∙ (ap (λ (rows : List (List Value)). rows ++ gather z) (b ∙ ap (λ (rows : List (List Value)). rows ++ gather y) a)
    ∙ (joined old (gather x) (gather y) (gather z)
    ∙ ap (λ (rows : List (List Value)). old ++ rows)
    (sym (both x (y ++ z) ∙ ap (λ (rows : List (List Value)). gather x ++ rows) (both y z)) ∙ ap gather (three_parts places first end l m))))
  where
    joined : (o p q r : List (List Value)) → ((o ++ p) ++ q) ++ r ≡ o ++ (p ++ (q ++ r))
    joined [] [] q r = refl
    joined [] (x ∷ p) q r = ap (λ (rows : List (List Value)). x ∷ rows) (joined [] p q r)
    joined (x ∷ o) p q r = ap (λ (rows : List (List Value)). x ∷ rows) (joined o p q r)

    both : (ps qs : List Place) → flat_map keeps (rows_seen viewer (ps ++ qs)) ≡ flat_map keeps (rows_seen viewer ps) ++ flat_map keeps (rows_seen viewer qs)
    both ps qs = ap (flat_map keeps) (map-append (sees viewer) ps qs) ∙ flat_map-append keeps (rows_seen viewer ps) (rows_seen viewer qs)

-- what was there before more came is there
pub front_kept : (old more now : List (List Value)) → now ≡ old ++ more → take (length old) now ≡ old
front_kept old more now e = ap (take (length old)) e ∙ front old
  where
    front : (xs : List (List Value)) → take (length xs) (xs ++ more) ≡ xs
    front [] = refl
    front (x ∷ xs) = ap (λ (rows : List (List Value)). x ∷ rows) (front xs)

-- what is there for certain is there for certain after more
pub still_front : (old more one now : List (List Value)) → one ≡ old ++ more → take (length one) now ≡ one → take (length old) now ≡ old
still_front old more one now e kept =
    sym (take-take (length old) (length one) now (omega (arith, ap length e, length-append old more)))
    ∙ (ap (take (length old)) kept ∙ front_kept old more one e)

-- ---- rows in place

-- where no position of a part has records, every viewer sees what is in place
pub part_in_place : (viewer : Viewer) (places : List Place) (many first : ℕ) → first + many ≤ length places
    → ((k : ℕ) → first ≤ k → k < first + many → (nth places k).chain ≡ []) → map in_place (take many (drop first places)) ≡ rows_seen viewer (take many (drop first places))
part_in_place viewer places zero first l none = refl
part_in_place viewer places (suc many) first l none =
    let next = drop_next places first (omega arith) in
    let rest : map in_place (take many (drop (first + 1) places)) ≡ rows_seen viewer (take many (drop (first + 1) places)) =
    part_in_place viewer places many (first + 1) (omega arith) (λ k above below. none k (omega (arith, above)) (omega (arith, below))) in
    let here : in_place (nth places first) ≡ sees viewer (nth places first) =
    ap (λ (chain : List (Undo Image)). cell_of (seen before viewer (nth places first).version chain)) (sym (none first (omega arith) (omega arith))) in
    ap (λ (ps : List Place). map in_place (take (suc many) ps)) next
    ∙ ((λ i. here i ∷ rest i) ∙ ap (λ (ps : List Place). rows_seen viewer (take (suc many) ps)) (sym next))

-- so where no position of a part has records, what is gathered without keys of the rows in place is gathered of what is seen
pub plain_seen : (columns : ColMask) (pred : Condition) (keys : Option Keys) (viewer : Viewer) (places : List Place) (first end : ℕ) → keys ≡ None
    → first ≤ end → end ≤ length places → ((k : ℕ) → first ≤ k → k < end → (nth places k).chain ≡ [])
    → gathered_of columns pred (map in_place (part_of first end places)) ≡ gathered_by columns (conditions_of pred keys) (rows_seen viewer (part_of first end places))
plain_seen columns pred keys viewer places first end no_keys l m none =
    ap (gathered_of columns pred)
    (part_in_place viewer places (end - first) first (omega (arith, l, m)) (λ k above below. none k above (omega (arith, l, below))))
    ∙ (sym (by_one columns pred (rows_seen viewer (part_of first end places)))
    ∙ ap (λ (some : Option Keys). gathered_by columns (conditions_of pred some) (rows_seen viewer (part_of first end places))) (sym no_keys))

-- a value of a row that is taken by column
pub row_in_place : (places : List Place) (place : ℕ) → place < length places → get_or (map (λ (p : Place). p.version.row) places) place [] ≡ (nth places place).version.row
row_in_place places place l = get_or-map (λ (p : Place). p.version.row) places place (blank_with []) [] l

module _ (columns : ColMask) (pred : Condition) (mask : List Bool) (places : List Place) (pick : ℕ → List Value) where
  here : Admits (conjuncts pred) places mask → Confirms (conjuncts pred) places mask
      → ((k : ℕ) → k < length places → pick k ≡ projected columns (nth places k).version.row)
      → (k : ℕ) → k < length places → map pick (cond (is_set_at mask places k) (k ∷ []) []) ≡ kept_of columns pred (in_place (nth places k))
  here admits confirms picked k l = by (nth places k).version.live
    where
      row : List Value
      row = (nth places k).version.row

      told : get_or mask k false ≡ truth_of pred row
      told = bit_is_truth pred places mask admits confirms k l

      there : (b : Bool) → map pick (cond (b && true) (k ∷ []) []) ≡ cond b (projected columns row ∷ []) []
      there true = ap (λ (values : List Value). values ∷ []) (picked k l)
      there false = refl

      nowhere : (b : Bool) → map pick (cond (b && false) (k ∷ []) []) ≡ []
      nowhere true = refl
      nowhere false = refl

      by : (live : Bool) → map pick (cond (get_or mask k false && live) (k ∷ []) []) ≡ kept_of columns pred (cell_of (record { row = row; live = live }))
      by true = there (get_or mask k false) ∙ ap (λ (b : Bool). cond b (projected columns row ∷ []) []) told
      by false = nowhere (get_or mask k false)

  split : (b : Bool) (k : ℕ) (ks : List ℕ) → map pick (cond b (k ∷ ks) ks) ≡ map pick (cond b (k ∷ []) []) ++ map pick ks
  split true k ks = refl
  split false k ks = refl

  -- what is taken at the set places of a part is what a condition selects of the rows in place there
  pub picked_part : Admits (conjuncts pred) places mask → Confirms (conjuncts pred) places mask
      → ((k : ℕ) → k < length places → pick k ≡ projected columns (nth places k).version.row) → (many first : ℕ) → first + many ≤ length places
      → map pick (filter (is_set_at mask places) (range_with_len first many)) ≡ flat_map (kept_of columns pred) (map in_place (take many (drop first places)))
  picked_part admits confirms picked zero first l = refl
  picked_part admits confirms picked (suc many) first l =
      let rest = picked_part admits confirms picked many (first + 1) (omega arith) in
      let at : map pick (cond (is_set_at mask places first) (first ∷ []) []) ≡ kept_of columns pred (in_place (nth places first)) =
      here admits confirms picked first (omega arith) in
      split (is_set_at mask places first) first (filter (is_set_at mask places) (range_with_len (first + 1) many))
      ∙ ((λ i. at i ++ rest i)
      ∙ ap (λ (ps : List Place). flat_map (kept_of columns pred) (map in_place (take (suc many) ps))) (sym (drop_next places first (omega arith))))

-- the rows that are taken in these columns at the set places of a part
pub plain_rows : (columns : ColMask) (pred : Condition) (mask : List Bool) (places : List Place) (width first end : ℕ) (found numbers : List ℕ)
    → Admits (conjuncts pred) places mask → Confirms (conjuncts pred) places mask
    → ((k : ℕ) → k < length places → length (nth places k).version.row ≡ width)
    → ((row : List Value) → length row ≡ width → map (column_of row) numbers ≡ projected columns row)
    → found ≡ places_set mask first end places → first ≤ end → end ≤ length places
    → map (row_picked (map (λ (p : Place). p.version.row) places) numbers) found ≡ gathered_of columns pred (map in_place (part_of first end places))
plain_rows columns pred mask places width first end found numbers admits confirms wide values are l m =
    let pick : ℕ → List Value = row_picked (map (λ (p : Place). p.version.row) places) numbers in
    ap (map pick) are
    ∙ picked_part columns pred mask places pick admits confirms
    (λ k within. ap (λ (row : List Value). map (column_of row) numbers) (row_in_place places k within) ∙ values (nth places k).version.row (wide k within))
    (end - first) first (omega (arith, l, m))

-- ---- columns of a set

projected_from_more : (columns : ColMask) (first : ℕ) (row : List Value) (count : ℕ) → count < length row
    → projected_from columns first (take (suc count) row) ≡ projected_from columns first (take count row)
    ++ cond (has_column columns (first + count)) (column_of row count ∷ []) []
projected_from_more columns first [] count l = absurd (omega arith)
projected_from_more columns first (value ∷ row) zero l =
    ap (λ (n : ℕ). cond (has_column columns n) (value ∷ []) []) (let e : ◌≡◌ {A = ℕ} first (first + 0) = omega arith in e)
projected_from_more columns first (value ∷ row) (suc count) l =
    by (has_column columns first) (projected_from columns (suc first) (take (suc count) row)) (projected_from columns (suc first) (take count row))
    (cond (has_column columns (first + suc count)) (column_of row count ∷ []) [])
    (projected_from_more columns (suc first) row count (omega arith)
    ∙ ap (λ (n : ℕ). projected_from columns (suc first) (take count row) ++ cond (has_column columns n) (column_of row count ∷ []) [])
    (let e : ◌≡◌ {A = ℕ} (suc first + count) (first + suc count) = omega arith in e))
  where
    by : (b : Bool) (xs ys zs : List Value) → xs ≡ ys ++ zs → cond b (value ∷ xs) xs ≡ cond b (value ∷ ys) ys ++ zs
    by true xs ys zs e = ap (λ (values : List Value). value ∷ values) e
    by false xs ys zs e = e

-- the values in the columns of a set below one more
pub projected_more : (columns : ColMask) (row : List Value) (count : ℕ) → count < length row
    → projected columns (take (count + 1) row) ≡ projected columns (take count row) ++ cond (has_column columns count) (column_of row count ∷ []) []
projected_more columns row count l =
    ap (λ (n : ℕ). projected columns (take n row)) (add-one count)
    ∙ (projected_from_more columns 0 row count l
    ∙ ap (λ (n : ℕ). projected columns (take count row) ++ cond (has_column columns n) (column_of row count ∷ []) [])
    (let e : ◌≡◌ {A = ℕ} (0 + count) count = omega arith in e))

-- the columns of a set that were found among the first so many
pub record FoundColumns (columns : ColMask) (width count : ℕ) (found : List ℕ) : Type 0 where
  pub within : All (λ column. column < width) found
  pub values : (row : List Value) → length row ≡ width → map (column_of row) found ≡ projected columns (take count row)

pub none_found : (columns : ColMask) (width : ℕ) (found : List ℕ) → found ≡ [] → FoundColumns columns width 0 found
none_found columns width found e = record {
  within = All-same (λ column. column < width) found [] e (All-nil (λ column. column < width));
  values = λ row size. ap (map (column_of row)) e;
}

pub found_more : (columns : ColMask) (width count : ℕ) (found now : List ℕ) → count < width → has_column columns count ≡ true → now ≡ found ++ count ∷ []
    → FoundColumns columns width count found → FoundColumns columns width (count + 1) now
found_more columns width count found now l has is f = record {
  within = All-same (λ column. column < width) now (found ++ count ∷ []) is (All-push (λ column. column < width) found count f.within l);
  values = λ row size.
      ap (map (column_of row)) is
      ∙ (map_push (column_of row) found count
      ∙ ((λ i. f.values row size i ++ column_of row count ∷ [])
      ∙ (ap (λ (b : Bool). projected columns (take count row) ++ cond b (column_of row count ∷ []) []) (sym has)
      ∙ sym (projected_more columns row count (omega (arith, l, size))))));
}

pub found_passed : (columns : ColMask) (width count : ℕ) (found : List ℕ) → count < width → has_column columns count ≡ false
    → FoundColumns columns width count found → FoundColumns columns width (count + 1) found
found_passed columns width count found l has f = record {
  within = f.within;
  values = λ row size.
      f.values row size
      ∙ (sym (append-nil (projected columns (take count row)))
      ∙ (ap (λ (b : Bool). projected columns (take count row) ++ cond b (column_of row count ∷ []) []) (sym has)
      ∙ sym (projected_more columns row count (omega (arith, l, size)))));
}

pub found_all : (columns : ColMask) (width count : ℕ) (found : List ℕ) → width ≤ count → FoundColumns columns width count found → (row : List Value)
    → length row ≡ width → map (column_of row) found ≡ projected columns row
found_all columns width count found l f row size = f.values row size ∙ ap (projected columns) (take_all count row (omega (arith, l, size)))

pub err_from : {A E : Type 0} (r : Result A E) (P : Type 0) → P → OnErr r P
err_from (Ok x) P h = tt
err_from (Err e) P h = h
