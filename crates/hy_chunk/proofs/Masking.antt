-- Masks of comparisons: where a bit is clear nothing is wanted of the row in place.
use Rattle.std.proofs.Common.{◌≡◌, ℕ, ℤ, zero, suc, ◌<◌, ◌≤◌, Bool, true, false, List, [], ◌∷◌, ◌+◌, map, take, length, get_or, replicate, Option, None, Some, refl, sym, ap, ◌∙◌, arith, subst, cond}
use Rattle.std.specs.Prelude.{Contains, IfOk, IfNone, IfSome, Result, Ok, Err, not, ◌&&◌, ◌||◌}
use Rattle.std.specs.List.{list_all}
use Rattle.std.proofs.lemmas.Bool.{and_from, and_parts, both_ways, false_from_ne_true}
use Rattle.std.proofs.lemmas.List.{take_all, length-map, length-replicate, get_or-replicate, ext_get_or}
use Rattle.std.proofs.lemmas.List.Folds.{list_all_more}
use lib.Lanes.{zip2}
use Rattle.hy_value.specs.declared.Cmp.{Cmp}
use Rattle.hy_value.specs.declared.Value.{Value}
use Rattle.hy_value.specs.declared.Value.TheVariants.{Null, Int, Text}
use Rattle.hy_value.specs.declared.ColMask.{ColMask}
use Rattle.hy_stamp.specs.declared.Viewer.{Viewer}
use Rattle.hy_bound.specs.Condition.{Condition, Compare}
use Rattle.hy_bound.specs.declared.predicate.Side.TheVariants.{Literal}
use Rattle.hy_bound.specs.Predicate.{column_of, compared, is_known, truth_of}
use Rattle.hy_bound.specs.Projection.{projected}
use Rattle.hy_bound.specs.Records.{conjuncts}
use Rattle.hy_bound.specs.Truths.{conjuncts_truth}
use Rattle.hy_value.specs.declared.Kind.{Kind}
use Rattle.hy_value.specs.declared.Kind.TheVariants as kinds
use Rattle.hy_column.specs.Compared.{column_compared, compares_value}
use Rattle.hy_plan.specs.Reads.{is_read_of}
use Rattle.hy_chain.specs.Chains.{Undo, seen}
use Rattle.hy_undo.specs.Images.{Image, before}
use Rattle.hy_undo.specs.Places.{Place, cell_of, sees, in_place}
use Rattle.hy_chunk.specs.Fields.{nth, blank_with}
use Rattle.hy_chunk.specs.Gathering.{conditions_of, kept_by}
use Rattle.hy_chunk.specs.declared.gathering.Keys.{Keys}
use Rattle.hy_chunk.specs.Masked.{Admits, BarsRow, Confirms}
use Rattle.hy_chunk.proofs.Gathers.{not_looked_up}
use Rattle.hy_chunk.proofs.Places.{Fields, all, length_all, at_all}

-- ---- rows and positions

pub rows_in_place : (f : Fields) → f.rows ≡ map (λ (p : Place). p.version.row) (all f)
rows_in_place f =
    ext_get_or [] f.rows (map (λ (p : Place). p.version.row) (all f)) (sym (length-map (all f) (λ (p : Place). p.version.row) ∙ length_all f))
    (λ j l.
    let there : j < length (all f) = omega (arith, l, length_all f) in
    ap (λ (p : Place). p.version.row) (sym (at_all f j (blank_with []) l)) ∙ sym (row_at (all f) j there))
  where
    row_at : (places : List Place) (k : ℕ) → k < length places → get_or (map (λ (p : Place). p.version.row) places) k [] ≡ (nth places k).version.row
    row_at [] k l = absurd (omega arith)
    row_at (p ∷ places) zero l = refl
    row_at (p ∷ places) (suc k) l = row_at places k (omega arith)

-- ---- one comparison

compared_is : (op : Cmp) (number : ℤ) (value : Value) → is_known (compared op value (Int number)) ≡ compares_value op number value
compared_is op number Null = refl
compared_is op number (Int n) = refl
compared_is op number (Text t) = refl

-- what is compared of the rows in place
abbrev compared_at : Cmp → ℤ → ℕ → List Place → List Bool
compared_at op number column places =
    map (λ (row : List Value). compares_value op number (column_of row column)) (map (λ (p : Place). p.version.row) places)

compared_many : (op : Cmp) (number : ℤ) (column : ℕ) (ps : List Place) → length (compared_at op number column ps) ≡ length ps
compared_many op number column [] = refl
compared_many op number column (p ∷ ps) = let rest = compared_many op number column ps in omega (arith, rest)

bit_at : (op : Cmp) (number : ℤ) (column : ℕ) (ps : List Place) (k : ℕ) → k < length ps
    → get_or (compared_at op number column ps) k false ≡ compares_value op number (column_of (nth ps k).version.row column)
bit_at op number column [] k l = absurd (omega arith)
bit_at op number column (p ∷ ps) zero l = refl
bit_at op number column (p ∷ ps) (suc k) l = bit_at op number column ps k (omega arith)

-- the bit says what the condition says
one_tells : (pred : Condition) (column : ℕ) (op : Cmp) (number : ℤ) (places : List Place) → pred ≡ Compare column op (Literal (Int number))
    → (place : ℕ) → place < length places → get_or (compared_at op number column places) place false ≡ truth_of pred (nth places place).version.row
one_tells pred column op number places is place l =
    bit_at op number column places place l
    ∙ (sym (compared_is op number (column_of (nth places place).version.row column))
    ∙ ap (λ (c : Condition). truth_of c (nth places place).version.row) (sym is))

one_admits : (pred : Condition) (column : ℕ) (op : Cmp) (number : ℤ) (places : List Place) → pred ≡ Compare column op (Literal (Int number))
    → Admits (pred ∷ []) places (compared_at op number column places)
one_admits pred column op number places is = record {
  many = compared_many op number column places;
  clear = λ place l e. record {
    pred = pred;
    among = (zero, omega arith, refl);
    barred = sym (one_tells pred column op number places is place l) ∙ e;
  };
}

one_confirms : (pred : Condition) (column : ℕ) (op : Cmp) (number : ℤ) (places : List Place) → pred ≡ Compare column op (Literal (Int number))
    → Confirms (pred ∷ []) places (compared_at op number column places)
one_confirms pred column op number places is = λ place l e.
    ap (λ (b : Bool). b && true) (sym (one_tells pred column op number places is place l) ∙ e)

-- so of a column of numbers; of one of texts no mask tells
pub column_admits : (pred : Condition) (column : ℕ) (op : Cmp) (number : ℤ) (places : List Place) (kind : Kind) (found : Option (List Bool))
    → pred ≡ Compare column op (Literal (Int number))
    → found ≡ column_compared op number column (map (λ (p : Place). p.version.row) places) kind
    → IfSome found (λ mask. Admits (pred ∷ []) places mask)
column_admits pred column op number places kinds.Int found is told =
    subst (λ (o : Option (List Bool)). IfSome o (λ mask. Admits (pred ∷ []) places mask)) (sym told)
    (one_admits pred column op number places is)
column_admits pred column op number places kinds.Str found is told =
    subst (λ (o : Option (List Bool)). IfSome o (λ mask. Admits (pred ∷ []) places mask)) (sym told) tt

pub column_confirms : (pred : Condition) (column : ℕ) (op : Cmp) (number : ℤ) (places : List Place) (kind : Kind) (found : Option (List Bool))
    → pred ≡ Compare column op (Literal (Int number))
    → found ≡ column_compared op number column (map (λ (p : Place). p.version.row) places) kind
    → IfSome found (λ mask. Confirms (pred ∷ []) places mask)
column_confirms pred column op number places kinds.Int found is told =
    subst (λ (o : Option (List Bool)). IfSome o (λ mask. Confirms (pred ∷ []) places mask)) (sym told)
    (one_confirms pred column op number places is)
column_confirms pred column op number places kinds.Str found is told =
    subst (λ (o : Option (List Bool)). IfSome o (λ mask. Confirms (pred ∷ []) places mask)) (sym told) tt

-- ---- many

-- what is among conditions bars for all of them
pub bars_among : (c : Condition) (conditions : List Condition) (place : Place) → Contains conditions c → BarsRow (c ∷ []) place → BarsRow conditions place
bars_among c conditions place among bars = record {
  pred = c;
  among = among;
  barred = ap (λ (d : Condition). truth_of d place.version.row) (only bars.among) ∙ bars.barred;
}
  where
    only : Contains (c ∷ []) bars.pred → c ≡ bars.pred
    only (zero, l, e) = e
    only (suc k, l, e) = absurd (omega (arith, l))

pub admits_among : (c : Condition) (conditions : List Condition) (places : List Place) (mask : List Bool) → Contains conditions c
    → Admits (c ∷ []) places mask → Admits conditions places mask
admits_among c conditions places mask among admits = record {
  many = admits.many;
  clear = λ place l e. bars_among c conditions (nth places place) among (admits.clear place l e);
}

length_both : (one other : List Bool) → length other ≡ length one → length (zip2 (λ bit bits. bit && bits) one other) ≡ length one
length_both [] [] e = refl
length_both [] (b ∷ bs) e = refl
length_both (a ∷ ones) [] e = absurd (omega (arith, e))
length_both (a ∷ ones) (b ∷ bs) e = let rest = length_both ones bs (omega (arith, e)) in omega (arith, rest)

bit_both : (one other : List Bool) (k : ℕ) → length other ≡ length one → k < length one
    → get_or (zip2 (λ bit bits. bit && bits) one other) k false ≡ (get_or one k false && get_or other k false)
bit_both [] other k e l = absurd (omega arith)
bit_both (a ∷ ones) [] k e l = absurd (omega (arith, e))
bit_both (a ∷ ones) (b ∷ bs) zero e l = refl
bit_both (a ∷ ones) (b ∷ bs) (suc k) e l = bit_both ones bs k (omega (arith, e)) (omega arith)

pub both_admit : (conditions : List Condition) (places : List Place) (mask other : List Bool)
    → Admits conditions places mask → Admits conditions places other → Admits conditions places (zip2 (λ bit bits. bit && bits) mask other)
both_admit conditions places mask other admits also =
    let same : length other ≡ length mask = also.many ∙ sym admits.many in
    record {
      many = length_both mask other same ∙ admits.many;
      clear = λ place l e. by place l (get_or mask place false) refl (sym (bit_both mask other place same (omega (arith, l, admits.many))) ∙ e);
    }
  where
    by : (place : ℕ) → place < length places → (b : Bool) → get_or mask place false ≡ b → (get_or mask place false && get_or other place false) ≡ false
        → BarsRow conditions (nth places place)
    by place l false is e = admits.clear place l is
    by place l true is e = also.clear place l (ap (λ (c : Bool). c && get_or other place false) (sym is) ∙ e)

-- one condition more, by a mask of its own
pub confirm_more : (conditions : List Condition) (count : ℕ) (c : Condition) (places : List Place) (mask other : List Bool) → count < length conditions
    → c ≡ get_or conditions count c → length mask ≡ length places → length other ≡ length places
    → Confirms (take count conditions) places mask → Confirms (c ∷ []) places other
    → Confirms (take (count + 1) conditions) places (zip2 (λ bit bits. bit && bits) mask other)
confirm_more conditions count c places mask other l is many also_many all one = λ place within e.
    let row : List Value = (nth places place).version.row in
    let holds : Condition → Bool = λ pred. truth_of pred row in
    let bits : (get_or mask place false && get_or other place false) ≡ true =
    sym (bit_both mask other place (also_many ∙ sym many) (omega (arith, within, many))) ∙ e in
    let parts = and_parts (get_or mask place false) (get_or other place false) bits in
    let here : holds c ≡ true = (and_parts (holds c) true (one place within parts.1)).0 in
    list_all_more holds conditions count c l
    ∙ and_from (list_all holds (take count conditions)) (holds (get_or conditions count c)) (all place within parts.0)
    (ap holds (sym is) ∙ here)

-- where all bits are set
pub full_admits : (conditions : List Condition) (places : List Place) (many : ℕ) (mask : List Bool) → many ≡ length places → mask ≡ replicate many true
    → Admits conditions places mask
full_admits conditions places many mask size is = record {
  many = ap length is ∙ (length-replicate many true ∙ size);
  clear = λ place l e. absurd (both_ways (get_or mask place false) e
      (ap (λ (bits : List Bool). get_or bits place false) is ∙ get_or-replicate many place true false (omega (arith, l, size))));
}

pub turned : (many : ℕ) → map not (replicate many false) ≡ replicate many true
turned zero = refl
turned (suc many) = ap (λ (bits : List Bool). true ∷ bits) (turned many)

-- a mask so far: it admits what all of the conditions may be true of, and where it is exact it confirms so many of them
pub record Joins (conditions : List Condition) (count : ℕ) (places : List Place) (mask : List Bool) (is_exact : Bool) : Type 0 where
  pub admits : Admits conditions places mask
  pub confirms : is_exact ≡ true → Confirms (take count conditions) places mask

joins_more : (conditions : List Condition) (count : ℕ) (c : Condition) (places : List Place) (mask other now : List Bool) (is_exact : Bool)
    → count < length conditions → c ≡ get_or conditions count c → now ≡ zip2 (λ bit bits. bit && bits) mask other
    → Admits (c ∷ []) places other → Confirms (c ∷ []) places other → Joins conditions count places mask is_exact
    → Joins conditions (count + 1) places now is_exact
joins_more conditions count c places mask other now is_exact l is joined admits confirms j =
    subst (λ (bits : List Bool). Joins conditions (count + 1) places bits is_exact) (sym joined) (record {
      admits = both_admit conditions places mask other j.admits (admits_among c conditions places other (count, l, sym is) admits);
      confirms = λ exact. confirm_more conditions count c places mask other l is j.admits.many admits.many (j.confirms exact) confirms;
    })

-- the same of a mask that may be there: while there is none, no condition was confirmed
abbrev pub JoinsSome : List Condition → ℕ → List Place → Option (List Bool) → Bool → Type 0
JoinsSome conditions count places None is_exact = is_exact ≡ true → count ≡ 0
JoinsSome conditions count places (Some mask) is_exact = Joins conditions count places mask is_exact

-- as many bits as in the next mask
pub as_long : (conditions : List Condition) (count : ℕ) (places : List Place) (found : Option (List Bool)) (is_exact : Bool) (mask : List Bool)
    → length mask ≡ length places → JoinsSome conditions count places found is_exact → IfSome found (λ one. length mask ≡ length one)
as_long conditions count places None is_exact mask many j = tt
as_long conditions count places (Some one) is_exact mask many j = many ∙ sym j.admits.many

-- with the mask of one condition more
pub joins_next : (conditions : List Condition) (count : ℕ) (c : Condition) (places : List Place) (found : Option (List Bool)) (mask now : List Bool) (is_exact : Bool)
    → count < length conditions → c ≡ get_or conditions count c → IfNone found (now ≡ mask) → IfSome found (λ one. now ≡ zip2 (λ bit bits. bit && bits) one mask)
    → Admits (c ∷ []) places mask → Confirms (c ∷ []) places mask → JoinsSome conditions count places found is_exact
    → Joins conditions (count + 1) places now is_exact
joins_next conditions count c places None mask now is_exact l is first both admits confirms j =
    subst (λ (bits : List Bool). Joins conditions (count + 1) places bits is_exact) (sym first) (record {
      admits = admits_among c conditions places mask (count, l, sym is) admits;
      confirms = λ exact place within e.
          let holds : Condition → Bool = λ pred. truth_of pred (nth places place).version.row in
          let here : holds c ≡ true = (and_parts (holds c) true (confirms place within e)).0 in
          list_all_more holds conditions count c l
          ∙ and_from (list_all holds (take count conditions)) (holds (get_or conditions count c)) (ap (λ (n : ℕ). list_all holds (take n conditions)) (j exact))
          (ap holds (sym is) ∙ here);
    })
joins_next conditions count c places (Some one) mask now is_exact l is first both admits confirms j =
    joins_more conditions count c places one mask now is_exact l is both admits confirms j

-- with a condition of which no mask tells
pub joins_inexact : (conditions : List Condition) (count : ℕ) (places : List Place) (found : Option (List Bool)) (is_exact : Bool)
    → JoinsSome conditions count places found is_exact → JoinsSome conditions (count + 1) places found false
joins_inexact conditions count places None is_exact j = λ exact. absurd (both_ways false refl exact)
joins_inexact conditions count places (Some mask) is_exact j = record {
  admits = j.admits;
  confirms = λ exact. absurd (both_ways false refl exact);
}

-- where there is no mask all bits are set
pub joins_full : (conditions : List Condition) (count : ℕ) (places : List Place) (is_exact : Bool) (many : ℕ) (mask : List Bool) → many ≡ length places
    → mask ≡ replicate many true → JoinsSome conditions count places None is_exact → Joins conditions count places mask is_exact
joins_full conditions count places is_exact many mask size is j = record {
  admits = full_admits conditions places many mask size is;
  confirms = λ exact. subst (λ (n : ℕ). Confirms (take n conditions) places mask) (sym (j exact)) (λ place l e. refl);
}

pub joins_all : (conditions : List Condition) (count : ℕ) (places : List Place) (mask : List Bool) (is_exact : Bool) → length conditions ≤ count
    → Joins conditions count places mask is_exact → is_exact ≡ true → Confirms conditions places mask
joins_all conditions count places mask is_exact l j exact =
    subst (λ (all : List Condition). Confirms all places mask) (take_all count conditions l) (j.confirms exact)

-- ---- what is barred is not wanted

conjunct_holds : (conditions : List Condition) (row : List Value) (c : Condition) → list_all (λ d. truth_of d row) conditions ≡ true → Contains conditions c
    → truth_of c row ≡ true
conjunct_holds [] row c e (k, l, is) = absurd (omega (arith, l))
conjunct_holds (d ∷ conditions) row c e (zero, l, is) =
    ap (λ (x : Condition). truth_of x row) (sym is) ∙ (and_parts (truth_of d row) (list_all (λ x. truth_of x row) conditions) e).0
conjunct_holds (d ∷ conditions) row c e (suc k, l, is) =
    conjunct_holds conditions row c (and_parts (truth_of d row) (list_all (λ x. truth_of x row) conditions) e).1 (k, omega (arith, l), is)

pub barred_pred : (pred : Condition) (place : Place) → BarsRow (conjuncts pred) place → truth_of pred place.version.row ≡ false
barred_pred pred place bars = false_from_ne_true (truth_of pred place.version.row) (λ e.
    both_ways (truth_of bars.pred place.version.row) bars.barred
    (conjunct_holds (conjuncts pred) place.version.row bars.pred (conjuncts_truth pred place.version.row ∙ e) bars.among))

barred_read : (pred : Condition) (keys : Option Keys) (row : List Value) → truth_of pred row ≡ false → is_read_of (conditions_of pred keys) row ≡ false
barred_read pred None row e = ap (λ (b : Bool). b || false) e
barred_read pred (Some keys) row e = sym (not_looked_up pred keys.column row keys.values.now e)

in_place_barred : (columns : ColMask) (pred : Condition) (keys : Option Keys) (place : Place) → BarsRow (conjuncts pred) place
    → kept_by columns (conditions_of pred keys) (in_place place) ≡ []
in_place_barred columns pred keys place bars = by place.version.live
  where
    by : (live : Bool) → kept_by columns (conditions_of pred keys) (cond live (Some place.version.row) None) ≡ []
    by true = ap (λ (b : Bool). cond b (projected columns place.version.row ∷ []) [])
        (barred_read pred keys place.version.row (barred_pred pred place bars))
    by false = refl

-- where no record is there and the row in place is barred, nothing is kept for any viewer
pub nothing_wanted : (columns : ColMask) (pred : Condition) (keys : Option Keys) (place : Place) → place.chain ≡ [] → BarsRow (conjuncts pred) place
    → (viewer : Viewer) → kept_by columns (conditions_of pred keys) (sees viewer place) ≡ []
nothing_wanted columns pred keys place none bars viewer =
    ap (λ (chain : List (Undo Image)). kept_by columns (conditions_of pred keys) (cell_of (seen before viewer place.version chain))) none
    ∙ in_place_barred columns pred keys place bars

-- a mask that admits and confirms says what the condition says
pub bit_is_truth : (pred : Condition) (places : List Place) (mask : List Bool) → Admits (conjuncts pred) places mask → Confirms (conjuncts pred) places mask
    → (place : ℕ) → place < length places → get_or mask place false ≡ truth_of pred (nth places place).version.row
bit_is_truth pred places mask admits confirms place l = by (get_or mask place false) refl
  where
    by : (b : Bool) → get_or mask place false ≡ b → get_or mask place false ≡ truth_of pred (nth places place).version.row
    by true is = is ∙ sym (sym (conjuncts_truth pred (nth places place).version.row) ∙ confirms place l is)
    by false is = is ∙ sym (barred_pred pred (nth places place) (admits.clear place l is))

-- of an answer
pub ok_weaker : {A E : Type 0} (r : Result A E) (P Q : A → Type 0) → ((x : A) → P x → Q x) → IfOk r P → IfOk r Q
ok_weaker (Err e) P Q f h = tt
ok_weaker (Ok x) P Q f h = f x h

-- of an option
pub some_then : {X : Type 0} {P Q : X → Type 0} (found : Option X) → ((x : X) → P x → Q x) → IfSome found P → IfSome found Q
some_then None f h = tt
some_then (Some x) f h = f x h

-- the type of a column that isn't there
pub past_end : (types : List Kind) (column : ℕ) (kind : Kind) → length types ≤ column → get_or types column kind ≡ kind
past_end [] zero kind l = refl
past_end [] (suc column) kind l = refl
past_end (type ∷ types) zero kind l = absurd (omega (arith, l))
past_end (type ∷ types) (suc column) kind l = past_end types column kind (omega (arith, l))

pub is_false : (b : Bool) → not b ≡ true → b ≡ false
is_false true e = absurd (both_ways false refl e)
is_false false e = refl
