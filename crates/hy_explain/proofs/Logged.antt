-- What a transaction logs is of the reads of its statements.
use Rattle.std.proofs.Common.{◌≡◌, ℕ, zero, suc, ◌+◌, ◌⊎◌, List, [], ◌∷◌, ◌++◌, Option, None, Some, Bool, true, false, cond, length, map, refl, ap, sym, ◌∙◌, subst, inl, inr, arith, zero-add}
use Rattle.std.specs.Prelude.{◌&&◌, ◌||◌, ◌==◌, nat_le, find, flat_map, drop, slice_get, slice_index_or}
use Rattle.std.specs.List.{range_with_len}
use Rattle.std.proofs.lemmas.Bool.{eq-eqb, or_cases, or_left, or_right}
use Rattle.std.proofs.lemmas.List.{length-append}
use Rattle.std.proofs.lemmas.List.FromFn.{length-map-range_with_len}
use Rattle.hy_value.specs.declared.Value.{Value}
use Rattle.hy_value.specs.declared.change.Change.{Change}
use Rattle.hy_bound.specs.declared.Bound.{Bound}
use Rattle.hy_bound.specs.declared.Bound.TheVariants.{Select, Group, Insert, Update, Delete, Savepoint, RollbackTo, Release}
use Rattle.hy_bound.specs.declared.On.{On}
use Rattle.hy_bound.specs.declared.Record.{Record}
use Rattle.hy_bound.specs.declared.Reply.{Reply}
use Rattle.hy_bound.specs.declared.Shape.{Shape}
use Rattle.hy_bound.specs.Condition.{Condition}
use Rattle.hy_bound.specs.Predicate.{column_of, truth_of, truth_at, changes_on}
use Rattle.hy_bound.specs.Records.{conjoined, is_hit, select_conditions, shape_of}
use Rattle.hy_bound.specs.Savepoints.{Saved, saved_after, value_after}
use Rattle.hy_bound.specs.Truths.{and_also_truth}
use Rattle.hy_meaning.specs.Statement.{Database, gathered_by, mean}
use Rattle.hy_meaning.specs.Serial.{database_back}
use Rattle.hy_plan.specs.declared.PlanPart.{PlanPart}
use Rattle.hy_plan.specs.declared.Read.{Read}
use Rattle.hy_plan.specs.ColumnSets.{named_columns}
use Rattle.hy_plan.specs.Plans.{part_of, parts_from, plan_for}
use Rattle.hy_plan.specs.Restrictions.{restriction}
use Rattle.hy_plan.specs.Reads.{by_key_of, columns_over, key_is_value, known_values_of, looked_up_column, most_keys, read_by_of, recorded, records_of, reads_from, rows_read_of, select_named, table_read_of}
use Rattle.hy_plan.specs.Reads as plan
use Rattle.hy_machine.specs.Tables.{Cell}
use Rattle.hy_replay.specs.BagLaws.{and_logged, logged_from}
use Rattle.hy_explain.specs.Reads.{is_hit_by, read_of_part, reads_by, reads_of}
use Rattle.hy_explain.proofs.Hits.{Has, and_left, and_right, and_both}

-- ---- items of lists that are made of others

has_either : {X : Type 0} (xs ys : List X) (x : X) → Has x (xs ++ ys) → Has x xs ⊎ Has x ys
has_either [] ys x h = inr h
has_either (y ∷ xs) ys x (inl is) = inl (inl is)
has_either (y ∷ xs) ys x (inr h) = by_case (has_either xs ys x h)
  where
    by_case : Has x xs ⊎ Has x ys → Has x (y ∷ xs) ⊎ Has x ys
    by_case (inl k) = inl (inr k)
    by_case (inr k) = inr k

record Pictured {X Y : Type 0} (f : X → Y) (xs : List X) (y : Y) : Type 0 where
  pub item : X
  pub has : Has item xs
  pub is : f item ≡ y

pictured : {X Y : Type 0} (f : X → Y) (xs : List X) (y : Y) → Has y (map f xs) → Pictured f xs y
pictured f [] y h = absurd h
pictured f (x ∷ xs) y (inl is) = record { item = x; has = inl refl; is = is }
pictured f (x ∷ xs) y (inr h) =
    let later = pictured f xs y h in
    record { item = later.item; has = inr later.has; is = later.is }

has_picture : {X Y : Type 0} (f : X → Y) (xs : List X) (x : X) → Has x xs → Has (f x) (map f xs)
has_picture f [] x h = absurd h
has_picture f (y ∷ xs) x (inl is) = inl (ap f is)
has_picture f (y ∷ xs) x (inr h) = inr (has_picture f xs x h)

-- an item that passes a test is found, or one before it
pub record FoundBy {X : Type 0} (test : X → Bool) (xs : List X) : Type 0 where
  pub item : X
  pub is : find test xs ≡ Some item
  pub passes : test item ≡ true

pub found_by : {X : Type 0} (test : X → Bool) (xs : List X) (x : X) → Has x xs → test x ≡ true → FoundBy test xs
found_by test [] x h passes = absurd h
found_by {X} test (y ∷ xs) x h passes = by_test (λ later. found_by test xs x later passes) (test y) refl h
  where
    found : (b : Bool) → test y ≡ b → FoundBy test xs → FoundBy test (y ∷ xs)
    found true is later = record { item = y; is = ap (λ (b : Bool). cond b (Some y) (find test xs)) is; passes = is }
    found false is later = record {
      item = later.item;
      is = ap (λ (b : Bool). cond b (Some y) (find test xs)) is ∙ later.is;
      passes = later.passes;
    }

    by_test : (Has x xs → FoundBy test xs) → (b : Bool) → test y ≡ b → (y ≡ x) ⊎ Has x xs → FoundBy test (y ∷ xs)
    by_test again true is k = record { item = y; is = ap (λ (c : Bool). cond c (Some y) (find test xs)) is; passes = is }
    by_test again false is (inl same) = let here : test y ≡ true = ap test same ∙ passes in absurd cc
    by_test again false is (inr later) = found false is (again later)

-- ---- the statement of a record

record FromRead (number : ℕ) (reads : List Read) (of : Record) : Type 0 where
  pub read : Read
  pub has : Has read reads
  pub condition : Condition
  pub among : Has condition read.conditions
  pub is : record { statement = number; table = read.table; pred = condition; columns = read.columns } ≡ of

from_read : (number : ℕ) (reads : List Read) (of : Record) → Has of (flat_map (recorded number) reads) → FromRead number reads of
from_read number [] of h = absurd h
from_read number (read ∷ reads) of h =
    by_case (λ later. from_read number reads of later) (has_either (recorded number read) (flat_map (recorded number) reads) of h)
  where
    by_case : (Has of (flat_map (recorded number) reads) → FromRead number reads of)
        → Has of (recorded number read) ⊎ Has of (flat_map (recorded number) reads) → FromRead number (read ∷ reads) of
    by_case again (inl k) =
        let one = pictured (λ (condition : Condition). record { statement = number; table = read.table; pred = condition; columns = read.columns }) read.conditions of k in
        record { read = read; has = inl refl; condition = one.item; among = one.has; is = one.is }
    by_case again (inr k) =
        let later = again k in
        record { read = later.read; has = inr later.has; condition = later.condition; among = later.among; is = later.is }

number_is : (shapes : List Shape) (number : ℕ) (statement : Bound) (gathered : List (List (List Value))) (of : Record)
    → Has of (records_of shapes number statement gathered) → of.statement ≡ number
number_is shapes number statement gathered of h =
    ap (λ (r : Record). r.statement) (sym (from_read number (plan.reads_of shapes statement gathered) of h).is)

-- a record is of one of these statements, the first of which has this number
pub record LoggedBy (shapes : List Shape) (first : ℕ) (statements : List Bound) (of : Record) : Type 0 where
  pub before : ℕ
  pub statement : Bound
  pub stands : slice_get statements before ≡ Some statement
  pub gathered : List (List (List Value))
  pub has : Has of (records_of shapes (first + before) statement gathered)

-- a record that the statements behind a statement log, which left these tables
abbrev IsLater : List Shape → List (Saved Database) → ℕ → Bound → List Bound → Record → Database → Type 0
IsLater shapes saved first statement statements of left =
    Has of (logged_from shapes (saved_after statement saved left) (suc first) statements (value_after database_back statement saved left))

pub logged_by_one : (shapes : List Shape) (saved : List (Saved Database)) (first : ℕ) (statements : List Bound) (db : Database) (of : Record)
    → Has of (logged_from shapes saved first statements db) → LoggedBy shapes first statements of
logged_by_one shapes saved first [] db of h = absurd h
logged_by_one shapes saved first (statement ∷ statements) db of h =
    by_answer (λ left later. logged_by_one shapes (saved_after statement saved left) (suc first) statements (value_after database_back statement saved left) of
    later) (mean shapes statement db) h
  where
    by_case : (left : Database) → (IsLater shapes saved first statement statements of left → LoggedBy shapes (suc first) statements of)
        → Has of (records_of shapes first statement (gathered_by statement db))
        ⊎ Has of (logged_from shapes (saved_after statement saved left) (suc first) statements (value_after database_back statement saved left))
        → LoggedBy shapes first (statement ∷ statements) of
    by_case left again (inl k) = record {
      before = zero;
      statement = statement;
      stands = refl;
      gathered = gathered_by statement db;
      has = subst (λ (n : ℕ). Has of (records_of shapes n statement (gathered_by statement db))) (let e : first ≡ first + zero = omega arith in e) k;
    }
    by_case left again (inr k) =
        let later = again k in
        record {
          before = suc later.before;
          statement = later.statement;
          stands = later.stands;
          gathered = later.gathered;
          has = subst (λ (n : ℕ). Has of (records_of shapes n later.statement later.gathered))
              (let e : suc first + later.before ≡ first + suc later.before = omega arith in e) later.has;
        }

    by_answer : ((left : Database) → IsLater shapes saved first statement statements of left → LoggedBy shapes (suc first) statements of)
        → (answer : Option (Reply × Database))
        → Has of (and_logged (records_of shapes first statement (gathered_by statement db)) answer
        (λ left. logged_from shapes (saved_after statement saved left) (suc first) statements (value_after database_back statement saved left)))
        → LoggedBy shapes first (statement ∷ statements) of
    by_answer again None k = absurd k
    by_answer again (Some given) k =
        by_case given.1 (again given.1) (has_either (records_of shapes first statement (gathered_by statement db))
        (logged_from shapes (saved_after statement saved given.1) (suc first) statements (value_after database_back statement saved given.1)) of k)

-- ---- the read of a record

-- a record asks no less than another one of its table and columns
pub record AsksNoLess (of other : Record) : Type 0 where
  pub table_is : other.table ≡ of.table
  pub columns_are : other.columns ≡ of.columns
  pub implies : (row : List Value) → truth_of of.pred row ≡ true → truth_of other.pred row ≡ true

-- some read of a statement is of a record
pub record HasRead (reads : List Record) (of : Record) : Type 0 where
  pub read : Record
  pub has : Has read reads
  pub less : AsksNoLess of read

front_implied : (c d : Condition) (row : List Value) → truth_of (conjoined c d) row ≡ true → truth_of c row ≡ true
front_implied c d row h = and_left (truth_of c row) (truth_of d row) (sym (and_also_truth c d row) ∙ h)

key_implied : (condition : Condition) (key : ℕ) (values : List Value) (c : Condition) → Has c (by_key_of condition key values) → (row : List Value)
    → truth_of c row ≡ true → truth_of condition row ≡ true
key_implied condition key values c h row holds = by_test (nat_le (length values) most_keys) h
  where
    by_test : (b : Bool) → Has c (cond b (map (λ value. conjoined condition (key_is_value key value)) values) (condition ∷ []))
        → truth_of condition row ≡ true
    by_test true k =
        let one = pictured (λ value. conjoined condition (key_is_value key value)) values c k in
        front_implied condition (key_is_value key one.item) row (ap (λ (d : Condition). truth_of d row) one.is ∙ holds)
    by_test false (inl is) = ap (λ (d : Condition). truth_of d row) is ∙ holds
    by_test false (inr k) = absurd k

implied : (condition : Condition) (key source : Option ℕ) (earlier : List (List Value)) (c : Condition) → Has c (read_by_of condition key source earlier)
    → (row : List Value) → truth_of c row ≡ true → truth_of condition row ≡ true
implied condition None source earlier c (inl is) row holds = ap (λ (d : Condition). truth_of d row) is ∙ holds
implied condition None source earlier c (inr k) row holds = absurd k
implied condition (Some key) None earlier c (inl is) row holds = ap (λ (d : Condition). truth_of d row) is ∙ holds
implied condition (Some key) None earlier c (inr k) row holds = absurd k
implied condition (Some key) (Some column) earlier c h row holds =
    key_implied condition key (known_values_of (slice_index_or earlier column [])) c h row holds

-- a part of a plan that reads no less
record HasPart (parts : List PlanPart) (read : Read) : Type 0 where
  pub part : PlanPart
  pub has : Has part parts
  pub table_is : part.table ≡ read.table
  pub columns_are : part.columns ≡ read.columns
  pub implies : (c : Condition) → Has c read.conditions → (row : List Value) → truth_of c row ≡ true → truth_of part.pred row ≡ true

-- how many columns there are behind those of a table
wider : (width : ℕ) (rows earlier : List (List Value)) (from : ℕ) → length earlier ≡ from → length (earlier ++ columns_over width rows) ≡ from + width
wider width rows earlier from size =
    length-append earlier (columns_over width rows)
    ∙ (λ j. size j + length-map-range_with_len (λ column. map (λ row. column_of row column) rows) 0 width j)

has_part : (shapes : List Shape) (conditions : List Condition) (named : List ℕ) (from : ℕ) (earlier : List (List Value)) (on : Option On) (ons : List On)
    (tables : List ℕ) (gathered : List (List (List Value))) (read : Read) → length earlier ≡ from
    → Has read (reads_from shapes conditions named earlier on ons tables gathered) → HasPart (parts_from shapes conditions named from on ons tables) read
has_part shapes conditions named from earlier on ons [] gathered read size h = absurd h
has_part shapes conditions named from earlier on ons (table ∷ tables) gathered read size (inl is) = record {
  part = part_of (shape_of shapes table) table (length earlier) on conditions named;
  has = inl (ap (λ (n : ℕ). part_of (shape_of shapes table) table n on conditions named) (sym size));
  table_is = ap (λ (r : Read). r.table) is;
  columns_are = ap (λ (r : Read). r.columns) is;
  implies = λ c k. implied (restriction (length earlier) (shape_of shapes table).width conditions) (shape_of shapes table).key
      (looked_up_column (shape_of shapes table).key (length earlier) on) earlier c
      (subst (λ (r : Read). Has c r.conditions) (sym is) k);
}
has_part shapes conditions named from earlier on ons (table ∷ tables) gathered read size (inr k) =
    let width : ℕ = (shape_of shapes table).width in
    let rows : List (List Value) =
    rows_read_of (table_read_of (shape_of shapes table) table on conditions named earlier) (slice_index_or gathered 0 []) in
    let later = has_part shapes conditions named (from + width) (earlier ++ columns_over width rows) (slice_get ons 0) (drop 1 ons) tables (drop 1 gathered) read
    (wider width rows earlier from size) k in
    record { part = later.part; has = inr later.has; table_is = later.table_is; columns_are = later.columns_are; implies = later.implies }

-- a record that a statement logs for itself
itself : (reads : List Record) (of : Record) → Has of reads → HasRead reads of
itself reads of h = record {
  read = of;
  has = h;
  less = record { table_is = refl; columns_are = refl; implies = λ row holds. holds };
}

-- a record that a statement logs is of one of its reads
pub has_read : (shapes : List Shape) (number : ℕ) (statement : Bound) (gathered : List (List (List Value))) (of : Record)
    → Has of (records_of shapes number statement gathered) → HasRead (reads_of shapes number (Some statement)) of
has_read shapes number (Select tables ons pred items) gathered of h =
    let conditions = select_conditions ons pred in
    let named = select_named ons pred items in
    let one = from_read number (reads_from shapes conditions named [] None ons tables gathered) of h in
    let part = has_part shapes conditions named 0 [] None ons tables gathered one.read refl one.has in
    record {
      read = read_of_part number part.part;
      has = has_picture (read_of_part number) (parts_from shapes conditions named 0 None ons tables) part.part part.has;
      less = record {
        table_is = part.table_is ∙ ap (λ (r : Record). r.table) one.is;
        columns_are = part.columns_are ∙ ap (λ (r : Record). r.columns) one.is;
        implies = λ row holds. part.implies one.condition one.among row (ap (λ (r : Record). truth_of r.pred row) one.is ∙ holds);
      };
    }
has_read shapes number (Group table pred key aggregate) gathered of h = itself (reads_of shapes number (Some (Group table pred key aggregate))) of h
has_read shapes number (Insert table row) gathered of h = itself (reads_of shapes number (Some (Insert table row))) of h
has_read shapes number (Update table sets pred) gathered of h = itself (reads_of shapes number (Some (Update table sets pred))) of h
has_read shapes number (Delete table pred) gathered of h = itself (reads_of shapes number (Some (Delete table pred))) of h
has_read shapes number (Savepoint name) gathered of h = itself (reads_of shapes number (Some (Savepoint name))) of h
has_read shapes number (RollbackTo name) gathered of h = itself (reads_of shapes number (Some (RollbackTo name))) of h
has_read shapes number (Release name) gathered of h = itself (reads_of shapes number (Some (Release name))) of h

-- ---- the read that a change hits

true_at : (of other : Record) → AsksNoLess of other → (cell : Cell) → truth_at of.pred cell ≡ true → truth_at other.pred cell ≡ true
true_at of other less None holds = absurd cc
true_at of other less (Some row) holds = less.implies row holds

-- what hits a record hits one that asks no less
pub hit_too : (of other : Record) → AsksNoLess of other → (before after : Cell) → is_hit of before after ≡ true → is_hit other before after ≡ true
hit_too of other less before after h =
    let seen = and_left (truth_at of.pred before || truth_at of.pred after) (changes_on of.columns before after) h in
    let changed = and_right (truth_at of.pred before || truth_at of.pred after) (changes_on of.columns before after) h in
    and_both (truth_at other.pred before || truth_at other.pred after) (changes_on other.columns before after)
    (by_case (or_cases (truth_at of.pred before) (truth_at of.pred after) seen))
    (ap (λ columns. changes_on columns before after) less.columns_are ∙ changed)
  where
    by_case : (truth_at of.pred before ≡ true) ⊎ (truth_at of.pred after ≡ true) → (truth_at other.pred before || truth_at other.pred after) ≡ true
    by_case (inl k) = or_left (truth_at other.pred before) (truth_at other.pred after) (true_at of other less before k)
    by_case (inr k) = or_right (truth_at other.pred before) (truth_at other.pred after) (true_at of other less after k)

-- the numbers of the statements of a transaction
pub number_of : (shapes : List Shape) (statements : List Bound) (of : Record) (logged : LoggedBy shapes 1 statements of) → of.statement ≡ suc logged.before
number_of shapes statements of logged =
    number_is shapes (1 + logged.before) logged.statement logged.gathered of logged.has ∙ (let e : 1 + logged.before ≡ suc logged.before = omega arith in e)
