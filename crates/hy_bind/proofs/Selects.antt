-- SELECTs that are not refused fit their tables.
use Rattle.std.specs.List.{AllZip, range_with_len}
use Rattle.std.proofs.Common.{◌≡◌, ℕ, zero, suc, ◌+◌, ◌<◌, ◌≤◌, List, [], ◌∷◌, Option, None, map, length, take, get_or, refl, ap, subst, arith}
use Rattle.std.proofs.lemmas.Bool.{ltb-false}
use Rattle.std.proofs.lemmas.List.{length-map}
use Rattle.std.proofs.lemmas.List.Elements.{All-nil, All-cons, All-map, All-weaker}
use Rattle.hy_token.specs.declared.Span.{Span}
use Rattle.hy_schema.specs.declared.TableDef.{TableDef}
use Rattle.hy_ast.specs.declared.ColumnRef.{ColumnRef}
use Rattle.hy_ast.specs.declared.Join.{Join}
use Rattle.hy_ast.specs.declared.Listed.{Listed}
use Rattle.hy_ast.specs.declared.Listed.TheVariants as listing
use Rattle.hy_ast.specs.declared.Total.{Total}
use Rattle.hy_ast.specs.declared.Total.TheVariants as totals
use Rattle.hy_ast.specs.Trees.{Test}
use Rattle.hy_bound.specs.declared.On.{On}
use Rattle.hy_bound.specs.declared.Items.TheVariants.{Count}
use Rattle.hy_bound.specs.Records.{on_columns, columns_shown, columns_summed, shape_of}
use Rattle.hy_bound.specs.Fits.{LieWithin, joined_width, FitsSelect, FitsGroup}
use Rattle.hy_bind.specs.Refusals.{first_of}
use Rattle.hy_bind.specs.Scope.{Scope, total_width, column_of, column_fault}
use Rattle.hy_bind.specs.Conditions.{where_fault, where_bound}
use Rattle.hy_bind.specs.Shapes.{catalog_shapes}
use Rattle.hy_bind.specs.Statements.{in_scope, visible, join_fault, joins_fault, ons_bound, listed_fault, items_bound, from_fault, rows_fault, total_fault, total_bound, groups_fault, group_column_fault}
use Rattle.hy_bind.proofs.Causes.{neither, not_so, none_of_all}
use Rattle.hy_bind.proofs.Reach.{scope_width, column_within, one_within, none_within, where_within}
use Rattle.hy_bind.proofs.Named.{Names, as_many, all_there, all_differ, width_is, total_is}

-- ---- ON

as_many_ons : (scope : Scope) (count : ℕ) (joins : List Join) → length (ons_bound scope count joins) ≡ length joins
as_many_ons scope count [] = refl
as_many_ons scope count (join ∷ joins) = ap suc (as_many_ons scope (suc count) joins)

-- the columns of one ON are those of the tables that are visible there
join_within : (scope : Scope) (join : Join) → join_fault scope join ≡ None → LieWithin (scope_width scope) (on_columns (record { left = column_of scope join.left; right = column_of scope join.right }))
join_within scope join h =
    let parts = neither (column_fault scope join.left) (column_fault scope join.right) (neither _ _ h).0 in
    All-cons (λ (c : ℕ). c < scope_width scope) (column_of scope join.left) (column_of scope join.right ∷ []) (column_within scope join.left parts.0) (one_within (scope_width scope) (column_of scope join.right) (column_within scope join.right parts.1))

joins_within : (scope : Scope) (count number seen : ℕ) (joins : List Join) (d : On) → joins_fault scope count joins ≡ None → number + count ≡ seen → number < length (ons_bound scope count joins)
    → LieWithin (total_width scope.catalog (take seen scope.tables)) (on_columns (get_or (ons_bound scope count joins) number d))
joins_within scope count number seen [] d h e within = absurd (omega (arith, within))
joins_within scope count zero seen (join ∷ joins) d h e within =
    let same : count ≡ seen = omega (arith, e) in
    subst (λ n. LieWithin (total_width scope.catalog (take n scope.tables)) (on_columns (get_or (ons_bound scope count (join ∷ joins)) 0 d))) same
    (join_within (visible scope count) join (neither (join_fault (visible scope count) join) (joins_fault scope (suc count) joins) h).0)
joins_within scope count (suc number) seen (join ∷ joins) d h e within =
    joins_within scope (suc count) number seen joins d (neither (join_fault (visible scope count) join) (joins_fault scope (suc count) joins) h).1 (omega (arith, e)) (omega (arith, within))

-- ---- what is shown

range_within : (width from n : ℕ) → from + n ≤ width → LieWithin width (range_with_len from n)
range_within width from zero room = none_within width
range_within width from (suc n) room = All-cons (λ (c : ℕ). c < width) from (range_with_len (from + 1) n) (omega (arith, room)) (range_within width (from + 1) n (omega (arith, room)))

listed_within : (scope : Scope) (listed : Listed) → listed_fault scope listed ≡ None → LieWithin (scope_width scope) (columns_shown (items_bound scope listed))
listed_within scope listing.All h = range_within (scope_width scope) 0 (scope_width scope) (omega arith)
listed_within scope (listing.Sum reference) h = one_within (scope_width scope) (column_of scope reference) (column_within scope reference (neither _ _ h).0)
listed_within scope (listing.Columns references) h =
    All-map (λ (c : ℕ). c < scope_width scope) (column_of scope) references
    (All-weaker (λ (reference : ColumnRef). column_fault scope reference ≡ None) (λ (reference : ColumnRef). column_of scope reference < scope_width scope) (λ reference fine. column_within scope reference fine) references
    (none_of_all (column_fault scope) references h))

-- columns or a sum are no count
no_count : (scope : Scope) (listed : Listed) → items_bound scope listed ≡ Count → ⊥
no_count scope listing.All h = absurd cc
no_count scope (listing.Sum reference) h = absurd cc
no_count scope (listing.Columns references) h = absurd cc

-- ---- SELECT

-- columns within tables of the catalog, and within their shapes
pub at_shapes : (catalog : List TableDef) (tables columns : List ℕ) → LieWithin (total_width catalog tables) columns → LieWithin (joined_width (catalog_shapes catalog) tables) columns
at_shapes catalog tables columns h = subst (λ w. LieWithin w columns) (total_is catalog tables) h

-- the same of one table
one_width : (catalog : List TableDef) (table : ℕ) → total_width catalog (table ∷ []) ≡ (shape_of (catalog_shapes catalog) table).width
one_width catalog table = let one = width_is catalog table in omega (arith, one)

pub at_shape : (catalog : List TableDef) (table : ℕ) (columns : List ℕ) → LieWithin (total_width catalog (table ∷ [])) columns → LieWithin (shape_of (catalog_shapes catalog) table).width columns
at_shape catalog table columns h = subst (λ w. LieWithin w columns) (one_width catalog table) h

-- a SELECT of columns or of a sum
pub rows_fit : (script : List ℕ) (catalog : List TableDef) (numbers : List ℕ) (listed : Listed) (table : Span) (joins : List Join) (test : Option Test)
    → AllZip (Names script catalog) (table ∷ map (λ (join : Join). join.table) joins) numbers
    → rows_fault (in_scope script catalog numbers) (table ∷ map (λ (join : Join). join.table) joins) listed joins test ≡ None
    → FitsSelect (catalog_shapes catalog) numbers (ons_bound (in_scope script catalog numbers) 2 joins) (where_bound (in_scope script catalog numbers) test) (items_bound (in_scope script catalog numbers) listed)
rows_fit script catalog numbers listed table joins test named h =
    let scope : Scope = in_scope script catalog numbers in
    let spans : List Span = table ∷ map (λ (join : Join). join.table) joins in
    let parts = neither _ (first_of (listed_fault scope listed) (where_fault scope test)) h in
    let fronts = neither (from_fault scope spans) (joins_fault scope 2 joins) parts.0 in
    let names = neither _ _ fronts.0 in
    let items = neither (listed_fault scope listed) (where_fault scope test) parts.1 in
    let many = as_many script catalog spans numbers named in
    let joined = length-map joins (λ (join : Join). join.table) in
    let ons = as_many_ons scope 2 joins in
    let four = ltb-false 4 (length spans) (not_so _ _ names.1) in
    record {
      many = omega (arith, many, joined, ons);
      few = omega (arith, many, four);
      there = all_there script catalog spans numbers named;
      differ = all_differ script catalog spans numbers named (not_so _ _ names.0);
      joins = λ number d within. at_shapes catalog (take (number + 2) numbers) (on_columns (get_or (ons_bound scope 2 joins) number d)) (joins_within scope 2 number (number + 2) joins d fronts.1 refl within);
      filter = at_shapes catalog numbers _ (where_within scope test items.1);
      shown = at_shapes catalog numbers _ (listed_within scope listed items.0);
      counts_one = λ is. absurd (no_count scope listed is);
    }

-- a SELECT of a count
pub count_fits : (script : List ℕ) (catalog : List TableDef) (number : ℕ) (test : Option Test) → number < length (catalog_shapes catalog) → where_fault (in_scope script catalog (number ∷ [])) test ≡ None
    → FitsSelect (catalog_shapes catalog) (number ∷ []) [] (where_bound (in_scope script catalog (number ∷ [])) test) Count
count_fits script catalog number test there h =
    record {
      many = refl;
      few = omega arith;
      there = All-cons (λ (n : ℕ). n < length (catalog_shapes catalog)) number [] there (All-nil (λ (n : ℕ). n < length (catalog_shapes catalog)));
      differ = λ i j d before within. absurd (omega (arith, before, within));
      joins = λ n d within. absurd (omega (arith, within));
      filter = at_shapes catalog (number ∷ []) _ (where_within (in_scope script catalog (number ∷ [])) test h);
      shown = none_within (joined_width (catalog_shapes catalog) (number ∷ []));
      counts_one = λ _. refl;
    }

total_within : (scope : Scope) (total : Total) → total_fault scope total ≡ None → LieWithin (scope_width scope) (columns_summed (total_bound scope total))
total_within scope totals.Count h = none_within (scope_width scope)
total_within scope (totals.Sum reference) h = one_within (scope_width scope) (column_of scope reference) (column_within scope reference (neither _ _ h).0)

-- a SELECT with GROUP BY
pub group_fits : (script : List ℕ) (catalog : List TableDef) (number : ℕ) (column : ColumnRef) (total : Total) (test : Option Test) (key : ColumnRef)
    → groups_fault (in_scope script catalog (number ∷ [])) column total test key ≡ None
    → FitsGroup (shape_of (catalog_shapes catalog) number) (where_bound (in_scope script catalog (number ∷ [])) test) (column_of (in_scope script catalog (number ∷ [])) key) (total_bound (in_scope script catalog (number ∷ [])) total)
group_fits script catalog number column total test key h =
    let scope : Scope = in_scope script catalog (number ∷ []) in
    let parts = neither (group_column_fault scope column key) (first_of (total_fault scope total) (where_fault scope test)) h in
    let columns = neither (column_fault scope column) (column_fault scope key) (neither _ _ parts.0).0 in
    let others = neither (total_fault scope total) (where_fault scope test) parts.1 in
    let within = column_within scope key columns.1 in
    let width = one_width catalog number in
    record {
      grouped = omega (arith, within, width);
      summed = at_shape catalog number _ (total_within scope total others.0);
      filter = at_shape catalog number _ (where_within scope test others.1);
    }
