-- The parts of a SELECT's plan: their tables, and that each look-up is by a column of a part before it.
use Rattle.std.proofs.Common.{◌≡◌, ℕ, zero, suc, ◌+◌, ◌<◌, List, [], ◌∷◌, length, map, take, drop, get_or, Option, None, Some, Bool, true, false, cond}
use Rattle.std.proofs.Common.{refl, sym, ap, ◌∙◌, arith}
use Rattle.std.specs.Prelude.{slice_get, ◌==◌, ◌&&◌, nat_lt}
use Rattle.std.proofs.lemmas.Bool.{and_parts, ltb-true}
use Rattle.std.proofs.lemmas.Option.{same_Some}
use Rattle.hy_bound.specs.declared.On.{On}
use Rattle.hy_bound.specs.declared.Shape.{Shape}
use Rattle.hy_bound.specs.Condition.{Condition}
use Rattle.hy_bound.specs.Records.{shape_of}
use Rattle.hy_meaning.specs.Statement.{Table}
use Rattle.hy_plan.specs.declared.Lookup.{Lookup}
use Rattle.hy_plan.specs.declared.PlanPart.{PlanPart}
use Rattle.hy_plan.specs.Plans.{lookup_of, part_of, parts_from}
use Rattle.hy_plan.specs.Reads.{looked_up_column}
use Rattle.hy_refinement.proofs.FramesColumns.{widths}

-- ---- look-ups

one_of_two : (key from x y : ℕ) (a b : Bool) (lookup : Lookup) → (a ≡ true → x < from) → (b ≡ true → y < from)
    → lookup_of (Some key) (cond a (Some x) (cond b (Some y) None)) ≡ Some lookup → lookup.source < from
one_of_two key from x y true b lookup first second e =
    let one : Lookup = record { key = key; source = x } in
    let same : x ≡ lookup.source = ap (λ (it : Lookup). it.source) (same_Some one lookup e) in
    let less = first refl in
    omega (arith, less, same)
one_of_two key from x y false true lookup first second e =
    let one : Lookup = record { key = key; source = y } in
    let same : y ≡ lookup.source = ap (λ (it : Lookup). it.source) (same_Some one lookup e) in
    let less = second refl in
    omega (arith, less, same)
one_of_two key from x y false false lookup first second e = absurd cc

-- a look-up's column is of an earlier table
source_below : (key : Option ℕ) (from : ℕ) (on : Option On) (lookup : Lookup) → lookup_of key (looked_up_column key from on) ≡ Some lookup
    → lookup.source < from
source_below None from on lookup e = absurd cc
source_below (Some key) from None lookup e = absurd cc
source_below (Some key) from (Some on) lookup e =
    one_of_two key from on.right on.left (on.left == from + key && nat_lt on.right from) (on.right == from + key && nat_lt on.left from) lookup
    (λ f. ltb-true on.right from (and_parts (on.left == from + key) (nat_lt on.right from) f).1)
    (λ f. ltb-true on.left from (and_parts (on.right == from + key) (nat_lt on.left from) f).1) e

pub sources_before : (shapes : List Shape) (conditions : List Condition) (named : List ℕ) (from : ℕ) (on : Option On) (ons : List On) (tables : List ℕ)
    (turn : ℕ) (part : PlanPart) (lookup : Lookup) → slice_get (parts_from shapes conditions named from on ons tables) turn ≡ Some part
    → part.lookup ≡ Some lookup → lookup.source < from + widths (take turn (parts_from shapes conditions named from on ons tables))
sources_before shapes conditions named from on ons [] turn part lookup e looks = absurd cc
sources_before shapes conditions named from on ons (table ∷ tables) zero part lookup e looks =
    let one : PlanPart = part_of (shape_of shapes table) table from on conditions named in
    let less = source_below (shape_of shapes table).key from on lookup (ap (λ (it : PlanPart). it.lookup) (same_Some one part e) ∙ looks) in
    omega (arith, less)
sources_before shapes conditions named from on ons (table ∷ tables) (suc turn) part lookup e looks =
    let later = sources_before shapes conditions named (from + (shape_of shapes table).width) (slice_get ons 0) (drop 1 ons) tables turn part lookup e looks in
    omega (arith, later)

-- ---- tables

pub part_table : (shapes : List Shape) (conditions : List Condition) (named : List ℕ) (from : ℕ) (on : Option On) (ons : List On) (tables : List ℕ)
    (turn : ℕ) (part : PlanPart) → slice_get (parts_from shapes conditions named from on ons tables) turn ≡ Some part → part.table ≡ get_or tables turn 0
part_table shapes conditions named from on ons [] turn part e = absurd cc
part_table shapes conditions named from on ons (table ∷ tables) zero part e =
    let one : PlanPart = part_of (shape_of shapes table) table from on conditions named in
    ap (λ (it : PlanPart). it.table) (sym (same_Some one part e))
part_table shapes conditions named from on ons (table ∷ tables) (suc turn) part e =
    part_table shapes conditions named (from + (shape_of shapes table).width) (slice_get ons 0) (drop 1 ons) tables turn part e

pub part_rows : (shapes : List Shape) (conditions : List Condition) (named : List ℕ) (from : ℕ) (on : Option On) (ons : List On) (tables : List ℕ)
    (rows_of : ℕ → Table) (turn : ℕ) (part : PlanPart) (rows : Table) → slice_get (parts_from shapes conditions named from on ons tables) turn ≡ Some part
    → slice_get (map rows_of tables) turn ≡ Some rows → rows ≡ rows_of part.table
part_rows shapes conditions named from on ons [] rows_of turn part rows e f = absurd cc
part_rows shapes conditions named from on ons (table ∷ tables) rows_of zero part rows e f =
    let one : PlanPart = part_of (shape_of shapes table) table from on conditions named in
    sym (same_Some (rows_of table) rows f) ∙ ap (λ (it : PlanPart). rows_of it.table) (same_Some one part e)
part_rows shapes conditions named from on ons (table ∷ tables) rows_of (suc turn) part rows e f =
    part_rows shapes conditions named (from + (shape_of shapes table).width) (slice_get ons 0) (drop 1 ons) tables rows_of turn part rows e f

pub parts_count : (shapes : List Shape) (conditions : List Condition) (named : List ℕ) (from : ℕ) (on : Option On) (ons : List On) (tables : List ℕ)
    → length (parts_from shapes conditions named from on ons tables) ≡ length tables
parts_count shapes conditions named from on ons [] = refl
parts_count shapes conditions named from on ons (table ∷ tables) =
    let e = parts_count shapes conditions named (from + (shape_of shapes table).width) (slice_get ons 0) (drop 1 ons) tables in
    omega (arith, e)
