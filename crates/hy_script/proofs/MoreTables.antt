-- What fits tables fits them with more tables behind.
use Rattle.std.specs.List.{All}
use Rattle.std.proofs.Common.{◌≡◌, ℕ, ◌+◌, ◌<◌, List, [], ◌∷◌, ◌++◌, length, take, get_or, refl, sym, ap, subst, arith}
use Rattle.std.proofs.lemmas.List.{get_or_append_left, length-append}
use Rattle.std.proofs.lemmas.List.Elements.{All-head, All-tail, All-take, All-weaker}
use Rattle.std.proofs.lemmas.List.Sums.{sum_by-cons}
use Rattle.hy_bound.specs.declared.Bound.{Bound}
use Rattle.hy_bound.specs.declared.Bound.TheVariants.{Select, Group, Insert, Update, Delete, Savepoint, RollbackTo, Release}
use Rattle.hy_bound.specs.declared.Items.{Items}
use Rattle.hy_bound.specs.declared.On.{On}
use Rattle.hy_bound.specs.declared.Shape.{Shape}
use Rattle.hy_bound.specs.declared.Txn.{Txn}
use Rattle.hy_bound.specs.Condition.{Condition}
use Rattle.hy_bound.specs.Records.{no_shape, shape_of, columns_of, columns_shown, on_columns}
use Rattle.hy_bound.specs.Fits.{LieWithin, joined_width, FitsSelect, FitsGroup, FitsInsert, FitsUpdate, FitsStatement, FitsTxn, FitsSession}

-- a table that is there keeps its shape
shape_kept : (shapes more : List Shape) (table : ℕ) → table < length shapes → shape_of (shapes ++ more) table ≡ shape_of shapes table
shape_kept shapes more table there = get_or_append_left shapes more no_shape table there

still_there : (shapes more : List Shape) (table : ℕ) → table < length shapes → table < length (shapes ++ more)
still_there shapes more table there = let many = length-append shapes more in omega (arith, there, many)

-- tables that are there keep their columns
width_kept : (shapes more : List Shape) (tables : List ℕ) → All (λ table. table < length shapes) tables → joined_width (shapes ++ more) tables ≡ joined_width shapes tables
width_kept shapes more [] there = refl
width_kept shapes more (table ∷ tables) there =
    let one = ap (λ (shape : Shape). shape.width) (shape_kept shapes more table (All-head (λ (t : ℕ). t < length shapes) table tables there)) in
    let rest = width_kept shapes more tables (All-tail (λ (t : ℕ). t < length shapes) table tables there) in
    let after = sum_by-cons (λ (t : ℕ). (shape_of (shapes ++ more) t).width) table tables in
    let before = sum_by-cons (λ (t : ℕ). (shape_of shapes t).width) table tables in
    omega (arith, one, rest, after, before)

within_kept : (shapes more : List Shape) (tables columns : List ℕ) → All (λ table. table < length shapes) tables → LieWithin (joined_width shapes tables) columns → LieWithin (joined_width (shapes ++ more) tables) columns
within_kept shapes more tables columns there h = subst (λ w. LieWithin w columns) (sym (width_kept shapes more tables there)) h

select_kept : (shapes more : List Shape) (tables : List ℕ) (ons : List On) (pred : Condition) (items : Items) → FitsSelect shapes tables ons pred items → FitsSelect (shapes ++ more) tables ons pred items
select_kept shapes more tables ons pred items fits = record {
  many = fits.many;
  few = fits.few;
  there = All-weaker (λ (t : ℕ). t < length shapes) (λ (t : ℕ). t < length (shapes ++ more)) (still_there shapes more) tables fits.there;
  differ = fits.differ;
  joins = λ number d within.
      within_kept shapes more (take (number + 2) tables) (on_columns (get_or ons number d)) (All-take (λ (t : ℕ). t < length shapes) (number + 2) tables fits.there)
      (fits.joins number d within);
  filter = within_kept shapes more tables (columns_of pred) fits.there fits.filter;
  shown = within_kept shapes more tables (columns_shown items) fits.there fits.shown;
  counts_one = fits.counts_one;
}

one_kept : (shapes more : List Shape) (table : ℕ) (P : Shape → Type 0) → (table < length shapes) × P (shape_of shapes table) → (table < length (shapes ++ more)) × P (shape_of (shapes ++ more) table)
one_kept shapes more table P h = (still_there shapes more table h.0, subst P (sym (shape_kept shapes more table h.0)) h.1)

statement_kept : (shapes more : List Shape) (s : Bound) → FitsStatement shapes s → FitsStatement (shapes ++ more) s
statement_kept shapes more (Select tables ons pred items) fits = select_kept shapes more tables ons pred items fits
statement_kept shapes more (Group table pred key aggregate) fits = one_kept shapes more table (λ shape. FitsGroup shape pred key aggregate) fits
statement_kept shapes more (Insert table row) fits = one_kept shapes more table (λ shape. FitsInsert shape row) fits
statement_kept shapes more (Update table sets pred) fits = one_kept shapes more table (λ shape. FitsUpdate shape sets pred) fits
statement_kept shapes more (Delete table pred) fits = one_kept shapes more table (λ shape. LieWithin shape.width (columns_of pred)) fits
statement_kept shapes more (Savepoint name) fits = tt
statement_kept shapes more (RollbackTo name) fits = tt
statement_kept shapes more (Release name) fits = tt

-- statements that fit tables fit them with more tables behind
pub statements_kept : (shapes more : List Shape) (statements : List Bound) → All (FitsStatement shapes) statements → All (FitsStatement (shapes ++ more)) statements
statements_kept shapes more statements fit = All-weaker (FitsStatement shapes) (FitsStatement (shapes ++ more)) (statement_kept shapes more) statements fit

txn_kept : (shapes more : List Shape) (txn : Txn) → FitsTxn shapes txn → FitsTxn (shapes ++ more) txn
txn_kept shapes more txn fits = record { few = fits.few; fit = statements_kept shapes more txn.statements fits.fit; stand = fits.stand; savepoints = fits.savepoints }

-- sessions do too
pub session_kept : (shapes more : List Shape) (txns : List Txn) → FitsSession shapes txns → FitsSession (shapes ++ more) txns
session_kept shapes more txns fits = record { few = fits.few; fit = All-weaker (FitsTxn shapes) (FitsTxn (shapes ++ more)) (txn_kept shapes more) txns fits.fit }
