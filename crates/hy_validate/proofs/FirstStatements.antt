-- The statement of the first record that is hit, and what is absent before and after.
use Rattle.std.proofs.Common.{◌≡◌, ℕ, suc, ◌+◌, ◌<◌, List, [], ◌∷◌, length, refl, sym, ap, ◌∙◌, cond, arith}
use Rattle.std.specs.Prelude.{Bool, true, false, ◌||◌, ◌==◌, Option, None, Some, is_some, filter, slice_get}
use Rattle.std.specs.Option.{option_or, option_map, option_map_or}
use Rattle.std.specs.List.{position_from}
use Rattle.std.proofs.lemmas.Bool.{and_right}
use Rattle.std.proofs.lemmas.Iterator.Adapters.{position_from-zero}
use Rattle.hy_value.specs.declared.Value.{Value}
use Rattle.hy_bound.specs.declared.Record.{Record}
use Rattle.hy_value.specs.declared.change.Change.{Change}
use Rattle.hy_stamp.specs.declared.Label.{Label}
use Rattle.hy_validate.specs.TreeHits.{is_hit_by, first_hit_of}
use Rattle.hy_validate.specs.declared.Invalid.{Invalid}
use Rattle.hy_validate.specs.Hits.{invalid_by, change_hit, hit_among}
use Rattle.hy_notes.specs.Notes.{is_change}
use Rattle.hy_validate.specs.Statements.{statement_at, statement_hit}

abbrev statement_of : Record → ℕ
statement_of of = of.statement

-- the statement of the first record that is hit, where f tells the statements by their numbers from i on
first_from : (change : Change) (f : ℕ → ℕ) (i : ℕ) (records : List Record)
    → ((k : ℕ) → k < length records → f (i + k) ≡ option_map_or statement_of (slice_get records k) 0)
    → option_map f (position_from (is_hit_by change) i records) ≡ statement_hit records change
first_from change f i [] h = refl
first_from change f i (of ∷ others) h = by (λ g. first_from change f (i + 1) others g) (is_hit_by change of)
  where
    here : f i ≡ of.statement
    here = let e : i ≡ i + 0 = omega arith in ap f e ∙ h 0 (omega arith)

    there : (k : ℕ) → k < length others → f (i + 1 + k) ≡ option_map_or statement_of (slice_get others k) 0
    there k l = let e : i + 1 + k ≡ i + suc k = omega arith in ap f e ∙ h (suc k) (omega arith)

    by : (((k : ℕ) → k < length others → f (i + 1 + k) ≡ option_map_or statement_of (slice_get others k) 0)
        → option_map f (position_from (is_hit_by change) (i + 1) others) ≡ statement_hit others change)
        → (b : Bool) → option_map f (cond b (Some i) (position_from (is_hit_by change) (i + 1) others))
        ≡ cond b (Some of.statement) (statement_hit others change)
    by later true = ap (λ (n : ℕ). Some n) here
    by later false = later there

-- the first record that a change hits is of the first statement that it hits
pub statements_first : (records : List Record) (change : Change)
    → option_map (statement_at records) (first_hit_of records change) ≡ statement_hit records change
statements_first records change =
    ap (option_map (statement_at records)) (position_from-zero (is_hit_by change) records)
    ∙ first_from change (statement_at records) 0 records (λ k l. let e : 0 + k ≡ k = omega arith in ap (statement_at records) e)

abbrev at_place : ℕ → ℕ → Option (List Value) → Option (List Value) → Change
at_place table pos before after = record { table = table; pos = pos; before = before; after = after }

-- what is absent before and after hits no record
absent_is_no_hit : (records : List Record) (table pos i : ℕ)
    → position_from (is_hit_by (at_place table pos None None)) i records ≡ None
absent_is_no_hit [] table pos i = refl
absent_is_no_hit (of ∷ others) table pos i =
    ap (λ (b : Bool). cond b (Some i) (position_from (is_hit_by (at_place table pos None None)) (i + 1) others))
    (and_right (of.table == table) false refl)
    ∙ absent_is_no_hit others table pos (i + 1)

-- so a change hits as it did where those of no row are left out
one_change : (records : List Record) (other : Label) (table pos : ℕ) (before after : Option (List Value)) (rest kept : Option Invalid) → rest ≡ kept
    → cond (is_some before || is_some after) (option_or (change_hit records other (at_place table pos before after)) rest) rest
    ≡ option_or (change_hit records other (at_place table pos before after)) kept
one_change records other table pos None None rest kept e =
    e ∙ ap (λ (o : Option ℕ). option_or (option_map (invalid_by other (at_place table pos None None)) o) kept)
    (sym (position_from-zero (is_hit_by (at_place table pos None None)) records ∙ absent_is_no_hit records table pos 0))
one_change records other table pos None (Some row) rest kept e = ap (option_or (change_hit records other (at_place table pos None (Some row)))) e
one_change records other table pos (Some row) after rest kept e = ap (option_or (change_hit records other (at_place table pos (Some row) after))) e

-- the hit among changes, at one whose row is there or not
pub rows_alone : (records : List Record) (other : Label) (changes : List Change)
    → hit_among records other (filter is_change changes) ≡ hit_among records other changes
rows_alone records other [] = refl
rows_alone records other (change ∷ changes) =
    among (is_change change) ∙ one_change records other change.table change.pos change.before change.after _ _ (rows_alone records other changes)
  where
    among : (b : Bool) → hit_among records other (cond b (change ∷ filter is_change changes) (filter is_change changes))
        ≡ cond b (option_or (change_hit records other change) (hit_among records other (filter is_change changes)))
        (hit_among records other (filter is_change changes))
    among true = refl
    among false = refl
