-- What is gathered when all chunks are visited is what is looked up in the tables.
use Rattle.std.proofs.Common.{◌≡◌, ℕ, ◌+◌, ◌*◌, ◌<◌, ◌≤◌, List, [], length, map, take, get_or, Option, None, Some, sym, ap, ◌∙◌, arith, subst}
use Rattle.std.specs.Prelude.{slice_get, filter, ◌&&◌}
use Rattle.std.proofs.lemmas.List.{append-nil, take_all, length-take-le}
use Rattle.std.proofs.lemmas.Option.{slice_get_within}
use Rattle.hy_value.specs.declared.Value.{Value}
use Rattle.hy_bound.specs.Changes.{present}
use Rattle.hy_bound.specs.Condition.{Condition}
use Rattle.hy_bound.specs.Predicate.{truth_of}
use Rattle.hy_bound.specs.Projection.{projected}
use Rattle.hy_meaning.specs.Statement.{Table}
use Rattle.hy_plan.specs.declared.Lookup.{Lookup}
use Rattle.hy_plan.specs.declared.PlanPart.{PlanPart}
use Rattle.hy_plan.specs.Reads.{is_read_of}
use Rattle.hy_gathered.specs.Answers.{spread_all}
use Rattle.hy_laws.specs.Lookups.{is_wanted, is_gathered, gathered_for}
use Rattle.hy_laws.specs.Turns.{columns_gathered}
use Rattle.hy_laws.specs.Wanted.{ReadIsWanted}
use Rattle.hy_undo.specs.Places.{Cell}
use Rattle.hy_event.specs.Gathering.{joined_columns, conditions_by}
use Rattle.hy_machine.specs.declared.Setting.{Setting}
use Rattle.hy_machine.specs.Tables.{Tables, capacity}
use Rattle.hy_refinement.specs.Sessions.{rows_taken}
use Rattle.hy_refinement.proofs.FramesGathers.{whole, whole_at, whole_length}
use Rattle.hy_refinement.proofs.FramesColumns.{AreLookedUpEarlier, conditions_same}
use Rattle.hy_refinement.proofs.FramesLists.{filter_same}

-- a row is read by the conditions of a part where the part gathers it
read_is_gathered : (wanted : ReadIsWanted) (part : PlanPart) (columns : List (List Value)) (row : List Value)
    → is_read_of (conditions_by part.pred part.lookup columns) row ≡ is_gathered part columns row
read_is_gathered wanted part columns row = by part.lookup
  where
    by : (lookup : Option Lookup) → is_read_of (conditions_by part.pred lookup columns) row ≡ (truth_of part.pred row && is_wanted lookup columns row)
    by None = wanted part.pred None None columns row
    by (Some one) = wanted part.pred (Some one.key) (Some one.source) columns row

module _ (wanted : ReadIsWanted) (setting : Setting) (tables : Tables) (parts : List PlanPart) (early : AreLookedUpEarlier parts)
    (some : 0 < setting.chunks) (most : (table : ℕ) → length (get_or tables table []) ≤ capacity setting) where
  abbrev all : List Table
  all = whole setting tables parts [] parts

  -- the rows that a part takes of its whole table
  rows_whole : (turn : ℕ) (part : PlanPart) → slice_get parts turn ≡ Some part
      → rows_taken setting tables parts setting.chunks (take turn all) part
      ≡ gathered_for part (columns_gathered (take turn parts) (take turn all)) (present (get_or tables part.table []))
  rows_whole turn part e =
      let earlier : List Table = take turn all in
      let cells : List Cell = get_or tables part.table [] in
      let within = slice_get_within parts turn part e in
      let count = whole_length setting tables parts [] parts some in
      let long : length earlier ≡ turn = length-take-le turn all (omega (arith, within, count)) in
      let conditions : conditions_by part.pred part.lookup (joined_columns parts (spread_all parts earlier))
      ≡ conditions_by part.pred part.lookup (columns_gathered (take turn parts) earlier) =
      conditions_same parts earlier [] earlier part early (ap (slice_get parts) long ∙ e) (sym (append-nil earlier))
      ∙ ap (λ (n : ℕ). conditions_by part.pred part.lookup (columns_gathered (take n parts) earlier)) long in
      let at_most = most part.table in
      ap (λ (taken : List Cell). map (projected part.columns) (filter (is_read_of (conditions_by part.pred part.lookup
      (joined_columns parts (spread_all parts earlier)))) (present taken))) (take_all (setting.chunks * setting.rows) cells at_most)
      ∙ (ap (λ (asked : List Condition). map (projected part.columns) (filter (is_read_of asked) (present cells))) conditions
      ∙ ap (map (projected part.columns))
      (filter_same (is_read_of (conditions_by part.pred part.lookup (columns_gathered (take turn parts) earlier)))
      (is_gathered part (columns_gathered (take turn parts) earlier)) (present cells)
      (λ row. read_is_gathered wanted part (columns_gathered (take turn parts) earlier) row)))

  pub gathered_in_turn : (turn : ℕ) (part : PlanPart) → slice_get parts turn ≡ Some part
      → slice_get all turn ≡ Some (gathered_for part (columns_gathered (take turn parts) (take turn all)) (present (get_or tables part.table [])))
  gathered_in_turn turn part e =
      let none : 0 + turn ≡ turn = omega arith in
      subst (λ (n : ℕ). slice_get all n ≡ Some (rows_taken setting tables parts setting.chunks (take n all) part)) none
      (whole_at setting tables parts [] parts turn part some e)
      ∙ ap (λ (rows : Table). Some rows) (rows_whole turn part e)
