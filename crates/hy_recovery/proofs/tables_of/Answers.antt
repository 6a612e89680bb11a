use Rattle.std.proofs.Common.{◌≡◌, ◌⊎◌, inl, inr, ℕ, List, [], ◌∷◌, ◌++◌, map, sym, ◌∙◌, ap}
use Rattle.std.specs.Iterator.Adapters.{zip_first, zip_second}
use Rattle.std.specs.Slice.Iter.{iter_rest}
use Rattle.std.proofs.lemmas.List.{append-nil}
use Rattle.std.proofs.lemmas.Slice.Zip.{either_empty_from_Zip}
use Rattle.hy_value.specs.declared.Kind.{Kind}
use Rattle.hy_value.specs.declared.Value.{Value}
use Rattle.hy_log_record.specs.declared.HeldTable.{HeldTable}
use Rattle.hy_machine.specs.Tables.{Cell, laid_out}
use Rattle.hy_recovery.specs.Recovered.{held_tables}
use Rattle.hy_recovery.proofs.tables_of.Goals as goal

-- where no kinds are left, or no rows, the tables so far are all of them
all_made : (cells_of : List (List Value) → List Cell) (tables : List HeldTable) (kinds : List (List Kind)) (rows : List (List (List Value)))
    (all : List HeldTable) → (kinds ≡ []) ⊎ (rows ≡ []) → tables ++ held_tables kinds (map cells_of rows) ≡ all → tables ≡ all
all_made cells_of tables [] rows all ended e = sym (append-nil tables) ∙ e
all_made cells_of tables (one ∷ kinds) [] all ended e = sym (append-nil tables) ∙ e
all_made cells_of tables (one ∷ kinds) (table ∷ rows) all (inl h) e = cc
all_made cells_of tables (one ∷ kinds) (table ∷ rows) all (inr h) e = cc

pub returns : goal.returns
returns c =
    let left = c.loop-columns.columns-iterator in
    let ended = either_empty_from_Zip left c.next.new.self c.next.result c.in-None.is c.next.ensures.steps in
    let made = all_made (laid_out c.positions_of-positions.result) c.loop-columns.tables (iter_rest (zip_first left)) (iter_rest (zip_second left))
    _ ended c.loop-columns.invariant in
    made ∙ ap (λ (positions : ℕ). held_tables c.args.kinds.now (map (laid_out positions) c.args.setting.now.first)) c.positions_of-positions.ensures
