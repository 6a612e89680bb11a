use Rattle.std.proofs.Common.{[], ◌∷◌, ◌∙◌, Bool, List, Option, map, get_or, w64, rules}
use Rattle.std.specs.Prelude.{IfSome}
use Rattle.std.proofs.lemmas.Int.{to_z-of_z}
use Rattle.hy_value.specs.declared.Kind.TheVariants as kinds
use Rattle.hy_undo.specs.Places.{Place}
use Rattle.hy_column.specs.Compared.{column_compared}
use Rattle.hy_chunk.specs.Masked.{Admits, Confirms}
use Rattle.hy_chunk.proofs.Masking.{column_admits, column_confirms, ok_weaker}
use Rattle.hy_chunk.proofs.masks.admitted_by_one.Goals as goal

pub returns-in-Some-clause-admits : goal.returns-in-Some-clause-admits
returns-in-Some-clause-admits c =
    let places = c.args.positions.now.places in
    let kind = get_or c.args.positions.now.kinds c.in-Some.one.column kinds.Str in
    let one = c.in-Some.one in
    ok_weaker c.compare.result _ (λ (found : Option (List Bool)). IfSome found (λ mask. Admits (c.args.pred.now ∷ []) places mask))
    (λ found told. column_admits c.args.pred.now one.column one.op one.number places kind found c.in-Some.ensures
    (told ∙ (λ i. column_compared one.op (to_z-of_z w64 one.number (search rules) i) one.column (map (λ (p : Place). p.version.row) places) kind)))
    c.compare.ensures

pub returns-in-Some-clause-confirms : goal.returns-in-Some-clause-confirms
returns-in-Some-clause-confirms c =
    let places = c.args.positions.now.places in
    let kind = get_or c.args.positions.now.kinds c.in-Some.one.column kinds.Str in
    let one = c.in-Some.one in
    ok_weaker c.compare.result _ (λ (found : Option (List Bool)). IfSome found (λ mask. Confirms (c.args.pred.now ∷ []) places mask))
    (λ found told. column_confirms c.args.pred.now one.column one.op one.number places kind found c.in-Some.ensures
    (told ∙ (λ i. column_compared one.op (to_z-of_z w64 one.number (search rules) i) one.column (map (λ (p : Place). p.version.row) places) kind)))
    c.compare.ensures
