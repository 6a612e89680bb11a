use Rattle.std.proofs.Common.{◌≡◌, [], get_or, ap, sym, ◌∙◌, arith, rules, to_z, of_z, w64}
use Rattle.std.specs.Prelude.{Bool, ℤ}
use Rattle.hy_value.specs.declared.Value.TheVariants.{Int}
use Rattle.hy_bound.specs.Predicate.{column_of}
use Rattle.hy_value.specs.Refs.{referred}
use Rattle.hy_plan.specs.Numbers.{number_or_null}
use Rattle.hy_plan.proofs.Picked.{even_more, number_picked}
use Rattle.hy_plan.proofs.column.push_numbers.Goals as goal
use Rattle.hy_plan.proofs.column.push_numbers.Goals.{in-Int, in-Null}

pub loop-index-preserved : goal.loop-index-preserved
loop-index-preserved g c =
    let rows = g.S.PlacedRows.rows c.args.source.now in
    let places = c.args.places.now in
    let i = c.loop-index.index in
    let pair = c.match-refer.number in
    let value : number_or_null pair.1 (to_z w64 (of_z w64 pair.0)) ≡ column_of (get_or rows (get_or places i 0) []) c.args.column =
    elim c.match-refer.branch [
      | in-Int w ↦
          let same : to_z w64 (of_z w64 w.in-Int.number) ≡ w.in-Int.number = search rules in
          ap (λ (p : ℤ × Bool). number_or_null p.1 (to_z w64 (of_z w64 p.0))) w.number-is
          ∙ (ap (λ (n : ℤ). Int (to_z w64 (of_z w64 n))) same ∙ (ap Int same ∙ (ap referred (sym w.in-Int.is) ∙ c.refer.ensures)))
      | in-Null w ↦ ap (λ (p : ℤ × Bool). number_or_null p.1 (to_z w64 (of_z w64 p.0))) w.number-is ∙ (ap referred (sym w.in-Null.is) ∙ c.refer.ensures)
    ] in
    record {
      even = even_more _ _ _ _ _ _ c.loop-index.invariant.even c.push_reserved.ensures.items c.push_reserved-in-loop-index.ensures.items;
      picked =
          number_picked rows places c.args.column i _ _ _ _ _ _ _ c.loop-index-test.true c.loop-index.invariant.even c.push_reserved.ensures.items c.push_reserved-in-loop-index.ensures.items value
          c.loop-index.invariant.picked;
      room = omega arith;
      marks = omega arith;
    }
