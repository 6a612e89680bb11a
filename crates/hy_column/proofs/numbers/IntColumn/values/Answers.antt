use Rattle.std.proofs.Common.{length, sym, ap, ◌∙◌, get_or, None, Option, List, ℤ, pos}
use Rattle.hy_column.proofs.NumberLists.{length_numbers, value_there}
use Rattle.hy_column.proofs.numbers.IntColumn.values.Goals as goal

pub returns-clause-size : goal.returns-clause-size
returns-clause-size c =
    ap length c.as_slice.ensures.value ∙ (sym (length_numbers c.self.inside.values.items c.self.inside.nulls c.self.invariant.same) ∙ ap length c.self.view_is)

pub returns-clause-each : goal.returns-clause-each
returns-clause-each c = λ place number h.
    ap (λ (xs : List ℤ). get_or xs place (pos 0)) c.as_slice.ensures.value
    ∙ value_there c.self.inside.values.items c.self.inside.nulls place number c.self.invariant.same (ap (λ (xs : List (Option ℤ)). get_or xs place None) c.self.view_is ∙ h)
