use Rattle.std.proofs.Common.{◌≡◌, length, get_or, ap, sym, ◌∙◌, arith, rules, pos, to_z, of_z, w64, false}
use Rattle.hy_value.specs.declared.Value.TheVariants.{Int}
use Rattle.hy_bound.specs.Predicate.{column_of}
use Rattle.hy_plan.specs.Numbers.{number_or_null}
use Rattle.hy_plan.proofs.Numbers.{among_numbers, among_others, length-column}
use Rattle.hy_plan.proofs.column.Column.refer.Goals as goal

pub index-requires : goal.index-requires
index-requires c =
    omega (arith, c.requires, c.if-index-len.true, c.len-then-index-len.ensures, c.len.ensures, length-column c.self.inside.numbers.items c.self.inside.nulls.items c.self.inside.others.items, ap length c.self.view_is)

pub returns-then-index-len : goal.returns-then-index-len
returns-then-index-len c =
    c.refer.ensures
    ∙ (among_others c.self.inside.numbers.items c.self.inside.nulls.items c.self.inside.others.items c.args.index _ c.index.result.now
    (omega (arith, c.if-index-len.true, c.len.ensures)) (omega (arith, c.len-then-index-len.ensures)) (omega (arith, c.requires, c.if-index-len.true, c.len-then-index-len.ensures, c.len.ensures, length-column c.self.inside.numbers.items c.self.inside.nulls.items c.self.inside.others.items, ap length c.self.view_is)) c.index.ensures
    ∙ ap (λ values. column_of values c.args.index) c.self.view_is)

pub returns-then-is_marked : goal.returns-then-is_marked
returns-then-is_marked c =
    ap (λ b. number_or_null b (get_or c.self.inside.numbers.items c.args.index (pos 0)))
    (sym c.if-is_marked.true ∙ (c.is_marked.ensures ∙ ap (λ marks. get_or marks c.args.index false) c.as_slice.ensures.value))
    ∙ (among_numbers c.self.inside.numbers.items c.self.inside.nulls.items c.self.inside.others.items c.args.index (pos 0) (omega (arith, c.if-index-len.false, c.len.ensures))
    ∙ ap (λ values. column_of values c.args.index) c.self.view_is)

pub returns-else-is_marked : goal.returns-else-is_marked
returns-else-is_marked c =
    let number = c.index-else-is_marked.result.now in
    let same : to_z w64 (of_z w64 number) ≡ number = search rules in
    ap Int (same ∙ c.index-else-is_marked.ensures)
    ∙ (ap (λ b. number_or_null b (get_or c.self.inside.numbers.items c.args.index number))
    (sym c.if-is_marked.false ∙ (c.is_marked.ensures ∙ ap (λ marks. get_or marks c.args.index false) c.as_slice.ensures.value))
    ∙ (among_numbers c.self.inside.numbers.items c.self.inside.nulls.items c.self.inside.others.items c.args.index number (omega (arith, c.if-index-len.false, c.len.ensures))
    ∙ ap (λ values. column_of values c.args.index) c.self.view_is))
