use Rattle.std.proofs.Common.{rules, ℤ, List, ap, sym, ◌∙◌, w64}
use Rattle.std.proofs.lemmas.Int.{to_z-of_z}
use Rattle.std.specs.BTreeSet.{contains}
use Rattle.std.specs.Ordering.{int_cmp}
use Rattle.hy_value.specs.Sorted.{is_one_of}
use Rattle.hy_value.specs.Refs.{referred}
use Rattle.hy_value.specs.declared.Value.{Value}
use Rattle.hy_value.specs.declared.Value.TheVariants.{Int}
use Rattle.hy_value.specs.declared.refs.ValueRef.{ValueRef}
use Rattle.hy_script.proofs.NumbersApart.{has_number, has_other, seen_other}
use Rattle.hy_script.proofs.keys.KeySet.has.Goals as goal

pub returns-in-Int : goal.returns-in-Int
returns-in-Int c =
    let inside = c.self.inside in
    let number = c.in-Int.number in
    c.contains.ensures
    ∙ ap (λ (n : ℤ). contains int_cmp inside.numbers n) (to_z-of_z w64 number (search rules))
    ∙ sym (has_number inside.numbers.keys inside.others number)
    ∙ ap (λ (values : List Value). is_one_of values (Int number)) c.self.view_is
    ∙ ap (λ (value : ValueRef). is_one_of c.args.self.now (referred value)) (sym c.in-Int.is)

pub returns-in_default : goal.returns-in_default
returns-in_default c =
    let inside = c.self.inside in
    let value = referred c.args.value in
    c.has.ensures
    ∙ ap (is_one_of inside.others) c.to_value.ensures
    ∙ sym (has_other inside.numbers.keys inside.others value (seen_other c.args.value c.in_default.not-Int))
    ∙ ap (λ (values : List Value). is_one_of values value) c.self.view_is
