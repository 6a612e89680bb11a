use Rattle.std.proofs.Common.{rules, ℤ, List, ap, sym, ◌∙◌, w64}
use Rattle.std.proofs.lemmas.Int.{to_z-of_z}
use Rattle.std.specs.BTreeSet.{insert_key}
use Rattle.std.specs.Ordering.{int_cmp}
use Rattle.hy_value.specs.Sorted.{with_value}
use Rattle.hy_value.specs.Refs.{referred}
use Rattle.hy_value.specs.declared.Value.{Value}
use Rattle.hy_value.specs.declared.Value.TheVariants.{Int}
use Rattle.hy_value.specs.declared.refs.ValueRef.{ValueRef}
use Rattle.hy_script.specs.Keys.{keys_of}
use Rattle.hy_script.proofs.NumbersApart.{insert_number, insert_other, seen_other}
use Rattle.hy_script.proofs.keys.KeySet.insert.Goals as goal

pub returns-in_ok-insert-in-Int : goal.returns-in_ok-insert-in-Int
returns-in_ok-insert-in-Int c =
    let inside = c.self.inside in
    let number = c.in-Int.number in
    ap (λ (numbers : List ℤ). keys_of numbers inside.others) c.in_ok-insert-in-Int.ensures.keys
    ∙ ap (λ (n : ℤ). keys_of (insert_key int_cmp inside.numbers.keys n) inside.others) (to_z-of_z w64 number (search rules))
    ∙ insert_number inside.numbers.keys inside.others number
    ∙ ap (λ (values : List Value). with_value values (Int number)) c.self.view_is
    ∙ ap (λ (value : ValueRef). with_value c.args.self.now (referred value)) (sym c.in-Int.is)

pub returns-in_ok-insert-in_default : goal.returns-in_ok-insert-in_default
returns-in_ok-insert-in_default c =
    let inside = c.self.inside in
    let value = referred c.args.value in
    ap (keys_of inside.numbers.keys) (c.in_ok-insert-in_default.ensures.ok ∙ ap (with_value inside.others) c.to_value.ensures)
    ∙ insert_other inside.numbers.keys inside.others value (seen_other c.args.value c.in_default.not-Int)
    ∙ ap (λ (values : List Value). with_value values value) c.self.view_is
