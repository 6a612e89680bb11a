use Rattle.std.proofs.Common.{◌≡◌, ℤ, List, Option, None, Some, length, sym, ap, ◌∙◌, arith}
use Rattle.std.proofs.Math.ListN.{set}
use Rattle.std.proofs.Common.{w64, rules}
use Rattle.std.proofs.lemmas.Int.{to_z-of_z}
use Rattle.hy_column.specs.Numbers.{numbers}
use Rattle.hy_column.proofs.NumberLists.{length_numbers, with_null, with_number}
use Rattle.hy_column.proofs.numbers.IntColumn.put.Goals as goal

pub set-requires : goal.set-requires
set-requires c =
    let same = c.self.invariant.same in
    let b = ap length c.self.view_is in
    omega (arith, same, b, length_numbers c.self.inside.values.items c.self.inside.nulls same, c.requires)

pub put_number-requires : goal.put_number-requires
put_number-requires c =
    let same = c.self.invariant.same in
    let b = ap length c.self.view_is in
    let len = c.self.inside.values.ok.0 in
    omega (arith, same, b, len, length_numbers c.self.inside.values.items c.self.inside.nulls same, c.requires)

pub set-requires-in-Some : goal.set-requires-in-Some
set-requires-in-Some c =
    let same = c.self.invariant.same in
    let b = ap length c.self.view_is in
    omega (arith, same, b, length_numbers c.self.inside.values.items c.self.inside.nulls same, c.requires)

pub returns-in-None : goal.returns-in-None
returns-in-None c =
    ap (numbers c.self.inside.values.items) c.set.ensures
    ∙ (with_null c.self.inside.values.items c.self.inside.nulls c.args.place c.self.invariant.same
    ∙ (ap (λ (xs : List (Option ℤ)). set xs c.args.place None) c.self.view_is ∙ ap (set c.args.self.now c.args.place) (sym c.in-None.is)))

pub returns-in-Some : goal.returns-in-Some
returns-in-Some c =
    let number = c.in-Some.number in
    let put : c.put_number.new.values.items ≡ set c.self.inside.values.items c.args.place number =
    c.put_number.ensures.items ∙ ap (set c.self.inside.values.items c.args.place) (to_z-of_z w64 number (search rules)) in
    ap (λ (ns : List ℤ). numbers ns c.set-in-Some.new.self) put
    ∙ (ap (numbers (set c.self.inside.values.items c.args.place number)) c.set-in-Some.ensures
    ∙ (with_number c.self.inside.values.items c.self.inside.nulls c.args.place number c.self.invariant.same
    ∙ (ap (λ (xs : List (Option ℤ)). set xs c.args.place (Some number)) c.self.view_is ∙ ap (set c.args.self.now c.args.place) (sym c.in-Some.is))))
