use Rattle.std.proofs.Common.{◌≡◌, ℤ, pos, ◌<◌, Bool, true, false, List, Option, None, Some, length, get_or, sym, ap, ◌∙◌, arith}
use Rattle.std.specs.Prelude.{if◌then◌else◌}
use Rattle.std.proofs.Common.{w64, rules}
use Rattle.std.proofs.lemmas.Int.{to_z-of_z}
use Rattle.hy_column.proofs.NumberLists.{length_numbers, number_at}
use Rattle.hy_column.proofs.numbers.IntColumn.get.Goals as goal

pub get-requires : goal.get-requires
get-requires c =
    let same = c.self.invariant.same in
    let b = ap length c.self.view_is in
    omega (arith, same, b, length_numbers c.self.inside.values.items c.self.inside.nulls same, c.requires)

pub number_at-requires : goal.number_at-requires
number_at-requires c =
    let same = c.self.invariant.same in
    let b = ap length c.self.view_is in
    let a = ap length c.as_slice.ensures.value in
    omega (arith, same, a, b, length_numbers c.self.inside.values.items c.self.inside.nulls same, c.requires)

pub returns-then-get : goal.returns-then-get
returns-then-get c =
    let values = c.self.inside.values.items in
    let nulls = c.self.inside.nulls in
    let same = c.self.invariant.same in
    let b = ap length c.self.view_is in
    let within : c.args.place < length values = omega (arith, b, length_numbers values nulls same, c.requires) in
    let set : get_or nulls c.args.place false ≡ true = sym c.get.ensures ∙ c.if-get.true in
    sym (sym (ap (λ (xs : List (Option ℤ)). get_or xs c.args.place None) c.self.view_is)
    ∙ (number_at values nulls c.args.place same within ∙ ap (λ (t : Bool). if t then None else Some (get_or values c.args.place (pos 0))) set))

pub returns-else-get : goal.returns-else-get
returns-else-get c =
    let values = c.self.inside.values.items in
    let nulls = c.self.inside.nulls in
    let same = c.self.invariant.same in
    let b = ap length c.self.view_is in
    let within : c.args.place < length values = omega (arith, b, length_numbers values nulls same, c.requires) in
    let set : get_or nulls c.args.place false ≡ false = sym c.get.ensures ∙ c.if-get.false in
    ap (λ (n : ℤ). Some n) (to_z-of_z w64 c.number_at.result (search rules) ∙ (c.number_at.ensures ∙ ap (λ (xs : List ℤ). get_or xs c.args.place (pos 0)) c.as_slice.ensures.value))
    ∙ sym (sym (ap (λ (xs : List (Option ℤ)). get_or xs c.args.place None) c.self.view_is)
    ∙ (number_at values nulls c.args.place same within ∙ ap (λ (t : Bool). if t then None else Some (get_or values c.args.place (pos 0))) set))
