use Rattle.std.proofs.Common.{◌≡◌, Bool, List, length, map, sym, ap, ◌∙◌, w64, rules}
use Rattle.std.specs.Prelude.{not, ◌&&◌}
use lib.Lanes.{zip2}
use Rattle.std.proofs.lemmas.Int.{to_z-of_z}
use Rattle.std.proofs.lemmas.List.{length-map}
use Rattle.hy_kernel.specs.Bits.{compares}
use Rattle.hy_column.specs.Compared.{compares_number}
use Rattle.hy_column.proofs.NumberLists.{bits_compared}
use Rattle.hy_column.proofs.numbers.IntColumn.compare.Goals as goal

pub and_without-requires : goal.and_without-requires
and_without-requires c =
    let mask : length c.compare.new.self ≡ length c.self.inside.values.items =
    ap length c.compare.ensures ∙ (length-map c.as_slice.result.now _ ∙ ap length c.as_slice.ensures.value) in
    c.self.invariant.same ∙ sym mask

pub returns : goal.returns
returns c =
    let mask : c.compare.new.self ≡ map (compares c.args.op c.args.right) c.self.inside.values.items =
    c.compare.ensures ∙ ((λ i. map (compares c.args.op (to_z-of_z w64 c.args.right (search rules) i)) c.as_slice.result.now)
    ∙ ap (map (compares c.args.op c.args.right)) c.as_slice.ensures.value) in
    c.and_without.ensures
    ∙ (ap (λ (bits : List Bool). zip2 (λ bit other. bit && not other) bits c.self.inside.nulls) mask
    ∙ (bits_compared c.args.op c.args.right c.self.inside.values.items c.self.inside.nulls c.self.invariant.same
    ∙ ap (map (compares_number c.args.op c.args.right)) c.self.view_is))
