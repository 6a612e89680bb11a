use Rattle.std.proofs.Common.{◌≡◌, length, map, rules, arith}
use Rattle.std.proofs.lemmas.List.{length-map}
use Rattle.hy_schema.proofs.Catalog.find.Goals as goal

-- what was found is below how many tables there are, and these are at most 16
pub overflow_cast-result : goal.overflow_cast-result
overflow_cast-result c =
    let entries = c.self.inside.tables.entries in
    let same : length c.as_slice.result.now ≡ length (map (λ entry. entry.1) entries) = search rules in
    let few = length-map entries (λ entry. entry.1) in
    omega (arith, c.in_ok-number.ensures.within, same, few, c.self.invariant.1)
