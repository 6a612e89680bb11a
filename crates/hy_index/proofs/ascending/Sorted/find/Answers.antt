use Rattle.std.proofs.Common.{ℕ, List, map, take, drop, sym, ap, ◌∙◌, subst}
use Rattle.std.specs.Prelude.{filter}
use Rattle.std.specs.List.{prefix_len}
use Rattle.std.proofs.lemmas.List.{take-map, drop-map}
use Rattle.hy_index.specs.Indexed.{Kept}
use Rattle.hy_index.specs.Entries.{IndexEntry, has_key, below_key, up_to_key, Ascends}
use Rattle.hy_index.specs.Keyed.{entry_of}
use Rattle.hy_index.proofs.Prefixes.{found, ascends_behind}
use Rattle.hy_index.proofs.ascending.Sorted.find.Goals as goal

pub count_up_to_key-requires : goal.count_up_to_key-requires
count_up_to_key-requires g c =
    let of = entry_of g.K.Key.value in
    let below = below_key (g.K.Key.value c.args.key.now) in
    let xs = c.self.inside.entries.items in
    let n = prefix_len below (map of xs) in
    let others = c.split_at.ensures.back ∙ (ap (λ (n : ℕ). drop n c.as_slice-entries.result.now) c.count_below_key.ensures.count
    ∙ ap (λ ys. drop (prefix_len below (map of ys)) ys) c.as_slice-entries.ensures.value) in
    subst Ascends (drop-map of n xs ∙ ap (map of) (sym others)) (ascends_behind n (map of xs) c.self.invariant)

pub returns : goal.returns
returns g c =
    let of = entry_of g.K.Key.value in
    let key = g.K.Key.value c.args.key.now in
    let xs = c.self.inside.entries.items in
    let n = prefix_len (below_key key) (map of xs) in
    let others = c.split_at.ensures.back ∙ (ap (λ (n : ℕ). drop n c.as_slice-entries.result.now) c.count_below_key.ensures.count
    ∙ ap (λ ys. drop (prefix_len (below_key key) (map of ys)) ys) c.as_slice-entries.ensures.value) in
    ap (map of) c.split_at-2.ensures.front
    ∙ (sym (take-map of c.count_up_to_key.result c.split_at.result.1.now)
    ∙ (ap (λ (m : ℕ). take m (map of c.split_at.result.1.now)) c.count_up_to_key.ensures.count
    ∙ (ap (λ (ys : List IndexEntry). take (prefix_len (up_to_key key) ys) ys) (ap (map of) others ∙ sym (drop-map of n xs))
    ∙ (found key (map of xs) c.self.invariant ∙ ap (λ (k : Kept). filter (has_key key) k.entries) c.self.view_is))))
