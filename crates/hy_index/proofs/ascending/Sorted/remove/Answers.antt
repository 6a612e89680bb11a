use Rattle.std.proofs.Common.{◌≡◌, length, map, sym, ap, ◌∙◌, subst, arith}
use Rattle.std.specs.Prelude.{Contains}
use Rattle.std.specs.List.{prefix_len, remove}
use Rattle.std.proofs.lemmas.List.{length-map}
use Rattle.hy_index.specs.Indexed.{Kept}
use Rattle.hy_index.specs.Entries.{entry, below_entry, without_entry, Ascends}
use Rattle.hy_index.specs.Keyed.{entry_of}
use Rattle.hy_index.proofs.Edits.{taken_out, ascends_some}
use Rattle.hy_index.proofs.Mapped.{map_remove}
use Rattle.hy_index.proofs.ascending.Sorted.remove.Goals as goal

pub remove-removed-requires : goal.remove-removed-requires
remove-removed-requires g c =
    let of = entry_of g.K.Key.value in
    let xs = c.self.inside.entries.items in
    let e = entry (g.K.Key.value c.args.key.now) c.args.pos in
    let out = taken_out e (map of xs) c.self.invariant (subst (λ (k : Kept). Contains k.entries e) (sym c.self.view_is) c.requires) in
    let within = out.within in
    let at = c.count_below-at.ensures.count ∙ ap (λ ys. prefix_len (below_entry e.key e.pos) (map of ys)) c.as_slice.ensures.value in
    omega (arith, within, at, length-map xs of, ap length c.as_slice.ensures.value, c.as_slice.ensures.len)

pub invariant_of-self : goal.invariant_of-self
invariant_of-self g c =
    let of = entry_of g.K.Key.value in
    let xs = c.self.inside.entries.items in
    let e = entry (g.K.Key.value c.args.key.now) c.args.pos in
    let out = taken_out e (map of xs) c.self.invariant (subst (λ (k : Kept). Contains k.entries e) (sym c.self.view_is) c.requires) in
    let at = c.count_below-at.ensures.count ∙ ap (λ ys. prefix_len (below_entry e.key e.pos) (map of ys)) c.as_slice.ensures.value in
    let made : map of c.remove-removed.new.self.items ≡ without_entry e (map of xs) =
    ap (map of) c.remove-removed.ensures.items ∙ (map_remove of xs c.count_below-at.result ∙ (ap (remove (map of xs)) at ∙ out.left)) in
    subst Ascends (sym made) (ascends_some _ (map of xs) c.self.invariant)

pub returns-clause-entries : goal.returns-clause-entries
returns-clause-entries g c =
    let of = entry_of g.K.Key.value in
    let xs = c.self.inside.entries.items in
    let e = entry (g.K.Key.value c.args.key.now) c.args.pos in
    let out = taken_out e (map of xs) c.self.invariant (subst (λ (k : Kept). Contains k.entries e) (sym c.self.view_is) c.requires) in
    let at = c.count_below-at.ensures.count ∙ ap (λ ys. prefix_len (below_entry e.key e.pos) (map of ys)) c.as_slice.ensures.value in
    ap (map of) c.remove-removed.ensures.items
    ∙ (map_remove of xs c.count_below-at.result ∙ (ap (remove (map of xs)) at ∙ (out.left ∙ ap (λ (k : Kept). without_entry e k.entries) c.self.view_is)))
