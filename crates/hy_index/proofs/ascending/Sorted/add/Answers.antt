use Rattle.std.proofs.Common.{◌≡◌, ℕ, Bool, length, map, sym, ap, ◌∙◌, subst, arith}
use Rattle.std.specs.Prelude.{Contains, if◌then◌else◌}
use Rattle.std.specs.List.{prefix_len, insert}
use Rattle.std.proofs.lemmas.List.{length-map}
use Rattle.hy_index.specs.Indexed.{Kept}
use Rattle.hy_index.specs.Entries.{entry, below_entry, with_entry, Ascends}
use Rattle.hy_index.specs.Keyed.{entry_of}
use Rattle.hy_index.proofs.Edits.{ascends_with}
use Rattle.hy_index.proofs.Mapped.{put_kept}
use Rattle.hy_index.proofs.ascending.Sorted.add.Goals as goal

pub invariant_of-self : goal.invariant_of-self
invariant_of-self g c =
    let of = entry_of g.K.Key.value in
    let xs = c.self.inside.entries.items in
    let e = entry (g.K.Key.value c.args.key) c.args.pos in
    let len = ap (λ (k : Kept). length k.entries) c.self.view_is in
    let capacity = ap (λ (k : Kept). k.capacity) c.self.view_is in
    let fits = c.insert-added.ensures.succeeds
    (omega (arith, c.requires.room, len, capacity, length-map xs of, ap length c.as_slice.ensures.value, c.as_slice.ensures.len)) in
    let at = c.count_below-at.ensures.count ∙ ap (λ ys. prefix_len (below_entry (g.K.Key.value c.args.key) c.args.pos) (map of ys)) c.as_slice.ensures.value in
    let put = c.insert-added.ensures.items
    ∙ (ap (λ (b : Bool). if b then insert xs c.count_below-at.result (record { key = c.args.key; pos = c.args.pos }) else xs) fits
    ∙ ap (λ (n : ℕ). insert xs n (record { key = c.args.key; pos = c.args.pos })) at) in
    let made : map of c.insert-added.new.self.items ≡ with_entry e (map of xs) = ap (map of) put ∙ put_kept g.K.Key.value xs c.args.key c.args.pos in
    subst Ascends (sym made) (ascends_with e (map of xs) c.self.invariant (λ there. c.requires.absent
    (subst (λ (k : Kept). Contains k.entries e) c.self.view_is there)))

pub returns-clause-entries : goal.returns-clause-entries
returns-clause-entries g c =
    let of = entry_of g.K.Key.value in
    let xs = c.self.inside.entries.items in
    let e = entry (g.K.Key.value c.args.key) c.args.pos in
    let len = ap (λ (k : Kept). length k.entries) c.self.view_is in
    let capacity = ap (λ (k : Kept). k.capacity) c.self.view_is in
    let fits = c.insert-added.ensures.succeeds
    (omega (arith, c.requires.room, len, capacity, length-map xs of, ap length c.as_slice.ensures.value, c.as_slice.ensures.len)) in
    let at = c.count_below-at.ensures.count ∙ ap (λ ys. prefix_len (below_entry (g.K.Key.value c.args.key) c.args.pos) (map of ys)) c.as_slice.ensures.value in
    let put = c.insert-added.ensures.items
    ∙ (ap (λ (b : Bool). if b then insert xs c.count_below-at.result (record { key = c.args.key; pos = c.args.pos }) else xs) fits
    ∙ ap (λ (n : ℕ). insert xs n (record { key = c.args.key; pos = c.args.pos })) at) in
    ap (map of) put ∙ (put_kept g.K.Key.value xs c.args.key c.args.pos ∙ ap (λ (k : Kept). with_entry e k.entries) c.self.view_is)
