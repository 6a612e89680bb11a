use Rattle.std.proofs.Common.{rules, arith, ◌≡◌, ℕ, suc, ◌+◌, ◌<◌, Bool, false, get_or, List, length, map, take, Some, sym, ap, ◌∙◌, subst}
use lib.ListN.{get_elem?}
use Rattle.std.specs.Slots.{slots_items, slots_filled, slots_len, slots_counts}
use Rattle.std.specs.Slots.Ownership.{Filled}
use Rattle.hy_threads.specs.Knowledge.{First}
use Rattle.hy_threads.specs.Rule.{content}
use Rattle.hy_threads.proofs.JoinKeeps.{close_tells}
use Rattle.hy_threads.proofs.Lists.{still_full, all_empty}
use Rattle.hy_threads.proofs.Slots.{no_hole, one_more, all_out}
use Rattle.hy_threads.proofs.parts.Parts.close.Goals as goal

pub unreachable-requires : goal.unreachable-requires
unreachable-requires g c =
    let all = c.requires.all in let closed = c.close_with-closed in let k = c.loop-k.k in
    let is : c.first.inside.at_table.me.0 ≡ First all.0 = ap (λ z. z.knows) c.first.view_is ∙ all.2 in
    let found = close_tells g.P.Parted.fact _ all.0 _ all.1 _ _ is all.3 closed.ensures.values.2 in
    no_hole (slots_items closed.result.slots) found.0 found.2 k (ap (λ l. get_elem? l k) (sym c.loop-k.invariant.4) ∙ c.in_default.ensures.value)

pub loop-k-preserved : goal.loop-k-preserved
loop-k-preserved g c =
    let k = c.loop-k.k in let inv = c.loop-k.invariant in let others = c.take.ensures.others in
    let now = c.loop-k.closed.slots in let new = c.take.new.self.slots in
    let count = c.slot_count.ensures in let test = c.loop-k-test.true in let counts = (slots_counts now).1 in
    let next : suc k ≡ k + 1 = omega arith in
    let below : k < length (slots_filled now) = omega arith in
    let out = one_more (slots_items new) c.loop-k.parts.items k c.in-Some.part c.into_inner.result
    (ap (λ l. get_elem? l k) others.0 ∙ c.in-Some.ensures.value) c.into_inner.ensures
    (inv.7 ∙ ap (λ l. take k (map content l)) (sym others.0)) in (
      subst (λ f. Filled f (k + 1) (slots_len new)) (sym others.1) (still_full _ k (slots_len new) (λ j a b. inv.0 j a (omega (arith, others.2)))),
      subst (λ (f : List Bool). (j : ℕ) → j < k + 1 → get_or f j false ≡ false) (sym others.1) (all_empty _ k below inv.1),
      search rules,
      others.2 ∙ inv.3,
      others.0 ∙ inv.4,
      search rules,
      search rules,
      ap (map Some) (search rules) ∙ (out ∙ ap (λ (n : ℕ). take n (map content (slots_items new))) next),
    )

pub returns-clause-fact : goal.returns-clause-fact
returns-clause-fact g c = λ r sessions view all.
    let closed = c.close_with-closed in let xs = slots_items closed.result.slots in let inv = c.loop-k.invariant in let k = c.loop-k.k in
    let is : c.first.inside.at_table.me.0 ≡ First r = ap (λ z. z.knows) c.first.view_is ∙ view in
    let found = close_tells g.P.Parted.fact _ r _ sessions _ _ is all closed.ensures.values.2 in
    let count = c.slot_count.ensures in let test = c.loop-k-test.false in let counts = (slots_counts closed.result.slots).0 in
    let low = inv.2 in let same_len = inv.3 in
    let same = all_out xs c.loop-k.parts.items found.0 k (omega arith) (inv.7 ∙ ap (λ l. take k (map content l)) inv.4) found.2 in
    subst (λ l. g.P.Parted.fact l sessions) (sym same) found.1
