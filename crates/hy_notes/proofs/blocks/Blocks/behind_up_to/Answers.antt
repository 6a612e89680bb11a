use Rattle.std.proofs.Common.{◌≡◌, ℕ, ◌+◌, ◌-◌, ◌++◌, max, List, take, drop, sym, ap, ◌∙◌, arith, subst}
use Rattle.std.specs.Global.{Vec}
use Rattle.hy_value.specs.declared.change.Change.{Change}
use Rattle.hy_notes.specs.Blocks.{joined, notes_behind, AreBehind}
use Rattle.hy_notes.proofs.Finding.{behind_is}
use Rattle.hy_notes.proofs.Spans.{joined_span, behind_further}
use Rattle.hy_notes.proofs.blocks.Blocks.behind_up_to.Goals as goal

pub returns : goal.returns
returns c =
    let b = c.args.self.now in
    let from = c.behind-from.result in
    let to = c.behind-to.result in
    let end = c.max.result in
    let most : end ≡ max from to = c.max.ensures in
    let first : end ≡ from + (end - from) = omega (arith, most) in
    let last : end ≡ to + (end - to) = omega (arith, most) in
    let here : notes_behind b c.args.block ≡ joined (drop from b.later.items) =
    behind_is b c.args.block ∙ ap (λ (n : ℕ). joined (drop n b.later.items)) (sym c.behind-from.ensures) in
    let cut : notes_behind b c.args.block ≡ joined (take (end - from) (drop from c.as_slice.result.now)) ++ joined (drop end b.later.items) =
    here ∙ (joined_span b.later.items from (end - from) end first
    ∙ ap (λ (xs : List (Vec Change)). joined (take (end - from) (drop from xs)) ++ joined (drop end b.later.items)) (sym c.as_slice.ensures.value)) in
    let behind : AreBehind c.args.table c.args.pos (joined (drop to b.later.items)) =
    subst (λ (n : ℕ). AreBehind c.args.table c.args.pos (joined (drop n b.later.items))) (sym c.behind-to.ensures)
    (subst (AreBehind c.args.table c.args.pos) (behind_is b c.find.result) c.find.ensures.behind) in (
      joined (drop end b.later.items),
      cut,
      behind_further b.later.items to (end - to) end c.args.table c.args.pos last behind,
    )
