use Rattle.std.proofs.Common.{rules, arith, ◌≡◌, ap, ◌∙◌}
use Rattle.hy_threads.specs.Knowledge.{First}
use Rattle.hy_threads.proofs.Carrying.{next_number, sound_child}
use Rattle.hy_threads.proofs.SplitKeeps.{split_keeps}
use Rattle.hy_threads.proofs.parts.Parts.split.Goals as goal

pub split_seat-at_table-requires : goal.split_seat-at_table-requires
split_seat-at_table-requires g c =
    let next = c.requires.next in
    let is : c.first.inside.at_table.me.0 ≡ First next.0 = ap (λ z. z.knows) c.first.view_is ∙ next.2 in
    let words = c.self.invariant.2 in let slots = ap (λ z. z.slots) c.self.view_is in let some_slots = c.requires.ours.1 in
    (search rules, omega arith, split_keeps g.P.Parted.fact _ _ next.0 next.1 is next.3)

pub overflow_add-first : goal.overflow_add-first
overflow_add-first g c =
    let first = c.first.inside in let next = c.requires.next in
    let is : first.at_table.me.0 ≡ First next.0 = ap (λ z. z.knows) c.first.view_is ∙ next.2 in
    let fits = next_number first.number first.at_table.me next.0 next.1 c.first.invariant is next.3 in
    let number = fits.0 in let low = fits.1 in omega arith

pub invariant_of-result : goal.invariant_of-result
invariant_of-result g c =
    let first = c.first.inside in let next = c.requires.next in
    let is : first.at_table.me.0 ≡ First next.0 = ap (λ z. z.knows) c.first.view_is ∙ next.2 in
    sound_child first.number first.at_table.me c.split_seat-at_table.result.me next.0 next.1 c.first.invariant is next.3
    c.split_seat-at_table.ensures.4
