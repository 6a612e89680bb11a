use Rattle.std.proofs.Common.{rules, arith, ◌≡◌, ap, ◌∙◌}
use Rattle.hy_threads.specs.Knowledge.{First, Seated}
use Rattle.hy_threads.proofs.Carrying.{carries_none}
use Rattle.hy_threads.proofs.JoinKeeps.{join_keeps}
use Rattle.hy_threads.proofs.parts.Parts.join.Goals as goal

pub join_seat-requires : goal.join_seat-requires
join_seat-requires g c =
    let first = c.first.inside in let other = c.other.inside in let o = c.requires.free.0 in let r = c.requires.first.0 in
    let sat : other.at_table.me.0 ≡ Seated o = ap (λ z. z.knows) c.other.view_is ∙ c.requires.free.1 in
    let is : first.at_table.me.0 ≡ First r = ap (λ z. z.knows) c.first.view_is ∙ c.requires.first.1 in
    let bare = carries_none other.number other.at_table.me o c.other.invariant sat c.requires.free.2 in
    let words = c.self.invariant.2 in let slots = ap (λ z. z.slots) c.self.view_is in let some_slots = c.requires.ours.2 in (
      search rules,
      search rules,
      bare,
      omega arith,
      join_keeps g.P.Parted.fact _ _ r _ _ o is sat c.requires.free.2,
    )
