use Rattle.std.proofs.Common.{◌≡◌, Result, Ok, Err, true, ap, arith, inl, inr}
use Rattle.std.specs.Prelude.{OnErr, is_ok}
use Rattle.std.proofs.lemmas.Bool.{cases_lt}
use Rattle.slab.specs.Slab.{Slab, get, slab_len}
use Rattle.hy_chain.specs.declared.lists.Node.{Node}
use Rattle.hy_chain.specs.Histories.{Histories}
use Rattle.hy_chain.proofs.Linking.{still_sound}
use Rattle.hy_chain.proofs.lists.Lists.reserve.Goals as goal

always : {A E : Type 0} (r : Result A E) (P : Type 0) → P → OnErr r P
always (Ok x) P p = tt
always (Err e) P p = p

never : {A E : Type 0} (r : Result A E) (P : Type 0) → is_ok r ≡ true → OnErr r P
never (Ok x) P h = tt
never (Err e) P h = absurd (cc)

pub invariant_of-self : goal.invariant_of-self
invariant_of-self g c =
    still_sound c.self.inside.nodes c.reserve.new.self c.self.inside.heads.items
    (λ k. ap (λ (s : Slab (Node g.row.D.Denot)). get s k) c.reserve.ensures.rest_kept) (ap slab_len c.reserve.ensures.rest_kept) c.self.invariant

pub returns-clause-err : goal.returns-clause-err
returns-clause-err g c =
    let room = ap (λ (h : Histories g.row.D.Denot). h.room) c.self.view_is in
    elim (cases_lt c.args.self.now.room c.args.additional) [
      | inl less ↦ always c.reserve.result _ less
      | inr enough ↦ never c.reserve.result _ (c.reserve.ensures.succeeds (omega (arith, room, c.capacity-capacity.ensures.holds_all, c.capacity-capacity.ensures.value)))
    ]
