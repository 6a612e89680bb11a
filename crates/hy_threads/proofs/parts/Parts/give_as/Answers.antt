use Rattle.std.proofs.Common.{rules, arith, ◌≡◌, ◌∷◌, refl, sym, ap, ◌∙◌}
use Rattle.atomic_table.specs.Table.{rest}
use Rattle.crossbeam_utils.specs.Padded.{padded_value}
use Rattle.hy_threads.specs.Knowledge.{Seated, settled}
use Rattle.hy_threads.proofs.Carrying.{carries_one, laid, sound_after_give}
use Rattle.hy_threads.proofs.GiveKeeps.{give_keeps, may_give}
use Rattle.hy_threads.proofs.KnowledgeStays.{seated_inj}
use Rattle.hy_threads.proofs.parts.Parts.give_as.Goals as goal

pub exchange-requires : goal.exchange-requires
exchange-requires g c =
    let seat = c.seat.inside in let held = c.requires.held in let k = c.args.k in
    let is : seat.at_table.me.0 ≡ Seated held.0 = ap (λ z. z.knows) c.seat.view_is ∙ held.2 in
    let out = carries_one seat.number seat.at_table.me held.0 k held.1 c.seat.invariant is held.3 in
    (search rules, (out.0, out.1 ∙ ap (λ l. (k, out.0) ∷ rest l) (sym out.1)))

pub store-requires : goal.store-requires
store-requires g c =
    let seat = c.seat.inside in let held = c.requires.held in let o = held.0 in let k = c.args.k in let session' = c.args.session.now in
    let y = c.new-part.result in
    let is : seat.at_table.me.0 ≡ Seated o = ap (λ z. z.knows) c.seat.view_is ∙ held.2 in
    let now = laid seat.number seat.at_table.me c.exchange.new.seat.me o k held.1 _ c.seat.invariant is held.3 c.exchange.ensures.3 in
    let words = c.self.invariant.2 in let below = c.requires.below in let slots = ap (λ z. z.slots) c.self.view_is in (
      search rules,
      omega arith,
      give_keeps g.P.Parted.fact _ _ _ o k held.1 y session' g.J.Telling.session now.0 held.3 now.1 c.requires.told
          (may_give g.P.Parted.fact g.P.Parted.event g.P.Parted.event_keeps o.number o.session k held.1 session' session' c.args.part
          (padded_value y) held.4 refl c.new-part.ensures),
    )

pub invariant_of-seat : goal.invariant_of-seat
invariant_of-seat g c =
    let seat = c.seat.inside in let held = c.requires.held in let o = held.0 in let k = c.args.k in
    let is : seat.at_table.me.0 ≡ Seated o = ap (λ z. z.knows) c.seat.view_is ∙ held.2 in
    let now = laid seat.number seat.at_table.me c.exchange.new.seat.me o k held.1 _ c.seat.invariant is held.3 c.exchange.ensures.3 in
    sound_after_give seat.number seat.at_table.me c.exchange.new.seat.me _ o k _ c.args.session.now c.seat.invariant is now.1
    (c.store.ensures.2 o c.args.session.now now.0 c.requires.told)

pub returns-clause-given : goal.returns-clause-given
returns-clause-given g c =
    let seat = c.seat.inside in let held = c.requires.held in let o = held.0 in
    let is : seat.at_table.me.0 ≡ Seated o = ap (λ z. z.knows) c.seat.view_is ∙ held.2 in
    let done = c.store.ensures.2 o c.args.session.now (ap (λ m. m.0) c.exchange.ensures.3 ∙ is) c.requires.told in
    λ o' e. let same : o ≡ o' = seated_inj o o' (sym held.2 ∙ e) in ap (λ m. m.0) done ∙ (λ i. Seated (settled (same i) c.args.session.now))
