use Rattle.std.proofs.Common.{rules, arith, ◌≡◌, ◌+◌, ◌∷◌, refl, sym, ap, ◌∙◌, subst, Some}
use Rattle.atomic_table.specs.Table.{rest}
use Rattle.crossbeam_utils.specs.Padded.{padded_value}
use Rattle.hy_threads.specs.Knowledge.{Seated, holding, refused}
use Rattle.hy_threads.specs.Seats.{number_of, slots_of, out_of}
use Rattle.hy_threads.proofs.Carrying.{carries_none, taken_out, sound_as}
use Rattle.hy_threads.proofs.Lists.{some_inj, some_not_none}
use Rattle.hy_threads.proofs.TakeKeeps.{take_keeps}
use Rattle.hy_threads.proofs.parts.Parts.try_take.Goals as goal

pub compare_exchange-found-requires : goal.compare_exchange-found-requires
compare_exchange-found-requires g c =
    let seat = c.seat.inside in let o = c.requires.free.0 in
    let is : seat.at_table.me.0 ≡ Seated o = ap (λ z. z.knows) c.seat.view_is ∙ c.requires.free.1 in
    let bare = carries_none seat.number seat.at_table.me o c.seat.invariant is c.requires.free.2 in
    let number : seat.number ≡ o.number = c.seat.invariant.0 ∙ ap number_of is in
    let words = c.self.invariant.2 in let slots = ap (λ z. z.slots) c.self.view_is in let below = c.requires.below in (
      search rules,
      omega arith,
      take_keeps g.P.Parted.fact g.P.Parted.near g.P.Parted.near_follows _ _ _ o c.args.k (seat.number + 1) is c.requires.free.2 bare
          (omega arith) (omega arith),
    )

pub exchange-requires : goal.exchange-requires
exchange-requires g c =
    let o = c.requires.free.0 in
    let is : c.seat.inside.at_table.me.0 ≡ Seated o = ap (λ z. z.knows) c.seat.view_is ∙ c.requires.free.1 in
    let won = (c.compare_exchange-found.ensures.2 o c.args.k is refl).0 c.if-found-ne0.false in
    let out = ap (λ m. m.1) won.1 in
    (search rules, (Some won.0, out ∙ ap (λ l. (c.args.k, Some won.0) ∷ rest l) (sym out)))

pub invariant_of-seat : goal.invariant_of-seat
invariant_of-seat g c =
    let seat = c.seat.inside in let o = c.requires.free.0 in
    let is : seat.at_table.me.0 ≡ Seated o = ap (λ z. z.knows) c.seat.view_is ∙ c.requires.free.1 in
    let lost = (c.compare_exchange-found.ensures.2 o c.args.k is refl).1 c.if-found-ne0.true in
    let same = c.seat.invariant.1 ∙ ap out_of is in
    sound_as seat.number seat.at_table.me c.compare_exchange-found.new.seat.me o (refused o c.args.k 1) c.seat.invariant is
    (ap (λ m. m.0) lost) refl (ap (λ m. slots_of m.1) lost ∙ same)

pub unreachable-requires : goal.unreachable-requires
unreachable-requires g c =
    let o = c.requires.free.0 in
    let is : c.seat.inside.at_table.me.0 ≡ Seated o = ap (λ z. z.knows) c.seat.view_is ∙ c.requires.free.1 in
    let won = (c.compare_exchange-found.ensures.2 o c.args.k is refl).0 c.if-found-ne0.false in
    let out = taken_out c.compare_exchange-found.new.seat.me c.exchange.new.seat.me o c.args.k won.0 c.exchange.result won.1
    c.exchange.ensures.2 c.exchange.ensures.3 in
    some_not_none won.0 (sym out.0 ∙ c.in_default.is)

pub invariant_of-seat-2 : goal.invariant_of-seat-2
invariant_of-seat-2 g c =
    let seat = c.seat.inside in let o = c.requires.free.0 in
    let is : seat.at_table.me.0 ≡ Seated o = ap (λ z. z.knows) c.seat.view_is ∙ c.requires.free.1 in
    let won = (c.compare_exchange-found.ensures.2 o c.args.k is refl).0 c.if-found-ne0.false in
    let out = taken_out c.compare_exchange-found.new.seat.me c.exchange.new.seat.me o c.args.k won.0 c.exchange.result won.1
    c.exchange.ensures.2 c.exchange.ensures.3 in
    sound_as seat.number seat.at_table.me c.exchange.new.seat.me o (holding o c.args.k (padded_value won.0)) c.seat.invariant is
    (ap (λ m. m.0) out.1) refl (ap (λ m. slots_of m.1) out.1)

pub returns-clause-won : goal.returns-clause-won
returns-clause-won g c = λ o at.
    let k = c.args.k in
    let is : c.seat.inside.at_table.me.0 ≡ Seated o = ap (λ z. z.knows) c.seat.view_is ∙ at in
    let won = (c.compare_exchange-found.ensures.2 o c.args.k is refl).0 c.if-found-ne0.false in
    let out = taken_out c.compare_exchange-found.new.seat.me c.exchange.new.seat.me o k won.0 c.exchange.result won.1
    c.exchange.ensures.2 c.exchange.ensures.3 in
    let same : padded_value won.0 ≡ c.into_inner.result =
    ap padded_value (some_inj won.0 c.in-Some.part (sym out.0 ∙ c.in-Some.is)) ∙ sym c.into_inner.ensures in
    (ap (λ m. m.0) out.1 ∙ (λ i. Seated (holding o k (same i))), subst (g.P.Parted.near k o.session) same won.2)
