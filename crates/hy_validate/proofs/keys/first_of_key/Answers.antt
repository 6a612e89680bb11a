use Rattle.std.proofs.Common.{rules, ◌≡◌, ◌<◌, length, true, false, refl, sym, ap, ◌∙◌, arith}
use Rattle.std.specs.Ordering.{is_eq, is_ne}
use Rattle.std.specs.declared.cmp.Ordering.{Ordering}
use Rattle.std.specs.declared.cmp.Ordering.TheVariants.{Less, Equal, Greater}
use Rattle.std.proofs.lemmas.List.{get_or_default}
use Rattle.hy_validate.specs.declared.keys.Keyed.{Keyed}
use Rattle.hy_validate.specs.Keys.{key_cmp}
use Rattle.hy_validate.specs.TreeHits.{is_hit_number}
use Rattle.hy_validate.proofs.KeyOrder.{none_tied, first_tied}
use Rattle.hy_validate.proofs.keys.first_of_key.Goals as goal

other : (o : Ordering) → is_ne o ≡ true → is_eq o ≡ false
other Less h = refl
other Equal h = cc
other Greater h = refl

tied : (o : Ordering) → is_ne o ≡ false → o ≡ Equal
tied Less h = cc
tied Equal h = refl
tied Greater h = cc

pub returns-then-is_ne : goal.returns-then-is_ne
returns-then-is_ne c =
    let places = c.args.places.now in
    let key = c.args.key.now in
    let place = c.place-item.result in
    let i = c.loop-place.place-index in
    let within : i < length places = omega arith in
    let ne : is_ne (key_cmp place.key key) ≡ true = search rules in
    none_tied key places (is_hit_number c.args.records.now c.args.change.now) i c.requires.sorted c.requires.none_below (omega arith) c.loop-place.invariant
    (λ l d. ap (λ (p : Keyed). is_eq (key_cmp p.key key)) (get_or_default places i d place within ∙ sym c.place-item.is) ∙ other (key_cmp place.key key) ne)

pub returns-then-is_hit : goal.returns-then-is_hit
returns-then-is_hit c =
    let place = c.place-item.result in
    let ne : is_ne (key_cmp place.key c.args.key.now) ≡ false = search rules in
    let hit : is_hit_number c.args.records.now c.args.change.now place.number ≡ true = search rules in
    first_tied c.args.key.now c.args.places.now (is_hit_number c.args.records.now c.args.change.now) c.loop-place.place-index place c.requires.sorted
    (omega arith) (sym c.place-item.is) (tied (key_cmp place.key c.args.key.now) ne) c.loop-place.invariant hit
