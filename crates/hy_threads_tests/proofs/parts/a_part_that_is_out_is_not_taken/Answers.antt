use Rattle.std.proofs.Common.{rules, ◌≡◌, [], ◌∷◌, map, None, Some, refl, ap, ◌∙◌}
use mathlib.Core.Logic.{inl}
use Rattle.hy_threads.specs.Knowledge.{Seated, keeper, visitor, first_of, parent, child, joined, holding, refused, settled}
use Rattle.hy_threads_tests.proofs.parts.a_part_that_is_out_is_not_taken.Goals as goal

pub try_take-requires-2-clause-free : goal.try_take-requires-2-clause-free
try_take-requires-2-clause-free g c κs =
    let b = c.ended-2.result in let free = visitor 1 b None [] in
    let sessions : c.as_slice.result.now ≡ c.ended.result ∷ b ∷ [] = search rules in
    let first = c.split-one.ensures.parent ∙ ap parent (c.in-Ok.ensures.ok.2 ∙ ap first_of sessions) in
    (refused free 0 1, c.in-None.ensures.lost free (c.split-other.ensures.child ∙ ap child first), refl)

pub give-requires-2-clause-held : goal.give-requires-2-clause-held
give-requires-2-clause-held g c κs =
    let b = c.ended-2.result in let free = visitor 1 b None [] in let other = refused free 0 1 in
    let sessions : c.as_slice.result.now ≡ c.ended.result ∷ b ∷ [] = search rules in
    let first = c.split-one.ensures.parent ∙ ap parent (c.in-Ok.ensures.ok.2 ∙ ap first_of sessions) in
    let lost = c.in-None.ensures.lost free (c.split-other.ensures.child ∙ ap child first) in
    let part = c.in-Some-try_take.counter in
    (holding other 0 part, part, (c.in-Some-try_take.ensures.won other lost).0, refl, inl tt)

pub join-requires-2-clause-free : goal.join-requires-2-clause-free
join-requires-2-clause-free g c κs =
    let b = c.ended-2.result in let free = visitor 1 b None [] in let other = refused free 0 1 in
    let sessions : c.as_slice.result.now ≡ c.ended.result ∷ b ∷ [] = search rules in
    let first = c.split-one.ensures.parent ∙ ap parent (c.in-Ok.ensures.ok.2 ∙ ap first_of sessions) in
    let lost = c.in-None.ensures.lost free (c.split-other.ensures.child ∙ ap child first) in
    let held = holding other 0 c.in-Some-try_take.counter in
    (settled held c.index-2.result.now, c.give-2.ensures.given held (c.in-Some-try_take.ensures.won other lost).0, refl)

pub close-closed-requires-clause-all : goal.close-closed-requires-clause-all
close-closed-requires-clause-all g c κs =
    let a = c.ended.result in let b = c.ended-2.result in
    let one = visitor 0 a None [] in let free = visitor 1 b None [] in let other = refused free 0 1 in
    let x = c.index.result.now in let y = c.index-2.result.now in
    let sessions : c.as_slice.result.now ≡ a ∷ b ∷ [] = search rules in
    let made = c.in-Ok.ensures.ok.2 ∙ ap first_of sessions in
    let first = c.split-one.ensures.parent ∙ ap parent made in
    let second = c.split-other.ensures.parent ∙ ap parent first in
    let at_one : c.split-one.result.knows ≡ Seated one = c.split-one.ensures.child ∙ ap child made in
    let given = c.give.ensures.given (holding one 0 c.in-Some.counter) (c.in-Some.ensures.won one at_one).0 in
    let lost = c.in-None.ensures.lost free (c.split-other.ensures.child ∙ ap child first) in
    let back = c.give-2.ensures.given (holding other 0 c.in-Some-try_take.counter) (c.in-Some-try_take.ensures.won other lost).0 in
    let joined_one = c.join.ensures.joined ∙ (λ i. joined (second i) (given i)) in
    let joined_other = c.join-2.ensures.joined ∙ (λ i. joined (joined_one i) (back i)) in
    (keeper 2 (map Some (x ∷ y ∷ [])), x ∷ y ∷ [], joined_other, refl)
