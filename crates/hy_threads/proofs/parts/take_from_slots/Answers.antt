use Rattle.std.proofs.Common.{rules, ◌≡◌, ◌∷◌, ◌++◌, map, sym, ap, ◌∙◌}
use Rattle.hy_threads.specs.Rule.{content}
use Rattle.hy_threads.proofs.Slots.{none_empty}
use Rattle.hy_threads.proofs.parts.take_from_slots.Goals as goal

pub unreachable-requires : goal.unreachable-requires
unreachable-requires g c =
    let l = c.loop-slot in let more = c.next.new.self.rest.items in
    let h : l.slot-iterator.rest.items ≡ c.in-Some.slot ∷ more = search rules in
    let here = sym (ap (λ slot. l.yielded ++ slot ∷ more) c.in_default.is) in
    let whole = here ∙ (ap (λ xs. l.yielded ++ xs) (sym h) ∙ l.invariant.0) in
    none_empty l.yielded more c.requires.home.0 (ap (map content) whole ∙ c.requires.home.1)
