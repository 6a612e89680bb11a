use Rattle.std.proofs.Common.{◌≡◌, ℕ, ◌<◌, Bool, false, List, length, get_or, sym, ap, ◌∙◌, arith}
use Rattle.hy_kernel.specs.Bits.{is_bit, bits_below}
use Rattle.hy_kernel.proofs.Listed.{bit_of, length_below}
use Rattle.hy_kernel.proofs.masks.Mask.next_set.Goals as goal

-- the bit of a list at a place is that of its words
bit_in : (bits : ℕ) (words slice : List ℕ) (list : List Bool) (place : ℕ) → bits_below bits words ≡ list → slice ≡ words → place < bits → get_or list place false ≡ is_bit slice place
bit_in bits words slice list place is same l =
    ap (λ (bs : List Bool). get_or bs place false) (sym is) ∙ (bit_of bits words place l ∙ ap (λ (ws : List ℕ). is_bit ws place) (sym same))

pub next-requires-clause-within : goal.next-requires-clause-within
next-requires-clause-within c = let many = ap length c.self.view_is in omega (arith, many, length_below c.self.inside.bits c.self.inside.words.items, c.requires)

pub returns-clause-within : goal.returns-clause-within
returns-clause-within c = let many = ap length c.self.view_is in omega (arith, many, length_below c.self.inside.bits c.self.inside.words.items, c.next.ensures.within)

pub returns-clause-passed : goal.returns-clause-passed
returns-clause-passed c = λ place reached before.
    bit_in c.self.inside.bits c.self.inside.words.items c.as_slice.result.now c.args.self.now place c.self.view_is c.as_slice.ensures.value
    (let within = c.next.ensures.within in omega (arith, before, within))
    ∙ c.next.ensures.passed place reached before

pub returns-clause-set : goal.returns-clause-set
returns-clause-set c = λ less.
    let many = ap length c.self.view_is in
    let within : c.next.result < c.self.inside.bits = omega (arith, many, length_below c.self.inside.bits c.self.inside.words.items, less) in
    bit_in c.self.inside.bits c.self.inside.words.items c.as_slice.result.now c.args.self.now c.next.result c.self.view_is c.as_slice.ensures.value within
    ∙ c.next.ensures.set within
