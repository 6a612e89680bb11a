-- Bytes that come or go piece by piece.
use Rattle.std.proofs.Common.{◌≡◌, ℕ, ◌+◌, ◌≤◌, List, ◌++◌, length, take, drop, Option, Some, None, sym, ap, ◌∙◌, subst, arith, length-append}
use Rattle.std.proofs.Math.Seq.{take-add, take-append_seam, drop-append_seam}
use Rattle.std.proofs.lemmas.List.{drop-drop, length-take-le, take-append-drop}
use Rattle.std.proofs.lemmas.Grind.{common_steps}
use Rattle.std.proofs.KnownBytes.{Appends-trans, Consumes-trans}
use Rattle.hy_outside.specs.Telling.{Gives, GivesAtMost, GivesPast, Takes}

-- after the first bytes, the sink took the next
pub Takes-more : (before between after : Option (List ℕ)) (bytes : List ℕ) (done count : ℕ)
    → Takes before between (take done bytes) → Takes between after (take count (drop done bytes)) → Takes before after (take (done + count) bytes)
Takes-more before between after bytes done count first next =
    subst (Takes before after) (sym (take-add done count bytes)) (Appends-trans before between after (take done bytes) (take count (drop done bytes)) first next)

-- after these bytes, the source gave the next
pub GivesAtMost-more : (before between after : Option (List ℕ)) (bytes next : List ℕ) (limit : ℕ)
    → Gives before between bytes → Gives between after next → length bytes + length next ≤ limit → GivesAtMost before after limit
GivesAtMost-more before between after bytes next limit first second short =
    (bytes ++ next, omega (arith, length-append bytes next), Consumes-trans before between after bytes next first second)

-- the last bytes, behind the first
pub behind_first : (all first left : List ℕ) (count : ℕ) → all ≡ first ++ left → length first ≡ count → left ≡ drop count all
behind_first all first left count whole long = grind (arith, common_steps, drop-append_seam first left)

-- a source that gave one byte more than the limit had more than the limit
pub GivesPast-given : (before after : Option (List ℕ)) (bytes : List ℕ) (limit : ℕ)
    → Gives before after bytes → length bytes ≡ limit + 1 → GivesPast before after limit
GivesPast-given None after bytes limit given long = tt
GivesPast-given (Some all) None bytes limit given long = absurd given
GivesPast-given (Some all) (Some left) bytes limit given long =
    (omega (arith, ap length given, length-append bytes left), ap Some (behind_first all bytes left (limit + 1) given long))

-- what was left are the bytes that were copied to the front, and the bytes that are left now
pub left-given : (all after behind : List ℕ) (taken count : ℕ)
    → count ≤ length (drop taken all) → after ≡ take count (drop taken all) ++ behind → drop taken all ≡ take count after ++ drop (taken + count) all
left-given all after behind taken count enough copied =
    let given : List ℕ = take count (drop taken all) in
    let long : length given ≡ count = length-take-le count (drop taken all) enough in
    let front : take count after ≡ given = ap (take count) copied ∙ subst (λ n. take n (given ++ behind) ≡ given) long (take-append_seam given behind) in
    sym (take-append-drop count (drop taken all))
    ∙ ap (λ xs. xs ++ drop count (drop taken all)) (sym front)
    ∙ ap (λ xs. take count after ++ xs) (drop-drop count taken all)
