-- A level is opened.
use Rattle.std.proofs.Common.{◌≡◌, ℕ, zero, suc, ◌≤◌, List, [], ◌∷◌, ◌++◌, length, drop, map, refl, sym, ap, ◌∙◌, arith}
use Rattle.std.specs.List.{AllByRecursion}
use Rattle.std.specs.Option.{option_or}
use Rattle.hy_value.specs.declared.change.Change.{Change}
use Rattle.hy_notes.specs.declared.blocks.Blocks.{Blocks}
use Rattle.hy_notes.specs.Blocks.{notes_in}
use Rattle.hy_notes.specs.Levels.{before_at, was_at, noted_since}
use Rattle.hy_notes.proofs.Since.{or_none, was_from, drop_stretches, since_same}

pushed_stretch : (olds : List Blocks) (b : Blocks) (k : ℕ) → k ≤ length olds → map notes_in (drop k (olds ++ b ∷ [])) ≡ map notes_in (drop k olds) ++ notes_in b ∷ []
pushed_stretch [] b zero l = refl
pushed_stretch (o ∷ os) b zero l = ap (λ (ss : List (List Change)). notes_in o ∷ ss) (pushed_stretch os b zero (omega arith))
pushed_stretch [] b (suc k) l = absurd (omega (arith, l))
pushed_stretch (o ∷ os) b (suc k) l = pushed_stretch os b k (omega (arith, l))

length_pushed : (olds : List Blocks) (b : Blocks) → length (olds ++ b ∷ []) ≡ suc (length olds)
length_pushed [] b = refl
length_pushed (o ∷ os) b = ap suc (length_pushed os b)

-- a blank stretch behind others tells nothing more
pub was_blank : (olds : List Blocks) (last blank : Blocks) (k table pos : ℕ) → k ≤ length olds → notes_in blank ≡ []
    → was_at (drop k (map notes_in (olds ++ last ∷ []) ++ notes_in blank ∷ [])) table pos ≡ was_at (drop k (map notes_in olds ++ notes_in last ∷ [])) table pos
was_blank olds last blank k table pos l none =
    let more = length_pushed olds last in
    was_from (olds ++ last ∷ []) (notes_in blank) k table pos (omega (arith, l, more))
    ∙ (ap (λ (ns : List Change). option_or (was_at (map notes_in (drop k (olds ++ last ∷ []))) table pos) (before_at ns table pos)) none
    ∙ (or_none (was_at (map notes_in (drop k (olds ++ last ∷ []))) table pos)
    ∙ ap (λ (ss : List (List Change)). was_at ss table pos) (pushed_stretch olds last k l ∙ sym (drop_stretches olds (notes_in last) k l))))

-- stretches that tell the same have the same notes since
pub since_alike : (stretches others : List (List Change)) (ns : List Change) → ((table pos : ℕ) → was_at others table pos ≡ was_at stretches table pos)
    → noted_since others ns ≡ noted_since stretches ns
since_alike stretches others ns same = since_same stretches others ns (all ns)
  where
    all : (ms : List Change) → AllByRecursion (λ n. was_at others n.table n.pos ≡ was_at stretches n.table n.pos) ms
    all [] = tt
    all (m ∷ ms) = (same m.table m.pos, all ms)

pub drop_none : {X : Type 0} (xs : List X) → drop 0 xs ≡ xs
drop_none [] = refl
drop_none (x ∷ xs) = refl

last_alone : (olds : List Blocks) (last : List Change) → drop (length olds) (map notes_in olds ++ last ∷ []) ≡ last ∷ []
last_alone [] last = refl
last_alone (o ∷ os) last = last_alone os last

since_blank : (ns : List Change) → noted_since ([] ∷ []) ns ≡ []
since_blank [] = refl
since_blank (n ∷ ns) = since_blank ns

-- since a stretch without notes began nothing is noted
pub none_since : (olds : List Blocks) (blank : Blocks) (ns : List Change) → notes_in blank ≡ [] → noted_since (drop (length olds) (map notes_in olds ++ notes_in blank ∷ [])) ns ≡ []
none_since olds blank ns none =
    ap (λ (ss : List (List Change)). noted_since ss ns) (last_alone olds (notes_in blank) ∙ ap (λ (xs : List Change). xs ∷ []) none) ∙ since_blank ns

-- the levels with one more, which begins with a stretch without notes
pub levels_opened : (stretches others : List (List Change)) (begins : List ℕ) (most last : ℕ) (ns : List Change) → AllByRecursion (λ begin. begin ≤ most) begins
    → ((k : ℕ) → k ≤ most → noted_since (drop k others) ns ≡ noted_since (drop k stretches) ns) → noted_since (drop last others) ns ≡ []
    → map (λ begin. noted_since (drop begin others) ns) (begins ++ last ∷ []) ≡ map (λ begin. noted_since (drop begin stretches) ns) begins ++ [] ∷ []
levels_opened stretches others [] most last ns all same none = ap (λ (xs : List Change). xs ∷ []) none
levels_opened stretches others (k ∷ ks) most last ns all same none =
    ap (λ (p : List Change × List (List Change)). p.0 ∷ p.1) (λ i. (same k all.0 i, levels_opened stretches others ks most last ns all.1 same none i))

pub begins_wider : (begins : List ℕ) (most more : ℕ) → most ≤ more → AllByRecursion (λ begin. begin ≤ most) begins → AllByRecursion (λ begin. begin ≤ more) begins
begins_wider [] most more le all = tt
begins_wider (k ∷ ks) most more le all = (omega (arith, le, all.0), begins_wider ks most more le all.1)
