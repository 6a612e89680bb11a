use Rattle.std.proofs.Common.{◌≡◌, ℕ, ◌-◌, ◌*◌, ◌<◌, ◌∙◌, get_or}
use Rattle.std.specs.Prelude.{◌==◌, ◌&&◌, not, min, nat_lt, bit_and}
use Rattle.std.specs.Int.{bit_at, bit_not, w64}
use Rattle.hy_kernel.proofs.Gathered.{kept_word, word_kept}
use Rattle.hy_kernel.proofs.words.word_without.Goals as goal

pub returns : goal.returns
returns c =
    let words = c.args.words.now in
    let others = c.args.others.now in
    let k = c.args.k in
    let part = c.between.result in
    let same : (j : ℕ) → j < 64 → (bit_at part j == 1)
    ≡ ((not (nat_lt j (c.args.first - 64 * k)) && nat_lt j (min (c.args.end - 64 * k) 64)) && (bit_at (bit_and (get_or words k 0) (bit_not w64 (get_or others k 0))) j == 1)) =
    λ j l. c.between.ensures j l ∙ (λ t. (not (nat_lt j (c.saturating_sub-from.ensures t)) && nat_lt j (c.min.ensures t))
    && (bit_at (bit_and (get_or words k 0) (bit_not w64 (get_or others k 0))) j == 1)) in
    word_kept words others c.args.first c.args.end k part
    (λ i more less. kept_word words others c.args.first c.args.end k part i (c.type_inv.others k).fits more less same)
