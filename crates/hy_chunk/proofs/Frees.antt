-- The least position that may take a new row.
use Rattle.std.proofs.Common.{◌≡◌, ℕ, ◌<◌, Bool, true, false, List, [], length, ap, ◌∙◌, subst}
use Rattle.std.specs.Prelude.{not}
use Rattle.std.proofs.Math.ListN.{set}
use Rattle.std.proofs.lemmas.List.Sums.{prefix_len_stops}
use Rattle.hy_undo.specs.Places.{Place, is_free}
use Rattle.hy_chunk.specs.Fields.{nth, blank_with}
use Rattle.hy_chunk.specs.Steps.{least_free, IsPut}

not_not : (b : Bool) → not b ≡ false → b ≡ true
not_not true e = λ i. true
not_not false e = absurd (cc)

least_is_free : (watermark : ℕ) (places : List Place) → least_free watermark places < length places
    → is_free watermark (nth places (least_free watermark places)) ≡ true
least_is_free watermark places l =
    not_not (is_free watermark (nth places (least_free watermark places)))
    (prefix_len_stops (λ (p : Place). not (is_free watermark p)) places (blank_with []) l)

pub put_there : (does : Place → Place → Type 0) (watermark : ℕ) (olds news : List Place) (k : ℕ) → k ≡ least_free watermark olds → k < length olds
    → news ≡ set olds k (nth news k)
    → (is_free watermark (nth olds k) ≡ true → does (nth olds k) (nth news k)) → IsPut (least_free watermark olds) does olds news
put_there does watermark olds news k is l others here =
    let free : is_free watermark (nth olds k) ≡ true =
    ap (λ (j : ℕ). is_free watermark (nth olds j)) is ∙ least_is_free watermark olds (subst (λ (j : ℕ). j < length olds) is l) in
    let put : IsPut k does olds news = record { others = others; here = here free } in
    subst (λ (j : ℕ). IsPut j does olds news) is put
