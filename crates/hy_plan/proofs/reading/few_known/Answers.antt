use Rattle.std.proofs.Common.{rules, ◌≡◌, ◌+◌, ◌-◌, ◌<◌, ◌≤◌, true, drop, length, ap, sym, ◌∙◌, arith}
use Rattle.std.specs.Prelude.{not}
use Rattle.hy_value.specs.Sorted.{with_value}
use Rattle.hy_bound.specs.Predicate.{is_null_value}
use Rattle.hy_plan.specs.Reads.{known_values_of, most_keys}
use Rattle.hy_plan.proofs.Values.{known_step, known_behind, too_many}
use Rattle.hy_plan.proofs.reading.few_known.Goals as goal

pub returns-then-len-gt-MOST_KEYS : goal.returns-then-len-gt-MOST_KEYS
returns-then-len-gt-MOST_KEYS c =
    let vs = c.args.values.now in
    let i = c.loop-left.left - 1 in
    let v = c.index-values-left.result in
    let e : c.loop-left.left ≡ i + 1 = omega arith in
    let known : not (is_null_value v) ≡ true = search rules in
    let put : c.insert.new.self ≡ with_value c.loop-left.known v = search rules in
    let those : c.insert.new.self ≡ known_values_of (drop i vs) =
    put ∙ (ap (λ vs. with_value vs v) (c.loop-left.invariant.those ∙ ap (λ k. known_values_of (drop k vs)) e)
    ∙ sym (known_step vs i v (omega arith) c.index-values-left.is known)) in
    let many : most_keys < length c.insert.new.self = search rules in
    let h : length (known_values_of (drop i vs)) ≤ length (known_values_of vs) = known_behind vs i in
    let n : length c.insert.new.self ≡ length (known_values_of (drop i vs)) = ap length those in
    sym (too_many (known_values_of vs) (omega arith))
