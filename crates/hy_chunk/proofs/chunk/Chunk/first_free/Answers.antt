use Rattle.std.proofs.Common.{◌≡◌, ℕ, ◌≤◌, [], length, sym, ap, ◌∙◌, arith, inl, inr}
use Rattle.std.specs.Prelude.{not}
use Rattle.std.proofs.lemmas.Bool.{cases_eq, cases_lt}
use Rattle.std.proofs.lemmas.List.Sums.{prefix_len_is}
use Rattle.hy_undo.specs.Places.{Place, is_free}
use Rattle.hy_chunk.specs.Fields.{nth, blank_with}
use Rattle.hy_chunk.specs.Steps.{least_free}
use Rattle.hy_chunk.specs.Views.{Whole}
use Rattle.hy_chunk.proofs.chunk.Chunk.first_free.Goals as goal

pub returns-then-is_free-clause-least : goal.returns-then-is_free-clause-least
returns-then-is_free-clause-least c =
    let places = c.self.inside.positions.places in
    sym (prefix_len_is (λ (p : Place). not (is_free c.args.watermark p)) places c.loop-place.place (blank_with []) c.loop-place.invariant.within
    c.loop-place.invariant.passed (λ l. ap not (sym c.is_free.ensures ∙ c.if-is_free.true)))
    ∙ ap (λ (w : Whole). least_free c.args.watermark w.shown.places) c.self.view_is

pub returns-clause-least : goal.returns-clause-least
returns-clause-least c =
    let places = c.self.inside.positions.places in
    let size : c.len-end.result ≡ length places = c.len-end.ensures in
    let end : length places ≤ c.loop-place.place = omega (arith, c.loop-place-test.false, size) in
    sym (prefix_len_is (λ (p : Place). not (is_free c.args.watermark p)) places c.len-end.result (blank_with []) (omega (arith, size))
    (λ k l. c.loop-place.invariant.passed k (omega (arith, l, size, end))) (λ l. absurd (omega (arith, l, size))))
    ∙ ap (λ (w : Whole). least_free c.args.watermark w.shown.places) c.self.view_is

pub loop-place-init : goal.loop-place-init
loop-place-init c = record {
  within = c.next_vacant-place.ensures.within;
  passed = λ k l. ap not (c.next_vacant-place.ensures.passed c.args.watermark k (omega arith) l);
}

pub loop-place-preserved : goal.loop-place-preserved
loop-place-preserved c = record {
  within = c.next_vacant-place-in-loop-place.ensures.within;
  passed = λ k l. elim (cases_lt k c.loop-place.place) [
    | inl before ↦ c.loop-place.invariant.passed k before
    | inr later ↦ elim (cases_eq k c.loop-place.place) [
      | inl same ↦ ap (λ (j : ℕ). not (is_free c.args.watermark (nth c.self.inside.positions.places j))) same
          ∙ ap not (sym c.is_free.ensures ∙ c.if-is_free.false)
      | inr other ↦ ap not (c.next_vacant-place-in-loop-place.ensures.passed c.args.watermark k (omega (arith, later, other)) l)
    ]
  ];
}
