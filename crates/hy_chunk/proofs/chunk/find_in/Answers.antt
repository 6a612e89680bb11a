use Rattle.std.proofs.Common.{◌≡◌, ℕ, Bool, length, sym, ap, ◌∙◌, arith, subst}
use Rattle.hy_value.specs.declared.Value.{Value}
use Rattle.hy_bound.specs.Predicate.{truth_at}
use Rattle.hy_plan.specs.Reads.{key_is_value}
use Rattle.hy_undo.specs.declared.version.Version.{Version}
use Rattle.hy_undo.specs.Places.{Cell, cell_of, sees}
use Rattle.hy_chunk.specs.Fields.{nth}
use Rattle.hy_chunk.specs.Keyed.{AreFound}
use Rattle.hy_chunk.proofs.Over.{fits_length}
use Rattle.hy_chunk.proofs.Looks.{found_at}
use Rattle.hy_chunk.proofs.Lookups.{all_within, none_found, none_of_more}
use Rattle.hy_chunk.proofs.chunk.find_in.Goals as goal

pub see-requires-clause-within : goal.see-requires-clause-within
see-requires-clause-within c =
    let within = all_within (length c.args.positions.now.places) c.find-found.result c.loop-i.i c.find-found.ensures.within
    (omega (arith, c.loop-i-test.true, c.len-i-end.ensures)) in
    omega (arith, within, c.at.ensures)

pub returns-then-has_value-clause-found : goal.returns-then-has_value-clause-found
returns-then-has_value-clause-found c =
    let places = c.args.positions.now.places in
    let here : cell_of c.see.new.version ≡ sees c.args.viewer.now (nth places c.at.result) = ap (λ (v : Version). cell_of v) c.see.ensures.version in
    let test : Cell → Bool = truth_at (key_is_value c.args.column c.args.value.now) in
    let within = all_within (length places) c.find-found.result c.loop-i.i c.find-found.ensures.within
    (omega (arith, c.loop-i-test.true, c.len-i-end.ensures)) in
    sym (found_at test c.args.viewer.now places c.at.result (omega (arith, within, c.at.ensures))
    (ap test (sym here) ∙ (sym c.has_value.ensures ∙ c.if-has_value.true)))

pub loop-i-preserved : goal.loop-i-preserved
loop-i-preserved c =
    let places = c.args.positions.now.places in
    let here : cell_of c.see.new.version ≡ sees c.args.viewer.now (nth places c.at.result) = ap (λ (v : Version). cell_of v) c.see.ensures.version in
    let test : Cell → Bool = truth_at (key_is_value c.args.column c.args.value.now) in
    record {
      width = fits_length c.args.positions.now.kinds c.see.new.version.row c.see.ensures.fits;
      none = none_of_more test c.args.viewer.now places c.find-found.result c.loop-i.i c.loop-i.invariant.none
          (ap (λ (p : ℕ). test (sees c.args.viewer.now (nth places p))) (sym c.at.ensures)
          ∙ (ap test (sym here) ∙ (sym c.has_value.ensures ∙ c.if-has_value.false)));
    }

pub returns-clause-found : goal.returns-clause-found
returns-clause-found c =
    sym (none_found c.args.column c.args.value.now c.args.viewer.now c.args.positions.now.places c.find-found.result
    (subst (λ (v : Value). AreFound c.args.column v c.args.positions.now.places c.find-found.result) c.refer.ensures c.find-found.ensures.all)
    (λ j l. c.loop-i.invariant.none j (omega (arith, l, c.loop-i-test.false, c.len-i-end.ensures))))

pub returns-then-has_value-clause-width : goal.returns-then-has_value-clause-width
returns-then-has_value-clause-width c = fits_length c.args.positions.now.kinds c.see.new.version.row c.see.ensures.fits
