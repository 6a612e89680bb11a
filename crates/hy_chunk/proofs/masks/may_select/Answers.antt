use Rattle.std.proofs.Common.{sym, ap, ◌∙◌}
use Rattle.hy_bound.specs.Predicate.{truth_at}
use Rattle.hy_undo.specs.declared.version.Version.{Version}
use Rattle.hy_undo.specs.Places.{cell_of}
use Rattle.hy_chunk.specs.Fields.{nth}
use Rattle.hy_chunk.proofs.Candidates.{barred_in_place, none_in_place}
use Rattle.hy_chunk.proofs.Over.{fits_length}
use Rattle.hy_chunk.proofs.masks.may_select.Goals as goal

pub returns-then-not-is_live-clause-barred : goal.returns-then-not-is_live-clause-barred
returns-then-not-is_live-clause-barred c = λ no. record {
  chain = c.has_record.ensures c.if-has_record.false;
  barred = none_in_place c.args.pred.now (nth c.args.positions.now.places c.args.place) (sym c.is_live.ensures ∙ c.if-not-is_live.true);
}

pub returns-then-not-get-clause-barred : goal.returns-then-not-get-clause-barred
returns-then-not-get-clause-barred c = λ no. record {
  chain = c.has_record.ensures c.if-has_record.false;
  barred = barred_in_place c.args.pred.now (nth c.args.positions.now.places c.args.place)
      (c.requires.admits.clear c.args.place c.requires.within (sym c.get.ensures ∙ c.if-not-get.true));
}

pub returns-clause-barred : goal.returns-clause-barred
returns-clause-barred c = λ no. record {
  chain = c.has_record.ensures c.if-has_record.false;
  barred = ap (λ (v : Version). truth_at c.args.pred.now (cell_of v)) (sym c.read.ensures.version) ∙ (sym c.is_selected.ensures ∙ no);
}

pub returns-clause-width : goal.returns-clause-width
returns-clause-width c = fits_length c.args.positions.now.kinds c.read.new.version.row c.read.ensures.fits
