use Rattle.std.proofs.Common.{sym, ◌∙◌}
use Rattle.hy_chunk.specs.Fields.{nth}
use Rattle.hy_chunk.proofs.Masking.{is_false, nothing_wanted}
use Rattle.hy_chunk.proofs.masks.is_passed.Goals as goal

pub returns-then-not-get : goal.returns-then-not-get
returns-then-not-get c = λ passed viewer.
    let pred = c.args.wanted.now.pred.now in
    let places = c.args.positions.now.places in
    let chain = c.is_versioned.ensures (is_false c.is_versioned.result passed) in
    nothing_wanted c.args.wanted.now.columns pred c.args.wanted.now.keys (nth places c.args.place) chain
    (c.requires.mask.clear c.args.place c.requires.within (sym c.get.ensures ∙ c.if-not-get.true)) viewer
