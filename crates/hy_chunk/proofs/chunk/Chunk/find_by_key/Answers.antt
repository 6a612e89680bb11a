use Rattle.std.proofs.Common.{sym, ◌∙◌, subst}
use Rattle.hy_value.specs.Refs.{referred}
use Rattle.hy_chunk.specs.Candidates.{AreCandidates}
use Rattle.hy_chunk.specs.Views.{Whole}
use Rattle.hy_chunk.proofs.Candidates.{keyed_candidates}
use Rattle.hy_chunk.proofs.chunk.Chunk.find_by_key.Goals as goal

pub returns-in_ok-find_used-in-Some-value_asked : goal.returns-in_ok-find_used-in-Some-value_asked
returns-in_ok-find_used-in-Some-value_asked c =
    let pred = c.args.pred.now in
    let positions = c.self.inside.positions in
    let found = c.in_ok-find_used-in-Some-value_asked.field-0.items in
    let told = c.in_ok-find_used-in-Some-value_asked.ensures in
    subst (λ (w : Whole). AreCandidates pred w.shown.key w.shown.places found) c.self.view_is
    (keyed_candidates pred positions.key c.in-Some.key (referred c.in-Some-value_asked.value) positions.places found (sym c.key.ensures ∙ c.in-Some.is)
    c.in-Some-value_asked.ensures told.ascends told.within told.all)
