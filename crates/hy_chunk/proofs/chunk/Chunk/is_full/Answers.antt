use Rattle.std.proofs.Common.{◌≡◌, [], length, ap, subst, arith}
use Rattle.std.specs.Prelude.{not}
use Rattle.std.proofs.lemmas.List.Sums.{prefix_len_is}
use Rattle.hy_undo.specs.Places.{Place, is_free}
use Rattle.hy_chunk.specs.Fields.{blank_with}
use Rattle.hy_chunk.specs.Steps.{least_free}
use Rattle.hy_chunk.specs.Views.{Whole}
use Rattle.hy_chunk.proofs.chunk.Chunk.is_full.Goals as goal

pub returns : goal.returns
returns c = λ full watermark.
    let places = c.self.inside.positions.places in
    let all : least_free watermark places ≡ length places =
    prefix_len_is (λ (p : Place). not (is_free watermark p)) places (length places) (blank_with []) (omega arith)
    (λ k l. ap not (c.is_full.ensures full watermark k (omega arith) l)) (λ l. absurd (omega (arith, l))) in
    subst (λ (w : Whole). least_free watermark w.shown.places ≡ length w.shown.places) c.self.view_is all
