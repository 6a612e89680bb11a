use Rattle.std.proofs.Common.{◌≡◌, ◌≤◌, ◌++◌, List, [], length, map, ap, ◌∙◌, inl, inr, arith, subst}
use Rattle.hy_value.specs.declared.Value.{Value}
use Rattle.hy_undo.specs.Places.{Cell, Place, in_place}
use Rattle.hy_undo.specs.Chunks.{rows_seen}
use Rattle.hy_chunk.specs.Fields.{nth}
use Rattle.hy_chunk.specs.Gathering.{conditions_of, gathered_by, gathered_of, kept_by}
use Rattle.hy_chunk.specs.Parts.{part_of}
use Rattle.hy_chunk.specs.Views.{Whole}
use Rattle.hy_chunk.proofs.Asking.{ok_weaker}
use Rattle.hy_chunk.proofs.Placing.{err_from, gathered_parts, plain_seen, still_front}
use Rattle.hy_chunk.proofs.chunk.Chunk.gather_by_mask.Goals as goal

pub returns-in_err-gather_by_row-clause-err : goal.returns-in_err-gather_by_row-clause-err
returns-in_err-gather_by_row-clause-err c =
    err_from c.from_residual-in_err-gather_by_row.result _
    (still_front c.args.gathered.now.rows _ c.gather_plain.new.gathered.rows c.gather_by_row.new.gathered.rows c.in_ok-gather_plain.ensures.rows
    c.in_err-gather_by_row.ensures.err)

pub returns-clause-rows : goal.returns-clause-rows
returns-clause-rows c =
    let places = c.args.self.now.shown.places in
    let columns = c.args.wanted.now.columns in
    let pred = c.args.wanted.now.pred.now in
    let keys = c.args.wanted.now.keys in
    let viewer = c.args.viewer.now in
    let old = c.args.gathered.now.rows in
    let first = c.versioned_part-versioned.result.first in
    let end = c.versioned_part-versioned.result.end in
    let keeps : Cell → List (List Value) = kept_by columns (conditions_of pred keys) in
    let view : c.self.inside.positions.places ≡ places = ap (λ (w : Whole). w.shown.places) c.self.view_is in
    let size : c.len.result ≡ length places = c.len.ensures ∙ ap length view in
    let within : end ≤ length places = omega (arith, c.versioned_part-versioned.ensures.within, ap length view) in
    let front : gathered_of columns pred (map in_place (part_of 0 first places)) ≡ gathered_by columns (conditions_of pred keys) (rows_seen viewer (part_of 0 first places)) =
    plain_seen columns pred keys viewer places 0 first c.requires.keys (omega arith) (omega (arith, within, c.versioned_part-versioned.ensures.ordered))
    (λ k above below. subst (λ (ps : List Place). (nth ps k).chain ≡ []) view (c.versioned_part-versioned.ensures.others k (omega (arith, below, c.versioned_part-versioned.ensures.ordered, c.versioned_part-versioned.ensures.within)) (inl below))) in
    let back : gathered_of columns pred (map in_place (part_of end (length places) places))
    ≡ gathered_by columns (conditions_of pred keys) (rows_seen viewer (part_of end (length places) places)) =
    plain_seen columns pred keys viewer places end (length places) c.requires.keys within (omega arith)
    (λ k above below. subst (λ (ps : List Place). (nth ps k).chain ≡ []) view
    (c.versioned_part-versioned.ensures.others k (omega (arith, below, ap length view)) (inr above))) in
    ok_weaker c.gather_plain-2.result _ (c.gather_plain-2.new.gathered.rows ≡ old ++ gathered_by columns (conditions_of pred keys) (rows_seen viewer places))
    (λ e. gathered_parts keeps viewer places first end old c.gather_plain.new.gathered.rows c.gather_by_row.new.gathered.rows
    c.gather_plain-2.new.gathered.rows c.versioned_part-versioned.ensures.ordered within
    (c.in_ok-gather_plain.ensures.rows ∙ ap (λ (rows : List (List Value)). old ++ rows) front)
    c.in_ok-gather_by_row.ensures.rows
    (e ∙ (λ i. c.gather_by_row.new.gathered.rows
    ++ gathered_of columns pred (map in_place (part_of end (size i) (c.in_ok-gather_by_row.ensures.all i).shown.places)))
    ∙ ap (λ (rows : List (List Value)). c.gather_by_row.new.gathered.rows ++ rows) back))
    c.gather_plain-2.ensures.rows
