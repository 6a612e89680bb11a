use Rattle.std.proofs.Common.{◌<◌, [], length, get_or, refl, sym, ap, ◌∙◌, arith}
use Rattle.std.proofs.lemmas.List.{set-get_or}
use Rattle.hy_value.specs.Refs.{referred}
use Rattle.hy_value.specs.declared.Kind.TheVariants.{Int}
use Rattle.hy_chunk.proofs.Over.{fits_length, value_fits, copied_at, row_more, over_all}
use Rattle.hy_chunk.proofs.rows.put_row.Goals as goal

pub loop-column-init : goal.loop-column-init
loop-column-init c = record {
  size = fits_length c.args.columns.now.kinds c.args.row.now c.requires.new;
  kinds = refl;
  rows = sym (set-get_or c.args.columns.now.rows c.args.place []);
}

pub put-requires-clause-fits : goal.put-requires-clause-fits
put-requires-clause-fits c =
    let kinds = c.args.columns.now.kinds in
    let row = c.args.row.now in
    let k = c.loop-column.column in
    let inside : k < length kinds = omega (arith, c.loop-column-test.true, c.width-column-end.ensures) in
    let size = fits_length kinds row c.requires.new in
    value_fits kinds c.loop-column.columns.kinds row k Int (referred c.refer.result) (referred c.refer.result) c.loop-column.invariant.kinds c.requires.new inside refl
    (copied_at c.as_slice.result.now row k c.index-as_slice-column.result (referred c.refer.result) c.refer.ensures c.index-as_slice-column.is c.as_slice.ensures
    (omega (arith, inside, size)))

pub loop-column-preserved : goal.loop-column-preserved
loop-column-preserved c =
    let kinds = c.args.columns.now.kinds in
    let row = c.args.row.now in
    let k = c.loop-column.column in
    let inside : k < length kinds = omega (arith, c.loop-column-test.true, c.width-column-end.ensures) in
    let size = fits_length kinds row c.requires.new in
    let was = fits_length kinds (get_or c.args.columns.now.rows c.args.place []) c.requires.old in
    let less : k < length row = omega (arith, inside, size) in
    record {
      size = size;
      kinds = c.put.ensures.kinds ∙ c.loop-column.invariant.kinds;
      rows = row_more c.args.columns.now.rows c.put.new.self.rows c.loop-column.columns.rows c.args.place k row (referred c.refer.result) c.requires.within
          c.loop-column.invariant.rows c.put.ensures.rows less (size ∙ sym was)
          (copied_at c.as_slice.result.now row k c.index-as_slice-column.result (referred c.refer.result) c.refer.ensures c.index-as_slice-column.is
          c.as_slice.ensures less);
    }

pub returns-clause-rows : goal.returns-clause-rows
returns-clause-rows c =
    let kinds = c.args.columns.now.kinds in
    let row = c.args.row.now in
    let old = get_or c.args.columns.now.rows c.args.place [] in
    let size = fits_length kinds row c.requires.new in
    let was = fits_length kinds old c.requires.old in
    c.loop-column.invariant.rows
    ∙ ap (Rattle.std.proofs.Math.ListN.set c.args.columns.now.rows c.args.place)
    (over_all c.loop-column.column row old (size ∙ sym was) (omega (arith, size, c.loop-column-test.false, c.width-column-end.ensures)))
