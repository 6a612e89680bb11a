use Rattle.std.proofs.Common.{◌<◌, List, [], length, get_or, refl, sym, ap, ◌∙◌, arith}
use Rattle.std.proofs.Math.ListN.{set}
use Rattle.std.proofs.lemmas.List.{set-get_or, get_or_default}
use Rattle.hy_value.specs.declared.Value.TheVariants.{Null}
use Rattle.hy_value.specs.declared.Kind.TheVariants.{Int}
use Rattle.hy_value.specs.declared.Kind.{Kind}
use Rattle.hy_value.specs.declared.Value.{Value}
use Rattle.hy_column.specs.Cells.{kind_texts}
use Rattle.hy_chunk.proofs.TextPlaces.{still_ready, texts_behind}
use Rattle.hy_chunk.specs.Noting.{changes_noted}
use Rattle.hy_chunk.proofs.Over.{over, over_at, length_over, fits_length, image_length, value_fits, copied_at, row_now, row_more, over_all, values_more, changes_length}
use Rattle.hy_chunk.proofs.rows.exchange_row.Goals as goal

pub loop-column-init : goal.loop-column-init
loop-column-init c = record {
  size = fits_length c.args.columns.now.kinds c.args.row.now c.requires.new;
  kinds = refl;
  rows = sym (set-get_or c.args.columns.now.rows c.args.place []);
  values = refl;
  live = refl;
  free = c.requires.free;
  slots = refl;
  places = refl;
  count = refl;
}

pub exchange_value-requires-clause-was : goal.exchange_value-requires-clause-was
exchange_value-requires-clause-was c d =
    let kinds = c.args.columns.now.kinds in
    let row = c.args.row.now in
    let old = get_or c.args.columns.now.rows c.args.place [] in
    let k = c.loop-column.column in
    let inside : k < length kinds = omega (arith, c.loop-column-test.true, c.width-column-end.ensures) in
    let size = fits_length kinds row c.requires.new in
    let was = fits_length kinds old c.requires.old in
    let now = row_now c.args.columns.now.rows c.loop-column.columns.rows c.args.place (over k row old) c.requires.within c.loop-column.invariant.rows in
    value_fits kinds c.loop-column.columns.kinds old k Int (get_or old k d) (get_or (get_or c.loop-column.columns.rows c.args.place []) k d)
    c.loop-column.invariant.kinds c.requires.old inside
    (ap (λ (values : List Value). get_or values k d) now ∙ over_at k row old d (size ∙ sym was)) (get_or_default old k d _ (omega (arith, inside, was)))

pub exchange_value-requires-clause-free : goal.exchange_value-requires-clause-free
exchange_value-requires-clause-free c =
    let kinds = c.args.columns.now.kinds in
    let k = c.loop-column.column in
    let inside : k < length kinds = omega (arith, c.loop-column-test.true, c.width-column-end.ensures) in
    let free = c.loop-column.invariant.free in
    let same = ap (λ (ks : List Kind). kind_texts (get_or ks k Int)) c.loop-column.invariant.kinds in
    omega (arith, free, same, texts_behind kinds k Int inside)

pub exchange_value-requires-clause-there : goal.exchange_value-requires-clause-there
exchange_value-requires-clause-there c =
    let kinds = c.args.columns.now.kinds in
    let old = get_or c.args.columns.now.rows c.args.place [] in
    let k = c.loop-column.column in
    let was = fits_length kinds old c.requires.old in
    let now = ap length (row_now c.args.columns.now.rows c.loop-column.columns.rows c.args.place (over k c.args.row.now old) c.requires.within
    c.loop-column.invariant.rows) in
    omega (arith, c.loop-column-test.true, c.width-column-end.ensures, was, now, length_over k c.args.row.now old)

pub exchange_value-requires-clause-slot : goal.exchange_value-requires-clause-slot
exchange_value-requires-clause-slot c =
    let kinds = c.args.columns.now.kinds in
    let old = get_or c.args.columns.now.rows c.args.place [] in
    let image = c.args.image.now.values in
    let k = c.loop-column.column in
    let slots = image_length kinds image c.requires.image in
    let now = ap length c.loop-column.invariant.values in
    let less : k < length c.loop-column.image.values =
    omega (arith, c.loop-column-test.true, c.width-column-end.ensures, slots, now, length_over k (changes_noted old c.args.row.now image) image) in
    less

pub exchange_value-requires-clause-fits : goal.exchange_value-requires-clause-fits
exchange_value-requires-clause-fits c =
    let kinds = c.args.columns.now.kinds in
    let row = c.args.row.now in
    let k = c.loop-column.column in
    let inside : k < length kinds = omega (arith, c.loop-column-test.true, c.width-column-end.ensures) in
    let size = fits_length kinds row c.requires.new in
    let v = c.index-as_slice-column.result in
    value_fits kinds c.loop-column.columns.kinds row k Int v v c.loop-column.invariant.kinds c.requires.new inside refl
    (copied_at c.as_slice.result.now row k v v refl c.index-as_slice-column.is c.as_slice.ensures (omega (arith, inside, size)))

pub loop-column-preserved : goal.loop-column-preserved
loop-column-preserved c =
    let kinds = c.args.columns.now.kinds in
    let row = c.args.row.now in
    let rows = c.args.columns.now.rows in
    let old = get_or rows c.args.place [] in
    let image = c.args.image.now.values in
    let k = c.loop-column.column in
    let inside : k < length kinds = omega (arith, c.loop-column-test.true, c.width-column-end.ensures) in
    let size = fits_length kinds row c.requires.new in
    let was = fits_length kinds old c.requires.old in
    let slots = image_length kinds image c.requires.image in
    let less : k < length row = omega (arith, inside, size) in
    let v = c.index-as_slice-column.result in
    let at = copied_at c.as_slice.result.now row k v v refl c.index-as_slice-column.is c.as_slice.ensures less in
    let now = get_or c.loop-column.columns.rows c.args.place [] in
    record {
      size = size;
      kinds = c.exchange_value.ensures.kinds ∙ c.loop-column.invariant.kinds;
      rows = row_more rows c.exchange_value.new.columns.rows c.loop-column.columns.rows c.args.place k row v c.requires.within
          c.loop-column.invariant.rows c.exchange_value.ensures.rows less (size ∙ sym was) at;
      values = values_more old row now image c.loop-column.image.values c.exchange_value.new.image.values k v Null (size ∙ sym was) (slots ∙ sym was)
          (omega (arith, inside, was)) at
          (row_now rows c.loop-column.columns.rows c.args.place (over k row old) c.requires.within c.loop-column.invariant.rows)
          c.loop-column.invariant.values (c.exchange_value.ensures.values Null);
      live = c.exchange_value.ensures.live ∙ c.loop-column.invariant.live;
      free =
          let free = c.loop-column.invariant.free in
          let left = c.exchange_value.ensures.free in
          let same = ap (λ (ks : List Kind). kind_texts (get_or ks k Int)) c.loop-column.invariant.kinds in
          omega (arith, free, left, same, texts_behind kinds k Int inside);
      slots = c.exchange_value.ensures.same.0 ∙ c.loop-column.invariant.slots;
      places = c.exchange_value.ensures.same.1 ∙ c.loop-column.invariant.places;
      count = c.exchange_value.ensures.count ∙ c.loop-column.invariant.count;
    }

pub returns-clause-ready : goal.returns-clause-ready
returns-clause-ready c kinds ready = still_ready kinds c.args.spare.now c.loop-column.spare c.loop-column.invariant.slots c.loop-column.invariant.places ready

pub returns-clause-rows : goal.returns-clause-rows
returns-clause-rows c =
    let kinds = c.args.columns.now.kinds in
    let row = c.args.row.now in
    let old = get_or c.args.columns.now.rows c.args.place [] in
    let size = fits_length kinds row c.requires.new in
    let was = fits_length kinds old c.requires.old in
    c.loop-column.invariant.rows
    ∙ ap (set c.args.columns.now.rows c.args.place)
    (over_all c.loop-column.column row old (size ∙ sym was) (omega (arith, size, c.loop-column-test.false, c.width-column-end.ensures)))

pub returns-clause-values : goal.returns-clause-values
returns-clause-values c =
    let kinds = c.args.columns.now.kinds in
    let row = c.args.row.now in
    let old = get_or c.args.columns.now.rows c.args.place [] in
    let image = c.args.image.now.values in
    let size = fits_length kinds row c.requires.new in
    let was = fits_length kinds old c.requires.old in
    let slots = image_length kinds image c.requires.image in
    let same = changes_length old row image (size ∙ sym was) (slots ∙ sym was) in
    c.loop-column.invariant.values ∙ over_all c.loop-column.column (changes_noted old row image) image same
    (omega (arith, same, slots, c.loop-column-test.false, c.width-column-end.ensures))
