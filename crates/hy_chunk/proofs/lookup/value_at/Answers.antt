use Rattle.std.proofs.Common.{[], get_or, sym, arith}
use Rattle.std.proofs.lemmas.List.{get_or_read, get_or_past}
use Rattle.hy_value.specs.Refs.{referred}
use Rattle.hy_value.specs.declared.Value.TheVariants.{Null}
use Rattle.hy_chunk.proofs.Over.{fits_length}
use Rattle.hy_chunk.proofs.lookup.value_at.Goals as goal

pub returns-then-column-width : goal.returns-then-column-width
returns-then-column-width c =
    let row = get_or c.args.columns.now.rows c.args.place [] in
    get_or_read row c.args.column (referred c.refer.result)
    (omega (arith, c.if-column-width.true, c.width.ensures, fits_length c.args.columns.now.kinds row c.requires.fits)) c.refer.ensures Null

pub returns-else-column-width : goal.returns-else-column-width
returns-else-column-width c =
    let row = get_or c.args.columns.now.rows c.args.place [] in
    sym (get_or_past row c.args.column Null (omega (arith, c.if-column-width.false, c.width.ensures, fits_length c.args.columns.now.kinds row c.requires.fits)))
