use Rattle.std.specs.Prelude.{◌*◌}
use Rattle.hy_dump.proofs.TablesRead.{accepted_tables}
use Rattle.hy_dump.proofs.RowsRead.{accepted_rows}
use Rattle.hy_dump.proofs.laws.what_is_read_can_be_written.Goals as goal

pub returns : goal.returns
returns c bytes options script reads =
    let parses = c.scripts_are_parsed.ensures.statement in
    let accepted = (c.sentences_are_accepted.ensures bytes options script).0 reads in
    let fits = c.what_is_read_fits.ensures.script bytes options script reads in
    let given = (c.what_is_read_is_bound.ensures bytes options script reads).rows in
    record {
      defined = accepted_tables parses bytes options script accepted fits.few_tables fits.tables;
      filled = accepted_rows parses bytes options script (options.chunks * options.rows) accepted given fits.first_rows;
    }
