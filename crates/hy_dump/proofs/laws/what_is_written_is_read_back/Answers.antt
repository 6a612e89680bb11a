use Rattle.hy_dump.proofs.ReadBack.{accepted}
use Rattle.hy_dump.proofs.Told.{Laws}
use Rattle.hy_dump.specs.ReadBack.{only_tables, whole_text}
use Rattle.hy_dump.proofs.laws.what_is_written_is_read_back.Goals as goal

pub returns : goal.returns
returns c options catalog tables can short =
    let fit = c.accepted_definitions_fit.ensures in
    let laws : Laws options = record {
      parses = c.scripts_are_parsed.ensures.statement;
      table = λ script sofar table columns. fit.table script options sofar table columns;
      row = λ script sofar table values. fit.row script options sofar table values;
      ties = c.order_is_total.ensures.ties;
    } in
    (c.sentences_are_accepted.ensures (whole_text catalog tables) options (only_tables options catalog tables)).1
    (accepted options laws (fit.first options) catalog tables can short)
