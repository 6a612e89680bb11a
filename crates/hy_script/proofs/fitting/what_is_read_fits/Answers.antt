use Rattle.hy_script.proofs.Kept.{Laws, reads_fit}
use Rattle.hy_script.proofs.fitting.what_is_read_fits.Goals as goal

pub returns : goal.returns
returns c =
    let laws : Laws = record { order = c.order_is_total.ensures.values; parsing = c.scripts_are_parsed.ensures.statement; binding = c.bound_statements_fit.ensures } in
    record {
      script = λ bytes options script reads. (reads_fit laws bytes options script reads).fits;
      schedule = λ bytes options script reads. (reads_fit laws bytes options script reads).schedule;
      options = λ bytes options script reads. (reads_fit laws bytes options script reads).same;
    }
