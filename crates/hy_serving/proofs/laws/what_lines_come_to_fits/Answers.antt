use Rattle.hy_serving.proofs.Fitting.{Laws, fresh_fits, heard_fits, ended_fits, run_fits}
use Rattle.hy_serving.proofs.laws.what_lines_come_to_fits.Goals as goal

pub returns : goal.returns
returns c =
    let given = c.accepted_definitions_fit.ensures in
    let laws : Laws = record { parsing = c.scripts_are_parsed.ensures.statement; first = given.first; table = given.table; row = given.row } in
    record {
      first = fresh_fits laws;
      heard = heard_fits laws;
      ended = ended_fits;
      keys = λ options desk fits. given.keys options desk.sofar fits.defined;
      begins = λ options desk sessions fits. run_fits options desk sessions (given.rows options desk.sofar fits.defined) fits;
    }
