use Rattle.hy_top.proofs.Answering.{made_fits, made_runs}
use Rattle.hy_top.proofs.make_script.Goals as goal

pub returns-clause-runs : goal.returns-clause-runs
returns-clause-runs c =
    let seed = c.args.making.seed in
    let sessions = c.args.making.sessions in
    let txns = c.args.making.txns in
    made_runs c.make.result seed sessions txns c.make.ensures (record {
      runnable = made_fits seed sessions txns (c.made_scripts_fit.ensures seed sessions txns c.requires.0 c.requires.1);
      typed = c.what_is_made_is_typed.ensures seed sessions txns c.requires.0 c.requires.1;
    })
