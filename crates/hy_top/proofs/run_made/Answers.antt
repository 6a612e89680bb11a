use Rattle.std.proofs.Common.{inl, inr, subst}
use Rattle.std.proofs.Math.Logic.{⊎_elim}
use Rattle.hy_stepping.specs.Runnable.{IsRunnable}
use Rattle.hy_top.specs.Settings.{setting_at}
use Rattle.hy_top.proofs.Answering.{made_answers}
use Rattle.hy_top.proofs.run_made.Goals as goal

pub returns-in-Ok-clause-makes : goal.returns-in-Ok-clause-makes
returns-in-Ok-clause-makes g c =
    let making = c.args.making in
    made_answers making.seed making.sessions making.txns making.threads c.requires.0 c.requires.1 c.in-Ok.script _ _ _ _
    (record {
      steps = c.runs_are_steps.ensures.steps;
      ends = c.runs_are_steps.ensures.ends;
      lawful = c.ends_are_lawful.ensures.lawful;
      serial = c.ends_are_lawful.ensures.serial;
    })
    (record {
      money = c.made_outcomes_keep_the_money.ensures.money;
      audits = c.made_outcomes_keep_the_money.ensures.audits;
      endings = c.made_transactions_end_in_four_ways.ensures.endings;
      counts = c.made_transactions_end_in_four_ways.ensures.counts;
    })
    (subst (λ script. IsRunnable (setting_at script)) c.in-Ok.ensures.made c.in-Ok.ensures.runs.runnable) c.in-Ok.ensures.made
    (⊎_elim (λ p. inl (p.0, p.2)) (λ r. inr r) c.summarize_script.ensures.run)
