use Rattle.std.proofs.Common.{◌∙◌, Ok, Err, inl, inr, subst}
use Rattle.std.proofs.Math.Logic.{⊎_elim}
use Rattle.hy_redo.specs.Recovery.{DamagedIn}
use Rattle.hy_top.specs.Reports.{tables_at}
use Rattle.hy_top.proofs.Logging.{writes_so}
use Rattle.hy_top.proofs.logs.recover_script.Goals as goal

pub returns-in-Ok-clause-restores : goal.returns-in-Ok-clause-restores
returns-in-Ok-clause-restores g c =
    let told = c.in-Ok.ensures.text in
    inr (record {
      found = told.1;
      own = told.2;
      restored = Ok told.0;
      is = told.3;
      nothing_is_run = c.without_outcome.ensures.nothing;
      writes = writes_so 0 c.write.result _ _ _ _ _ c.without_outcome.ensures.status (c.as_slice.ensures.value ∙ told.4) c.write.ensures.writes;
    })

pub returns-in-Err-Damaged-clause-restores : goal.returns-in-Err-Damaged-clause-restores
returns-in-Err-Damaged-clause-restores g c =
    let damaged = subst (DamagedIn (tables_at c.args.script) (g.D.Disk.held c.args.disk.now)) c.in-Err-Damaged.field-0-is c.in-Err-Damaged.ensures.damaged in
    ⊎_elim (λ gave. inl (inl gave.0, gave.1, c.tell_damage.ensures.nothing))
    (λ wrote. inr (record {
      found = damaged.0;
      own = damaged.1;
      restored = Err c.in-Err-Damaged.at;
      is = damaged.2;
      nothing_is_run = c.tell_damage.ensures.nothing;
      writes = wrote;
    })) c.tell_damage.ensures.writes
