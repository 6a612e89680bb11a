use Rattle.hy_session.proofs.Dispatch.{as_back, as_delete, as_update}
use Rattle.hy_session.proofs.Results.{ok_maps}
use Rattle.hy_session.proofs.ShortChains.{back_prunes_nothing}
use Rattle.hy_session.proofs.visits.visit_statement.Goals as goal

pub returns-in-Update-clause-event : goal.returns-in-Update-clause-event
returns-in-Update-clause-event c =
    ok_maps c.write_rows.result _ _
    (λ progress visit. λ session is opened. as_update session c.args.now.now _ _ _ _ _ _ progress _ _ _ c.in-Update.is (visit session is opened))
    c.write_rows.ensures.event

pub returns-in-Delete-clause-event : goal.returns-in-Delete-clause-event
returns-in-Delete-clause-event c =
    ok_maps c.write_rows-in-Delete.result _ _
    (λ progress visit. λ session is opened. as_delete session c.args.now.now _ _ _ _ _ _ progress _ _ c.in-Delete.is (visit session is opened))
    c.write_rows-in-Delete.ensures.event

pub go_back-requires-clause-may : goal.go_back-requires-clause-may
go_back-requires-clause-may c = c.requires.back _ c.in-RollbackTo.is

pub returns-in-RollbackTo-clause-event : goal.returns-in-RollbackTo-clause-event
returns-in-RollbackTo-clause-event c =
    ok_maps c.go_back.result _ _
    (λ progress visit. λ session is opened. as_back session c.args.now.now _ _ _ _ _ progress _ _ c.in-RollbackTo.is (visit session is opened))
    c.go_back.ensures.event

pub returns-in-RollbackTo-clause-short : goal.returns-in-RollbackTo-clause-short
returns-in-RollbackTo-clause-short c = back_prunes_nothing c.go_back.result _ _ _ _ _ c.go_back.new.chunk.shown c.in-RollbackTo.is
