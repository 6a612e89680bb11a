use Rattle.hy_redo.proofs.log.append.Goals as goal

pub returns-clause-moments : goal.returns-clause-moments
returns-clause-moments g c = λ entries logs. c.append_batch.ensures.moments entries c.args.more.now c.in_ok-batch.ensures logs
