use Rattle.hy_main.proofs.Codes.{answers_by_code, made_by_code, served_by_code}
use Rattle.hy_main.proofs.exit_code_of.Goals as goal

pub returns-clause-answers : goal.returns-clause-answers
returns-clause-answers g c =
    let d = g.D.Disk in
    answers_by_code d.held d.clock d.image d.image_since _ _ _ _ _ _ _ _ _ c.from.ensures c.run-report.ensures.answers

pub returns-clause-made : goal.returns-clause-made
returns-clause-made g c = made_by_code _ _ _ _ _ _ _ _ c.from.ensures c.run-report.ensures.made

pub returns-clause-serves : goal.returns-clause-serves
returns-clause-serves g c =
    let d = g.D.Disk in
    served_by_code d.held d.clock d.image d.image_since _ _ _ _ _ _ _ _ _ _ c.from.ensures c.run-report.ensures.serves c.run-report.ensures.leaves
