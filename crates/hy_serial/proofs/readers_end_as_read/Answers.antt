use Rattle.hy_serial.proofs.Endings.{readers_end, who_wrote_nothing, rollbacks_end}
use Rattle.hy_serial.proofs.Reading.{readers_read_one, readers_can_repeat}
use Rattle.hy_serial.proofs.Told.{who_answers_all}
use Rattle.hy_serial.proofs.readers_end_as_read.Goals as goal

pub returns-clause-only : goal.returns-clause-only
returns-clause-only c = readers_end

pub returns-clause-one : goal.returns-clause-one
returns-clause-one c = readers_read_one

pub returns-clause-repeats : goal.returns-clause-repeats
returns-clause-repeats c = readers_can_repeat

pub returns-clause-nothing : goal.returns-clause-nothing
returns-clause-nothing c = who_wrote_nothing

pub returns-clause-rollbacks : goal.returns-clause-rollbacks
returns-clause-rollbacks c = rollbacks_end

pub returns-clause-told : goal.returns-clause-told
returns-clause-told c = who_answers_all
