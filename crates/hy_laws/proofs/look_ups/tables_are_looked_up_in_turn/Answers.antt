use Rattle.hy_laws.proofs.InTurn.{looked_up_in_turn, looked_up_alone}
use Rattle.hy_laws.proofs.look_ups.tables_are_looked_up_in_turn.Goals as goal

pub returns-clause-each : goal.returns-clause-each
returns-clause-each c = looked_up_in_turn

pub returns-clause-alone : goal.returns-clause-alone
returns-clause-alone c = looked_up_alone
