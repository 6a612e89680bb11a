-- A session may go to another thread, and be looked at by others, from what it is made of: the transactions of its program, how the present statement is run, and its
-- open transaction. Conditions and the right sides of assignments reach themselves through a `Box`: of them it is told once, and of what
-- holds one by parts, since a search over the whole takes too many steps.
use denote.Param.Send.{IsSend, IsSync, sendable}
use Rattle.std.proofs.Crossing.{crosses}
use Rattle.hy_bound.specs.contracts.predicate.Pred as condition
use Rattle.hy_bound.proofs.predicate.Pred.TheLaws.TheKnot as conditions
use Rattle.hy_bound.specs.contracts.expression.SetExpr as expression
use Rattle.hy_bound.proofs.expression.SetExpr.TheLaws.TheKnot as expressions
use Rattle.hy_bound.specs.contracts.Txn as txn
use Rattle.hy_bound.proofs.Reply.TheSendSync as reply
use Rattle.hy_plan.specs.contracts.log.ReadLog as read_log
use Rattle.hy_render.proofs.TxnOutcome.TheSendSync as outcome
use Rattle.hy_notes.proofs.Changes.TheSendSync as changes
use Rattle.hy_gathered.proofs.pieces.Pieces.TheSendSync as pieces
use Rattle.hy_session.specs.contracts.prepared.Prepared as prepared
use Rattle.hy_session.specs.contracts.OpenTransaction as running
use Rattle.hy_session.specs.contracts.Session as session
use Rattle.hy_world.specs.contracts.grouped.LoggedSession as logged

condition_send : IsSend condition.the_row
condition_send = search (crosses, conditions.crosses, sendable) depth 60 fits 20000

expression_send : IsSend expression.the_row
expression_send = search (crosses, expressions.crosses, sendable) depth 60 fits 20000

txn_send : IsSend txn.the_row
txn_send = search (condition_send, expression_send, crosses, sendable) depth 60 fits 200000

log_send : IsSend read_log.the_row
log_send = search (condition_send, crosses, sendable) depth 60 fits 200000

prepared_send : IsSend prepared.the_field.row
prepared_send = search (condition_send, expression_send, crosses, sendable) depth 60 fits 200000

running_send : IsSend running.the_row
running_send = search (log_send, changes.the_send, pieces.the_send, reply.the_send, crosses, sendable) depth 60 fits 200000

pub session_send : IsSend session.the_row
session_send = search (txn_send, running_send, prepared_send, changes.the_send, outcome.the_send, crosses, sendable) depth 60 fits 200000

pub logged_session_send : IsSend logged.the_row
logged_session_send = search (session_send, crosses, sendable) depth 60 fits 200000

-- ---- looked at by others

condition_sync : IsSync condition.the_row
condition_sync = search (crosses, conditions.crosses, sendable) depth 60 fits 20000

expression_sync : IsSync expression.the_row
expression_sync = search (crosses, expressions.crosses, sendable) depth 60 fits 20000

txn_sync : IsSync txn.the_row
txn_sync = search (condition_sync, expression_sync, crosses, sendable) depth 60 fits 200000

log_sync : IsSync read_log.the_row
log_sync = search (condition_sync, crosses, sendable) depth 60 fits 200000

prepared_sync : IsSync prepared.the_field.row
prepared_sync = search (condition_sync, expression_sync, crosses, sendable) depth 60 fits 200000

running_sync : IsSync running.the_row
running_sync = search (log_sync, changes.the_sync, pieces.the_sync, reply.the_sync, crosses, sendable) depth 60 fits 200000

pub session_sync : IsSync session.the_row
session_sync = search (txn_sync, running_sync, prepared_sync, changes.the_sync, outcome.the_sync, crosses, sendable) depth 60 fits 200000

pub logged_session_sync : IsSync logged.the_row
logged_session_sync = search (session_sync, crosses, sendable) depth 60 fits 200000
