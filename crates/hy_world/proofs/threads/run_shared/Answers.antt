use denote.Exit.{yes}
use denote.Param.Send.{arg_send, arg_sync, param_send, param_sync}
use Rattle.hy_world.proofs.SentSessions.{session_send, session_sync}
use Rattle.hy_world.proofs.SharedWorlds.{shared_few, shared_some, shared_wide}
use Rattle.hy_world.proofs.threads.run_shared.Goals as goal

pub run_all-ran-requires-clause-some : goal.run_all-ran-requires-clause-some
run_all-ran-requires-clause-some g c κs within =
    shared_some g.K.Case.setting g.K.Case.kinds c.args.parts.len c.args.parts.items c.args.sessions.items c.requires c.args.parts.ok.0

pub run_all-ran-requires-clause-few : goal.run_all-ran-requires-clause-few
run_all-ran-requires-clause-few g c κs within =
    shared_few g.K.Case.setting g.K.Case.kinds c.args.parts.items c.args.sessions.items c.args.sessions.len c.requires c.args.sessions.ok.0

pub run_all-ran-requires-clause-wide : goal.run_all-ran-requires-clause-wide
run_all-ran-requires-clause-wide g c κs within =
    shared_wide g.K.Case.setting g.K.Case.kinds c.args.parts.items c.args.sessions.items c.args.parts.len c.requires c.args.parts.ok.0

pub run_all-ran-requires-send-P-Session : goal.run_all-ran-requires-send-P-Session
run_all-ran-requires-send-P-Session g c κs within = param_send _ _ (arg_send _ yes _ session_send)

pub run_all-ran-requires-sync-P-Session : goal.run_all-ran-requires-sync-P-Session
run_all-ran-requires-sync-P-Session g c κs within = param_sync _ _ (arg_sync _ yes _ session_sync)
