use Rattle.std.proofs.Common.{◌≡◌, Some, length, ap, sym, ◌∙◌, arith}
use Rattle.std.specs.Prelude.{slice_get}
use Rattle.std.proofs.lemmas.Result.{IfOk-weaker}
use Rattle.hy_event.specs.declared.SessionData.{SessionData}
use Rattle.hy_event.specs.declared.Open.{Open}
use Rattle.hy_protocol.specs.declared.Phase.TheVariants.{Working}
use Rattle.hy_event.specs.Sessions.{txn_at}
use Rattle.hy_session.proofs.PresentSelects.{next_at, present_at, works_at}
use Rattle.hy_session.proofs.Results.{got}
use Rattle.hy_session.proofs.Session.read_step.Goals as goal

pub read_statement-requires-clause-fits : goal.read_statement-requires-clause-fits
read_statement-requires-clause-fits c =
    let session = c.args.self.now in
    let txn = c.in-Some.txn.now in
    let now = c.in-Some-now.now in
    let statement = c.in-Some-get.statement.now in
    let count : c.len.result ≡ length session.done =
    omega (arith, c.len.ensures, c.self.inside.done.ok.0, ap (λ (s : SessionData). length s.done) c.self.view_is) in
    let there : txn_at session ≡ Some txn =
    got session.program c.as_slice.result.now c.len.result (length session.done) txn
    (c.as_slice.ensures ∙ ap (λ (s : SessionData). s.program) c.self.view_is) count c.in-Some.ensures.lookup.0 c.in-Some.ensures.lookup.1 in
    let replies : c.len-2.result ≡ length now.replies =
    omega (arith, c.len-2.ensures, c.now.inside.replies.ok.0, ap (λ (o : Open). length o.replies) c.now.view_is) in
    let found : slice_get txn.statements (length now.replies) ≡ Some statement =
    got txn.statements c.as_slice-2.result.now c.len-2.result (length now.replies) statement c.as_slice-2.ensures replies
    c.in-Some-get.ensures.lookup.0 c.in-Some-get.ensures.lookup.1 in
    let opened : session.now ≡ Some now = sym (ap (λ (s : SessionData). s.now) c.self.view_is) ∙ c.in-Some-now.is in
    let working : now.phase ≡ Working c.in-Working.visited c.in-Working.count = sym (ap (λ (o : Open). o.phase) c.now.view_is) ∙ c.in-Working.is in
    next_at session txn now c.in-Working.visited c.in-Working.count statement c.args.chunk.now c.requires.near there opened working found

pub read_statement-requires-clause-planned : goal.read_statement-requires-clause-planned
read_statement-requires-clause-planned c =
    let session = c.args.self.now in
    let txn = c.in-Some.txn.now in
    let now = c.in-Some-now.now in
    let statement = c.in-Some-get.statement.now in
    let count : c.len.result ≡ length session.done =
    omega (arith, c.len.ensures, c.self.inside.done.ok.0, ap (λ (s : SessionData). length s.done) c.self.view_is) in
    let there : txn_at session ≡ Some txn =
    got session.program c.as_slice.result.now c.len.result (length session.done) txn
    (c.as_slice.ensures ∙ ap (λ (s : SessionData). s.program) c.self.view_is) count c.in-Some.ensures.lookup.0 c.in-Some.ensures.lookup.1 in
    let replies : c.len-2.result ≡ length now.replies =
    omega (arith, c.len-2.ensures, c.now.inside.replies.ok.0, ap (λ (o : Open). length o.replies) c.now.view_is) in
    let found : slice_get txn.statements (length now.replies) ≡ Some statement =
    got txn.statements c.as_slice-2.result.now c.len-2.result (length now.replies) statement c.as_slice-2.ensures replies
    c.in-Some-get.ensures.lookup.0 c.in-Some-get.ensures.lookup.1 in
    let opened : session.now ≡ Some now = sym (ap (λ (s : SessionData). s.now) c.self.view_is) ∙ c.in-Some-now.is in
    let working : now.phase ≡ Working c.in-Working.visited c.in-Working.count = sym (ap (λ (o : Open). o.phase) c.now.view_is) ∙ c.in-Working.is in
    (c.requires.plan statement
    (works_at session now c.in-Working.visited c.in-Working.count statement opened working (present_at session txn now statement there found))).planned

pub returns-clause-step : goal.returns-clause-step
returns-clause-step c =
    let session = c.args.self.now in
    let txn = c.in-Some.txn.now in
    let now = c.in-Some-now.now in
    let statement = c.in-Some-get.statement.now in
    let count : c.len.result ≡ length session.done =
    omega (arith, c.len.ensures, c.self.inside.done.ok.0, ap (λ (s : SessionData). length s.done) c.self.view_is) in
    let there : txn_at session ≡ Some txn =
    got session.program c.as_slice.result.now c.len.result (length session.done) txn
    (c.as_slice.ensures ∙ ap (λ (s : SessionData). s.program) c.self.view_is) count c.in-Some.ensures.lookup.0 c.in-Some.ensures.lookup.1 in
    let replies : c.len-2.result ≡ length now.replies =
    omega (arith, c.len-2.ensures, c.now.inside.replies.ok.0, ap (λ (o : Open). length o.replies) c.now.view_is) in
    let found : slice_get txn.statements (length now.replies) ≡ Some statement =
    got txn.statements c.as_slice-2.result.now c.len-2.result (length now.replies) statement c.as_slice-2.ensures replies
    c.in-Some-get.ensures.lookup.0 c.in-Some-get.ensures.lookup.1 in
    let opened : session.now ≡ Some now = sym (ap (λ (s : SessionData). s.now) c.self.view_is) ∙ c.in-Some-now.is in
    let working : now.phase ≡ Working c.in-Working.visited c.in-Working.count = sym (ap (λ (o : Open). o.phase) c.now.view_is) ∙ c.in-Working.is in
    IfOk-weaker c.read_statement.result _ _
    (λ step is. record {
      now = now;
      visited = c.in-Working.visited;
      count = c.in-Working.count;
      statement = statement;
      opened = opened;
      working = working;
      present = present_at session txn now statement there found;
      comes = is;
    }) c.read_statement.ensures.step
