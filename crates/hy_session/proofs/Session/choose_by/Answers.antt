use Rattle.std.proofs.Common.{◌≡◌, ◌-◌, ℕ, None, Some, arith, length, sym, ap, ◌∙◌}
use Rattle.std.specs.Prelude.{slice_get}
use Rattle.hy_bound.specs.declared.Ending.TheVariants.{Committed, RolledBack}
use Rattle.hy_journal.specs.Core.{blocked_by}
use Rattle.hy_protocol.specs.Closing.{free_commit_turn}
use Rattle.hy_protocol.specs.Turns.{Ends, unless_blocked}
use Rattle.hy_protocol.specs.declared.Phase.TheVariants.{Working, Stamping, Undoing}
use Rattle.hy_stamp.specs.declared.Label.{Label}
use Rattle.hy_event.specs.CoreTurns.{found_at_core, phase_turn}
use Rattle.hy_event.specs.Sessions.{label_of}
use Rattle.hy_event.specs.declared.Open.{Open}
use Rattle.hy_event.specs.declared.SessionData.{SessionData}
use Rattle.hy_session.specs.CoreSteps.{commit_turn, saving_of, turn_by}
use Rattle.hy_session.proofs.Results.{got, got_none, ok_maps}
use Rattle.hy_session.proofs.Savings.{commits, ends_so, leaves_so, rolls_back, saves}
use Rattle.hy_session.proofs.Session.choose_by.Goals as goal

pub returns-in-Some-clause-turn : goal.returns-in-Some-clause-turn
returns-in-Some-clause-turn c =
    let session = c.args.self.now in
    let core = c.args.core.now in
    let txn = c.args.txn.now in
    let now = c.args.now.now in
    let works : now.phase ≡ Working c.in-Working.visited c.in-Working.count = ap (λ (v : Open). v.phase) (sym c.now.view_is) ∙ c.in-Working.is in
    let present : slice_get txn.statements (length now.replies) ≡ Some c.in-Some.field-0.now =
    got txn.statements c.as_slice.result.now c.len.result (length now.replies) c.in-Some.field-0.now c.as_slice.ensures
    (omega (arith, c.len.ensures, c.now.inside.replies.ok.0, ap (λ (v : Open). length v.replies) c.now.view_is))
    c.in-Some.ensures.lookup.0 c.in-Some.ensures.lookup.1 in
    saves session core txn now c.requires.needs c.in-Working.visited c.in-Working.count works c.in-Some.field-0.now c.requires.at_txn c.requires.is_open present
    ∙ ap Some (sym (c.unless_marked.ensures.turn session
    ∙ ap (λ (label : Label). unless_blocked (blocked_by core label) (saving_of session)) c.label-label.ensures))

pub returns-in-None-clause-turn : goal.returns-in-None-clause-turn
returns-in-None-clause-turn c =
    let session = c.args.self.now in
    let core = c.args.core.now in
    let txn = c.args.txn.now in
    let now = c.args.now.now in
    let works : now.phase ≡ Working c.in-Working.visited c.in-Working.count = ap (λ (v : Open). v.phase) (sym c.now.view_is) ∙ c.in-Working.is in
    let none : slice_get txn.statements (length now.replies) ≡ None =
    got_none txn.statements c.as_slice.result.now c.len.result (length now.replies) c.as_slice.ensures
    (omega (arith, c.len.ensures, c.now.inside.replies.ok.0, ap (λ (v : Open). length v.replies) c.now.view_is))
    c.in-None.ensures.lookup.0 in
    ok_maps c.commit.result
    (λ step. (other : SessionData) → other.now ≡ Some now → label_of other ≡ c.label-label.result
    → unless_blocked (blocked_by core c.label-label.result) (commit_turn other core now now.notes) ≡ turn_by step other core)
    (λ step. phase_turn session core txn now now.phase ≡ Some (turn_by step session core))
    (λ step does. commits session core txn now c.requires.needs c.in-Working.visited c.in-Working.count works none c.if-txn.true
    ∙ ap Some (ap (λ (label : Label). unless_blocked (blocked_by core label) (free_commit_turn (found_at_core session core now))) (sym c.label-label.ensures)
    ∙ does session c.requires.is_open (sym c.label-label.ensures)))
    c.commit.ensures.turn

pub returns-in-None-2-clause-turn : goal.returns-in-None-2-clause-turn
returns-in-None-2-clause-turn c =
    let session = c.args.self.now in
    let core = c.args.core.now in
    let txn = c.args.txn.now in
    let now = c.args.now.now in
    let works : now.phase ≡ Working c.in-Working.visited c.in-Working.count = ap (λ (v : Open). v.phase) (sym c.now.view_is) ∙ c.in-Working.is in
    let none : slice_get txn.statements (length now.replies) ≡ None =
    got_none txn.statements c.as_slice.result.now c.len.result (length now.replies) c.as_slice.ensures
    (omega (arith, c.len.ensures, c.now.inside.replies.ok.0, ap (λ (v : Open). length v.replies) c.now.view_is))
    c.in-None-2.ensures.lookup.0 in
    rolls_back session core txn now c.requires.needs c.in-Working.visited c.in-Working.count works none c.if-txn.false
    ∙ ap Some (sym (c.unless_marked-in-None-2.ensures.turn session
    ∙ ap (λ (label : Label). unless_blocked (blocked_by core label) (Ends RolledBack)) c.label-label.ensures))

pub returns-in-Stamping-clause-turn : goal.returns-in-Stamping-clause-turn
returns-in-Stamping-clause-turn c =
    let stands : c.args.now.now.phase ≡ Stamping c.in-Stamping.visited = ap (λ (v : Open). v.phase) (sym c.now.view_is) ∙ c.in-Stamping.is in
    leaves_so c.args.self.now c.args.core.now c.args.txn.now c.args.now.now c.requires.needs c.in-Stamping.visited stands
    ∙ ap (λ (rank : ℕ). Some (Ends (Committed rank))) (sym c.last_rank.ensures)

pub returns-in-Undoing-clause-turn : goal.returns-in-Undoing-clause-turn
returns-in-Undoing-clause-turn c =
    let stands : c.args.now.now.phase ≡ Undoing c.in-Undoing.visited c.in-Undoing.cause = ap (λ (v : Open). v.phase) (sym c.now.view_is) ∙ c.in-Undoing.is in
    ends_so c.args.self.now c.args.core.now c.args.txn.now c.args.now.now c.requires.needs c.in-Undoing.visited c.in-Undoing.cause stands
    ∙ ap Some (sym (c.unless_marked-in-Undoing.ensures.turn c.args.self.now
    ∙ ap (λ (label : Label). unless_blocked (blocked_by c.args.core.now label) (Ends c.in-Undoing.cause)) c.label-label.ensures))
