use Rattle.std.proofs.Common.{◌≡◌, true, false, sym, subst}
use Rattle.std.specs.Prelude.{IfOk}
use Rattle.hy_bound.specs.declared.Txn.{Txn}
use Rattle.hy_gen.specs.Transactions.{is_audit, transfer, txn_from}
use Rattle.hy_gen.proofs.Steps.{on_any, audit_from, transfer_txn_from, state_after_audit, state_after_transfer}
use Rattle.hy_gen.proofs.draws.Draws.make_txn.Goals as goal

pub returns-then-draw_kind-clause-txn : goal.returns-then-draw_kind-clause-txn
returns-then-draw_kind-clause-txn c =
    let kind : is_audit c.args.self.now.state ≡ true = cc in
    subst (λ (made : Txn). IfOk c.audit_txn.result (λ txn. txn ≡ made)) (sym (audit_from _ kind)) c.audit_txn.ensures

pub returns-then-draw_kind-clause-moved : goal.returns-then-draw_kind-clause-moved
returns-then-draw_kind-clause-moved c =
    let kind : is_audit c.args.self.now.state ≡ true = cc in
    on_any c.audit_txn.result (cc (state_after_audit c.args.self.now.state kind))

pub returns-else-draw_kind-clause-txn : goal.returns-else-draw_kind-clause-txn
returns-else-draw_kind-clause-txn c =
    let kind : is_audit c.args.self.now.state ≡ false = cc in
    let same : transfer c.draw_transfer.result ≡ txn_from c.args.self.now.state = cc (transfer_txn_from c.args.self.now.state kind) in
    subst (λ (made : Txn). IfOk c.to_txn.result (λ txn. txn ≡ made)) same c.to_txn.ensures

pub returns-else-draw_kind-clause-moved : goal.returns-else-draw_kind-clause-moved
returns-else-draw_kind-clause-moved c =
    let kind : is_audit c.args.self.now.state ≡ false = cc in
    on_any c.to_txn.result (cc (state_after_transfer c.args.self.now.state kind))
