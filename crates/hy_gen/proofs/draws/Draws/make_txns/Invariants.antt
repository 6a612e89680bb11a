use Rattle.std.proofs.Common.{◌≡◌, ◌++◌, ◌-◌}
use Rattle.hy_gen.specs.Transactions.{txns_from, state_after_txns}
use Rattle.hy_gen.proofs.draws.Draws.make_txns.Given as goal

abbrev pub invariant-loop-txn : goal.invariant-loop-txn
invariant-loop-txn l = record {
  made : l.txns.items ++ txns_from (l.fn.count - l._txn) l.self.state ≡ txns_from l.fn.count l.fn.self.state;
  moved : state_after_txns (l.fn.count - l._txn) l.self.state ≡ state_after_txns l.fn.count l.fn.self.state;
}
