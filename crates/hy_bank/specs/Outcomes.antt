-- What the outcomes of a script that is made keep.
use Rattle.std.specs.Prelude.{◌≡◌, ℕ, pos, [], ◌∷◌, map}
use Rattle.std.specs.List.{AllByRecursion}
use Rattle.hy_bound.specs.declared.Reply.TheVariants as reply
use Rattle.hy_bind.specs.Shapes.{catalog_shapes}
use Rattle.hy_render.specs.declared.TxnOutcome.{TxnOutcome}
use Rattle.hy_render.specs.declared.Outcome.{Outcome}
use Rattle.hy_render.specs.Summary.{balances}
use Rattle.hy_script.specs.declared.NamedTxns.{NamedTxns}
use Rattle.hy_gen.specs.Transactions.{audit}
use Rattle.hy_gen.specs.Made.{made}
use Rattle.hy_machine.specs.declared.Setting.{Setting}
use Rattle.hy_lawful.specs.Scripts.{Programs, statements_of}
use Rattle.hy_lawful.specs.Lawful.{Lawful}
use Rattle.hy_lawful.specs.Serial.{IsSerial}
use Rattle.hy_bank.specs.Bank.{all_money}

-- what of the script that is made from this seed, of so many sessions of so many transactions, does not change while it runs
abbrev pub made_setting : ℕ → ℕ → ℕ → Setting
made_setting seed sessions txns = record {
  chunks = (made seed sessions txns).options.chunks;
  rows = (made seed sessions txns).options.rows;
  shapes = catalog_shapes (made seed sessions txns).catalog;
  first = (made seed sessions txns).rows;
  programs = map (λ (session : NamedTxns). session.txns) (made seed sessions txns).sessions;
}

-- in every outcome of it that is lawful and serializable, the balances at the end come to what the bank has
abbrev pub MadeOutcomesKeepTheMoney : Type 0
MadeOutcomesKeepTheMoney = (seed sessions txns : ℕ) (outcome : Outcome) → Lawful (made_setting seed sessions txns) outcome
    → IsSerial (made_setting seed sessions txns) outcome → balances outcome.tables ≡ pos all_money

-- a transaction is told what the bank has, if it is an audit
abbrev pub IsToldTheMoney : Programs → TxnOutcome → Type 0
IsToldTheMoney programs txn = statements_of programs txn.label ≡ audit.statements → txn.replies ≡ reply.Value (pos all_money) ∷ []

-- and every audit is told this, however it is interleaved with the transfers, and whatever ends it
abbrev pub MadeAuditsTellTheMoney : Type 0
MadeAuditsTellTheMoney = (seed sessions txns : ℕ) (outcome : Outcome) → Lawful (made_setting seed sessions txns) outcome
    → IsSerial (made_setting seed sessions txns) outcome
    → AllByRecursion (IsToldTheMoney (made_setting seed sessions txns).programs) outcome.txns
