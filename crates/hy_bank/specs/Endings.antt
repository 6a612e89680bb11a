-- How the transactions of a script that is made end.
use Rattle.std.specs.Prelude.{◌≡◌, ℕ, ◌+◌, ◌≤◌, List, ◌||◌, IsTrue, length}
use Rattle.std.specs.List.{AllByRecursion}
use Rattle.hy_bound.specs.declared.Ending.{Ending}
use Rattle.hy_render.specs.declared.TxnOutcome.{TxnOutcome}
use Rattle.hy_render.specs.declared.Outcome.{Outcome}
use Rattle.hy_render.specs.Summary.{is_committed, is_read, is_conflict, is_invalid, ended_so}
use Rattle.hy_lawful.specs.Lawful.{Lawful}
use Rattle.hy_lawful.specs.Serial.{IsSerial}
use Rattle.hy_bank.specs.Outcomes.{made_setting}

-- a transaction of the bank ends in one of four ways: committed, read, in conflict, or invalid
abbrev pub IsEndingOfBank : Ending → Type 0
IsEndingOfBank ending = IsTrue (is_committed ending || is_read ending || is_conflict ending || is_invalid ending)

abbrev pub EndInFourWays : List TxnOutcome → Type 0
EndInFourWays txns = AllByRecursion (λ (txn : TxnOutcome). IsEndingOfBank txn.ending) txns

-- how many transactions ended in each of the four ways comes to how many there are
abbrev pub EndingsAddUp : List TxnOutcome → Type 0
EndingsAddUp txns = ended_so is_committed txns + ended_so is_read txns + ended_so is_conflict txns + ended_so is_invalid txns ≡ length txns

-- P holds of the outcomes that are lawful and serializable of each script of at most 64 sessions of at most 1000
-- transactions each that is made
abbrev pub OfMadeOutcomes : (Outcome → Type 0) → Type 0
OfMadeOutcomes P = (seed sessions txns : ℕ) → sessions ≤ 64 → txns ≤ 1000 → (outcome : Outcome) → Lawful (made_setting seed sessions txns) outcome
    → IsSerial (made_setting seed sessions txns) outcome → P outcome

-- each transaction of such an outcome ends so
abbrev pub MadeEndInFourWays : Type 0
MadeEndInFourWays = OfMadeOutcomes (λ (outcome : Outcome). EndInFourWays outcome.txns)

-- and the counts of its four endings add up
abbrev pub MadeEndingsAddUp : Type 0
MadeEndingsAddUp = OfMadeOutcomes (λ (outcome : Outcome). EndingsAddUp outcome.txns)
