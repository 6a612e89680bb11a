-- Where each transaction ends in one of the four ways, the counts of these add up.
use Rattle.std.proofs.Common.{◌≡◌, ◌+◌, List, [], ◌∷◌, refl, arith}
use Rattle.hy_bound.specs.declared.Ending.{Ending}
use Rattle.hy_bound.specs.declared.Ending.TheVariants.{Committed, Read, RolledBack, Conflict, Invalid, Range, Full}
use Rattle.hy_render.specs.declared.TxnOutcome.{TxnOutcome}
use Rattle.hy_render.specs.Summary.{is_committed, is_read, is_conflict, is_invalid, one_if}
use Rattle.hy_bank.specs.Endings.{IsEndingOfBank, EndInFourWays, EndingsAddUp, MadeEndingsAddUp}
use Rattle.hy_bank.proofs.EndOutcomes.{end_in_four_ways}

-- one ending counts once
counts_once : (ending : Ending) → IsEndingOfBank ending
    → one_if (is_committed ending) + one_if (is_read ending) + one_if (is_conflict ending) + one_if (is_invalid ending) ≡ 1
counts_once (Committed rank) h = refl
counts_once Read h = refl
counts_once RolledBack h = absurd cc
counts_once (Conflict table pos other) h = refl
counts_once (Invalid table pos other statement) h = refl
counts_once (Range table pos) h = absurd cc
counts_once (Full table) h = absurd cc

pub add_up : (txns : List TxnOutcome) → EndInFourWays txns → EndingsAddUp txns
add_up [] h = refl
add_up (txn ∷ txns) h =
    let one = counts_once txn.ending h.0 in
    let rest = add_up txns h.1 in
    omega (arith, one, rest)

pub endings_add_up : MadeEndingsAddUp
endings_add_up seed sessions txns few short outcome lawful is_serial =
    add_up outcome.txns (end_in_four_ways seed sessions txns few short outcome lawful is_serial)
