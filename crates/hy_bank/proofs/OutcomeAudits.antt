-- The audits in the outcomes of a script that is made are told the sum of the balances.
use Rattle.std.proofs.Common.{◌≡◌, ℕ, zero, suc, List, [], ◌∷◌, sym, subst, ap, ◌∙◌, length, pos}
use Rattle.std.specs.Prelude.{take, slice_get, IsTrue}
use Rattle.std.proofs.lemmas.List.{take-map}
use Rattle.hy_bound.specs.declared.Bound.{Bound}
use Rattle.hy_bound.specs.declared.Reply.{Reply}
use Rattle.hy_bound.specs.declared.Reply.TheVariants as reply
use Rattle.hy_meaning.specs.Serial.{alone_of, database_of}
use Rattle.hy_bound.specs.declared.Ending.{Ending}
use Rattle.hy_bound.specs.declared.Ending.TheVariants.{Committed, Read, RolledBack, Conflict, Invalid, Range, Full}
use Rattle.hy_render.specs.declared.TxnOutcome.{TxnOutcome}
use Rattle.hy_render.specs.declared.Committed.{Committed as Entry}
use Rattle.hy_render.specs.declared.Outcome.{Outcome}
use Rattle.hy_gen.specs.Transactions.{audit}
use Rattle.hy_gen.specs.Made.{made}
use Rattle.hy_machine.specs.declared.Setting.{Setting}
use Rattle.hy_lawful.specs.Scripts.{Programs, statements_of}
use Rattle.hy_lawful.specs.Endings.{updates, changes_rows, inserts, MayEnd}
use Rattle.hy_lawful.specs.Lawful.{Lawful}
use Rattle.hy_lawful.specs.Databases.{database_at, alone_at}
use Rattle.hy_lawful.specs.Serial.{IsSerial, RepliesAreOfStart}
use Rattle.hy_bank.specs.Bank.{IsOfBank, RunInTurn, all_money}
use Rattle.hy_bank.specs.Outcomes.{made_setting, IsToldTheMoney, MadeAuditsTellTheMoney}
use Rattle.hy_bank.proofs.Audits.{audits_tell}
use Rattle.hy_bank.proofs.Turns.{all_so, all_both, all_in_front, none_stop_in_front}
use Rattle.hy_bank.proofs.Outcomes.{in_order, order_in_turn}

-- ---- an audit is answered, whatever ends it: only statements that write are refused, and it has none

never_changes : (table at : ℕ) → IsTrue (changes_rows table (slice_get audit.statements at)) → ⊥
never_changes table zero h = absurd cc
never_changes table (suc at) h = absurd cc

never_updates : (table at : ℕ) → IsTrue (updates table (slice_get audit.statements at)) → ⊥
never_updates table zero h = absurd cc
never_updates table (suc at) h = absurd cc

never_inserts : (table at : ℕ) → IsTrue (inserts table (slice_get audit.statements at)) → ⊥
never_inserts table zero h = absurd cc
never_inserts table (suc at) h = absurd cc

audit_answered : (programs : Programs) (outcome : Outcome) (txn : TxnOutcome) (ending : Ending) → statements_of programs txn.label ≡ audit.statements
    → MayEnd programs outcome txn ending → length txn.replies ≡ 1
audit_answered programs outcome txn (Committed rank) e may = may.answers ∙ ap (λ (statements : List Bound). length statements) e
audit_answered programs outcome txn Read e may = may.answers ∙ ap (λ (statements : List Bound). length statements) e
audit_answered programs outcome txn RolledBack e may = may.answers ∙ ap (λ (statements : List Bound). length statements) e
audit_answered programs outcome txn (Conflict table at other) e may = absurd
    (never_changes table (length txn.replies)
    (subst (λ (statements : List Bound). IsTrue (changes_rows table (slice_get statements (length txn.replies)))) e may.changes))
audit_answered programs outcome txn (Invalid table at other statement) e may = may.answers ∙ ap (λ (statements : List Bound). length statements) e
audit_answered programs outcome txn (Range table at) e may = absurd
    (never_updates table (length txn.replies)
    (subst (λ (statements : List Bound). IsTrue (updates table (slice_get statements (length txn.replies)))) e may))
audit_answered programs outcome txn (Full table) e may = absurd
    (never_inserts table (length txn.replies)
    (subst (λ (statements : List Bound). IsTrue (inserts table (slice_get statements (length txn.replies)))) e may))

-- ---- what it is told

-- one reply that is the first of one reply
only_reply : (replies others : List Reply) (one : Reply) → length replies ≡ 1 → others ≡ one ∷ [] → take (length replies) others ≡ replies
    → replies ≡ one ∷ []
only_reply replies others one count told first =
    sym first ∙ (ap (λ (n : ℕ). take n others) count ∙ ap (λ (all : List Reply). take 1 all) told)

-- the first transactions of a commit order
start_in_turn : (seed sessions txns : ℕ) (outcome : Outcome) → Lawful (made_setting seed sessions txns) outcome
    → IsSerial (made_setting seed sessions txns) outcome → (start : ℕ)
    → RunInTurn (made seed sessions txns) (in_order (made_setting seed sessions txns) (take start outcome.order))
start_in_turn seed sessions txns outcome lawful is_serial start =
    let setting : Setting = made_setting seed sessions txns in
    let runs = order_in_turn seed sessions txns outcome lawful is_serial in
    let first : RunInTurn (made seed sessions txns) (take start (in_order setting outcome.order)) = record {
      of_bank = all_in_front IsOfBank start (in_order setting outcome.order) runs.of_bank;
      none_stops = none_stop_in_front setting.shapes start (in_order setting outcome.order) (database_of setting.first) runs.none_stops;
    } in
    subst (RunInTurn (made seed sessions txns)) (take-map (λ (entry : Entry). statements_of setting.programs entry.label) start outcome.order) first

told_at : (seed sessions txns : ℕ) (outcome : Outcome) → Lawful (made_setting seed sessions txns) outcome
    → IsSerial (made_setting seed sessions txns) outcome → (txn : TxnOutcome)
    → MayEnd (made_setting seed sessions txns).programs outcome txn txn.ending × RepliesAreOfStart (made_setting seed sessions txns) outcome.order txn
    → IsToldTheMoney (made_setting seed sessions txns).programs txn
told_at seed sessions txns outcome lawful is_serial txn h e =
    let setting : Setting = made_setting seed sessions txns in
    let told : (alone_at setting outcome.order txn.label txn.start).replies ≡ reply.Value (pos all_money) ∷ [] =
    ap (λ (statements : List Bound). (alone_of setting.shapes statements (database_at setting outcome.order txn.start)).replies) e
    ∙ audits_tell seed sessions txns (in_order setting (take txn.start outcome.order))
    (start_in_turn seed sessions txns outcome lawful is_serial txn.start) in
    only_reply txn.replies (alone_at setting outcome.order txn.label txn.start).replies (reply.Value (pos all_money))
    (audit_answered setting.programs outcome txn txn.ending e h.0) told h.1

pub audits_are_told : MadeAuditsTellTheMoney
audits_are_told seed sessions txns outcome lawful is_serial =
    let setting : Setting = made_setting seed sessions txns in
    let MayEndSo : TxnOutcome → Type 0 = λ (txn : TxnOutcome). MayEnd setting.programs outcome txn txn.ending in
    all_so (λ (txn : TxnOutcome). MayEndSo txn × RepliesAreOfStart setting outcome.order txn) (IsToldTheMoney setting.programs) outcome.txns
    (told_at seed sessions txns outcome lawful is_serial)
    (all_both MayEndSo (RepliesAreOfStart setting outcome.order) outcome.txns lawful.endings is_serial.replies)
