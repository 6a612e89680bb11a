-- The outcomes of a script that is made keep the money.
use Rattle.std.proofs.Common.{◌≡◌, ℕ, zero, suc, List, [], ◌∷◌, Option, Some, Bool, true, false, refl, subst, ap, ◌∙◌, map, zero-add}
use Rattle.std.specs.Prelude.{find, slice_get, slice_index_or, ◌&&◌, ◌==◌, IfSome, cond}
use Rattle.std.specs.List.{AllByRecursion}
use Rattle.std.specs.Option.{option_map}
use Rattle.std.proofs.Math.Seq.{take-length}
use Rattle.std.proofs.lemmas.Bool.{eqb-true}
use Rattle.std.proofs.lemmas.Option.{same_Some}
use Rattle.hy_bound.specs.declared.Bound.{Bound}
use Rattle.hy_bound.specs.declared.Txn.{Txn}
use Rattle.hy_meaning.specs.Serial.{serial, database_of}
use Rattle.hy_stamp.specs.declared.Label.{Label}
use Rattle.hy_bound.specs.declared.Ending.{Ending}
use Rattle.hy_bound.specs.declared.Ending.TheVariants.{Committed}
use Rattle.hy_render.specs.declared.TxnOutcome.{TxnOutcome}
use Rattle.hy_render.specs.declared.Committed.{Committed as Entry}
use Rattle.hy_render.specs.declared.Outcome.{Outcome}
use Rattle.hy_render.specs.Summary.{balances}
use Rattle.hy_script.specs.declared.NamedTxns.{NamedTxns}
use Rattle.hy_gen.specs.Made.{made}
use Rattle.hy_machine.specs.declared.Setting.{Setting}
use Rattle.hy_lawful.specs.Scripts.{Programs, numbered, txn_of, statements_in, statements_of, ClosesWithCommit}
use Rattle.hy_lawful.specs.Outcomes.{EachFrom, is_label, outcome_at, committed_at}
use Rattle.hy_lawful.specs.Endings.{MayEnd}
use Rattle.hy_lawful.specs.Lawful.{Lawful}
use Rattle.hy_lawful.specs.Databases.{database_at}
use Rattle.hy_lawful.specs.Serial.{IsSerial, ReplaysAt}
use Rattle.hy_bank.specs.Bank.{IsOfBank, RunInTurn}
use Rattle.hy_bank.specs.Outcomes.{made_setting, MadeOutcomesKeepTheMoney}
use Rattle.hy_bank.proofs.Members.{made_of_bank}
use Rattle.hy_bank.proofs.Money.{money_kept}
use Rattle.hy_bank.proofs.Turns.{each_so, all_mapped, all_both, GoesOn, all_of_bank, none_stop}

-- ---- the transaction of a label

and_left : (b c : Bool) → (b && c) ≡ true → b ≡ true
and_left true c e = refl
and_left false c e = absurd cc

and_right : (b c : Bool) → (b && c) ≡ true → c ≡ true
and_right true c e = e
and_right false c e = absurd cc

abbrev labelled : ℕ → ℕ → Label
labelled session txn = record { session = session; txn = txn }

same_label : (label other : Label) → is_label label other ≡ true → label ≡ other
same_label label other e =
    ap (λ (session : ℕ). labelled session label.txn)
    (eqb-true label.session other.session (and_left (label.session == other.session) (label.txn == other.txn) e))
    ∙ ap (labelled other.session) (eqb-true label.txn other.txn (and_right (label.session == other.session) (label.txn == other.txn) e))

-- a transaction of this label ended so, and P holds of it
record EndedSo (P : TxnOutcome → Type 0) (label : Label) (ending : Ending) : Type 0 where
  txn : TxnOutcome
  holds : P txn
  has_label : txn.label ≡ label
  has_ended : txn.ending ≡ ending

abbrev ending_in : Option TxnOutcome → Option Ending
ending_in txn = option_map (λ (found : TxnOutcome). found.ending) txn

here_or_behind : (P : TxnOutcome → Type 0) (label : Label) (ending : Ending) (txn : TxnOutcome) (rest : Option TxnOutcome) (b : Bool)
    → is_label txn.label label ≡ b → P txn → (ending_in rest ≡ Some ending → EndedSo P label ending)
    → ending_in (cond b (Some txn) rest) ≡ Some ending → EndedSo P label ending
here_or_behind P label ending txn rest true e p later ends = record {
  txn = txn;
  holds = p;
  has_label = same_label txn.label label e;
  has_ended = same_Some txn.ending ending ends;
}
here_or_behind P label ending txn rest false e p later ends = later ends

ended_in : (P : TxnOutcome → Type 0) (label : Label) (ending : Ending) (txns : List TxnOutcome) → AllByRecursion P txns
    → ending_in (find (λ (txn : TxnOutcome). is_label txn.label label) txns) ≡ Some ending → EndedSo P label ending
ended_in P label ending [] h e = absurd cc
ended_in P label ending (txn ∷ txns) h e =
    here_or_behind P label ending txn (find (λ (other : TxnOutcome). is_label other.label label) txns) (is_label txn.label label) refl h.0
    (ended_in P label ending txns h.1) e

-- ---- that it is the bank's

abbrev AllOfBank : List Txn → Type 0
AllOfBank txns = AllByRecursion (λ (txn : Txn). IsOfBank txn.statements) txns

one_of_bank : (txns : List Txn) → AllOfBank txns → (before : ℕ) → ClosesWithCommit (slice_get txns before)
    → IsOfBank (statements_in (slice_get txns before))
one_of_bank [] h before closes = absurd closes
one_of_bank (txn ∷ txns) h zero closes = h.0
one_of_bank (txn ∷ txns) h (suc before) closes = one_of_bank txns h.1 before closes

numbered_of_bank : (txns : List Txn) → AllOfBank txns → (number : ℕ) → ClosesWithCommit (numbered txns number)
    → IsOfBank (statements_in (numbered txns number))
numbered_of_bank txns h zero closes = absurd closes
numbered_of_bank txns h (suc before) closes = one_of_bank txns h before closes

session_of_bank : (programs : Programs) → AllByRecursion AllOfBank programs → (session : ℕ) → AllOfBank (slice_index_or programs session [])
session_of_bank [] h session = tt
session_of_bank (txns ∷ programs) h zero = h.0
session_of_bank (txns ∷ programs) h (suc session) = session_of_bank programs h.1 session

closing_of_bank : (programs : Programs) → AllByRecursion AllOfBank programs → (label : Label) → ClosesWithCommit (txn_of programs label)
    → IsOfBank (statements_of programs label)
closing_of_bank programs h label closes =
    numbered_of_bank (slice_index_or programs label.session []) (session_of_bank programs h label.session) label.txn closes

-- ---- that the commit order runs in turn

abbrev EndsAndReplays : Setting → Outcome → TxnOutcome → Type 0
EndsAndReplays setting outcome txn =
    MayEnd setting.programs outcome txn txn.ending × IfSome (committed_at txn.ending) (ReplaysAt setting outcome.order txn)

committed_goes_on : (setting : Setting) (outcome : Outcome) → AllByRecursion AllOfBank setting.programs → (rank : ℕ) (label : Label)
    → EndedSo (EndsAndReplays setting outcome) label (Committed rank)
    → GoesOn setting.shapes (database_at setting outcome.order) rank (statements_of setting.programs label)
committed_goes_on setting outcome h rank label ended =
    let closes : MayEnd setting.programs outcome ended.txn (Committed rank) =
    subst (MayEnd setting.programs outcome ended.txn) ended.has_ended ended.holds.0 in
    let replays : ReplaysAt setting outcome.order ended.txn rank =
    subst (λ (ending : Ending). IfSome (committed_at ending) (ReplaysAt setting outcome.order ended.txn)) ended.has_ended ended.holds.1 in
    let given : GoesOn setting.shapes (database_at setting outcome.order) rank (statements_of setting.programs ended.txn.label) = record {
      is_of_bank = closing_of_bank setting.programs h ended.txn.label closes.closes;
      runs_on = replays.runs_on;
    } in
    subst (λ (other : Label). GoesOn setting.shapes (database_at setting outcome.order) rank (statements_of setting.programs other)) ended.has_label given

-- the statements of the transactions of a commit order
abbrev pub in_order : Setting → List Entry → List (List Bound)
in_order setting order = map (λ (entry : Entry). statements_of setting.programs entry.label) order

order_goes_on : (setting : Setting) (outcome : Outcome) → AllByRecursion AllOfBank setting.programs → Lawful setting outcome → IsSerial setting outcome
    → EachFrom 0 (λ (rank : ℕ) (entry : Entry). GoesOn setting.shapes (database_at setting outcome.order) rank (statements_of setting.programs entry.label))
    outcome.order
order_goes_on setting outcome h lawful is_serial =
    each_so 0 (λ (rank : ℕ) (entry : Entry). ending_in (outcome_at outcome entry.label) ≡ Some (Committed rank))
    (λ (rank : ℕ) (entry : Entry). GoesOn setting.shapes (database_at setting outcome.order) rank (statements_of setting.programs entry.label)) outcome.order
    (λ rank entry e. committed_goes_on setting outcome h rank entry.label
    (ended_in (EndsAndReplays setting outcome) entry.label (Committed rank) outcome.txns
    (all_both (λ (txn : TxnOutcome). MayEnd setting.programs outcome txn txn.ending)
    (λ (txn : TxnOutcome). IfSome (committed_at txn.ending) (ReplaysAt setting outcome.order txn)) outcome.txns lawful.endings is_serial.replays) e))
    lawful.order

-- ---- a script that is made

made_programs : (seed sessions txns : ℕ) → AllByRecursion AllOfBank (made_setting seed sessions txns).programs
made_programs seed sessions txns =
    all_mapped AllOfBank (λ (session : NamedTxns). session.txns) (made seed sessions txns).sessions (made_of_bank seed sessions txns)

-- the whole commit order
pub order_in_turn : (seed sessions txns : ℕ) (outcome : Outcome) → Lawful (made_setting seed sessions txns) outcome
    → IsSerial (made_setting seed sessions txns) outcome → RunInTurn (made seed sessions txns) (in_order (made_setting seed sessions txns) outcome.order)
order_in_turn seed sessions txns outcome lawful is_serial =
    let setting : Setting = made_setting seed sessions txns in
    let goes = order_goes_on setting outcome (made_programs seed sessions txns) lawful is_serial in
    record {
      of_bank = all_of_bank setting.shapes (database_at setting outcome.order) (λ (entry : Entry). statements_of setting.programs entry.label) 0
          outcome.order goes;
      none_stops = none_stop setting.shapes (database_at setting outcome.order) (λ (entry : Entry). statements_of setting.programs entry.label) 0
          outcome.order (database_of setting.first) (λ n. ap (database_at setting outcome.order) (zero-add n)) goes;
    }

pub outcomes_keep : MadeOutcomesKeepTheMoney
outcomes_keep seed sessions txns outcome lawful is_serial =
    let setting : Setting = made_setting seed sessions txns in
    ap balances (is_serial.tables
    ∙ ap (λ (order : List Entry). serial setting.shapes (in_order setting order) (database_of setting.first)) (take-length outcome.order))
    ∙ money_kept seed sessions txns (in_order setting outcome.order) (order_in_turn seed sessions txns outcome lawful is_serial)
