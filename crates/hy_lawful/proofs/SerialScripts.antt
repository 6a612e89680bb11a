-- The statements of the transactions of a script: by their labels, by the commit order, and that they fit.
use Rattle.std.proofs.Common.{◌≡◌, ℕ, zero, suc, List, [], ◌∷◌, Option, None, Some, length, map, get_or, refl, ap, ◌∙◌}
use Rattle.std.proofs.Common.{subst, inl, inr}
use Rattle.std.specs.Prelude.{slice_get}
use Rattle.std.specs.List.{All}
use Rattle.std.proofs.Math.ListN.{get_or-eq_default}
use Rattle.std.proofs.lemmas.Bool.{cases_lt}
use Rattle.std.proofs.lemmas.List.Elements.{All-nil}
use Rattle.std.proofs.lemmas.Option.{same_Some, slice_get_within, get_or_from_slice_get}
use Rattle.hy_bound.specs.declared.Bound.{Bound}
use Rattle.hy_bound.specs.declared.Shape.{Shape}
use Rattle.hy_bound.specs.declared.Txn.{Txn}
use Rattle.hy_bound.specs.Fits.{FitsStatement, FitsTxn, FitsSession}
use Rattle.hy_stamp.specs.declared.Label.{Label}
use Rattle.hy_render.specs.declared.Committed.{Committed as Committing}
use Rattle.hy_machine.specs.declared.Setting.{Setting}
use Rattle.hy_machine.specs.Tables.{Entry}
use Rattle.hy_machine.specs.Sessions.{program_of}
use Rattle.hy_machine.specs.Validation.{committed_of}
use Rattle.hy_machine.specs.Outcomes.{statements_in}
use Rattle.hy_lawful.specs.Scripts.{Programs, numbered, statements_in as bounds_in, statements_of}
use Rattle.hy_lawful.specs.Reached.{statements_at}
use Rattle.hy_lawful.proofs.Fits.{label_at}

-- ---- by label

same_statements : (txn : Option Txn) → bounds_in txn ≡ statements_in txn
same_statements None = refl
same_statements (Some txn) = refl

-- the statements of a label are those of a session's transaction with so many before it
pub statements_behind : (setting : Setting) (label : Label) (before : ℕ) → label.txn ≡ suc before
    → statements_of setting.programs label ≡ statements_at setting label.session before
statements_behind setting label before e =
    ap (λ (number : ℕ). bounds_in (numbered (program_of setting label.session) number)) e
    ∙ same_statements (slice_get (program_of setting label.session) before)

-- ---- by the commit order

-- the statements of the transactions of the commit order
abbrev pub transactions_of : Programs → List Entry → List (List Bound)
transactions_of programs order = map (λ (entry : Committing). statements_of programs entry.label) (map committed_of order)

pub transaction_at : (programs : Programs) (order : List Entry) (rank : ℕ) (label : Label) → label_at order rank ≡ Some label
    → get_or (transactions_of programs order) rank [] ≡ statements_of programs label
transaction_at programs [] rank label e = absurd cc
transaction_at programs (entry ∷ order) zero label e = ap (statements_of programs) (same_Some entry.label label e)
transaction_at programs (entry ∷ order) (suc rank) label e = transaction_at programs order rank label e

-- ---- that they fit

txn_stands : (shapes : List Shape) (txns : List Txn) → All (FitsTxn shapes) txns → (before : ℕ) (txn : Option Txn) → slice_get txns before ≡ txn
    → All (FitsStatement shapes) (statements_in txn)
txn_stands shapes txns fit before None e = All-nil (FitsStatement shapes)
txn_stands shapes txns fit before (Some txn) e =
    let fits : FitsTxn shapes txn =
    subst (FitsTxn shapes) (get_or_from_slice_get txns before txn txn e) (fit before txn (slice_get_within txns before txn e)) in
    fits.fit

session_fits : (shapes : List Shape) (programs : Programs) → All (FitsSession shapes) programs → (number : ℕ)
    → All (FitsTxn shapes) (get_or programs number [])
session_fits shapes programs fit number = elim (cases_lt number (length programs)) [
  | inl there ↦ (fit number [] there).fit
  | inr past ↦ subst (All (FitsTxn shapes)) (let e : [] ≡ get_or programs number [] = cc (get_or-eq_default programs [] past) in e) (All-nil (FitsTxn shapes))
]

pub statements_stand : (setting : Setting) → All (FitsSession setting.shapes) setting.programs → (number before : ℕ)
    → All (FitsStatement setting.shapes) (statements_at setting number before)
statements_stand setting fit number before =
    txn_stands setting.shapes (program_of setting number) (session_fits setting.shapes setting.programs fit number) before
    (slice_get (program_of setting number) before) refl
