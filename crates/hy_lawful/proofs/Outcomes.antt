-- The outcome of a state: its transactions one by one, and by their labels.
use Rattle.std.proofs.Common.{◌≡◌, ℕ, zero, suc, ◌+◌, List, [], ◌∷◌, ◌++◌, Option, None, Some, true, false, length, map, get_or, cond, refl, ap, sym, ◌∙◌}
use Rattle.std.proofs.Common.{subst}
use Rattle.std.proofs.Common.{arith, zero-add, add-zero}
use Rattle.std.specs.Prelude.{slice_get, ◌==◌, ◌&&◌, find}
use Rattle.std.specs.List.{AllByRecursion}
use Rattle.std.specs.Option.{option_or, option_map}
use Rattle.std.proofs.lemmas.Bool.{eq-eqb, ne_eqb}
use Rattle.std.proofs.lemmas.List.{map-append}
use Rattle.std.proofs.lemmas.List.Folds.{find-append}
use Rattle.std.proofs.lemmas.Option.{same_Some}
use Rattle.hy_bound.specs.declared.Txn.{Txn}
use Rattle.hy_stamp.specs.declared.Label.{Label}
use Rattle.hy_render.specs.declared.TxnOutcome.{TxnOutcome}
use Rattle.hy_render.specs.declared.Committed.{Committed as Committing}
use Rattle.hy_machine.specs.declared.Setting.{Setting}
use Rattle.hy_machine.specs.States.{State, Session, Finished}
use Rattle.hy_machine.specs.Tables.{Entry}
use Rattle.hy_machine.specs.Sessions.{fresh, session_at}
use Rattle.hy_machine.specs.Validation.{committed_of}
use Rattle.hy_machine.specs.Outcomes.{txn_outcome_of, outcomes_from, all_outcomes_from, outcome_of}
use Rattle.hy_lawful.specs.Scripts.{Programs, labels_of, labels_from}
use Rattle.hy_lawful.specs.Outcomes.{EachFrom, is_label, outcome_at}
use Rattle.hy_lawful.proofs.Lists.{all_joined, none_or}
use Rattle.hy_lawful.proofs.Fits.{label_at}

-- ---- one by one

each_of_session : (setting : Setting) (P : TxnOutcome → Type 0) (number before : ℕ) (done : List Finished)
    → ((i : ℕ) (finished : Finished) → slice_get done i ≡ Some finished → P (txn_outcome_of setting number (before + i) finished))
    → AllByRecursion P (outcomes_from setting number before done)
each_of_session setting P number before [] f = tt
each_of_session setting P number before (finished ∷ done) f = (
  subst (λ (n : ℕ). P (txn_outcome_of setting number n finished)) (add-zero before) (f 0 finished refl),
  each_of_session setting P number (suc before) done
      (λ i one e. subst (λ (n : ℕ). P (txn_outcome_of setting number n one)) (let same : before + suc i ≡ suc before + i = omega arith in same)
      (f (suc i) one e)),
)

each_from : (setting : Setting) (P : TxnOutcome → Type 0) (first : ℕ) (sessions : List Session)
    → ((i before : ℕ) (finished : Finished) → slice_get (get_or sessions i fresh).done before ≡ Some finished
    → P (txn_outcome_of setting (first + i) before finished))
    → AllByRecursion P (all_outcomes_from setting first sessions)
each_from setting P first [] f = tt
each_from setting P first (session ∷ sessions) f =
    all_joined P (outcomes_from setting first 0 session.done) (all_outcomes_from setting (suc first) sessions)
    (each_of_session setting P first 0 session.done (λ i finished e.
    subst (λ (n : ℕ). P (txn_outcome_of setting n (0 + i) finished)) (add-zero first)
    (subst (λ (n : ℕ). P (txn_outcome_of setting (first + 0) n finished)) (sym (zero-add i)) (f 0 i finished e))))
    (each_from setting P (suc first) sessions (λ i before finished e.
    subst (λ (n : ℕ). P (txn_outcome_of setting n before finished)) (let same : first + suc i ≡ suc first + i = omega arith in same)
    (f (suc i) before finished e)))

-- what holds of each transaction that has ended holds of all in the outcome
pub each_outcome : (setting : Setting) (P : TxnOutcome → Type 0) (state : State)
    → ((number before : ℕ) (finished : Finished) → slice_get (session_at state number).done before ≡ Some finished
    → P (txn_outcome_of setting number before finished))
    → AllByRecursion P (outcome_of setting state).txns
each_outcome setting P state f = each_from setting P 0 state.sessions
    (λ i before finished e. subst (λ (n : ℕ). P (txn_outcome_of setting n before finished)) (sym (zero-add i)) (f i before finished e))

each_entry_from : (P : ℕ → Label → Type 0) (first : ℕ) (order : List Entry) → ((i : ℕ) (label : Label) → label_at order i ≡ Some label → P (first + i) label)
    → EachFrom first (λ (rank : ℕ) (entry : Committing). P rank entry.label) (map committed_of order)
each_entry_from P first [] f = tt
each_entry_from P first (entry ∷ order) f = (
  subst (λ (n : ℕ). P n entry.label) (add-zero first) (f 0 entry.label refl),
  each_entry_from P (suc first) order (λ i label e.
      subst (λ (n : ℕ). P n label) (let same : first + suc i ≡ suc first + i = omega arith in same) (f (suc i) label e)),
)

-- what holds of each label in the commit order
pub each_entry : (P : ℕ → Label → Type 0) (order : List Entry) → ((rank : ℕ) (label : Label) → label_at order rank ≡ Some label → P rank label)
    → EachFrom 0 (λ (rank : ℕ) (entry : Committing). P rank entry.label) (map committed_of order)
each_entry P order f = each_entry_from P 0 order (λ i label e. subst (λ (n : ℕ). P n label) (sym (zero-add i)) (f i label e))

pub label_committed : (order : List Entry) (rank : ℕ)
    → option_map (λ (entry : Committing). entry.label) (slice_get (map committed_of order) rank) ≡ label_at order rank
label_committed [] rank = refl
label_committed (entry ∷ order) zero = refl
label_committed (entry ∷ order) (suc rank) = label_committed order rank

-- ---- by label

-- the transaction of a label among these
abbrev named : Label → List TxnOutcome → Option TxnOutcome
named label txns = find (λ (txn : TxnOutcome). is_label txn.label label) txns

-- a label, by the transactions before it in its session
abbrev label_behind : ℕ → ℕ → Label
label_behind number before = record { session = number; txn = suc before }

label_is : (number before m : ℕ) → before ≡ m → is_label (label_behind number before) (label_behind number m) ≡ true
label_is number before m e =
    let same : suc before ≡ suc m = ap suc e in
    ap (λ b. b && (suc before == suc m)) (eq-eqb number number refl) ∙ eq-eqb (suc before) (suc m) same

label_is_not : (number before m : ℕ) → (before ≡ m → ⊥) → is_label (label_behind number before) (label_behind number m) ≡ false
label_is_not number before m n =
    ap (λ b. b && (suc before == suc m)) (eq-eqb number number refl) ∙ ne_eqb (suc before) (suc m) (λ e. n (omega arith))

found_in : (setting : Setting) (number before : ℕ) (done : List Finished) (i m : ℕ) (finished : Finished) → m ≡ before + i → slice_get done i ≡ Some finished
    → named (label_behind number m) (outcomes_from setting number before done) ≡ Some (txn_outcome_of setting number m finished)
found_in setting number before [] i m finished e at = absurd cc
found_in setting number before (first ∷ done) zero m finished e at =
    let here : before ≡ m = omega arith in
    ap (λ b. cond b (Some (txn_outcome_of setting number before first)) (named (label_behind number m) (outcomes_from setting number (suc before) done)))
    (label_is number before m here)
    ∙ (ap (λ (n : ℕ). Some (txn_outcome_of setting number n first)) here
    ∙ ap (λ (one : Finished). Some (txn_outcome_of setting number m one)) (same_Some first finished at))
found_in setting number before (first ∷ done) (suc i) m finished e at =
    ap (λ b. cond b (Some (txn_outcome_of setting number before first)) (named (label_behind number m) (outcomes_from setting number (suc before) done)))
    (label_is_not number before m (λ same. omega arith))
    ∙ found_in setting number (suc before) done i m finished (omega arith) at

none_in : (setting : Setting) (number before : ℕ) (done : List Finished) (label : Label) → (number ≡ label.session → ⊥)
    → named label (outcomes_from setting number before done) ≡ None
none_in setting number before [] label n = refl
none_in setting number before (first ∷ done) label n =
    ap (λ b. cond (b && (suc before == label.txn)) (Some (txn_outcome_of setting number before first))
    (named label (outcomes_from setting number (suc before) done)))
    (ne_eqb number label.session n)
    ∙ none_in setting number (suc before) done label n

named_append : (label : Label) (txns others : List TxnOutcome) → named label (txns ++ others) ≡ option_or (named label txns) (named label others)
named_append label txns others = find-append (λ (txn : TxnOutcome). is_label txn.label label) txns others

found_from : (setting : Setting) (first : ℕ) (sessions : List Session) (i n before : ℕ) (finished : Finished) → n ≡ first + i
    → slice_get (get_or sessions i fresh).done before ≡ Some finished
    → named (label_behind n before) (all_outcomes_from setting first sessions) ≡ Some (txn_outcome_of setting n before finished)
found_from setting first [] i n before finished e at = absurd cc
found_from setting first (session ∷ sessions) zero n before finished e at =
    let here : first ≡ n = omega arith in
    subst (λ (m : ℕ). named (label_behind m before) (all_outcomes_from setting first (session ∷ sessions)) ≡ Some
    (txn_outcome_of setting m before finished)) here
    (named_append (label_behind first before) (outcomes_from setting first 0 session.done) (all_outcomes_from setting (suc first) sessions)
    ∙ ap (λ o. option_or o (named (label_behind first before) (all_outcomes_from setting (suc first) sessions)))
    (found_in setting first 0 session.done before before finished (sym (zero-add before)) at))
found_from setting first (session ∷ sessions) (suc i) n before finished e at =
    named_append (label_behind n before) (outcomes_from setting first 0 session.done) (all_outcomes_from setting (suc first) sessions)
    ∙ (none_or _ _ (none_in setting first 0 session.done (label_behind n before) (λ same. omega arith))
    ∙ found_from setting (suc first) sessions i n before finished (omega arith) at)

-- an outcome has each transaction that has ended, by its label
pub outcome_found : (setting : Setting) (state : State) (label : Label) (before : ℕ) (finished : Finished) → label.txn ≡ suc before
    → slice_get (session_at state label.session).done before ≡ Some finished
    → outcome_at (outcome_of setting state) label ≡ Some (txn_outcome_of setting label.session before finished)
outcome_found setting state label before finished e at =
    ap (λ (t : ℕ). outcome_at (outcome_of setting state) (record { session = label.session; txn = t })) e
    ∙ found_from setting 0 state.sessions label.session label.session before finished (sym (zero-add label.session)) at

-- ---- all labels

labels_in : (setting : Setting) (number before : ℕ) (done : List Finished) (txns : List Txn) → length done ≡ length txns
    → map (λ (txn : TxnOutcome). txn.label) (outcomes_from setting number before done) ≡ labels_of number (suc before) txns
labels_in setting number before [] [] e = refl
labels_in setting number before [] (txn ∷ txns) e = absurd (omega arith)
labels_in setting number before (finished ∷ done) [] e = absurd (omega arith)
labels_in setting number before (finished ∷ done) (txn ∷ txns) e =
    ap (λ (labels : List Label). record { session = number; txn = suc before } ∷ labels) (labels_in setting number (suc before) done txns (omega arith))

pub labels_all : (setting : Setting) (first : ℕ) (sessions : List Session) (programs : Programs) → length sessions ≡ length programs
    → ((i : ℕ) → length (get_or sessions i fresh).done ≡ length (get_or programs i []))
    → map (λ (txn : TxnOutcome). txn.label) (all_outcomes_from setting first sessions) ≡ labels_from first programs
labels_all setting first [] [] e f = refl
labels_all setting first [] (txns ∷ programs) e f = absurd (omega arith)
labels_all setting first (session ∷ sessions) [] e f = absurd (omega arith)
labels_all setting first (session ∷ sessions) (txns ∷ programs) e f =
    map-append (λ (txn : TxnOutcome). txn.label) (outcomes_from setting first 0 session.done) (all_outcomes_from setting (suc first) sessions)
    ∙ (ap (λ (labels : List Label). labels ++ map (λ (txn : TxnOutcome). txn.label) (all_outcomes_from setting (suc first) sessions))
    (labels_in setting first 0 session.done txns (f 0))
    ∙ ap (λ (labels : List Label). labels_of first 1 txns ++ labels) (labels_all setting (suc first) sessions programs (omega arith) (λ i. f (suc i))))
