-- A commit order is no longer than the script has transactions: each rank is the one at which a transaction ended.
use Rattle.std.proofs.Common.{◌≡◌, ℕ, zero, suc, ◌+◌, ◌*◌, ◌<◌, ◌≤◌, Bool, true, false, List, []}
use Rattle.std.proofs.Common.{◌∷◌, ◌++◌, Option, Some, None, length, refl, sym, ap, subst, map, arith}
use Rattle.std.specs.Prelude.{find, cond, nat_eq, ◌==◌, ◌||◌}
use Rattle.std.specs.List.{AllByRecursion, IsDistinct, range_with_len}
use Rattle.std.specs.Option.{option_map}
use Rattle.std.specs.Set.{is_member}
use Rattle.std.specs.Cmp.{nat_eq_equiv}
use Rattle.std.proofs.lemmas.Bool.{eqb-true, eq-eqb, ne_eqb, or_right}
use Rattle.std.proofs.lemmas.List.{length-map, length-append}
use Rattle.std.proofs.lemmas.List.FromFn.{length-range_with_len}
use Rattle.std.proofs.lemmas.Map.Made.{length-le_from_is_member}
use Rattle.hy_bound.specs.declared.Txn.{Txn}
use Rattle.hy_stamp.specs.declared.Label.{Label}
use Rattle.hy_bound.specs.declared.Ending.{Ending}
use Rattle.hy_bound.specs.declared.Ending.TheVariants.{Committed}
use Rattle.hy_render.specs.declared.TxnOutcome.{TxnOutcome}
use Rattle.hy_render.specs.declared.Committed.{Committed as Entry}
use Rattle.hy_render.specs.declared.Outcome.{Outcome}
use Rattle.hy_script.specs.declared.NamedTxns.{NamedTxns}
use Rattle.hy_gen.specs.Transactions.{state_after_txns, txns_from}
use Rattle.hy_gen.specs.Made.{sessions_from, made}
use Rattle.hy_machine.specs.declared.Setting.{Setting}
use Rattle.hy_lawful.specs.Scripts.{labels_of, labels_from}
use Rattle.hy_lawful.specs.Outcomes.{EachFrom, is_label, outcome_at, committed_at}
use Rattle.hy_lawful.specs.Lawful.{Lawful}
use Rattle.hy_bank.specs.Outcomes.{made_setting}
use Rattle.hy_bank.proofs.Fitting.{many_txns}
use Rattle.hy_bank.proofs.Turns.{each_so}

-- ---- ranks

-- a rank, 0 where there is none
abbrev rank_in : Option ℕ → ℕ
rank_in None = 0
rank_in (Some rank) = rank

abbrev ranks_of : List TxnOutcome → List ℕ
ranks_of txns = map (λ (txn : TxnOutcome). rank_in (committed_at txn.ending)) txns

abbrev ending_in : Option TxnOutcome → Option Ending
ending_in txn = option_map (λ (found : TxnOutcome). found.ending) txn

here_or_behind : (rank : ℕ) (txn : TxnOutcome) (rest : Option TxnOutcome) (ranks : List ℕ) (here : Bool)
    → (ending_in rest ≡ Some (Committed rank) → is_member nat_eq ranks rank ≡ true)
    → ending_in (cond here (Some txn) rest) ≡ Some (Committed rank) → is_member nat_eq (rank_in (committed_at txn.ending) ∷ ranks) rank ≡ true
here_or_behind rank txn rest ranks true later e =
    let same : rank ≡ rank_in (committed_at txn.ending) = sym (ap (λ (ending : Option Ending). rank_in_ending ending) e) in
    ap (λ (b : Bool). b || is_member nat_eq ranks rank) (eq-eqb rank (rank_in (committed_at txn.ending)) same)
  where
    rank_in_ending : Option Ending → ℕ
    rank_in_ending None = 0
    rank_in_ending (Some ending) = rank_in (committed_at ending)
here_or_behind rank txn rest ranks false later e =
    or_right (rank == rank_in (committed_at txn.ending)) (is_member nat_eq ranks rank) (later e)

-- the rank at which a transaction is found to have committed is one of the ranks
found_rank : (is : TxnOutcome → Bool) (rank : ℕ) (txns : List TxnOutcome) → ending_in (find is txns) ≡ Some (Committed rank)
    → is_member nat_eq (ranks_of txns) rank ≡ true
found_rank is rank [] e = absurd cc
found_rank is rank (txn ∷ txns) e = here_or_behind rank txn (find is txns) (ranks_of txns) (is txn) (found_rank is rank txns) e

-- what holds of each item's number holds of each of these numbers
here_or_later : (Q : ℕ → Type 0) (first q : ℕ) (rest : List ℕ) (here : Bool) → nat_eq q first ≡ here → Q first
    → (is_member nat_eq rest q ≡ true → Q q) → (here || is_member nat_eq rest q) ≡ true → Q q
here_or_later Q first q rest true is h later e = subst Q (sym (eqb-true q first is)) h
here_or_later Q first q rest false is h later e = later e

number_found : {X : Type 0} (Q : ℕ → Type 0) (first : ℕ) (xs : List X) → EachFrom first (λ (number : ℕ) (x : X). Q number) xs → (q : ℕ)
    → is_member nat_eq (range_with_len first (length xs)) q ≡ true → Q q
number_found Q first [] h q e = absurd cc
number_found Q first (x ∷ xs) h q e =
    let next : first + 1 ≡ suc first = omega arith in
    here_or_later Q first q (range_with_len (first + 1) (length xs)) (nat_eq q first) refl h.0
    (λ found. number_found Q (suc first) xs h.1 q
    (subst (λ (from : ℕ). is_member nat_eq (range_with_len from (length xs)) q ≡ true) next found)) e

-- numbers in a row differ
later_differ : (one first many : ℕ) → one < first → AllByRecursion (λ (other : ℕ). (one == other) ≡ false) (range_with_len first many)
later_differ one first zero before = tt
later_differ one first (suc many) before = (ne_eqb one first (λ e. omega (arith, e)), later_differ one (first + 1) many (omega arith))

range_differs : (first many : ℕ) → IsDistinct nat_eq (range_with_len first many)
unfolding IsDistinct
range_differs first zero = tt
range_differs first (suc many) = (later_differ first (first + 1) many (omega arith), range_differs (first + 1) many)

pub order_is_short : (setting : Setting) (outcome : Outcome) → Lawful setting outcome → length outcome.order ≤ length outcome.txns
order_is_short setting outcome lawful =
    let ranks : List ℕ = ranks_of outcome.txns in
    let numbers : List ℕ = range_with_len 0 (length outcome.order) in
    let found = each_so 0 (λ (rank : ℕ) (entry : Entry). ending_in (outcome_at outcome entry.label) ≡ Some (Committed rank))
    (λ (rank : ℕ) (entry : Entry). is_member nat_eq ranks rank ≡ true) outcome.order
    (λ rank entry e. found_rank (λ (txn : TxnOutcome). is_label txn.label entry.label) rank outcome.txns e) lawful.order in
    let no_more : length numbers ≤ length ranks = length-le_from_is_member nat_eq_equiv numbers ranks (range_differs 0 (length outcome.order))
    (number_found (λ (rank : ℕ). is_member nat_eq ranks rank ≡ true) 0 outcome.order found) in
    let m : length numbers ≡ length outcome.order = length-range_with_len 0 (length outcome.order) in
    let k : length ranks ≡ length outcome.txns = length-map outcome.txns (λ (txn : TxnOutcome). rank_in (committed_at txn.ending)) in
    omega (arith, no_more, m, k)

-- ---- transactions of a script that is made

many_labels_of : (session number : ℕ) (txns : List Txn) → length (labels_of session number txns) ≡ length txns
many_labels_of session number [] = refl
many_labels_of session number (txn ∷ txns) = ap suc (many_labels_of session (suc number) txns)

few_labels : (txns : ℕ) → txns ≤ 1000 → (session number count state : ℕ)
    → length (labels_from session (map (λ (named : NamedTxns). named.txns) (sessions_from txns number count state))) ≤ count * 1000
unfolding sessions_from
few_labels txns few session number zero state = omega arith
few_labels txns few session number (suc count) state =
    let here : List Label = labels_of session 1 (txns_from txns state) in
    let others : List Label = labels_from (suc session)
    (map (λ (named : NamedTxns). named.txns) (sessions_from txns (number + 1) count (state_after_txns txns state))) in
    let split : length (here ++ others) ≡ length here + length others = length-append here others in
    let one : length here ≡ length (txns_from txns state) = many_labels_of session 1 (txns_from txns state) in
    let many : length (txns_from txns state) ≡ txns = many_txns txns state in
    let rest : length others ≤ count * 1000 = few_labels txns few (suc session) (number + 1) count (state_after_txns txns state) in
    omega (arith, split, one, many, rest)

made_are_few : (seed sessions txns : ℕ) → sessions ≤ 64 → txns ≤ 1000 → length (labels_from 0 (made_setting seed sessions txns).programs) ≤ 64000
unfolding made
made_are_few seed sessions txns few short = let all = few_labels txns short 0 1 sessions seed in omega (arith, all)

pub order_of_made_is_short : (seed sessions txns : ℕ) → sessions ≤ 64 → txns ≤ 1000 → (outcome : Outcome)
    → Lawful (made_setting seed sessions txns) outcome → length outcome.order ≤ 64000
order_of_made_is_short seed sessions txns few short outcome lawful =
    let all = order_is_short (made_setting seed sessions txns) outcome lawful in
    let labelled : length (map (λ (txn : TxnOutcome). txn.label) outcome.txns) ≡ length outcome.txns =
    length-map outcome.txns (λ (txn : TxnOutcome). txn.label) in
    let same = ap (λ (labels : List Label). length labels) lawful.transactions in
    let made_few = made_are_few seed sessions txns few short in
    omega (arith, all, labelled, same, made_few)
