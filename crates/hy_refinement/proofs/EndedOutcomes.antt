-- What an open transaction comes to where it ends, in the engine and in the machine.
use Rattle.std.proofs.Common.{◌≡◌, ℕ, zero, suc, ◌+◌, List, [], ◌∷◌, ◌++◌, length, map, Option, None, Some, Bool, true, false, refl, sym, ap, ◌∙◌}
use Rattle.std.proofs.Common.{arith, cond, add-zero}
use Rattle.std.specs.Prelude.{◌&&◌, is_some, slice_get, zip}
use Rattle.std.specs.List.{range_with_len}
use Rattle.std.proofs.lemmas.List.Sums.{sum_by-cons}
use Rattle.hy_bound.specs.declared.Bound.{Bound}
use Rattle.hy_bound.specs.declared.Bound.TheVariants.{Select, Group, Insert, Update, Delete, Savepoint, RollbackTo, Release}
use Rattle.hy_bound.specs.declared.Reply.{Reply}
use Rattle.hy_bound.specs.declared.Txn.{Txn}
use Rattle.hy_bound.specs.declared.Ending.{Ending}
use Rattle.hy_render.specs.declared.Place.{Place}
use Rattle.hy_render.specs.declared.TxnOutcome.{TxnOutcome}
use Rattle.hy_stamp.specs.declared.Label.{Label}
use Rattle.hy_event.specs.declared.SessionData.{SessionData}
use Rattle.hy_event.specs.declared.Open.{Open}
use Rattle.hy_event.specs.Sessions.{txn_at, label_of, written}
use Rattle.hy_event.specs.Ended.{inserts_into, placed_in, statements_in, outcome_of}
use Rattle.hy_machine.specs.declared.Setting.{Setting}
use Rattle.hy_machine.specs.States.{Open as MachineOpen, Finished}
use Rattle.hy_machine.specs.Writes.{written as written_there}
use Rattle.hy_machine.specs.Sessions.{program_of}
use Rattle.hy_machine.specs.Outcomes.{inserts_into as inserts_there, placed_by, placed_in as placed_there, placed_from, statements_in as statements_there}
use Rattle.hy_machine.specs.Outcomes.{txn_outcome_of, outcomes_from}

-- ---- the positions that statements took

same_inserts : (table : ℕ) (statement : Bound) → inserts_into table statement ≡ inserts_there table statement
same_inserts table (Select tables ons pred items) = refl
same_inserts table (Group other pred key aggregate) = refl
same_inserts table (Insert other row) = refl
same_inserts table (Update other sets pred) = refl
same_inserts table (Delete other pred) = refl
same_inserts table (Savepoint name) = refl
same_inserts table (RollbackTo name) = refl
same_inserts table (Release name) = refl

same_placed : (table : ℕ) (statements : List Bound) (took : List (Option ℕ)) → placed_in table statements took ≡ placed_there table statements took
same_placed table [] took = refl
same_placed table (statement ∷ statements) [] = refl
same_placed table (statement ∷ statements) (one ∷ took) = by one (same_placed table statements took)
  where
    never : (b : Bool) → (b && false) ≡ false
    never true = refl
    never false = refl

    always : (b : Bool) → (b && true) ≡ b
    always true = refl
    always false = refl

    by : (one : Option ℕ) → placed_in table statements took ≡ placed_there table statements took
        → placed_in table (statement ∷ statements) (one ∷ took) ≡ placed_there table (statement ∷ statements) (one ∷ took)
    by None later =
        sum_by-cons (λ (one : Bound × Option ℕ). cond (inserts_into table one.0 && is_some one.1) 1 0) (statement, None) (zip statements took)
        ∙ (ap (λ (b : Bool). cond b 1 0 + placed_in table statements took) (never (inserts_into table statement))
        ∙ ap (λ (n : ℕ). 0 + n) later)
    by (Some pos) later =
        sum_by-cons (λ (one : Bound × Option ℕ). cond (inserts_into table one.0 && is_some one.1) 1 0) (statement, Some pos) (zip statements took)
        ∙ (ap (λ (b : Bool). cond b 1 0 + placed_in table statements took) (always (inserts_into table statement) ∙ same_inserts table statement)
        ∙ ap (λ (n : ℕ). placed_by table statement (Some pos) + n) later)

placed_all : {A : Type 0} (statements : List Bound) (took : List (Option ℕ)) (first n : ℕ) (tables : List A) → length tables ≡ n
    → map (λ (table : ℕ). placed_in table statements took) (range_with_len first n) ≡ placed_from first statements took tables
placed_all statements took first zero [] long = refl
placed_all statements took first zero (table ∷ tables) long = absurd (omega (arith, long))
placed_all statements took first (suc n) [] long = absurd (omega (arith, long))
placed_all statements took first (suc n) (table ∷ tables) long =
    ap (λ (count : ℕ). count ∷ map (λ (table : ℕ). placed_in table statements took) (range_with_len (first + 1) n)) (same_placed first statements took)
    ∙ ap (λ (counts : List ℕ). placed_there first statements took ∷ counts)
    (ap (λ (next : ℕ). map (λ (table : ℕ). placed_in table statements took) (range_with_len next n)) (let e : first + 1 ≡ suc first = omega arith in e)
    ∙ placed_all statements took (suc first) n tables (omega (arith, long)))

same_statements : (txn : Option Txn) → statements_in txn ≡ statements_there txn
same_statements None = refl
same_statements (Some txn) = refl

-- ---- outcomes

-- outcomes with the same parts are one
same_outcome : (label : Label) (start : ℕ) (replies : List Reply) (ending : Ending) (wrote : List Place) (placed : List ℕ)
    (label' : Label) (start' : ℕ) (replies' : List Reply) (wrote' : List Place) (placed' : List ℕ)
    → label ≡ label' → start ≡ start' → replies ≡ replies' → wrote ≡ wrote' → placed ≡ placed'
    → ◌≡◌ {A = TxnOutcome} (record { label = label; start = start; replies = replies; ending = ending; wrote = wrote; placed = placed })
    (record { label = label'; start = start'; replies = replies'; ending = ending; wrote = wrote'; placed = placed' })
same_outcome label start replies ending wrote placed label' start' replies' wrote' placed' l s r w p =
    λ i. record { label = l i; start = s i; replies = r i; ending = ending; wrote = w i; placed = p i }

-- what a transaction comes to, where its parts are the machine's
pub outcome_is : (setting : Setting) (number before : ℕ) (session : SessionData) (now : Open) (current : MachineOpen) (ending : Ending)
    → label_of session ≡ record { session = number; txn = suc before } → now.prefix ≡ current.begun.prefix → now.replies ≡ current.begun.replies
    → now.took ≡ current.begun.took → written now ≡ written_there current.begun.own
    → txn_at session ≡ slice_get (program_of setting number) before → length setting.first ≡ length session.shapes
    → outcome_of session now ending ≡ txn_outcome_of setting number before (record { begun = current.begun; ending = ending })
outcome_is setting number before session now current ending label prefix replies took wrote txn tables =
    same_outcome _ _ _ ending _ _ _ _ _ _ _ label prefix replies wrote
    (ap (λ (took : List (Option ℕ)). map (λ (table : ℕ). placed_in table (statements_in (txn_at session)) took)
    (range_with_len 0 (length session.shapes))) took
    ∙ (ap (λ (statements : List Bound). map (λ (table : ℕ). placed_in table statements current.begun.took) (range_with_len 0 (length session.shapes)))
    (ap statements_in txn ∙ same_statements (slice_get (program_of setting number) before))
    ∙ placed_all (statements_there (slice_get (program_of setting number) before)) current.begun.took 0 (length session.shapes) setting.first tables))

-- the outcomes of a list with one more at its end
pub one_more_outcome : (setting : Setting) (number before : ℕ) (done : List Finished) (finished : Finished)
    → outcomes_from setting number before (done ++ finished ∷ [])
    ≡ outcomes_from setting number before done ++ txn_outcome_of setting number (before + length done) finished ∷ []
one_more_outcome setting number before [] finished =
    ap (λ (n : ℕ). txn_outcome_of setting number n finished ∷ []) (sym (add-zero before))
one_more_outcome setting number before (first ∷ done) finished =
    ap (λ (others : List TxnOutcome). txn_outcome_of setting number before first ∷ others)
    (one_more_outcome setting number (suc before) done finished
    ∙ ap (λ (n : ℕ). outcomes_from setting number (suc before) done ++ txn_outcome_of setting number n finished ∷ [])
    (let e : suc before + length done ≡ before + suc (length done) = omega arith in e))
