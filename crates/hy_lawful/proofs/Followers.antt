-- Along a session starts never fall, and lie behind the commits before them.
use Rattle.std.proofs.Common.{◌≡◌, ℕ, zero, suc, ◌<◌, ◌≤◌, List, [], ◌∷◌, Option, None, Some, true, ap, sym, ◌∙◌}
use Rattle.std.proofs.Common.{subst, arith}
use Rattle.std.specs.Prelude.{slice_get, ◌==◌, nat_lt, IfSome}
use Rattle.std.proofs.lemmas.Bool.{eqb-true, ltb-true}
use Rattle.std.proofs.lemmas.Option.{same_Some}
use Rattle.hy_machine.specs.declared.Setting.{Setting}
use Rattle.hy_machine.specs.States.{State, Finished}
use Rattle.hy_machine.specs.Sessions.{session_at}
use Rattle.hy_machine.specs.Outcomes.{txn_outcome_of}
use Rattle.hy_lawful.specs.Outcomes.{committed_at, is_later}
use Rattle.hy_lawful.specs.Lawful.{Follows}
use Rattle.hy_lawful.proofs.Fits.{reach, reach_of, Climbs, DoneFits}
use Rattle.hy_lawful.proofs.Lists.{item_at_number}
use Rattle.hy_lawful.proofs.Fits.{Fits}
use Rattle.hy_lawful.proofs.Booleans.{and_left, and_right}

comes_later : (low : ℕ) (done : List Finished) → Climbs low done → (i : ℕ) (finished : Finished) → slice_get done i ≡ Some finished
    → low ≤ finished.begun.prefix
comes_later low [] c i finished e = absurd cc
comes_later low (first ∷ done) c zero finished e = subst (λ (f : Finished). low ≤ f.begun.prefix) (same_Some first finished e) c.0
comes_later low (first ∷ done) c (suc i) finished e = omega (arith, c.0, c.1, comes_later (reach_of first) done c.2 i finished e)

pub comes_behind : (low : ℕ) (done : List Finished) → Climbs low done → (i j : ℕ) (finished later : Finished) → slice_get done i ≡ Some finished
    → slice_get done j ≡ Some later → i < j → (finished.begun.prefix ≤ reach_of finished) × (reach_of finished ≤ later.begun.prefix)
comes_behind low [] c i j finished later e f below = absurd cc
comes_behind low (first ∷ done) c zero zero finished later e f below = absurd (omega arith)
comes_behind low (first ∷ done) c zero (suc j) finished later e f below =
    subst (λ (one : Finished). (one.begun.prefix ≤ reach_of one) × (reach_of one ≤ later.begun.prefix)) (same_Some first finished e)
    (c.1, comes_later (reach_of first) done c.2 j later f)
comes_behind low (first ∷ done) c (suc i) zero finished later e f below = absurd (omega arith)
comes_behind low (first ∷ done) c (suc i) (suc j) finished later e f below = comes_behind (reach_of first) done c.2 i j finished later e f (omega arith)

behind : (prefix later : ℕ) (committed : Option ℕ) → reach prefix committed ≤ later → IfSome committed (λ (rank : ℕ). rank < later)
behind prefix later None h = tt
behind prefix later (Some rank) h = omega arith

pub follows : (setting : Setting) (state : State) → Fits setting state → (number before : ℕ) (finished : Finished)
    → slice_get (session_at state number).done before ≡ Some finished → (other after : ℕ) (later : Finished)
    → slice_get (session_at state other).done after ≡ Some later
    → is_later (record { session = number; txn = suc before }) (txn_outcome_of setting other after later) ≡ true
    → Follows (txn_outcome_of setting number before finished) (txn_outcome_of setting other after later)
follows setting state fits number before finished e other after later f is =
    let same : other ≡ number = eqb-true other number (and_left (other == number) (nat_lt (suc before) (suc after)) is) in
    let below : suc before < suc after = ltb-true (suc before) (suc after) (and_right (other == number) (nat_lt (suc before) (suc after)) is) in
    let both : (finished.begun.prefix ≤ reach_of finished) × (reach_of finished ≤ later.begun.prefix) =
    comes_behind 0 (session_at state number).done (fits.sessions number).climbs before after finished later e
    (ap (λ (n : ℕ). slice_get (session_at state n).done after) (sym same) ∙ f) (omega arith) in
    record {
      start = omega (arith, both.0, both.1);
      behind = behind finished.begun.prefix later.begun.prefix (committed_at finished.ending) both.1;
    }

-- an ended transaction fits
pub done_fits : (setting : Setting) (state : State) → Fits setting state → (number before : ℕ) (finished : Finished)
    → slice_get (session_at state number).done before ≡ Some finished → DoneFits setting state.order number before finished
done_fits setting state fits number before finished e =
    item_at_number (DoneFits setting state.order number) (session_at state number).done (fits.sessions number).done before finished e
