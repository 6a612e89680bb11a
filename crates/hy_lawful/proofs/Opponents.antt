-- Whom a refusal names: a transaction of another session that the script has.
use Rattle.std.proofs.Common.{◌≡◌, ℕ, zero, suc, ◌+◌, ◌<◌, ◌≤◌, List, [], ◌∷◌, Option, None, Some, Bool, true, false, not, length, drop, get_or, cond, refl}
use Rattle.std.proofs.Common.{ap, sym, ◌∙◌, subst, arith, inl, inr, zero-add, add-zero}
use Rattle.std.specs.Prelude.{slice_get, ◌&&◌, ◌==◌}
use Rattle.std.proofs.lemmas.Bool.{cases_Bool, eq-eqb}
use Rattle.std.proofs.lemmas.Option.{same_Some, slice_get_within}
use Rattle.hy_stamp.specs.declared.Label.{Label}
use Rattle.hy_machine.specs.declared.Setting.{Setting}
use Rattle.hy_machine.specs.States.{State, Session, Open, Finished}
use Rattle.hy_machine.specs.Tables.{Entry}
use Rattle.hy_machine.specs.Positions.{item_at, last_some}
use Rattle.hy_machine.specs.Sessions.{fresh, session_at, label_of}
use Rattle.hy_machine.specs.Holding.{holds, holder_from, changes_row, changer_at, opponent}
use Rattle.hy_lawful.specs.Outcomes.{committed_at}
use Rattle.hy_lawful.proofs.Lists.{or_some, chosen}
use Rattle.hy_lawful.proofs.Fits.{label_at, HasTxn, reach, reach_of, top_of, Climbs, NowFits, SessionFits, Ranked, ended, entered, NowStamps, Fits}
use Rattle.hy_lawful.proofs.Booleans.{and_left, and_right}

-- a holder is another session that holds the position
pub holder_is : (P : Label → Type 0) (setting : Setting) (number table pos first : ℕ) (sessions : List Session) (label : Label)
    → ((i : ℕ) → (first + i ≡ number → ⊥) → holds setting table pos (get_or sessions i fresh).now ≡ true → P (label_of (first + i) (get_or sessions i fresh)))
    → holder_from setting number table pos first sessions ≡ Some label → P label
holder_is P setting number table pos first [] label f e = absurd cc
holder_is P setting number table pos first (session ∷ sessions) label f e =
    elim (cases_Bool (not (first == number) && holds setting table pos session.now)) [
      | inl t ↦ subst P (same_Some (label_of first session) label
          (ap (λ b. cond b (Some (label_of first session)) (holder_from setting number table pos (suc first) sessions)) (sym t) ∙ e))
          (subst (λ (n : ℕ). P (label_of n session)) (add-zero first)
          (f 0 (λ same. apart (first == number) (and_left (not (first == number)) (holds setting table pos session.now) t)
          (eq-eqb first number (let there : first ≡ number = omega arith in there)))
          (and_right (not (first == number)) (holds setting table pos session.now) t)))
      | inr n ↦ holder_is P setting number table pos (suc first) sessions label
          (λ i other h. subst (λ (n : ℕ). P (label_of n (get_or sessions i fresh))) (let e : first + suc i ≡ suc first + i = omega arith in e)
          (f (suc i) (λ same. other (omega arith)) h))
          (ap (λ b. cond b (Some (label_of first session)) (holder_from setting number table pos (suc first) sessions)) (sym n) ∙ e)
    ]
  where
    apart : (b : Bool) → not b ≡ true → b ≡ true → ⊥
    apart true n t = absurd cc
    apart false n t = absurd cc

-- the last that changed a position is the transaction of an entry
pub changer_is : (P : Label → Type 0) (table pos : ℕ) (entries : List Entry) (label : Label) → ((i : ℕ) (one : Label) → label_at entries i ≡ Some one → P one)
    → last_some (changer_at table pos) entries ≡ Some label → P label
changer_is P table pos [] label f e = absurd cc
changer_is P table pos (entry ∷ entries) label f e = elim (or_some (last_some (changer_at table pos) entries) (changer_at table pos entry) label e) [
  | inl h ↦ changer_is P table pos entries label (λ i one. f (suc i) one) h
  | inr h ↦ subst P (chosen (changes_row (item_at entry.cells table pos)) entry.label label h) (f 0 entry.label refl)
]

pub label_dropped : (from : ℕ) (order : List Entry) (i : ℕ) → label_at (drop from order) i ≡ label_at order (from + i)
label_dropped zero order i = ap (label_at order) (sym (zero-add i))
label_dropped (suc from) [] i = refl
label_dropped (suc from) (entry ∷ order) i = label_dropped from order i ∙ ap (label_at (entry ∷ order))
    (let e : suc (from + i) ≡ suc from + i = omega arith in e)

-- what committed lies below the top
climbs_over : (low : ℕ) (done : List Finished) → Climbs low done → low ≤ top_of low done
climbs_over low [] c = omega arith
climbs_over low (first ∷ done) c = omega (arith, c.0, c.1, climbs_over (reach_of first) done c.2)

pub reached : (low : ℕ) (done : List Finished) → Climbs low done → (before : ℕ) (finished : Finished) → slice_get done before ≡ Some finished
    → reach_of finished ≤ top_of low done
reached low [] c before finished e = absurd cc
reached low (first ∷ done) c zero finished e =
    subst (λ (f : Finished). reach_of f ≤ top_of (reach_of first) done) (same_Some first finished e) (climbs_over (reach_of first) done c.2)
reached low (first ∷ done) c (suc before) finished e = reached (reach_of first) done c.2 before finished e

-- the script has the transaction of a session that is open
open_has : (setting : Setting) (order : List Entry) (mark : Option ℕ) (number : ℕ) (session : Session) → SessionFits setting order mark number session
    → (now : Option Open) → session.now ≡ now → (now ≡ None → ⊥) → HasTxn setting (label_of number session)
open_has setting order mark number session fits None is some = absurd (some refl)
open_has setting order mark number session fits (Some current) is some =
    let present : NowFits setting order mark number session.done (Some current) = subst (NowFits setting order mark number session.done) is fits.now in
    record { first = omega arith; few = omega (arith, present.there) }

pub held_open : (setting : Setting) (table pos : ℕ) (now : Option Open) → holds setting table pos now ≡ true → now ≡ None → ⊥
held_open setting table pos None h e = absurd cc
held_open setting table pos (Some current) h e = absurd cc

stamps_open : (now : Option Open) → NowStamps now → now ≡ None → ⊥
stamps_open None h e = h
stamps_open (Some current) h e = absurd cc

-- the script has each transaction whose entry stands in the commit order
pub ranked_has : (setting : Setting) (state : State) → Fits setting state → (rank : ℕ) (label : Label) → Ranked state rank label → HasTxn setting label
ranked_has setting state fits rank label (ended before finished e at is) =
    let within : before < length (session_at state label.session).done = slice_get_within (session_at state label.session).done before finished at in
    record { first = omega (arith, e); few = omega (arith, e, within, (fits.sessions label.session).few) }
ranked_has setting state fits rank label (entered m e r) =
    let has : HasTxn setting (label_of label.session (session_at state label.session)) =
    open_has setting state.order state.mark label.session (session_at state label.session) (fits.sessions label.session)
    (session_at state label.session).now refl
    (stamps_open (session_at state label.session).now (fits.marked label.session m)) in
    record { first = omega (arith, e); few = omega (arith, e, has.few) }

-- an entry from the top of a session on is of another session, unless this one is marked
pub ranked_apart : (setting : Setting) (state : State) → Fits setting state → (number : ℕ) → (state.mark ≡ Some number → ⊥) → (rank : ℕ) (label : Label)
    → top_of 0 (session_at state number).done ≤ rank → Ranked state rank label → label.session ≡ number → ⊥
ranked_apart setting state fits number free rank label top (ended before finished e at is) same =
    let over : reach_of finished ≤ top_of 0 (session_at state number).done =
    reached 0 (session_at state number).done (fits.sessions number).climbs before finished
    (ap (λ (n : ℕ). slice_get (session_at state n).done before) (sym same) ∙ at) in
    let here : reach_of finished ≡ suc rank = ap (λ ending. reach finished.begun.prefix (committed_at ending)) is in
    omega arith
ranked_apart setting state fits number free rank label top (entered m e r) same = free (m ∙ ap Some same)

-- a transaction of another session that the script has
pub record IsRival (setting : Setting) (number : ℕ) (other : Label) : Type 0 where
  pub has : HasTxn setting other
  pub apart : other.session ≡ number → ⊥

pub opponent_is : (setting : Setting) (state : State) → Fits setting state → (number prefix table pos : ℕ) → (state.mark ≡ Some number → ⊥)
    → top_of 0 (session_at state number).done ≤ prefix → (other : Label) → opponent setting state number prefix table pos ≡ Some other
    → IsRival setting number other
opponent_is setting state fits number prefix table pos free top other e =
    elim (or_some (holder_from setting number table pos 0 state.sessions) (last_some (changer_at table pos) (drop prefix state.order)) other e) [
      | inl h ↦ holder_is (IsRival setting number) setting number table pos 0 state.sessions other
          (λ i apart held. record {
            has = subst (λ (n : ℕ). HasTxn setting (label_of n (session_at state i))) (sym (zero-add i))
                (open_has setting state.order state.mark i (session_at state i) (fits.sessions i) (session_at state i).now refl
                (held_open setting table pos (session_at state i).now held));
            apart = apart;
          })
          h
      | inr c ↦ changer_is (IsRival setting number) table pos (drop prefix state.order) other
          (λ i one at. let ranked : Ranked state (prefix + i) one = fits.ranked (prefix + i) one (sym (label_dropped prefix state.order i) ∙ at) in
          record {
            has = ranked_has setting state fits (prefix + i) one ranked;
            apart = ranked_apart setting state fits number free (prefix + i) one (omega arith) ranked;
          })
          c
    ]
