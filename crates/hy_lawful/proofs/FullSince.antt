-- Whoever is in the way of a write does not stand in the commit order before the writer's start.
use Rattle.std.proofs.Common.{◌≡◌, ℕ, zero, suc, ◌+◌, ◌<◌, ◌≤◌, List, [], ◌∷◌, Option, None, Some, length, drop, refl, ap, sym, ◌∙◌, subst, arith}
use Rattle.std.proofs.Common.{inl, inr, zero-add}
use Rattle.std.specs.Prelude.{slice_get}
use Rattle.std.proofs.lemmas.Bool.{cases_lt}
use Rattle.std.proofs.lemmas.Option.{same_Some, slice_get_within}
use Rattle.hy_stamp.specs.declared.Label.{Label}
use Rattle.hy_machine.specs.declared.Setting.{Setting}
use Rattle.hy_machine.specs.States.{State, Open, Finished}
use Rattle.hy_machine.specs.Tables.{Entry}
use Rattle.hy_machine.specs.Positions.{last_some}
use Rattle.hy_machine.specs.Sessions.{session_at, label_of}
use Rattle.hy_machine.specs.Holding.{holder_from, changer_at, opponent}
use Rattle.hy_lawful.specs.Outcomes.{committed_at}
use Rattle.hy_lawful.proofs.Fits.{label_at, Ranked, ended, entered}
use Rattle.hy_lawful.proofs.Grows.{grows_by}
use Rattle.hy_lawful.proofs.Lists.{or_some}
use Rattle.hy_lawful.proofs.Opponents.{holder_is, changer_is, label_dropped}
use Rattle.hy_lawful.proofs.FullKeeps.{Goes}
use Rattle.hy_lawful.proofs.FullMarks.{NowBefore}
use Rattle.hy_lawful.proofs.FullRoom.{AtWork}

-- a transaction stands in the commit order at this rank or behind it, if it stands in it
abbrev pub StandsSince : State → ℕ → Label → Type 0
StandsSince state prefix other = (rank : ℕ) → label_at state.order rank ≡ Some other → prefix ≤ rank

pub label_is : (order : List Entry) (rank : ℕ) → rank < length order → (label : Label) × (label_at order rank ≡ Some label)
label_is [] rank below = absurd (omega (arith, below))
label_is (entry ∷ order) zero below = (entry.label, refl)
label_is (entry ∷ order) (suc rank) below = label_is order rank (omega (arith, below))

pub since_goes : (setting : Setting) (state later : State) → Goes state later → (prefix : ℕ) (other : Label) → prefix ≤ length state.order
    → StandsSince state prefix other → StandsSince later prefix other
since_goes setting state later g prefix other within h rank e = elim (cases_lt rank (length state.order)) [
  | inl below ↦
      let one = label_is state.order rank below in
      let grown : label_at later.order rank ≡ Some one.0 =
      ap (λ (order : List Entry). label_at order rank) g.order ∙ (grows_by state.order g.entries).stands rank one.0 one.1 in
      h rank (one.1 ∙ (sym grown ∙ e))
  | inr past ↦ omega (arith, past, within)
]

-- a transaction stands at one rank
same_rank : (state : State) (rank at : ℕ) (label : Label) → Ranked state rank label → Ranked state at label → rank ≡ at
same_rank state rank at label (ended before finished t i e) (ended other again u j f) =
    let same : finished ≡ again = same_Some finished again
    (sym i ∙ (ap (slice_get (session_at state label.session).done) (let s : before ≡ other = omega (arith, t, u) in s) ∙ j)) in
    same_Some rank at (ap committed_at (sym e ∙ (ap (λ (one : Finished). one.ending) same ∙ f)))
same_rank state rank at label (ended before finished t i e) (entered m u r) =
    absurd (omega (arith, t, u, slice_get_within (session_at state label.session).done before finished i))
same_rank state rank at label (entered m u r) (ended before finished t i e) =
    absurd (omega (arith, t, u, slice_get_within (session_at state label.session).done before finished i))
same_rank state rank at label (entered m t r) (entered n u s) = omega (arith, r, s)

marked_since : (long rank : ℕ) (marked : ℕ) (mark : Option ℕ) (current : Open) → mark ≡ Some marked → suc rank ≡ long → NowBefore long mark (Some current)
    → current.begun.prefix ≤ rank
marked_since long rank marked None current m r h = absurd cc
marked_since long rank marked (Some one) current m r h = omega (arith, r, h)

-- an open transaction that holds a position stands in the order at most as the marked one
open_since : (setting : Setting) (state : State) (number : ℕ) (current : Open) → AtWork setting state number current → (rank : ℕ) (other : Label)
    → other.txn ≡ suc (length (session_at state other.session).done) → Ranked state rank other → current.begun.prefix ≤ rank
open_since setting state number current w rank other t (ended before finished u at e) =
    absurd (omega (arith, t, u, slice_get_within (session_at state other.session).done before finished at))
open_since setting state number current w rank other t (entered m u r) =
    marked_since (length state.order) rank other.session state.mark current m r
    (subst (NowBefore (length state.order) state.mark) w.is (w.before number))

-- whoever is in the way of a write
pub opponent_since : (setting : Setting) (state : State) (number : ℕ) (current : Open) → AtWork setting state number current → (table pos : ℕ)
    (other : Label) → opponent setting state number current.begun.prefix table pos ≡ Some other → StandsSince state current.begun.prefix other
opponent_since setting state number current w table pos other e =
    let prefix : ℕ = current.begun.prefix in
    elim (or_some (holder_from setting number table pos 0 state.sessions) (last_some (changer_at table pos) (drop prefix state.order)) other e) [
      | inl h ↦ holder_is (StandsSince state prefix) setting number table pos 0 state.sessions other
          (λ i apart held. subst (λ (n : ℕ). StandsSince state prefix (label_of n (session_at state i))) (sym (zero-add i))
          (λ rank at. open_since setting state number current w rank (label_of i (session_at state i)) refl
          (w.fits.ranked rank (label_of i (session_at state i)) at))) h
      | inr c ↦ changer_is (StandsSince state prefix) table pos (drop prefix state.order) other
          (λ i one at rank there.
          let same : rank ≡ prefix + i = same_rank state rank (prefix + i) one (w.fits.ranked rank one there)
          (w.fits.ranked (prefix + i) one (sym (label_dropped prefix state.order i) ∙ at)) in omega (arith, same)) c
    ]
