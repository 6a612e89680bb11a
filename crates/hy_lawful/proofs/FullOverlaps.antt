-- Transactions that are open at a time may have been so, as far as the outcome tells in the end.
use Rattle.std.proofs.Common.{◌≡◌, ℕ, zero, suc, ◌+◌, ◌<◌, ◌≤◌, List, [], ◌∷◌, ◌++◌, Option, None, Some, Bool, true, not, get_or, length, map, refl}
use Rattle.std.proofs.Common.{ap, sym, ◌∙◌, subst, arith}
use Rattle.std.proofs.Common.{inl, inr, ◌⊎◌}
use Rattle.std.specs.Prelude.{slice_get, nat_lt, nat_le, ◌==◌, IsTrue, ◌&&◌}
use Rattle.std.specs.Option.{option_map, IsSomeAnd}
use Rattle.std.specs.List.{AllByRecursion, list_all}
use Rattle.std.proofs.lemmas.Bool.{cases_lt, eqb-true, ltb-true, le-leb, ne_eqb}
use Rattle.std.proofs.lemmas.List.{length-append, length-map}
use Rattle.std.proofs.lemmas.Option.{same_Some, slice_get_within, slice_get-map, slice_get-get_or}
use Rattle.hy_stamp.specs.declared.Label.{Label}
use Rattle.hy_bound.specs.declared.Ending.{Ending}
use Rattle.hy_bound.specs.declared.Ending.TheVariants.{Committed}
use Rattle.hy_render.specs.declared.TxnOutcome.{TxnOutcome}
use Rattle.hy_render.specs.declared.Outcome.{Outcome}
use Rattle.hy_machine.specs.declared.Setting.{Setting}
use Rattle.hy_machine.specs.States.{State, Session, Open, Finished}
use Rattle.hy_machine.specs.Tables.{Entry}
use Rattle.hy_machine.specs.Sessions.{session_at, label_of}
use Rattle.hy_machine.specs.Outcomes.{txn_outcome_of, outcome_of}
use Rattle.hy_machine.specs.Runs.{after_steps}
use Rattle.hy_lawful.specs.Outcomes.{committed_at, is_later, later_than, outcome_at}
use Rattle.hy_lawful.specs.Overlaps.{reaches, may_overlap, MayOverlap, IsThereSince, is_open, has_entered, OpenOnesOverlap}
use Rattle.hy_lawful.proofs.Booleans.{and_left, and_right, and_true}
use Rattle.hy_lawful.proofs.Fits.{label_at, reach, reach_of, OpenFits, NowFits, Ranked, ended, entered, NowStamps, Fits}
use Rattle.hy_lawful.proofs.Followers.{comes_behind}
use Rattle.hy_lawful.proofs.Lists.{kept_in_front, last_item, all_kept}
use Rattle.hy_lawful.proofs.Followers.{done_fits}
use Rattle.hy_lawful.proofs.Opponents.{reached}
use Rattle.hy_lawful.proofs.Outcomes.{each_outcome}
use Rattle.hy_lawful.proofs.Over.{IsOver, HasEnded, is_over, txn_ended, outcome_has}
use Rattle.hy_lawful.proofs.Reached.{reached_fits, steps_fit}
use Rattle.hy_lawful.proofs.FullStarts.{now_starts, starts_of, added, Later, steps_later}

-- ---- how far a transaction reaches

-- the transactions of a session behind one, by the number of those before it, start at this rank or behind it
abbrev pub Reaches : State → ℕ → ℕ → ℕ → Type 0
Reaches state number before rank =
    (after start : ℕ) → before < after → slice_get (starts_of (session_at state number)) after ≡ Some start → rank ≤ start

pub reaches_later : (state later : State) → Later state later → (number before rank : ℕ) → rank ≤ length state.order → Reaches state number before rank
    → Reaches later number before rank
reaches_later state later h number before rank l r after start below e =
    elim (added (length state.order) (starts_of (session_at state number)) (starts_of (session_at later number)) (h.starts number) after start e) [
      | inl old ↦ r after start below old
      | inr new ↦ omega (arith, l, new)
    ]

-- a transaction has begun, and starts here
abbrev pub Starts : State → ℕ → ℕ → ℕ → Type 0
Starts state number before start = slice_get (starts_of (session_at state number)) before ≡ Some start

pub starts_later : (state later : State) → Later state later → (number before start : ℕ) → Starts state number before start
    → Starts later number before start
starts_later state later h number before start e =
    ap (λ (l : List ℕ). slice_get l before) (h.starts number).joined
    ∙ kept_in_front (starts_of (session_at state number)) (h.starts number).more before start e

abbrev ended_starts : Session → List ℕ
ended_starts session = map (λ (finished : Finished). finished.begun.prefix) session.done

done_starts : (session : Session) (before : ℕ) (finished : Finished) → slice_get session.done before ≡ Some finished
    → slice_get (starts_of session) before ≡ Some finished.begun.prefix
done_starts session before finished e =
    kept_in_front (ended_starts session) (now_starts session.now) before finished.begun.prefix
    (slice_get-map (λ (f : Finished). f.begun.prefix) session.done before
    ∙ ap (option_map (λ (f : Finished). f.begun.prefix)) e)

open_starts : (session : Session) (current : Open) → session.now ≡ Some current
    → starts_of session ≡ ended_starts session ++ current.begun.prefix ∷ []
open_starts session current e = ap (λ (now : Option Open). ended_starts session ++ now_starts now) e

ended_long : (session : Session) → length (ended_starts session) ≡ length session.done
ended_long session = length-map session.done (λ (finished : Finished). finished.begun.prefix)

open_starts_at : (session : Session) (current : Open) → session.now ≡ Some current
    → slice_get (starts_of session) (length session.done) ≡ Some current.begun.prefix
open_starts_at session current e =
    ap (λ (l : List ℕ). slice_get l (length session.done)) (open_starts session current e)
    ∙ (ap (slice_get (ended_starts session ++ current.begun.prefix ∷ [])) (sym (ended_long session))
    ∙ last_item (ended_starts session) current.begun.prefix)

-- an open one has none behind it
pub open_reaches : (state : State) (number : ℕ) (current : Open) → (session_at state number).now ≡ Some current → (rank : ℕ)
    → Reaches state number (length (session_at state number).done) rank
open_reaches state number current is rank after start below e =
    let session : Session = session_at state number in
    let within : after < length (starts_of session) = slice_get_within (starts_of session) after start e in
    let long : length (starts_of session) ≡ length (ended_starts session) + 1 =
    ap (λ (l : List ℕ). length l) (open_starts session current is) ∙ length-append (ended_starts session) (current.begun.prefix ∷ []) in
    absurd (omega (arith, within, long, below, ended_long session))

-- ---- what has committed

starts_behind : (setting : Setting) (state : State) → Fits setting state → (number before : ℕ) (finished : Finished)
    → slice_get (session_at state number).done before ≡ Some finished → Reaches state number before (reach_of finished)
starts_behind setting state fits number before finished at after start below e = by_now (session_at state number).now refl
  where
    session : Session
    session = session_at state number

    behind : (later : ℕ) → slice_get (ended_starts session) after ≡ Some later → reach_of finished ≤ later
    behind later f = by_done (slice_get session.done after) refl
      where
        by_done : (one : Option Finished) → slice_get session.done after ≡ one → reach_of finished ≤ later
        by_done None g = absurd (
            let never : None ≡ Some later = sym (slice_get-map (λ (f : Finished). f.begun.prefix) session.done after
            ∙ ap (option_map (λ (f : Finished). f.begun.prefix)) g) ∙ f in cc)
        by_done (Some one) g =
            let same : one.begun.prefix ≡ later = same_Some one.begun.prefix later
            (sym (slice_get-map (λ (f : Finished). f.begun.prefix) session.done after ∙ ap (option_map (λ (f : Finished). f.begun.prefix)) g) ∙ f) in
            omega (arith, same, (comes_behind 0 session.done (fits.sessions number).climbs before after finished one at g below).1)

    in_front : after < length (ended_starts session) → slice_get (starts_of session) after ≡ slice_get (ended_starts session) after
    in_front front =
        let here : slice_get (ended_starts session) after ≡ Some (get_or (ended_starts session) after 0) =
        slice_get-get_or (ended_starts session) after 0 front in
        kept_in_front (ended_starts session) (now_starts session.now) after (get_or (ended_starts session) after 0) here ∙ sym here

    by_now : (now : Option Open) → session.now ≡ now → reach_of finished ≤ start
    by_now None is = elim (cases_lt after (length (ended_starts session))) [
      | inl front ↦ behind start (sym (in_front front) ∙ e)
      | inr past ↦ absurd (let within : after < length (starts_of session) = slice_get_within (starts_of session) after start e in
          let long : length (starts_of session) ≡ length (ended_starts session) + 0 =
          length-append (ended_starts session) (now_starts session.now)
          ∙ ap (λ (now : Option Open). length (ended_starts session) + length (now_starts now)) is in
          omega (arith, within, long, past))
    ]
    by_now (Some current) is = elim (cases_lt after (length (ended_starts session))) [
      | inl front ↦ behind start (sym (in_front front) ∙ e)
      | inr past ↦
          let within : after < length (starts_of session) = slice_get_within (starts_of session) after start e in
          let long : length (starts_of session) ≡ length (ended_starts session) + 1 =
          length-append (ended_starts session) (now_starts session.now)
          ∙ ap (λ (now : Option Open). length (ended_starts session) + length (now_starts now)) is in
          let last : length session.done ≡ after = omega (arith, within, long, past, ended_long session) in
          let same : current.begun.prefix ≡ start = same_Some current.begun.prefix start
          (sym (open_starts_at session current is) ∙ (ap (slice_get (starts_of session)) last ∙ e)) in
          let present : OpenFits setting state.order state.mark number session.done current =
          subst (NowFits setting state.order state.mark number session.done) is (fits.sessions number).now in
          omega (arith, same, present.above, reached 0 session.done (fits.sessions number).climbs before finished at)
    ]

-- ---- two that overlap

-- two begun transactions of two sessions, each of which reaches the start of the other
pub record Overlap (state : State) (number before start other after begin : ℕ) : Type 0 where
  pub apart : other ≡ number → ⊥
  pub starts : Starts state number before start
  pub begins : Starts state other after begin
  pub within : start ≤ length state.order
  pub inside : begin ≤ length state.order
  pub reaches : Reaches state number before begin
  pub back : Reaches state other after start

pub overlap_later : (state later : State) → Later state later → (number before start other after begin : ℕ)
    → Overlap state number before start other after begin → Overlap later number before start other after begin
overlap_later state later h number before start other after begin o = record {
  apart = o.apart;
  starts = starts_later state later h number before start o.starts;
  begins = starts_later state later h other after begin o.begins;
  within = omega (arith, o.within, h.order);
  inside = omega (arith, o.inside, h.order);
  reaches = reaches_later state later h number before begin o.inside o.reaches;
  back = reaches_later state later h other after start o.within o.back;
}

pub swapped : (state : State) (number before start other after begin : ℕ) → Overlap state number before start other after begin
    → Overlap state other after begin number before start
swapped state number before start other after begin o = record {
  apart = λ e. o.apart (sym e);
  starts = o.begins;
  begins = o.starts;
  within = o.inside;
  inside = o.within;
  reaches = o.back;
  back = o.reaches;
}

-- an open transaction, and one of another session that is open too
pub open_overlap : (setting : Setting) (state : State) → Fits setting state → (number : ℕ) (current : Open) → (session_at state number).now ≡ Some current
    → (other : ℕ) (rival : Open) → (other ≡ number → ⊥) → (session_at state other).now ≡ Some rival
    → Overlap state number (length (session_at state number).done) current.begun.prefix other (length (session_at state other).done) rival.begun.prefix
open_overlap setting state fits number current is other rival apart beside =
    let present : OpenFits setting state.order state.mark number (session_at state number).done current =
    subst (NowFits setting state.order state.mark number (session_at state number).done) is (fits.sessions number).now in
    let there : OpenFits setting state.order state.mark other (session_at state other).done rival =
    subst (NowFits setting state.order state.mark other (session_at state other).done) beside (fits.sessions other).now in
    record {
      apart = apart;
      starts = open_starts_at (session_at state number) current is;
      begins = open_starts_at (session_at state other) rival beside;
      within = present.start;
      inside = there.start;
      reaches = open_reaches state number current is rival.begun.prefix;
      back = open_reaches state other rival beside current.begun.prefix;
    }

-- an open transaction, and one that has committed since its start
pub committed_overlap : (setting : Setting) (state : State) → Fits setting state → (number : ℕ) (current : Open)
    → (session_at state number).now ≡ Some current → (other after rank : ℕ) (rival : Finished) → (other ≡ number → ⊥)
    → slice_get (session_at state other).done after ≡ Some rival → rival.ending ≡ Committed rank → current.begun.prefix ≤ rank
    → Overlap state number (length (session_at state number).done) current.begun.prefix other after rival.begun.prefix
committed_overlap setting state fits number current is other after rank rival apart at ends since =
    let present : OpenFits setting state.order state.mark number (session_at state number).done current =
    subst (NowFits setting state.order state.mark number (session_at state number).done) is (fits.sessions number).now in
    let here : reach_of rival ≡ suc rank = ap (λ (ending : Ending). reach rival.begun.prefix (committed_at ending)) ends in
    record {
      apart = apart;
      starts = open_starts_at (session_at state number) current is;
      begins = done_starts (session_at state other) after rival at;
      within = present.start;
      inside = (done_fits setting state fits other after rival at).start;
      reaches = open_reaches state number current is rival.begun.prefix;
      back = λ later start below e. omega (arith, since, here, starts_behind setting state fits other after rival at later start below e);
    }

-- ---- in the end

all_true : {X : Type 0} (p : X → Bool) (xs : List X) → AllByRecursion (λ x. p x ≡ true) xs → list_all p xs ≡ true
all_true p [] h = refl
all_true p (x ∷ xs) h = and_true (p x) (list_all p xs) h.0 (all_true p xs h.1)

pub reaches_told : (setting : Setting) (state : State) (number before rank : ℕ) (finished : Finished) → Reaches state number before rank
    → reaches (outcome_of setting state) (txn_outcome_of setting number before finished) rank ≡ true
reaches_told setting state number before rank finished r =
    all_true (λ (later : TxnOutcome). nat_le rank later.start) (later_than (outcome_of setting state) (txn_outcome_of setting number before finished))
    (all_kept (λ (later : TxnOutcome). nat_le rank later.start ≡ true) (is_later (record { session = number; txn = suc before }))
    (outcome_of setting state).txns
    (each_outcome setting (λ (txn : TxnOutcome). is_later (record { session = number; txn = suc before }) txn ≡ true → nat_le rank txn.start ≡ true) state
    (λ other after later e is.
    let same : other ≡ number = eqb-true other number (and_left (other == number) (nat_lt (suc before) (suc after)) is) in
    let below : suc before < suc after = ltb-true (suc before) (suc after) (and_right (other == number) (nat_lt (suc before) (suc after)) is) in
    le-leb rank later.begun.prefix (r after later.begun.prefix (omega (arith, below))
    (ap (λ (n : ℕ). slice_get (starts_of (session_at state n)) after) (sym same) ∙ done_starts (session_at state other) after later e)))))

-- an ended transaction is the one that starts there
start_is : (state : State) (number before start : ℕ) (finished : Finished) → Starts state number before start
    → slice_get (session_at state number).done before ≡ Some finished → start ≡ finished.begun.prefix
start_is state number before start finished s e =
    same_Some start finished.begun.prefix (sym s ∙ done_starts (session_at state number) before finished e)

not_equal : (a b : ℕ) → (b ≡ a → ⊥) → not (a == b) ≡ true
not_equal a b n = ap not (ne_eqb a b (λ e. n (sym e)))

pub overlap_told : (setting : Setting) (state : State) (number before start other after begin : ℕ) → Overlap state number before start other after begin
    → (finished rival : Finished) → slice_get (session_at state number).done before ≡ Some finished
    → slice_get (session_at state other).done after ≡ Some rival
    → may_overlap (outcome_of setting state) (txn_outcome_of setting number before finished) (txn_outcome_of setting other after rival) ≡ true
overlap_told setting state number before start other after begin o finished rival e f =
    let outcome : Outcome = outcome_of setting state in
    let txn : TxnOutcome = txn_outcome_of setting number before finished in
    let one : TxnOutcome = txn_outcome_of setting other after rival in
    and_true (not (number == other)) (reaches outcome txn one.start && reaches outcome one txn.start) (not_equal number other o.apart)
    (and_true (reaches outcome txn one.start) (reaches outcome one txn.start)
    (reaches_told setting state number before rival.begun.prefix finished
    (subst (Reaches state number before) (start_is state other after begin rival o.begins f) o.reaches))
    (reaches_told setting state other after finished.begun.prefix rival
    (subst (Reaches state other after) (start_is state number before start finished o.starts e) o.back)))

-- ---- by labels

item_label : (order : List Entry) (rank : ℕ) → option_map (λ (entry : Entry). entry.label) (slice_get order rank) ≡ label_at order rank
item_label [] rank = refl
item_label (entry ∷ order) zero = refl
item_label (entry ∷ order) (suc rank) = item_label order rank

-- a begun transaction may have been open with another one, wherever this begun one stands
pub record Meets (state : State) (number before prefix : ℕ) (other : Label) : Type 0 where
  pub after : ℕ
  pub begin : ℕ
  pub is : other.txn ≡ suc after
  pub overlap : Overlap state number before prefix other.session after begin

abbrev pub MeetsOne : State → ℕ → Open → Label → Type 0
MeetsOne state number current other = Meets state number (length (session_at state number).done) current.begun.prefix other

pub meets_open : (setting : Setting) (state : State) → Fits setting state → (number : ℕ) (current : Open) → (session_at state number).now ≡ Some current
    → (other : Label) → (other.session ≡ number → ⊥) → (now : Option Open) → (session_at state other.session).now ≡ now → NowStamps now ⊎ (now ≡ None → ⊥)
    → other.txn ≡ suc (length (session_at state other.session).done) → MeetsOne state number current other
meets_open setting state fits number current is other apart None e open_one t = absurd (elim open_one [
  | inl stamps ↦ stamps
  | inr some ↦ some refl
])
meets_open setting state fits number current is other apart (Some rival) e open_one t = record {
  after = length (session_at state other.session).done;
  begin = rival.begun.prefix;
  is = t;
  overlap = open_overlap setting state fits number current is other.session rival apart e;
}

pub meets_ranked : (setting : Setting) (state : State) → Fits setting state → (number : ℕ) (current : Open) → (session_at state number).now ≡ Some current
    → (other : Label) → (other.session ≡ number → ⊥) → (rank : ℕ) → current.begun.prefix ≤ rank → Ranked state rank other
    → MeetsOne state number current other
meets_ranked setting state fits number current is other apart rank since (ended after rival t at ends) = record {
  after = after;
  begin = rival.begun.prefix;
  is = t;
  overlap = committed_overlap setting state fits number current is other.session after rank rival apart at ends since;
}
meets_ranked setting state fits number current is other apart rank since (entered m t r) =
    meets_open setting state fits number current is other apart (session_at state other.session).now refl (inl (fits.marked other.session m)) t

meets_one : (setting : Setting) (state : State) → Fits setting state → (number : ℕ) (current : Open) → (session_at state number).now ≡ Some current
    → (other : Label) → (other.session ≡ number → ⊥) → IsThereSince state current.begun.prefix other → MeetsOne state number current other
meets_one setting state fits number current is other apart (is_open rival beside label) =
    meets_open setting state fits number current is other apart (session_at state other.session).now refl
    (inr (λ none. absurd (let never : None ≡ Some rival = sym none ∙ beside in cc))) (ap (λ (l : Label). l.txn) label)
meets_one setting state fits number current is other apart (has_entered rank since label) =
    meets_ranked setting state fits number current is other apart rank since
    (fits.ranked rank other (sym (item_label state.order rank) ∙ label))

begun_has : (setting : Setting) (state : State) → IsOver setting state → (number before start : ℕ) → Starts state number before start
    → before < length (session_at state number).done
begun_has setting state over number before start e = by_now (session_at state number).now refl
  where
    session : Session
    session = session_at state number

    by_now : (now : Option Open) → session.now ≡ now → before < length session.done
    by_now None is =
        let within : before < length (starts_of session) = slice_get_within (starts_of session) before start e in
        let long : length (starts_of session) ≡ length (map (λ (finished : Finished). finished.begun.prefix) session.done) + 0 =
        length-append (map (λ (finished : Finished). finished.begun.prefix) session.done) (now_starts session.now)
        ∙ ap (λ (now : Option Open). length (map (λ (finished : Finished). finished.begun.prefix) session.done) + length (now_starts now)) is in
        omega (arith, within, long, ended_long session)
    by_now (Some current) is =
        let present : OpenFits setting state.order state.mark number session.done current =
        subst (NowFits setting state.order state.mark number session.done) is (over.fits.sessions number).now in
        absurd (omega (arith, present.there, over.all number))

pub label_has : (setting : Setting) (state : State) → IsOver setting state → (label : Label) (before start : ℕ) → label.txn ≡ suc before
    → Starts state label.session before start → HasEnded state label
label_has setting state over label before start t e =
    txn_ended setting state over label (record {
      first = omega (arith, t);
      few = omega (arith, t, begun_has setting state over label.session before start e, over.all label.session);
    })

pub told : (setting : Setting) (state : State) → IsOver setting state → (label other : Label) (before start after begin : ℕ) → label.txn ≡ suc before
    → other.txn ≡ suc after → Overlap state label.session before start other.session after begin → MayOverlap (outcome_of setting state) label other
told setting state over label other before start after begin t u o =
    let one : HasEnded state label = label_has setting state over label before start t o.starts in
    let two : HasEnded state other = label_has setting state over other after begin u o.begins in
    subst (λ (txn : Option TxnOutcome). IsSomeAnd txn (λ txn. IsSomeAnd (outcome_at (outcome_of setting state) other)
    (λ rival. IsTrue (may_overlap (outcome_of setting state) txn rival)))) (sym (outcome_has setting state label one))
    (subst (λ (rival : Option TxnOutcome). IsSomeAnd rival (λ rival. IsTrue (may_overlap (outcome_of setting state)
    (txn_outcome_of setting label.session one.before one.finished) rival))) (sym (outcome_has setting state other two))
    (overlap_told setting state label.session one.before start other.session two.before begin
    (subst (λ (n : ℕ). Overlap state label.session n start other.session two.before begin)
    (let same : before ≡ one.before = omega (arith, t, one.is) in same)
    (subst (λ (n : ℕ). Overlap state label.session before start other.session n begin)
    (let same : after ≡ two.before = omega (arith, u, two.is) in same) o)) one.finished two.finished one.at two.at))

pub open_ones_overlap : OpenOnesOverlap
open_ones_overlap setting state numbers r over number current is other apart there =
    let fits : Fits setting state = reached_fits setting state r in
    let final : State = after_steps setting state numbers in
    let meets : MeetsOne state number current other = meets_one setting state fits number current is other apart there in
    told setting final (is_over setting final (steps_fit setting state numbers fits) over) (label_of number (session_at state number)) other
    (length (session_at state number).done) current.begun.prefix meets.after meets.begin refl meets.is
    (overlap_later state final (steps_later setting state numbers fits) number (length (session_at state number).done) current.begun.prefix
    other.session meets.after meets.begin meets.overlap)
