-- What holds of a state holds after a session's transaction goes on, after its entry goes into the commit order, and
-- after it ends.
use Rattle.std.proofs.Common.{◌≡◌, ℕ, suc, ◌+◌, ◌-◌, ◌<◌, ◌≤◌, List, [], ◌∷◌, ◌++◌, Option, None, Some, length, refl, ap, sym, ◌∙◌, subst, arith, inl, inr}
use Rattle.std.proofs.Math.ListN.{set}
use Rattle.std.specs.Prelude.{slice_get}
use Rattle.std.proofs.lemmas.Bool.{cases_eq}
use Rattle.std.proofs.lemmas.List.{length-append, length-set, get_or-set_same, get_or-set_other}
use Rattle.std.proofs.lemmas.Option.{same_Some}
use Rattle.hy_stamp.specs.declared.Label.{Label}
use Rattle.hy_bound.specs.declared.Ending.{Ending}
use Rattle.hy_bound.specs.declared.Ending.TheVariants.{Committed, Read, RolledBack, Conflict, Invalid, Range, Full}
use Rattle.hy_machine.specs.declared.Setting.{Setting}
use Rattle.hy_machine.specs.States.{State, Session, Open, Begun, Finished}
use Rattle.hy_machine.specs.Tables.{Entry}
use Rattle.hy_machine.specs.Sessions.{fresh, session_at, entry_of}
use Rattle.hy_lawful.specs.Outcomes.{EachFrom, committed_at}
use Rattle.hy_lawful.proofs.Lists.{kept_in_front, last_item, all_more, each_more}
use Rattle.hy_lawful.proofs.Grows.{grows_not, grows_by, label_of_more, label_within, session_grows}
use Rattle.hy_lawful.proofs.Fits.{label_at, EndsAs, FitsTables, DoneFits, reach, reach_of, top_of, Climbs, OpenFits, NowFits, SessionFits, Ranked, ended}
use Rattle.hy_lawful.proofs.Fits.{entered, NowStamps, Fits}

-- a state with another order and mark, and one session in place of another
abbrev pub moved_to : State → List Entry → Option ℕ → ℕ → Session → State
moved_to state order mark number session = record { order = order; mark = mark; sessions = set state.sessions number session }

at_same : (state : State) (order : List Entry) (mark : Option ℕ) (number : ℕ) (session : Session) → number < length state.sessions
    → session_at (moved_to state order mark number session) number ≡ session
at_same state order mark number session there = get_or-set_same state.sessions number session fresh there

at_other : (state : State) (order : List Entry) (mark : Option ℕ) (number : ℕ) (session : Session) (other : ℕ) → (other ≡ number → ⊥)
    → session_at (moved_to state order mark number session) other ≡ session_at state other
at_other state order mark number session other apart = get_or-set_other state.sessions number other session fresh apart

-- what holds of the session and of the others holds of each
pub sessions_moved : (P : ℕ → Session → Type 0) (state : State) (order : List Entry) (mark : Option ℕ) (number : ℕ) (session : Session)
    → number < length state.sessions → P number session → ((other : ℕ) → (other ≡ number → ⊥) → P other (session_at state other))
    → (other : ℕ) → P other (session_at (moved_to state order mark number session) other)
sessions_moved P state order mark number session there here others other = elim (cases_eq other number) [
  | inl e ↦ subst (λ (n : ℕ). P n (session_at (moved_to state order mark number session) n)) (sym e)
      (subst (P number) (sym (at_same state order mark number session there)) here)
  | inr apart ↦ subst (P other) (sym (at_other state order mark number session other apart)) (others other apart)
]

-- ---- a transaction begins or goes on

abbrev with_now : State → ℕ → Option Open → Session
with_now state number now = record { done = (session_at state number).done; now = now }

done_same : (state : State) (order : List Entry) (mark : Option ℕ) (number : ℕ) (now : Option Open) → number < length state.sessions
    → (other : ℕ) → (session_at (moved_to state order mark number (with_now state number now)) other).done ≡ (session_at state other).done
done_same state order mark number now there =
    sessions_moved (λ other session. session.done ≡ (session_at state other).done) state order mark number (with_now state number now) there refl
    (λ other apart. refl)

ranked_same : (state : State) (order : List Entry) (mark : Option ℕ) (number : ℕ) (now : Option Open) → number < length state.sessions
    → length state.order ≡ length order → state.mark ≡ mark → (rank : ℕ) (label : Label) → Ranked state rank label
    → Ranked (moved_to state order mark number (with_now state number now)) rank label
ranked_same state order mark number now there longer same rank label (ended before finished e at is) =
    ended before finished e (ap (λ (done : List Finished). slice_get done before) (done_same state order mark number now there label.session) ∙ at) is
ranked_same state order mark number now there longer same rank label (entered m e r) =
    entered (sym same ∙ m) (e ∙ ap (λ (done : List Finished). suc (length done)) (sym (done_same state order mark number now there label.session)))
    (r ∙ longer)

pub fits_now : (setting : Setting) (state : State) (number : ℕ) (now : Option Open) → Fits setting state → number < length state.sessions
    → NowFits setting state.order state.mark number (session_at state number).done now → (state.mark ≡ Some number → NowStamps now)
    → Fits setting (moved_to state state.order state.mark number (with_now state number now))
fits_now setting state number now fits there here marked = record {
  count = length-set state.sessions number (with_now state number now) ∙ fits.count;
  sessions = sessions_moved (SessionFits setting state.order state.mark) state state.order state.mark number (with_now state number now) there
      (let old : SessionFits setting state.order state.mark number (session_at state number) = fits.sessions number in
      record { done = old.done; few = old.few; climbs = old.climbs; top = old.top; now = here })
      (λ other apart. fits.sessions other);
  ranked = λ rank label e. ranked_same state state.order state.mark number now there refl refl rank label (fits.ranked rank label e);
  marked = sessions_moved (λ other session. state.mark ≡ Some other → NowStamps session.now) state state.order state.mark number
      (with_now state number now) there
      marked (λ other apart. fits.marked other);
  cells = fits.cells;
}

-- ---- an entry goes into the commit order

abbrev order_more : Setting → State → ℕ → Begun → List Entry
order_more setting state number begun = state.order ++ entry_of setting state number begun ∷ []

ranked_entered : (setting : Setting) (state : State) (number : ℕ) (begun : Begun) (now : Option Open) → Fits setting state → number < length state.sessions
    → ((other : ℕ) → state.mark ≡ Some other → ⊥) → (rank : ℕ) (label : Label) → label_at (order_more setting state number begun) rank ≡ Some label
    → Ranked (moved_to state (order_more setting state number begun) (Some number) number (with_now state number now)) rank label
ranked_entered setting state number begun now fits there free rank label e =
    elim (label_of_more state.order (entry_of setting state number begun) rank label e) [
      | inl old ↦ before (fits.ranked rank label old)
      | inr new ↦ subst (Ranked (moved_to state grown (Some number) number (with_now state number now)) rank) new.1
          (entered refl (ap (λ (done : List Finished). suc (length done)) (sym (done_same state grown (Some number) number now there number)))
          (omega (arith, new.0, length-append state.order (entry_of setting state number begun ∷ []))))
    ]
  where
    grown : List Entry
    grown = order_more setting state number begun

    before : Ranked state rank label
        → Ranked (moved_to state (order_more setting state number begun) (Some number) number (with_now state number now)) rank label
    before (ended b finished e at is) =
        ended b finished e (ap (λ (done : List Finished). slice_get done b)
        (done_same state (order_more setting state number begun) (Some number) number now there label.session) ∙ at) is
    before (entered m e r) = absurd (free label.session m)

pub fits_entered : (setting : Setting) (state : State) (number : ℕ) (begun : Begun) (now : Option Open) → Fits setting state → number < length state.sessions
    → ((other : ℕ) → state.mark ≡ Some other → ⊥)
    → NowFits setting (order_more setting state number begun) (Some number) number (session_at state number).done now → NowStamps now
    → FitsTables setting (entry_of setting state number begun).cells
    → Fits setting (moved_to state (order_more setting state number begun) (Some number) number (with_now state number now))
fits_entered setting state number begun now fits there free here stamps cells = record {
  count = length-set state.sessions number (with_now state number now) ∙ fits.count;
  sessions = sessions_moved (SessionFits setting (order_more setting state number begun) (Some number)) state (order_more setting state number begun)
      (Some number)
      number (with_now state number now) there
      (let old : SessionFits setting (order_more setting state number begun) None number (session_at state number) =
      session_grows setting state.order (order_more setting state number begun) state.mark None number (session_at state number)
      (grows_by state.order (entry_of setting state number begun ∷ [])) (free number) (fits.sessions number) in
      record { done = old.done; few = old.few; climbs = old.climbs; top = old.top; now = here })
      (λ other apart. session_grows setting state.order (order_more setting state number begun) state.mark (Some number) other (session_at state other)
      (grows_by state.order (entry_of setting state number begun ∷ [])) (free other) (fits.sessions other));
  ranked = ranked_entered setting state number begun now fits there free;
  marked = sessions_moved (λ other session. Some number ≡ Some other → NowStamps session.now) state (order_more setting state number begun) (Some number)
      number (with_now state number now) there (λ e. stamps) (λ other apart e. absurd (apart (sym (same_Some number other e))));
  cells = all_more (λ (entry : Entry). FitsTables setting entry.cells) state.order (entry_of setting state number begun) fits.cells cells;
}

-- ---- a transaction ends

climbs_more : (low : ℕ) (done : List Finished) (finished : Finished) → Climbs low done → top_of low done ≤ finished.begun.prefix
    → finished.begun.prefix ≤ reach_of finished → Climbs low (done ++ finished ∷ [])
climbs_more low [] finished c l r = (l, r, tt)
climbs_more low (first ∷ done) finished c l r = (c.0, c.1, climbs_more (reach_of first) done finished c.2 l r)

top_more : (low : ℕ) (done : List Finished) (finished : Finished) → top_of low (done ++ finished ∷ []) ≡ reach_of finished
top_more low [] finished = refl
top_more low (first ∷ done) finished = top_more (reach_of first) done finished

-- an ending lies in reach of the start and of the order
reach_rises : (setting : Setting) (order : List Entry) (number before : ℕ) (begun : Begun) (ending : Ending) → begun.prefix ≤ length order
    → EndsAs setting order number before (record { begun = begun; ending = ending })
    → (begun.prefix ≤ reach begun.prefix (committed_at ending)) × (reach begun.prefix (committed_at ending) ≤ length order)
reach_rises setting order number before begun (Committed rank) l h =
    let within : rank < length order = label_within order rank (record { session = number; txn = suc before }) h.stands in
    let later : begun.prefix ≤ rank = h.later in
    (omega arith, omega arith)
reach_rises setting order number before begun Read l h = (omega arith, l)
reach_rises setting order number before begun RolledBack l h = (omega arith, l)
reach_rises setting order number before begun (Conflict table pos other) l h = (omega arith, l)
reach_rises setting order number before begun (Invalid table pos other statement) l h = (omega arith, l)
reach_rises setting order number before begun (Range table pos) l h = (omega arith, l)
reach_rises setting order number before begun (Full table) l h = (omega arith, l)

abbrev with_done : State → ℕ → Finished → Session
with_done state number finished = record { done = (session_at state number).done ++ finished ∷ []; now = None }

session_ended : (setting : Setting) (order : List Entry) (mark : Option ℕ) (number : ℕ) (done : List Finished) (finished : Finished)
    → EachFrom 0 (DoneFits setting order number) done → Climbs 0 done → (current : Open) → OpenFits setting order mark number done current
    → finished.begun ≡ current.begun → EndsAs setting order number (length done) finished
    → SessionFits setting order None number (record { done = done ++ finished ∷ []; now = None })
session_ended setting order mark number done finished each climbs current present same ends =
    let start : finished.begun.prefix ≤ length order = subst (λ (b : Begun). b.prefix ≤ length order) (sym same) present.start in
    let above : top_of 0 done ≤ finished.begun.prefix = subst (λ (b : Begun). top_of 0 done ≤ b.prefix) (sym same) present.above in
    let rises = reach_rises setting order number (length done) finished.begun finished.ending start ends in
    record {
      done = each_more 0 (DoneFits setting order number) done finished each
          (subst (λ n. DoneFits setting order number n finished) (let e : length done ≡ 0 + length done = omega arith in e)
          (record { start = start; own = subst (λ (b : Begun). FitsTables setting b.own) (sym same) present.own; ends = ends }));
      few = omega (arith, present.there, length-append done (finished ∷ []));
      climbs = climbs_more 0 done finished climbs above rises.0;
      top = rw (top_more 0 done finished) rises.1;
      now = tt;
    }

done_kept : (state : State) (order : List Entry) (mark : Option ℕ) (number : ℕ) (finished : Finished) → number < length state.sessions
    → (other before : ℕ) (one : Finished) → slice_get (session_at state other).done before ≡ Some one
    → slice_get (session_at (moved_to state order mark number (with_done state number finished)) other).done before ≡ Some one
done_kept state order mark number finished there =
    sessions_moved (λ other session. (before : ℕ) (one : Finished) → slice_get (session_at state other).done before ≡ Some one
    → slice_get session.done before ≡ Some one)
    state order mark number (with_done state number finished) there
    (λ before one e. kept_in_front (session_at state number).done (finished ∷ []) before one e) (λ other apart before one e. e)

ranked_ended : (state : State) (number : ℕ) (finished : Finished) → number < length state.sessions
    → ((other : ℕ) → state.mark ≡ Some other → other ≡ number) → (state.mark ≡ Some number → finished.ending ≡ Committed (length state.order - 1))
    → (rank : ℕ) (label : Label) → Ranked state rank label
    → Ranked (moved_to state state.order None number (with_done state number finished)) rank label
ranked_ended state number finished there own commits rank label (ended before one e at is) =
    ended before one e (done_kept state state.order None number finished there label.session before one at) is
ranked_ended state number finished there own commits rank label (entered m e r) =
    let mine : label.session ≡ number = own label.session m in
    let last : length state.order - 1 ≡ rank = omega (arith, r) in
    ended (length (session_at state number).done) finished
    (e ∙ ap (λ (n : ℕ). suc (length (session_at state n).done)) mine)
    (ap (λ (n : ℕ). slice_get (session_at (moved_to state state.order None number (with_done state number finished)) n).done
    (length (session_at state number).done)) mine
    ∙ (ap (λ (session : Session). slice_get session.done (length (session_at state number).done))
    (at_same state state.order None number (with_done state number finished) there)
    ∙ last_item (session_at state number).done finished))
    (commits (m ∙ ap Some mine) ∙ ap Committed last)

pub fits_ended : (setting : Setting) (state : State) (number : ℕ) (current : Open) (ending : Ending) → Fits setting state → number < length state.sessions
    → ((other : ℕ) → state.mark ≡ Some other → other ≡ number) → (state.mark ≡ Some number → ending ≡ Committed (length state.order - 1))
    → (session_at state number).now ≡ Some current
    → EndsAs setting state.order number (length (session_at state number).done) (record { begun = current.begun; ending = ending })
    → Fits setting (moved_to state state.order None number (with_done state number (record { begun = current.begun; ending = ending })))
fits_ended setting state number current ending fits there own commits is ends =
    let finished : Finished = record { begun = current.begun; ending = ending } in
    let old : SessionFits setting state.order state.mark number (session_at state number) = fits.sessions number in
    let present : OpenFits setting state.order state.mark number (session_at state number).done current =
    subst (NowFits setting state.order state.mark number (session_at state number).done) is old.now in
    record {
      count = length-set state.sessions number (with_done state number finished) ∙ fits.count;
      sessions = sessions_moved (SessionFits setting state.order None) state state.order None number (with_done state number finished) there
          (session_ended setting state.order state.mark number (session_at state number).done finished old.done old.climbs current present refl ends)
          (λ other apart. session_grows setting state.order state.order state.mark None other (session_at state other) (grows_not state.order)
          (λ m. apart (own other m)) (fits.sessions other));
      ranked = λ rank label e. ranked_ended state number finished there own commits rank label (fits.ranked rank label e);
      marked = λ other e. absurd cc;
      cells = fits.cells;
    }
