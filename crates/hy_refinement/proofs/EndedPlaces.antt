-- A position where a transaction that has ended left nothing behind shows what it showed.
use Rattle.std.proofs.Common.{◌≡◌, ◌≢◌, ◌⊎◌, ℕ, ◌-◌, ◌<◌, ◌≤◌, List, [], ◌∷◌, length, Contains, None, Some, Bool, true, false}
use Rattle.std.proofs.Common.{refl, sym, ap, ◌∙◌, subst, arith, inl, inr, cond}
use Rattle.std.specs.Prelude.{slice_get, is_some, ◌||◌, nat_lt}
use Rattle.std.specs.List.{AllByRecursion, list_any}
use Rattle.std.proofs.lemmas.Bool.{cases_Bool, ne_eqb, eq-eqb}
use Rattle.std.proofs.lemmas.Option.{same_Some}
use Rattle.hy_bound.specs.declared.Ending.{Ending}
use Rattle.hy_stamp.specs.declared.Stamp.{Stamp}
use Rattle.hy_stamp.specs.declared.Viewer.{Viewer}
use Rattle.hy_stamp.specs.Times.{id_of}
use Rattle.hy_chain.specs.Chains.{Undo, newest, seen}
use Rattle.hy_undo.specs.declared.version.Version.{Version}
use Rattle.hy_undo.specs.Images.{Image, before}
use Rattle.hy_undo.specs.Places.{Place, sees, cell_of, stamps}
use Rattle.hy_undo.specs.Chunks.{is_own}
use Rattle.hy_journal.specs.declared.CoreData.{CoreData}
use Rattle.hy_journal.specs.Core.{core_left}
use Rattle.hy_event.specs.declared.SessionData.{SessionData}
use Rattle.hy_event.specs.declared.Open.{Open}
use Rattle.hy_event.specs.Sessions.{label_of}
use Rattle.hy_machine.specs.declared.Setting.{Setting}
use Rattle.hy_machine.specs.States.{State, Session, Open as MachineOpen}
use Rattle.hy_machine.specs.Tables.{Entry, opening_tables}
use Rattle.hy_machine.specs.Positions.{item_at}
use Rattle.hy_machine.specs.Sessions.{session_at, snapshot}
use Rattle.hy_machine.specs.Holding.{holds, is_held, has_pair}
use Rattle.hy_machine.specs.Steps.{with_ended}
use Rattle.hy_refinement.specs.Stamped.{HasNotStamped, is_unstamped, entries_counted}
use Rattle.hy_refinement.specs.Transactions.{IsOpen, OfOpen}
use Rattle.hy_refinement.specs.Places.{IsOwnStamp, IsOfWriter}
use Rattle.hy_refinement.specs.Places.{IsNewcomer, PlaceShows, is_used}
use Rattle.hy_refinement.specs.Rivals.{ShownAt}
use Rattle.hy_refinement.proofs.Stamps.{first_newest, empty_or, here_or, nothing, apart_all}
use Rattle.hy_refinement.proofs.Holders.{is_there}
use Rattle.hy_prune.specs.OpenStarts.{without}
use Rattle.hy_refinement.proofs.UnwrittenPlaces.{StoodSo, shows_still}
use Rattle.hy_refinement.proofs.FramesLists.{any_set}
use Rattle.hy_refinement.proofs.EndedOpens.{ended, sessions_ended, of_open_ended, still_open}

-- ---- viewers of one start

-- two viewers of one start, whose identifiers are no marks, see the same
same_start : (one other : Viewer) → one.start ≡ other.start → (version : Version) (chain : List (Undo Image))
    → AllByRecursion (λ (undo : Undo Image). undo.stamp.mark ≡ one.id → ⊥) chain
    → AllByRecursion (λ (undo : Undo Image). undo.stamp.mark ≡ other.id → ⊥) chain
    → seen before one version chain ≡ seen before other version chain
same_start one other same version [] a b = refl
same_start one other same version (undo ∷ chain) a b =
    ap (λ (t : Bool). cond (t || nat_lt undo.stamp.mark one.start) version (seen before one (before undo.image version) chain))
    (ne_eqb undo.stamp.mark one.id a.0)
    ∙ (ap (λ (start : ℕ). cond (nat_lt undo.stamp.mark start) version (seen before one (before undo.image version) chain)) same
    ∙ (ap (λ (v : Version). cond (nat_lt undo.stamp.mark other.start) version v) (same_start one other same (before undo.image version) chain a.1 b.1)
    ∙ sym (ap (λ (t : Bool). cond (t || nat_lt undo.stamp.mark other.start) version (seen before other (before undo.image version) chain))
    (ne_eqb undo.stamp.mark other.id b.0))))

-- a transaction leaves nothing behind at a position: the entries that begin to count did not write it, its identifier
-- is not on top, and where it holds the position an entry wrote it
pub record LeavesNothing (setting : Setting) (state : State) (table chunk pos : ℕ) (place : Place) (number : ℕ) (session : SessionData)
    (current : MachineOpen) : Type 0 where
  pub quiet : (rank : ℕ) (entry : Entry) → entries_counted setting state table chunk ≤ rank → slice_get state.order rank ≡ Some entry
      → has_pair table pos entry ≡ false
  pub not_own : HasNotStamped setting state number table chunk → is_own (id_of (label_of session)) (newest place.chain) ≡ false
  pub wrote : holds setting table pos (Some current) ≡ true → list_any (has_pair table pos) state.order ≡ true

module _ (setting : Setting) (state : State) (core : CoreData) (sessions : List SessionData) (table chunk pos : ℕ) (place : Place)
    (shown : ShownAt setting state core sessions table chunk pos place)
    (number : ℕ) (session : SessionData) (now : Open) (current : MachineOpen) (ending : Ending) (is : IsOpen state sessions number session now current)
    (unmarked : (other : ℕ) → (other ≡ number → ⊥) → state.mark ≢ Some other)
    (leaves : LeavesNothing setting state table chunk pos place number session current) where
  fewer : entries_counted setting state table chunk ≤ length state.order
  fewer = elim (cases_Bool (is_unstamped setting state table chunk)) [
    | inl un ↦ let e = ap (λ (b : Bool). cond b (length state.order - 1) (length state.order)) un in omega (arith, e)
    | inr st ↦ let e = ap (λ (b : Bool). cond b (length state.order - 1) (length state.order)) st in omega (arith, e)
  ]

  -- an own stamp on top is another's
  of_another : (stamp : Stamp) → newest place.chain ≡ Some stamp → (own : IsOwnStamp setting state sessions table chunk stamp) → own.number ≡ number → ⊥
  of_another stamp e own same =
      let is_it : own.session ≡ session = same_Some own.session session (sym own.is_open.found ∙ (ap (slice_get sessions) same ∙ is.found)) in
      absurd (let t : is_own (id_of (label_of session)) (newest place.chain) ≡ true =
      ap (is_own (id_of (label_of session))) e
      ∙ eq-eqb stamp.mark (id_of (label_of session)) (own.mark_is ∙ ap (λ (s : SessionData). id_of (label_of s)) is_it) in
      let f = sym t ∙ leaves.not_own (subst (λ (n : ℕ). HasNotStamped setting state n table chunk) same own.not_stamped) in cc)

  own_still : (stamp : Stamp) → newest place.chain ≡ Some stamp → IsOwnStamp setting state sessions table chunk stamp
      → IsOwnStamp setting (ended state number ending) (sessions_ended sessions number session ending) table chunk stamp
  own_still stamp e own = record {
    number = own.number;
    session = own.session;
    now = own.now;
    current = own.current;
    is_open = still_open state sessions number session ending own.number own.session own.now own.current (of_another stamp e own) own.is_open;
    not_stamped = inl (λ f. absurd cc);
    mark_is = own.mark_is;
  }

  -- the others stood so before
  stood : OfOpen (ended state number ending) (sessions_ended sessions number session ending)
      (StoodSo setting state (ended state number ending) sessions table chunk pos)
  stood = of_open_ended (StoodSo setting state (ended state number ending) sessions table chunk pos) state sessions number session now current ending is
      (λ other one present there apart open'. record {
        was = one;
        then = present;
        there = there;
        is_open = open';
        label = refl;
        start = refl;
        not_stamped = λ h. inl (unmarked other apart);
        holds_it = λ h. refl;
        cell = λ h. refl;
      })

  -- ---- a newcomer, who may have the identifier of the one that has ended

  -- a stamp is another open transaction's own, or a time
  known : (stamp : Stamp) → Contains (stamps place) stamp
      → ((own : IsOwnStamp setting state sessions table chunk stamp) × (own.number ≡ number → ⊥)) ⊎ (stamp.mark < core.next)
  known stamp c = elim (empty_or (stamps place)) [
    | inl none ↦ absurd (nothing stamp (subst (λ (xs : List Stamp). Contains xs stamp) none c))
    | inr some ↦ elim (here_or some.0 stamp some.1.0 (subst (λ (xs : List Stamp). Contains xs stamp) some.1.1 c)) [
      | inr later ↦ inr (of_writer stamp (shown.place_shows.times_are_writers.behind some.0 some.1.0 some.1.1 stamp later))
      | inl here ↦
          let is_first : stamps place ≡ stamp ∷ some.1.0 = some.1.1 ∙ ap (λ (s : Stamp). s ∷ some.1.0) here in
          elim (shown.place_shows.times_are_writers.top stamp some.1.0 is_first) [
            | inl own ↦ inl (own, of_another stamp (first_newest place.chain stamp some.1.0 is_first) own)
            | inr w ↦ inr (of_writer stamp w)
          ]
    ]
  ]
    where
      of_writer : (stamp : Stamp) → IsOfWriter setting state core table chunk pos stamp → stamp.mark < core.next
      of_writer stamp w = let mark = w.mark_is in let below = shown.core_shows.times_apart.times w.rank w.entry w.has in omega (arith, mark, below)

  newcomers_saw : (viewer : Viewer) → IsNewcomer (ended state number ending) (core_left core now.start) (sessions_ended sessions number session ending) viewer
      → sees viewer place ≡ item_at (snapshot setting state (entries_counted setting state table chunk)) table pos
  newcomers_saw viewer one =
      let start = one.start in
      let late = one.id in
      let ids = shown.below_ids in
      ap cell_of (same_start viewer (record { id = core.next; start = core.next }) start place.version place.chain
      (apart_all viewer.id place.chain (λ stamp c same. elim (known stamp c) [
        | inl own ↦
            one.new own.0.number own.0.session own.0.now own.0.current
            (still_open state sessions number session ending own.0.number own.0.session own.0.now own.0.current own.1 own.0.is_open)
            (sym own.0.mark_is ∙ same)
        | inr early ↦ omega (arith, early, late, same)
      ]))
      (apart_all core.next place.chain (λ stamp c same. elim (known stamp c) [
        | inl own ↦ let mark = own.0.mark_is in omega (arith, mark, same, ids)
        | inr early ↦ omega (arith, early, same)
      ])))
      ∙ shown.place_shows.newcomer_sees (record { id = core.next; start = core.next }) (record {
        start = refl;
        id = omega arith;
        new = λ other another present there open' e. absurd (omega (arith, e, ids));
      })

  -- ---- use

  used_same : is_used setting (ended state number ending) table pos ≡ is_used setting state table pos
  used_same = elim (cases_Bool (holds setting table pos (Some current))) [
    | inl held ↦
        let wrote = leaves.wrote held in
        ap (λ (b : Bool). is_some (item_at (opening_tables setting) table pos) || (b || is_held setting (ended state number ending) table pos)) wrote
        ∙ sym (ap (λ (b : Bool). is_some (item_at (opening_tables setting) table pos) || (b || is_held setting state table pos)) wrote)
    | inr free ↦ ap (λ (b : Bool). is_some (item_at (opening_tables setting) table pos) || (list_any (has_pair table pos) state.order || b))
        (any_set (λ (each : Session). holds setting table pos each.now) state.sessions number (session_at state number)
        (with_ended ending (session_at state number)) (is_there state number current is.open_there)
        (sym (ap (holds setting table pos) is.open_there ∙ free)))
  ]

  pub ended_shows : PlaceShows setting (ended state number ending) (core_left core now.start) (sessions_ended sessions number session ending)
      table chunk pos place
  ended_shows = shows_still setting state core sessions None (ended state number ending).sessions (without now.start core.active) None
      (sessions_ended sessions number session ending) table chunk pos place shown.core_shows.entries_show shown.place_shows fewer refl leaves.quiet stood
      own_still newcomers_saw used_same
