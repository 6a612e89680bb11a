-- A position that is written shows the cell that is written.
use Rattle.std.proofs.Common.{◌≡◌, ℕ, ◌<◌, List, ◌∷◌, take, None, Some, true, false, Contains}
use Rattle.std.proofs.Common.{refl, sym, ap, ◌∙◌, subst, arith, inl, inr}
use Rattle.std.specs.Prelude.{slice_get, is_some, ◌||◌, unwrap_or}
use Rattle.std.specs.List.{list_any}
use Rattle.std.proofs.lemmas.Bool.{cases_eq, eq-eqb, ne_eqb, or_right}
use Rattle.std.proofs.lemmas.Option.{same_Some}
use Rattle.hy_stamp.specs.declared.Label.{Label}
use Rattle.hy_stamp.specs.declared.Stamp.{Stamp}
use Rattle.hy_stamp.specs.declared.Viewer.{Viewer}
use Rattle.hy_stamp.specs.Times.{id_of}
use Rattle.hy_chain.specs.Chains.{Falls, newest, rival}
use Rattle.hy_undo.specs.Places.{Place, Cell, sees, stamps}
use Rattle.hy_undo.specs.Chunks.{Written, is_own}
use Rattle.hy_journal.specs.declared.CoreData.{CoreData}
use Rattle.hy_event.specs.declared.SessionData.{SessionData}
use Rattle.hy_event.specs.declared.Open.{Open}
use Rattle.hy_event.specs.Sessions.{label_of, viewer_of}
use Rattle.hy_machine.specs.declared.Setting.{Setting}
use Rattle.hy_machine.specs.States.{State, Session, Open as MachineOpen}
use Rattle.hy_machine.specs.Tables.{Entry as Entered, opening_tables}
use Rattle.hy_machine.specs.Positions.{item_at, last_some}
use Rattle.hy_machine.specs.Sessions.{session_at, snapshot, view}
use Rattle.hy_machine.specs.Holding.{holds, is_held, has_pair}
use Rattle.hy_refinement.specs.Stamped.{HasNotStamped, is_unstamped, entries_counted}
use Rattle.hy_refinement.specs.Transactions.{IsOpen}
use Rattle.hy_refinement.specs.Numbers.{CoreShows}
use Rattle.hy_refinement.specs.Places.{IsOwnStamp, IsOfWriter, OwnHead, IsLastWriter, newest_below, IsNewcomer, cell_held, is_used, emptied_at, PlaceShows}
use Rattle.hy_refinement.specs.Pruned.{IsBelowIds}
use Rattle.hy_refinement.specs.Frames.{gone_on, went_on, sessions_on}
use Rattle.hy_refinement.proofs.LastCells.{any_true}
use Rattle.hy_refinement.proofs.Holders.{is_there}
use Rattle.hy_refinement.proofs.Stamps.{nothing, here_or, empty_or, first_newest, none_newest, below_later}
use Rattle.hy_refinement.proofs.FramesOpened.{WasOpen, same, stays, was_open, opens_here, opens_other, not_stamped_before, counted_same}
use Rattle.hy_refinement.proofs.WritesOpen.{unstamped_on}
use Rattle.hy_refinement.proofs.WritesViews.{cell_if}
use Rattle.hy_refinement.proofs.WritesTops.{OwnOnTop, was_there, pushed, own_on_top, falls_alike, falls_pushed}

-- a transaction goes on that has no entry, and holds a position then
pub record GoesOn (setting : Setting) (state : State) (sessions : List SessionData) (table pos number : ℕ) (session : SessionData) (now then : Open)
    (current later : MachineOpen) : Type 0 where
  pub is_open : IsOpen state sessions number session now current
  pub unmarked : state.mark ≡ Some number → ⊥
  pub ids_apart : (other : ℕ) (another : SessionData) (there : Open) (present : MachineOpen) → (other ≡ number → ⊥)
      → IsOpen state sessions other another there present → id_of (label_of session) ≡ id_of (label_of another) → ⊥
  pub start : then.start ≡ now.start
  pub holds_it : holds setting table pos (Some later) ≡ true

-- some transaction is open that began before a time
record HasStart (state : State) (sessions : List SessionData) (time : ℕ) : Type 0 where
  number : ℕ
  session : SessionData
  now : Open
  current : MachineOpen
  is_open : IsOpen state sessions number session now current
  before : now.start < time

module _ (setting : Setting) (state : State) (core : CoreData) (sessions : List SessionData) (table chunk pos : ℕ) (old new : Place)
    (number : ℕ) (session : SessionData) (now then : Open) (current later : MachineOpen) (cell : Cell)
    (low : IsBelowIds core) (core_shows : CoreShows state core sessions)
    (shows : PlaceShows setting state core sessions table chunk pos old)
    (goes : GoesOn setting state sessions table pos number session now then current later)
    (no_rival : rival (viewer_of session now) old.chain ≡ None)
    (used : is_used setting state table pos ≡ true)
    (view_is : item_at (view setting state later.begun) table pos ≡ cell)
    (w : Written (viewer_of session now) (label_of session) cell old new) where
  abbrev id : ℕ
  id = id_of (label_of session)

  abbrev state_on : State
  state_on = gone_on state number later

  abbrev on : List SessionData
  on = sessions_on sessions number session then

  start_below : now.start < core.next
  start_below = core_shows.times_apart.starts number session now current goes.is_open

  top_cases : OwnOnTop (label_of session) id now.start (stamps old) (stamps new)
  top_cases = own_on_top (viewer_of session now) (label_of session) old.chain (stamps new) no_rival w.stamps

  -- ---- what stays of the state

  unstamped : is_unstamped setting state_on table chunk ≡ is_unstamped setting state table chunk
  unstamped = unstamped_on setting state number later table chunk goes.unmarked

  counted : entries_counted setting state_on table chunk ≡ entries_counted setting state table chunk
  counted = counted_same setting state number table chunk later unstamped

  not_stamped : (other : ℕ) → HasNotStamped setting state_on other table chunk → HasNotStamped setting state other table chunk
  not_stamped other none = not_stamped_before setting state number other table chunk later unstamped none

  -- it is open, and others are who were
  itself_on : IsOpen state_on on number (went_on session then) then later
  itself_on = opens_here state sessions number session now then current later goes.is_open

  was : (other : ℕ) (another : SessionData) (there : Open) (present : MachineOpen) → IsOpen state_on on other another there present
      → WasOpen state sessions number session then later other another there present
  was other another there present one = was_open state sessions number session now then current later goes.is_open other another there present one

  writer_on : (stamp : Stamp) → IsOfWriter setting state core table chunk pos stamp → IsOfWriter setting state_on core table chunk pos stamp
  writer_on stamp one = record {
    rank = one.rank;
    entered = one.entered;
    entry = one.entry;
    stands = one.stands;
    has = one.has;
    counts = subst (λ (n : ℕ). one.rank < n) (sym counted) one.counts;
    wrote = one.wrote;
    owner = one.owner;
    mark_is = one.mark_is;
  }

  -- ---- marks

  writer_below : (stamp : Stamp) → IsOfWriter setting state core table chunk pos stamp → stamp.mark < core.next
  writer_below stamp one = omega (arith, core_shows.times_apart.times one.rank one.entry one.has, one.mark_is)

  -- where the newest mark is older than the start, every mark is a writer's
  all_writers : ((top : Stamp) (rest : List Stamp) → stamps old ≡ top ∷ rest → top.mark < now.start)
      → (stamp : Stamp) → Contains (stamps old) stamp → IsOfWriter setting state core table chunk pos stamp
  all_writers early stamp c = elim (empty_or (stamps old)) [
    | inl none ↦ absurd (nothing stamp (subst (λ (xs : List Stamp). Contains xs stamp) none c))
    | inr some ↦ elim (here_or some.0 stamp some.1.0 (subst (λ (xs : List Stamp). Contains xs stamp) some.1.1 c)) [
      | inr later ↦ shows.times_are_writers.behind some.0 some.1.0 some.1.1 stamp later
      | inl here ↦ subst (λ (s : Stamp). IsOfWriter setting state core table chunk pos s) here (elim
          (shows.times_are_writers.top some.0 some.1.0 some.1.1) [
            | inr writer ↦ writer
            | inl own ↦ absurd (let mark = own.mark_is in let less = early some.0 some.1.0 some.1.1 in omega (arith, mark, less, start_below, low))
          ])
    ]
  ]

  falls : Falls new.chain
  falls = by_top top_cases
    where
      by_top : OwnOnTop (label_of session) id now.start (stamps old) (stamps new) → Falls new.chain
      by_top (was_there top rest own before after) = falls_alike old.chain new.chain (after ∙ sym before) shows.falls
      by_top (pushed early after) =
          falls_pushed old.chain new.chain (record { owner = label_of session; mark = id }) after shows.falls (λ other c.
          let less = writer_below other (all_writers early other c) in omega (arith, less, low))

  -- the newest mark is its own
  own_newest : (top : Stamp) × ((newest new.chain ≡ Some top) × (top.mark ≡ id))
  own_newest = by_top top_cases
    where
      by_top : OwnOnTop (label_of session) id now.start (stamps old) (stamps new) → (top : Stamp) × ((newest new.chain ≡ Some top) × (top.mark ≡ id))
      by_top (was_there top rest own before after) = (top, (first_newest new.chain top rest after, own))
      by_top (pushed early after) =
          (record { owner = label_of session; mark = id }, (first_newest new.chain (record { owner = label_of session; mark = id }) (stamps old) after, refl))

  own_owner : (stamp : Stamp) → newest new.chain ≡ Some stamp → stamp.mark ≡ id → stamp.owner ≡ label_of session
  own_owner stamp e mark = by_top top_cases
    where
      by_top : OwnOnTop (label_of session) id now.start (stamps old) (stamps new) → stamp.owner ≡ label_of session
      by_top (was_there top rest own before after) =
          let same : stamp ≡ top = same_Some stamp top (sym e ∙ first_newest new.chain top rest after) in
          (shows.own_heads number session now current goes.is_open (inl goes.unmarked)).owner stamp
          (first_newest old.chain top rest before ∙ ap (λ (s : Stamp). Some s) (sym same)) mark
      by_top (pushed early after) =
          let mine : Stamp = record { owner = label_of session; mark = id } in
          let same : stamp ≡ mine = same_Some stamp mine (sym e ∙ first_newest new.chain mine (stamps old) after) in
          ap (λ (s : Stamp). s.owner) same

  -- no other identifier was on top
  none_other : (other : ℕ) (another : SessionData) (there : Open) (present : MachineOpen) → (other ≡ number → ⊥)
      → IsOpen state sessions other another there present
      → is_own (id_of (label_of another)) (newest old.chain) ≡ false
  none_other other another there present apart one = by_top top_cases
    where
      by_top : OwnOnTop (label_of session) id now.start (stamps old) (stamps new) → is_own (id_of (label_of another)) (newest old.chain) ≡ false
      by_top (was_there top rest own before after) =
          ap (is_own (id_of (label_of another))) (first_newest old.chain top rest before)
          ∙ ne_eqb top.mark (id_of (label_of another)) (λ same. goes.ids_apart other another there present apart one (sym own ∙ same))
      by_top (pushed early after) = elim (empty_or (stamps old)) [
        | inl none ↦ ap (is_own (id_of (label_of another))) (none_newest old.chain none)
        | inr some ↦
            ap (is_own (id_of (label_of another))) (first_newest old.chain some.0 some.1.0 some.1.1)
            ∙ ne_eqb some.0.mark (id_of (label_of another)) (λ same. absurd (let less = early some.0 some.1.0 some.1.1 in omega
            (arith, less, same, start_below, low)))
      ]

  -- ---- the sentences

  own_heads : (other : ℕ) (another : SessionData) (there : Open) (present : MachineOpen) → IsOpen state_on on other another there present
      → HasNotStamped setting state_on other table chunk → OwnHead setting table pos new another present
  own_heads other another there present one none = by_who (was other another there present one)
    where
      by_who : WasOpen state sessions number session then later other another there present → OwnHead setting table pos new another present
      by_who (same number_is session_is now_is current_is) =
          let label : label_of another ≡ label_of session = ap label_of session_is in
          record {
            holds_it = ap (λ (l : Label). is_own (id_of l) (newest new.chain)) label ∙ (ap (is_own id) own_newest.1.0
                ∙ (eq-eqb own_newest.0.mark id own_newest.1.1 ∙ sym (ap (λ (c : MachineOpen). holds setting table pos (Some c)) current_is ∙ goes.holds_it)));
            owner = λ stamp e mark. own_owner stamp e (mark ∙ ap id_of label) ∙ sym label;
          }
      by_who (stays apart open') =
          let head = shows.own_heads other another there present open' (not_stamped other none) in
          let unlike : (own_newest.0.mark ≡ id_of (label_of another) → ⊥) =
          λ alike. goes.ids_apart other another there present apart open' (sym own_newest.1.1 ∙ alike) in
          record {
            holds_it = ap (is_own (id_of (label_of another))) own_newest.1.0 ∙ (ne_eqb own_newest.0.mark (id_of (label_of another)) unlike
                ∙ (sym (none_other other another there present apart open') ∙ head.holds_it));
            owner = λ stamp e mark. absurd (unlike (ap (λ (s : Stamp). s.mark) (same_Some own_newest.0 stamp (sym own_newest.1.0 ∙ e)) ∙ mark));
          }

  own_on_chain : (stamp : Stamp) → newest new.chain ≡ Some stamp → IsOwnStamp setting state_on on table chunk stamp
  own_on_chain stamp e = record {
    number = number;
    session = went_on session then;
    now = then;
    current = later;
    is_open = itself_on;
    not_stamped = inl goes.unmarked;
    mark_is = ap (λ (s : Stamp). s.mark) (same_Some stamp own_newest.0 (sym e ∙ own_newest.1.0)) ∙ own_newest.1.1;
  }

  behind_writer : (stamp : Stamp) (rest : List Stamp) → stamps new ≡ stamp ∷ rest → (other : Stamp) → Contains rest other
      → IsOfWriter setting state core table chunk pos other
  behind_writer stamp rest e other c = by_top top_cases
    where
      by_top : OwnOnTop (label_of session) id now.start (stamps old) (stamps new) → IsOfWriter setting state core table chunk pos other
      by_top (was_there top others own before after) = shows.times_are_writers.behind stamp rest (before ∙ (sym after ∙ e)) other c
      by_top (pushed early after) =
          let mine : Stamp = record { owner = label_of session; mark = id } in
          let both : mine ∷ stamps old ≡ stamp ∷ rest = sym after ∙ e in
          let same : stamps old ≡ rest = cc in
          all_writers early other (subst (λ (xs : List Stamp). Contains xs other) (sym same) c)

  -- the own stamp is no time
  same_times : newest_below core.next (stamps new) ≡ newest_below core.next (stamps old)
  same_times = by_top top_cases
    where
      by_top : OwnOnTop (label_of session) id now.start (stamps old) (stamps new)
          → newest_below core.next (stamps new) ≡ newest_below core.next (stamps old)
      by_top (was_there top others own before after) = ap (newest_below core.next) (after ∙ sym before)
      by_top (pushed early after) =
          ap (newest_below core.next) after
          ∙ below_later core.next (record { owner = label_of session; mark = id }) (stamps old) (omega (arith, low))

  last_was : (rank : ℕ) (entered : Entered) → IsLastWriter setting state_on table chunk pos rank entered
      → IsLastWriter setting state table chunk pos rank entered
  last_was rank entered one = record {
    stands = one.stands;
    counts = subst (λ (n : ℕ). rank < n) counted one.counts;
    wrote = one.wrote;
    last = λ other later less below e. one.last other later less (subst (λ (n : ℕ). other < n) (sym counted) below) e;
  }

  -- a start before this time was one before
  started : (other : ℕ) (another : SessionData) (there : Open) (present : MachineOpen) → IsOpen state_on on other another there present
      → (time : ℕ) → there.start < time → HasStart state sessions time
  started other another there present one time less = by_who (was other another there present one)
    where
      by_who : WasOpen state sessions number session then later other another there present → HasStart state sessions time
      by_who (same number_is session_is now_is current_is) =
          let alike = ap (λ (n : Open). n.start) now_is in
          let start = goes.start in
          record { number = number; session = session; now = now; current = current; is_open = goes.is_open; before = omega (arith, alike, start, less) }
      by_who (stays apart open') = record { number = other; session = another; now = there; current = present; is_open = open'; before = less }

  viewer_sees : (other : ℕ) (another : SessionData) (there : Open) (present : MachineOpen) → IsOpen state_on on other another there present
      → HasNotStamped setting state_on other table chunk → sees (viewer_of another there) new ≡ cell_held setting state_on table pos present
  viewer_sees other another there present one none = by_who (was other another there present one)
    where
      by_who : WasOpen state sessions number session then later other another there present
          → sees (viewer_of another there) new ≡ cell_held setting state_on table pos present
      by_who (same number_is session_is now_is current_is) =
          ap (λ (s : ℕ). sees (record { id = id_of (label_of another); start = s }) new) (ap (λ (n : Open). n.start) now_is ∙ goes.start)
          ∙ (ap (λ (l : Label). sees (record { id = id_of l; start = now.start }) new) (ap label_of session_is)
          ∙ (w.own ∙ (sym view_is ∙ (sym (ap (cell_if setting state_on later table pos) goes.holds_it)
          ∙ sym (ap (λ (c : MachineOpen). cell_held setting state_on table pos c) current_is)))))
      by_who (stays apart open') =
          let start = core_shows.times_apart.starts other another there present open' in
          w.others (viewer_of another there) (record {
            other = goes.ids_apart other another there present apart open';
            start = omega (arith, start, low);
          })
          ∙ shows.viewer_sees other another there present open' (not_stamped other none)

  newcomer_was : (viewer : Viewer) → IsNewcomer state_on core on viewer → IsNewcomer state core sessions viewer
  newcomer_was viewer is = record {
    start = is.start;
    id = is.id;
    new = λ other another there present one. elim (cases_eq other number) [
      | inl alike ↦
          let it : session ≡ another = same_Some session another (sym goes.is_open.found ∙ (ap (slice_get sessions) (sym alike) ∙ one.found)) in
          subst (λ (s : SessionData). id_of (label_of s) ≡ viewer.id → ⊥) it (is.new number (went_on session then) then later itself_on)
      | inr apart ↦ is.new other another there present (opens_other state sessions number session then later other another there present apart one)
    ];
  }

  newcomer_sees : (viewer : Viewer) → IsNewcomer state_on core on viewer
      → sees viewer new ≡ item_at (snapshot setting state_on (entries_counted setting state_on table chunk)) table pos
  newcomer_sees viewer is =
      w.others viewer (record {
        other = is.new number (went_on session then) then later itself_on;
        start = let start = is.start in omega (arith, start, low);
      })
      ∙ (shows.newcomer_sees viewer (newcomer_was viewer is)
      ∙ ap (λ (n : ℕ). item_at (snapshot setting state n) table pos) (sym counted))

  held_on : is_held setting state_on table pos ≡ true
  held_on =
      any_true (λ (one : Session). holds setting table pos one.now) state_on.sessions number (session_at state_on number)
      (is_there state_on number later itself_on.open_there)
      (ap (holds setting table pos) itself_on.open_there ∙ goes.holds_it)

  used_on : is_used setting state_on table pos ≡ true
  used_on =
      or_right (is_some (item_at (opening_tables setting) table pos)) (list_any (has_pair table pos) state.order || is_held setting state_on table pos)
      (or_right (list_any (has_pair table pos) state.order) (is_held setting state_on table pos) held_on)

  pub written_shows : PlaceShows setting state_on core on table chunk pos new
  written_shows = record {
    falls = falls;
    own_heads = own_heads;
    times_are_writers = record {
      top = λ stamp rest e. inl (own_on_chain stamp (first_newest new.chain stamp rest e));
      behind = λ stamp rest e other c. writer_on other (behind_writer stamp rest e other c);
    };
    last_writer_on_top = λ rank entered entry last has other another there present one above.
        let start = started other another there present one entry.time above in
        same_times ∙ shows.last_writer_on_top rank entered entry (last_was rank entered last) has start.number start.session start.now start.current
        start.is_open start.before;
    viewer_sees = viewer_sees;
    newcomer_sees = newcomer_sees;
    used_shows = w.used ∙ (shows.used_shows ∙ (used ∙ sym used_on));
    death_shows = w.death ∙ (shows.death_shows
        ∙ ap (λ (n : ℕ). unwrap_or (last_some (emptied_at table pos) (take n core.entries)) 0) (sym counted));
  }
