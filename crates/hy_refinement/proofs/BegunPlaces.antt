-- After a BEGIN a position shows what it showed: the newcomer is a viewer now, and the next newcomer sees the same.
use Rattle.std.proofs.Common.{◌≡◌, ◌⊎◌, ℕ, suc, ◌-◌, ◌<◌, List, length, Contains, Option, None, Some, Bool, true, false, cond, is_some, take}
use Rattle.std.proofs.Common.{refl, sym, ap, ◌∙◌, subst, arith, inl, inr}
use Rattle.std.specs.Prelude.{slice_get, unwrap_or, ◌||◌}
use Rattle.std.specs.List.{list_any}
use Rattle.std.proofs.lemmas.Bool.{ne_eqb, eq-eqb}
use Rattle.hy_stamp.specs.declared.Label.{Label}
use Rattle.hy_stamp.specs.declared.Stamp.{Stamp}
use Rattle.hy_stamp.specs.Times.{IsLabel, id_of}
use Rattle.hy_chain.specs.Chains.{newest}
use Rattle.hy_undo.specs.Places.{Place, sees, cell_of, stamps}
use Rattle.hy_undo.specs.Chunks.{is_own}
use Rattle.hy_journal.specs.declared.CoreData.{CoreData}
use Rattle.hy_journal.specs.Core.{core_begun}
use Rattle.hy_event.specs.declared.SessionData.{SessionData}
use Rattle.hy_event.specs.declared.Open.{Open}
use Rattle.hy_event.specs.Sessions.{label_of, viewer_of}
use Rattle.hy_event.specs.Turns.{beginning}
use Rattle.hy_machine.specs.declared.Setting.{Setting}
use Rattle.hy_machine.specs.States.{State, Open as MachineOpen}
use Rattle.hy_machine.specs.Tables.{Entry as Entered, opening_tables}
use Rattle.hy_machine.specs.Positions.{item_at, last_some}
use Rattle.hy_machine.specs.Sessions.{snapshot, view}
use Rattle.hy_machine.specs.Holding.{has_pair}
use Rattle.hy_refinement.specs.Stamped.{HasNotStamped, is_unstamped_by, entries_counted}
use Rattle.hy_refinement.specs.Transactions.{IsOpen}
use Rattle.hy_refinement.specs.Labels.{HaveLabels}
use Rattle.hy_refinement.specs.Pruned.{IsBelowIds}
use Rattle.hy_refinement.specs.Frames.{sessions_on}
use Rattle.hy_refinement.specs.Places.{IsOwnStamp, IsOfWriter, IsLastWriter, OwnHead, OwnHeads, IsNewcomer, NewcomerSees, ViewerSees, LastWriterOnTop, cell_held}
use Rattle.hy_refinement.specs.Places.{newest_below, PlaceShows, emptied_at, TimesAreWriters}
use Rattle.hy_refinement.proofs.Stamps.{first_of, newest_first, empty_or, here_or, nothing, apart_all}
use Rattle.hy_refinement.proofs.EnteredPlaces.{sees_same, newest_same}
use Rattle.hy_refinement.proofs.BegunStates.{begun_there, begun_state, not_open, holds_none, held_alike}
use Rattle.hy_refinement.proofs.BegunCores.{Beginning, each_then, still}

module _ (setting : Setting) (state : State) (core : CoreData) (sessions : List SessionData) (number : ℕ) (session : SessionData)
    (at : Beginning setting state core sessions number session)
    (below : IsBelowIds core) (labels : HaveLabels state sessions) (label : IsLabel (label_of session))
    (one_id : (a b : Label) → IsLabel a → IsLabel b → id_of a ≡ id_of b → a ≡ b)
    (named : (other : ℕ) (another : SessionData) → slice_get sessions other ≡ Some another → another.number ≡ other)
    (table chunk pos : ℕ) (place : Place) (shows : PlaceShows setting state core sessions table chunk pos place) where
  abbrev after : State
  after = begun_state setting state number

  abbrev sessions_after : List SessionData
  sessions_after = sessions_on sessions number session (beginning core)

  abbrev mine : ℕ
  mine = id_of (label_of session)

  -- nobody is marked, so nobody has stamped a chunk
  not_stamped : (other : ℕ) → HasNotStamped setting state other table chunk
  not_stamped other = inl (λ e. absurd (let f : None ≡ Some other = sym at.unmarked ∙ e in cc))

  not_stamped_after : (other : ℕ) → HasNotStamped setting after other table chunk
  not_stamped_after other = inl (λ e. absurd (let f : None ≡ Some other = sym at.unmarked ∙ e in cc))

  counted_by : (there : State) → there.mark ≡ None → entries_counted setting there table chunk ≡ length there.order
  counted_by there e =
      ap (λ (mark : Option ℕ). cond (is_unstamped_by setting there mark table chunk) (length there.order - 1) (length there.order)) e

  counted : entries_counted setting state table chunk ≡ length state.order
  counted = counted_by state at.unmarked

  counted_same : entries_counted setting after table chunk ≡ entries_counted setting state table chunk
  counted_same = counted_by after at.unmarked ∙ sym counted

  -- ---- identifiers

  id_above : (one : SessionData) → core.next < id_of (label_of one)
  id_above one = omega (arith, below)

  -- no open transaction has the identifier of the one that begins
  new_id : (other : ℕ) (another : SessionData) (its : Open) (present : MachineOpen) → IsOpen state sessions other another its present
      → id_of (label_of another) ≡ mine → ⊥
  new_id other another its present was e =
      let same : label_of another ≡ label_of session =
      one_id (label_of another) (label_of session) (labels other another its present was) label e in
      let numbers : another.number ≡ session.number = ap (λ (l : Label). l.session) same in
      not_open state sessions number other session another its present at.found at.rests was
      (sym (named other another was.found) ∙ (numbers ∙ named number session at.found))

  -- ---- marks

  -- every mark is an open transaction's identifier, or the time of an entry
  mark_is : (stamp : Stamp) → Contains (stamps place) stamp
      → IsOwnStamp setting state sessions table chunk stamp ⊎ IsOfWriter setting state core table chunk pos stamp
  mark_is stamp c = elim (empty_or (stamps place)) [
    | inl none ↦ absurd (nothing stamp (subst (λ (all : List Stamp). Contains all stamp) none c))
    | inr some ↦
        let top = some.0 in
        let rest = some.1.0 in
        let are = some.1.1 in
        elim (here_or top stamp rest (subst (λ (all : List Stamp). Contains all stamp) are c)) [
          | inl same ↦
              subst (λ (one : Stamp). IsOwnStamp setting state sessions table chunk one ⊎ IsOfWriter setting state core table chunk pos one) same
              (shows.times_are_writers.top top rest are)
          | inr later ↦ inr (shows.times_are_writers.behind top rest are stamp later)
        ]
  ]

  not_mine : (stamp : Stamp) → Contains (stamps place) stamp → stamp.mark ≡ mine → ⊥
  not_mine stamp c e = elim (mark_is stamp c) [
    | inl own ↦ new_id own.number own.session own.now own.current own.is_open (sym own.mark_is ∙ e)
    | inr w ↦
        let less = at.core_shows.times_apart.times w.rank w.entry w.has in
        let mark = w.mark_is in
        let id = id_above session in
        absurd (omega (arith, less, mark, id, e))
  ]

  not_next : (stamp : Stamp) → Contains (stamps place) stamp → stamp.mark ≡ core.next → ⊥
  not_next stamp c e = elim (mark_is stamp c) [
    | inl own ↦
        let mark = own.mark_is in
        let id = id_above own.session in
        absurd (omega (arith, mark, id, e))
    | inr w ↦
        let less = at.core_shows.times_apart.times w.rank w.entry w.has in
        let mark = w.mark_is in
        absurd (omega (arith, less, mark, e))
  ]

  not_on_top : is_own mine (newest place.chain) ≡ false
  not_on_top = by_top (newest place.chain) refl
    where
      by_top : (top : Option Stamp) → newest place.chain ≡ top → is_own mine top ≡ false
      by_top None e = refl
      by_top (Some stamp) e =
          let first = newest_first place.chain stamp e in
          ne_eqb stamp.mark mine (not_mine stamp (subst (λ (all : List Stamp). Contains all stamp) (sym first.1) (first_of stamp first.0)))

  own_heads : OwnHeads setting after sessions_after table chunk pos place
  own_heads = each_then setting state core sessions number session at
      (λ other another its present. HasNotStamped setting after other table chunk → OwnHead setting table pos place another present)
      (λ un. record {
        holds_it = not_on_top ∙ sym (holds_none setting state table pos);
        owner = λ stamp e same. absurd (let f : true ≡ false =
            sym (ap (λ (b : Bool). b) (eq-eqb stamp.mark mine same)) ∙ (sym (ap (is_own mine) e) ∙ not_on_top) in cc);
      })
      (λ other another its present was un. shows.own_heads other another its present was (not_stamped other))

  own_stamp : (stamp : Stamp) → IsOwnStamp setting state sessions table chunk stamp → IsOwnStamp setting after sessions_after table chunk stamp
  own_stamp stamp own = record {
    number = own.number;
    session = own.session;
    now = own.now;
    current = own.current;
    is_open = still setting state core sessions number session at own.number own.session own.now own.current own.is_open;
    not_stamped = not_stamped_after own.number;
    mark_is = own.mark_is;
  }

  of_writer : (stamp : Stamp) → IsOfWriter setting state core table chunk pos stamp → IsOfWriter setting after (core_begun core) table chunk pos stamp
  of_writer stamp w = record {
    rank = w.rank;
    entered = w.entered;
    entry = w.entry;
    stands = w.stands;
    has = w.has;
    counts = subst (λ (n : ℕ). w.rank < n) (sym counted_same) w.counts;
    wrote = w.wrote;
    owner = w.owner;
    mark_is = w.mark_is;
  }

  times : TimesAreWriters setting after (core_begun core) sessions_after table chunk pos place
  times = record {
    top = λ stamp rest e. elim (shows.times_are_writers.top stamp rest e) [
      | inl own ↦ inl (own_stamp stamp own)
      | inr w ↦ inr (of_writer stamp w)
    ];
    behind = λ stamp rest e other c. of_writer other (shows.times_are_writers.behind stamp rest e other c);
  }

  last_writer : (rank : ℕ) (entered : Entered) → IsLastWriter setting after table chunk pos rank entered
      → IsLastWriter setting state table chunk pos rank entered
  last_writer rank entered last = record {
    stands = last.stands;
    counts = subst (λ (n : ℕ). rank < n) counted_same last.counts;
    wrote = last.wrote;
    last = λ other another less within. last.last other another less (subst (λ (n : ℕ). other < n) (sym counted_same) within);
  }

  on_top : LastWriterOnTop setting after (core_begun core) sessions_after table chunk pos place
  on_top rank entered entry last has = each_then setting state core sessions number session at
      (λ other another its present. its.start < entry.time
      → newest_below (suc core.next) (stamps place) ≡ Some (record { owner = entered.label; mark = entry.time }))
      (λ later. let less = at.core_shows.times_apart.times rank entry has in absurd (omega (arith, less, later)))
      (λ other another its present was later.
      newest_same core.next (stamps place) not_next
      ∙ shows.last_writer_on_top rank entered entry (last_writer rank entered last) has other another its present was later)

  -- ---- what is seen

  -- the one that begins is a newcomer before
  comes : IsNewcomer state core sessions (record { id = mine; start = core.next })
  comes = record { start = refl; id = let id = id_above session in omega (arith, id); new = new_id }

  cell_then : cell_held setting after table pos (begun_there setting state) ≡ item_at (snapshot setting state (length state.order)) table pos
  cell_then = ap (λ (b : Bool). cond b (item_at (view setting after (begun_there setting state).begun) table pos)
      (item_at (snapshot setting state (length state.order)) table pos)) (holds_none setting state table pos)

  views : ViewerSees setting after sessions_after table chunk pos place
  views = each_then setting state core sessions number session at
      (λ other another its present. HasNotStamped setting after other table chunk → sees (viewer_of another its) place ≡ cell_held setting after table pos present)
      (λ un.
      shows.newcomer_sees (record { id = mine; start = core.next }) comes
      ∙ (ap (λ (n : ℕ). item_at (snapshot setting state n) table pos) counted ∙ sym cell_then))
      (λ other another its present was un. shows.viewer_sees other another its present was (not_stamped other))

  newcomers : NewcomerSees setting after (core_begun core) sessions_after table chunk pos place
  newcomers viewer new =
      ap (λ (start : ℕ). sees (record { id = viewer.id; start = start }) place) new.start
      ∙ (ap cell_of (sees_same viewer.id core.next place.version place.chain (apart_all core.next place.chain not_next))
      ∙ (shows.newcomer_sees (record { id = viewer.id; start = core.next }) (record {
        start = refl;
        id = let id = new.id in omega (arith, id);
        new = λ other another its present was e. new.new other another its present
            (still setting state core sessions number session at other another its present was) e;
      })
      ∙ ap (λ (n : ℕ). item_at (snapshot setting state n) table pos) (sym counted_same)))

  -- ---- a position

  pub place_begun_shows : PlaceShows setting after (core_begun core) sessions_after table chunk pos place
  place_begun_shows = record {
    falls = shows.falls;
    own_heads = own_heads;
    times_are_writers = times;
    last_writer_on_top = on_top;
    viewer_sees = views;
    newcomer_sees = newcomers;
    used_shows = shows.used_shows
        ∙ ap (λ (b : Bool). is_some (item_at (opening_tables setting) table pos) || (list_any (has_pair table pos) state.order || b))
        (sym (held_alike setting state number table pos at.within at.rests_there));
    death_shows = shows.death_shows ∙ ap (λ (n : ℕ). unwrap_or (last_some (emptied_at table pos) (take n core.entries)) 0) (sym counted_same);
  }
