-- Where a transaction goes on and stands as before at a position, the position shows what it showed.
use Rattle.std.proofs.Common.{◌≡◌, ℕ, ◌<◌, List, take, Some, Bool, is_some}
use Rattle.std.proofs.Common.{sym, ap, ◌∙◌, subst, inl, inr}
use Rattle.std.specs.Prelude.{◌||◌, unwrap_or}
use Rattle.std.specs.List.{list_any}
use Rattle.std.proofs.lemmas.Bool.{cases_eq}
use Rattle.hy_stamp.specs.declared.Stamp.{Stamp}
use Rattle.hy_stamp.specs.declared.Viewer.{Viewer}
use Rattle.hy_stamp.specs.Times.{id_of}
use Rattle.hy_undo.specs.Places.{Place, stamps, sees}
use Rattle.hy_journal.specs.declared.CoreData.{CoreData}
use Rattle.hy_event.specs.declared.SessionData.{SessionData}
use Rattle.hy_event.specs.declared.Open.{Open}
use Rattle.hy_event.specs.Sessions.{label_of, viewer_of}
use Rattle.hy_machine.specs.declared.Setting.{Setting}
use Rattle.hy_machine.specs.States.{State, Session, Open as MachineOpen}
use Rattle.hy_machine.specs.Tables.{Entry as Entered, opening_tables}
use Rattle.hy_machine.specs.Positions.{item_at, last_some}
use Rattle.hy_machine.specs.Sessions.{session_at, snapshot}
use Rattle.hy_machine.specs.Holding.{holds, is_held, has_pair}
use Rattle.hy_refinement.specs.Stamped.{HasNotStamped, entries_counted}
use Rattle.hy_refinement.specs.Transactions.{IsOpen}
use Rattle.hy_refinement.specs.Places.{IsOwnStamp, IsOfWriter, OwnHead, OwnHeads, TimesAreWriters, IsLastWriter, LastWriterOnTop, newest_below}
use Rattle.hy_refinement.specs.Places.{ViewerSees, NewcomerSees, IsNewcomer, PlaceShows, cell_held, emptied_at}
use Rattle.hy_refinement.specs.Frames.{gone_on, went_on, sessions_on, KeepsStart, StandsAsBefore, UnmovedPlacesShow}
use Rattle.hy_refinement.proofs.Holders.{is_there}
use Rattle.hy_refinement.proofs.FramesLists.{any_set}
use Rattle.hy_refinement.proofs.FramesOpened.{WasOpen, same, stays, was_open, opens_here, opens_other, open_once}
use Rattle.hy_refinement.proofs.FramesOpened.{not_stamped_before, not_stamped_after, counted_same}

module _ (setting : Setting) (state : State) (core : CoreData) (sessions : List SessionData) (number : ℕ) (session : SessionData)
    (now then : Open) (current later : MachineOpen) (table chunk pos : ℕ) (place : Place)
    (is : IsOpen state sessions number session now current) (keeps : KeepsStart now then current later)
    (stands : StandsAsBefore setting state number table chunk pos current later)
    (shows : PlaceShows setting state core sessions table chunk pos place) where
  abbrev after : State
  after = gone_on state number later

  abbrev sessions_after : List SessionData
  sessions_after = sessions_on sessions number session then

  counted : entries_counted setting after table chunk ≡ entries_counted setting state table chunk
  counted = counted_same setting state number table chunk later stands.unstamped

  unstamped_before : (other : ℕ) → HasNotStamped setting after other table chunk → HasNotStamped setting state other table chunk
  unstamped_before other = not_stamped_before setting state number other table chunk later stands.unstamped

  unstamped_after : (other : ℕ) → HasNotStamped setting state other table chunk → HasNotStamped setting after other table chunk
  unstamped_after other = not_stamped_after setting state number other table chunk later stands.unstamped

  -- ---- marks

  own_heads : OwnHeads setting after sessions_after table chunk pos place
  own_heads other another its present open' not_stamped =
      by (was_open state sessions number session now then current later is other another its present open')
    where
      mine : HasNotStamped setting state number table chunk → OwnHead setting table pos place (went_on session then) later
      mine un = let head = shows.own_heads number session now current is un in record {
        holds_it = head.holds_it ∙ sym stands.holds_it;
        owner = head.owner;
      }

      by : WasOpen state sessions number session then later other another its present → OwnHead setting table pos place another present
      by (stays apart was) = shows.own_heads other another its present was (unstamped_before other not_stamped)
      by (same e f g h) =
          subst (λ (one : SessionData). OwnHead setting table pos place one present) (sym f)
          (subst (λ (one : MachineOpen). OwnHead setting table pos place (went_on session then) one) (sym h)
          (mine (subst (λ (n : ℕ). HasNotStamped setting state n table chunk) e (unstamped_before other not_stamped))))

  own_stamp : (stamp : Stamp) → IsOwnStamp setting state sessions table chunk stamp → IsOwnStamp setting after sessions_after table chunk stamp
  own_stamp stamp own = elim (cases_eq own.number number) [
    | inl e ↦
        let one = open_once state sessions number own.number session own.session now own.now current own.current is own.is_open e in
        record {
          number = number;
          session = went_on session then;
          now = then;
          current = later;
          is_open = opens_here state sessions number session now then current later is;
          not_stamped = unstamped_after number (subst (λ (n : ℕ). HasNotStamped setting state n table chunk) e own.not_stamped);
          mark_is = own.mark_is ∙ ap (λ (s : SessionData). id_of (label_of s)) one.session_is;
        }
    | inr apart ↦ record {
      number = own.number;
      session = own.session;
      now = own.now;
      current = own.current;
      is_open = opens_other state sessions number session then later own.number own.session own.now own.current apart own.is_open;
      not_stamped = unstamped_after own.number own.not_stamped;
      mark_is = own.mark_is;
    }
  ]

  of_writer : (stamp : Stamp) → IsOfWriter setting state core table chunk pos stamp → IsOfWriter setting after core table chunk pos stamp
  of_writer stamp w = record {
    rank = w.rank;
    entered = w.entered;
    entry = w.entry;
    stands = w.stands;
    has = w.has;
    counts = subst (λ (n : ℕ). w.rank < n) (sym counted) w.counts;
    wrote = w.wrote;
    owner = w.owner;
    mark_is = w.mark_is;
  }

  times : TimesAreWriters setting after core sessions_after table chunk pos place
  times = record {
    top = λ stamp rest e. elim (shows.times_are_writers.top stamp rest e) [
      | inl own ↦ inl (own_stamp stamp own)
      | inr w ↦ inr (of_writer stamp w)
    ];
    behind = λ stamp rest e other c. of_writer other (shows.times_are_writers.behind stamp rest e other c);
  }

  last_writer : (rank : ℕ) (entered : Entered) → IsLastWriter setting after table chunk pos rank entered
      → IsLastWriter setting state table chunk pos rank entered
  last_writer rank entered last = record {
    stands = last.stands;
    counts = subst (λ (n : ℕ). rank < n) counted last.counts;
    wrote = last.wrote;
    last = λ other another less below. last.last other another less (subst (λ (n : ℕ). other < n) (sym counted) below);
  }

  on_top : LastWriterOnTop setting after core sessions_after table chunk pos place
  on_top rank entered entry last has other another its present open' above =
      by (was_open state sessions number session now then current later is other another its present open')
    where
      by : WasOpen state sessions number session then later other another its present
          → newest_below core.next (stamps place) ≡ Some (record { owner = entered.label; mark = entry.time })
      by (stays apart was) = shows.last_writer_on_top rank entered entry (last_writer rank entered last) has other another its present was above
      by (same e f g h) =
          shows.last_writer_on_top rank entered entry (last_writer rank entered last) has number session now current is
          (subst (λ (n : ℕ). n < entry.time) (ap (λ (one : Open). one.start) g ∙ keeps.start) above)

  -- ---- what is seen

  views : ViewerSees setting after sessions_after table chunk pos place
  views other another its present open' not_stamped =
      by (was_open state sessions number session now then current later is other another its present open')
    where
      mine : HasNotStamped setting state number table chunk
          → sees (viewer_of (went_on session then) then) place ≡ cell_held setting state table pos later
      mine un =
          ap (λ (start : ℕ). sees (record { id = id_of (label_of session); start = start }) place) keeps.start
          ∙ (shows.viewer_sees number session now current is un ∙ sym stands.cell)

      by : WasOpen state sessions number session then later other another its present
          → sees (viewer_of another its) place ≡ cell_held setting after table pos present
      by (stays apart was) = shows.viewer_sees other another its present was (unstamped_before other not_stamped)
      by (same e f g h) =
          ap (λ (one : SessionData). sees (viewer_of one its) place) f
          ∙ (ap (λ (one : Open). sees (viewer_of (went_on session then) one) place) g
          ∙ (mine (subst (λ (n : ℕ). HasNotStamped setting state n table chunk) e (unstamped_before other not_stamped))
          ∙ ap (cell_held setting state table pos) (sym h)))

  newcomer : (viewer : Viewer) → IsNewcomer after core sessions_after viewer → IsNewcomer state core sessions viewer
  newcomer viewer new' = record {
    start = new'.start;
    id = new'.id;
    new = λ other another its present was e. elim (cases_eq other number) [
      | inl g ↦
          let one = open_once state sessions number other session another now its current present is was g in
          new'.new number (went_on session then) then later (opens_here state sessions number session now then current later is)
          (sym (ap (λ (s : SessionData). id_of (label_of s)) one.session_is) ∙ e)
      | inr apart ↦ new'.new other another its present (opens_other state sessions number session then later other another its present apart was) e
    ];
  }

  newcomers : NewcomerSees setting after core sessions_after table chunk pos place
  newcomers viewer new' =
      shows.newcomer_sees viewer (newcomer viewer new')
      ∙ ap (λ (n : ℕ). item_at (snapshot setting state n) table pos) (sym counted)

  -- ---- use and death

  held : is_held setting after table pos ≡ is_held setting state table pos
  held =
      any_set (λ (one : Session). holds setting table pos one.now) state.sessions number (session_at state number)
      (record { done = (session_at state number).done; now = Some later }) (is_there state number current is.open_there)
      (stands.holds_it ∙ ap (holds setting table pos) (sym is.open_there))

  unmoved_shows : PlaceShows setting after core sessions_after table chunk pos place
  unmoved_shows = record {
    falls = shows.falls;
    own_heads = own_heads;
    times_are_writers = times;
    last_writer_on_top = on_top;
    viewer_sees = views;
    newcomer_sees = newcomers;
    used_shows = shows.used_shows
        ∙ ap (λ (b : Bool). is_some (item_at (opening_tables setting) table pos) || (list_any (has_pair table pos) state.order || b)) (sym held);
    death_shows = shows.death_shows
        ∙ ap (λ (n : ℕ). unwrap_or (last_some (emptied_at table pos) (take n core.entries)) 0) (sym counted);
  }

pub unmoved : UnmovedPlacesShow
unmoved setting state core sessions number session now then current later table chunk pos place is keeps stands shows =
    unmoved_shows setting state core sessions number session now then current later table chunk pos place is keeps stands shows
