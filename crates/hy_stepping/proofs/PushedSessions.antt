-- Sessions whose scripts are other ones: the core and every position show what they showed.
use Rattle.std.proofs.Common.{◌≡◌, ℕ, ◌<◌, List, Contains, Some, refl, sym, ap, ◌∙◌, subst, inl, inr, set}
use Rattle.std.specs.Prelude.{slice_get}
use Rattle.std.proofs.lemmas.Bool.{cases_eq}
use Rattle.std.proofs.lemmas.Option.{same_Some}
use Rattle.hy_bound.specs.declared.Txn.{Txn}
use Rattle.hy_stamp.specs.declared.Label.{Label}
use Rattle.hy_stamp.specs.declared.Stamp.{Stamp}
use Rattle.hy_stamp.specs.Times.{id_of}
use Rattle.hy_chain.specs.Chains.{newest}
use Rattle.hy_undo.specs.Places.{Place, sees}
use Rattle.hy_undo.specs.Chunks.{is_own}
use Rattle.hy_journal.specs.declared.CoreData.{CoreData}
use Rattle.hy_journal.specs.declared.Entry.{Entry}
use Rattle.hy_event.specs.declared.SessionData.{SessionData}
use Rattle.hy_event.specs.declared.Open.{Open}
use Rattle.hy_event.specs.Sessions.{label_of}
use Rattle.hy_machine.specs.declared.Setting.{Setting}
use Rattle.hy_machine.specs.States.{State, Open as MachineOpen}
use Rattle.hy_machine.specs.Holding.{holds}
use Rattle.hy_growing.specs.Growing.{with_programs}
use Rattle.hy_refinement.specs.Stamped.{HasNotStamped}
use Rattle.hy_refinement.specs.Transactions.{IsOpen, OfOpen}
use Rattle.hy_refinement.specs.Numbers.{IsStart, CoreShows}
use Rattle.hy_refinement.specs.Places.{IsOwnStamp, IsOfWriter, OwnHead, PlaceShows, cell_held}
use Rattle.hy_stepping.proofs.PushedScripts.{got_set, got_other}

-- ---- sessions that stand alike

-- a session of this number has the same label and the same open transaction
pub record Twin (others : List SessionData) (number : ℕ) (session : SessionData) : Type 0 where
  pub twin : SessionData
  pub found : slice_get others number ≡ Some twin
  pub label : label_of twin ≡ label_of session
  pub now : twin.now ≡ session.now

abbrev pub HaveTwins : List SessionData → List SessionData → Type 0
HaveTwins sessions others = (number : ℕ) (session : SessionData) → slice_get sessions number ≡ Some session → Twin others number session

-- each has a twin among the others, and is one of theirs
pub record StandAlike (sessions others : List SessionData) : Type 0 where
  pub there : HaveTwins sessions others
  pub back : HaveTwins others sessions

twin_open : (state : State) (others : List SessionData) (number : ℕ) (session : SessionData) (now : Open) (current : MachineOpen)
    (sessions : List SessionData) → (one : Twin others number session) → IsOpen state sessions number session now current
    → IsOpen state others number one.twin now current
twin_open state others number session now current sessions one is =
    record { found = one.found; open_here = one.now ∙ is.open_here; open_there = is.open_there }

module _ (state : State) (sessions others : List SessionData) (alike : StandAlike sessions others) where
  -- what holds of open transactions by their labels holds of their twins
  pub of_open_still : (P : ℕ → Label → Open → MachineOpen → Type 0)
      → OfOpen state sessions (λ number session now current. P number (label_of session) now current)
      → OfOpen state others (λ number session now current. P number (label_of session) now current)
  of_open_still P all number session now current is =
      let one = alike.back number session is.found in
      subst (λ (label : Label). P number label now current) one.label
      (all number one.twin now current (twin_open state sessions number session now current others one is))

  start_still : (start : ℕ) → IsStart state sessions start → IsStart state others start
  start_still start is =
      let one = alike.there is.number is.session is.is_open.found in
      record {
        number = is.number;
        session = one.twin;
        now = is.now;
        current = is.current;
        is_open = twin_open state others is.number is.session is.now is.current sessions one is.is_open;
        start_is = is.start_is;
      }

  pub core_still : (core : CoreData) → CoreShows state core sessions → CoreShows state core others
  core_still core shows = record {
    entries_show = shows.entries_show;
    times_rise = shows.times_rise;
    times_apart = record {
      times = shows.times_apart.times;
      starts = of_open_still (λ number label now current. now.start < core.next) shows.times_apart.starts;
      apart = of_open_still (λ number label now current. (rank : ℕ) (entry : Entry) → slice_get core.entries rank ≡ Some entry → entry.time ≡ now.start → ⊥)
          shows.times_apart.apart;
      one_each = of_open_still (λ number label now current. OfOpen state others (λ other another then present. now.start ≡ then.start → number ≡ other))
          (λ number session now current is.
          of_open_still (λ other label then present. now.start ≡ then.start → number ≡ other) (shows.times_apart.one_each number session now current is));
      next = shows.times_apart.next;
    };
    active_is = record {
      rises = shows.active_is.rises;
      has = of_open_still (λ number label now current. Contains core.active now.start) shows.active_is.has;
      only = λ start has. start_still start (shows.active_is.only start has);
    };
    mark_shows = record {
      mark = shows.mark_shows.mark;
      stamping = λ number session now current is.
          let one = alike.back number session is.found in
          shows.mark_shows.stamping number one.twin now current (twin_open state sessions number session now current others one is);
    };
  }

-- ---- a position

module _ (setting : Setting) (programs : List (List Txn)) (state : State) (core : CoreData) (sessions others : List SessionData)
    (alike : StandAlike sessions others) (table chunk pos : ℕ) (place : Place) where
  abbrev longer : Setting
  longer = with_programs setting programs

  own_stamp_still : (stamp : Stamp) → IsOwnStamp setting state sessions table chunk stamp → IsOwnStamp longer state others table chunk stamp
  own_stamp_still stamp is =
      let one = alike.there is.number is.session is.is_open.found in
      record {
        number = is.number;
        session = one.twin;
        now = is.now;
        current = is.current;
        is_open = twin_open state others is.number is.session is.now is.current sessions one is.is_open;
        not_stamped = is.not_stamped;
        mark_is = is.mark_is ∙ ap id_of (sym one.label);
      }

  writer_still : (stamp : Stamp) → IsOfWriter setting state core table chunk pos stamp → IsOfWriter longer state core table chunk pos stamp
  writer_still stamp is = record {
    rank = is.rank;
    entered = is.entered;
    entry = is.entry;
    stands = is.stands;
    has = is.has;
    counts = is.counts;
    wrote = is.wrote;
    owner = is.owner;
    mark_is = is.mark_is;
  }

  heads_still : OfOpen state sessions (λ number session now current. HasNotStamped setting state number table chunk
      → OwnHead setting table pos place session current)
      → OfOpen state others (λ number session now current. HasNotStamped longer state number table chunk → OwnHead longer table pos place session current)
  heads_still all number session now current is not_stamped =
      let one = alike.back number session is.found in
      let was = all number one.twin now current (twin_open state sessions number session now current others one is) not_stamped in
      record {
        holds_it =
            subst (λ (label : Label). is_own (id_of label) (newest place.chain) ≡ holds setting table pos (Some current)) one.label was.holds_it;
        owner = λ stamp on_top mark.
            was.owner stamp on_top (mark ∙ ap id_of (sym one.label)) ∙ one.label;
      }

  pub place_still : PlaceShows setting state core sessions table chunk pos place → PlaceShows longer state core others table chunk pos place
  place_still shows = record {
    falls = shows.falls;
    own_heads = heads_still shows.own_heads;
    times_are_writers = record {
      top = λ stamp rest e. elim (shows.times_are_writers.top stamp rest e) [
        | inl own ↦ inl (own_stamp_still stamp own)
        | inr writer ↦ inr (writer_still stamp writer)
      ];
      behind = λ stamp rest e other has. writer_still other (shows.times_are_writers.behind stamp rest e other has);
    };
    last_writer_on_top = λ rank entered entry last has number session now current is.
        let one = alike.back number session is.found in
        shows.last_writer_on_top rank entered entry
        (record { stands = last.stands; counts = last.counts; wrote = last.wrote; last = last.last }) has number one.twin now current
        (twin_open state sessions number session now current others one is);
    viewer_sees = λ number session now current is not_stamped.
        let one = alike.back number session is.found in
        subst (λ (label : Label). sees (record { id = id_of label; start = now.start }) place ≡ cell_held setting state table pos current) one.label
        (shows.viewer_sees number one.twin now current (twin_open state sessions number session now current others one is) not_stamped);
    newcomer_sees = λ viewer comes. shows.newcomer_sees viewer (record {
      start = comes.start;
      id = comes.id;
      new = λ number session now current is e.
          let one = alike.there number session is.found in
          comes.new number one.twin now current (twin_open state others number session now current sessions one is) (ap id_of one.label ∙ e);
    });
    used_shows = shows.used_shows;
    death_shows = shows.death_shows;
  }

-- ---- one session's script

-- the sessions stand alike where one has another script
pub alike_set : (sessions : List SessionData) (number : ℕ) (session : SessionData) (program : List Txn) → slice_get sessions number ≡ Some session
    → StandAlike sessions (set sessions number (record session { program = program }))
alike_set sessions number session program found = record {
  there = λ other one here. elim (cases_eq other number) [
    | inl same ↦
        let is_it : session ≡ one = same_Some session one (sym found ∙ (ap (slice_get sessions) (sym same) ∙ here)) in
        record {
          twin = other_one;
          found = ap (slice_get others) same ∙ got_set sessions number session other_one found;
          label = ap label_of is_it;
          now = ap (λ (s : SessionData). s.now) is_it;
        }
    | inr apart ↦ record { twin = one; found = got_other sessions number other other_one apart ∙ here; label = refl; now = refl }
  ];
  back = λ other one here. elim (cases_eq other number) [
    | inl same ↦
        let is_it : other_one ≡ one =
        same_Some other_one one (sym (got_set sessions number session other_one found) ∙ (ap (slice_get others) (sym same) ∙ here)) in
        record {
          twin = session;
          found = ap (slice_get sessions) same ∙ found;
          label = ap label_of is_it;
          now = ap (λ (s : SessionData). s.now) is_it;
        }
    | inr apart ↦ record { twin = one; found = sym (got_other sessions number other other_one apart) ∙ here; label = refl; now = refl }
  ];
}
  where
    other_one : SessionData
    other_one = record session { program = program }

    others : List SessionData
    others = set sessions number other_one
