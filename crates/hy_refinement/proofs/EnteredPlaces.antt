-- A position shows what it showed after a transaction entered the journal: its entry does not count in any chunk yet.
use Rattle.std.proofs.Common.{◌≡◌, ℕ, suc, ◌-◌, ◌<◌, ◌≤◌, List, [], ◌∷◌, ◌++◌, length}
use Rattle.std.proofs.Common.{take, drop, Contains, Option, None, Some, Bool, true, false, cond, not, is_some}
use Rattle.std.proofs.Common.{refl, sym, ap, ◌∙◌, subst, arith, inl, inr}
use Rattle.std.specs.Prelude.{slice_get, unwrap_or, ◌||◌, ◌&&◌, ◌==◌, nat_lt}
use Rattle.std.specs.List.{AllByRecursion, list_any}
use Rattle.std.proofs.lemmas.Bool.{cases_lt, lt-ltb, le-ltb, and_from}
use Rattle.std.proofs.lemmas.List.{length-append, take-append-le}
use Rattle.std.proofs.lemmas.List.Folds.{list_any-append}
use Rattle.hy_stamp.specs.declared.Label.{Label}
use Rattle.hy_stamp.specs.declared.Stamp.{Stamp}
use Rattle.hy_stamp.specs.declared.Viewer.{Viewer}
use Rattle.hy_stamp.specs.Times.{id_of}
use Rattle.hy_chain.specs.Chains.{Undo, newest, seen}
use Rattle.hy_undo.specs.declared.version.Version.{Version}
use Rattle.hy_undo.specs.Images.{Image, before}
use Rattle.hy_undo.specs.Places.{Place, sees, cell_of, stamps}
use Rattle.hy_undo.specs.Chunks.{is_own}
use Rattle.hy_journal.specs.declared.CoreData.{CoreData}
use Rattle.hy_journal.specs.declared.Entry.{Entry as Noted}
use Rattle.hy_journal.specs.Core.{core_entered, entry_of as note_of}
use Rattle.hy_event.specs.declared.SessionData.{SessionData}
use Rattle.hy_event.specs.declared.Open.{Open}
use Rattle.hy_event.specs.Sessions.{label_of as label_here, viewer_of}
use Rattle.hy_machine.specs.declared.Setting.{Setting}
use Rattle.hy_machine.specs.States.{State, Session, Open as MachineOpen}
use Rattle.hy_machine.specs.Tables.{Entry, Tables, opening_tables, chunk_of, over}
use Rattle.hy_machine.specs.Positions.{item_at, last_some}
use Rattle.hy_machine.specs.Writes.{written_chunks, is_among}
use Rattle.hy_machine.specs.Sessions.{session_at, snapshot, view, entry_of}
use Rattle.hy_machine.specs.Holding.{holds, is_held, has_pair, undone}
use Rattle.hy_refinement.specs.Stamped.{HasNotStamped, is_unstamped, is_unstamped_by, stamped_chunks, entries_counted}
use Rattle.hy_refinement.specs.Transactions.{IsOpen}
use Rattle.hy_refinement.specs.Places.{IsOwnStamp, IsOfWriter, IsLastWriter, OwnHead, IsNewcomer, is_used, cell_held, emptied_at, newest_below, PlaceShows}
use Rattle.hy_refinement.specs.Rivals.{ShownAt}
use Rattle.hy_refinement.specs.Frames.{gone_on, sessions_on}
use Rattle.hy_refinement.proofs.Stamps.{first_of, behind, empty_or, here_or, nothing, apart_all}
use Rattle.hy_machine.specs.WrittenPlaces.{own_among}
use Rattle.hy_refinement.proofs.LastCells.{any_true}
use Rattle.hy_refinement.proofs.Holders.{is_there}
use Rattle.hy_refinement.proofs.Rivals.{own_there}
use Rattle.hy_refinement.proofs.ListsAppended.{get_before}
use Rattle.hy_refinement.proofs.EnteredEntries.{entry_at}
use Rattle.hy_refinement.proofs.FramesLists.{any_set}
use Rattle.hy_refinement.proofs.FramesOpened.{WasOpen, same as itself, stays as another, was_open, goes_there}
use Rattle.hy_refinement.proofs.StillOpens.{open_after, HasOpen}
use Rattle.hy_refinement.proofs.EnteredStates.{entered_here, entered_there, with_entry_of, snapshot_before, open_gone, open_entered}

-- ---- a time that no mark has

-- whether a mark is below a time, or below the next one, is the same where it isn't that time
pub same_below : (mark time : ℕ) → (mark ≡ time → ⊥) → nat_lt mark (suc time) ≡ nat_lt mark time
same_below mark time apart = elim (cases_lt mark time) [
  | inl less ↦ lt-ltb mark (suc time) (omega (arith, less)) ∙ sym (lt-ltb mark time less)
  | inr more ↦ elim (cases_lt time mark) [
    | inl above ↦ le-ltb mark (suc time) (omega (arith, above)) ∙ sym (le-ltb mark time more)
    | inr both ↦ absurd (apart (omega (arith, more, both)))
  ]
]

-- a viewer who begins later sees the same
pub sees_same : (id time : ℕ) (version : Version) (chain : List (Undo Image)) → AllByRecursion (λ (undo : Undo Image). undo.stamp.mark ≡ time → ⊥) chain
    → seen before (record { id = id; start = suc time }) version chain ≡ seen before (record { id = id; start = time }) version chain
sees_same id time version [] apart = refl
sees_same id time version (undo ∷ chain) apart =
    ap (λ (b : Bool). cond ((undo.stamp.mark == id) || b) version (seen before (record { id = id; start = suc time }) (before undo.image version) chain))
    (same_below undo.stamp.mark time apart.0)
    ∙ ap (λ (v : Version). cond ((undo.stamp.mark == id) || nat_lt undo.stamp.mark time) version v)
    (sees_same id time (before undo.image version) chain apart.1)

pub newest_same : (time : ℕ) (chain : List Stamp) → ((stamp : Stamp) → Contains chain stamp → stamp.mark ≡ time → ⊥)
    → newest_below (suc time) chain ≡ newest_below time chain
newest_same time [] apart = refl
newest_same time (stamp ∷ chain) apart =
    ap (λ (b : Bool). cond b (Some stamp) (newest_below (suc time) chain)) (same_below stamp.mark time (apart stamp (first_of stamp chain)))
    ∙ ap (λ (o : Option Stamp). cond (nat_lt stamp.mark time) (Some stamp) o) (newest_same time chain (λ other c. apart other (behind stamp other chain c)))

module _ (setting : Setting) (state : State) (core : CoreData) (sessions : List SessionData) (table chunk pos : ℕ) (place : Place)
    (shown : ShownAt setting state core sessions table chunk pos place)
    (number : ℕ) (session : SessionData) (now : Open) (current : MachineOpen) (is : IsOpen state sessions number session now current)
    (unmarked : state.mark ≡ None) (none_undone : undone current.phase ≡ 0) where
  abbrev then : Open
  then = entered_here core.next now

  abbrev later : MachineOpen
  later = entered_there current

  abbrev entry : Entry
  entry = entry_of setting state number current.begun

  abbrev note : Noted
  note = note_of core (label_here session) now.start now.notes

  abbrev gone : State
  gone = gone_on state number later

  abbrev after : State
  after = with_entry_of setting state number current

  abbrev news : List SessionData
  news = sessions_on sessions number session then

  abbrev core_then : CoreData
  core_then = core_entered core (label_here session) now.start now.notes

  shows : PlaceShows setting state core sessions table chunk pos place
  shows = shown.place_shows

  unstamped_by : (other : ℕ) → HasNotStamped setting state other table chunk
  unstamped_by other = inl (λ e. absurd (let f : None ≡ Some other = sym unmarked ∙ e in cc))

  was : (other : ℕ) (one : SessionData) (present : Open) (there : MachineOpen) → IsOpen after news other one present there
      → WasOpen state sessions number session then later other one present there
  was other one present there open' =
      was_open state sessions number session now then current later is other one present there
      (open_gone setting state news number current other one present there open')

  open_then : (other : ℕ) (one : SessionData) (present : Open) (there : MachineOpen) → IsOpen state sessions other one present there
      → HasOpen after news other one present.start
  open_then other one present there open' =
      let had = open_after state sessions number session now then current later is refl other one present there open' in record {
        one = had.one;
        present = had.present;
        there = had.there;
        is_open = open_entered setting state news number current other had.one had.present had.there had.is_open;
        label = had.label;
        start_is = had.start_is;
      }

  -- ---- how many entries count

  unstamped : is_unstamped setting after table chunk ≡ true
  unstamped = ap (λ (one : Session). not (is_among (stamped_chunks setting one.now) table chunk))
      (goes_there state number current later is.open_there)

  counted_after : entries_counted setting after table chunk ≡ length state.order
  counted_after =
      let long = length-append state.order (entry ∷ []) in
      ap (λ (b : Bool). cond b (length after.order - 1) (length after.order)) unstamped ∙ omega (arith, long)

  counted_before : entries_counted setting state table chunk ≡ length state.order
  counted_before = ap (λ (b : Bool). cond b (length state.order - 1) (length state.order))
      (let e : is_unstamped setting state table chunk ≡ false = ap (λ (mark : Option ℕ). is_unstamped_by setting state mark table chunk) unmarked in e)

  snapshot_same : (prefix : ℕ) → prefix ≤ length state.order
      → item_at (snapshot setting after prefix) table pos ≡ item_at (snapshot setting state prefix) table pos
  snapshot_same prefix within =
      ap (λ (tables : Tables). item_at tables table pos) (snapshot_before setting state number current prefix within)

  -- ---- what it holds

  holds_same : holds setting table pos (Some later) ≡ holds setting table pos (Some current)
  holds_same =
      ap (λ (n : ℕ). is_some (item_at current.begun.own table pos)
      && is_among (drop n (written_chunks setting current.begun.own)) table (chunk_of setting pos)) (sym none_undone)

  cell_same : (there : MachineOpen) → there.begun.prefix ≤ length state.order → cell_held setting after table pos there ≡ cell_held setting state table pos there
  cell_same there within =
      let same = snapshot_before setting state number current there.begun.prefix within in
      ap (λ (tables : Tables). cond (holds setting table pos (Some there)) (item_at (over tables there.begun.own) table pos) (item_at tables table pos)) same

  cell_later : cell_held setting state table pos later ≡ cell_held setting state table pos current
  cell_later =
      ap (λ (b : Bool). cond b (item_at (view setting state current.begun) table pos) (item_at (snapshot setting state current.begun.prefix) table pos))
      holds_same

  prefix_within : (other : ℕ) (there : MachineOpen) → (session_at state other).now ≡ Some there → there.begun.prefix ≤ length state.order
  prefix_within other there e = (shown.kept.starts.opens other there e).1

  -- ---- stamps

  writer_still : (stamp : Stamp) → IsOfWriter setting state core table chunk pos stamp → IsOfWriter setting after core_then table chunk pos stamp
  writer_still stamp w =
      let counts = w.counts in
      let same = shown.core_shows.entries_show.count in record {
        rank = w.rank;
        entered = w.entered;
        entry = w.entry;
        stands = get_before state.order (entry ∷ []) w.rank (omega (arith, counts, counted_before)) ∙ w.stands;
        has = get_before core.entries (note ∷ []) w.rank (omega (arith, counts, counted_before, same)) ∙ w.has;
        counts = omega (arith, counts, counted_before, counted_after);
        wrote = w.wrote;
        owner = w.owner;
        mark_is = w.mark_is;
      }

  own_still : (stamp : Stamp) → IsOwnStamp setting state sessions table chunk stamp → IsOwnStamp setting after news table chunk stamp
  own_still stamp own =
      let had = open_then own.number own.session own.now own.current own.is_open in record {
        number = own.number;
        session = had.one;
        now = had.present;
        current = had.there;
        is_open = had.is_open;
        not_stamped = inr unstamped;
        mark_is = own.mark_is ∙ ap id_of (sym had.label);
      }

  -- no mark is the commit time
  not_time : (stamp : Stamp) → Contains (stamps place) stamp → stamp.mark ≡ core.next → ⊥
  not_time stamp c same = elim (empty_or (stamps place)) [
    | inl none ↦ nothing stamp (subst (λ (xs : List Stamp). Contains xs stamp) none c)
    | inr some ↦ elim (here_or some.0 stamp some.1.0 (subst (λ (xs : List Stamp). Contains xs stamp) some.1.1 c)) [
      | inr later' ↦ of_writer stamp same (shows.times_are_writers.behind some.0 some.1.0 some.1.1 stamp later')
      | inl here ↦ elim (shows.times_are_writers.top stamp some.1.0 (some.1.1 ∙ ap (λ (s : Stamp). s ∷ some.1.0) here)) [
        | inl own ↦ let mark = own.mark_is in let ids = shown.below_ids in absurd (omega (arith, mark, ids, same))
        | inr w ↦ of_writer stamp same w
      ]
    ]
  ]
    where
      of_writer : (stamp : Stamp) → stamp.mark ≡ core.next → IsOfWriter setting state core table chunk pos stamp → ⊥
      of_writer stamp same w =
          let mark = w.mark_is in let below = shown.core_shows.times_apart.times w.rank w.entry w.has in absurd (omega (arith, mark, below, same))

  last_before : (rank : ℕ) (entered : Entry) → IsLastWriter setting after table chunk pos rank entered
      → IsLastWriter setting state table chunk pos rank entered
  last_before rank entered last =
      let counts = last.counts in record {
        stands = sym (get_before state.order (entry ∷ []) rank (omega (arith, counts, counted_after))) ∙ last.stands;
        counts = omega (arith, counts, counted_before, counted_after);
        wrote = last.wrote;
        last = λ other one less below e.
            last.last other one less (omega (arith, below, counted_before, counted_after))
            (get_before state.order (entry ∷ []) other (omega (arith, below, counted_before)) ∙ e);
      }

  last_on_top : (rank : ℕ) (entered : Entry) (noted : Noted) → IsLastWriter setting after table chunk pos rank entered
      → slice_get core_then.entries rank ≡ Some noted → (other : ℕ) (one : SessionData) (present : Open) (there : MachineOpen)
      → WasOpen state sessions number session then later other one present there → present.start < noted.time
      → newest_below core.next (stamps place) ≡ Some (record { owner = entered.label; mark = noted.time })
  last_on_top rank entered noted last has other one present there (another apart open') above =
      let counts = last.counts in
      let same = shown.core_shows.entries_show.count in
      shows.last_writer_on_top rank entered noted (last_before rank entered last)
      (sym (get_before core.entries (note ∷ []) rank (omega (arith, counts, counted_after, same))) ∙ has) other one present there open' above
  last_on_top rank entered noted last has other one present there (itself same_one one_is present_is there_is) above =
      let counts = last.counts in
      let same = shown.core_shows.entries_show.count in
      shows.last_writer_on_top rank entered noted (last_before rank entered last)
      (sym (get_before core.entries (note ∷ []) rank (omega (arith, counts, counted_after, same))) ∙ has) number session now current is
      (subst (λ (w : Open). w.start < noted.time) present_is above)

  -- ---- heads and views

  own_head : (other : ℕ) (one : SessionData) (present : Open) (there : MachineOpen) → WasOpen state sessions number session then later other one present there
      → OwnHead setting table pos place one there
  own_head other one present there (another apart open') = shows.own_heads other one present there open' (unstamped_by other)
  own_head other one present there (itself same one_is present_is there_is) =
      let head = shows.own_heads number session now current is (unstamped_by number) in
      let label : label_here one ≡ label_here session = ap label_here one_is in record {
        holds_it =
            ap (λ (l : Label). is_own (id_of l) (newest place.chain)) label
            ∙ (head.holds_it ∙ (sym holds_same ∙ ap (λ (c : MachineOpen). holds setting table pos (Some c)) (sym there_is)));
        owner = λ stamp e mark. head.owner stamp e (mark ∙ ap id_of label) ∙ sym label;
      }

  viewer_sees : (other : ℕ) (one : SessionData) (present : Open) (there : MachineOpen) → WasOpen state sessions number session then later other one present there
      → sees (viewer_of one present) place ≡ cell_held setting after table pos there
  viewer_sees other one present there (another apart open') =
      shows.viewer_sees other one present there open' (unstamped_by other) ∙ sym (cell_same there (prefix_within other there open'.open_there))
  viewer_sees other one present there (itself same one_is present_is there_is) =
      ap (λ (s : SessionData). sees (viewer_of s present) place) one_is
      ∙ (ap (λ (w : Open). sees (viewer_of session w) place) present_is
      ∙ (shows.viewer_sees number session now current is (unstamped_by number)
      ∙ (sym cell_later
      ∙ (sym (cell_same later (prefix_within number current is.open_there)) ∙ ap (λ (c : MachineOpen). cell_held setting after table pos c) (sym there_is)))))

  newcomer_sees : (viewer : Viewer) → IsNewcomer after core_then news viewer
      → sees viewer place ≡ item_at (snapshot setting after (entries_counted setting after table chunk)) table pos
  newcomer_sees viewer one =
      let id = one.id in
      ap (λ (start : ℕ). sees (record { id = viewer.id; start = start }) place) one.start
      ∙ (ap cell_of (sees_same viewer.id core.next place.version place.chain (apart_all core.next place.chain not_time))
      ∙ (shows.newcomer_sees (record { id = viewer.id; start = core.next }) (record {
        start = refl;
        id = omega (arith, id);
        new = λ other mine present there open' same.
            let had = open_then other mine present there open' in
            one.new other had.one had.present had.there had.is_open (ap id_of had.label ∙ same);
      })
      ∙ (ap (λ (n : ℕ). item_at (snapshot setting state n) table pos) counted_before
      ∙ (sym (snapshot_same (length state.order) (omega arith))
      ∙ ap (λ (n : ℕ). item_at (snapshot setting after n) table pos) (sym counted_after)))))

  -- ---- use and death

  -- where its entry has a pair it holds the position
  pair_held : has_pair table pos entry ≡ true → is_held setting state table pos ≡ true
  pair_held wrote =
      let own : is_some (item_at current.begun.own table pos) ≡ true =
      own_there (item_at (snapshot setting state current.begun.prefix) table pos) (item_at current.begun.own table pos)
      (sym (ap is_some (entry_at (snapshot setting state current.begun.prefix) current.begun.own table pos)) ∙ wrote) in
      let held : holds setting table pos (Some current) ≡ true =
      and_from (is_some (item_at current.begun.own table pos))
      (is_among (drop (undone current.phase) (written_chunks setting current.begun.own)) table (chunk_of setting pos)) own
      (ap (λ (n : ℕ). is_among (drop n (written_chunks setting current.begun.own)) table (chunk_of setting pos)) none_undone
      ∙ own_among setting current.begun.own table pos (shown.kept.fits.opens number current is.open_there).own own) in
      any_true (λ (each : Session). holds setting table pos each.now) state.sessions number (session_at state number)
      (is_there state number current is.open_there) (ap (holds setting table pos) is.open_there ∙ held)

  held_same : is_held setting after table pos ≡ is_held setting state table pos
  held_same = any_set (λ (one : Session). holds setting table pos one.now) state.sessions number (session_at state number)
      (record { done = (session_at state number).done; now = Some later }) (is_there state number current is.open_there)
      (holds_same ∙ sym (ap (holds setting table pos) is.open_there))

  used_same : is_used setting state table pos ≡ is_used setting after table pos
  used_same =
      ap (λ (b : Bool). is_some (item_at (opening_tables setting) table pos) || b)
      (wrote_or_held (list_any (has_pair table pos) state.order) (has_pair table pos entry) (is_held setting state table pos) pair_held
      ∙ (ap (λ (b : Bool). b || is_held setting state table pos) (sym (list_any-append (has_pair table pos) state.order (entry ∷ [])))
      ∙ ap (λ (b : Bool). list_any (has_pair table pos) (state.order ++ entry ∷ []) || b) (sym held_same)))
    where
      wrote_or_held : (wrote pair held : Bool) → (pair ≡ true → held ≡ true) → (wrote || held) ≡ ((wrote || (pair || false)) || held)
      wrote_or_held true pair held why = refl
      wrote_or_held false false held why = refl
      wrote_or_held false true held why = why refl

  death_same : place.death ≡ unwrap_or (last_some (emptied_at table pos) (take (entries_counted setting after table chunk) core_then.entries)) 0
  death_same =
      let same = shown.core_shows.entries_show.count in
      shows.death_shows
      ∙ (ap (λ (n : ℕ). unwrap_or (last_some (emptied_at table pos) (take n core.entries)) 0) counted_before
      ∙ (ap (λ (xs : List Noted). unwrap_or (last_some (emptied_at table pos) xs) 0)
      (sym (take-append-le (length state.order) core.entries (note ∷ []) (omega (arith, same))))
      ∙ ap (λ (n : ℕ). unwrap_or (last_some (emptied_at table pos) (take n core_then.entries)) 0) (sym counted_after)))

  pub entered_shows : PlaceShows setting after core_then news table chunk pos place
  entered_shows = record {
    falls = shows.falls;
    own_heads = λ other one present there open' _. own_head other one present there (was other one present there open');
    times_are_writers = record {
      top = λ stamp rest e. elim (shows.times_are_writers.top stamp rest e) [
        | inl own ↦ inl (own_still stamp own)
        | inr w ↦ inr (writer_still stamp w)
      ];
      behind = λ stamp rest e other c. writer_still other (shows.times_are_writers.behind stamp rest e other c);
    };
    last_writer_on_top = λ rank entered noted last has other one present there open' above.
        newest_same core.next (stamps place) not_time
        ∙ last_on_top rank entered noted last has other one present there (was other one present there open') above;
    viewer_sees = λ other one present there open' _. viewer_sees other one present there (was other one present there open');
    newcomer_sees = newcomer_sees;
    used_shows = shows.used_shows ∙ used_same;
    death_shows = death_same;
  }
