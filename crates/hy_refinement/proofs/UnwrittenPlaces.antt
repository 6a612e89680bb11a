-- A position that the entries did not write which begin to count in its chunk shows what it showed.
use Rattle.std.proofs.Common.{◌≡◌, ℕ, zero, suc, ◌+◌, ◌-◌, ◌<◌, ◌≤◌, List, [], ◌∷◌, length}
use Rattle.std.proofs.Common.{take, get_or, Option, None, Some, false, refl, sym, ap, ◌∙◌, arith, inl, inr}
use Rattle.std.specs.Prelude.{slice_get, unwrap_or}
use Rattle.std.specs.Option.{option_or}
use Rattle.std.proofs.lemmas.Bool.{cases_lt}
use Rattle.std.proofs.lemmas.Option.{same_Some, slice_get-get_or}
use Rattle.hy_stamp.specs.declared.Label.{Label}
use Rattle.hy_stamp.specs.declared.Stamp.{Stamp}
use Rattle.hy_stamp.specs.declared.Viewer.{Viewer}
use Rattle.hy_stamp.specs.Times.{id_of}
use Rattle.hy_chain.specs.Chains.{newest}
use Rattle.hy_undo.specs.Places.{Place, sees}
use Rattle.hy_undo.specs.Chunks.{is_own}
use Rattle.hy_journal.specs.declared.CoreData.{CoreData}
use Rattle.hy_journal.specs.declared.Entry.{Entry as Noted}
use Rattle.hy_event.specs.declared.SessionData.{SessionData}
use Rattle.hy_event.specs.declared.Open.{Open}
use Rattle.hy_event.specs.Sessions.{viewer_of, label_of as label_here}
use Rattle.hy_machine.specs.declared.Setting.{Setting}
use Rattle.hy_machine.specs.States.{State, Session, Open as MachineOpen}
use Rattle.hy_machine.specs.Tables.{Entry}
use Rattle.hy_machine.specs.Positions.{item_at, last_some}
use Rattle.hy_machine.specs.Sessions.{snapshot}
use Rattle.hy_machine.specs.Holding.{holds, has_pair}
use Rattle.hy_refinement.specs.Stamped.{HasNotStamped, entries_counted}
use Rattle.hy_refinement.specs.Transactions.{IsOpen}
use Rattle.hy_refinement.specs.Numbers.{EntriesShow}
use Rattle.hy_refinement.specs.Places.{IsOwnStamp, IsOfWriter, IsLastWriter, IsNewcomer, is_used, cell_held, emptied_at, PlaceShows}
use Rattle.hy_refinement.proofs.Stamps.{first_newest}
use Rattle.hy_refinement.proofs.Orders.{cell_stays}
use Rattle.hy_refinement.proofs.LastCells.{not_emptied}

-- ---- the last thing of a list with one more

or_none : {B : Type 0} (o : Option B) → o ≡ option_or o None
or_none None = refl
or_none (Some b) = refl

or_joins : {B : Type 0} (a b c : Option B) → option_or (option_or a b) c ≡ option_or a (option_or b c)
or_joins None b c = refl
or_joins (Some x) b c = refl

pub last_of_more : {A B : Type 0} (f : A → Option B) (xs : List A) (n : ℕ) (x : A) → slice_get xs n ≡ Some x
    → last_some f (take (suc n) xs) ≡ option_or (f x) (last_some f (take n xs))
last_of_more f [] n x e = absurd cc
last_of_more {A} {B} f (y ∷ xs) zero x e = ap f (same_Some y x e) ∙ or_none (f x)
last_of_more {A} {B} f (y ∷ xs) (suc n) x e =
    ap (λ (o : Option B). option_or o (f y)) (last_of_more f xs n x e) ∙ or_joins (f x) (last_some f (take n xs)) (f y)

-- a transaction that is open afterwards was open, and stands at a position as it stood
pub record StoodSo (setting : Setting) (state after : State) (sessions : List SessionData) (table chunk pos number : ℕ)
    (session : SessionData) (now : Open) (current : MachineOpen) : Type 0 where
  pub was : SessionData
  pub then : Open
  pub there : MachineOpen
  pub is_open : IsOpen state sessions number was then there
  pub label : label_here session ≡ label_here was
  pub start : now.start ≡ then.start
  pub not_stamped : HasNotStamped setting after number table chunk → HasNotStamped setting state number table chunk
  pub holds_it : HasNotStamped setting after number table chunk → holds setting table pos (Some current) ≡ holds setting table pos (Some there)
  pub cell : HasNotStamped setting after number table chunk → cell_held setting after table pos current ≡ cell_held setting state table pos there

module _ (setting : Setting) (state : State) (core : CoreData) (sessions : List SessionData) (mark : Option ℕ) (sessions_there : List Session)
    (active : List ℕ) (core_mark : Option Label) (news : List SessionData) (table chunk pos : ℕ) (place : Place) where
  abbrev after : State
  after = record { order = state.order; mark = mark; sessions = sessions_there }

  abbrev core_after : CoreData
  core_after = record { next = core.next; active = active; entries = core.entries; mark = core_mark }

  -- the entries from those on that counted did not write the position
  abbrev pub IsQuiet : Type 0
  IsQuiet = (rank : ℕ) (entry : Entry) → entries_counted setting state table chunk ≤ rank → slice_get state.order rank ≡ Some entry
      → has_pair table pos entry ≡ false

  -- those who are open afterwards stood so before
  abbrev pub StoodAll : Type 0
  StoodAll = (number : ℕ) (session : SessionData) (now : Open) (current : MachineOpen) → IsOpen after news number session now current
      → StoodSo setting state after sessions table chunk pos number session now current

  -- a transaction's own stamp on top is one still
  abbrev pub OwnStays : Type 0
  OwnStays = (stamp : Stamp) → newest place.chain ≡ Some stamp → IsOwnStamp setting state sessions table chunk stamp
      → IsOwnStamp setting after news table chunk stamp

  -- newcomers see what newcomers saw
  abbrev pub NewcomersSaw : Type 0
  NewcomersSaw = (viewer : Viewer) → IsNewcomer after core_after news viewer
      → sees viewer place ≡ item_at (snapshot setting state (entries_counted setting state table chunk)) table pos

  module _ (entries_show : EntriesShow state.order core.entries) (shows : PlaceShows setting state core sessions table chunk pos place)
      (fewer : entries_counted setting state table chunk ≤ length state.order) (all : entries_counted setting after table chunk ≡ length state.order)
      (quiet : IsQuiet) (stood : StoodAll) (own_stays : OwnStays) (saw : NewcomersSaw)
      (used : is_used setting after table pos ≡ is_used setting state table pos) where
    abbrev counted : ℕ
    counted = entries_counted setting state table chunk

    writer_still : (stamp : Stamp) → IsOfWriter setting state core table chunk pos stamp → IsOfWriter setting after core_after table chunk pos stamp
    writer_still stamp w = record {
      rank = w.rank;
      entered = w.entered;
      entry = w.entry;
      stands = w.stands;
      has = w.has;
      counts = let c = w.counts in omega (arith, c, fewer, all);
      wrote = w.wrote;
      owner = w.owner;
      mark_is = w.mark_is;
    }

    -- a last writer counted before
    last_before : (rank : ℕ) (entered : Entry) → IsLastWriter setting after table chunk pos rank entered
        → IsLastWriter setting state table chunk pos rank entered
    last_before rank entered last = record {
      stands = last.stands;
      counts = elim (cases_lt rank counted) [
        | inl less ↦ less
        | inr more ↦ absurd (let e = sym (quiet rank entered more last.stands) ∙ last.wrote in cc)
      ];
      wrote = last.wrote;
      last = λ other later less below e. last.last other later less (omega (arith, below, fewer, all)) e;
    }

    emptied : (n : ℕ) → counted ≤ n → n ≤ length state.order
        → last_some (emptied_at table pos) (take n core.entries) ≡ last_some (emptied_at table pos) (take counted core.entries)
    emptied n le within = steps (n - counted) n (omega (arith, le)) within
      where
        one_more : (n : ℕ) (entry : Entry) (noted : Noted) → counted ≤ n → slice_get state.order n ≡ Some entry → slice_get core.entries n ≡ Some noted
            → last_some (emptied_at table pos) (take (suc n) core.entries) ≡ last_some (emptied_at table pos) (take n core.entries)
        one_more n entry noted le stands has =
            last_of_more (emptied_at table pos) core.entries n noted has
            ∙ ap (λ (o : Option ℕ). option_or o (last_some (emptied_at table pos) (take n core.entries)))
            (not_emptied state.order core.entries table pos n entry noted entries_show stands has (quiet n entry le stands))

        steps : (more n : ℕ) → n ≡ counted + more → n ≤ length state.order
            → last_some (emptied_at table pos) (take n core.entries) ≡ last_some (emptied_at table pos) (take counted core.entries)
        steps zero n e within = ap (λ (k : ℕ). last_some (emptied_at table pos) (take k core.entries)) (let s : n ≡ counted = omega (arith, e) in s)
        steps (suc more) n e within =
            let before : ℕ = counted + more in
            let is_next : n ≡ suc before = omega (arith, e) in
            let below : before < length state.order = omega (arith, is_next, within) in
            let count = entries_show.count in
            let no_entry : Entry = record { label = record { session = 0; txn = 0 }; cells = [] } in
            let no_note : Noted = record { label = record { session = 0; txn = 0 }; start = 0; time = 0; notes = [] } in
            ap (λ (k : ℕ). last_some (emptied_at table pos) (take k core.entries)) is_next
            ∙ (one_more before (get_or state.order before no_entry) (get_or core.entries before no_note) (omega arith)
            (slice_get-get_or state.order before no_entry below) (slice_get-get_or core.entries before no_note (omega (arith, count, below)))
            ∙ steps more before refl (omega (arith, below)))

    pub shows_still : PlaceShows setting after core_after news table chunk pos place
    shows_still = record {
      falls = shows.falls;
      own_heads = λ number session now current open' not_stamped.
          let so = stood number session now current open' in
          let head = shows.own_heads number so.was so.then so.there so.is_open (so.not_stamped not_stamped) in record {
            holds_it =
                ap (λ (label : Label). is_own (id_of label) (newest place.chain)) so.label ∙ (head.holds_it ∙ sym (so.holds_it not_stamped));
            owner = λ stamp e mark. head.owner stamp e (mark ∙ ap id_of so.label) ∙ sym so.label;
          };
      times_are_writers = record {
        top = λ stamp rest e. elim (shows.times_are_writers.top stamp rest e) [
          | inl own ↦ inl (own_stays stamp (first_newest place.chain stamp rest e) own)
          | inr w ↦ inr (writer_still stamp w)
        ];
        behind = λ stamp rest e other c. writer_still other (shows.times_are_writers.behind stamp rest e other c);
      };
      last_writer_on_top = λ rank entered entry last has number session now current open' above.
          let so = stood number session now current open' in
          let start = so.start in
          shows.last_writer_on_top rank entered entry (last_before rank entered last) has number so.was so.then so.there so.is_open
          (omega (arith, above, start));
      viewer_sees = λ number session now current open' not_stamped.
          let so = stood number session now current open' in
          ap (λ (viewer : Viewer). sees viewer place) (viewers_same session so.was now so.then so.label so.start)
          ∙ (shows.viewer_sees number so.was so.then so.there so.is_open (so.not_stamped not_stamped) ∙ sym (so.cell not_stamped));
      newcomer_sees = λ viewer is.
          saw viewer is
          ∙ (sym (cell_stays setting state table pos counted (length state.order) fewer (omega arith) (λ rank entry l m e. quiet rank entry l e))
          ∙ ap (λ (n : ℕ). item_at (snapshot setting state n) table pos) (sym all));
      used_shows = shows.used_shows ∙ sym used;
      death_shows =
          shows.death_shows
          ∙ ap (λ (o : Option ℕ). unwrap_or o 0)
          (sym (emptied (length state.order) fewer (omega arith)) ∙ ap
          (λ (n : ℕ). last_some (emptied_at table pos) (take n core.entries)) (sym all));
    }
      where
        viewer_by : (a b c d : ℕ) → a ≡ b → c ≡ d → ◌≡◌ {A = Viewer} (record { id = a; start = c }) (record { id = b; start = d })
        viewer_by a b c d e f = cc

        viewers_same : (session was : SessionData) (now then : Open) → label_here session ≡ label_here was → now.start ≡ then.start
            → viewer_of session now ≡ viewer_of was then
        viewers_same session was now then e f = viewer_by (id_of (label_here session)) (id_of (label_here was)) now.start then.start (ap id_of e) f
