-- A position whose newest record gets the commit time of the marked transaction shows the state in which its chunk is stamped.
use Rattle.std.proofs.Common.{◌≡◌, ℕ, suc, ◌-◌, ◌<◌, ◌≤◌, List, [], ◌∷◌, length, take, drop, Option, None, Some, Bool, true, false, cond, is_some, Contains}
use Rattle.std.proofs.Common.{refl, sym, ap, ◌∙◌, subst, arith, inl, inr}
use Rattle.std.specs.Prelude.{slice_get, unwrap_or, ◌==◌, nat_lt}
use Rattle.std.specs.Option.{option_or}
use Rattle.std.proofs.lemmas.Bool.{cases_Bool, cases_lt, eq-eqb, ne_eqb, or_left, and_parts}
use Rattle.std.proofs.lemmas.Option.{same_Some, slice_get_within}
use Rattle.hy_stamp.specs.declared.Label.{Label}
use Rattle.hy_stamp.specs.declared.Stamp.{Stamp}
use Rattle.hy_stamp.specs.declared.Viewer.{Viewer}
use Rattle.hy_stamp.specs.Times.{id_of}
use Rattle.hy_chain.specs.Chains.{Undo, Under, Falls, newest, seen, marked}
use Rattle.hy_chain.specs.Pruning.{stamps_of}
use Rattle.hy_undo.specs.declared.version.Version.{Version}
use Rattle.hy_undo.specs.Images.{Image, before}
use Rattle.hy_undo.specs.Places.{Place, sees, in_place, cell_of, stamps}
use Rattle.hy_undo.specs.Chunks.{StampedPlace, is_own}
use Rattle.hy_journal.specs.declared.CoreData.{CoreData}
use Rattle.hy_journal.specs.declared.Entry.{Entry as Noted}
use Rattle.hy_event.specs.declared.SessionData.{SessionData}
use Rattle.hy_event.specs.declared.Open.{Open}
use Rattle.hy_event.specs.Sessions.{viewer_of, label_of as label_here}
use Rattle.hy_machine.specs.declared.Setting.{Setting}
use Rattle.hy_machine.specs.States.{State, Open as MachineOpen}
use Rattle.hy_machine.specs.Tables.{Entry, Pair, Cell, opening_tables, chunk_of}
use Rattle.hy_machine.specs.Positions.{item_at, last_some}
use Rattle.hy_machine.specs.Writes.{written_chunks, is_among}
use Rattle.hy_machine.specs.Sessions.{snapshot, view, pair_of}
use Rattle.hy_machine.specs.Holding.{holds, has_pair, undone}
use Rattle.hy_refinement.specs.Stamped.{HasNotStamped, is_unstamped, entries_counted}
use Rattle.hy_refinement.specs.Transactions.{IsOpen}
use Rattle.hy_refinement.specs.Numbers.{noted}
use Rattle.hy_refinement.specs.Places.{IsOfWriter, IsLastWriter, OwnHead, is_used, cell_held, time_left, emptied_at, death_of, newest_below, PlaceShows}
use Rattle.hy_refinement.specs.Rivals.{ShownAt}
use Rattle.hy_refinement.specs.Free.{HasPosition}
use Rattle.hy_refinement.specs.Frames.{gone_on, sessions_on}
use Rattle.hy_refinement.proofs.Stamps.{behind, first_of, newest_first, first_newest, below_here}
use Rattle.hy_refinement.proofs.Orders.{IsLastOf}
use Rattle.hy_refinement.proofs.LastCells.{leaves, pair_over, stays_along}
use Rattle.hy_refinement.proofs.PrunedPlaces.{falls_by_stamps}
use Rattle.hy_refinement.proofs.Holders.{same_label}
use Rattle.hy_refinement.proofs.RivalTops.{own_top, open_shown}
use Rattle.hy_refinement.proofs.Rivals.{LastEntry, last_entry, pair_there}
use Rattle.hy_refinement.proofs.Frees.{live_is}
use Rattle.hy_refinement.proofs.UnwrittenPlaces.{last_of_more}
use Rattle.hy_refinement.proofs.FramesOpened.{WasOpen, same as itself, stays as another, was_open}

-- ---- chains

-- marks fall still where the newest becomes a time above all others
under_all : (time : ℕ) (chain : List (Undo Image)) → ((stamp : Stamp) → Contains (stamps_of chain) stamp → stamp.mark < time) → Under time chain
under_all time [] h = tt
under_all time (undo ∷ chain) h =
    (h undo.stamp (first_of undo.stamp (stamps_of chain)), under_all time chain (λ stamp c. h stamp (behind undo.stamp stamp (stamps_of chain) c)))

stamped_falls : (time : ℕ) (chain new : List (Undo Image)) (stamp : Stamp) (rest : List Stamp) → stamps_of chain ≡ stamp ∷ rest → Falls chain
    → ((other : Stamp) → Contains rest other → other.mark < time) → stamps_of new ≡ record { owner = stamp.owner; mark = time } ∷ rest → Falls new
stamped_falls time [] new stamp rest e f below is = absurd cc
stamped_falls time (undo ∷ chain) new stamp rest e f below is =
    let same : undo.stamp ≡ stamp = cc in
    let later : stamps_of chain ≡ rest = cc in
    let now : stamps_of (marked time undo ∷ chain) ≡ stamps_of new =
    ap (λ (s : Stamp). record { owner = s.owner; mark = time } ∷ stamps_of chain) same
    ∙ (ap (λ (xs : List Stamp). record { owner = stamp.owner; mark = time } ∷ xs) later ∙ sym is) in
    falls_by_stamps (marked time undo ∷ chain) new now
    (under_all time chain (λ other c. below other (subst (λ (xs : List Stamp). Contains xs other) later c)), f.1)

-- a viewer whose own record is the newest sees what is in place
own_sees : (viewer : Viewer) (version : Version) (chain : List (Undo Image)) (stamp : Stamp) → newest chain ≡ Some stamp → stamp.mark ≡ viewer.id
    → seen before viewer version chain ≡ version
own_sees viewer version [] stamp e own = refl
own_sees viewer version (undo ∷ chain) stamp e own =
    let same : undo.stamp ≡ stamp = cc in
    ap (λ (b : Bool). cond b version (seen before viewer (before undo.image version) chain))
    (or_left (undo.stamp.mark == viewer.id) (nat_lt undo.stamp.mark viewer.start)
    (eq-eqb undo.stamp.mark viewer.id (ap (λ (s : Stamp). s.mark) same ∙ own)))

-- what a pair of an own cell leaves is that cell
after_is : (before : Cell) (own : Option Cell) (pair : Pair) → pair_of before own ≡ Some pair → own ≡ Some pair.after
after_is before None pair e = absurd cc
after_is before (Some cell) pair e = ap (λ (one : Pair). Some one.after) (same_Some (record { before = before; after = cell }) pair e)

-- ---- the position

module _ (setting : Setting) (state : State) (core : CoreData) (sessions : List SessionData) (table chunk pos : ℕ) (old new : Place)
    (shown : ShownAt setting state core sessions table chunk pos old) (has : HasPosition (opening_tables setting) table pos)
    (number : ℕ) (session : SessionData) (now then : Open) (current later : MachineOpen) (is : IsOpen state sessions number session now current)
    (mark : state.mark ≡ Some number) (noted_last : Noted) (has_noted : slice_get core.entries (length state.order - 1) ≡ Some noted_last)
    (unstamped : is_unstamped setting state table chunk ≡ true) (stamped : is_unstamped setting (gone_on state number later) table chunk ≡ false)
    (used : is_used setting (gone_on state number later) table pos ≡ is_used setting state table pos)
    (own : is_own (id_of (label_here session)) (newest old.chain) ≡ true)
    (change : StampedPlace (id_of (label_here session)) noted_last.time old new) where
  abbrev after : State
  after = gone_on state number later

  abbrev news : List SessionData
  news = sessions_on sessions number session then

  abbrev id : ℕ
  id = id_of (label_here session)

  abbrev rank : ℕ
  rank = length state.order - 1

  abbrev time : ℕ
  time = noted_last.time

  shows : PlaceShows setting state core sessions table chunk pos old
  shows = shown.place_shows

  last : LastEntry setting state number current
  last = last_entry setting state number current shown.kept mark is.open_there

  counted_before : entries_counted setting state table chunk ≡ rank
  counted_before = ap (λ (b : Bool). cond b (length state.order - 1) (length state.order)) unstamped

  counted_after : entries_counted setting after table chunk ≡ length state.order
  counted_after = ap (λ (b : Bool). cond b (length state.order - 1) (length state.order)) stamped

  -- ---- times

  time_below : time < core.next
  time_below = shown.core_shows.times_apart.times rank noted_last has_noted

  -- every open transaction began before it
  begun_before : (other : ℕ) (one : SessionData) (present : Open) (there : MachineOpen) → IsOpen state sessions other one present there → present.start ≤ time
  begun_before other one present there open' =
      let opened = open_shown setting state core sessions other one present there shown.sessions_show open' in
      let since = shown.kept.none_began_since number mark other there open'.open_there in
      let prefix = opened.open_shows.prefix in
      opened.prefix_counts.late rank noted_last has_noted (omega (arith, since, prefix))

  writer_below : (stamp : Stamp) → IsOfWriter setting state core table chunk pos stamp → stamp.mark < time
  writer_below stamp w =
      let m = w.mark_is in
      let rises = shown.core_shows.times_rise.rise w.rank rank w.entry noted_last (let c = w.counts in omega (arith, c, counted_before)) w.has has_noted in
      omega (arith, m, rises)

  id_apart : (one : SessionData) → time ≡ id_of (label_here one) → ⊥
  id_apart one e = let low = shown.below_ids in let below = time_below in absurd (omega (arith, e, low, below))

  -- ---- stamps

  head : OwnHead setting table pos old session current
  head = shows.own_heads number session now current is (inr unstamped)

  held : holds setting table pos (Some current) ≡ true
  held = sym head.holds_it ∙ own

  top : (stamp : Stamp) × ((newest old.chain ≡ Some stamp) × (stamp.mark ≡ id))
  top = own_top id (newest old.chain) own

  rest : (others : List Stamp) × (stamps_of old.chain ≡ top.0 ∷ others)
  rest = newest_first old.chain top.0 top.1.0

  abbrev stamp_now : Stamp
  stamp_now = record { owner = top.0.owner; mark = time }

  stamps_now : stamps new ≡ stamp_now ∷ rest.0
  stamps_now = change.stamps top.0 rest.0 rest.1

  newest_now : newest new.chain ≡ Some stamp_now
  newest_now = first_newest new.chain stamp_now rest.0 stamps_now

  own_cell : is_some (item_at current.begun.own table pos) ≡ true
  own_cell =
      (and_parts (is_some (item_at current.begun.own table pos))
      (is_among (drop (undone current.phase) (written_chunks setting current.begun.own)) table (chunk_of setting pos)) held).0

  wrote : has_pair table pos last.entry ≡ true
  wrote = ap is_some (last.cells table pos) ∙ pair_there (item_at (snapshot setting state rank) table pos) (item_at current.begun.own table pos) own_cell

  owner_is : top.0.owner ≡ last.entry.label
  owner_is =
      head.owner top.0 top.1.0 top.1.1
      ∙ (same_label setting state core number session (shown.sessions_show.each number session is.found) ∙ sym last.label)

  behind_writers : (other : Stamp) → Contains rest.0 other → IsOfWriter setting state core table chunk pos other
  behind_writers other c = shows.times_are_writers.behind top.0 rest.0 rest.1 other c

  writer_still : (stamp : Stamp) → IsOfWriter setting state core table chunk pos stamp → IsOfWriter setting after core table chunk pos stamp
  writer_still stamp w = record {
    rank = w.rank;
    entered = w.entered;
    entry = w.entry;
    stands = w.stands;
    has = w.has;
    counts = let c = w.counts in let some = last.some in omega (arith, c, counted_before, counted_after, some);
    wrote = w.wrote;
    owner = w.owner;
    mark_is = w.mark_is;
  }

  top_writer : IsOfWriter setting after core table chunk pos stamp_now
  top_writer = record {
    rank = rank;
    entered = last.entry;
    entry = noted_last;
    stands = last.stands;
    has = has_noted;
    counts = let some = last.some in omega (arith, counted_after, some);
    wrote = wrote;
    owner = owner_is;
    mark_is = refl;
  }

  -- ---- what is in place is the own cell, which all entries leave

  order_last : IsLastOf (has_pair table pos) state.order
  order_last = record {
    rank = rank;
    item = last.entry;
    stands = last.stands;
    passes = wrote;
    last = λ other entry less e. absurd (let within = slice_get_within state.order other entry e in omega (arith, less, within));
  }

  abbrev last_cell : Cell
  last_cell = item_at (snapshot setting state (length state.order)) table pos

  in_place_is : in_place old ≡ last_cell
  unfolding last order_last
  in_place_is =
      let left = leaves setting state table pos has order_last in
      let cell : item_at current.begun.own table pos ≡ Some left.pair.after =
      after_is (item_at (snapshot setting state rank) table pos) (item_at current.begun.own table pos) left.pair (sym (last.cells table pos) ∙ left.pair_is) in
      let there = stays_along (opening_tables setting) (take current.begun.prefix state.order) table pos has in
      let seen_there : item_at (view setting state current.begun) table pos ≡ left.pair.after =
      pair_over (λ (cell : Cell). cell) (snapshot setting state current.begun.prefix) current.begun.own table pos left.pair.after cell there.table_below
      there.pos_below in
      sym (ap cell_of (own_sees (viewer_of session now) old.version old.chain top.0 top.1.0 top.1.1))
      ∙ (shows.viewer_sees number session now current is (inr unstamped)
      ∙ (ap (λ (b : Bool). cond b (item_at (view setting state current.begun) table pos) (item_at (snapshot setting state current.begun.prefix) table pos))
      held
      ∙ (seen_there ∙ sym left.after)))

  -- ---- the other sessions

  marked_is : (other : ℕ) → (other ≡ number → ⊥) → state.mark ≡ Some other → ⊥
  marked_is other apart e = apart (same_Some other number (sym e ∙ mark))

  -- no other holds it
  not_held : (other : ℕ) (one : SessionData) (present : Open) (there : MachineOpen) → (other ≡ number → ⊥) → IsOpen state sessions other one present there
      → holds setting table pos (Some there) ≡ false
  not_held other one present there apart open' = elim (cases_Bool (holds setting table pos (Some there))) [
    | inr free ↦ free
    | inl holds_too ↦ absurd (shown.kept.holders_apart other number apart table pos (ap (holds setting table pos) open'.open_there ∙ holds_too)
        (ap (holds setting table pos) is.open_there ∙ held))
  ]

  -- nor has another its identifier
  ids_apart : (other : ℕ) (one : SessionData) (present : Open) (there : MachineOpen) → (other ≡ number → ⊥) → IsOpen state sessions other one present there
      → id ≡ id_of (label_here one) → ⊥
  ids_apart other one present there apart open' same =
      let its_head = shows.own_heads other one present there open' (inl (marked_is other apart)) in
      absurd (let e : true ≡ false =
      sym (ap (λ (n : ℕ). is_own n (newest old.chain)) (sym same) ∙ own) ∙ (its_head.holds_it ∙ not_held other one present there apart open') in cc)

  stamped_it : (other : ℕ) → other ≡ number → HasNotStamped setting after other table chunk → ⊥
  stamped_it other same (inl unlike) = unlike (mark ∙ ap (λ (n : ℕ). Some n) (sym same))
  stamped_it other same (inr un) = absurd (let e = sym un ∙ stamped in cc)

  own_head : (other : ℕ) (one : SessionData) (present : Open) (there : MachineOpen) → WasOpen state sessions number session then later other one present there
      → HasNotStamped setting after other table chunk → OwnHead setting table pos new one there
  own_head other one present there (itself same one_is present_is there_is) not_stamped = absurd (stamped_it other same not_stamped)
  own_head other one present there (another apart open') not_stamped = record {
    holds_it =
        ap (is_own (id_of (label_here one))) newest_now
        ∙ (ne_eqb time (id_of (label_here one)) (id_apart one) ∙ sym (not_held other one present there apart open'));
    owner = λ stamp e m. absurd (id_apart one (ap (λ (s : Stamp). s.mark) (same_Some stamp_now stamp (sym newest_now ∙ e)) ∙ m));
  }

  viewer_sees : (other : ℕ) (one : SessionData) (present : Open) (there : MachineOpen) → WasOpen state sessions number session then later other one present there
      → HasNotStamped setting after other table chunk → sees (viewer_of one present) new ≡ cell_held setting state table pos there
  viewer_sees other one present there (itself same one_is present_is there_is) not_stamped = absurd (stamped_it other same not_stamped)
  viewer_sees other one present there (another apart open') not_stamped =
      let start = begun_before other one present there open' in
      let low = shown.below_ids in
      let below = time_below in
      change.early (viewer_of one present)
      (record { other = ids_apart other one present there apart open'; start = omega (arith, start, below, low) }) start (id_apart one)
      ∙ shows.viewer_sees other one present there open' (inl (marked_is other apart))

  -- ---- the last writer

  last_on_top : (other : ℕ) (entered : Entry) (entry : Noted) → IsLastWriter setting after table chunk pos other entered
      → slice_get core.entries other ≡ Some entry → newest_below core.next (stamps new) ≡ Some (record { owner = entered.label; mark = entry.time })
  last_on_top other entered entry its_last has_entry =
      let is_last : other ≡ rank = elim (cases_lt other rank) [
        | inl less ↦ absurd (
            let quiet = its_last.last rank last.entry less (let some = last.some in omega (arith, counted_after, some)) last.stands in
            let e = sym quiet ∙ wrote in cc)
        | inr more ↦ let c = its_last.counts in omega (arith, more, c, counted_after)
      ] in
      let entered_is : last.entry ≡ entered =
      same_Some last.entry entered (sym last.stands ∙ (ap (slice_get state.order) (sym is_last) ∙ its_last.stands)) in
      let entry_is : noted_last ≡ entry = same_Some noted_last entry (sym has_noted ∙ (ap (slice_get core.entries) (sym is_last) ∙ has_entry)) in
      ap (newest_below core.next) stamps_now
      ∙ (below_here core.next stamp_now rest.0 time_below
      ∙ ap (λ (s : Stamp). Some s) (stamps_same top.0.owner entered.label time entry.time (owner_is ∙ ap (λ (one : Entry). one.label) entered_is) (ap
      (λ (one : Noted). one.time) entry_is)))
    where
      stamps_same : (a b : Label) (c d : ℕ) → a ≡ b → c ≡ d → ◌≡◌ {A = Stamp} (record { owner = a; mark = c }) (record { owner = b; mark = d })
      stamps_same a b c d e f = cc

  -- ---- the death time

  death_is : new.death ≡ death_of setting after core table chunk pos
  unfolding last order_last
  death_is =
      let left = leaves setting state table pos has order_last in
      let earlier : Option ℕ = last_some (emptied_at table pos) (take rank core.entries) in
      let emptied : emptied_at table pos noted_last ≡ cond old.version.live None (Some time) =
      ap (time_left time) ((shown.core_shows.entries_show.each rank last.entry noted_last last.stands has_noted).notes table pos ∙ ap noted left.pair_is)
      ∙ ap (λ (b : Bool). cond b None (Some time)) (ap is_some (sym (in_place_is ∙ left.after)) ∙ live_is old.version) in
      change.death
      ∙ (by_live old.version.live earlier
      (shows.death_shows ∙ ap (λ (n : ℕ). unwrap_or (last_some (emptied_at table pos) (take n core.entries)) 0) counted_before)
      ∙ (ap (λ (o : Option ℕ). unwrap_or (option_or o earlier) 0) (sym emptied)
      ∙ (ap (λ (o : Option ℕ). unwrap_or o 0) (sym (last_of_more (emptied_at table pos) core.entries rank noted_last has_noted))
      ∙ ap (λ (n : ℕ). unwrap_or (last_some (emptied_at table pos) (take n core.entries)) 0)
      (let some = last.some in let s : suc rank ≡ entries_counted setting after table chunk = omega (arith, some, counted_after) in s))))
    where
      by_live : (live : Bool) (earlier : Option ℕ) → old.death ≡ unwrap_or earlier 0
          → cond live old.death time ≡ unwrap_or (option_or (cond live None (Some time)) earlier) 0
      by_live true earlier e = e
      by_live false earlier e = refl

  -- ---- all of it

  pub stamped_shows : PlaceShows setting after core news table chunk pos new
  stamped_shows = record {
    falls = stamped_falls time old.chain new.chain top.0 rest.0 rest.1 shows.falls (λ other c. writer_below other (behind_writers other c)) stamps_now;
    own_heads = λ other one present there open'. own_head other one present there
        (was_open state sessions number session now then current later is other one present there open');
    times_are_writers = record {
      top = λ stamp others e.
          let same : stamp_now ≡ stamp = first_same (sym stamps_now ∙ e) in
          inr (subst (λ (s : Stamp). IsOfWriter setting after core table chunk pos s) same top_writer);
      behind = λ stamp others e other c.
          let same : rest.0 ≡ others = rest_same (sym stamps_now ∙ e) in
          writer_still other (behind_writers other (subst (λ (xs : List Stamp). Contains xs other) (sym same) c));
    };
    last_writer_on_top = λ other entered entry its_last has_entry another one present there open' above. last_on_top other entered entry its_last has_entry;
    viewer_sees = λ other one present there open'. viewer_sees other one present there
        (was_open state sessions number session now then current later is other one present there open');
    newcomer_sees = λ viewer new'.
        change.late viewer (let start = new'.start in let below = time_below in omega (arith, start, below))
        ∙ (in_place_is ∙ ap (λ (n : ℕ). item_at (snapshot setting state n) table pos) (sym counted_after));
    used_shows = change.used ∙ (shows.used_shows ∙ sym used);
    death_shows = death_is;
  }
    where
      first_same : {x y : Stamp} {xs ys : List Stamp} → ◌≡◌ {A = List Stamp} (x ∷ xs) (y ∷ ys) → x ≡ y
      first_same e = cc

      rest_same : {x y : Stamp} {xs ys : List Stamp} → ◌≡◌ {A = List Stamp} (x ∷ xs) (y ∷ ys) → xs ≡ ys
      rest_same e = cc
