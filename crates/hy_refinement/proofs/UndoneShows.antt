-- A position whose newest record is taken back shows the state where the transaction does not hold it any more.
use Rattle.std.proofs.Common.{◌≡◌, ℕ, ◌<◌, List, ◌∷◌, take, Contains, Option, None, Some, Bool, true, false, not, refl, sym, ap, ◌∙◌}
use Rattle.std.proofs.Common.{subst, arith, inl, inr, cond}
use Rattle.std.specs.Prelude.{is_some, unwrap_or, ◌||◌, ◌&&◌, ◌==◌}
use Rattle.std.specs.List.{list_any}
use Rattle.std.proofs.Math.Bool.{or-false}
use Rattle.std.proofs.lemmas.Bool.{cases_Bool, cases_eq, ne_eqb, eq-eqb, or_right}
use Rattle.std.proofs.lemmas.Option.{get_or_from_slice_get}
use Rattle.hy_stamp.specs.declared.Stamp.{Stamp}
use Rattle.hy_stamp.specs.declared.Viewer.{Viewer}
use Rattle.hy_stamp.specs.Times.{id_of}
use Rattle.hy_chain.specs.Chains.{Undo, Falls, newest}
use Rattle.hy_chain.specs.Pruning.{stamps_of}
use Rattle.hy_undo.specs.Images.{Image}
use Rattle.hy_undo.specs.Places.{Place, sees, stamps}
use Rattle.hy_undo.specs.Chunks.{is_own}
use Rattle.hy_journal.specs.declared.CoreData.{CoreData}
use Rattle.hy_event.specs.declared.SessionData.{SessionData}
use Rattle.hy_event.specs.declared.Open.{Open}
use Rattle.hy_event.specs.Sessions.{label_of, viewer_of}
use Rattle.hy_machine.specs.declared.Setting.{Setting}
use Rattle.hy_machine.specs.States.{State, Session, Open as MachineOpen}
use Rattle.hy_machine.specs.Tables.{Entry, opening_tables}
use Rattle.hy_machine.specs.Positions.{item_at, last_some}
use Rattle.hy_machine.specs.Sessions.{fresh, session_at, snapshot, view}
use Rattle.hy_machine.specs.Holding.{holds, is_held, has_pair}
use Rattle.hy_refinement.specs.Stamped.{HasNotStamped, is_unstamped, entries_counted}
use Rattle.hy_refinement.specs.Transactions.{IsOpen}
use Rattle.hy_refinement.specs.Places.{IsOfWriter, IsLastWriter, OwnHead, OwnHeads, TimesAreWriters, LastWriterOnTop, ViewerSees, NewcomerSees}
use Rattle.hy_refinement.specs.Places.{IsNewcomer, PlaceShows, newest_below, cell_held, is_used, emptied_at}
use Rattle.hy_refinement.specs.Free.{HasPosition}
use Rattle.hy_refinement.specs.Frames.{gone_on, went_on, sessions_on, KeepsStart}
use Rattle.hy_refinement.proofs.Stamps.{behind, first_of, below_later}
use Rattle.hy_refinement.proofs.LastCells.{any_true, any_false}
use Rattle.hy_refinement.proofs.Holders.{is_there}
use Rattle.hy_refinement.proofs.RivalTops.{top_or_none}
use Rattle.hy_refinement.proofs.Deaths.{row_or_emptied}
use Rattle.hy_refinement.proofs.FramesOpened.{goes_there, stays_there, opens_here, opens_other, open_once, not_stamped_before, counted_same}
use Rattle.hy_refinement.proofs.CountedWriters.{writer_still, last_writer_was}
use Rattle.hy_refinement.proofs.OpensGoneOn.{each_apart}
use Rattle.hy_refinement.proofs.PrunedPlaces.{falls_by_stamps}
use Rattle.hy_refinement.proofs.OwnRecords.{newest_among, quiet, stamps_are, behind_writer, behind_below}
use Rattle.hy_refinement.proofs.UndonePlaces.{TakesBack, stamps_left, stops_there, in_place_prefix, image_live}

module _ {setting : Setting} {state : State} {core : CoreData} {sessions : List SessionData} {table chunk pos : ℕ} {old new : Place}
    {number : ℕ} {session : SessionData} {now : Open} {current : MachineOpen}
    (back : TakesBack setting state core sessions table chunk pos old new number session now current) (has : HasPosition (opening_tables setting) table pos)
    (then : Open) (later : MachineOpen) (keeps : KeepsStart now then current later) (gone : holds setting table pos (Some later) ≡ false)
    (same_stamped : is_unstamped setting (gone_on state number later) table chunk ≡ is_unstamped setting state table chunk) where
  same_counted : entries_counted setting (gone_on state number later) table chunk ≡ entries_counted setting state table chunk
  same_counted = counted_same setting state number table chunk later same_stamped

  writer_left : (stamp : Stamp) → Contains (stamps_of back.has.rest) stamp → IsOfWriter setting (gone_on state number later) core table chunk pos stamp
  writer_left stamp c =
      writer_still setting state (gone_on state number later) table chunk pos refl same_counted core core refl stamp (behind_writer back.has stamp c)

  -- nobody else holds the position, or has its identifier
  other_holds_not : (other : ℕ) (there : MachineOpen) → (other ≡ number → ⊥) → (session_at state other).now ≡ Some there
      → holds setting table pos (Some there) ≡ false
  other_holds_not other there apart open' = elim (cases_Bool (holds setting table pos (Some there))) [
    | inr not_held ↦ not_held
    | inl holds_it ↦ absurd (back.has.shown.kept.holders_apart other number apart table pos (ap (holds setting table pos) open' ∙ holds_it)
        (ap (holds setting table pos) back.has.is_open.open_there ∙ back.has.held))
  ]

  other_id : (other : ℕ) (one : SessionData) (present : Open) (there : MachineOpen) → (other ≡ number → ⊥) → IsOpen state sessions other one present there
      → HasNotStamped setting state other table chunk → id_of (label_of session) ≡ id_of (label_of one) → ⊥
  other_id other one present there apart open' not_stamped same =
      let head = back.has.shown.place_shows.own_heads other one present there open' not_stamped in
      absurd (let e : true ≡ false =
      sym (ap (λ (chain : List (Undo Image)). is_own (id_of (label_of one)) (newest chain)) back.has.chain_is
      ∙ eq-eqb back.has.undo.stamp.mark (id_of (label_of one)) (back.has.own ∙ same))
      ∙ (head.holds_it ∙ other_holds_not other there apart open'.open_there) in cc)

  -- no identifier is on top
  not_own : (one : SessionData) → is_own (id_of (label_of one)) (newest new.chain) ≡ false
  not_own one = elim (top_or_none (newest new.chain)) [
    | inl none ↦ ap (is_own (id_of (label_of one))) none
    | inr top ↦
        let early = behind_below back.has top.0 (newest_among new.chain top.0 (stamps_of back.has.rest) (stamps_left back) top.1) in
        let ids = back.has.shown.below_ids in
        ap (is_own (id_of (label_of one))) top.1 ∙ ne_eqb top.0.mark (id_of (label_of one)) (λ e. absurd (omega (arith, e, early, ids)))
  ]

  head_after : (one : SessionData) (there : MachineOpen) → holds setting table pos (Some there) ≡ false → OwnHead setting table pos new one there
  head_after one there free = record {
    holds_it = not_own one ∙ sym free;
    owner = λ stamp e mark. absurd (let f = not_own one in
        let t : is_own (id_of (label_of one)) (newest new.chain) ≡ true =
        ap (is_own (id_of (label_of one))) e ∙ eq-eqb stamp.mark (id_of (label_of one)) mark in
        let g = sym t ∙ f in cc);
  }

  own_heads : OwnHeads setting (gone_on state number later) (sessions_on sessions number session then) table chunk pos new
  own_heads =
      each_apart (λ (other : ℕ) (one : SessionData) (present : Open) (there : MachineOpen).
      HasNotStamped setting (gone_on state number later) other table chunk → OwnHead setting table pos new one there)
      state sessions number session now then current later back.has.is_open
      (λ not_stamped. head_after (went_on session then) later gone)
      (λ other one present there apart open' not_stamped. head_after one there (other_holds_not other there apart open'.open_there))

  -- who has not stamped the chunk then had not before
  had_not_stamped : (other : ℕ) → HasNotStamped setting (gone_on state number later) other table chunk → HasNotStamped setting state other table chunk
  had_not_stamped other not_stamped = not_stamped_before setting state number other table chunk later same_stamped not_stamped

  times_are_writers : TimesAreWriters setting (gone_on state number later) core (sessions_on sessions number session then) table chunk pos new
  times_are_writers = record {
    top = λ stamp others e. inr (writer_left stamp (subst (λ (xs : List Stamp). Contains xs stamp) (sym e ∙ stamps_left back) (first_of stamp others)));
    behind = λ stamp others e other c.
        writer_left other (subst (λ (xs : List Stamp). Contains xs other) (sym e ∙ stamps_left back) (behind stamp other others c));
  }

  newest_time : newest_below core.next (stamps new) ≡ newest_below core.next (stamps old)
  newest_time =
      let ids = back.has.shown.below_ids in
      let own = back.has.own in
      ap (newest_below core.next) (stamps_left back)
      ∙ (sym (below_later core.next back.has.undo.stamp (stamps_of back.has.rest) (omega (arith, own, ids)))
      ∙ ap (newest_below core.next) (sym (stamps_are back.has)))

  last_writer_before : (rank : ℕ) (entered : Entry) → IsLastWriter setting (gone_on state number later) table chunk pos rank entered
      → IsLastWriter setting state table chunk pos rank entered
  last_writer_before = last_writer_was setting state (gone_on state number later) table chunk pos refl same_counted

  last_writer_on_top : LastWriterOnTop setting (gone_on state number later) core (sessions_on sessions number session then) table chunk pos new
  last_writer_on_top rank entered entry last stands =
      each_apart (λ (other : ℕ) (one : SessionData) (present : Open) (there : MachineOpen).
      present.start < entry.time → newest_below core.next (stamps new) ≡ Some (record { owner = entered.label; mark = entry.time }))
      state sessions number session now then current later back.has.is_open
      (λ above.
      newest_time
      ∙ back.has.shown.place_shows.last_writer_on_top rank entered entry (last_writer_before rank entered last) stands number session now current
      back.has.is_open (let start = keeps.start in omega (arith, above, start)))
      (λ other one present there apart open' above.
      newest_time
      ∙ back.has.shown.place_shows.last_writer_on_top rank entered entry (last_writer_before rank entered last) stands other one present there open' above)

  viewer_sees : ViewerSees setting (gone_on state number later) (sessions_on sessions number session then) table chunk pos new
  viewer_sees =
      each_apart (λ (other : ℕ) (one : SessionData) (present : Open) (there : MachineOpen).
      HasNotStamped setting (gone_on state number later) other table chunk
      → sees (viewer_of one present) new ≡ cell_held setting (gone_on state number later) table pos there)
      state sessions number session now then current later back.has.is_open
      (λ not_stamped.
      stops_there back (viewer_of (went_on session then) then) (let start = keeps.start in omega (arith, start))
      ∙ (in_place_prefix back
      ∙ (ap (λ (prefix : ℕ). item_at (snapshot setting state prefix) table pos) (sym keeps.prefix_there)
      ∙ sym (ap (λ (b : Bool). cond b (item_at (view setting state later.begun) table pos)
      (item_at (snapshot setting state later.begun.prefix) table pos)) gone))))
      (λ other one present there apart open' not_stamped.
      back.undone.others (viewer_of one present) (record {
        other = other_id other one present there apart open' (had_not_stamped other not_stamped);
        start = let early = back.has.shown.core_shows.times_apart.starts other one present there open' in
            let ids = back.has.shown.below_ids in omega (arith, early, ids);
      })
      ∙ back.has.shown.place_shows.viewer_sees other one present there open' (had_not_stamped other not_stamped))

  was_newcomer : (viewer : Viewer) → IsNewcomer (gone_on state number later) core (sessions_on sessions number session then) viewer
      → IsNewcomer state core sessions viewer
  was_newcomer viewer one = record {
    start = one.start;
    id = one.id;
    new = λ other another present there open' e. elim (cases_eq other number) [
      | inr apart ↦
          one.new other another present there (opens_other state sessions number session then later other another present there apart open') e
      | inl same ↦
          let it = open_once state sessions number other session another now present current there back.has.is_open open' same in
          one.new number (went_on session then) then later (opens_here state sessions number session now then current later back.has.is_open)
          (sym (ap (λ (s : SessionData). id_of (label_of s)) it.session_is) ∙ e)
    ];
  }

  newcomer_sees : NewcomerSees setting (gone_on state number later) core (sessions_on sessions number session then) table chunk pos new
  newcomer_sees viewer one =
      let was = was_newcomer viewer one in
      let start = was.start in
      let ids = back.has.shown.below_ids in
      back.undone.others viewer (record { other = was.new number session now current back.has.is_open; start = omega (arith, start, ids) })
      ∙ (back.has.shown.place_shows.newcomer_sees viewer was
      ∙ ap (λ (n : ℕ). item_at (snapshot setting state n) table pos) (sym same_counted))

  -- ---- use

  held_before : is_held setting state table pos ≡ true
  held_before =
      any_true (λ (each : Session). holds setting table pos each.now) state.sessions number (session_at state number)
      (is_there state number current back.has.is_open.open_there) (ap (holds setting table pos) back.has.is_open.open_there ∙ back.has.held)

  held_after : is_held setting (gone_on state number later) table pos ≡ false
  held_after =
      any_false (λ (each : Session). holds setting table pos each.now) (gone_on state number later).sessions (λ other one e. elim (cases_eq other number) [
        | inl same ↦
            ap (λ (each : Session). holds setting table pos each.now)
            (sym (get_or_from_slice_get (gone_on state number later).sessions other one fresh e)
            ∙ (ap (session_at (gone_on state number later)) same
            ∙ goes_there state number current later back.has.is_open.open_there))
            ∙ gone
        | inr apart ↦
            ap (λ (each : Session). holds setting table pos each.now)
            (sym (get_or_from_slice_get (gone_on state number later).sessions other one fresh e)
            ∙ stays_there state number other later apart)
            ∙ by_now other apart (session_at state other).now refl
      ])
    where
      by_now : (other : ℕ) → (other ≡ number → ⊥) → (there : Option MachineOpen) → (session_at state other).now ≡ there → holds setting table pos there ≡ false
      by_now other apart None e = refl
      by_now other apart (Some there) e = other_holds_not other there apart e

  used_shows : new.used ≡ is_used setting (gone_on state number later) table pos
  used_shows =
      back.undone.used back.has.undo back.has.rest back.has.chain_is
      ∙ (ap (λ (b : Bool). b && (back.has.undo.image.live || not (old.death == 0))) was_used
      ∙ (ap (λ (b : Bool). b || not (old.death == 0))
      (image_live back)
      ∙ (ap (λ (n : ℕ). is_some (item_at (snapshot setting state (entries_counted setting state table chunk)) table pos) || not (n == 0))
      back.has.shown.place_shows.death_shows
      ∙ (row_or_emptied setting state core sessions table chunk pos old back.has.shown has number current back.has.is_open.open_there
      (quiet back.has)
      ∙ (ap (λ (b : Bool). is_some (item_at (opening_tables setting) table pos) || b) (sym (or-false (list_any (has_pair table pos) state.order)))
      ∙ ap (λ (b : Bool). is_some (item_at (opening_tables setting) table pos) || (list_any (has_pair table pos) state.order || b)) (sym held_after))))))
    where
      was_used : old.used ≡ true
      was_used =
          back.has.shown.place_shows.used_shows
          ∙ or_right (is_some (item_at (opening_tables setting) table pos)) (list_any (has_pair table pos) state.order || is_held setting state table pos)
          (or_right (list_any (has_pair table pos) state.order) (is_held setting state table pos) held_before)

  pub undone_shows : PlaceShows setting (gone_on state number later) core (sessions_on sessions number session then) table chunk pos new
  undone_shows = record {
    falls = falls_by_stamps back.has.rest new.chain (sym (stamps_left back))
        (let f : Falls (back.has.undo ∷ back.has.rest) =
        subst (λ (chain : List (Undo Image)). Falls chain) back.has.chain_is back.has.shown.place_shows.falls in f.1);
    own_heads = own_heads;
    times_are_writers = times_are_writers;
    last_writer_on_top = last_writer_on_top;
    viewer_sees = viewer_sees;
    newcomer_sees = newcomer_sees;
    used_shows = used_shows;
    death_shows = back.undone.death
        ∙ (back.has.shown.place_shows.death_shows
        ∙ ap (λ (n : ℕ). unwrap_or (last_some (emptied_at table pos) (take n core.entries)) 0) (sym same_counted));
  }
