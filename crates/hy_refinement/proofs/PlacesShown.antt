-- A free position to which a row comes shows the row.
use Rattle.std.proofs.Common.{◌≡◌, ℕ, ◌+◌, ◌-◌, ◌<◌, ◌≤◌, List, [], ◌∷◌, length, Option, None, Some, Bool, true, false, Contains}
use Rattle.std.proofs.Common.{refl, sym, ap, ◌∙◌, subst, arith, inl, inr, cond}
use Rattle.std.specs.Prelude.{slice_get, is_some, ◌||◌, unwrap_or, take, drop}
use Rattle.std.specs.List.{list_any}
use Rattle.std.proofs.lemmas.Bool.{cases_Bool, cases_lt, eq-eqb, ne_eqb, or_right}
use Rattle.std.proofs.lemmas.Option.{same_Some}
use Rattle.hy_value.specs.declared.Value.{Value}
use Rattle.hy_stamp.specs.declared.Label.{Label}
use Rattle.hy_stamp.specs.declared.Stamp.{Stamp}
use Rattle.hy_stamp.specs.declared.Viewer.{Viewer}
use Rattle.hy_stamp.specs.Times.{id_of}
use Rattle.hy_prune.specs.Fates.{watermark_of}
use Rattle.hy_chain.specs.Chains.{newest}
use Rattle.hy_undo.specs.Places.{Place, sees, cell_of, IsOther}
use Rattle.hy_undo.specs.Chunks.{Placed, is_own}
use Rattle.hy_journal.specs.declared.CoreData.{CoreData}
use Rattle.hy_journal.specs.declared.Entry.{Entry}
use Rattle.hy_event.specs.declared.SessionData.{SessionData}
use Rattle.hy_event.specs.declared.Open.{Open}
use Rattle.hy_event.specs.Sessions.{label_of, viewer_of}
use Rattle.hy_machine.specs.declared.Setting.{Setting}
use Rattle.hy_machine.specs.States.{State, Session, Open as MachineOpen}
use Rattle.hy_machine.specs.Tables.{Entry as Entered, opening_tables}
use Rattle.hy_machine.specs.Positions.{item_at, last_some}
use Rattle.hy_machine.specs.Sessions.{session_at, snapshot, view}
use Rattle.hy_machine.specs.Holding.{holds, is_held, has_pair}
use Rattle.hy_machine.specs.Kept.{at_work}
use Rattle.hy_refinement.specs.Stamped.{is_unstamped, is_unstamped_by, entries_counted}
use Rattle.hy_refinement.specs.Transactions.{IsOpen}
use Rattle.hy_refinement.specs.Sessions.{OpenShows}
use Rattle.hy_refinement.specs.Places.{OwnHead, IsOwnStamp, IsLastWriter, IsNewcomer, cell_held, is_used, emptied_at, PlaceShows}
use Rattle.hy_refinement.specs.Frames.{gone_on, went_on, sessions_on}
use Rattle.hy_refinement.proofs.Orders.{dropped_get, cell_stays}
use Rattle.hy_refinement.proofs.LastCells.{any_true}
use Rattle.hy_refinement.proofs.Holders.{is_there}
use Rattle.hy_refinement.proofs.RivalTops.{open_shown}
use Rattle.hy_refinement.proofs.Stamps.{nothing, first_newest}
use Rattle.hy_refinement.proofs.FramesOpened.{WasOpen, same as itself, stays as another, was_open, opens_here}
use Rattle.hy_refinement.proofs.WritesOpen.{unstamped_on}
use Rattle.hy_refinement.proofs.WritesTops.{falls_pushed}
use Rattle.hy_refinement.proofs.WritesPlace.{GoesOn}
use Rattle.hy_refinement.proofs.WritesChunk.{AtWork, fits}
use Rattle.hy_refinement.proofs.WritesViews.{held_is_view}
use Rattle.hy_refinement.proofs.PlacesAlone.{alike, IsFreeThere}

module _ (setting : Setting) (state : State) (core : CoreData) (sessions : List SessionData) (table chunk pos : ℕ)
    (number : ℕ) (session : SessionData) (now : Open) (current : MachineOpen)
    (work : AtWork setting state core sessions number session now current table chunk)
    (free : IsFreeThere setting state current.begun table pos) where
  -- ---- nobody wrote it since the low prefix

  not_since : (rank : ℕ) (entry : Entered) → current.begun.low ≤ rank → slice_get state.order rank ≡ Some entry → has_pair table pos entry ≡ false
  not_since rank entry le e = elim (cases_Bool (has_pair table pos entry)) [
    | inr none ↦ none
    | inl wrote ↦ absurd (
        let there : slice_get (drop current.begun.low state.order) (rank - current.begun.low) ≡ Some entry =
        dropped_get current.begun.low state.order (rank - current.begun.low)
        ∙ (ap (slice_get state.order) (let s : current.begun.low + (rank - current.begun.low) ≡ rank = omega (arith, le) in s) ∙ e) in
        let f = sym free.quiet ∙ any_true (has_pair table pos) (drop current.begun.low state.order) (rank - current.begun.low) entry there wrote in
        cc)
  ]

  -- from the low prefix on no row is there
  no_row : (prefix : ℕ) → current.begun.low ≤ prefix → prefix ≤ length state.order → item_at (snapshot setting state prefix) table pos ≡ None
  no_row prefix le within =
      cell_stays setting state table pos current.begun.low prefix le within (λ rank entry l m e. not_since rank entry l e) ∙ free.empty

  -- an open transaction began at the low prefix or later
  low_below : (other : ℕ) (present : MachineOpen) → (session_at state other).now ≡ Some present → current.begun.low ≤ present.begun.prefix
  low_below other present there =
      work.kept.lows_lie_low other present there present.begun.prefix (omega arith) current.begun (at_work number current work.is_open.open_there)

  prefix_within : (other : ℕ) (present : MachineOpen) → (session_at state other).now ≡ Some present → present.begun.prefix ≤ length state.order
  prefix_within other present there = (work.kept.starts.opens other present there).1

  nobody_holds : (other : ℕ) (present : MachineOpen) → (session_at state other).now ≡ Some present → holds setting table pos (Some present) ≡ false
  nobody_holds other present there = elim (cases_Bool (holds setting table pos (Some present))) [
    | inr none ↦ none
    | inl held ↦ absurd (
        let e = sym free.nobody ∙ any_true (λ (one : Session). holds setting table pos one.now) state.sessions other (session_at state other)
        (is_there state other present there) (ap (holds setting table pos) there ∙ held) in
        cc)
  ]

  -- the entries that count reach at least to the low prefix
  low_counted : current.begun.low ≤ entries_counted setting state table chunk
  low_counted = by_mark state.mark refl
    where
      starts : (current.begun.low ≤ current.begun.prefix) × (current.begun.prefix ≤ length state.order)
      starts = work.kept.starts.opens number current work.is_open.open_there

      by_mark : (mark : Option ℕ) → state.mark ≡ mark
          → current.begun.low ≤ (cond (is_unstamped_by setting state mark table chunk) (length state.order - 1) (length state.order))
      by_mark None e = let a = starts.0 in let b = starts.1 in omega (arith, a, b)
      by_mark (Some marked) e = by_stamp (is_unstamped_by setting state (Some marked) table chunk)
        where
          since : current.begun.prefix < length state.order
          since = work.kept.none_began_since marked e number current work.is_open.open_there

          by_stamp : (b : Bool) → current.begun.low ≤ (cond b (length state.order - 1) (length state.order))
          by_stamp true = let a = starts.0 in omega (arith, a, since)
          by_stamp false = let a = starts.0 in omega (arith, a, since)

  counted_within : entries_counted setting state table chunk ≤ length state.order
  counted_within = by_stamp (is_unstamped setting state table chunk)
    where
      by_stamp : (b : Bool) → (cond b (length state.order - 1) (length state.order)) ≤ length state.order
      by_stamp true = omega arith
      by_stamp false = omega arith

  -- it sees no row there
  pub view_empty : item_at (view setting state current.begun) table pos ≡ None
  view_empty =
      sym (held_is_view setting state current table pos (fits setting state core sessions number session now current table chunk work) work.working)
      ∙ (ap (λ (b : Bool). cond b (item_at (view setting state current.begun) table pos) (item_at (snapshot setting state current.begun.prefix) table pos))
      (nobody_holds number current work.is_open.open_there)
      ∙ no_row current.begun.prefix (low_below number current work.is_open.open_there) (prefix_within number current work.is_open.open_there))

  module _ (old new : Place) (then : Open) (later : MachineOpen) (row : List Value)
      (shows : PlaceShows setting state core sessions table chunk pos old)
      (goes : GoesOn setting state sessions table pos number session now then current later)
      (view_is : item_at (view setting state later.begun) table pos ≡ Some row)
      (placed : Placed (viewer_of session now) (label_of session) (watermark_of now.cover) row old new) where
    abbrev id : ℕ
    id = id_of (label_of session)

    abbrev mine : Stamp
    mine = record { owner = label_of session; mark = id }

    abbrev state_on : State
    state_on = gone_on state number later

    abbrev on : List SessionData
    on = sessions_on sessions number session then

    abbrev counted : ℕ
    counted = entries_counted setting state table chunk

    shows_open : OpenShows setting state core number now current
    shows_open = open_shown setting state core sessions number session now current work.sessions_show work.is_open

    -- ---- what stays of the state

    unstamped : is_unstamped setting state_on table chunk ≡ is_unstamped setting state table chunk
    unstamped = unstamped_on setting state number later table chunk work.unmarked

    same_counted : entries_counted setting state_on table chunk ≡ counted
    same_counted = ap (λ (b : Bool). cond b (length state.order - 1) (length state.order)) unstamped

    itself_on : IsOpen state_on on number (went_on session then) then later
    itself_on = opens_here state sessions number session now then current later work.is_open

    was : (other : ℕ) (one : SessionData) (there : Open) (present : MachineOpen) → IsOpen state_on on other one there present
        → WasOpen state sessions number session then later other one there present
    was = was_open state sessions number session now then current later work.is_open

    -- ---- what others see

    start_below : now.start < core.next
    start_below = work.core_shows.times_apart.starts number session now current work.is_open

    abbrev newcomer : Viewer
    newcomer = record { id = core.next; start = core.next }

    newcomer_is : IsNewcomer state core sessions newcomer
    newcomer_is = record {
      start = refl;
      id = omega arith;
      new = λ other another there present is e. absurd (let ids = work.below_ids in omega (arith, e, ids));
    }

    newcomer_other : IsOther id newcomer
    newcomer_other = record {
      other = λ e. absurd (let ids = work.below_ids in omega (arith, e, ids));
      start = let ids = work.below_ids in omega (arith, ids);
    }

    -- no row
    others_see : (viewer : Viewer) → IsOther id viewer → sees viewer new ≡ None
    others_see viewer is =
        ap cell_of (alike new.version new.chain mine placed.stamps viewer newcomer is newcomer_other)
        ∙ (placed.others newcomer newcomer_other (let low = shows_open.cover_holds.below in omega (arith, low, start_below))
        ∙ (shows.newcomer_sees newcomer newcomer_is
        ∙ no_row counted low_counted counted_within))

    -- ---- the sentences

    own_newest : newest new.chain ≡ Some mine
    own_newest = first_newest new.chain mine [] placed.stamps

    own_head : (other : ℕ) (one : SessionData) (there : Open) (present : MachineOpen) → WasOpen state sessions number session then later other one there present
        → OwnHead setting table pos new one present
    own_head other one there present (itself same one_is there_is present_is) =
        let label : label_of one ≡ label_of session = ap label_of one_is in
        record {
          holds_it = ap (λ (l : Label). is_own (id_of l) (newest new.chain)) label ∙ (ap (is_own id) own_newest
              ∙ (eq-eqb id id refl ∙ sym (ap (λ (c : MachineOpen). holds setting table pos (Some c)) present_is ∙ goes.holds_it)));
          owner = λ stamp e mark. ap (λ (s : Stamp). s.owner) (same_Some stamp mine (sym e ∙ own_newest)) ∙ sym label;
        }
    own_head other one there present (another apart open') =
        let unlike : (id ≡ id_of (label_of one) → ⊥) = work.ids_apart other one there present apart open' in
        record {
          holds_it = ap (is_own (id_of (label_of one))) own_newest ∙ (ne_eqb id (id_of (label_of one)) unlike
              ∙ sym (nobody_holds other present open'.open_there));
          owner = λ stamp e mark. absurd (unlike (ap (λ (s : Stamp). s.mark) (same_Some mine stamp (sym own_newest ∙ e)) ∙ mark));
        }

    own_stamp : (stamp : Stamp) → stamp ≡ mine → IsOwnStamp setting state_on on table chunk stamp
    own_stamp stamp e = record {
      number = number;
      session = went_on session then;
      now = then;
      current = later;
      is_open = itself_on;
      not_stamped = inl work.unmarked;
      mark_is = ap (λ (s : Stamp). s.mark) e;
    }

    -- the last writer's time is above no open start
    early : (rank : ℕ) (entered : Entered) (entry : Entry) → IsLastWriter setting state_on table chunk pos rank entered
        → slice_get core.entries rank ≡ Some entry
        → (other : ℕ) (one : SessionData) (there : Open) (present : MachineOpen) → IsOpen state sessions other one there present
        → there.start < entry.time → ⊥
    early rank entered entry last has other one there present open' less = elim (cases_lt rank current.begun.low) [
      | inr late ↦ absurd (let e = sym (not_since rank entered late last.stands) ∙ last.wrote in cc)
      | inl before ↦ absurd (
          let open_there = open_shown setting state core sessions other one there present work.sessions_show open' in
          let low = low_below other present open'.open_there in
          let prefix = open_there.open_shows.prefix in
          let time = open_there.prefix_counts.early rank entry has (omega (arith, before, low, prefix)) in
          omega (arith, time, less))
    ]

    no_last : (rank : ℕ) (entered : Entered) (entry : Entry) → IsLastWriter setting state_on table chunk pos rank entered
        → slice_get core.entries rank ≡ Some entry
        → (other : ℕ) (one : SessionData) (there : Open) (present : MachineOpen) → WasOpen state sessions number session then later other one there present
        → there.start < entry.time → ⊥
    no_last rank entered entry last has other one there present (itself same one_is there_is present_is) less =
        let at = ap (λ (n : Open). n.start) there_is in
        let start = goes.start in
        early rank entered entry last has number session now current work.is_open (omega (arith, at, start, less))
    no_last rank entered entry last has other one there present (another apart open') less =
        early rank entered entry last has other one there present open' less

    viewer_sees : (other : ℕ) (one : SessionData) (there : Open) (present : MachineOpen) → WasOpen state sessions number session then later other one there present
        → sees (viewer_of one there) new ≡ cell_held setting state_on table pos present
    viewer_sees other one there present (itself same one_is there_is present_is) =
        ap (λ (s : ℕ). sees (record { id = id_of (label_of one); start = s }) new) (ap (λ (n : Open). n.start) there_is ∙ goes.start)
        ∙ (ap (λ (l : Label). sees (record { id = id_of l; start = now.start }) new) (ap label_of one_is)
        ∙ (placed.own ∙ (sym view_is ∙ (sym (ap (λ (b : Bool). cond b (item_at (view setting state later.begun) table pos) (item_at
        (snapshot setting state later.begun.prefix) table pos)) goes.holds_it)
        ∙ sym (ap (λ (c : MachineOpen). cell_held setting state_on table pos c) present_is)))))
    viewer_sees other one there present (another apart open') =
        let start = work.core_shows.times_apart.starts other one there present open' in
        let ids = work.below_ids in
        others_see (viewer_of one there) (record { other = work.ids_apart other one there present apart open'; start = omega (arith, start, ids) })
        ∙ sym (ap (λ (b : Bool). cond b (item_at (view setting state present.begun) table pos) (item_at
        (snapshot setting state present.begun.prefix) table pos)) (nobody_holds other present open'.open_there)
        ∙ no_row present.begun.prefix (low_below other present open'.open_there) (prefix_within other present open'.open_there))

    newcomer_sees : (viewer : Viewer) → IsNewcomer state_on core on viewer
        → sees viewer new ≡ item_at (snapshot setting state_on (entries_counted setting state_on table chunk)) table pos
    newcomer_sees viewer is =
        others_see viewer (record {
          other = is.new number (went_on session then) then later itself_on;
          start = let start = is.start in let ids = work.below_ids in omega (arith, start, ids);
        })
        ∙ (sym (no_row counted low_counted counted_within)
        ∙ ap (λ (n : ℕ). item_at (snapshot setting state n) table pos) (sym same_counted))

    held_on : is_held setting state_on table pos ≡ true
    held_on =
        any_true (λ (one : Session). holds setting table pos one.now) state_on.sessions number (session_at state_on number)
        (is_there state_on number later itself_on.open_there)
        (ap (holds setting table pos) itself_on.open_there ∙ goes.holds_it)

    used_on : is_used setting state_on table pos ≡ true
    used_on =
        or_right (is_some (item_at (opening_tables setting) table pos)) (list_any (has_pair table pos) state.order || is_held setting state_on table pos)
        (or_right (list_any (has_pair table pos) state.order) (is_held setting state_on table pos) held_on)

    pub placed_shows : PlaceShows setting state_on core on table chunk pos new
    placed_shows = record {
      falls = falls_pushed [] new.chain mine placed.stamps tt (λ other c. absurd (nothing other c));
      own_heads = λ other one there present open' unstamped'. own_head other one there present (was other one there present open');
      times_are_writers = record {
        top = λ stamp rest e. inl (own_stamp stamp (let both : mine ∷ [] ≡ stamp ∷ rest = sym placed.stamps ∙ e in (cc)));
        behind = λ stamp rest e other c. absurd (nothing other (subst (λ (xs : List Stamp). Contains xs other)
            (let both : mine ∷ [] ≡ stamp ∷ rest = sym placed.stamps ∙ e in let none : rest ≡ [] = cc in none) c));
      };
      last_writer_on_top = λ rank entered entry last has other one there present open' less.
          absurd (no_last rank entered entry last has other one there present (was other one there present open') less);
      viewer_sees = λ other one there present open' unstamped'. viewer_sees other one there present (was other one there present open');
      newcomer_sees = newcomer_sees;
      used_shows = placed.used ∙ sym used_on;
      death_shows = placed.death ∙ (shows.death_shows
          ∙ ap (λ (n : ℕ). unwrap_or (last_some (emptied_at table pos) (take n core.entries)) 0) (sym same_counted));
    }
