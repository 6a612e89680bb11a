-- A position is free by the watermark exactly where it is free in the machine.
use Rattle.std.proofs.Common.{◌≡◌, ◌⊎◌, ℕ, ◌+◌, ◌-◌, ◌<◌, ◌≤◌, List, [], ◌∷◌, length, drop, None, Some, Bool, true}
use Rattle.std.proofs.Common.{false, not, refl, sym, ap, ◌∙◌, arith, inl, inr, cond}
use Rattle.std.specs.Prelude.{slice_get, is_some, ◌||◌, ◌&&◌, nat_lt, ◌==◌}
use Rattle.std.specs.List.{list_any}
use Rattle.std.proofs.lemmas.Bool.{cases_Bool, cases_lt, cases_eq, lt-ltb, le-ltb, or_right}
use Rattle.std.proofs.lemmas.List.{take_all}
use Rattle.std.proofs.lemmas.Option.{get_or_from_slice_get}
use Rattle.hy_stamp.specs.declared.Label.{Label}
use Rattle.hy_stamp.specs.declared.Stamp.{Stamp}
use Rattle.hy_stamp.specs.declared.Viewer.{Viewer}
use Rattle.hy_stamp.specs.Times.{id_of}
use Rattle.hy_prune.specs.Fates.{watermark_of}
use Rattle.hy_chain.specs.Chains.{Undo, newest, seen, rival}
use Rattle.hy_undo.specs.declared.version.Version.{Version}
use Rattle.hy_undo.specs.Images.{Image, before}
use Rattle.hy_undo.specs.Places.{Place, sees, cell_of, is_older, is_free}
use Rattle.hy_journal.specs.declared.CoreData.{CoreData}
use Rattle.hy_journal.specs.declared.Entry.{Entry as Noted}
use Rattle.hy_event.specs.declared.SessionData.{SessionData}
use Rattle.hy_event.specs.declared.Open.{Open}
use Rattle.hy_event.specs.Sessions.{viewer_of, label_of as label_here}
use Rattle.hy_machine.specs.declared.Setting.{Setting}
use Rattle.hy_machine.specs.States.{State, Session, Open as MachineOpen}
use Rattle.hy_machine.specs.Tables.{Entry, Cell, history, opening_tables}
use Rattle.hy_machine.specs.Positions.{item_at}
use Rattle.hy_machine.specs.Sessions.{fresh, session_at, snapshot}
use Rattle.hy_machine.specs.Holding.{holds, is_held, has_pair, is_free as is_free_there}
use Rattle.hy_refinement.specs.Stamped.{entries_counted}
use Rattle.hy_refinement.specs.Transactions.{IsOpen}
use Rattle.hy_refinement.specs.Sessions.{OpenShows}
use Rattle.hy_refinement.specs.Rivals.{ShownAt}
use Rattle.hy_refinement.specs.Free.{HasPosition, FreeIsTheMachines}
use Rattle.hy_refinement.proofs.Orders.{IsLastOf, last_or_none, dropped_get, cell_stays}
use Rattle.hy_refinement.proofs.LastCells.{any_at, any_true, any_false}
use Rattle.hy_refinement.proofs.Holders.{holder_open, is_there}
use Rattle.hy_refinement.proofs.RivalTops.{own_top, top_or_none, open_shown, has_entry, NoneOwn, writer_top}
use Rattle.hy_refinement.proofs.Deaths.{death_by_last}
use Rattle.hy_refinement.proofs.Rivals.{held_by_other, top_holds, writer_counts}

-- ---- the two tests

abbrev free_here : Bool → Bool → Bool → Bool → Bool
free_here used live older dead = not used || (not live && (older && dead))

abbrev free_there : Bool → Bool → Bool → Bool
free_there held row wrote = not held && not row && not wrote

-- where one of the reasons is false, a used position isn't free
not_free : (used live older dead : Bool) → used ≡ true → (live ≡ true) ⊎ ((older ≡ false) ⊎ (dead ≡ false)) → free_here used live older dead ≡ false
not_free false live older dead u why = absurd cc
not_free true true older dead u why = refl
not_free true false false dead u why = refl
not_free true false true false u why = refl
not_free true false true true u why = elim why [ inl e ↦ absurd cc | inr others ↦ elim others [ inl e ↦ absurd cc | inr e ↦ absurd cc ] ]

not_free_there : (held row wrote : Bool) → (held ≡ true) ⊎ ((row ≡ true) ⊎ (wrote ≡ true)) → free_there held row wrote ≡ false
not_free_there true row wrote why = refl
not_free_there false true wrote why = refl
not_free_there false false true why = refl
not_free_there false false false why = elim why [ inl e ↦ absurd cc | inr others ↦ elim others [ inl e ↦ absurd cc | inr e ↦ absurd cc ] ]

free_if : (used live older dead : Bool) → (used ≡ true → (live ≡ false) × ((older ≡ true) × (dead ≡ true))) → free_here used live older dead ≡ true
free_if false live older dead why = refl
free_if true true older dead why = absurd (let w = why refl in let e = w.0 in cc)
free_if true false false dead why = absurd (let w = why refl in let e = w.1.0 in cc)
free_if true false true false why = absurd (let w = why refl in let e = w.1.1 in cc)
free_if true false true true why = refl

free_there_if : (held row wrote : Bool) → held ≡ false → row ≡ false → wrote ≡ false → free_there held row wrote ≡ true
free_there_if true row wrote h r w = absurd cc
free_there_if false true wrote h r w = absurd cc
free_there_if false false true h r w = absurd cc
free_there_if false false false h r w = refl

or_three : (a b c : Bool) → (a ≡ true) ⊎ ((b ≡ true) ⊎ (c ≡ true)) → (a || (b || c)) ≡ true
or_three true b c why = refl
or_three false true c why = refl
or_three false false true why = refl
or_three false false false why = elim why [ inl e ↦ absurd cc | inr others ↦ elim others [ inl e ↦ absurd cc | inr e ↦ absurd cc ] ]

some_or_none : (cell : Cell) → (is_some cell ≡ true) ⊎ (cell ≡ None)
some_or_none None = inr refl
some_or_none (Some row) = inl refl

-- a rival's mark is not older than a watermark up to the start
rival_is_late : (viewer : Viewer) (chain : List (Undo Image)) (label : Label) (watermark : ℕ) → rival viewer chain ≡ Some label → watermark ≤ viewer.start
    → is_older watermark (newest chain) ≡ false
rival_is_late viewer [] label watermark e low = absurd cc
rival_is_late viewer (undo ∷ chain) label watermark e low = elim (cases_lt undo.stamp.mark viewer.start) [
  | inl early ↦ absurd (let f : rival viewer (undo ∷ chain) ≡ None = ap (λ (b : Bool). cond b None (Some undo.stamp.owner))
      (or_right (undo.stamp.mark == viewer.id) (nat_lt undo.stamp.mark viewer.start) (lt-ltb undo.stamp.mark viewer.start early)) in let g = sym f ∙ e in cc)
  | inr late ↦ le-ltb undo.stamp.mark watermark (omega (arith, late, low))
]

pub live_is : (version : Version) → is_some (cell_of version) ≡ version.live
live_is version = by_live version.live
  where
    by_live : (live : Bool) → is_some (cond live (Some version.row) None) ≡ live
    by_live true = refl
    by_live false = refl

-- a viewer that the newest record stops sees what is in place
pub stopped : (viewer : Viewer) (version : Version) (chain : List (Undo Image)) → ((stamp : Stamp) → newest chain ≡ Some stamp → stamp.mark < viewer.start)
    → seen before viewer version chain ≡ version
stopped viewer version [] early = refl
stopped viewer version (undo ∷ chain) early =
    ap (λ (b : Bool). cond b version (seen before viewer (before undo.image version) chain))
    (or_right (undo.stamp.mark == viewer.id) (nat_lt undo.stamp.mark viewer.start) (lt-ltb undo.stamp.mark viewer.start (early undo.stamp refl)))

module _ (setting : Setting) (state : State) (core : CoreData) (sessions : List SessionData) (table chunk pos : ℕ) (place : Place)
    (shown : ShownAt setting state core sessions table chunk pos place) (has : HasPosition (opening_tables setting) table pos)
    (number : ℕ) (session : SessionData) (now : Open) (current : MachineOpen) (is : IsOpen state sessions number session now current)
    (unmarked : state.mark ≡ Some number → ⊥) where
  abbrev watermark : ℕ
  watermark = watermark_of now.cover

  abbrev row : Bool
  row = is_some (item_at (snapshot setting state current.begun.low) table pos)

  abbrev wrote : Bool
  wrote = list_any (has_pair table pos) (drop current.begun.low state.order)

  shows : OpenShows setting state core number now current
  shows = open_shown setting state core sessions number session now current shown.sessions_show is

  used_if : ((is_some (item_at (opening_tables setting) table pos) ≡ true) ⊎
      ((list_any (has_pair table pos) state.order ≡ true) ⊎ (is_held setting state table pos ≡ true)))
      → place.used ≡ true
  used_if why = shown.place_shows.used_shows
      ∙ or_three (is_some (item_at (opening_tables setting) table pos)) (list_any (has_pair table pos) state.order) (is_held setting state table pos) why

  -- ---- somebody holds it

  held_older : (other : ℕ) → holds setting table pos (session_at state other).now ≡ true → is_older watermark (newest place.chain) ≡ false
  held_older other held =
      let low : watermark ≤ now.start = shows.cover_holds.below in
      elim (cases_eq other number) [
        | inl same ↦
            let mine : holds setting table pos (Some current) ≡ true =
            sym (ap (λ (n : ℕ). holds setting table pos (session_at state n).now) same ∙ ap (holds setting table pos) is.open_there) ∙ held in
            let head = shown.place_shows.own_heads number session now current is (inl unmarked) in
            let top = own_top (id_of (label_here session)) (newest place.chain) (head.holds_it ∙ mine) in
            let mark = top.1.1 in
            let early = shown.core_shows.times_apart.starts number session now current is in
            let ids = shown.below_ids in
            ap (is_older watermark) top.1.0 ∙ le-ltb top.0.mark watermark (omega (arith, mark, early, ids, low))
        | inr apart ↦
            let there = holder_open setting table pos (session_at state other).now held in
            rival_is_late (viewer_of session now) place.chain _ watermark
            (held_by_other setting state core sessions table chunk pos place shown number session now current is unmarked other there.0 apart there.1
            (sym (ap (holds setting table pos) there.1) ∙ held)) low
      ]

  held_case : is_held setting state table pos ≡ true → is_free watermark place ≡ is_free_there setting state current.begun table pos
  held_case held =
      let one = any_at (λ (each : Session). holds setting table pos each.now) state.sessions held in
      let at : holds setting table pos (session_at state one.0).now ≡ true =
      ap (λ (each : Session). holds setting table pos each.now) (get_or_from_slice_get state.sessions one.0 one.1.0 fresh one.1.1.0) ∙ one.1.1.1 in
      not_free place.used place.version.live (is_older watermark (newest place.chain)) (nat_lt place.death watermark) (used_if (inr (inr held))) (inr
      (inl (held_older one.0 at)))
      ∙ sym (not_free_there (is_held setting state table pos) row wrote (inl held))

  -- ---- nobody holds it

  module _ (free : is_held setting state table pos ≡ false) where
    nobody_holds : (other : ℕ) → holds setting table pos (session_at state other).now ≡ true → ⊥
    nobody_holds other held =
        let there = holder_open setting table pos (session_at state other).now held in
        absurd (let e = sym free ∙ any_true (λ (each : Session). holds setting table pos each.now) state.sessions other (session_at state other)
        (is_there state other there.0 there.1) held in cc)

    none_own : NoneOwn setting state sessions table chunk place
    none_own stamp e own = nobody_holds own.number (top_holds setting state core sessions table chunk pos place shown stamp e own)

    counts : (rank : ℕ) (entry : Entry) → slice_get state.order rank ≡ Some entry → has_pair table pos entry ≡ true
        → rank < entries_counted setting state table chunk
    counts = writer_counts setting state table chunk pos shown.kept nobody_holds

    abbrev last_cell : Cell
    last_cell = item_at (snapshot setting state (length state.order)) table pos

    -- what is in place is what the whole order leaves
    in_place_live : place.version.live ≡ is_some last_cell
    in_place_live =
        let viewer : Viewer = record { id = core.next; start = core.next } in
        let newcomer = shown.place_shows.newcomer_sees viewer (record {
          start = refl;
          id = omega arith;
          new = λ other another then present open' e. absurd (let ids = shown.below_ids in omega (arith, e, ids));
        }) in
        let stops_there : sees viewer place ≡ cell_of place.version = ap cell_of (stopped viewer place.version place.chain (λ stamp e.
        let w = writer_top setting state core sessions table chunk pos place shown none_own stamp e in
        let mark = w.mark_is in
        let below = shown.core_shows.times_apart.times w.rank w.entry w.has in
        omega (arith, mark, below))) in
        sym (live_is place.version) ∙ ap is_some (sym stops_there ∙ (newcomer ∙ sym all_count))
      where
        all_count : last_cell ≡ item_at (snapshot setting state (entries_counted setting state table chunk)) table pos
        all_count = elim (cases_lt (length state.order) (entries_counted setting state table chunk)) [
          | inl more ↦ ap (λ (order : List Entry). item_at (history (opening_tables setting) order) table pos)
              (take_all (length state.order) state.order (omega arith) ∙ sym
              (take_all (entries_counted setting state table chunk) state.order (omega (arith, more))))
          | inr few ↦ cell_stays setting state table pos (entries_counted setting state table chunk) (length state.order) few (omega arith)
              (λ rank entry l m e.
              elim (cases_Bool (has_pair table pos entry)) [
                | inr no' ↦ no'
                | inl yes' ↦ let c = counts rank entry e yes' in absurd (omega (arith, l, c))
              ])
        ]

    -- the last writer, where it left no row, gives the death time
    death_is : (last : IsLastOf (has_pair table pos) state.order) → last_cell ≡ None → (entry : Noted) → slice_get core.entries last.rank ≡ Some entry
        → place.death ≡ entry.time
    death_is last gone entry stands =
        shown.place_shows.death_shows
        ∙ death_by_last setting state core sessions table chunk pos shown.core_shows.entries_show has last
        (counts last.rank last.item last.stands last.passes) gone entry stands

    -- an entry from the low prefix on wrote it
    wrote_case : IsLastOf (has_pair table pos) (drop current.begun.low state.order)
        → is_free watermark place ≡ is_free_there setting state current.begun table pos
    wrote_case found =
        let low : ℕ = current.begun.low in
        let stands : slice_get state.order (low + found.rank) ≡ Some found.item = sym (dropped_get low state.order found.rank) ∙ found.stands in
        let last : IsLastOf (has_pair table pos) state.order = record {
          rank = low + found.rank;
          item = found.item;
          stands = stands;
          passes = found.passes;
          last = λ other later less e. found.last (other - low) later (omega (arith, less))
              (dropped_get low state.order (other - low) ∙ (ap (slice_get state.order) (let s : low + (other - low) ≡ other = omega (arith, less) in s) ∙ e));
        } in
        let entry = has_entry setting state core sessions table chunk pos place shown (low + found.rank) found.item stands in
        not_free place.used place.version.live (is_older watermark (newest place.chain)) (nat_lt place.death watermark)
        (used_if (inr (inl (any_true (has_pair table pos) state.order (low + found.rank) found.item stands found.passes))))
        (elim (some_or_none last_cell) [
          | inl some ↦ inl (in_place_live ∙ some)
          | inr gone ↦ inr (inr (
              let death = death_is last gone entry.0 entry.1 in
              let late : watermark ≤ entry.0.time = shows.low_counts.late (low + found.rank) entry.0 entry.1 (omega arith) in
              le-ltb place.death watermark (omega (arith, death, late))
              ))
        ])
        ∙ sym (not_free_there (is_held setting state table pos) row wrote
        (inr (inr (any_true (has_pair table pos) (drop low state.order) found.rank found.item found.stands found.passes))))

    -- no entry from the low prefix on wrote it
    quiet_case : ((k : ℕ) (entry : Entry) → slice_get (drop current.begun.low state.order) k ≡ Some entry → has_pair table pos entry ≡ false)
        → is_free watermark place ≡ is_free_there setting state current.begun table pos
    quiet_case quiet =
        elim (some_or_none (item_at (snapshot setting state current.begun.low) table pos)) [
          | inl some ↦
              not_free place.used place.version.live (is_older watermark (newest place.chain)) (nat_lt place.death watermark)
              (used_row (ap is_some same ∙ some)) (inl (in_place_live ∙ (ap is_some same ∙ some)))
              ∙ sym (not_free_there (is_held setting state table pos) row wrote (inr (inl some)))
          | inr gone ↦
              free_if place.used place.version.live (is_older watermark (newest place.chain)) (nat_lt place.death watermark)
              (λ used. (in_place_live ∙ ap is_some (same ∙ gone), (older, dead (same ∙ gone) used)))
              ∙ sym (free_there_if (is_held setting state table pos) row wrote free (ap is_some gone)
              (any_false (has_pair table pos) (drop current.begun.low state.order) quiet))
        ]
      where
        low : ℕ
        low = current.begun.low

        not_since : (rank : ℕ) (entry : Entry) → low ≤ rank → slice_get state.order rank ≡ Some entry → has_pair table pos entry ≡ false
        not_since rank entry le e = quiet (rank - low) entry
            (dropped_get low state.order (rank - low) ∙ (ap (slice_get state.order) (let s : low + (rank - low) ≡ rank = omega (arith, le) in s) ∙ e))

        low_within : low ≤ length state.order
        low_within = let starts = shown.kept.starts.opens number current is.open_there in let a = starts.0 in let b = starts.1 in omega (arith, a, b)

        same : last_cell ≡ item_at (snapshot setting state low) table pos
        same = cell_stays setting state table pos low (length state.order) low_within (omega arith) (λ rank entry l m e. not_since rank entry l e)

        -- where nobody wrote it, it has its first row
        first_cell : list_any (has_pair table pos) state.order ≡ false → last_cell ≡ item_at (opening_tables setting) table pos
        first_cell none = cell_stays setting state table pos 0 (length state.order) (omega arith) (omega arith) (λ rank entry l m e.
            elim (cases_Bool (has_pair table pos entry)) [
              | inr no' ↦ no'
              | inl yes' ↦ absurd (let f = sym none ∙ any_true (has_pair table pos) state.order rank entry e yes' in cc)
            ])

        used_row : is_some last_cell ≡ true → place.used ≡ true
        used_row some = elim (cases_Bool (list_any (has_pair table pos) state.order)) [
          | inl some_wrote ↦ used_if (inr (inl some_wrote))
          | inr none ↦ used_if (inl (ap is_some (sym (first_cell none)) ∙ some))
        ]

        older : is_older watermark (newest place.chain) ≡ true
        older = elim (top_or_none (newest place.chain)) [
          | inl empty ↦ ap (is_older watermark) empty
          | inr one ↦
              let w = writer_top setting state core sessions table chunk pos place shown none_own one.0 one.1 in
              let mark = w.mark_is in
              ap (is_older watermark) one.1 ∙ elim (cases_lt w.rank low) [
                | inl early ↦ let e = shows.low_counts.early w.rank w.entry w.has early in lt-ltb one.0.mark watermark (omega (arith, mark, e))
                | inr late ↦ absurd (let e = sym (not_since w.rank w.entered late w.stands) ∙ w.wrote in cc)
              ]
        ]

        dead : last_cell ≡ None → place.used ≡ true → nat_lt place.death watermark ≡ true
        dead gone used = elim (last_or_none (has_pair table pos) state.order) [
          | inl none ↦ absurd (
              let quiet_order = any_false (has_pair table pos) state.order none in
              let first : is_some (item_at (opening_tables setting) table pos) ≡ false = ap is_some (sym (first_cell quiet_order) ∙ gone) in
              let f : place.used ≡ false = shown.place_shows.used_shows ∙ none_of (is_some (item_at (opening_tables setting) table pos)) (list_any
              (has_pair table pos) state.order) (is_held setting state table pos) first quiet_order free in
              let g = sym used ∙ f in cc)
          | inr last ↦
              let entry = has_entry setting state core sessions table chunk pos place shown last.rank last.item last.stands in
              let death = death_is last gone entry.0 entry.1 in
              elim (cases_lt last.rank low) [
                | inl early ↦ let e = shows.low_counts.early last.rank entry.0 entry.1 early in lt-ltb place.death watermark (omega (arith, death, e))
                | inr late ↦ absurd (let e = sym (not_since last.rank last.item late last.stands) ∙ last.passes in cc)
              ]
        ]
          where
            none_of : (a b c : Bool) → a ≡ false → b ≡ false → c ≡ false → (a || (b || c)) ≡ false
            none_of true b c h k l = absurd cc
            none_of false true c h k l = absurd cc
            none_of false false true h k l = absurd cc
            none_of false false false h k l = refl

    free_case : is_free watermark place ≡ is_free_there setting state current.begun table pos
    free_case = elim (last_or_none (has_pair table pos) (drop current.begun.low state.order)) [
      | inl quiet ↦ quiet_case quiet
      | inr found ↦ wrote_case found
    ]

  by_held : is_free watermark place ≡ is_free_there setting state current.begun table pos
  by_held = elim (cases_Bool (is_held setting state table pos)) [
    | inl held ↦ held_case held
    | inr free ↦ free_case free
  ]

pub free_is : FreeIsTheMachines
free_is setting state core sessions table chunk pos place shown has number session now current is unmarked =
    by_held setting state core sessions table chunk pos place shown has number session now current is unmarked
