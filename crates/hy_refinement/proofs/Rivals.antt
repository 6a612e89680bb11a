-- The newest record of a position names the machine's opponent.
use Rattle.std.proofs.Common.{◌≡◌, ◌⊎◌, ℕ, ◌+◌, ◌-◌, ◌<◌, List, length, drop, Option, None, Some, Bool, true, false, refl}
use Rattle.std.proofs.Common.{sym, ap, ◌∙◌, subst, arith, inl, inr, cond}
use Rattle.std.specs.Prelude.{slice_get, is_some}
use Rattle.std.specs.Option.{option_or}
use Rattle.std.proofs.lemmas.Bool.{cases_Bool, cases_lt, cases_eq, eq-eqb, and_from, and_parts}
use Rattle.std.proofs.lemmas.Option.{same_Some, slice_get_within, get_or_from_slice_get}
use Rattle.hy_value.specs.declared.Value.{Value}
use Rattle.hy_stamp.specs.declared.Label.{Label}
use Rattle.hy_stamp.specs.declared.Stamp.{Stamp}
use Rattle.hy_stamp.specs.Times.{id_of}
use Rattle.hy_chain.specs.Chains.{newest, rival}
use Rattle.hy_undo.specs.Places.{Place}
use Rattle.hy_undo.specs.Chunks.{is_own}
use Rattle.hy_journal.specs.declared.CoreData.{CoreData}
use Rattle.hy_event.specs.declared.SessionData.{SessionData}
use Rattle.hy_event.specs.declared.Open.{Open}
use Rattle.hy_event.specs.Sessions.{viewer_of, label_of as label_here}
use Rattle.hy_machine.specs.declared.Setting.{Setting}
use Rattle.hy_protocol.specs.declared.Phase.{Phase}
use Rattle.hy_protocol.specs.declared.Phase.TheVariants.{Working, Stamping, Undoing}
use Rattle.hy_protocol.specs.Turns.{is_stamping}
use Rattle.hy_machine.specs.States.{State, Session, Open as MachineOpen}
use Rattle.hy_machine.specs.Tables.{Entry, Cell, chunk_of}
use Rattle.hy_machine.specs.Positions.{item_at, last_some}
use Rattle.hy_machine.specs.Writes.{written_chunks, is_among}
use Rattle.hy_machine.specs.Sessions.{fresh, session_at, label_of, snapshot, view, pair_of}
use Rattle.hy_machine.specs.Holding.{holds, holder_from, has_pair, changer_at, undone}
use Rattle.hy_refinement.specs.Stamped.{HasNotStamped, is_unstamped, entries_counted, is_unstamped_by}
use Rattle.hy_refinement.specs.Transactions.{IsOpen}
use Rattle.hy_refinement.specs.Places.{IsOwnStamp}
use Rattle.hy_machine.specs.Kept.{Kept, entered}
use Rattle.hy_refinement.specs.Rivals.{ShownAt, RivalsAreOpponents}
use Rattle.hy_machine.specs.WrittenPlaces.{own_among}
use Rattle.hy_refinement.proofs.Orders.{IsLastOf, last_or_none, last_some_none, last_some_at, dropped_get, changes_none, changes_some}
use Rattle.hy_refinement.proofs.Holders.{Holder, nobody, somebody, holder_cases, holder_open, is_there, Opened, opened, same_label, stamped_or_not}
use Rattle.hy_refinement.proofs.RivalTops.{rival_late, rival_own, own_top, NoneOwn, rival_of_writer, rival_none}
use Rattle.hy_refinement.proofs.Changers.{is_changed}

-- ---- the marked transaction

pub pair_there : (before : Cell) (own : Option Cell) → is_some own ≡ true → is_some (pair_of before own) ≡ true
pair_there before None e = absurd cc
pair_there before (Some cell) e = refl

pub own_there : (before : Cell) (own : Option Cell) → is_some (pair_of before own) ≡ true → is_some own ≡ true
own_there before None e = absurd cc
own_there before (Some cell) e = refl

-- its entry is the last one, and has what it wrote
pub record LastEntry (setting : Setting) (state : State) (marked : ℕ) (current : MachineOpen) : Type 0 where
  pub entry : Entry
  pub stands : slice_get state.order (length state.order - 1) ≡ Some entry
  pub label : entry.label ≡ label_of marked (session_at state marked)
  pub some : 0 < length state.order
  pub cells : (table pos : ℕ)
      → item_at entry.cells table pos ≡ pair_of (item_at (snapshot setting state (length state.order - 1)) table pos) (item_at current.begun.own table pos)

pub last_entry : (setting : Setting) (state : State) (marked : ℕ) (current : MachineOpen) → Kept setting state → state.mark ≡ Some marked
    → (session_at state marked).now ≡ Some current
    → LastEntry setting state marked current
last_entry setting state marked current kept mark is =
    let last = kept.ranks.last marked mark in
    let long = kept.none_began_since marked mark marked current is in
    let some : 0 < length state.order = omega (arith, long) in
    let label = last.1.1 in
    let number : last.0.label.session ≡ marked = ap (λ (l : Label). l.session) label in record {
      entry = last.0;
      stands = last.1.0;
      label = label;
      some = some;
      cells = kept.entries_are (length state.order - 1) last.0 current.begun last.1.0
          (entered current (mark ∙ ap (λ (n : ℕ). Some n) (sym number))
          (label ∙ ap (λ (n : ℕ). label_of n (session_at state n)) (sym number))
          (subst (λ (n : ℕ). (session_at state n).now ≡ Some current) (sym number) is) (omega (arith, some)));
    }

-- what it wrote it holds
pub marked_holds : (setting : Setting) (state : State) (marked : ℕ) (current : MachineOpen) (table pos : ℕ) → Kept setting state
    → (session_at state marked).now ≡ Some current
    → is_stamping current.phase ≡ true → is_some (item_at current.begun.own table pos) ≡ true → holds setting table pos (Some current) ≡ true
marked_holds setting state marked current table pos kept is stamping own =
    and_from (is_some (item_at current.begun.own table pos)) (is_among (drop (undone current.phase) (written_chunks setting current.begun.own)) table
    (chunk_of setting pos)) own
    (ap (λ (n : ℕ). is_among (drop n (written_chunks setting current.begun.own)) table (chunk_of setting pos)) (none_undone current.phase stamping)
    ∙ own_among setting current.begun.own table pos (kept.fits.opens marked current is).own own)
  where
    none_undone : (phase : Phase) → is_stamping phase ≡ true → undone phase ≡ 0
    none_undone (Working visited count) e = absurd cc
    none_undone (Stamping visited) e = refl
    none_undone (Undoing visited cause) e = absurd cc

-- ---- own stamps

-- who has an own stamp on top holds the position
pub top_holds : (setting : Setting) (state : State) (core : CoreData) (sessions : List SessionData) (table chunk pos : ℕ) (place : Place)
    → ShownAt setting state core sessions table chunk pos place → (stamp : Stamp) → newest place.chain ≡ Some stamp
    → (own : IsOwnStamp setting state sessions table chunk stamp) → holds setting table pos (session_at state own.number).now ≡ true
top_holds setting state core sessions table chunk pos place shown stamp e own =
    let head = shown.place_shows.own_heads own.number own.session own.now own.current own.is_open own.not_stamped in
    ap (holds setting table pos) own.is_open.open_there
    ∙ (sym head.holds_it ∙ (ap (is_own (id_of (label_here own.session))) e ∙ eq-eqb stamp.mark (id_of (label_here own.session)) own.mark_is))

-- ---- another transaction holds the position

pub held_by_other : (setting : Setting) (state : State) (core : CoreData) (sessions : List SessionData) (table chunk pos : ℕ) (place : Place)
    → ShownAt setting state core sessions table chunk pos place
    → (number : ℕ) (session : SessionData) (now : Open) (current : MachineOpen) → IsOpen state sessions number session now current → (state.mark ≡ Some number → ⊥)
    → (other : ℕ) (present : MachineOpen) → (other ≡ number → ⊥) → (session_at state other).now ≡ Some present → holds setting table pos (Some present) ≡ true
    → rival (viewer_of session now) place.chain ≡ Some (label_of other (session_at state other))
held_by_other setting state core sessions table chunk pos place shown number session now current is unmarked other present apart there held =
    elim (stamped_or_not setting state other table chunk) [
      | inl not_stamped ↦ by_head (opened setting state core sessions other present shown.kept.fits shown.sessions_show there) not_stamped
      | inr all ↦ by_entry all.0 all.1 (last_entry setting state other present shown.kept all.0 there)
    ]
  where
    held_there : holds setting table pos (session_at state other).now ≡ true
    held_there = ap (holds setting table pos) there ∙ held

    by_head : Opened state sessions other present → HasNotStamped setting state other table chunk
        → rival (viewer_of session now) place.chain ≡ Some (label_of other (session_at state other))
    by_head open' not_stamped =
        let head = shown.place_shows.own_heads other open'.session open'.now present open'.is_open not_stamped in
        let top = own_top (id_of (label_here open'.session)) (newest place.chain) (head.holds_it ∙ held) in
        let mine = shown.place_shows.own_heads number session now current is (inl unmarked) in
        let low = shown.below_ids in
        let early = shown.core_shows.times_apart.starts number session now current is in
        let mark = top.1.1 in
        rival_late (viewer_of session now) place.chain top.0 top.1.0
        (λ same. shown.kept.holders_apart number other (λ e. apart (sym e)) table pos
        (ap (holds setting table pos) is.open_there ∙ (sym mine.holds_it ∙ (ap (is_own (id_of (label_here session))) top.1.0 ∙ eq-eqb top.0.mark (id_of
        (label_here session)) same))) held_there)
        (omega (arith, low, early, mark))
        ∙ ap (λ (l : Label). Some l) (head.owner top.0 top.1.0 top.1.1 ∙ same_label setting state core other open'.session
        (shown.sessions_show.each other open'.session open'.is_open.found))

    by_entry : state.mark ≡ Some other → entries_counted setting state table chunk ≡ length state.order → LastEntry setting state other present
        → rival (viewer_of session now) place.chain ≡ Some (label_of other (session_at state other))
    by_entry mark all last =
        let some = last.some in
        let since = shown.kept.none_began_since other mark number current is.open_there in
        let rank : ℕ = length state.order - 1 in
        let own : is_some (item_at present.begun.own table pos) ≡ true =
        (and_parts (is_some (item_at present.begun.own table pos))
        (is_among (drop (undone present.phase) (written_chunks setting present.begun.own)) table (chunk_of setting pos)) held).0 in
        let wrote : has_pair table pos last.entry ≡ true =
        ap is_some (last.cells table pos) ∙ pair_there (item_at (snapshot setting state rank) table pos) (item_at present.begun.own table pos) own in
        let none : NoneOwn setting state sessions table chunk place = λ stamp e one.
        elim (cases_eq one.number other) [
          | inr away ↦ shown.kept.holders_apart one.number other away table pos
              (top_holds setting state core sessions table chunk pos place shown stamp e one) held_there
          | inl same ↦ elim one.not_stamped [
            | inl unlike ↦ unlike (mark ∙ ap (λ (n : ℕ). Some n) (sym same))
            | inr un ↦ absurd (let c = ap (λ (b : Bool). cond b (length state.order - 1) (length state.order)) un in omega (arith, c, all, some))
          ]
        ] in
        rival_of_writer setting state core sessions table chunk pos place shown none number session now current is rank last.entry
        (record {
          stands = last.stands;
          counts = omega (arith, all, some);
          wrote = wrote;
          last = λ another later less below e. absurd (omega (arith, less, below, all));
        })
        (omega (arith, since))
        ∙ ap (λ (l : Label). Some l) last.label

-- ---- nobody else holds it

-- it holds the position itself
held_by_self : (setting : Setting) (state : State) (core : CoreData) (sessions : List SessionData) (table chunk pos : ℕ) (place : Place)
    → ShownAt setting state core sessions table chunk pos place
    → (number : ℕ) (session : SessionData) (now : Open) (current : MachineOpen) → IsOpen state sessions number session now current → (state.mark ≡ Some number → ⊥)
    → holds setting table pos (Some current) ≡ true
    → rival (viewer_of session now) place.chain ≡ last_some (changer_at table pos) (drop current.begun.prefix state.order)
held_by_self setting state core sessions table chunk pos place shown number session now current is unmarked held =
    let head = shown.place_shows.own_heads number session now current is (inl unmarked) in
    let top = own_top (id_of (label_here session)) (newest place.chain) (head.holds_it ∙ held) in
    rival_own (viewer_of session now) place.chain top.0 top.1.0 top.1.1
    ∙ sym (last_some_none (changer_at table pos) (drop current.begun.prefix state.order) (λ k entry e.
    changes_none table pos entry (shown.kept.positions_are_own.held number current is.open_there unmarked (current.begun.prefix + k) entry (omega arith)
    (sym (dropped_get current.begun.prefix state.order k) ∙ e) table pos held)))

-- all entries count in a chunk, or the last one, that of the marked session, doesn't
pub all_or_marked : (setting : Setting) (state : State) (table chunk : ℕ)
    → (entries_counted setting state table chunk ≡ length state.order)
    ⊎ ((marked : ℕ) × ((state.mark ≡ Some marked) × (entries_counted setting state table chunk ≡ length state.order - 1)))
all_or_marked setting state table chunk = elim (cases_Bool (is_unstamped setting state table chunk)) [
  | inr st ↦ inl (ap (λ (b : Bool). cond b (length state.order - 1) (length state.order)) st)
  | inl un ↦ inr (by_mark state.mark refl un)
]
  where
    by_mark : (mark : Option ℕ) → state.mark ≡ mark → is_unstamped setting state table chunk ≡ true
        → (marked : ℕ) × ((state.mark ≡ Some marked) × (entries_counted setting state table chunk ≡ length state.order - 1))
    by_mark None e un = absurd (let f : is_unstamped setting state table chunk ≡ false = ap
        (λ (mark : Option ℕ). is_unstamped_by setting state mark table chunk) e in let g = sym un ∙ f in cc)
    by_mark (Some marked) e un = (marked, (e, ap (λ (b : Bool). cond b (length state.order - 1) (length state.order)) un))

-- a writer counts where nobody holds the position: the marked session, which holds what it wrote, didn't write it
pub writer_counts : (setting : Setting) (state : State) (table chunk pos : ℕ) → Kept setting state
    → ((other : ℕ) → holds setting table pos (session_at state other).now ≡ true → ⊥)
    → (rank : ℕ) (entry : Entry) → slice_get state.order rank ≡ Some entry → has_pair table pos entry ≡ true → rank < entries_counted setting state table chunk
writer_counts setting state table chunk pos kept none rank entry e wrote =
    let within = slice_get_within state.order rank entry e in
    elim (all_or_marked setting state table chunk) [
      | inl all ↦ omega (arith, all, within)
      | inr one ↦ elim (cases_lt rank (length state.order - 1)) [
        | inl less ↦ let c = one.1.1 in omega (arith, c, less)
        | inr more ↦
            let now_there = kept.ranks.marked one.0 one.1.0 in
            let last = last_entry setting state one.0 now_there.0 kept one.1.0 now_there.1.0 in
            let same : entry ≡ last.entry = same_Some entry last.entry
            (sym e ∙ (ap (slice_get state.order) (let s : rank ≡ length state.order - 1 = omega (arith, more, within) in s) ∙ last.stands)) in
            let own : is_some (item_at now_there.0.begun.own table pos) ≡ true =
            own_there (item_at (snapshot setting state (length state.order - 1)) table pos) (item_at now_there.0.begun.own table pos)
            (sym (ap is_some (last.cells table pos)) ∙ (sym (ap (has_pair table pos) same) ∙ wrote)) in
            absurd (none one.0 (ap (holds setting table pos) now_there.1.0
            ∙ marked_holds setting state one.0 now_there.0 table pos kept now_there.1.0 now_there.1.1 own))
      ]
    ]

held_by_none : (setting : Setting) (state : State) (core : CoreData) (sessions : List SessionData) (table chunk pos : ℕ) (place : Place)
    → ShownAt setting state core sessions table chunk pos place
    → (number : ℕ) (session : SessionData) (now : Open) (current : MachineOpen) → IsOpen state sessions number session now current
    → ((other : ℕ) → holds setting table pos (session_at state other).now ≡ true → ⊥)
    → (row : List Value) → item_at (snapshot setting state current.begun.prefix) table pos ≡ Some row
    → rival (viewer_of session now) place.chain ≡ last_some (changer_at table pos) (drop current.begun.prefix state.order)
held_by_none setting state core sessions table chunk pos place shown number session now current is none row sees_row =
    elim (last_or_none (has_pair table pos) (drop prefix state.order)) [
      | inl quiet ↦
          rival_none setting state core sessions table chunk pos place shown none_own number session now current is (λ rank entry since e.
          quiet (rank - prefix) entry (dropped_get prefix state.order (rank - prefix) ∙
          (ap (slice_get state.order) (let s : prefix + (rank - prefix) ≡ rank = omega (arith, since) in s) ∙ e)))
          ∙ sym (last_some_none (changer_at table pos) (drop prefix state.order) (λ k entry e. changes_none table pos entry (quiet k entry e)))
      | inr found ↦ by_writer found
    ]
  where
    prefix : ℕ
    prefix = current.begun.prefix

    none_own : NoneOwn setting state sessions table chunk place
    none_own stamp e own = none own.number (top_holds setting state core sessions table chunk pos place shown stamp e own)

    by_writer : IsLastOf (has_pair table pos) (drop prefix state.order)
        → rival (viewer_of session now) place.chain ≡ last_some (changer_at table pos) (drop prefix state.order)
    by_writer found =
        let rank : ℕ = prefix + found.rank in
        let stands : slice_get state.order rank ≡ Some found.item = sym (dropped_get prefix state.order found.rank) ∙ found.stands in
        let within = slice_get_within state.order rank found.item stands in
        let last = λ (other : ℕ) (later : Entry) (less : rank < other) (e : slice_get state.order other ≡ Some later).
        found.last (other - prefix) later (omega (arith, less))
        (dropped_get prefix state.order (other - prefix) ∙ (ap (slice_get state.order) (let s : prefix + (other - prefix) ≡ other = omega
        (arith, less) in s) ∙ e)) in
        let changed = is_changed setting state table pos shown.kept number current is.open_there row sees_row rank found.item stands found.passes
        (omega arith) within last in
        rival_of_writer setting state core sessions table chunk pos place shown none_own number session now current is rank found.item
        (record { stands = stands; counts = writer_counts setting state table chunk pos shown.kept none rank found.item stands found.passes; wrote = found.passes; last = λ other later less below e. last other later less e })
        (omega arith)
        ∙ sym (last_some_at (changer_at table pos) (drop prefix state.order) found.rank found.item found.item.label found.stands
        (changes_some table pos found.item changed)
        (λ other later less e. changes_none table pos later (found.last other later less e)))

-- ---- the rival

pub rivals_are : RivalsAreOpponents
rivals_are setting state core sessions table chunk pos place shown number session now current is unmarked row sees_row =
    by_holder (holder_cases setting number table pos 0 state.sessions)
  where
    changed : Option Label
    changed = last_some (changer_at table pos) (drop current.begun.prefix state.order)

    found : Option Label
    found = holder_from setting number table pos 0 state.sessions

    by_self : found ≡ None → ((k : ℕ) (one : Session) → slice_get state.sessions k ≡ Some one → (0 + k ≡ number → ⊥) → holds setting table pos one.now ≡ false)
        → rival (viewer_of session now) place.chain ≡ changed
    by_self none all = elim (cases_Bool (holds setting table pos (Some current))) [
      | inl held ↦ held_by_self setting state core sessions table chunk pos place shown number session now current is unmarked held
      | inr not_held ↦
          held_by_none setting state core sessions table chunk pos place shown number session now current is
          (λ other held. elim (cases_eq other number) [
            | inl same ↦ absurd (let e : holds setting table pos (session_at state other).now ≡ false =
                ap (λ (n : ℕ). holds setting table pos (session_at state n).now) same ∙ (ap (holds setting table pos) is.open_there
                ∙ not_held) in let f = sym held ∙ e in cc)
            | inr apart ↦
                let there = holder_open setting table pos (session_at state other).now held in
                absurd (let e = sym held ∙ all other (session_at state other) (is_there state other there.0 there.1) (λ s. apart (omega (arith, s))) in cc)
          ])
          row (sym (ap (λ (b : Bool). cond b (item_at (view setting state current.begun) table pos) (item_at
          (snapshot setting state current.begun.prefix) table pos)) not_held)
          ∙ (sym (shown.place_shows.viewer_sees number session now current is (inl unmarked)) ∙ sees_row))
    ]

    by_holder : Holder setting number table pos 0 state.sessions found → rival (viewer_of session now) place.chain ≡ option_or found changed
    by_holder (nobody none all) = by_self none all ∙ sym (ap (λ (o : Option Label). option_or o changed) none)
    by_holder (somebody k one e apart held label) =
        let there = holder_open setting table pos one.now held in
        let same : session_at state k ≡ one = get_or_from_slice_get state.sessions k one fresh e in
        let is_now : (session_at state k).now ≡ Some there.0 = ap (λ (s : Session). s.now) same ∙ there.1 in
        held_by_other setting state core sessions table chunk pos place shown number session now current is unmarked k there.0 (λ s. apart
        (omega (arith, s))) is_now
        (sym (ap (holds setting table pos) there.1) ∙ held)
        ∙ sym (ap (λ (o : Option Label). option_or o changed) (label
        ∙ (ap (λ (n : ℕ). Some (label_of n one)) (let s : 0 + k ≡ k = omega arith in s) ∙ ap (λ (s : Session). Some (label_of k s)) (sym same))))
