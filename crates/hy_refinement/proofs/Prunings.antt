-- Pruning by a held cover.
use Rattle.std.proofs.Common.{◌≡◌, ◌⊎◌, ℕ, ◌<◌, ◌≤◌, List, [], ◌∷◌, get_or, inl, inr, sym, ap, ◌∙◌, subst, arith, Contains, Some, None, false}
use Rattle.std.proofs.lemmas.Bool.{cases_lt, ne_eqb}
use Rattle.std.proofs.lemmas.Option.{same_Some}
use Rattle.hy_stamp.specs.declared.Stamp.{Stamp}
use Rattle.hy_stamp.specs.declared.Viewer.{Viewer}
use Rattle.hy_stamp.specs.Times.{id_of}
use Rattle.hy_prune.specs.declared.Cover.{Cover}
use Rattle.hy_prune.specs.Fates.{group}
use Rattle.hy_prune.specs.Groups.{none_below}
use Rattle.hy_chain.specs.Chains.{Undo, Falls, Under, IsSafe, newest}
use Rattle.hy_chain.specs.Pruning.{stamps_of}
use Rattle.hy_undo.specs.Images.{Image}
use Rattle.hy_undo.specs.Places.{Place, stamps}
use Rattle.hy_undo.specs.Chunks.{Pruned, is_own}
use Rattle.hy_journal.specs.declared.CoreData.{CoreData}
use Rattle.hy_event.specs.declared.SessionData.{SessionData}
use Rattle.hy_event.specs.declared.Open.{Open}
use Rattle.hy_event.specs.Sessions.{label_of, viewer_of}
use Rattle.hy_machine.specs.declared.Setting.{Setting}
use Rattle.hy_machine.specs.States.{State, Open as MachineOpen}
use Rattle.hy_refinement.specs.Transactions.{IsOpen}
use Rattle.hy_refinement.specs.Numbers.{CoreShows}
use Rattle.hy_refinement.specs.Sessions.{IsHeld}
use Rattle.hy_refinement.specs.Places.{IsOwnStamp, IsOfWriter, OwnHead, newest_below, IsNewcomer, PlaceShows}
use Rattle.hy_refinement.specs.Pruned.{Tells, PrunedTells, PruningShowsNothing, IsBelowIds}
use Rattle.hy_refinement.proofs.Stamps.{behind, first_of, here_or, nothing, empty_or, newest_first, first_newest, none_newest, apart_all, below_here, below_later}

-- a start below a time makes a group of it
in_group : (cover : Cover) (start time : ℕ) → Contains cover.starts start → start < time → 0 < group cover time
in_group cover start time c less = elim (cases_lt 0 (group cover time)) [
  | inl some ↦ some
  | inr none ↦
      let low : time ≤ get_or cover.starts c.0 start = none_below cover.starts c.0 start time c.1 (omega (arith, none)) in
      absurd (omega (arith, low, less, c.2))
]

-- the time of a writer is below the next time
writer_below : (setting : Setting) (state : State) (core : CoreData) (sessions : List SessionData) (table chunk pos : ℕ) (stamp : Stamp)
    → CoreShows state core sessions → IsOfWriter setting state core table chunk pos stamp → stamp.mark < core.next
writer_below setting state core sessions table chunk pos stamp shows w =
    omega (arith, shows.times_apart.times w.rank w.entry w.has, w.mark_is)

id_above : (core : CoreData) (session : SessionData) → IsBelowIds core → core.next < id_of (label_of session)
id_above core session low = omega (arith, low)

under_below : (time : ℕ) (chain : List (Undo Image)) (stamp : Stamp) → Under time chain → Contains (stamps_of chain) stamp → stamp.mark < time
under_below time [] stamp u c = absurd (nothing stamp c)
under_below time (undo ∷ chain) stamp u c = elim (here_or undo.stamp stamp (stamps_of chain) c) [
  | inl e ↦ subst (λ (s : Stamp). s.mark < time) e u.0
  | inr later ↦ under_below time chain stamp u.1 later
]

-- where marks fall, those behind the newest are below it
falls_below : (chain : List (Undo Image)) (stamp : Stamp) (rest : List Stamp) → stamps_of chain ≡ stamp ∷ rest → Falls chain
    → (other : Stamp) → Contains rest other → other.mark < stamp.mark
falls_below [] stamp rest e f other c = absurd cc
falls_below (undo ∷ chain) stamp rest e f other c =
    let same : undo.stamp ≡ stamp = cc in
    let later : stamps_of chain ≡ rest = cc in
    subst (λ (s : Stamp). other.mark < s.mark) same
    (under_below undo.stamp.mark chain other f.0 (subst (λ (xs : List Stamp). Contains xs other) (sym later) c))

module _ (setting : Setting) (state : State) (core : CoreData) (sessions : List SessionData) (cover : Cover) (table chunk pos : ℕ) (old new : Place)
    (low : IsBelowIds core) (core_shows : CoreShows state core sessions) (held : IsHeld core cover)
    (shows : PlaceShows setting state core sessions table chunk pos old) (p : Pruned cover old new) (t : Tells cover old new) where
  -- each stamp is an open transaction's own or a writer's
  known : (stamp : Stamp) → Contains (stamps old) stamp
      → IsOwnStamp setting state sessions table chunk stamp ⊎ IsOfWriter setting state core table chunk pos stamp
  known stamp c = elim (empty_or (stamps old)) [
    | inl none ↦ absurd (nothing stamp (subst (λ (xs : List Stamp). Contains xs stamp) none c))
    | inr some ↦ elim (here_or some.0 stamp some.1.0 (subst (λ (xs : List Stamp). Contains xs stamp) some.1.1 c)) [
      | inl here ↦ subst (λ (s : Stamp). IsOwnStamp setting state sessions table chunk s ⊎ IsOfWriter setting state core table chunk pos s) here
          (shows.times_are_writers.top some.0 some.1.0 some.1.1)
      | inr later ↦ inr (shows.times_are_writers.behind some.0 some.1.0 some.1.1 stamp later)
    ]
  ]

  -- a newest stamp from the next time on was the newest before
  was_newest : (stamp : Stamp) (rest : List Stamp) → stamps new ≡ stamp ∷ rest → core.next ≤ stamp.mark → (others : List Stamp) × (stamps old ≡ stamp ∷ others)
  was_newest stamp rest e late =
      let there : Contains (stamps old) stamp = t.made_none stamp (subst (λ (xs : List Stamp). Contains xs stamp) (sym e) (first_of stamp rest)) in
      elim (empty_or (stamps old)) [
        | inl none ↦ absurd (nothing stamp (subst (λ (xs : List Stamp). Contains xs stamp) none there))
        | inr some ↦ elim (here_or some.0 stamp some.1.0 (subst (λ (xs : List Stamp). Contains xs stamp) some.1.1 there)) [
          | inl here ↦ (some.1.0, some.1.1 ∙ ap (λ (s : Stamp). s ∷ some.1.0) here)
          | inr later ↦
              let w = shows.times_are_writers.behind some.0 some.1.0 some.1.1 stamp later in
              absurd (omega (arith, writer_below setting state core sessions table chunk pos stamp core_shows w, late))
        ]
      ]

  safe_open : (number : ℕ) (session : SessionData) (now : Open) (current : MachineOpen) → IsOpen state sessions number session now current
      → IsSafe cover old.chain (viewer_of session now)
  safe_open number session now current is = record {
    id = let past = held.past in omega (arith, id_above core session low, past);
    start = held.safe now.start (core_shows.active_is.has number session now current is);
    apart = apart_all now.start old.chain (λ stamp c same. elim (known stamp c) [
      | inl own ↦
          let mark = own.mark_is in
          let early = core_shows.times_apart.starts number session now current is in
          absurd (omega (arith, mark, same, early, id_above core own.session low))
      | inr w ↦ core_shows.times_apart.apart number session now current is w.rank w.entry w.has (sym w.mark_is ∙ same)
    ]);
  }

  safe_newcomer : (viewer : Viewer) → IsNewcomer state core sessions viewer → IsSafe cover old.chain viewer
  safe_newcomer viewer is = record {
    id = let past = held.past in let id = is.id in omega (arith, past, id);
    start = inr (let past = held.past in let start = is.start in omega (arith, past, start));
    apart = apart_all viewer.start old.chain (λ stamp c same. elim (known stamp c) [
      | inl own ↦ let mark = own.mark_is in let start = is.start in absurd (omega (arith, mark, same, start, id_above core own.session low))
      | inr w ↦ let start = is.start in absurd (omega (arith, same, start, writer_below setting state core sessions table chunk pos stamp core_shows w))
    ]);
  }

  -- an identifier is no mark below the next time
  not_early : (session : SessionData) (stamp : Stamp) → stamp.mark < core.next → is_own (id_of (label_of session)) (Some stamp) ≡ false
  not_early session stamp early = ne_eqb stamp.mark (id_of (label_of session)) (λ same. absurd (omega (arith, early, same, id_above core session low)))

  -- beneath a newest stamp below the next time no identifier comes up
  none_comes_up : (session : SessionData) (was : Stamp) (others : List Stamp) → stamps old ≡ was ∷ others → was.mark < core.next
      → is_own (id_of (label_of session)) (newest new.chain) ≡ false
  none_comes_up session was others e early = elim (empty_or (stamps new)) [
    | inl nil ↦ ap (is_own (id_of (label_of session))) (none_newest new.chain nil)
    | inr some ↦ elim (cases_lt some.0.mark core.next) [
      | inl less ↦ ap (is_own (id_of (label_of session))) (first_newest new.chain some.0 some.1.0 some.1.1) ∙ not_early session some.0 less
      | inr late ↦
          let up = was_newest some.0 some.1.0 some.1.1 late in
          let heads : was ∷ others ≡ some.0 ∷ up.0 = sym e ∙ up.1 in
          let same : was ≡ some.0 = cc in
          absurd (let m = ap (λ (s : Stamp). s.mark) same in omega (arith, m, early, late))
    ]
  ]

  -- an identifier is on top exactly where it was
  own_stays : (session : SessionData) → is_own (id_of (label_of session)) (newest new.chain) ≡ is_own (id_of (label_of session)) (newest old.chain)
  own_stays session = elim (empty_or (stamps old)) [
    | inl none ↦ elim (empty_or (stamps new)) [
      | inl nil ↦ ap (is_own (id_of (label_of session))) (none_newest new.chain nil ∙ sym (none_newest old.chain none))
      | inr some ↦ absurd (nothing some.0 (subst (λ (xs : List Stamp). Contains xs some.0) none
          (t.made_none some.0 (subst (λ (xs : List Stamp). Contains xs some.0) (sym some.1.1) (first_of some.0 some.1.0)))))
    ]
    | inr was ↦ elim (cases_lt was.0.mark core.next) [
      | inr late ↦
          let past = held.past in
          let stays = t.late was.0 was.1.0 was.1.1 (omega (arith, past, late)) in
          ap (is_own (id_of (label_of session))) (first_newest new.chain was.0 stays.others stays.stamps_are ∙ sym
          (first_newest old.chain was.0 was.1.0 was.1.1))
      | inl early ↦
          none_comes_up session was.0 was.1.0 was.1.1 early
          ∙ sym (ap (is_own (id_of (label_of session))) (first_newest old.chain was.0 was.1.0 was.1.1) ∙ not_early session was.0 early)
    ]
  ]

  own_head : (number : ℕ) (session : SessionData) (now : Open) (current : MachineOpen) → OwnHead setting table pos old session current
      → OwnHead setting table pos new session current
  own_head number session now current had = record {
    holds_it = own_stays session ∙ had.holds_it;
    owner = λ stamp e mark.
        let first = newest_first new.chain stamp e in
        let was = was_newest stamp first.0 first.1 (omega (arith, mark, id_above core session low)) in
        had.owner stamp (first_newest old.chain stamp was.0 was.1) mark;
  }

  -- what is behind the newest stamp is a writer's still
  behind_writer : (stamp : Stamp) (rest : List Stamp) → stamps new ≡ stamp ∷ rest → (other : Stamp) → Contains rest other
      → IsOfWriter setting state core table chunk pos other
  behind_writer stamp rest e other c =
      let falls = t.falls shows.falls in
      let less : other.mark < stamp.mark = falls_below new.chain stamp rest e falls other c in
      let there : Contains (stamps old) other = t.made_none other (subst (λ (xs : List Stamp). Contains xs other) (sym e) (behind stamp other rest c)) in
      let above : Contains (stamps old) stamp = t.made_none stamp (subst (λ (xs : List Stamp). Contains xs stamp) (sym e) (first_of stamp rest)) in
      elim (empty_or (stamps old)) [
        | inl none ↦ absurd (nothing other (subst (λ (xs : List Stamp). Contains xs other) none there))
        | inr some ↦ elim (here_or some.0 other some.1.0 (subst (λ (xs : List Stamp). Contains xs other) some.1.1 there)) [
          | inr later ↦ shows.times_are_writers.behind some.0 some.1.0 some.1.1 other later
          | inl here ↦ elim (here_or some.0 stamp some.1.0 (subst (λ (xs : List Stamp). Contains xs stamp) some.1.1 above)) [
            | inl same ↦ absurd (let m = ap (λ (s : Stamp). s.mark) (sym here ∙ same) in omega (arith, m, less))
            | inr later ↦
                let under = falls_below old.chain some.0 some.1.0 some.1.1 shows.falls stamp later in
                absurd (let m = ap (λ (s : Stamp). s.mark) here in omega (arith, m, less, under))
          ]
        ]
      ]

  -- a time above an open start stays on top of the times
  time_stays : (start : ℕ) (top : Stamp) → Contains core.active start → start < top.mark → newest_below core.next (stamps old) ≡ Some top
      → newest_below core.next (stamps new) ≡ Some top
  time_stays start top active above was =
      let past = held.past in
      let why : (cover.next ≤ top.mark) ⊎ (0 < group cover top.mark) = elim (held.safe start active) [
        | inl in_cover ↦ inr (in_group cover start top.mark in_cover above)
        | inr late ↦ inl (omega (arith, late, above))
      ] in
      elim (empty_or (stamps old)) [
        | inl none ↦ absurd (let e : None ≡ Some top = sym (ap (newest_below core.next) none) ∙ was in cc)
        | inr some ↦ elim (cases_lt some.0.mark core.next) [
          | inl early ↦
              let same : some.0 ≡ top = same_Some some.0 top (sym (ap (newest_below core.next) some.1.1 ∙ below_here core.next some.0 some.1.0 early) ∙ was) in
              let is : stamps old ≡ top ∷ some.1.0 = some.1.1 ∙ ap (λ (s : Stamp). s ∷ some.1.0) same in
              let few : top.mark < core.next = subst (λ (s : Stamp). s.mark < core.next) same early in
              elim why [
                | inl late ↦
                    let stays = t.late top some.1.0 is late in
                    ap (newest_below core.next) stays.stamps_are ∙ below_here core.next top stays.others few
                | inr covered ↦
                    let stays = t.newest top some.1.0 is covered in
                    ap (newest_below core.next) stays.1 ∙ below_here core.next top stays.0 few
              ]
          | inr late ↦
              let rest : newest_below core.next some.1.0 ≡ Some top = sym (ap (newest_below core.next) some.1.1
              ∙ below_later core.next some.0 some.1.0 late) ∙ was in
              elim (empty_or some.1.0) [
                | inl none ↦ absurd (let e : None ≡ Some top = sym (ap (newest_below core.next) none) ∙ rest in cc)
                | inr second ↦
                    let w = shows.times_are_writers.behind some.0 some.1.0 some.1.1 second.0
                    (subst (λ (xs : List Stamp). Contains xs second.0) (sym second.1.1) (first_of second.0 second.1.0)) in
                    let few : second.0.mark < core.next = writer_below setting state core sessions table chunk pos second.0 core_shows w in
                    let same : second.0 ≡ top = same_Some second.0 top
                    (sym (ap (newest_below core.next) second.1.1 ∙ below_here core.next second.0 second.1.0 few) ∙ rest) in
                    let is : stamps old ≡ some.0 ∷ top ∷ second.1.0 =
                    some.1.1 ∙ ap (λ (xs : List Stamp). some.0 ∷ xs) (second.1.1 ∙ ap (λ (s : Stamp). s ∷ second.1.0) same) in
                    let stays = t.second some.0 top second.1.0 is (omega (arith, past, late)) why in
                    ap (newest_below core.next) stays.1
                    ∙ (below_later core.next some.0 (top ∷ stays.0) late
                    ∙ below_here core.next top stays.0 (subst (λ (s : Stamp). s.mark < core.next) same few))
              ]
        ]
      ]

  place_shows : PlaceShows setting state core sessions table chunk pos new
  place_shows = record {
    falls = t.falls shows.falls;
    own_heads = λ number session now current is not_stamped. own_head number session now current (shows.own_heads number session now current is not_stamped);
    times_are_writers = record {
      top = λ stamp rest e. known stamp (t.made_none stamp (subst (λ (xs : List Stamp). Contains xs stamp) (sym e) (first_of stamp rest)));
      behind = behind_writer;
    };
    last_writer_on_top = λ rank entered entry last has number session now current is above.
        time_stays now.start (record { owner = entered.label; mark = entry.time }) (core_shows.active_is.has number session now current is) above
        (shows.last_writer_on_top rank entered entry last has number session now current is above);
    viewer_sees = λ number session now current is not_stamped.
        p.views (viewer_of session now) (safe_open number session now current is) ∙ shows.viewer_sees number session now current is not_stamped;
    newcomer_sees = λ viewer is. p.views viewer (safe_newcomer viewer is) ∙ shows.newcomer_sees viewer is;
    used_shows = p.used ∙ shows.used_shows;
    death_shows = p.death ∙ shows.death_shows;
  }

pub pruned_shows : PrunedTells → PruningShowsNothing
pruned_shows tells setting state core sessions cover table chunk pos old new low core_shows held shows p =
    place_shows setting state core sessions cover table chunk pos old new low core_shows held shows p (tells cover old new p)
