-- The newest stamp of a position, and the rival that it names.
use Rattle.std.proofs.Common.{◌≡◌, ◌⊎◌, ℕ, ◌<◌, ◌≤◌, List, [], ◌∷◌, get_or, Option, None, Some, Bool, true, false, refl}
use Rattle.std.proofs.Common.{sym, ap, ◌∙◌, subst, arith, inl, inr, cond}
use Rattle.std.specs.Prelude.{slice_get, nat_lt, ◌||◌, ◌==◌}
use Rattle.std.proofs.lemmas.Bool.{cases_lt, ne_eqb, eq-eqb, eqb-true, lt-ltb, le-ltb, or_left, or_right}
use Rattle.std.proofs.lemmas.Option.{same_Some, slice_get_within, slice_get-get_or}
use Rattle.hy_stamp.specs.declared.Stamp.{Stamp}
use Rattle.hy_stamp.specs.declared.Viewer.{Viewer}
use Rattle.hy_chain.specs.Chains.{Undo, newest, rival, rival_by}
use Rattle.hy_chain.specs.Pruning.{stamps_of}
use Rattle.hy_undo.specs.Images.{Image}
use Rattle.hy_undo.specs.Places.{Place, stamps}
use Rattle.hy_undo.specs.Chunks.{is_own}
use Rattle.hy_journal.specs.declared.CoreData.{CoreData}
use Rattle.hy_journal.specs.declared.Entry.{Entry}
use Rattle.hy_event.specs.declared.SessionData.{SessionData}
use Rattle.hy_event.specs.declared.Open.{Open}
use Rattle.hy_event.specs.Sessions.{viewer_of}
use Rattle.hy_machine.specs.declared.Setting.{Setting}
use Rattle.hy_machine.specs.States.{State, Open as MachineOpen}
use Rattle.hy_machine.specs.Tables.{Entry as Entered}
use Rattle.hy_machine.specs.Sessions.{session_at}
use Rattle.hy_machine.specs.Holding.{has_pair}
use Rattle.hy_refinement.specs.Transactions.{IsOpen}
use Rattle.hy_refinement.specs.Sessions.{NowShows, OpenShows}
use Rattle.hy_refinement.specs.Shows.{SessionsShow}
use Rattle.hy_refinement.specs.Places.{IsOwnStamp, IsOfWriter, IsLastWriter, newest_below}
use Rattle.hy_refinement.specs.Rivals.{ShownAt}
use Rattle.hy_refinement.proofs.Stamps.{newest_first, below_here}

-- ---- the rival that a stamp names

pub rival_late : (viewer : Viewer) (chain : List (Undo Image)) (stamp : Stamp) → newest chain ≡ Some stamp → (stamp.mark ≡ viewer.id → ⊥)
    → viewer.start ≤ stamp.mark
    → rival viewer chain ≡ Some stamp.owner
rival_late viewer chain stamp e other late =
    ap (rival_by viewer) e
    ∙ (ap (λ (b : Bool). cond (b || nat_lt stamp.mark viewer.start) None (Some stamp.owner)) (ne_eqb stamp.mark viewer.id other)
    ∙ ap (λ (b : Bool). cond b None (Some stamp.owner)) (le-ltb stamp.mark viewer.start late))

pub rival_early : (viewer : Viewer) (chain : List (Undo Image)) (stamp : Stamp) → newest chain ≡ Some stamp → stamp.mark < viewer.start
    → rival viewer chain ≡ None
rival_early viewer chain stamp e early =
    ap (rival_by viewer) e
    ∙ ap (λ (b : Bool). cond b None (Some stamp.owner))
    (or_right (stamp.mark == viewer.id) (nat_lt stamp.mark viewer.start) (lt-ltb stamp.mark viewer.start early))

pub rival_own : (viewer : Viewer) (chain : List (Undo Image)) (stamp : Stamp) → newest chain ≡ Some stamp → stamp.mark ≡ viewer.id → rival viewer chain ≡ None
rival_own viewer chain stamp e own =
    ap (rival_by viewer) e
    ∙ ap (λ (b : Bool). cond b None (Some stamp.owner)) (or_left (stamp.mark == viewer.id) (nat_lt stamp.mark viewer.start) (eq-eqb stamp.mark viewer.id own))

-- an own stamp on top
pub own_top : (id : ℕ) (top : Option Stamp) → is_own id top ≡ true → (stamp : Stamp) × ((top ≡ Some stamp) × (stamp.mark ≡ id))
own_top id None e = absurd cc
own_top id (Some stamp) e = (stamp, (refl, eqb-true stamp.mark id e))

-- a chain has a newest stamp or none
pub top_or_none : (top : Option Stamp) → (top ≡ None) ⊎ ((stamp : Stamp) × (top ≡ Some stamp))
top_or_none None = inl refl
top_or_none (Some stamp) = inr (stamp, refl)

-- ---- an open transaction that is shown

pub open_shown : (setting : Setting) (state : State) (core : CoreData) (sessions : List SessionData) (number : ℕ) (session : SessionData) (now : Open)
    (current : MachineOpen)
    → SessionsShow setting state core sessions → IsOpen state sessions number session now current → OpenShows setting state core number now current
open_shown setting state core sessions number session now current shows is =
    subst (λ (there : Option MachineOpen). NowShows setting state core number (Some now) there) is.open_there
    (subst (λ (here : Option Open). NowShows setting state core number here (session_at state number).now) is.open_here
    (shows.each number session is.found).now_shows)

-- the journal has an entry where the order has one
pub has_entry : (setting : Setting) (state : State) (core : CoreData) (sessions : List SessionData) (table chunk pos : ℕ) (place : Place)
    → ShownAt setting state core sessions table chunk pos place → (rank : ℕ) (entered : Entered) → slice_get state.order rank ≡ Some entered
    → (entry : Entry) × (slice_get core.entries rank ≡ Some entry)
has_entry setting state core sessions table chunk pos place shown rank entered stands =
    let count = shown.core_shows.entries_show.count in
    let within = slice_get_within state.order rank entered stands in
    let none : Entry = record { label = record { session = 0; txn = 0 }; start = 0; time = 0; notes = [] } in
    (get_or core.entries rank none, slice_get-get_or core.entries rank none (omega (arith, count, within)))

-- ---- writers on top

-- no transaction's own stamp is on top of a position
abbrev pub NoneOwn : Setting → State → List SessionData → ℕ → ℕ → Place → Type 0
NoneOwn setting state sessions table chunk place =
    (stamp : Stamp) → newest place.chain ≡ Some stamp → IsOwnStamp setting state sessions table chunk stamp → ⊥

-- then the newest stamp is a writer's
pub writer_top : (setting : Setting) (state : State) (core : CoreData) (sessions : List SessionData) (table chunk pos : ℕ) (place : Place)
    → ShownAt setting state core sessions table chunk pos place → NoneOwn setting state sessions table chunk place
    → (stamp : Stamp) → newest place.chain ≡ Some stamp → IsOfWriter setting state core table chunk pos stamp
writer_top setting state core sessions table chunk pos place shown none stamp e =
    let first = newest_first place.chain stamp e in
    elim (shown.place_shows.times_are_writers.top stamp first.0 first.1) [
      | inl own ↦ absurd (none stamp e own)
      | inr w ↦ w
    ]

-- the last writer since a start is the rival
pub rival_of_writer : (setting : Setting) (state : State) (core : CoreData) (sessions : List SessionData) (table chunk pos : ℕ) (place : Place)
    → ShownAt setting state core sessions table chunk pos place → NoneOwn setting state sessions table chunk place
    → (number : ℕ) (session : SessionData) (now : Open) (current : MachineOpen) → IsOpen state sessions number session now current
    → (rank : ℕ) (entered : Entered) → IsLastWriter setting state table chunk pos rank entered → current.begun.prefix ≤ rank
    → rival (viewer_of session now) place.chain ≡ Some entered.label
rival_of_writer setting state core sessions table chunk pos place shown none number session now current is rank entered last since =
    let found = has_entry setting state core sessions table chunk pos place shown rank entered last.stands in
    let shows = open_shown setting state core sessions number session now current shown.sessions_show is in
    let prefix = shows.open_shows.prefix in
    let late : now.start ≤ found.0.time = shows.prefix_counts.late rank found.0 found.1 (omega (arith, since, prefix)) in
    let apart = shown.core_shows.times_apart.apart number session now current is rank found.0 found.1 in
    let above : now.start < found.0.time = elim (cases_lt now.start found.0.time) [
      | inl less ↦ less
      | inr more ↦ absurd (apart (omega (arith, late, more)))
    ] in
    let top : Stamp = record { owner = entered.label; mark = found.0.time } in
    let time_top : newest_below core.next (stamps place) ≡ Some top =
    shown.place_shows.last_writer_on_top rank entered found.0 last found.1 number session now current is above in
    let low = shown.below_ids in
    elim (top_or_none (newest place.chain)) [
      | inl empty ↦ absurd (let e : None ≡ Some top = sym (ap (newest_below core.next) (none_stamps place.chain empty)) ∙ time_top in cc)
      | inr one ↦
          let w = writer_top setting state core sessions table chunk pos place shown none one.0 one.1 in
          let mark = w.mark_is in
          let below = shown.core_shows.times_apart.times w.rank w.entry w.has in
          let first = newest_first place.chain one.0 one.1 in
          let same : one.0 ≡ top = same_Some one.0 top
          (sym (ap (newest_below core.next) first.1 ∙ below_here core.next one.0 first.0 (omega (arith, mark, below))) ∙ time_top) in
          let is_top : newest place.chain ≡ Some top = one.1 ∙ ap (λ (s : Stamp). Some s) same in
          let few = shown.core_shows.times_apart.times rank found.0 found.1 in
          rival_late (viewer_of session now) place.chain top is_top (λ e. absurd (omega (arith, e, few, low))) late
    ]
  where
    none_stamps : (chain : List (Undo Image)) → newest chain ≡ None → stamps_of chain ≡ []
    none_stamps [] e = refl
    none_stamps (undo ∷ chain) e = absurd cc

-- where nobody wrote since a start there is no rival
pub rival_none : (setting : Setting) (state : State) (core : CoreData) (sessions : List SessionData) (table chunk pos : ℕ) (place : Place)
    → ShownAt setting state core sessions table chunk pos place → NoneOwn setting state sessions table chunk place
    → (number : ℕ) (session : SessionData) (now : Open) (current : MachineOpen) → IsOpen state sessions number session now current
    → ((rank : ℕ) (entered : Entered) → current.begun.prefix ≤ rank → slice_get state.order rank ≡ Some entered → has_pair table pos entered ≡ false)
    → rival (viewer_of session now) place.chain ≡ None
rival_none setting state core sessions table chunk pos place shown none number session now current is quiet =
    elim (top_or_none (newest place.chain)) [
      | inl empty ↦ ap (rival_by (viewer_of session now)) empty
      | inr one ↦
          let w = writer_top setting state core sessions table chunk pos place shown none one.0 one.1 in
          let shows = open_shown setting state core sessions number session now current shown.sessions_show is in
          let prefix = shows.open_shows.prefix in
          let mark = w.mark_is in
          elim (cases_lt w.rank current.begun.prefix) [
            | inl before ↦
                let early = shows.prefix_counts.early w.rank w.entry w.has (omega (arith, before, prefix)) in
                rival_early (viewer_of session now) place.chain one.0 one.1 (omega (arith, mark, early))
            | inr since ↦ absurd (let e = sym (quiet w.rank w.entered since w.stands) ∙ w.wrote in cc)
          ]
    ]
