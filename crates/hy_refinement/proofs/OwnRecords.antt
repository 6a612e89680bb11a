-- A position whose newest record is that of the open transaction which holds it: what stood there before.
use Rattle.std.proofs.Common.{◌≡◌, ◌≢◌, ℕ, ◌<◌, ◌≤◌, List, [], ◌∷◌, Contains, Some, Bool, true, false, refl, sym, ap, ◌∙◌}
use Rattle.std.proofs.Common.{subst, arith, inl, inr, cond}
use Rattle.std.specs.Prelude.{slice_get, ◌==◌, nat_lt}
use Rattle.std.proofs.lemmas.Bool.{cases_lt, ne_eqb, le-ltb, or_from}
use Rattle.hy_stamp.specs.declared.Stamp.{Stamp}
use Rattle.hy_stamp.specs.declared.Viewer.{Viewer}
use Rattle.hy_stamp.specs.Times.{id_of}
use Rattle.hy_chain.specs.Chains.{Undo, before_newest, newest, seen}
use Rattle.hy_chain.specs.Pruning.{stamps_of}
use Rattle.hy_undo.specs.declared.version.Version.{Version}
use Rattle.hy_undo.specs.Images.{Image, before}
use Rattle.hy_undo.specs.Places.{Place, sees, cell_of, stamps}
use Rattle.hy_undo.specs.Chunks.{is_own}
use Rattle.hy_journal.specs.declared.CoreData.{CoreData}
use Rattle.hy_event.specs.declared.SessionData.{SessionData}
use Rattle.hy_event.specs.declared.Open.{Open}
use Rattle.hy_event.specs.Sessions.{label_of}
use Rattle.hy_machine.specs.declared.Setting.{Setting}
use Rattle.hy_machine.specs.States.{State, Open as MachineOpen}
use Rattle.hy_machine.specs.Tables.{Entry}
use Rattle.hy_machine.specs.Positions.{item_at}
use Rattle.hy_machine.specs.Sessions.{snapshot}
use Rattle.hy_machine.specs.Holding.{holds, has_pair}
use Rattle.hy_refinement.specs.Stamped.{entries_counted}
use Rattle.hy_refinement.specs.Transactions.{IsOpen}
use Rattle.hy_refinement.specs.Sessions.{OpenShows}
use Rattle.hy_refinement.specs.Places.{IsOfWriter}
use Rattle.hy_refinement.specs.Rivals.{ShownAt}
use Rattle.hy_refinement.specs.OwnRecords.{BehindOwnIsTheStart}
use Rattle.hy_refinement.proofs.Stamps.{newest_first, first_of}
use Rattle.hy_refinement.proofs.Orders.{cell_stays}
use Rattle.hy_refinement.proofs.RivalTops.{own_top, open_shown}
use Rattle.hy_refinement.proofs.Frees.{stopped}
use Rattle.hy_refinement.proofs.Deaths.{counted_since}

-- ---- chains

-- a viewer that goes past the newest record, and no further, sees what was there before it
past_one : (viewer : Viewer) (version : Version) (undo : Undo Image) (rest : List (Undo Image)) → (undo.stamp.mark ≡ viewer.id → ⊥)
    → viewer.start ≤ undo.stamp.mark → ((stamp : Stamp) → newest rest ≡ Some stamp → stamp.mark < viewer.start)
    → seen before viewer version (undo ∷ rest) ≡ before undo.image version
past_one viewer version undo rest other late early =
    ap (λ (b : Bool). cond b version (seen before viewer (before undo.image version) rest))
    (or_from (undo.stamp.mark == viewer.id) (nat_lt undo.stamp.mark viewer.start) (ne_eqb undo.stamp.mark viewer.id other)
    (le-ltb undo.stamp.mark viewer.start late))
    ∙ stopped viewer (before undo.image version) rest early

-- a chain with a newest stamp has a newest record
pub first_undo : (chain : List (Undo Image)) (stamp : Stamp) → newest chain ≡ Some stamp
    → (undo : Undo Image) × ((rest : List (Undo Image)) × ((chain ≡ undo ∷ rest) × (undo.stamp ≡ stamp)))
first_undo [] stamp e = absurd cc
first_undo (undo ∷ chain) stamp e = (undo, (chain, (refl, (let same : undo.stamp ≡ stamp = cc in same))))

-- a newest stamp is one of the stamps
pub newest_among : (chain : List (Undo Image)) (stamp : Stamp) (stamps : List Stamp) → stamps_of chain ≡ stamps → newest chain ≡ Some stamp
    → Contains stamps stamp
newest_among chain stamp stamps same e =
    let first = newest_first chain stamp e in
    subst (λ (xs : List Stamp). Contains xs stamp) (sym first.1 ∙ same) (first_of stamp first.0)

-- ---- the own record

-- the newest record of a position is that of the open transaction which holds it, and has no entry yet
pub record HasOwnRecord (setting : Setting) (state : State) (core : CoreData) (sessions : List SessionData) (table chunk pos : ℕ) (place : Place)
    (number : ℕ) (session : SessionData) (now : Open) (current : MachineOpen) : Type 0 where
  pub shown : ShownAt setting state core sessions table chunk pos place
  pub is_open : IsOpen state sessions number session now current
  pub unmarked : state.mark ≢ Some number
  pub held : holds setting table pos (Some current) ≡ true
  pub undo : Undo Image
  pub rest : List (Undo Image)
  pub chain_is : place.chain ≡ undo ∷ rest
  pub own : undo.stamp.mark ≡ id_of (label_of session)

module _ {setting : Setting} {state : State} {core : CoreData} {sessions : List SessionData} {table chunk pos : ℕ} {place : Place}
    {number : ℕ} {session : SessionData} {now : Open} {current : MachineOpen}
    (has : HasOwnRecord setting state core sessions table chunk pos place number session now current) where
  shows : OpenShows setting state core number now current
  shows = open_shown setting state core sessions number session now current has.shown.sessions_show has.is_open

  abbrev counted : ℕ
  counted = entries_counted setting state table chunk

  -- no entry wrote the position since its start
  pub quiet : (rank : ℕ) (entry : Entry) → current.begun.prefix ≤ rank → slice_get state.order rank ≡ Some entry → has_pair table pos entry ≡ false
  quiet rank entry since stands =
      has.shown.kept.positions_are_own.held number current has.is_open.open_there has.unmarked rank entry since stands table pos has.held

  pub stamps_are : stamps place ≡ has.undo.stamp ∷ stamps_of has.rest
  stamps_are = ap stamps_of has.chain_is

  -- the stamps behind it are those of writers
  pub behind_writer : (stamp : Stamp) → Contains (stamps_of has.rest) stamp → IsOfWriter setting state core table chunk pos stamp
  behind_writer stamp c = has.shown.place_shows.times_are_writers.behind has.undo.stamp (stamps_of has.rest) stamps_are stamp c

  -- of before its start
  pub behind_early : (stamp : Stamp) → Contains (stamps_of has.rest) stamp → stamp.mark < now.start
  behind_early stamp c =
      let w = behind_writer stamp c in
      let mark = w.mark_is in
      let prefix = shows.open_shows.prefix in
      elim (cases_lt w.rank current.begun.prefix) [
        | inl before' ↦
            let early = shows.prefix_counts.early w.rank w.entry w.has (omega (arith, before', prefix)) in
            omega (arith, mark, early)
        | inr since ↦ absurd (let e = sym (quiet w.rank w.entered since w.stands) ∙ w.wrote in cc)
      ]

  pub early_start : now.start < core.next
  early_start = has.shown.core_shows.times_apart.starts number session now current has.is_open

  pub behind_below : (stamp : Stamp) → Contains (stamps_of has.rest) stamp → stamp.mark < core.next
  behind_below stamp c = let early = behind_early stamp c in let start = early_start in omega (arith, early, start)

  -- ---- by a newcomer

  pub newcomer_saw : sees (record { id = core.next; start = core.next }) place ≡ item_at (snapshot setting state counted) table pos
  newcomer_saw = has.shown.place_shows.newcomer_sees (record { id = core.next; start = core.next }) (record {
    start = refl;
    id = omega arith;
    new = λ other one present there open' e. absurd (let ids = has.shown.below_ids in omega (arith, e, ids));
  })

  -- it goes past the own record, and no further
  newcomer_passes : seen before (record { id = core.next; start = core.next }) place.version place.chain ≡ before has.undo.image place.version
  newcomer_passes =
      let ids = has.shown.below_ids in
      let own = has.own in
      ap (seen before (record { id = core.next; start = core.next }) place.version) has.chain_is
      ∙ past_one (record { id = core.next; start = core.next }) place.version has.undo has.rest (λ e. absurd (omega (arith, e, own, ids)))
      (omega (arith, own, ids))
      (λ stamp e. behind_below stamp (newest_among has.rest stamp (stamps_of has.rest) refl e))

  -- what stood there before it is what the entries leave that count
  pub behind_counted : cell_of (before has.undo.image place.version) ≡ item_at (snapshot setting state counted) table pos
  behind_counted = sym (ap cell_of newcomer_passes) ∙ newcomer_saw

  -- which is what was there at its start
  pub counted_start : item_at (snapshot setting state counted) table pos ≡ item_at (snapshot setting state current.begun.prefix) table pos
  counted_start =
      let range = counted_since setting state table chunk has.shown.kept number current has.is_open.open_there in
      cell_stays setting state table pos current.begun.prefix counted range.0 range.1 (λ rank entry l m e. quiet rank entry l e)

-- so it is where its mark is on top
pub own_record : (setting : Setting) (state : State) (core : CoreData) (sessions : List SessionData) (table chunk pos : ℕ) (place : Place)
    → ShownAt setting state core sessions table chunk pos place
    → (number : ℕ) (session : SessionData) (now : Open) (current : MachineOpen) → IsOpen state sessions number session now current
    → state.mark ≢ Some number → is_own (id_of (label_of session)) (newest place.chain) ≡ true
    → HasOwnRecord setting state core sessions table chunk pos place number session now current
own_record setting state core sessions table chunk pos place shown number session now current is_open unmarked own =
    let top = own_top (id_of (label_of session)) (newest place.chain) own in
    let first = first_undo place.chain top.0 top.1.0 in
    record {
      shown = shown;
      is_open = is_open;
      unmarked = unmarked;
      held = sym (shown.place_shows.own_heads number session now current is_open (inl unmarked)).holds_it ∙ own;
      undo = first.0;
      rest = first.1.0;
      chain_is = first.1.1.0;
      own = ap (λ (stamp : Stamp). stamp.mark) first.1.1.1 ∙ top.1.1;
    }

-- ---- the law

pub behind_own : BehindOwnIsTheStart
behind_own setting state core sessions table chunk pos place shown number session now current is_open unmarked own =
    let has = own_record setting state core sessions table chunk pos place shown number session now current is_open unmarked own in
    ap (λ (chain : List (Undo Image)). cell_of (before_newest before place.version chain)) has.chain_is ∙ (behind_counted has ∙ counted_start has)
