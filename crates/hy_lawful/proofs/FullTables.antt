-- Where a transaction was told that a table is full, the first rows and what may have taken room are at least as many as its positions.
use Rattle.std.proofs.Common.{◌≡◌, ℕ, zero, suc, ◌+◌, ◌<◌, ◌≤◌, List, [], ◌∷◌, Option, None, Some, Bool, true, false, not, is_some, ltb, cond, get_or}
use Rattle.std.proofs.Common.{length, refl, ap, sym, ◌∙◌, subst, arith}
use Rattle.std.proofs.Common.{inl, inr, ◌⊎◌}
use Rattle.std.proofs.Math.ListN.{get_or-eq_default}
use Rattle.std.specs.Prelude.{slice_get, filter, find, sum_by, ◌||◌, ◌==◌}
use Rattle.std.specs.List.{AllByRecursion, list_any}
use Rattle.std.proofs.lemmas.Bool.{cases_Bool, cases_lt, eq-eqb, lt-ltb, ltb-true}
use Rattle.std.proofs.lemmas.List.Sums.{sum_by-cons}
use Rattle.std.proofs.lemmas.Option.{same_Some}
use Rattle.hy_bound.specs.declared.Bound.{Bound}
use Rattle.hy_bound.specs.declared.Ending.{Ending}
use Rattle.hy_bound.specs.declared.Ending.TheVariants.{Committed, Read, RolledBack, Conflict, Invalid, Range, Full}
use Rattle.hy_render.specs.declared.TxnOutcome.{TxnOutcome}
use Rattle.hy_render.specs.declared.Outcome.{Outcome}
use Rattle.hy_machine.specs.declared.Setting.{Setting}
use Rattle.hy_machine.specs.States.{State, Open, Begun, Finished}
use Rattle.hy_machine.specs.Positions.{item_at}
use Rattle.hy_machine.specs.Tables.{Cell, capacity}
use Rattle.hy_machine.specs.Sessions.{session_at, snapshot}
use Rattle.hy_machine.specs.Outcomes.{placed_in, placed_from, txn_outcome_of, outcome_of}
use Rattle.hy_machine.specs.Runs.{IsReached}
use Rattle.hy_lawful.specs.Outcomes.{is_label, committed_at}
use Rattle.hy_lawful.specs.Overlaps.{is_below, may_take_room, IsFull, NamesFull}
use Rattle.hy_lawful.specs.Reached.{statements_at}
use Rattle.hy_lawful.specs.Rooms.{how_many, has_placed}
use Rattle.hy_lawful.proofs.Booleans.{and_left, and_true, or_first, or_second}
use Rattle.hy_lawful.proofs.Fits.{FitsTables, OpenFits, NowFits, Fits}
use Rattle.hy_lawful.proofs.Followers.{done_fits}
use Rattle.hy_lawful.proofs.Lists.{all_kept, all_so}
use Rattle.hy_lawful.proofs.Outcomes.{each_outcome, outcome_found}
use Rattle.hy_lawful.proofs.Over.{IsOver, HasCommitted, entry_committed}
use Rattle.hy_lawful.proofs.FullCounts.{one_if, if_most, either, none_pass}
use Rattle.hy_lawful.proofs.FullKeeps.{beguns_from}
use Rattle.hy_lawful.proofs.FullOverlaps.{overlap_told, swapped}
use Rattle.hy_lawful.proofs.FullPlaced.{reached_placed}
use Rattle.hy_lawful.proofs.FullRoom.{Placed, Accounted, of_first, of_own, of_earlier, of_rival}
use Rattle.hy_lawful.proofs.FullPassed.{EndRoom}
use Rattle.hy_lawful.proofs.FullSteps.{ended_room}

-- ---- counting

all_pass : (n : ℕ) → n ≤ how_many (λ pos. true) n
all_pass zero = omega arith
all_pass (suc n) = omega (arith, all_pass n)

at_most : (f : ℕ → Bool) (n : ℕ) → how_many f n ≤ n
at_most f zero = omega arith
at_most f (suc n) = omega (arith, if_most (f n), at_most f n)

below_many : (bound n : ℕ) → how_many (λ pos. ltb pos bound) n ≤ bound
below_many bound zero = omega arith
below_many bound (suc n) = elim (cases_Bool (ltb n bound)) [
  | inl t ↦ omega (arith, if_most (ltb n bound), at_most (λ pos. ltb pos bound) n, ltb-true n bound t)
  | inr f ↦ let none : one_if (ltb n bound) ≡ 0 = ap one_if f in omega (arith, none, below_many bound n)
]

or_either : (a b : Bool) → (a || b) ≡ true → (a ≡ true) ⊎ (b ≡ true)
or_either true b e = inl refl
or_either false b e = inr e

any_many : {X : Type 0} (test : X → ℕ → Bool) (xs : List X) (n : ℕ)
    → how_many (λ pos. list_any (λ x. test x pos) xs) n ≤ sum_by (λ x. how_many (test x) n) xs
any_many test [] n = let none : how_many (λ (pos : ℕ). false) n ≡ 0 = none_pass (λ pos. false) n (λ pos e. absurd cc) in omega (arith, none)
any_many test (x ∷ xs) n = omega (
  arith,
  any_many test xs n,
  sum_by-cons (λ x. how_many (test x) n) x xs,
  either (λ pos. test x pos || list_any (λ x. test x pos) xs) (test x) (λ pos. list_any (λ x. test x pos) xs) n
      (λ pos below h. or_either (test x pos) (list_any (λ x. test x pos) xs) h),
)

pub sum_less : {X : Type 0} (f g : X → ℕ) (xs : List X) → AllByRecursion (λ x. f x ≤ g x) xs → sum_by f xs ≤ sum_by g xs
sum_less f g [] h = omega arith
sum_less f g (x ∷ xs) h = omega (arith, h.0, sum_less f g xs h.1, sum_by-cons f x xs, sum_by-cons g x xs)

-- an item that is found is among those that are kept
any_kept : {X : Type 0} (p keep q : X → Bool) (xs : List X) (x : X) → find p xs ≡ Some x → keep x ≡ true → q x ≡ true
    → list_any q (filter keep xs) ≡ true
any_kept p keep q [] x e k h = absurd cc
any_kept {X = X} p keep q (y ∷ xs) x e k h = by_first (p y) refl (λ f. any_kept p keep q xs x f k h)
  where
    later : (b : Bool) → list_any q (filter keep xs) ≡ true → list_any q (cond b (y ∷ filter keep xs) (filter keep xs)) ≡ true
    later true ih = or_second (q y) (list_any q (filter keep xs)) ih
    later false ih = ih

    here : y ≡ x → list_any q (filter keep (y ∷ xs)) ≡ true
    here same =
        let kept : keep y ≡ true = ap keep same ∙ k in
        rw kept (or_first (q y) (list_any q (filter keep xs)) (ap q same ∙ h))

    by_first : (b : Bool) → p y ≡ b → (find p xs ≡ Some x → list_any q (filter keep xs) ≡ true) → list_any q (filter keep (y ∷ xs)) ≡ true
    by_first true t ih = here (same_Some y x (ap (λ (b : Bool). cond b (Some y) (find p xs)) (sym t) ∙ e))
    by_first false f ih = later (keep y) (ih (ap (λ (b : Bool). cond b (Some y) (find p xs)) (sym f) ∙ e))

-- ---- what a transaction of the outcome placed

abbrev numbered : List Finished → ℕ → Option Finished
numbered done zero = None
numbered done (suc before) = slice_get done before

abbrev placed_test : Setting → State → ℕ → ℕ → Option Finished → Bool
placed_test setting state table pos None = false
placed_test setting state table pos (Some finished) = has_placed (snapshot setting state finished.begun.prefix) finished.begun.own table pos

abbrev places : Setting → State → ℕ → TxnOutcome → ℕ → Bool
places setting state table txn pos = placed_test setting state table pos (numbered (session_at state txn.label.session).done txn.label.txn)

placed_item : {A : Type 0} (first : ℕ) (statements : List Bound) (took : List (Option ℕ)) (tables : List A) (table : ℕ) → table < length tables
    → get_or (placed_from first statements took tables) table 0 ≡ placed_in (first + table) statements took
placed_item first statements took [] table below = absurd (omega (arith, below))
placed_item first statements took (one ∷ tables) zero below =
    ap (λ (n : ℕ). placed_in n statements took) (let e : first ≡ first + 0 = omega arith in e)
placed_item first statements took (one ∷ tables) (suc table) below =
    placed_item (suc first) statements took tables table (omega (arith, below))
    ∙ ap (λ (n : ℕ). placed_in n statements took) (let e : suc first + table ≡ first + suc table = omega arith in e)

places_few : (setting : Setting) (state : State) → IsReached setting state → Fits setting state → (number before : ℕ) (finished : Finished)
    → slice_get (session_at state number).done before ≡ Some finished → (table : ℕ)
    → how_many (places setting state table (txn_outcome_of setting number before finished)) (capacity setting)
    ≤ get_or (txn_outcome_of setting number before finished).placed table 0
places_few setting state r fits number before finished e table =
    subst (λ (one : Option Finished). how_many (λ pos. placed_test setting state table pos one) (capacity setting)
    ≤ get_or (txn_outcome_of setting number before finished).placed table 0) (sym e) (elim (cases_lt table (length setting.first)) [
      | inl there ↦
          let item : get_or (txn_outcome_of setting number before finished).placed table 0
          ≡ placed_in (0 + table) (statements_at setting number before) finished.begun.took =
          placed_item 0 (statements_at setting number before) finished.begun.took setting.first table there in
          let same : placed_in (0 + table) (statements_at setting number before) finished.begun.took
          ≡ placed_in table (statements_at setting number before) finished.begun.took =
          ap (λ (n : ℕ). placed_in n (statements_at setting number before) finished.begun.took) (let s : 0 + table ≡ table = omega arith in s) in
          omega (arith, item, same, reached_placed setting state r number before finished e table)
      | inr past ↦
          let own : FitsTables setting finished.begun.own = (done_fits setting state fits number before finished e).own in
          let beyond : length finished.begun.own ≤ table = omega (arith, past, own.tables) in
          let none : how_many (has_placed (snapshot setting state finished.begun.prefix) finished.begun.own table) (capacity setting) ≡ 0 =
          none_pass (has_placed (snapshot setting state finished.begun.prefix) finished.begun.own table) (capacity setting)
          (λ pos h. let there : is_some (item_at finished.begun.own table pos) ≡ true = and_left (is_some (item_at finished.begun.own table pos))
          (not (is_some (item_at (snapshot setting state finished.begun.prefix) table pos))) h in
          let never : is_some (item_at finished.begun.own table pos) ≡ false =
          ap (λ (items : List (Option Cell)). is_some (get_or items pos None)) (get_or-eq_default finished.begun.own [] beyond) in absurd cc) in
          omega (arith, none)
    ])

-- ---- what is accounted for

-- in the end what was begun has ended
pub begun_ended : (done : List Finished) (now : Option Open) → now ≡ None → (before : ℕ) (begun : Begun) → slice_get (beguns_from done now) before ≡ Some begun
    → (finished : Finished) × ((slice_get done before ≡ Some finished) × (finished.begun ≡ begun))
begun_ended [] None n before begun e = absurd cc
begun_ended [] (Some current) n before begun e = absurd cc
begun_ended (first ∷ done) now n zero begun e = (first, (refl, same_Some first.begun begun e))
begun_ended (first ∷ done) now n (suc before) begun e = begun_ended done now n before begun e

pub now_none : (setting : Setting) (state : State) → IsOver setting state → (number : ℕ) (now : Option Open) → (session_at state number).now ≡ now → now ≡ None
now_none setting state over number None e = refl
now_none setting state over number (Some current) e =
    let present : OpenFits setting state.order state.mark number (session_at state number).done current =
    subst (NowFits setting state.order state.mark number (session_at state number).done) e (over.fits.sessions number).now in
    absurd (omega (arith, present.there, over.all number))

-- a transaction that may take room placed the position
takes_room : (setting : Setting) (state : State) (number before : ℕ) (finished : Finished) (table pos other after : ℕ) (rival : Finished)
    → slice_get (session_at state other).done after ≡ Some rival
    → has_placed (snapshot setting state rival.begun.prefix) rival.begun.own table pos ≡ true
    → may_take_room (outcome_of setting state) (txn_outcome_of setting number before finished) (txn_outcome_of setting other after rival) ≡ true
    → list_any (λ (txn : TxnOutcome). places setting state table txn pos)
    (filter (may_take_room (outcome_of setting state) (txn_outcome_of setting number before finished)) (outcome_of setting state).txns) ≡ true
takes_room setting state number before finished table pos other after rival e p room =
    any_kept (λ (txn : TxnOutcome). is_label txn.label (record { session = other; txn = suc after }))
    (may_take_room (outcome_of setting state) (txn_outcome_of setting number before finished))
    (λ (txn : TxnOutcome). places setting state table txn pos) (outcome_of setting state).txns (txn_outcome_of setting other after rival)
    (outcome_found setting state (record { session = other; txn = suc after }) after rival refl e) room
    (ap (placed_test setting state table pos) e ∙ p)

none_row : (cell : Cell) → cell ≡ None → not (is_some cell) ≡ true
none_row None e = refl
none_row (Some row) e = absurd cc

-- who placed it, in the end
record EndedPlaced (setting : Setting) (state : State) (number before table pos : ℕ) : Type 0 where
  finished : Finished
  at : slice_get (session_at state number).done before ≡ Some finished
  placed : has_placed (snapshot setting state finished.begun.prefix) finished.begun.own table pos ≡ true

ended_placed : (setting : Setting) (state : State) → IsOver setting state → (number before table pos : ℕ) → Placed setting state number before table pos
    → EndedPlaced setting state number before table pos
ended_placed setting state over number before table pos p =
    let found = begun_ended (session_at state number).done (session_at state number).now
    (now_none setting state over number (session_at state number).now refl) before p.begun p.has in
    record {
      finished = found.0;
      at = found.1.0;
      placed = subst (λ (begun : Begun). has_placed (snapshot setting state begun.prefix) begun.own table pos ≡ true) (sym found.1.1)
          (and_true (is_some (item_at p.begun.own table pos)) (not (is_some (item_at (snapshot setting state p.begun.prefix) table pos))) p.wrote
          (none_row (item_at (snapshot setting state p.begun.prefix) table pos) p.empty));
    }

accounted_room : (setting : Setting) (state : State) → IsOver setting state → (number before : ℕ) (finished : Finished)
    → slice_get (session_at state number).done before ≡ Some finished → (table pos : ℕ)
    → Accounted setting state number before finished.begun.prefix table pos
    → (ltb pos (length (get_or setting.first table [])) ≡ true) ⊎ (list_any (λ (txn : TxnOutcome). places setting state table txn pos)
    (filter (may_take_room (outcome_of setting state) (txn_outcome_of setting number before finished)) (outcome_of setting state).txns) ≡ true)
accounted_room setting state over number before finished e table pos (of_first h) = inl (lt-ltb pos (length (get_or setting.first table [])) h)
accounted_room setting state over number before finished e table pos (of_own p) =
    let one : EndedPlaced setting state number before table pos = ended_placed setting state over number before table pos p in
    inr (takes_room setting state number before finished table pos number before one.finished one.at one.placed
    (or_first (is_label (record { session = number; txn = suc before }) (record { session = number; txn = suc before })) _
    (and_true (number == number) (suc before == suc before) (eq-eqb number number refl) (eq-eqb (suc before) (suc before) refl))))
accounted_room setting state over number before finished e table pos (of_earlier rank label after at below t p) =
    let one : EndedPlaced setting state label.session after table pos = ended_placed setting state over label.session after table pos p in
    let committed : HasCommitted state label rank = entry_committed setting state over rank label (over.fits.ranked rank label at) in
    let same : one.finished ≡ committed.has.finished = same_Some one.finished committed.has.finished
    (sym one.at ∙ (ap (slice_get (session_at state label.session).done) (let s : after ≡ committed.has.before = omega (arith, t, committed.has.is) in s)
    ∙ committed.has.at)) in
    let ending : one.finished.ending ≡ Committed rank = ap (λ (f : Finished). f.ending) same ∙ committed.ending in
    inr (takes_room setting state number before finished table pos label.session after one.finished one.at one.placed
    (or_second (is_label (record { session = label.session; txn = suc after }) (record { session = number; txn = suc before })) _
    (or_first (is_below finished.begun.prefix (committed_at one.finished.ending)) _
    (ap (λ (one : Ending). is_below finished.begun.prefix (committed_at one)) ending ∙ lt-ltb rank finished.begun.prefix below))))
accounted_room setting state over number before finished e table pos (of_rival other after begin o p) =
    let one : EndedPlaced setting state other after table pos = ended_placed setting state over other after table pos p in
    inr (takes_room setting state number before finished table pos other after one.finished one.at one.placed
    (or_second (is_label (record { session = other; txn = suc after }) (record { session = number; txn = suc before })) _
    (or_second (is_below finished.begun.prefix (committed_at one.finished.ending)) _
    (overlap_told setting state other after begin number before finished.begun.prefix
    (swapped state number before finished.begun.prefix other after begin o) one.finished finished one.at e))))

-- ---- full tables

is_full : (setting : Setting) (state : State) → IsReached setting state → IsOver setting state → (number before : ℕ) (finished : Finished)
    → slice_get (session_at state number).done before ≡ Some finished → (table : ℕ)
    → ((pos : ℕ) → pos < capacity setting → Accounted setting state number before finished.begun.prefix table pos)
    → IsFull setting (outcome_of setting state) (txn_outcome_of setting number before finished) table
is_full setting state r over number before finished e table all =
    let outcome : Outcome = outcome_of setting state in
    let kept : List TxnOutcome = filter (may_take_room outcome (txn_outcome_of setting number before finished)) outcome.txns in
    let first : ℕ = length (get_or setting.first table []) in
    omega (
      arith,
      all_pass (capacity setting),
      either (λ pos. true) (λ pos. ltb pos first) (λ pos. list_any (λ (txn : TxnOutcome). places setting state table txn pos) kept) (capacity setting)
          (λ pos below h. accounted_room setting state over number before finished e table pos (all pos below)),
      below_many first (capacity setting),
      any_many (places setting state table) kept (capacity setting),
      sum_less (λ (txn : TxnOutcome). how_many (places setting state table txn) (capacity setting)) (λ (txn : TxnOutcome). get_or txn.placed table 0) kept
          (all_kept (λ (txn : TxnOutcome). how_many (places setting state table txn) (capacity setting) ≤ get_or txn.placed table 0)
          (may_take_room outcome (txn_outcome_of setting number before finished)) outcome.txns
          (all_so (λ (txn : TxnOutcome). how_many (places setting state table txn) (capacity setting) ≤ get_or txn.placed table 0)
          (λ (txn : TxnOutcome). may_take_room outcome (txn_outcome_of setting number before finished) txn ≡ true
          → how_many (places setting state table txn) (capacity setting) ≤ get_or txn.placed table 0) outcome.txns (λ txn h k. h)
          (each_outcome setting (λ (txn : TxnOutcome). how_many (places setting state table txn) (capacity setting) ≤ get_or txn.placed table 0) state
          (λ number before finished e. places_few setting state r over.fits number before finished e table)))),
    )

by_ending : (setting : Setting) (state : State) → IsReached setting state → IsOver setting state → (number before : ℕ) (finished : Finished)
    → slice_get (session_at state number).done before ≡ Some finished → (ending : Ending)
    → EndRoom setting state number before finished.begun.prefix ending
    → NamesFull setting (outcome_of setting state) (txn_outcome_of setting number before finished) ending
by_ending setting state r over number before finished e (Committed rank) h = tt
by_ending setting state r over number before finished e Read h = tt
by_ending setting state r over number before finished e RolledBack h = tt
by_ending setting state r over number before finished e (Conflict table pos other) h = tt
by_ending setting state r over number before finished e (Invalid table pos other statement) h = tt
by_ending setting state r over number before finished e (Range table pos) h = tt
by_ending setting state r over number before finished e (Full table) h = is_full setting state r over number before finished e table h

pub full_tables : (setting : Setting) (state : State) → IsReached setting state → IsOver setting state
    → AllByRecursion (λ (txn : TxnOutcome). NamesFull setting (outcome_of setting state) txn txn.ending) (outcome_of setting state).txns
full_tables setting state r over =
    each_outcome setting (λ (txn : TxnOutcome). NamesFull setting (outcome_of setting state) txn txn.ending) state
    (λ number before finished e. by_ending setting state r over number before finished e finished.ending
    (ended_room setting state r number before finished e))
