-- What the visits of a ROLLBACK TO make of what its transaction wrote: in the end its own writes, taken back.
use Rattle.std.proofs.Common.{◌≡◌, ℕ, zero, suc, ◌+◌, ◌-◌, ◌*◌, ◌/◌, ◌⊎◌, ◌<◌, ◌≤◌, List, [], Option, None, Some, Bool, true, false}
use Rattle.std.proofs.Common.{is_some, length, take, drop, refl, ap, sym, ◌∙◌, subst, arith, inl, inr}
use Rattle.std.proofs.Math.Nat.{div-mul-le_self, lt-div-mul-add}
use Rattle.std.specs.Prelude.{slice_get}
use Rattle.std.specs.Option.{unwrap_or}
use Rattle.std.proofs.lemmas.Bool.{cases_Bool, cases_eq}
use Rattle.std.proofs.lemmas.List.{take_all}
use Rattle.std.proofs.lemmas.Nat.{div-mul-add}
use Rattle.hy_bound.specs.declared.Bound.{Bound}
use Rattle.hy_bound.specs.Savepoints.{kept_by, back_from}
use Rattle.hy_bound.specs.SavedRelations.{BothKept, kept_alike}
use Rattle.hy_machine.specs.declared.Setting.{Setting}
use Rattle.hy_machine.specs.States.{State, Begun}
use Rattle.hy_machine.specs.Writes.{Write, blank_own, with_writes, is_among}
use Rattle.hy_machine.specs.Positions.{item_at}
use Rattle.hy_machine.specs.Tables.{Cell, Tables, Own, capacity, chunk_of}
use Rattle.hy_machine.specs.Sessions.{snapshot}
use Rattle.hy_machine.specs.Saving.{count_at, own_at, own_since, written_since, taken_back as taken_back_in}
use Rattle.hy_machine.specs.Kept.{OwnFits, TrailFits}
use Rattle.hy_machine.specs.OwnCells.{SamePlaces, same_places, more_places, places_many, places_long}
use Rattle.hy_machine.specs.OwnChunks.{written_apart, not_before, is_with_it, others_with_it}
use Rattle.hy_machine.specs.Trails.{with_more, trail_fits, own_still, since_own, then_stays, none_since, back_stays, back_seen, back_leaves}
use Rattle.hy_machine.specs.WrittenPlaces.{own_among, own_rows}
use Rattle.hy_replay.specs.Ran.{Ran, back_cell, taken_back}
use Rattle.hy_replay.specs.TakenBack.{same_items, back_item, back_many, back_long, back_is_seen}
use Rattle.hy_lawful.proofs.Fits.{FitsTables}
use Rattle.hy_lawful.proofs.Lists.{all_so, over_past}
use Rattle.hy_lawful.proofs.PassTables.{covered_at, tables_are}
use Rattle.hy_lawful.proofs.RunAnswers.{OwnBehind, IsRun}

-- ---- what so many visits have done

-- what is own at a position after a statement that left this goes back to its savepoint
abbrev pub gone_back : Setting → Tables → Begun → Ran → List ℕ → ℕ → ℕ → Option Cell
gone_back setting tables begun given name table pos =
    back_cell (item_at tables table pos) (item_at (own_at setting begun name) table pos) (item_at given.own table pos)

-- the chunks that so many visits took back
abbrev pub is_back : Setting → Begun → List ℕ → ℕ → ℕ → ℕ → Bool
is_back setting begun name visited table pos = is_among (take visited (written_since setting begun name)) table (chunk_of setting pos)

-- in the visited chunks the transaction's writes are taken back; in the others they are as the answered statements left them
pub record HasBacked (setting : Setting) (tables : Tables) (begun : Begun) (given : Ran) (visited : ℕ) (name : List ℕ) : Type 0 where
  pub places : SamePlaces begun.own given.own
  pub back : (table pos : ℕ) → is_back setting begun name visited table pos ≡ true
      → item_at begun.own table pos ≡ gone_back setting tables begun given name table pos
  pub left : (table pos : ℕ) → is_back setting begun name visited table pos ≡ false → item_at begun.own table pos ≡ item_at given.own table pos

pub nothing_backed : (setting : Setting) (tables : Tables) (begun : Begun) (given : Ran) (name : List ℕ) → given.own ≡ begun.own
    → HasBacked setting tables begun given 0 name
nothing_backed setting tables begun given name same = record {
  places = subst (SamePlaces begun.own) (sym same) (same_places begun.own);
  back = λ table pos t. absurd cc;
  left = λ table pos f. ap (λ (own : Own). item_at own table pos) (sym same);
}

-- ---- one more visit

back_same : (cell : Cell) (item : Option Cell) → back_cell cell item item ≡ item
back_same cell None = refl
back_same cell (Some kept) = refl

own_fits_tables : (setting : Setting) (own : Own) → OwnFits setting own → FitsTables setting own
own_fits_tables setting own fits = record {
  tables = omega (arith, fits.tables);
  positions = all_so (λ (cells : List (Option Cell)). length cells ≡ capacity setting) (λ (cells : List (Option Cell)). length cells ≤ capacity setting) own
      (λ cells long. omega (arith, long)) fits.positions;
}

own_fits : (setting : Setting) (begun : Begun) → TrailFits setting begun → OwnFits setting begun.own
own_fits setting begun trail = subst (OwnFits setting) (sym trail.own_is) (trail_fits setting begun.trail)

-- a visit of a chunk that was written since
record Visit (setting : Setting) (state : State) (begun : Begun) (given : Ran) (visited : ℕ) (name : List ℕ) (chunk : ℕ × ℕ) : Type 0 where
  trail : TrailFits setting begun
  fits : OwnFits setting begun.own
  here : slice_get (written_since setting begun name) visited ≡ Some chunk
  backed : HasBacked setting (snapshot setting state begun.prefix) begun given visited name

in_chunk : (setting : Setting) (chunk pos : ℕ) → chunk * setting.rows ≤ pos → pos < chunk * setting.rows + setting.rows → chunk_of setting pos ≡ chunk
in_chunk setting chunk pos low high =
    ap (λ (n : ℕ). n / setting.rows) (let same : pos ≡ chunk * setting.rows + (pos - chunk * setting.rows) = omega (arith, low) in same)
    ∙ div-mul-add chunk setting.rows (pos - chunk * setting.rows) (omega (arith, low, high))

kept_there : (setting : Setting) (begun : Begun) (name : List ℕ) (visited : ℕ) (chunk : ℕ × ℕ)
    → slice_get (written_since setting begun name) visited ≡ Some chunk → (kept : Option ℕ) → kept_by name begun.saved ≡ kept
    → (n : ℕ) × (kept_by name begun.saved ≡ Some n)
kept_there setting begun name visited chunk here None none =
    let never : None ≡ Some chunk = sym (ap (λ (chunks : List (ℕ × ℕ)). slice_get chunks visited) (none_since setting begun name none)) ∙ here in
    absurd cc
kept_there setting begun name visited chunk here (Some n) kept = (n, kept)

-- a position of the chunk goes back
inside : (setting : Setting) (state : State) (begun : Begun) (given : Ran) (visited : ℕ) (name : List ℕ) (chunk : ℕ × ℕ)
    → Visit setting state begun given visited name chunk → (pos : ℕ) → chunk_of setting pos ≡ chunk.1
    → item_at (with_writes begun.own (taken_back_in setting state begun name chunk.0 chunk.1)) chunk.0 pos
    ≡ gone_back setting (snapshot setting state begun.prefix) begun given name chunk.0 pos
inside setting state begun given visited name chunk v pos of = by_since (item_at since chunk.0 pos) refl
  where
    since : Own
    since = own_since setting begun name

    was : Own
    was = own_at setting begun name

    tables : Tables
    tables = snapshot setting state begun.prefix

    left : item_at begun.own chunk.0 pos ≡ item_at given.own chunk.0 pos
    left = v.backed.left chunk.0 pos
        (ap (is_among (take visited (written_since setting begun name)) chunk.0) of
        ∙ not_before (written_since setting begun name) visited chunk.0 chunk.1 (written_apart setting since) v.here)

    by_since : (item : Option Cell) → item_at since chunk.0 pos ≡ item
        → item_at (with_writes begun.own (taken_back_in setting state begun name chunk.0 chunk.1)) chunk.0 pos
        ≡ gone_back setting tables begun given name chunk.0 pos
    by_since None none =
        back_leaves setting state begun name begun.own chunk.0 chunk.1 chunk.0 pos (λ same low high. none)
        ∙ (left ∙ (sym (back_same (item_at tables chunk.0 pos) (item_at given.own chunk.0 pos))
        ∙ ap (λ (item : Option Cell). back_cell (item_at tables chunk.0 pos) item (item_at given.own chunk.0 pos))
        (sym left ∙ own_still setting begun name v.trail chunk.0 pos none)))
    by_since (Some cell) is =
        let rows : 0 < setting.rows =
        own_rows setting since chunk.0 pos (trail_fits setting (drop (count_at begun name) begun.trail)) (ap is_some is) in
        back_seen setting state begun name begun.own chunk.0 chunk.1 pos v.fits
        (subst (λ (n : ℕ). n * setting.rows ≤ pos) of (div-mul-le_self pos setting.rows))
        (subst (λ (n : ℕ). pos < n * setting.rows + setting.rows) of (lt-div-mul-add rows)) (ap is_some is)
        ∙ (ap (λ (one : Cell). Some one)
        (covered_at setting (λ (own : Cell). own) tables was (tables_are setting state.order begun.prefix)
        (own_fits_tables setting was (trail_fits setting (take (count_at begun name) begun.trail))) chunk.0 pos)
        ∙ (sym (back_is_seen (item_at tables chunk.0 pos) (item_at was chunk.0 pos) cell)
        ∙ ap (back_cell (item_at tables chunk.0 pos) (item_at was chunk.0 pos)) (sym (sym left ∙ since_own setting begun name v.trail chunk.0 pos cell is))))

-- and any other position stays
outside : (setting : Setting) (state : State) (begun : Begun) (name : List ℕ) (chunk : ℕ × ℕ) (table pos : ℕ)
    → ((table ≡ chunk.0) × (chunk_of setting pos ≡ chunk.1) → ⊥)
    → item_at (with_writes begun.own (taken_back_in setting state begun name chunk.0 chunk.1)) table pos ≡ item_at begun.own table pos
outside setting state begun name chunk table pos apart =
    back_leaves setting state begun name begun.own chunk.0 chunk.1 table pos
    (λ same low high. absurd (apart (same, in_chunk setting chunk.1 pos low high)))

both_or_not : (a b c d : ℕ) → ((a ≡ b) × (c ≡ d)) ⊎ ((a ≡ b) × (c ≡ d) → ⊥)
both_or_not a b c d = elim (cases_eq a b) [
  | inr n ↦ inr (λ e. n e.0)
  | inl e ↦ elim (cases_eq c d) [
    | inl f ↦ inl (e, f)
    | inr n ↦ inr (λ e. n e.1)
  ]
]

pub one_more_backed : (setting : Setting) (state : State) (begun : Begun) (given : Ran) (visited : ℕ) (name : List ℕ) (chunk : ℕ × ℕ)
    → TrailFits setting begun → slice_get (written_since setting begun name) visited ≡ Some chunk
    → HasBacked setting (snapshot setting state begun.prefix) begun given visited name
    → HasBacked setting (snapshot setting state begun.prefix) (with_more begun (taken_back_in setting state begun name chunk.0 chunk.1)) given
    (suc visited) name
one_more_backed setting state begun given visited name chunk trail here backed = record {
  places = more_places begun.own given.own writes backed.places;
  back = λ table pos t. back_now table pos t (both_or_not table chunk.0 (chunk_of setting pos) chunk.1);
  left = λ table pos f. left_now table pos f (both_or_not table chunk.0 (chunk_of setting pos) chunk.1);
}
  where
    writes : List Write
    writes = taken_back_in setting state begun name chunk.0 chunk.1

    tables : Tables
    tables = snapshot setting state begun.prefix

    chunks : List (ℕ × ℕ)
    chunks = written_since setting begun name

    visit : Visit setting state begun given visited name chunk
    visit = record { trail = trail; fits = own_fits setting begun trail; here = here; backed = backed }

    still : written_since setting (with_more begun writes) name ≡ chunks
    still = back_stays setting state begun name visited chunk trail here

    was_still : own_at setting (with_more begun writes) name ≡ own_at setting begun name
    was_still = let kept = kept_there setting begun name visited chunk here (kept_by name begun.saved) refl in
        then_stays setting begun name kept.0 writes trail kept.1

    back_now : (table pos : ℕ) → is_back setting (with_more begun writes) name (suc visited) table pos ≡ true
        → ((table ≡ chunk.0) × (chunk_of setting pos ≡ chunk.1)) ⊎ ((table ≡ chunk.0) × (chunk_of setting pos ≡ chunk.1) → ⊥)
        → item_at (with_writes begun.own writes) table pos ≡ gone_back setting tables (with_more begun writes) given name table pos
    back_now table pos t (inl in_it) =
        subst (λ (n : ℕ). item_at (with_writes begun.own writes) n pos ≡ gone_back setting tables (with_more begun writes) given name n pos) (sym in_it.0)
        (inside setting state begun given visited name chunk visit pos in_it.1
        ∙ ap (λ (was : Own). back_cell (item_at tables chunk.0 pos) (item_at was chunk.0 pos) (item_at given.own chunk.0 pos)) (sym was_still))
    back_now table pos t (inr apart) =
        outside setting state begun name chunk table pos apart
        ∙ (backed.back table pos
        (sym (others_with_it chunks visited chunk.0 chunk.1 table (chunk_of setting pos) here apart)
        ∙ (ap (λ (of : List (ℕ × ℕ)). is_among (take (suc visited) of) table (chunk_of setting pos)) (sym still) ∙ t))
        ∙ ap (λ (was : Own). back_cell (item_at tables table pos) (item_at was table pos) (item_at given.own table pos)) (sym was_still))

    left_now : (table pos : ℕ) → is_back setting (with_more begun writes) name (suc visited) table pos ≡ false
        → ((table ≡ chunk.0) × (chunk_of setting pos ≡ chunk.1)) ⊎ ((table ≡ chunk.0) × (chunk_of setting pos ≡ chunk.1) → ⊥)
        → item_at (with_writes begun.own writes) table pos ≡ item_at given.own table pos
    left_now table pos f (inl in_it) =
        let is : is_among (take (suc visited) chunks) table (chunk_of setting pos) ≡ true =
        ap (λ (n : ℕ). is_among (take (suc visited) chunks) n (chunk_of setting pos)) in_it.0
        ∙ (ap (is_among (take (suc visited) chunks) chunk.0) in_it.1 ∙ is_with_it chunks visited chunk.0 chunk.1 here) in
        let not : is_among (take (suc visited) chunks) table (chunk_of setting pos) ≡ false =
        ap (λ (of : List (ℕ × ℕ)). is_among (take (suc visited) of) table (chunk_of setting pos)) (sym still) ∙ f in
        absurd cc
    left_now table pos f (inr apart) =
        outside setting state begun name chunk table pos apart
        ∙ backed.left table pos
        (sym (others_with_it chunks visited chunk.0 chunk.1 table (chunk_of setting pos) here apart)
        ∙ (ap (λ (of : List (ℕ × ℕ)). is_among (take (suc visited) of) table (chunk_of setting pos)) (sym still) ∙ f))

-- ---- all is back

no_chunks : (n table chunk : ℕ) → is_among (take n []) table chunk ≡ false
no_chunks zero table chunk = refl
no_chunks (suc n) table chunk = refl

-- where no chunk is left what is own is what the answered statements left, taken back
pub all_backed : (setting : Setting) (tables : Tables) (statements : List Bound) (begun : Begun) (given : Ran) (visited : ℕ) (name : List ℕ)
    → TrailFits setting begun → IsRun setting tables statements begun given → slice_get (written_since setting begun name) visited ≡ None
    → HasBacked setting tables begun given visited name → back_from (taken_back tables) given.own (kept_by name given.saved) ≡ begun.own
all_backed setting tables statements begun given visited name trail run none backed =
    by_kept (kept_by name begun.saved) (kept_by name given.saved) refl (kept_alike (OwnBehind setting begun.trail) name begun.saved given.saved run.saved)
  where
    chunks : List (ℕ × ℕ)
    chunks = written_since setting begun name

    nothing_since : (table pos : ℕ) → is_back setting begun name visited table pos ≡ false → (item : Option Cell)
        → item_at (own_since setting begun name) table pos ≡ item → item_at begun.own table pos ≡ item_at (own_at setting begun name) table pos
    nothing_since table pos f None is = own_still setting begun name trail table pos is
    nothing_since table pos f (Some cell) is =
        let there : is_among chunks table (chunk_of setting pos) ≡ true =
        own_among setting (own_since setting begun name) table pos (trail_fits setting (drop (count_at begun name) begun.trail)) (ap is_some is) in
        let not : is_among chunks table (chunk_of setting pos) ≡ false =
        ap (λ (of : List (ℕ × ℕ)). is_among of table (chunk_of setting pos)) (sym (take_all visited chunks (over_past chunks visited none))) ∙ f in
        absurd cc

    at : (table pos : ℕ) → gone_back setting tables begun given name table pos ≡ item_at begun.own table pos
    at table pos = elim (cases_Bool (is_back setting begun name visited table pos)) [
      | inl t ↦ sym (backed.back table pos t)
      | inr f ↦
          let left : item_at begun.own table pos ≡ item_at given.own table pos = backed.left table pos f in
          let was : item_at begun.own table pos ≡ item_at (own_at setting begun name) table pos =
          nothing_since table pos f (item_at (own_since setting begun name) table pos) refl in
          ap (λ (item : Option Cell). back_cell (item_at tables table pos) item (item_at given.own table pos)) (sym was ∙ left)
          ∙ (back_same (item_at tables table pos) (item_at given.own table pos) ∙ sym left)
    ]

    by_kept : (count : Option ℕ) (was : Option Own) → kept_by name begun.saved ≡ count → BothKept (OwnBehind setting begun.trail) count was
        → back_from (taken_back tables) given.own was ≡ begun.own
    by_kept None None is h =
        sym (same_items begun.own given.own (places_many begun.own given.own backed.places) (places_long begun.own given.own backed.places) (λ table pos.
        backed.left table pos
        (ap (λ (of : List (ℕ × ℕ)). is_among (take visited of) table (chunk_of setting pos)) (none_since setting begun name is)
        ∙ no_chunks visited table (chunk_of setting pos))))
    by_kept None (Some was) is h = absurd h
    by_kept (Some count) None is h = absurd h
    by_kept (Some count) (Some was) is h =
        let was_is : was ≡ own_at setting begun name =
        h.own_is ∙ ap (λ (at : Option ℕ). with_writes (blank_own setting) (take (unwrap_or at (length begun.trail)) begun.trail)) (sym is) in
        same_items (taken_back tables was given.own) begun.own
        (back_many tables was given.own ∙ sym (places_many begun.own given.own backed.places))
        (λ table. back_long tables was given.own table ∙ sym (places_long begun.own given.own backed.places table))
        (λ table pos.
        back_item tables was given.own table pos
        ∙ (ap (λ (of : Own). back_cell (item_at tables table pos) (item_at of table pos) (item_at given.own table pos)) was_is ∙ at table pos))
