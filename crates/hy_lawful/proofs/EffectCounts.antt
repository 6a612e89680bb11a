-- The statements of a transaction write as many positions without a row as their INSERTs took.
use Rattle.std.proofs.Common.{◌≡◌, ℕ, zero, suc, ◌+◌, ◌<◌, ◌≤◌, List, [], ◌∷◌, Option, None, Some, Ok, Bool, true, false}
use Rattle.std.proofs.Common.{not, is_some, get_or, refl, ap, sym, ◌∙◌, subst, arith, inl, inr, ◌⊎◌}
use Rattle.std.proofs.Math.ListN.{set}
use Rattle.std.specs.Prelude.{◌&&◌, ◌==◌}
use Rattle.std.specs.List.{AllByRecursion, range_with_len}
use Rattle.std.proofs.lemmas.Bool.{cases_Bool, cases_eq, cases_lt, eqb-true}
use Rattle.std.proofs.lemmas.Option.{same_Some}
use Rattle.hy_value.specs.declared.Value.{Value}
use Rattle.hy_bound.specs.declared.Bound.{Bound}
use Rattle.hy_bound.specs.declared.Bound.TheVariants.{Select, Group, Insert, Update, Delete, Savepoint, RollbackTo, Release}
use Rattle.hy_bound.specs.Savepoints.{Saved, saved_after, value_after}
use Rattle.hy_bound.specs.declared.Record.{Record}
use Rattle.hy_bound.specs.declared.Reply.TheVariants as reply
use Rattle.hy_bound.specs.declared.WriteKind.{WriteKind}
use Rattle.hy_bound.specs.declared.WriteKind.TheVariants as kind
use Rattle.hy_bound.specs.Condition.{Condition}
use Rattle.hy_machine.specs.declared.Setting.{Setting}
use Rattle.hy_machine.specs.Writes.{Write, blank_own, with_write, with_writes}
use Rattle.hy_machine.specs.Outcomes.{inserts_into, placed_by, placed_in}
use Rattle.hy_machine.specs.Positions.{item_at}
use Rattle.hy_machine.specs.Tables.{Cell, Tables, Own, capacity, covered, over}
use Rattle.hy_machine.specs.Visits.{verdict}
use Rattle.hy_replay.specs.BagLaws.{IsPosition}
use Rattle.hy_replay.specs.Laws.{AreTables}
use Rattle.hy_replay.specs.TakenBack.{back_stays}
use Rattle.hy_replay.specs.Ran.{One, Ran, has_key_at, placed_at, writes_at, changed_by, one, taken_back, ran_from}
use Rattle.hy_lawful.specs.EffectRows.{InsertsCountPositions}
use Rattle.hy_lawful.specs.Rooms.{how_many, has_placed}
use Rattle.hy_lawful.proofs.Booleans.{and_left, and_right, and_true}
use Rattle.hy_lawful.proofs.Fits.{FitsTables}
use Rattle.hy_lawful.proofs.FullCounts.{one_if, fewer, none_pass, AllRowed, rowed_count, insert_count, if_less}
use Rattle.hy_lawful.proofs.PassSteps.{blank_items}
use Rattle.hy_lawful.proofs.PassTables.{covered_at}
use Rattle.hy_lawful.proofs.RunAnswers.{Went, went}
use Rattle.hy_lawful.proofs.Tables.{blank_fits, writes_fit}
use Rattle.hy_lawful.proofs.WroteBacks.{after_holds, back_fits, back_room}
use Rattle.hy_lawful.proofs.WroteCounts.{sweep_all, selects_row}
use Rattle.hy_lawful.proofs.WroteEnds.{blank_room}
use Rattle.hy_lawful.proofs.WroteFollows.{Room, writes_room, put_here}
use Rattle.hy_lawful.proofs.WroteRows.{IsChanged, changed_so, chosen_so}
use Rattle.hy_lawful.proofs.PassWritten.{writes_keep as writes_some}

-- ---- counts

below_last : (place n : ℕ) → place < suc n → (place ≡ n → ⊥) → place < n
below_last place n below apart = elim (cases_lt place n) [
  | inl less ↦ less
  | inr more ↦ absurd (apart (let same : place ≡ n = omega (arith, below, more) in same))
]

-- one of those that pass a test didn't pass another
one_less : (f g : ℕ → Bool) (place n : ℕ) → ((pos : ℕ) → f pos ≡ true → g pos ≡ true) → place < n → f place ≡ false → g place ≡ true
    → how_many f n + 1 ≤ how_many g n
one_less f g place zero each below fails passes = absurd (omega (arith, below))
one_less f g place (suc n) each below fails passes = elim (cases_eq place n) [
  | inl same ↦
      let here : one_if (f n) ≡ 0 = ap (λ (pos : ℕ). one_if (f pos)) (sym same) ∙ ap one_if fails in
      let there : one_if (g n) ≡ 1 = ap (λ (pos : ℕ). one_if (g pos)) (sym same) ∙ ap one_if passes in
      omega (arith, here, there, fewer f g n (λ pos less. each pos))
  | inr apart ↦
      let short : place < n = below_last place n below apart in omega (arith, if_less (f n) (g n) (each n), one_less f g place n each short fails passes)
]

-- tests alike
same_count : (f g : ℕ → Bool) (n : ℕ) → ((pos : ℕ) → f pos ≡ g pos) → how_many f n ≡ how_many g n
same_count f g zero same = refl
same_count f g (suc n) same = omega (arith, same_count f g n same, ap one_if (same n))

-- ---- own writes grow

set_some : (items : List (Option Cell)) (at : ℕ) (cell : Cell) (pos : ℕ) → is_some (get_or items pos None) ≡ true
    → is_some (get_or (set items at (Some cell)) pos None) ≡ true
set_some [] at cell pos h = h
set_some (one ∷ items) zero cell zero h = refl
set_some (one ∷ items) zero cell (suc pos) h = h
set_some (one ∷ items) (suc at) cell zero h = h
set_some (one ∷ items) (suc at) cell (suc pos) h = set_some items at cell pos h

put_some : (own : Own) (written at : ℕ) (cell : Cell) (table pos : ℕ) → is_some (item_at own table pos) ≡ true
    → is_some (item_at (set own written (set (get_or own written []) at (Some cell))) table pos) ≡ true
put_some [] written at cell table pos h = h
put_some (items ∷ own) zero at cell zero pos h = set_some items at cell pos h
put_some (items ∷ own) zero at cell (suc table) pos h = h
put_some (items ∷ own) (suc written) at cell zero pos h = h
put_some (items ∷ own) (suc written) at cell (suc table) pos h = put_some own written at cell table pos h

-- what was placed stays placed
stays_placed : (tables : Tables) (own : Own) (all : List Write) (table pos : ℕ) → has_placed tables own table pos ≡ true
    → has_placed tables (with_writes own all) table pos ≡ true
stays_placed tables own all table pos h =
    let empty : Bool = not (is_some (item_at tables table pos)) in
    and_true (is_some (item_at (with_writes own all) table pos)) empty
    (writes_some own all table pos (and_left (is_some (item_at own table pos)) empty h)) (and_right (is_some (item_at own table pos)) empty h)

-- ---- statements

-- own writes that have the positions of a table
record HasTable (setting : Setting) (own : Own) (table : ℕ) : Type 0 where
  fits : FitsTables setting own
  room : (pos : ℕ) → pos < capacity setting → Room own table pos

has_more : (setting : Setting) (own : Own) (table : ℕ) (all : List Write) → HasTable setting own table → HasTable setting (with_writes own all) table
has_more setting own table all h =
    record { fits = writes_fit setting own all h.fits; room = λ pos below. writes_room own all table pos (h.room pos below) }

-- what a statement leaves, and how many positions of a table it took
record Counted (setting : Setting) (tables : Tables) (own later : Own) (table count : ℕ) : Type 0 where
  has : HasTable setting later table
  count_is : how_many (has_placed tables later table) (capacity setting) ≡ count + how_many (has_placed tables own table) (capacity setting)

seen_row : (under : Cell) (item : Option Cell) → is_some (covered (λ (one : Cell). one) under item) ≡ true
    → (is_some item ≡ true) ⊎ (is_some under ≡ true)
seen_row under None h = inr h
seen_row under (Some cell) h = inl refl

-- an UPDATE or a DELETE writes no position that had no row and wasn't written
change_counts : (setting : Setting) (tables : Tables) (own : Own) (kind : WriteKind) (pred : Condition) (of : ℕ) (all : List Write) (table : ℕ)
    → AreTables setting tables → HasTable setting own table → writes_at kind pred (over tables own) of (range_with_len 0 (capacity setting)) ≡ Ok all
    → Counted setting tables own (with_writes own all) table 0
change_counts setting tables own kind pred of all table are h e =
    let rowed : AllRowed tables own all =
    sweep_all (λ (write : Write). (is_some (item_at own write.table write.pos) ≡ true) ⊎ (is_some (item_at tables write.table write.pos) ≡ true)) of
    (λ pos. verdict kind pred of pos None (item_at (over tables own) of pos))
    (λ pos cell j. seen_row (item_at tables of pos) (item_at own of pos)
    (ap is_some (sym (covered_at setting (λ (item : Cell). item) tables own are h.fits of pos))
    ∙ selects_row kind pred of pos (item_at (over tables own) of pos) cell j))
    (range_with_len 0 (capacity setting)) all e in
    record {
      has = has_more setting own table all h;
      count_is = omega (
        arith,
        rowed_count tables own all rowed table (capacity setting),
        fewer (has_placed tables own table) (has_placed tables (with_writes own all) table) (capacity setting)
            (λ pos below. stays_placed tables own all table pos),
      );
    }

no_item : {X : Type 0} (item : Option X) → not (is_some item) ≡ true → is_some item ≡ false
no_item None h = refl
no_item (Some x) h = absurd cc

-- the write of an INSERT
abbrev placing : ℕ → ℕ → List Value → Write
placing of at new = record { table = of; pos = at; cell = Some new }

-- an INSERT places one position of its table
place_counts : (setting : Setting) (tables : Tables) (own : Own) (of at : ℕ) (new : List Value) (table : ℕ) → HasTable setting own table
    → at < capacity setting → not (is_some (item_at own of at)) ≡ true → not (is_some (item_at tables of at)) ≡ true
    → Counted setting tables own (with_write own (placing of at new)) table (placed_by table (Insert of new) (Some at))
place_counts setting tables own of at new table h below unwritten empty = record {
  has = has_more setting own table (placing of at new ∷ []) h;
  count_is = elim (cases_Bool (of == table)) [
    | inl t ↦
        let same : of ≡ table = eqb-true of table t in
        let taken : placed_by table (Insert of new) (Some at) ≡ 1 = ap one_if t in
        let more : how_many (has_placed tables own table) (capacity setting) + 1
        ≤ how_many (has_placed tables (with_write own (placing of at new)) table) (capacity setting) =
        one_less (has_placed tables own table) (has_placed tables (with_write own (placing of at new)) table) at (capacity setting)
        (stays_placed tables own (placing of at new ∷ []) table) below
        (ap (λ (b : Bool). b && not (is_some (item_at tables table at)))
        (no_item (item_at own table at) (subst (λ (n : ℕ). not (is_some (item_at own n at)) ≡ true) same unwritten)))
        (and_true (is_some (item_at (with_write own (placing of at new)) table at)) (not (is_some (item_at tables table at)))
        (ap is_some (subst (λ (n : ℕ). item_at (with_write own (placing n at new)) table at ≡ Some (Some new))
        (sym same) (put_here own (Some new) table at (h.room at below))))
        (subst (λ (n : ℕ). not (is_some (item_at tables n at)) ≡ true) same empty)) in
        omega (arith, taken, more, insert_count tables own of at new table (capacity setting))
    | inr f ↦
        let taken : placed_by table (Insert of new) (Some at) ≡ 0 = ap one_if f in
        let kept : how_many (has_placed tables own table) (capacity setting)
        ≤ how_many (has_placed tables (with_write own (placing of at new)) table) (capacity setting) =
        fewer (has_placed tables own table) (has_placed tables (with_write own (placing of at new)) table) (capacity setting)
        (λ pos less. stays_placed tables own (placing of at new ∷ []) table pos) in
        omega (arith, taken, kept, insert_count tables own of at new table (capacity setting))
  ];
}

insert_counts : (setting : Setting) (tables : Tables) (own : Own) (of : ℕ) (new : List Value) (records : List Record) (at : Option ℕ) (first : One)
    (table : ℕ) → HasTable setting own table → IsPosition setting at → placed_at setting tables own of new records at ≡ Some first
    → Counted setting tables own first.own table (placed_by table (Insert of new) at)
insert_counts setting tables own of new records None first table h p e =
    let c = chosen_so (has_key_at setting (over tables own) of new) (record { own = own; reply = reply.Duplicate; records = records }) first e in
    subst (λ (later : Own). Counted setting tables own later table 0) (ap (λ (one : One). one.own) c.1) (record { has = h; count_is = omega arith })
insert_counts setting tables own of new records (Some pos) first table h p e =
    let placed : One = record { own = with_write own (placing of pos new); reply = reply.Inserted; records = records } in
    let unseen : Bool = not (has_key_at setting (over tables own) of new) in
    let unwritten : Bool = not (is_some (item_at own of pos)) in
    let empty : Bool = not (is_some (item_at tables of pos)) in
    let c = chosen_so (unseen && unwritten && empty) placed first e in
    subst (λ (later : Own). Counted setting tables own later table (placed_by table (Insert of new) (Some pos))) (ap (λ (one : One). one.own) c.1)
    (place_counts setting tables own of pos new table h p (and_right unseen unwritten (and_left (unseen && unwritten) empty c.0))
    (and_right (unseen && unwritten) empty c.0))

placed_none : (table : ℕ) (statement : Bound) (at : Option ℕ) → inserts_into table statement ≡ false → placed_by table statement at ≡ 0
placed_none table statement None f = refl
placed_none table statement (Some pos) f = ap one_if f

reads_count : (setting : Setting) (tables : Tables) (own : Own) (first one : One) (table count : ℕ) → HasTable setting own table → one.own ≡ own
    → Some one ≡ Some first → count ≡ 0 → Counted setting tables own first.own table count
reads_count setting tables own first one table count h same e z =
    subst (λ (later : Own). Counted setting tables own later table count) (sym same ∙ ap (λ (one : One). one.own) (same_Some one first e))
    (record { has = h; count_is = omega (arith, z) })

changes_count : (setting : Setting) (tables : Tables) (own : Own) (kind : WriteKind) (pred : Condition) (of : ℕ) (records : List Record) (first : One)
    (table count : ℕ) → AreTables setting tables → HasTable setting own table
    → changed_by own kind records (writes_at kind pred (over tables own) of (range_with_len 0 (capacity setting))) ≡ Some first
    → count ≡ 0 → Counted setting tables own first.own table count
changes_count setting tables own kind pred of records first table count are h e z =
    let c : IsChanged own (writes_at kind pred (over tables own) of (range_with_len 0 (capacity setting))) first =
    changed_so own kind records (writes_at kind pred (over tables own) of (range_with_len 0 (capacity setting))) first e in
    subst (λ (later : Own). Counted setting tables own later table count) c.own_is
    (subst (Counted setting tables own (with_writes own c.all) table) (sym z) (change_counts setting tables own kind pred of c.all table are h c.swept))

one_counts : (setting : Setting) (tables : Tables) (own : Own) (number : ℕ) (statement : Bound) (at : Option ℕ) (first : One) (table : ℕ)
    → AreTables setting tables → HasTable setting own table → IsPosition setting at → one setting tables own number statement at ≡ Some first
    → Counted setting tables own first.own table (placed_by table statement at)
one_counts setting tables own number (Select from ons pred items) at first table are h p e =
    reads_count setting tables own first _ table _ h refl e (placed_none table (Select from ons pred items) at refl)
one_counts setting tables own number (Group of pred key aggregate) at first table are h p e =
    reads_count setting tables own first _ table _ h refl e (placed_none table (Group of pred key aggregate) at refl)
one_counts setting tables own number (Savepoint name) at first table are h p e =
    reads_count setting tables own first _ table _ h refl e (placed_none table (Savepoint name) at refl)
one_counts setting tables own number (RollbackTo name) at first table are h p e =
    reads_count setting tables own first _ table _ h refl e (placed_none table (RollbackTo name) at refl)
one_counts setting tables own number (Release name) at first table are h p e =
    reads_count setting tables own first _ table _ h refl e (placed_none table (Release name) at refl)
one_counts setting tables own number (Insert of new) at first table are h p e = insert_counts setting tables own of new _ at first table h p e
one_counts setting tables own number (Update of sets pred) at first table are h p e =
    changes_count setting tables own (kind.Set sets) pred of _ first table _ are h e (placed_none table (Update of sets pred) at refl)
one_counts setting tables own number (Delete of pred) at first table are h p e =
    changes_count setting tables own kind.Delete pred of _ first table _ are h e (placed_none table (Delete of pred) at refl)

-- ---- one after another

-- whoever goes back to a savepoint keeps the positions
back_counts : (setting : Setting) (tables : Tables) (own later : Own) (saved : List (Saved Own)) (statement : Bound) (table count : ℕ)
    → Counted setting tables own later table count → Counted setting tables own (value_after (taken_back tables) statement saved later) table count
back_counts setting tables own later saved statement table count c =
    after_holds (λ (other : Own). Counted setting tables own other table count) (taken_back tables) statement saved later c
    (λ was. record {
      has = record {
        fits = back_fits setting tables was later c.has.fits;
        room = λ pos below. back_room tables was later table pos (c.has.room pos below);
      };
      count_is = same_count (has_placed tables (taken_back tables was later) table) (has_placed tables later table) (capacity setting)
          (λ pos. ap (λ (b : Bool). b && not (is_some (item_at tables table pos))) (back_stays tables was later table pos))
          ∙ c.count_is;
    })

all_count : (setting : Setting) (tables : Tables) (own : Own) (saved : List (Saved Own)) (number : ℕ) (statements : List Bound)
    (took : List (Option ℕ)) (given : Ran) (table : ℕ)
    → AreTables setting tables → HasTable setting own table → AllByRecursion (IsPosition setting) took
    → ran_from setting tables own saved number statements took ≡ Some given → Counted setting tables own given.own table (placed_in table statements took)
all_count setting tables own saved number [] took given table are h p e =
    subst (λ (ran : Ran). Counted setting tables own ran.own table 0) (same_Some _ given e) (record { has = h; count_is = omega arith })
all_count setting tables own saved number (statement ∷ statements) [] given table are h p e = absurd cc
all_count setting tables own saved number (statement ∷ statements) (at ∷ took) given table are h p e =
    let w : Went setting tables own saved number statement statements at took given =
    went setting tables own saved number statement statements at took given e in
    let next : Own = value_after (taken_back tables) statement saved w.first.own in
    let first : Counted setting tables own next table (placed_by table statement at) =
    back_counts setting tables own w.first.own saved statement table (placed_by table statement at)
    (one_counts setting tables own number statement at w.first table are h p.0 w.first_is) in
    let rest : Counted setting tables next w.rest.own table (placed_in table statements took) =
    all_count setting tables next (saved_after statement saved w.first.own) (suc number) statements took w.rest table are first.has p.1 w.rest_is in
    subst (λ (ran : Ran). Counted setting tables own ran.own table (placed_by table statement at + placed_in table statements took)) w.both
    (record { has = rest.has; count_is = omega (arith, rest.count_is, first.count_is) })

pub inserts_count_positions : InsertsCountPositions
inserts_count_positions setting tables statements took given table are there p e =
    let start : HasTable setting (blank_own setting) table =
    record { fits = blank_fits setting; room = λ pos below. blank_room (capacity setting) setting.first table pos there below } in
    let all : Counted setting tables (blank_own setting) given.own table (placed_in table statements took) =
    all_count setting tables (blank_own setting) [] 1 statements took given table are start p e in
    let nothing : how_many (has_placed tables (blank_own setting) table) (capacity setting) ≡ 0 =
    none_pass (has_placed tables (blank_own setting) table) (capacity setting)
    (λ pos h. let there : is_some (item_at (blank_own setting) table pos) ≡ true =
    and_left (is_some (item_at (blank_own setting) table pos)) (not (is_some (item_at tables table pos))) h in
    let never : is_some (item_at (blank_own setting) table pos) ≡ false = ap is_some (blank_items (capacity setting) setting.first table pos) in absurd cc) in
    omega (arith, all.count_is, nothing)
