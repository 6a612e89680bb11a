-- A transaction wrote as many positions of a table where no row stood at its start as its inserts took.
use Rattle.std.proofs.Common.{◌≡◌, ℕ, suc, ◌+◌, ◌*◌, ◌<◌, List, [], ◌∷◌, Option, None, Some, Ok, Bool, true, false, length}
use Rattle.std.proofs.Common.{cond, not, is_some, take, refl, ap, sym, ◌∙◌, subst, arith, inl, inr}
use Rattle.std.specs.Prelude.{◌&&◌, ◌==◌, is_none}
use Rattle.std.specs.List.{AllByRecursion, range_with_len}
use Rattle.std.proofs.lemmas.Bool.{cases_Bool, eqb-true}
use Rattle.std.proofs.lemmas.Option.{same_Some}
use Rattle.hy_value.specs.declared.Value.{Value}
use Rattle.hy_bound.specs.declared.Bound.{Bound}
use Rattle.hy_bound.specs.declared.Bound.TheVariants.{Select, Group, Insert, Update, Delete, Savepoint, RollbackTo, Release}
use Rattle.hy_bound.specs.Savepoints.{Saved, saved_after, value_after}
use Rattle.hy_bound.specs.declared.Record.{Record}
use Rattle.hy_bound.specs.declared.Reply.TheVariants as reply
use Rattle.hy_bound.specs.declared.WriteKind.{WriteKind}
use Rattle.hy_bound.specs.declared.WriteKind.TheVariants as kind
use Rattle.hy_bound.specs.Condition.{Condition}
use Rattle.hy_bound.specs.declared.Ending.{Ending}
use Rattle.hy_bound.specs.declared.Ending.TheVariants.{Committed, Read, RolledBack, Conflict, Invalid, Range, Full}
use Rattle.hy_machine.specs.declared.Setting.{Setting}
use Rattle.hy_machine.specs.Writes.{Write, blank_own, with_write, with_writes}
use Rattle.hy_machine.specs.States.{Begun, Finished}
use Rattle.hy_machine.specs.Tables.{Entry, Cell, Tables, Own, capacity, covered, over}
use Rattle.hy_machine.specs.Positions.{item_at}
use Rattle.hy_machine.specs.Outcomes.{inserts_into, placed_by, placed_in}
use Rattle.hy_machine.specs.Visits.{verdict}
use Rattle.hy_replay.specs.Laws.{AreTables}
use Rattle.hy_replay.specs.BagLaws.{IsPosition}
use Rattle.hy_replay.specs.Ran.{One, Ran, has_key_at, placed_at, writes_at, changed_by, one, taken_back, ran_from}
use Rattle.hy_lawful.proofs.Booleans.{and_left, and_right, and_true}
use Rattle.hy_lawful.proofs.Fits.{FitsTables}
use Rattle.hy_lawful.proofs.Tables.{blank_fits, writes_fit}
use Rattle.hy_lawful.proofs.PassTables.{tables_at, covered_at, tables_are}
use Rattle.hy_lawful.proofs.RunAnswers.{Went, went}
use Rattle.hy_lawful.proofs.WroteBacks.{after_holds, back_fits, back_room, back_passes}
use Rattle.hy_lawful.proofs.WroteSweeps.{HadSwept, HadWritten}
use Rattle.hy_lawful.proofs.WroteStates.{EndedWrote}
use Rattle.hy_lawful.proofs.WroteFollows.{Room, writes_room}
use Rattle.hy_lawful.proofs.WroteRows.{IsChanged, changed_so, chosen_so}
use Rattle.hy_lawful.proofs.WroteEnds.{blank_room}
use Rattle.hy_lawful.proofs.WroteCounts.{passing, put_kept, put_more, WasWritten, writes_kept, sweep_all, selects_row, blank_passing}

-- whether a position is one of a table where no row stands
abbrev pub is_new : Tables → ℕ → ℕ → ℕ → Bool
is_new tables table at pos = at == table && is_none (item_at tables at pos)

-- own writes that have the positions of a table
record HasTable (setting : Setting) (own : Own) (table : ℕ) : Type 0 where
  fits : FitsTables setting own
  room : (pos : ℕ) → pos < capacity setting → Room own table pos

has_more : (setting : Setting) (own : Own) (table : ℕ) (all : List Write) → HasTable setting own table → HasTable setting (with_writes own all) table
has_more setting own table all h =
    record { fits = writes_fit setting own all h.fits; room = λ pos below. writes_room own all table pos (h.room pos below) }

-- ---- statements

some_own : (under : Cell) (item : Option Cell) → is_none under ≡ true → is_some (covered (λ (one : Cell). one) under item) ≡ true → is_some item ≡ true
some_own None None n h = h
some_own None (Some cell) n h = refl
some_own (Some row) item n h = absurd cc

-- an UPDATE or a DELETE writes no new position
change_counts : (setting : Setting) (tables : Tables) (own : Own) (kind : WriteKind) (pred : Condition) (of : ℕ) (positions : List ℕ) (all : List Write)
    (table : ℕ) → AreTables setting tables → FitsTables setting own → writes_at kind pred (over tables own) of positions ≡ Ok all
    → passing (is_new tables table) (with_writes own all) ≡ passing (is_new tables table) own
change_counts setting tables own kind pred of positions all table are fits e =
    writes_kept (is_new tables table) own all
    (sweep_all (WasWritten (is_new tables table) own) of (λ pos. verdict kind pred of pos None (item_at (over tables own) of pos))
    (λ pos cell j t. some_own (item_at tables of pos) (item_at own of pos) (and_right (of == table) (is_none (item_at tables of pos)) t)
    (ap is_some (sym (covered_at setting (λ (item : Cell). item) tables own are fits of pos))
    ∙ selects_row kind pred of pos (item_at (over tables own) of pos) cell j))
    positions all e)

no_item : {X : Type 0} (item : Option X) → not (is_some item) ≡ true → item ≡ None
no_item None h = refl
no_item (Some x) h = absurd cc

-- what a statement leaves, and how many positions of a table it took
record Counted (setting : Setting) (tables : Tables) (own later : Own) (table count : ℕ) : Type 0 where
  has : HasTable setting later table
  count_is : passing (is_new tables table) later ≡ count + passing (is_new tables table) own

insert_counts : (setting : Setting) (tables : Tables) (own : Own) (of : ℕ) (new : List Value) (records : List Record) (at : Option ℕ) (first : One)
    (table : ℕ) → HasTable setting own table → IsPosition setting at → placed_at setting tables own of new records at ≡ Some first
    → Counted setting tables own first.own table (placed_by table (Insert of new) at)
insert_counts setting tables own of new records None first table h p e =
    let c = chosen_so (has_key_at setting (over tables own) of new) (record { own = own; reply = reply.Duplicate; records = records }) first e in
    subst (λ (later : Own). Counted setting tables own later table 0) (ap (λ (one : One). one.own) c.1) (record { has = h; count_is = omega arith })
insert_counts setting tables own of new records (Some pos) first table h p e =
    let write : Write = record { table = of; pos = pos; cell = Some new } in
    let placed : One = record { own = with_write own write; reply = reply.Inserted; records = records } in
    let unseen : Bool = not (has_key_at setting (over tables own) of new) in
    let unwritten : Bool = not (is_some (item_at own of pos)) in
    let empty : Bool = not (is_some (item_at tables of pos)) in
    let c = chosen_so (unseen && unwritten && empty) placed first e in
    let none : item_at own of pos ≡ None = no_item (item_at own of pos) (and_right unseen unwritten (and_left (unseen && unwritten) empty c.0)) in
    let clear : is_none (item_at tables of pos) ≡ true =
    ap is_none (no_item (item_at tables of pos) (and_right (unseen && unwritten) empty c.0)) in
    subst (λ (later : Own). Counted setting tables own later table (cond (of == table) 1 0)) (ap (λ (one : One). one.own) c.1)
    (record {
      has = has_more setting own table (write ∷ []) h;
      count_is = elim (cases_Bool (of == table)) [
        | inl t ↦ put_more (is_new tables table) own of pos (Some new)
            (subst (λ (n : ℕ). Room own n pos) (sym (eqb-true of table t)) (h.room pos p)) none
            (and_true (of == table) (is_none (item_at tables of pos)) t clear)
            ∙ ap (λ (b : Bool). cond {A = ℕ} b 1 0 + passing (is_new tables table) own) (sym t)
        | inr f ↦ put_kept (is_new tables table) own of pos (Some new)
            (λ t. let here : (of == table) ≡ true = and_left (of == table) (is_none (item_at tables of pos)) t in
            absurd (let never : false ≡ true = sym f ∙ here in cc))
            ∙ (zero_more (passing (is_new tables table) own)
            ∙ ap (λ (b : Bool). cond {A = ℕ} b 1 0 + passing (is_new tables table) own) (sym f))
      ];
    })
  where
    zero_more : (n : ℕ) → n ≡ 0 + n
    zero_more n = omega arith

placed_none : (table : ℕ) (statement : Bound) (at : Option ℕ) → inserts_into table statement ≡ false → placed_by table statement at ≡ 0
placed_none table statement None f = refl
placed_none table statement (Some pos) f = ap (λ (b : Bool). cond {A = ℕ} b 1 0) f

reads_count : (setting : Setting) (tables : Tables) (own : Own) (first one : One) (table count : ℕ) → HasTable setting own table → one.own ≡ own
    → Some one ≡ Some first → count ≡ 0 → Counted setting tables own first.own table count
reads_count setting tables own first one table count h same e z =
    subst (λ (later : Own). Counted setting tables own later table count) (sym same ∙ ap (λ (one : One). one.own) (same_Some one first e))
    (record { has = h; count_is = omega (arith, z) })

changes_count : (setting : Setting) (tables : Tables) (own : Own) (kind : WriteKind) (pred : Condition) (of : ℕ) (records : List Record) (first : One)
    (table count : ℕ) → AreTables setting tables → HasTable setting own table
    → changed_by own kind records (writes_at kind pred (over tables own) of (range_with_len 0 (capacity setting))) ≡ Some first
    → count ≡ 0 → Counted setting tables own first.own table count
changes_count setting tables own kind pred of records first table count are h e z =
    let c : IsChanged own (writes_at kind pred (over tables own) of (range_with_len 0 (capacity setting))) first =
    changed_so own kind records (writes_at kind pred (over tables own) of (range_with_len 0 (capacity setting))) first e in
    let kept : passing (is_new tables table) (with_writes own c.all) ≡ passing (is_new tables table) own =
    change_counts setting tables own kind pred of (range_with_len 0 (capacity setting)) c.all table are h.fits c.swept in
    subst (λ (later : Own). Counted setting tables own later table count) c.own_is
    (record { has = has_more setting own table c.all h; count_is = omega (arith, z, kept) })

one_counts : (setting : Setting) (tables : Tables) (own : Own) (number : ℕ) (statement : Bound) (at : Option ℕ) (first : One) (table : ℕ)
    → AreTables setting tables → HasTable setting own table → IsPosition setting at → one setting tables own number statement at ≡ Some first
    → Counted setting tables own first.own table (placed_by table statement at)
one_counts setting tables own number (Select from ons pred items) at first table are h p e =
    reads_count setting tables own first _ table _ h refl e (placed_none table (Select from ons pred items) at refl)
one_counts setting tables own number (Group of pred key aggregate) at first table are h p e =
    reads_count setting tables own first _ table _ h refl e (placed_none table (Group of pred key aggregate) at refl)
one_counts setting tables own number (Savepoint name) at first table are h p e =
    reads_count setting tables own first _ table _ h refl e (placed_none table (Savepoint name) at refl)
one_counts setting tables own number (RollbackTo name) at first table are h p e =
    reads_count setting tables own first _ table _ h refl e (placed_none table (RollbackTo name) at refl)
one_counts setting tables own number (Release name) at first table are h p e =
    reads_count setting tables own first _ table _ h refl e (placed_none table (Release name) at refl)
one_counts setting tables own number (Insert of new) at first table are h p e = insert_counts setting tables own of new _ at first table h p e
one_counts setting tables own number (Update of sets pred) at first table are h p e =
    changes_count setting tables own (kind.Set sets) pred of _ first table _ are h e (placed_none table (Update of sets pred) at refl)
one_counts setting tables own number (Delete of pred) at first table are h p e =
    changes_count setting tables own kind.Delete pred of _ first table _ are h e (placed_none table (Delete of pred) at refl)

-- whoever goes back to a savepoint keeps the positions
back_counts : (setting : Setting) (tables : Tables) (own later : Own) (saved : List (Saved Own)) (statement : Bound) (table count : ℕ)
    → Counted setting tables own later table count → Counted setting tables own (value_after (taken_back tables) statement saved later) table count
back_counts setting tables own later saved statement table count c =
    after_holds (λ (other : Own). Counted setting tables own other table count) (taken_back tables) statement saved later c
    (λ was. record {
      has = record {
        fits = back_fits setting tables was later c.has.fits;
        room = λ pos below. back_room tables was later table pos (c.has.room pos below);
      };
      count_is = back_passes (is_new tables table) tables was later ∙ c.count_is;
    })

none_more : (setting : Setting) (tables : Tables) (own : Own) (saved : List (Saved Own)) (given : Ran) (table : ℕ) → HasTable setting own table
    → Some (record { own = own; saved = saved; replies = []; records = [] }) ≡ Some given → Counted setting tables own given.own table 0
none_more setting tables own saved given table h e =
    subst (λ (ran : Ran). Counted setting tables own ran.own table 0) (same_Some _ given e) (record { has = h; count_is = omega arith })

all_count : (setting : Setting) (tables : Tables) (own : Own) (saved : List (Saved Own)) (number : ℕ) (statements : List Bound)
    (took : List (Option ℕ)) (given : Ran) (table : ℕ) → AreTables setting tables → HasTable setting own table → AllByRecursion (IsPosition setting) took
    → ran_from setting tables own saved number (take (length took) statements) took ≡ Some given
    → Counted setting tables own given.own table (placed_in table statements took)
all_count setting tables own saved number [] [] given table are h p e = none_more setting tables own saved given table h e
all_count setting tables own saved number [] (at ∷ took) given table are h p e = none_more setting tables own saved given table h e
all_count setting tables own saved number (statement ∷ statements) [] given table are h p e = none_more setting tables own saved given table h e
all_count setting tables own saved number (statement ∷ statements) (at ∷ took) given table are h p e =
    let w : Went setting tables own saved number statement (take (length took) statements) at took given =
    went setting tables own saved number statement (take (length took) statements) at took given e in
    let next : Own = value_after (taken_back tables) statement saved w.first.own in
    let first : Counted setting tables own next table (placed_by table statement at) =
    back_counts setting tables own w.first.own saved statement table (placed_by table statement at)
    (one_counts setting tables own number statement at w.first table are h p.0 w.first_is) in
    let rest : Counted setting tables next w.rest.own table (placed_in table statements took) =
    all_count setting tables next (saved_after statement saved w.first.own) (suc number) statements took w.rest table are first.has p.1 w.rest_is in
    subst (λ (ran : Ran). Counted setting tables own ran.own table (placed_by table statement at + placed_in table statements took)) w.both
    (record { has = rest.has; count_is = omega (arith, rest.count_is, first.count_is) })

-- ---- ended transactions

swept_counts : (setting : Setting) (tables : Tables) (statements : List Bound) (begun : Begun) (given : Ran) (of at table : ℕ) → AreTables setting tables
    → FitsTables setting given.own → HadSwept setting tables statements begun given of at
    → passing (is_new tables table) begun.own ≡ passing (is_new tables table) given.own
swept_counts setting tables statements begun given of at table are fits s =
    ap (passing (is_new tables table)) (sym s.own)
    ∙ change_counts setting tables given.own s.kind s.pred of (range_with_len 0 (s.visited * setting.rows)) s.writes table are fits s.swept

ended_counts : (setting : Setting) (tables : Tables) (statements : List Bound) (begun : Begun) (given : Ran) (table : ℕ) → AreTables setting tables
    → FitsTables setting given.own → (ending : Ending) → HadWritten setting tables statements begun given ending
    → passing (is_new tables table) begun.own ≡ passing (is_new tables table) given.own
ended_counts setting tables statements begun given table are fits (Committed rank) h = ap (passing (is_new tables table)) (sym h)
ended_counts setting tables statements begun given table are fits Read h = ap (passing (is_new tables table)) (sym h)
ended_counts setting tables statements begun given table are fits RolledBack h = ap (passing (is_new tables table)) (sym h)
ended_counts setting tables statements begun given table are fits (Conflict of at other) h =
    swept_counts setting tables statements begun given of at table are fits h
ended_counts setting tables statements begun given table are fits (Invalid of at other statement) h = ap (passing (is_new tables table)) (sym h)
ended_counts setting tables statements begun given table are fits (Range of at) h =
    swept_counts setting tables statements begun given of at table are fits h
ended_counts setting tables statements begun given table are fits (Full of) h = ap (passing (is_new tables table)) (sym h)

-- an ended transaction wrote as many new positions of a table as its inserts took
pub news_are_placed : (setting : Setting) (order : List Entry) (statements : List Bound) (finished : Finished)
    → EndedWrote setting order statements finished → (table : ℕ) → table < length setting.first
    → passing (is_new (tables_at setting order finished.begun.prefix) table) finished.begun.own ≡ placed_in table statements finished.begun.took
news_are_placed setting order statements finished ended table below =
    let tables : Tables = tables_at setting order finished.begun.prefix in
    let are : AreTables setting tables = tables_are setting order finished.begun.prefix in
    let all : Counted setting tables (blank_own setting) ended.given.own table (placed_in table statements finished.begun.took) =
    all_count setting tables (blank_own setting) [] 1 statements finished.begun.took ended.given table are
    (record { fits = blank_fits setting; room = λ pos h. blank_room (capacity setting) setting.first table pos below h })
    ended.run.positions
    (ap (λ (n : ℕ). ran_from setting tables (blank_own setting) [] 1 (take n statements) finished.begun.took) ended.run.took ∙ ended.run.came_to) in
    ended_counts setting tables statements finished.begun ended.given table are all.has.fits finished.ending ended.wrote
    ∙ (all.count_is
    ∙ omega (arith, blank_passing (is_new tables table) (capacity setting) setting.first))
