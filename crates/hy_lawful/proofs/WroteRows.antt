-- A row that stood at the start of a transaction, followed through its statements: what is written over it and when.
use Rattle.std.proofs.Common.{◌≡◌, ℕ, suc, ◌<◌, List, [], ◌∷◌, Option, None, Some, Result, Ok, Err, Bool, true, false}
use Rattle.std.proofs.Common.{cond, not, is_some, refl, ap, sym, ◌∙◌, subst, arith, inl, inr}
use Rattle.std.specs.Prelude.{◌||◌, ◌&&◌, ◌==◌}
use Rattle.std.specs.List.{range_with_len}
use Rattle.std.specs.Option.{option_map}
use Rattle.std.proofs.lemmas.Bool.{cases_eq, eq-eqb, eqb-true}
use Rattle.std.proofs.lemmas.Option.{same_Some}
use Rattle.hy_value.specs.declared.Value.{Value}
use Rattle.hy_bound.specs.declared.Assign.{Assign}
use Rattle.hy_bound.specs.declared.Bound.{Bound}
use Rattle.hy_bound.specs.declared.Bound.TheVariants.{Select, Group, Insert, Update, Delete, Savepoint, RollbackTo, Release}
use Rattle.hy_bound.specs.Savepoints.{Saved, saved_after, value_after}
use Rattle.hy_bound.specs.SavedRelations.{AreAlike, alike_wider, saved_after_alike, value_after_alike}
use Rattle.hy_bound.specs.declared.Record.{Record}
use Rattle.hy_bound.specs.declared.Reply.TheVariants as reply
use Rattle.hy_bound.specs.declared.WriteKind.{WriteKind}
use Rattle.hy_bound.specs.declared.WriteKind.TheVariants as kind
use Rattle.hy_bound.specs.Condition.{Condition}
use Rattle.hy_bound.specs.Predicate.{truth_of, truth_at}
use Rattle.hy_bound.specs.Assignment.{assigned}
use Rattle.hy_bound.specs.declared.Ending.{Ending}
use Rattle.hy_machine.specs.declared.Setting.{Setting}
use Rattle.hy_machine.specs.Writes.{Write, with_write, with_writes}
use Rattle.hy_machine.specs.Positions.{item_at}
use Rattle.hy_machine.specs.Tables.{Cell, Tables, Own, capacity, covered, over}
use Rattle.hy_machine.specs.Visits.{new_cell, judged, verdict}
use Rattle.hy_replay.specs.Laws.{AreTables}
use Rattle.hy_replay.specs.TakenBack.{back_item, back_stays}
use Rattle.hy_replay.specs.Ran.{One, Ran, has_key_at, placed_at, writes_at, changed_by, one, back_cell, taken_back, ran_from}
use Rattle.hy_lawful.specs.Written.{writes, left_by, after_one, cell_back, cells_saved, cell_left, followed_from, some_writes_from}
use Rattle.hy_lawful.proofs.Booleans.{and_right, or_first}
use Rattle.hy_lawful.proofs.Fits.{FitsTables}
use Rattle.hy_lawful.proofs.Tables.{writes_fit}
use Rattle.hy_lawful.proofs.PassTables.{covered_at}
use Rattle.hy_lawful.proofs.RunSweeps.{write_apart}
use Rattle.hy_lawful.proofs.RunAnswers.{Went, went}
use Rattle.hy_lawful.proofs.WroteSweeps.{change_of}
use Rattle.hy_lawful.proofs.WroteBacks.{after_holds, back_fits, back_room}
use Rattle.hy_lawful.proofs.WroteFollows.{Room, writes_room, put_other, laid, SweptAt, sweep_other, sweep_at}

-- ---- verdicts

-- a selected row is written as the statement leaves it
abbrev put_by : WriteKind → Condition → ℕ → Cell → Option Cell
put_by kind pred of cell = cond (truth_at pred cell) (Some (left_by (change_of kind pred of) cell)) None

set_written : (sets : List Assign) (pred : Condition) (table pos of : ℕ) (row : List Value) (new : Option (List Value)) (written : Option Cell)
    → assigned sets row ≡ new → judged table pos None (option_map Some new) ≡ Ok written → written ≡ Some new
set_written sets pred table pos of row None written a e = absurd cc
set_written sets pred table pos of row (Some new) written a e = cc

selected_written : (kind : WriteKind) (pred : Condition) (table pos of : ℕ) (row : List Value) (written : Option Cell)
    → judged table pos None (new_cell kind row) ≡ Ok written → written ≡ Some (left_by (change_of kind pred of) (Some row))
selected_written (kind.Set sets) pred table pos of row written e =
    set_written sets pred table pos of row (assigned sets row) written refl e
selected_written kind.Delete pred table pos of row written e = cc

verdict_writes : (kind : WriteKind) (pred : Condition) (table pos of : ℕ) (cell : Cell) (written : Option Cell)
    → verdict kind pred table pos None cell ≡ Ok written → written ≡ put_by kind pred of cell
verdict_writes kind pred table pos of None written e = cc
verdict_writes kind pred table pos of (Some row) written e = by_truth (truth_of pred row) e
  where
    by_truth : (b : Bool) → cond b (judged table pos None (new_cell kind row)) (Ok None) ≡ Ok written
        → written ≡ cond b (Some (left_by (change_of kind pred of) (Some row))) None
    by_truth true h = selected_written kind pred table pos of row written h
    by_truth false h = cc

-- ---- a cell as it is followed

-- what holds of a position where this cell stands
pub record IsCellAt (setting : Setting) (tables : Tables) (table pos : ℕ) (under : Cell) : Type 0 where
  pub are : AreTables setting tables
  pub under_is : item_at tables table pos ≡ under
  pub below : pos < capacity setting

-- where this cell stands a transaction sees the followed one, and has written it or not
pub record StandsSo (setting : Setting) (own : Own) (table pos : ℕ) (under cell : Cell) (wrote : Bool) : Type 0 where
  pub fits : FitsTables setting own
  pub room : Room own table pos
  pub wrote_is : is_some (item_at own table pos) ≡ wrote
  pub cell_is : covered (λ (item : Cell). item) under (item_at own table pos) ≡ cell

laid_so : (under : Cell) (item : Option Cell) (cell left : Cell) (wrote b : Bool) → is_some item ≡ wrote
    → covered (λ (one : Cell). one) under item ≡ cell
    → (is_some (laid (cond b (Some left) None) item) ≡ (wrote || b))
    × (covered (λ (one : Cell). one) under (laid (cond b (Some left) None) item) ≡ cond b left cell)
laid_so under item cell left true true w c = (refl, refl)
laid_so under item cell left true false w c = (w, c)
laid_so under item cell left false true w c = (refl, refl)
laid_so under item cell left false false w c = (w, c)

-- which rows a change selects
pub change_writes : (kind : WriteKind) (pred : Condition) (of table : ℕ) (cell : Cell)
    → writes table (change_of kind pred of) cell ≡ (of == table && truth_at pred cell)
change_writes (kind.Set sets) pred of table cell = refl
change_writes kind.Delete pred of table cell = refl

pub or_false : (b : Bool) → b ≡ (b || false)
or_false true = refl
or_false false = refl

abbrev pub StandsAfter : Setting → Own → ℕ → ℕ → Cell → Cell → Bool → Bound → Bool → Type 0
StandsAfter setting own table pos under cell wrote statement b =
    StandsSo setting own table pos under (cond b (left_by statement cell) cell) (wrote || b)

-- where nothing is written a cell stays
pub stays_so : (setting : Setting) (own other : Own) (table pos : ℕ) (under cell : Cell) (wrote : Bool) (statement : Bound)
    → FitsTables setting other → Room other table pos → item_at other table pos ≡ item_at own table pos
    → StandsSo setting own table pos under cell wrote → StandsAfter setting other table pos under cell wrote statement false
stays_so setting own other table pos under cell wrote statement fits room same s = record {
  fits = fits;
  room = room;
  wrote_is = ap is_some same ∙ (s.wrote_is ∙ or_false wrote);
  cell_is = ap (covered (λ (item : Cell). item) under) same ∙ s.cell_is;
}

not_equal : (a b : ℕ) → (a ≡ b → ⊥) → (c : Bool) → (a == b) ≡ c → c ≡ false
not_equal a b n true e = absurd (n (eqb-true a b e))
not_equal a b n false e = refl

-- an UPDATE or a DELETE of a table over its first positions
here_follows : (setting : Setting) (tables : Tables) (own : Own) (kind : WriteKind) (pred : Condition) (many : ℕ) (all : List Write)
    (table pos : ℕ) (under cell : Cell) (wrote : Bool) → IsCellAt setting tables table pos under → pos < many
    → writes_at kind pred (over tables own) table (range_with_len 0 many) ≡ Ok all → StandsSo setting own table pos under cell wrote
    → StandsAfter setting (with_writes own all) table pos under cell wrote (change_of kind pred table) (truth_at pred cell)
here_follows setting tables own kind pred many all table pos under cell wrote is short e s =
    let at : SweptAt (verdict kind pred table pos None (item_at (over tables own) table pos)) (item_at own table pos)
    (item_at (with_writes own all) table pos) =
    sweep_at table (λ at. verdict kind pred table at None (item_at (over tables own) table at)) 0 many all own pos e s.room (omega arith) (omega arith) in
    let view : item_at (over tables own) table pos ≡ cell =
    covered_at setting (λ (item : Cell). item) tables own is.are s.fits table pos
    ∙ (ap (λ (under : Cell). covered (λ (item : Cell). item) under (item_at own table pos)) is.under_is ∙ s.cell_is) in
    let written : at.cell ≡ put_by kind pred table cell =
    verdict_writes kind pred table pos table cell at.cell (ap (verdict kind pred table pos None) (sym view) ∙ at.here) in
    let item : item_at (with_writes own all) table pos ≡ laid (put_by kind pred table cell) (item_at own table pos) =
    at.item ∙ ap (λ (new : Option Cell). laid new (item_at own table pos)) written in
    let two = laid_so under (item_at own table pos) cell (left_by (change_of kind pred table) cell) wrote (truth_at pred cell) s.wrote_is s.cell_is in
    record {
      fits = writes_fit setting own all s.fits;
      room = writes_room own all table pos s.room;
      wrote_is = ap is_some item ∙ two.0;
      cell_is = ap (covered (λ (item : Cell). item) under) item ∙ two.1;
    }

pub change_follows : (setting : Setting) (tables : Tables) (own : Own) (kind : WriteKind) (pred : Condition) (of many : ℕ) (all : List Write)
    (table pos : ℕ) (under cell : Cell) (wrote : Bool) → IsCellAt setting tables table pos under → pos < many
    → writes_at kind pred (over tables own) of (range_with_len 0 many) ≡ Ok all → StandsSo setting own table pos under cell wrote
    → StandsAfter setting (with_writes own all) table pos under cell wrote (change_of kind pred of) (writes table (change_of kind pred of) cell)
change_follows setting tables own kind pred of many all table pos under cell wrote is short e s =
    subst (StandsAfter setting (with_writes own all) table pos under cell wrote (change_of kind pred of)) (sym (change_writes kind pred of table cell))
    (elim (cases_eq of table) [
      | inl same ↦
          let there : StandsAfter setting (with_writes own all) table pos under cell wrote (change_of kind pred table) (truth_at pred cell) =
          here_follows setting tables own kind pred many all table pos under cell wrote is short
          (ap (λ (n : ℕ). writes_at kind pred (over tables own) n (range_with_len 0 many)) (sym same) ∙ e) s in
          subst (λ (n : ℕ). StandsAfter setting (with_writes own all) table pos under cell wrote (change_of kind pred n) (n == table && truth_at pred cell))
          (sym same)
          (subst (λ (b : Bool). StandsAfter setting (with_writes own all) table pos under cell wrote (change_of kind pred table) (b && truth_at pred cell))
          (sym (eq-eqb table table refl)) there)
      | inr apart ↦
          subst (λ (b : Bool). StandsAfter setting (with_writes own all) table pos under cell wrote (change_of kind pred of) (b && truth_at pred cell))
          (sym (not_equal of table apart (of == table) refl))
          (stays_so setting own (with_writes own all) table pos under cell wrote (change_of kind pred of) (writes_fit setting own all s.fits)
          (writes_room own all table pos s.room)
          (sweep_other of (λ at. verdict kind pred of at None (item_at (over tables own) of at)) 0 many all own table pos e apart) s)
    ])

-- ---- savepoints

-- at a savepoint this cell was seen, and what was own there then is own still
pub record WasSo (table pos : ℕ) (under : Cell) (wrote : Bool) (was : Own) (cell : Cell) : Type 0 where
  pub seen : covered (λ (item : Cell). item) under (item_at was table pos) ≡ cell
  pub within : is_some (item_at was table pos) ≡ true → wrote ≡ true

-- the followed cell is seen, and was at each savepoint
pub record IsFollowed (setting : Setting) (own : Own) (saved : List (Saved Own)) (table pos : ℕ) (under : Cell) (cells : List (Saved Cell)) (cell : Cell)
    (wrote : Bool) : Type 0 where
  pub stands : StandsSo setting own table pos under cell wrote
  pub was : AreAlike (WasSo table pos under wrote) saved cells

was_later : (table pos : ℕ) (under : Cell) (wrote now : Bool) → (wrote ≡ true → now ≡ true) → (was : Own) (cell : Cell)
    → WasSo table pos under wrote was cell → WasSo table pos under now was cell
was_later table pos under wrote now more was cell w = record { seen = w.seen; within = λ some. more (w.within some) }

back_seen : (under : Cell) (was now : Option Cell) (cell : Cell) → covered (λ (item : Cell). item) under was ≡ cell
    → (is_some was ≡ true → is_some now ≡ true) → covered (λ (item : Cell). item) under (back_cell under was now) ≡ cell
back_seen under None None cell c within = c
back_seen under None (Some now) cell c within = c
back_seen under (Some before) None cell c within = absurd (let never : false ≡ true = within refl in cc)
back_seen under (Some before) (Some now) cell c within = c

-- who goes back to a savepoint sees what was seen there then
back_was : (setting : Setting) (tables : Tables) (own : Own) (table pos : ℕ) (under : Cell) (wrote : Bool) → IsCellAt setting tables table pos under
    → is_some (item_at own table pos) ≡ wrote → (was : Own) (cell : Cell) → WasSo table pos under wrote was cell
    → WasSo table pos under wrote (taken_back tables was own) cell
back_was setting tables own table pos under wrote is some was cell w = record {
  seen = ap (covered (λ (item : Cell). item) under)
      (back_item tables was own table pos
      ∙ ap (λ (below : Cell). back_cell below (item_at was table pos) (item_at own table pos)) is.under_is)
      ∙ back_seen under (item_at was table pos) (item_at own table pos) cell w.seen (λ there. some ∙ w.within there);
  within = λ there. sym some ∙ (sym (back_stays tables was own table pos) ∙ there);
}

-- a position that own writes have, written or not
record HasPlace (setting : Setting) (table pos : ℕ) (wrote : Bool) (own : Own) : Type 0 where
  fits : FitsTables setting own
  room : Room own table pos
  wrote_is : is_some (item_at own table pos) ≡ wrote

-- after a statement the followed cell is the one that it left, or the one that it goes back to
pub saving_follows : (setting : Setting) (tables : Tables) (own : Own) (saved : List (Saved Own)) (table pos : ℕ) (under : Cell) (cells : List (Saved Cell))
    (cell : Cell) (wrote now : Bool) (statement : Bound) → IsCellAt setting tables table pos under → AreAlike (WasSo table pos under wrote) saved cells
    → (wrote ≡ true → now ≡ true) → StandsSo setting own table pos under cell now
    → IsFollowed setting (value_after (taken_back tables) statement saved own) (saved_after statement saved own) table pos under
    (saved_after statement cells cell) (value_after cell_back statement cells cell) now
saving_follows setting tables own saved table pos under cells cell wrote now statement is was more s =
    let alike : AreAlike (WasSo table pos under now) saved cells =
    alike_wider (WasSo table pos under wrote) (WasSo table pos under now) (was_later table pos under wrote now more) saved cells was in
    let here : WasSo table pos under now own cell = record { seen = s.cell_is; within = λ there. sym s.wrote_is ∙ there } in
    let place : HasPlace setting table pos now (value_after (taken_back tables) statement saved own) =
    after_holds (HasPlace setting table pos now) (taken_back tables) statement saved own
    (record { fits = s.fits; room = s.room; wrote_is = s.wrote_is })
    (λ before. record {
      fits = back_fits setting tables before own s.fits;
      room = back_room tables before own table pos s.room;
      wrote_is = back_stays tables before own table pos ∙ s.wrote_is;
    }) in
    let left : WasSo table pos under now (value_after (taken_back tables) statement saved own) (value_after cell_back statement cells cell) =
    value_after_alike (WasSo table pos under now) (WasSo table pos under now) (taken_back tables) cell_back statement saved cells own cell alike here
    (back_was setting tables own table pos under now is s.wrote_is) in
    record {
      stands = record { fits = place.fits; room = place.room; wrote_is = place.wrote_is; cell_is = left.seen };
      was = saved_after_alike (WasSo table pos under now) statement saved cells own cell alike here;
    }

-- ---- statements

pub chosen_so : {X : Type 0} (b : Bool) (x y : X) → cond b (Some x) None ≡ Some y → (b ≡ true) × (x ≡ y)
chosen_so true x y e = (refl, same_Some x y e)
chosen_so false x y e = absurd cc

insert_follows : (setting : Setting) (tables : Tables) (own : Own) (of : ℕ) (new : List Value) (records : List Record) (at : Option ℕ) (first : One)
    (table pos : ℕ) (row : List Value) (cell : Cell) (wrote : Bool) → IsCellAt setting tables table pos (Some row)
    → placed_at setting tables own of new records at ≡ Some first → StandsSo setting own table pos (Some row) cell wrote
    → StandsAfter setting first.own table pos (Some row) cell wrote (Insert of new) false
insert_follows setting tables own of new records None first table pos row cell wrote is e s =
    subst (λ (other : Own). StandsAfter setting other table pos (Some row) cell wrote (Insert of new) false)
    (ap (λ (one : One). one.own) (chosen_so _ _ first e).1)
    (stays_so setting own own table pos (Some row) cell wrote (Insert of new) s.fits s.room refl s)
insert_follows setting tables own of new records (Some at) first table pos row cell wrote is e s =
    let write : Write = record { table = of; pos = at; cell = Some new } in
    let placed : One = record { own = with_write own write; reply = reply.Inserted; records = records } in
    let c = chosen_so (not (has_key_at setting (over tables own) of new) && not (is_some (item_at own of at)) && not (is_some (item_at tables of at)))
    placed first e in
    let unplaced : not (is_some (item_at tables of at)) ≡ true =
    and_right (not (has_key_at setting (over tables own) of new) && not (is_some (item_at own of at))) (not (is_some (item_at tables of at))) c.0 in
    let clear : item_at tables of at ≡ Some row → ⊥ =
    λ h. absurd (let never : false ≡ true = ap (λ (item : Cell). not (is_some item)) (sym h) ∙ unplaced in cc) in
    subst (λ (other : Own). StandsAfter setting other table pos (Some row) cell wrote (Insert of new) false)
    (ap (λ (one : One). one.own) c.1)
    (stays_so setting own (with_writes own (write ∷ [])) table pos (Some row) cell wrote (Insert of new) (writes_fit setting own (write ∷ []) s.fits)
    (writes_room own (write ∷ []) table pos s.room)
    (elim (cases_eq of table) [
      | inr apart ↦ put_other own of at (Some new) table pos apart
      | inl same ↦ write_apart own of at (Some new) table pos (λ e. clear
          (ap (λ (n : ℕ). item_at tables n at) same ∙ (ap (item_at tables table) (sym e) ∙ is.under_is)))
    ]) s)

-- what an UPDATE or a DELETE that is answered wrote
pub record IsChanged (own : Own) (result : Result (List Write) Ending) (first : One) : Type 0 where
  pub all : List Write
  pub swept : result ≡ Ok all
  pub own_is : with_writes own all ≡ first.own

pub changed_so : (own : Own) (kind : WriteKind) (records : List Record) (result : Result (List Write) Ending) (first : One)
    → changed_by own kind records result ≡ Some first → IsChanged own result first
changed_so own kind records (Err cause) first e = absurd cc
changed_so own kind records (Ok all) first e =
    record { all = all; swept = refl; own_is = ap (λ (one : One). one.own) (same_Some _ first e) }

pub one_changes : (setting : Setting) (tables : Tables) (own : Own) (kind : WriteKind) (pred : Condition) (of : ℕ) (records : List Record) (first : One)
    (table pos : ℕ) (under cell : Cell) (wrote : Bool) → IsCellAt setting tables table pos under
    → changed_by own kind records (writes_at kind pred (over tables own) of (range_with_len 0 (capacity setting))) ≡ Some first
    → StandsSo setting own table pos under cell wrote
    → StandsAfter setting first.own table pos under cell wrote (change_of kind pred of) (writes table (change_of kind pred of) cell)
one_changes setting tables own kind pred of records first table pos under cell wrote is e s =
    let c : IsChanged own (writes_at kind pred (over tables own) of (range_with_len 0 (capacity setting))) first =
    changed_so own kind records _ first e in
    subst (λ (other : Own). StandsAfter setting other table pos under cell wrote (change_of kind pred of) (writes table (change_of kind pred of) cell)) c.own_is
    (change_follows setting tables own kind pred of (capacity setting) c.all table pos under cell wrote is is.below c.swept s)

-- what a statement leaves that writes nothing
own_stays : (setting : Setting) (own : Own) (first : One) (table pos : ℕ) (row : List Value) (cell : Cell) (wrote : Bool) (statement : Bound) (left : One)
    → left.own ≡ own → Some left ≡ Some first → StandsSo setting own table pos (Some row) cell wrote
    → StandsAfter setting first.own table pos (Some row) cell wrote statement false
own_stays setting own first table pos row cell wrote statement left same e s =
    subst (λ (other : Own). StandsAfter setting other table pos (Some row) cell wrote statement false)
    (sym same ∙ ap (λ (one : One). one.own) (same_Some left first e))
    (stays_so setting own own table pos (Some row) cell wrote statement s.fits s.room refl s)

one_follows : (setting : Setting) (tables : Tables) (own : Own) (number : ℕ) (statement : Bound) (at : Option ℕ) (first : One)
    (table pos : ℕ) (row : List Value) (cell : Cell) (wrote : Bool) → IsCellAt setting tables table pos (Some row)
    → one setting tables own number statement at ≡ Some first → StandsSo setting own table pos (Some row) cell wrote
    → StandsAfter setting first.own table pos (Some row) cell wrote statement (writes table statement cell)
one_follows setting tables own number (Select from ons pred items) at first table pos row cell wrote is e s =
    own_stays setting own first table pos row cell wrote (Select from ons pred items) _ refl e s
one_follows setting tables own number (Group of pred key aggregate) at first table pos row cell wrote is e s =
    own_stays setting own first table pos row cell wrote (Group of pred key aggregate) _ refl e s
one_follows setting tables own number (Savepoint name) at first table pos row cell wrote is e s =
    own_stays setting own first table pos row cell wrote (Savepoint name) _ refl e s
one_follows setting tables own number (RollbackTo name) at first table pos row cell wrote is e s =
    own_stays setting own first table pos row cell wrote (RollbackTo name) _ refl e s
one_follows setting tables own number (Release name) at first table pos row cell wrote is e s =
    own_stays setting own first table pos row cell wrote (Release name) _ refl e s
one_follows setting tables own number (Insert of new) at first table pos row cell wrote is e s =
    insert_follows setting tables own of new _ at first table pos row cell wrote is e s
one_follows setting tables own number (Update of sets pred) at first table pos row cell wrote is e s =
    one_changes setting tables own (kind.Set sets) pred of _ first table pos (Some row) cell wrote is e s
one_follows setting tables own number (Delete of pred) at first table pos row cell wrote is e s =
    one_changes setting tables own kind.Delete pred of _ first table pos (Some row) cell wrote is e s

or_joined : (a b c : Bool) → ((a || b) || c) ≡ (a || (b || c))
or_joined true b c = refl
or_joined false b c = refl

-- a row is followed through statements
pub all_follow : (setting : Setting) (tables : Tables) (own : Own) (saved : List (Saved Own)) (number : ℕ) (statements : List Bound)
    (took : List (Option ℕ)) (given : Ran) (table pos : ℕ) (row : List Value) (cells : List (Saved Cell)) (cell : Cell) (wrote : Bool)
    → IsCellAt setting tables table pos (Some row) → ran_from setting tables own saved number statements took ≡ Some given
    → IsFollowed setting own saved table pos (Some row) cells cell wrote
    → StandsSo setting given.own table pos (Some row) (followed_from table cells statements cell) (wrote || some_writes_from table cells statements cell)
all_follow setting tables own saved number [] took given table pos row cells cell wrote is e f =
    subst (λ (ran : Ran). StandsSo setting ran.own table pos (Some row) cell (wrote || false)) (same_Some _ given e)
    (subst (StandsSo setting own table pos (Some row) cell) (or_false wrote) f.stands)
all_follow setting tables own saved number (statement ∷ statements) [] given table pos row cells cell wrote is e f = absurd cc
all_follow setting tables own saved number (statement ∷ statements) (at ∷ took) given table pos row cells cell wrote is e f =
    let w : Went setting tables own saved number statement statements at took given =
    went setting tables own saved number statement statements at took given e in
    let kept : List (Saved Cell) = cells_saved table statement cells cell in
    let next : Cell = cell_left table statement cells cell in
    subst (λ (ran : Ran). StandsSo setting ran.own table pos (Some row) (followed_from table kept statements next)
    (wrote || (writes table statement cell || some_writes_from table kept statements next))) w.both
    (subst (StandsSo setting w.rest.own table pos (Some row) (followed_from table kept statements next))
    (or_joined wrote (writes table statement cell) (some_writes_from table kept statements next))
    (all_follow setting tables (value_after (taken_back tables) statement saved w.first.own) (saved_after statement saved w.first.own) (suc number)
    statements took w.rest table pos row kept next (wrote || writes table statement cell) is w.rest_is
    (saving_follows setting tables w.first.own saved table pos (Some row) cells (after_one table statement cell) wrote
    (wrote || writes table statement cell) statement is f.was (or_first wrote (writes table statement cell))
    (one_follows setting tables own number statement at w.first table pos row cell wrote is w.first_is f.stands))))
