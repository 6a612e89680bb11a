-- Where no row stood at the start a transaction sees a row that it inserted, followed through the statements behind.
use Rattle.std.proofs.Common.{◌≡◌, ◌⊎◌, ℕ, suc, List, [], ◌∷◌, Option, None, Some, Bool, true, false}
use Rattle.std.proofs.Common.{cond, not, is_some, refl, ap, sym, ◌∙◌, subst, arith, inl, inr}
use Rattle.std.specs.Prelude.{◌||◌, ◌&&◌}
use Rattle.std.proofs.lemmas.Bool.{cases_eq, eq-eqb, or_left, or_right}
use Rattle.std.proofs.lemmas.Option.{same_Some}
use Rattle.hy_value.specs.declared.Value.{Value}
use Rattle.hy_bound.specs.declared.Bound.{Bound}
use Rattle.hy_bound.specs.declared.Bound.TheVariants.{Select, Group, Insert, Update, Delete, Savepoint, RollbackTo, Release}
use Rattle.hy_bound.specs.Savepoints.{Saved, saved_after, value_after}
use Rattle.hy_bound.specs.SavedRelations.{AreAlike, alike_wider, saved_after_alike, value_after_alike}
use Rattle.hy_bound.specs.declared.Record.{Record}
use Rattle.hy_bound.specs.declared.Reply.{Reply}
use Rattle.hy_bound.specs.declared.Reply.TheVariants as reply
use Rattle.hy_bound.specs.declared.WriteKind.TheVariants as kind
use Rattle.hy_machine.specs.declared.Setting.{Setting}
use Rattle.hy_machine.specs.Writes.{Write, blank_own, with_writes}
use Rattle.hy_machine.specs.Positions.{item_at}
use Rattle.hy_machine.specs.Tables.{Cell, Tables, Own, capacity, covered, over}
use Rattle.hy_replay.specs.Laws.{AreTables}
use Rattle.hy_replay.specs.Ran.{One, Ran, has_key_at, placed_at, one, taken_back, ran_from, ran}
use Rattle.hy_lawful.specs.Written.{writes, left_by, after_one, cell_back, cells_saved, cell_left, followed_from, followed}
use Rattle.hy_lawful.specs.Written.{row_inserted, some_inserted_from, some_inserted}
use Rattle.hy_lawful.proofs.Booleans.{and_left, and_right, or_first}
use Rattle.hy_lawful.proofs.Tables.{writes_fit}
use Rattle.hy_lawful.proofs.RunSweeps.{write_apart}
use Rattle.hy_lawful.proofs.RunAnswers.{Went, went}
use Rattle.hy_lawful.proofs.WroteFollows.{writes_room, put_here, put_other}
use Rattle.hy_lawful.proofs.WroteRows.{IsCellAt, StandsSo, WasSo, IsFollowed, stays_so, chosen_so, one_changes, saving_follows}
use Rattle.hy_lawful.proofs.WroteEnds.{IsThere, row_there, begins_so}
use Rattle.hy_lawful.proofs.PassTables.{covered_are, covered_at}

-- a statement inserted a row where no row stood, and nothing was written there
record PutsRow (table : ℕ) (next : Cell) (wrote : Bool) (statement : Bound) (told : Reply) : Type 0 where
  of : ℕ
  row : List Value
  is : Insert of row ≡ statement
  next_is : next ≡ row_inserted table statement told
  unwritten : wrote ≡ false

-- what is seen after a statement where no row stood, before it goes back: what it makes of what was seen, or the row that it
-- inserted there
record SeesNext (setting : Setting) (own : Own) (table pos : ℕ) (cell : Cell) (wrote : Bool) (statement : Bound) (told : Reply) : Type 0 where
  now : Bool
  next : Cell
  stands : StandsSo setting own table pos None next now
  more : wrote ≡ true → now ≡ true
  next_is : (next ≡ after_one table statement cell) ⊎ PutsRow table next wrote statement told

-- where nothing is written the same is seen
same_seen : (setting : Setting) (own : Own) (first left : One) (table pos : ℕ) (cell : Cell) (wrote : Bool) (statement : Bound) (told : Reply)
    → left.own ≡ own → Some left ≡ Some first → after_one table statement cell ≡ cell → StandsSo setting own table pos None cell wrote
    → SeesNext setting first.own table pos cell wrote statement told
same_seen setting own first left table pos cell wrote statement told same e stays s =
    subst (λ (other : Own). SeesNext setting other table pos cell wrote statement told) (sym same ∙ ap (λ (one : One). one.own) (same_Some left first e))
    (record { now = wrote; next = cell; stands = s; more = λ h. h; next_is = inl (sym stays) })

-- the row of an INSERT stands where it is put
put_so : (setting : Setting) (own : Own) (table pos : ℕ) (new : List Value) (cell : Cell) (wrote : Bool) → StandsSo setting own table pos None cell wrote
    → wrote ≡ false
    → SeesNext setting (with_writes own (record { table = table; pos = pos; cell = Some new } ∷ [])) table pos cell wrote (Insert table new) reply.Inserted
put_so setting own table pos new cell wrote s unwritten =
    let writes : List Write = record { table = table; pos = pos; cell = Some new } ∷ [] in
    let here : item_at (with_writes own writes) table pos ≡ Some (Some new) = put_here own (Some new) table pos s.room in
    record {
      now = true;
      next = Some new;
      stands = record {
        fits = writes_fit setting own writes s.fits;
        room = writes_room own writes table pos s.room;
        wrote_is = ap is_some here;
        cell_is = ap (covered (λ (item : Cell). item) None) here;
      };
      more = λ h. refl;
      next_is = inr (record {
        of = table;
        row = new;
        is = refl;
        next_is = ap (λ (b : Bool). cond (b && true) (Some new) None) (sym (eq-eqb table table refl));
        unwritten = unwritten;
      });
    }

never_some : {X : Type 0} (item : Option X) → not (is_some item) ≡ true → is_some item ≡ false
never_some None h = refl
never_some (Some x) h = absurd cc

insert_seen : (setting : Setting) (tables : Tables) (own : Own) (of : ℕ) (new : List Value) (records : List Record) (at : Option ℕ) (first : One)
    (table pos : ℕ) (cell : Cell) (wrote : Bool) → placed_at setting tables own of new records at ≡ Some first
    → StandsSo setting own table pos None cell wrote → SeesNext setting first.own table pos cell wrote (Insert of new) first.reply
insert_seen setting tables own of new records None first table pos cell wrote e s =
    subst (λ (one : One). SeesNext setting one.own table pos cell wrote (Insert of new) one.reply) (chosen_so _ _ first e).1
    (record { now = wrote; next = cell; stands = s; more = λ h. h; next_is = inl refl })
insert_seen setting tables own of new records (Some at) first table pos cell wrote e s =
    let unseen : Bool = not (has_key_at setting (over tables own) of new) in
    let c = chosen_so (unseen && not (is_some (item_at own of at)) && not (is_some (item_at tables of at)))
    (record { own = with_writes own (record { table = of; pos = at; cell = Some new } ∷ []); reply = reply.Inserted; records = records }) first e in
    let free : is_some (item_at own of at) ≡ false =
    never_some (item_at own of at) (and_right unseen (not (is_some (item_at own of at)))
    (and_left (unseen && not (is_some (item_at own of at))) (not (is_some (item_at tables of at))) c.0)) in
    subst (λ (one : One). SeesNext setting one.own table pos cell wrote (Insert of new) one.reply) c.1
    (elim (cases_eq of table) [
      | inr apart ↦ stays (put_other own of at (Some new) table pos apart)
      | inl same ↦ elim (cases_eq at pos) [
        | inl there ↦
            let unwritten : wrote ≡ false =
            sym s.wrote_is ∙ (ap (λ (n : ℕ). is_some (item_at own n pos)) (sym same) ∙ (ap (λ (n : ℕ). is_some (item_at own of n)) (sym there) ∙ free)) in
            subst (λ (n : ℕ). SeesNext setting (with_writes own (record { table = n; pos = at; cell = Some new } ∷ [])) table pos cell wrote (Insert n new)
            reply.Inserted) (sym same)
            (subst (λ (n : ℕ). SeesNext setting (with_writes own (record { table = table; pos = n; cell = Some new } ∷ [])) table pos cell wrote
            (Insert table new) reply.Inserted) (sym there) (put_so setting own table pos new cell wrote s unwritten))
        | inr away ↦
            stays (ap (λ (n : ℕ). item_at (with_writes own (record { table = n; pos = at; cell = Some new } ∷ [])) table pos) same
            ∙ write_apart own table at (Some new) table pos (λ same. away (sym same)))
      ]
    ])
  where
    stays : item_at (with_writes own (record { table = of; pos = at; cell = Some new } ∷ [])) table pos ≡ item_at own table pos
        → SeesNext setting (with_writes own (record { table = of; pos = at; cell = Some new } ∷ [])) table pos cell wrote (Insert of new) reply.Inserted
    stays same = record {
      now = wrote || false;
      next = cell;
      stands = stays_so setting own (with_writes own (record { table = of; pos = at; cell = Some new } ∷ [])) table pos None cell wrote (Insert of new)
          (writes_fit setting own (record { table = of; pos = at; cell = Some new } ∷ []) s.fits)
          (writes_room own (record { table = of; pos = at; cell = Some new } ∷ []) table pos s.room) same s;
      more = or_first wrote false;
      next_is = inl refl;
    }

one_seen : (setting : Setting) (tables : Tables) (own : Own) (number : ℕ) (statement : Bound) (at : Option ℕ) (first : One) (table pos : ℕ) (cell : Cell)
    (wrote : Bool) → IsCellAt setting tables table pos None → one setting tables own number statement at ≡ Some first
    → StandsSo setting own table pos None cell wrote → SeesNext setting first.own table pos cell wrote statement first.reply
one_seen setting tables own number (Select from ons pred items) at first table pos cell wrote is e s =
    same_seen setting own first _ table pos cell wrote (Select from ons pred items) first.reply refl e refl s
one_seen setting tables own number (Group of pred key aggregate) at first table pos cell wrote is e s =
    same_seen setting own first _ table pos cell wrote (Group of pred key aggregate) first.reply refl e refl s
one_seen setting tables own number (Insert of new) at first table pos cell wrote is e s =
    insert_seen setting tables own of new _ at first table pos cell wrote e s
one_seen setting tables own number (Update of sets pred) at first table pos cell wrote is e s = record {
  now = wrote || writes table (Update of sets pred) cell;
  next = after_one table (Update of sets pred) cell;
  stands = one_changes setting tables own (kind.Set sets) pred of _ first table pos None cell wrote is e s;
  more = or_first wrote (writes table (Update of sets pred) cell);
  next_is = inl refl;
}
one_seen setting tables own number (Delete of pred) at first table pos cell wrote is e s = record {
  now = wrote || writes table (Delete of pred) cell;
  next = after_one table (Delete of pred) cell;
  stands = one_changes setting tables own kind.Delete pred of _ first table pos None cell wrote is e s;
  more = or_first wrote (writes table (Delete of pred) cell);
  next_is = inl refl;
}
one_seen setting tables own number (Savepoint name) at first table pos cell wrote is e s =
    same_seen setting own first _ table pos cell wrote (Savepoint name) first.reply refl e refl s
one_seen setting tables own number (RollbackTo name) at first table pos cell wrote is e s =
    same_seen setting own first _ table pos cell wrote (RollbackTo name) first.reply refl e refl s
one_seen setting tables own number (Release name) at first table pos cell wrote is e s =
    same_seen setting own first _ table pos cell wrote (Release name) first.reply refl e refl s

-- ---- savepoints

-- of savepoints that keep no row: what was own at one is own still
record WasNone (table pos : ℕ) (wrote : Bool) (was : Own) (cell : Cell) : Type 0 where
  none : None ≡ cell
  within : is_some (item_at was table pos) ≡ true → wrote ≡ true

none_later : (table pos : ℕ) (wrote now : Bool) → (wrote ≡ true → now ≡ true) → (was : Own) (cell : Cell) → WasNone table pos wrote was cell
    → WasNone table pos now was cell
none_later table pos wrote now more was cell w = record { none = w.none; within = λ some. more (w.within some) }

-- where nothing is written nothing was seen
none_seen : (table pos : ℕ) (wrote : Bool) → wrote ≡ false → (was : Own) (cell : Cell) → WasNone table pos wrote was cell
    → WasSo table pos None wrote was cell
none_seen table pos wrote unwritten was cell w = by_item (item_at was table pos) refl
  where
    by_item : (item : Option Cell) → item_at was table pos ≡ item → WasSo table pos None wrote was cell
    by_item None e = record { seen = ap (covered (λ (one : Cell). one) None) e ∙ w.none; within = w.within }
    by_item (Some one) e = absurd (let never : false ≡ true = sym unwritten ∙ w.within (ap is_some e) in cc)

-- savepoints of a run, what was seen at each, and as many that keep no row
record NewsFollow (setting : Setting) (own : Own) (saved : List (Saved Own)) (table pos : ℕ) (cells nones : List (Saved Cell)) (cell : Cell) (wrote : Bool)
    : Type 0 where
  seen : IsFollowed setting own saved table pos None cells cell wrote
  empty : AreAlike (WasNone table pos wrote) saved nones

-- after a statement what is seen is followed, or what it inserted is, from savepoints that keep no row
data FollowsNext (setting : Setting) (own : Own) (saved : List (Saved Own)) (table pos : ℕ) (cells nones : List (Saved Cell)) (cell : Cell)
    (statement : Bound) (told : Reply) : Type 0 where
  follows_on : (wrote : Bool)
      → NewsFollow setting own saved table pos (cells_saved table statement cells cell) (saved_after statement nones None)
      (cell_left table statement cells cell) wrote → FollowsNext setting own saved table pos cells nones cell statement told
  begins_anew : (wrote : Bool)
      → NewsFollow setting own saved table pos (saved_after statement nones None) (saved_after statement nones None) (row_inserted table statement told) wrote
      → FollowsNext setting own saved table pos cells nones cell statement told

-- what an INSERT put is followed from savepoints that keep no row
row_follows : (setting : Setting) (tables : Tables) (own : Own) (saved : List (Saved Own)) (table pos : ℕ) (nones : List (Saved Cell)) (cell : Cell)
    (wrote now : Bool) (statement : Bound) (of : ℕ) (row : List Value) → Insert of row ≡ statement → IsCellAt setting tables table pos None
    → AreAlike (WasNone table pos wrote) saved nones → wrote ≡ false → (wrote ≡ true → now ≡ true) → StandsSo setting own table pos None cell now
    → IsFollowed setting (value_after (taken_back tables) statement saved own) (saved_after statement saved own) table pos None
    (saved_after statement nones None) cell now
row_follows setting tables own saved table pos nones cell wrote now statement of row same is empty unwritten more s =
    subst (λ (one : Bound). IsFollowed setting (value_after (taken_back tables) one saved own) (saved_after one saved own) table pos None
    (saved_after one nones None) cell now) same
    (saving_follows setting tables own saved table pos None nones cell wrote now (Insert of row) is
    (alike_wider (WasNone table pos wrote) (WasSo table pos None wrote) (none_seen table pos wrote unwritten) saved nones empty) more s)

next_follows : (setting : Setting) (tables : Tables) (own : Own) (saved : List (Saved Own)) (table pos : ℕ) (cells nones : List (Saved Cell)) (cell : Cell)
    (wrote : Bool) (statement : Bound) (told : Reply) → IsCellAt setting tables table pos None
    → AreAlike (WasSo table pos None wrote) saved cells → AreAlike (WasNone table pos wrote) saved nones
    → SeesNext setting own table pos cell wrote statement told
    → FollowsNext setting (value_after (taken_back tables) statement saved own) (saved_after statement saved own) table pos cells nones cell statement told
next_follows setting tables own saved table pos cells nones cell wrote statement told is was empty n =
    let none : AreAlike (WasNone table pos n.now) (saved_after statement saved own) (saved_after statement nones None) =
    saved_after_alike (WasNone table pos n.now) statement saved nones own None
    (alike_wider (WasNone table pos wrote) (WasNone table pos n.now) (none_later table pos wrote n.now n.more) saved nones empty)
    (record { none = refl; within = λ some. sym n.stands.wrote_is ∙ some }) in
    elim n.next_is [
      | inl same ↦ follows_on n.now (record {
        seen = saving_follows setting tables own saved table pos None cells (after_one table statement cell) wrote n.now statement is was n.more
            (subst (λ (next : Cell). StandsSo setting own table pos None next n.now) same n.stands);
        empty = none;
      })
      | inr puts ↦ begins_anew n.now (record {
        seen = row_follows setting tables own saved table pos nones (row_inserted table statement told) wrote n.now statement puts.of puts.row puts.is is
            empty puts.unwritten n.more (subst (λ (next : Cell). StandsSo setting own table pos None next n.now) puts.next_is n.stands);
        empty = none;
      })
    ]

or_inside : (a b c : Bool) → (a || c) ≡ true → (a || (b || c)) ≡ true
or_inside true b c e = refl
or_inside false true c e = refl
or_inside false false c e = e

-- what passes a test in the end is what was seen, followed through the statements, or a row that one of these inserted
news_follow : (setting : Setting) (tables : Tables) (own : Own) (saved : List (Saved Own)) (number : ℕ) (statements : List Bound)
    (took : List (Option ℕ)) (given : Ran) (table pos : ℕ) (cells nones : List (Saved Cell)) (cell : Cell) (wrote : Bool) (test : Cell → Bool)
    → IsCellAt setting tables table pos None → ran_from setting tables own saved number statements took ≡ Some given
    → NewsFollow setting own saved table pos cells nones cell wrote → test (item_at (over tables given.own) table pos) ≡ true
    → (test (followed_from table cells statements cell) || some_inserted_from test table nones statements given.replies) ≡ true
news_follow setting tables own saved number [] took given table pos cells nones cell wrote test is e f passes =
    let seen : item_at (over tables own) table pos ≡ cell =
    covered_at setting (λ (item : Cell). item) tables own is.are f.seen.stands.fits table pos
    ∙ (ap (λ (under : Cell). covered (λ (item : Cell). item) under (item_at own table pos)) is.under_is ∙ f.seen.stands.cell_is) in
    or_left (test cell) (some_inserted_from test table nones [] given.replies)
    (ap test (sym seen) ∙ (ap (λ (ran : Ran). test (item_at (over tables ran.own) table pos)) (same_Some _ given e) ∙ passes))
news_follow setting tables own saved number (statement ∷ statements) [] given table pos cells nones cell wrote test is e f passes = absurd cc
news_follow setting tables own saved number (statement ∷ statements) (at ∷ took) given table pos cells nones cell wrote test is e f passes =
    let w : Went setting tables own saved number statement statements at took given =
    went setting tables own saved number statement statements at took given e in
    let kept : List (Saved Cell) = saved_after statement nones None in
    let next : Own = value_after (taken_back tables) statement saved w.first.own in
    let later : List (Saved Own) = saved_after statement saved w.first.own in
    let goes : Bool = test (followed_from table (cells_saved table statement cells cell) statements (cell_left table statement cells cell)) in
    let inserts : Bool = test (followed_from table kept statements (row_inserted table statement w.first.reply)) in
    let behind : Bool = some_inserted_from test table kept statements w.rest.replies in
    let ends : test (item_at (over tables w.rest.own) table pos) ≡ true =
    ap (λ (ran : Ran). test (item_at (over tables ran.own) table pos)) w.both ∙ passes in
    subst (λ (ran : Ran). (test (followed_from table cells (statement ∷ statements) cell)
    || some_inserted_from test table nones (statement ∷ statements) ran.replies) ≡ true) w.both
    (elim (next_follows setting tables w.first.own saved table pos cells nones cell wrote statement w.first.reply is f.seen.was f.empty
    (one_seen setting tables own number statement at w.first table pos cell wrote is w.first_is f.seen.stands)) [
      | follows_on now n ↦ or_inside goes inserts behind
          (news_follow setting tables next later (suc number) statements took w.rest table pos (cells_saved table statement cells cell) kept
          (cell_left table statement cells cell) now test is w.rest_is n ends)
      | begins_anew now n ↦ or_right goes (inserts || behind)
          (news_follow setting tables next later (suc number) statements took w.rest table pos kept kept (row_inserted table statement w.first.reply) now test
          is w.rest_is n ends)
    ])

-- statements leave nothing where nothing is
none_left : (b : Bool) (left : Cell) → left ≡ None → cond b left None ≡ None
none_left true left e = e
none_left false left e = refl

none_after : (table : ℕ) (statement : Bound) → after_one table statement None ≡ None
none_after table (Select from ons pred items) = refl
none_after table (Group of pred key aggregate) = refl
none_after table (Insert of new) = refl
none_after table (Update of sets pred) = none_left (writes table (Update of sets pred) None) (left_by (Update of sets pred) None) refl
none_after table (Delete of pred) = none_left (writes table (Delete of pred) None) (left_by (Delete of pred) None) refl
none_after table (Savepoint name) = refl
none_after table (RollbackTo name) = refl
none_after table (Release name) = refl

-- of savepoints that keep no row
abbrev IsNone : Cell → Cell → Type 0
IsNone cell other = cell ≡ None

abbrev AreNone : List (Saved Cell) → Type 0
AreNone cells = AreAlike IsNone cells cells

none_back : (table : ℕ) (statement : Bound) (cells : List (Saved Cell)) (cell : Cell) → AreNone cells → cell ≡ None
    → value_after cell_back statement cells cell ≡ None
none_back table statement cells cell none is =
    value_after_alike IsNone IsNone cell_back cell_back statement cells cells cell cell none is (λ was other h. h)

none_follows : (table : ℕ) (cells : List (Saved Cell)) (statements : List Bound) (cell : Cell) → AreNone cells → cell ≡ None
    → followed_from table cells statements cell ≡ None
none_follows table cells [] cell none is = is
none_follows table cells (statement ∷ statements) cell none is =
    let left : after_one table statement cell ≡ None = ap (after_one table statement) is ∙ none_after table statement in
    none_follows table (cells_saved table statement cells cell) statements (cell_left table statement cells cell)
    (saved_after_alike IsNone statement cells cells (after_one table statement cell) (after_one table statement cell) none left)
    (none_back table statement cells (after_one table statement cell) none left)

-- a row that passes a test where none stood at the start is one that was inserted
pub news_are_inserted : (setting : Setting) (tables : Tables) (statements : List Bound) (took : List (Option ℕ)) (given : Ran) (table pos : ℕ)
    (row : List Value) (test : Cell → Bool) → AreTables setting tables → ran setting tables statements took ≡ Some given → item_at tables table pos ≡ None
    → item_at (over tables given.own) table pos ≡ Some row → test None ≡ false → test (Some row) ≡ true
    → some_inserted test table statements given.replies ≡ true
news_are_inserted setting tables statements took given table pos row test are e none there empty passes =
    let over_are : AreTables setting (over tables given.own) = covered_are setting (λ (own : Cell). own) tables given.own are in
    let at : IsThere (over tables given.own) (capacity setting) table pos =
    row_there (over tables given.own) (capacity setting) table pos row over_are.long there in
    let is : IsCellAt setting tables table pos None = record { are = are; under_is = none; below = at.below } in
    let start : StandsSo setting (blank_own setting) table pos None None false =
    begins_so setting tables table pos None is (omega (arith, at.table_below, over_are.many, are.many)) in
    let either = news_follow setting tables (blank_own setting) [] 1 statements took given table pos [] [] None false test is e
    (record { seen = record { stands = start; was = tt }; empty = tt }) (ap test there ∙ passes) in
    or_only (test (followed table statements None)) (some_inserted test table statements given.replies)
    (ap test (none_follows table [] statements None tt refl) ∙ empty) either
  where
    or_only : (a b : Bool) → a ≡ false → (a || b) ≡ true → b ≡ true
    or_only true b f h = absurd cc
    or_only false b f h = h
