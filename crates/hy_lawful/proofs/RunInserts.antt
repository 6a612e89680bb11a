-- What a visit of an INSERT makes of what its transaction has run.
use Rattle.std.proofs.Common.{◌≡◌, ℕ, zero, suc, ◌+◌, ◌-◌, ◌*◌, ◌<◌, ◌≤◌, List, [], ◌∷◌, Option, None, Some, Bool, true, false, length}
use Rattle.std.proofs.Common.{cond, get_or, not, is_some, ltb, refl, ap, ◌∙◌, arith, inl, inr, mul-le-mul_right}
use Rattle.std.specs.Prelude.{◌&&◌, ◌==◌, slice_get}
use Rattle.std.specs.List.{AllByRecursion, list_any, range_with_len}
use Rattle.std.proofs.Math.ListN.{get_or-eq_default}
use Rattle.std.proofs.lemmas.Bool.{cases_Bool, cases_lt, lt-ltb, le-ltb, ltb-true, and_right, or_from}
use Rattle.hy_value.specs.declared.Value.{Value}
use Rattle.hy_bound.specs.declared.Record.{Record}
use Rattle.hy_bound.specs.declared.Reply.TheVariants as reply
use Rattle.hy_bound.specs.declared.Bound.{Bound}
use Rattle.hy_bound.specs.declared.Bound.TheVariants.{Insert}
use Rattle.hy_bound.specs.Changes.{present}
use Rattle.hy_bound.specs.Records.{shape_of}
use Rattle.hy_plan.specs.Reads.{records_of}
use Rattle.hy_meaning.specs.Statement.{has_key_of}
use Rattle.hy_machine.specs.declared.Setting.{Setting}
use Rattle.hy_protocol.specs.declared.Phase.TheVariants.{Working}
use Rattle.hy_machine.specs.States.{State, Begun}
use Rattle.hy_machine.specs.Writes.{Write, with_write}
use Rattle.hy_machine.specs.Positions.{item_at}
use Rattle.hy_machine.specs.Tables.{Cell, Tables, Own, capacity, positions_in, over}
use Rattle.hy_machine.specs.Sessions.{session_at, snapshot, view}
use Rattle.hy_machine.specs.Holding.{is_free}
use Rattle.hy_machine.specs.Visits.{has_key_in, sees_key, free_position, checks_of}
use Rattle.hy_machine.specs.Turns.{rows_seen, check_turn, place_turn, insert_turn}
use Rattle.hy_replay.specs.Laws.{AreTables}
use Rattle.hy_replay.specs.Ran.{One, Ran, has_key_at, placed_at}
use Rattle.hy_lawful.specs.Refusing.{finds_key}
use Rattle.hy_lawful.proofs.PassTables.{covered_are, tables_are}
use Rattle.hy_lawful.proofs.RunFree.{PassesAt, any_within, any_at, none_at, none_within, found_at, HasNothing, free_has_nothing}
use Rattle.hy_lawful.proofs.RunVisits.{HasLooked, IsNext, RunTurn, visits}

-- ---- the key

-- the positions of a chunk are below those of the next one
chunk_below : (chunk chunks rows : ℕ) → chunk < chunks → chunk * rows + rows ≤ chunks * rows
chunk_below chunk chunks rows h =
    let more : suc chunk * rows ≤ chunks * rows = mul-le-mul_right rows h in
    let same : suc chunk * rows ≡ chunk * rows + rows = omega arith in
    omega arith

no_key : (row : List Value) (cell : Cell) → has_key_in row None cell ≡ false
no_key row None = refl
no_key row (Some other) = refl

-- a key that a check sees is somewhere
seen_is_there : (setting : Setting) (visited : ℕ) (key : Option ℕ) (test : ℕ → Bool) → visited < checks_of setting key
    → list_any test (positions_in setting visited) ≡ true → list_any test (range_with_len 0 (capacity setting)) ≡ true
seen_is_there setting visited None test few h = absurd (omega arith)
seen_is_there setting visited (Some key) test few h =
    let at : PassesAt test (visited * setting.rows) (visited * setting.rows + setting.rows) =
    any_at test (visited * setting.rows) setting.rows (visited * setting.rows + setting.rows) refl h in
    any_within test 0 (capacity setting) at.pos (omega arith)
    (omega (arith, at.below, chunk_below visited setting.chunks setting.rows few)) at.passes

-- a key that no check sees is nowhere
unseen_is_nowhere : (setting : Setting) (visited : ℕ) (row : List Value) (key : Option ℕ) (tables : Tables) (table : ℕ) → checks_of setting key ≤ visited
    → ((pos : ℕ) → pos < visited * setting.rows → pos < checks_of setting key * setting.rows → has_key_in row key (item_at tables table pos) ≡ false)
    → list_any (λ pos. has_key_in row key (item_at tables table pos)) (range_with_len 0 (capacity setting)) ≡ false
unseen_is_nowhere setting visited row None tables table past clear =
    none_within (λ pos. has_key_in row None (item_at tables table pos)) 0 (capacity setting) (capacity setting) (omega arith)
    (λ pos from below. no_key row (item_at tables table pos))
unseen_is_nowhere setting visited row (Some key) tables table past clear =
    none_within (λ pos. has_key_in row (Some key) (item_at tables table pos)) 0 (capacity setting) (capacity setting) (omega arith)
    (λ pos from below. clear pos
    (let more : setting.chunks * setting.rows ≤ visited * setting.rows = mul-le-mul_right setting.rows past in omega arith) below)

-- ---- a new row

-- a position behind the end of a table has no row
behind_end : (tables : Tables) (most table pos : ℕ) → AllByRecursion (λ (cells : List Cell). length cells ≡ most) tables → most ≤ pos
    → item_at tables table pos ≡ None
behind_end [] most table pos l past = refl
behind_end (cells ∷ tables) most zero pos l past = get_or-eq_default cells None (omega (arith, l.0, past))
behind_end (cells ∷ tables) most (suc table) pos l past = behind_end tables most table pos l.1 past

-- a key that no check sees is at no position
no_key_at : (setting : Setting) (visited : ℕ) (row : List Value) (key : Option ℕ) (tables : Tables) (table : ℕ) → AreTables setting tables
    → checks_of setting key ≤ visited
    → ((pos : ℕ) → pos < visited * setting.rows → pos < checks_of setting key * setting.rows → has_key_in row key (item_at tables table pos) ≡ false)
    → (pos : ℕ) → has_key_in row key (item_at tables table pos) ≡ false
no_key_at setting visited row None tables table are past clear pos = no_key row (item_at tables table pos)
no_key_at setting visited row (Some key) tables table are past clear pos = elim (cases_lt pos (capacity setting)) [
  | inl below ↦ clear pos
      (let more : setting.chunks * setting.rows ≤ visited * setting.rows = mul-le-mul_right setting.rows past in omega (arith, more, below)) below
  | inr behind ↦ ap (has_key_in row (Some key)) (behind_end tables (capacity setting) table pos are.long behind)
]

-- a key that is at no position is in no row
no_row : (row : List Value) (key : Option ℕ) (cells : List Cell) → ((pos : ℕ) → has_key_in row key (get_or cells pos None) ≡ false)
    → list_any (has_key_of row key) (present cells) ≡ false
no_row row key [] clear = refl
no_row row key (None ∷ cells) clear = no_row row key cells (λ pos. clear (suc pos))
no_row row key (Some other ∷ cells) clear =
    or_from (has_key_of row key other) (list_any (has_key_of row key) (present cells)) (clear 0) (no_row row key cells (λ pos. clear (suc pos)))

-- ---- visits

-- a visit of an INSERT
record Looks (setting : Setting) (state : State) (statements : List Bound) (number : ℕ) (begun : Begun) (given : Ran) (visited count table : ℕ)
    (row : List Value) : Type 0 where
  is : (session_at state number).now ≡ Some (record { begun = begun; phase = Working visited count })
  low : begun.low ≤ begun.prefix
  next : IsNext statements begun (Insert table row)
  looked : HasLooked setting (snapshot setting state begun.prefix) begun given visited table row (shape_of setting.shapes table).key

abbrev key_of : Setting → ℕ → Option ℕ
key_of setting table = (shape_of setting.shapes table).key

abbrev test_of : Setting → State → Begun → ℕ → List Value → ℕ → Bool
test_of setting state begun table row pos = has_key_in row (key_of setting table) (item_at (view setting state begun) table pos)

-- the records of the statement
abbrev logged : Setting → Begun → ℕ → List Value → List Record
logged setting begun table row = records_of setting.shapes (suc (length begun.replies)) (Insert table row) []

check_run : (setting : Setting) (state : State) (statements : List Bound) (number : ℕ) (begun : Begun) (given : Ran) (visited count table : ℕ)
    (row : List Value) → Looks setting state statements number begun given visited count table row → visited < checks_of setting (key_of setting table)
    → 0 < setting.chunks → (found : Bool) → sees_key setting state begun table row (key_of setting table) visited ≡ found
    → RunTurn setting (snapshot setting state begun.prefix) statements begun given (check_turn setting begun visited (Insert table row) found)
check_run setting state statements number begun given visited count table row l few chunks true e =
    let tables : Tables = snapshot setting state begun.prefix in
    let found : has_key_at setting (over tables begun.own) table row ≡ true =
    seen_is_there setting visited (key_of setting table) (test_of setting state begun table row) few e in
    record {
      statement = Insert table row;
      here = l.next.here;
      position = tt;
      gives = ap (λ (own : Own). placed_at setting tables own table row (logged setting begun table row) None) l.looked.own
          ∙ ap (λ (b : Bool). cond b (Some (record { own = begun.own; reply = reply.Duplicate; records = logged setting begun table row })) None) found;
      stays = refl;
      saved = refl;
    }
check_run setting state statements number begun given visited count table row l few chunks false e =
    visits setting (snapshot setting state begun.prefix) statements begun given (Insert table row) [] (suc visited) 0 l.next
    (record {
      own = l.looked.own;
      clear = λ pos below short. elim (cases_lt pos (visited * setting.rows)) [
        | inl before ↦ l.looked.clear pos before short
        | inr here ↦ none_at (test_of setting state begun table row) (visited * setting.rows) setting.rows pos e here
            (let same : suc visited * setting.rows ≡ visited * setting.rows + setting.rows = omega arith in omega arith)
      ];
      few = omega (arith, chunks);
    })

-- where all is looked through, the row is new
is_new : (setting : Setting) (state : State) (statements : List Bound) (number : ℕ) (begun : Begun) (given : Ran) (visited count table : ℕ)
    (row : List Value) → Looks setting state statements number begun given visited count table row → checks_of setting (key_of setting table) ≤ visited
    → finds_key setting.shapes table (slice_get statements (length begun.replies)) (rows_seen (over (snapshot setting state begun.prefix) given.own) table)
    ≡ false
is_new setting state statements number begun given visited count table row l past =
    let tables : Tables = snapshot setting state begun.prefix in
    let seen : Tables = over tables begun.own in
    ap (λ (own : Own). finds_key setting.shapes table (slice_get statements (length begun.replies)) (rows_seen (over tables own) table)) l.looked.own
    ∙ (ap (λ (statement : Option Bound). finds_key setting.shapes table statement (rows_seen seen table)) l.next.here
    ∙ and_right (table == table) (list_any (has_key_of row (key_of setting table)) (rows_seen seen table))
    (no_row row (key_of setting table) (get_or seen table [])
    (no_key_at setting visited row (key_of setting table) seen table
    (covered_are setting (λ (own : Cell). own) tables begun.own (tables_are setting state.order begun.prefix)) past l.looked.clear)))

place_run : (setting : Setting) (state : State) (statements : List Bound) (number : ℕ) (begun : Begun) (given : Ran) (visited count table : ℕ)
    (row : List Value) → Looks setting state statements number begun given visited count table row → checks_of setting (key_of setting table) ≤ visited
    → (chunk : ℕ) → visited ≡ checks_of setting (key_of setting table) + chunk
    → (pos : Option ℕ) → free_position setting state begun table chunk ≡ pos
    → RunTurn setting (snapshot setting state begun.prefix) statements begun given (place_turn setting begun visited chunk (Insert table row) table row pos)
place_run setting state statements number begun given visited count table row l past chunk at (Some pos) e =
    let tables : Tables = snapshot setting state begun.prefix in
    let found = found_at (is_free setting state begun table) (chunk * setting.rows) setting.rows pos (chunk * setting.rows + setting.rows) refl e in
    let few : chunk < setting.chunks = omega (arith, l.looked.few) in
    let there : pos < capacity setting = omega (arith, found.1, chunk_below chunk setting.chunks setting.rows few) in
    let nothing : HasNothing tables begun.own table pos =
    free_has_nothing setting state number begun visited count table pos l.is l.low there found.0 in
    let nowhere : has_key_at setting (over tables begun.own) table row ≡ false =
    unseen_is_nowhere setting visited row (key_of setting table) (over tables begun.own) table past l.looked.clear in
    let write : Write = record { table = table; pos = pos; cell = Some row } in
    let placed : One = record { own = with_write begun.own write; reply = reply.Inserted; records = logged setting begun table row } in
    record {
      statement = Insert table row;
      here = l.next.here;
      position = there;
      gives = ap (λ (own : Own). placed_at setting tables own table row (logged setting begun table row) (Some pos)) l.looked.own
          ∙ (ap (λ (found : Bool). cond (not found && not (is_some (item_at begun.own table pos)) && not (is_some (item_at tables table pos)))
          (Some placed) None) nowhere
          ∙ (ap (λ (item : Option Cell). cond (not (is_some item) && not (is_some (item_at tables table pos))) (Some placed) None) nothing.own_none
          ∙ ap (λ (cell : Cell). cond (not (is_some cell)) (Some placed) None) nothing.tables_none));
      stays = refl;
      saved = refl;
    }
place_run setting state statements number begun given visited count table row l past chunk at None e = elim (cases_Bool (ltb (suc chunk) setting.chunks)) [
  | inl t ↦ rw t (visits setting (snapshot setting state begun.prefix) statements begun given (Insert table row) [] (suc visited) 0 l.next
      (record {
        own = l.looked.own;
        clear = λ pos below short. l.looked.clear pos
            (let more : checks_of setting (key_of setting table) * setting.rows ≤ visited * setting.rows = mul-le-mul_right setting.rows past in omega arith)
            short;
        few = omega (arith, ltb-true (suc chunk) setting.chunks t, at);
      }))
  | inr f ↦ rw f (refl, is_new setting state statements number begun given visited count table row l past)
]

pub insert_run : (setting : Setting) (state : State) (statements : List Bound) (number : ℕ) (begun : Begun) (given : Ran) (visited count table : ℕ)
    (row : List Value) → 0 < setting.chunks → (session_at state number).now ≡ Some (record { begun = begun; phase = Working visited count })
    → begun.low ≤ begun.prefix → IsNext statements begun (Insert table row)
    → HasLooked setting (snapshot setting state begun.prefix) begun given visited table row (shape_of setting.shapes table).key
    → RunTurn setting (snapshot setting state begun.prefix) statements begun given
    (insert_turn setting state begun visited (Insert table row) table row (shape_of setting.shapes table).key)
insert_run setting state statements number begun given visited count table row chunks is low next looked =
    let l : Looks setting state statements number begun given visited count table row = record { is = is; low = low; next = next; looked = looked } in
    elim (cases_lt visited (checks_of setting (key_of setting table))) [
      | inl few ↦ rw (lt-ltb visited (checks_of setting (key_of setting table)) few)
          (check_run setting state statements number begun given visited count table row l few chunks
          (sees_key setting state begun table row (key_of setting table) visited) refl)
      | inr past ↦ rw (le-ltb visited (checks_of setting (key_of setting table)) past)
          (place_run setting state statements number begun given visited count table row l past (visited - checks_of setting (key_of setting table))
          (omega arith) (free_position setting state begun table (visited - checks_of setting (key_of setting table))) refl)
    ]
