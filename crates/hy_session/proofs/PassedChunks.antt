-- Where an INSERT goes past chunks one after another, its session does.
use Rattle.std.proofs.Common.{◌≡◌, ℕ, zero, suc, ◌+◌, ◌-◌, ◌<◌, ◌≤◌, List, [], ◌∷◌, Option, None, Some, Bool, true, false, length, take, inl, inr, refl, ap, ◌∙◌, sym, subst, arith}
use Rattle.std.specs.Prelude.{nat_lt, nat_le, slice_get, if◌then◌else◌}
use Rattle.std.specs.Bool.{MatchBool}
use Rattle.std.specs.List.{AllByRecursion}
use Rattle.std.specs.Option.{option_map}
use Rattle.std.proofs.lemmas.Bool.{lt-ltb, le-ltb, leb-true, cases_lt}
use Rattle.std.proofs.lemmas.List.{length-take-le}
use Rattle.hy_value.specs.declared.Value.{Value}
use Rattle.hy_bound.specs.declared.Bound.{Bound}
use Rattle.hy_bound.specs.declared.Bound.TheVariants.{Insert}
use Rattle.hy_bound.specs.declared.Shape.{Shape}
use Rattle.hy_bound.specs.declared.Txn.{Txn}
use Rattle.hy_bound.specs.Records.{shape_of}
use Rattle.hy_undo.specs.Chunks.{ChunkData}
use Rattle.hy_chunk.specs.Views.{Whole}
use Rattle.hy_visit.specs.Pruning.{AllShort}
use Rattle.hy_protocol.specs.declared.Phase.TheVariants.{Working}
use Rattle.hy_protocol.specs.declared.Progress.TheVariants.{Moved}
use Rattle.hy_event.specs.declared.SessionData.{SessionData}
use Rattle.hy_event.specs.declared.Open.{Open}
use Rattle.hy_event.specs.declared.Need.TheVariants.{Chunk}
use Rattle.hy_event.specs.Events.{StatementVisit}
use Rattle.hy_event.specs.Inserting.{CheckVisit, PlaceVisit, Comes, check_turn, sees_key}
use Rattle.hy_event.specs.Needs.{checks_of, insert_need, need_of, working_need}
use Rattle.hy_event.specs.Sessions.{label_of, txn_at, viewer_of}
use Rattle.hy_event.specs.Turns.{Takes, with_open}
use Rattle.hy_session.specs.declared.visitors.Visitor.{Visitor}
use Rattle.hy_session.specs.Passing.{AreAlike, GoesPast, GoneTo, IsFull, IsPassed, Passes, gone_past, visits_for_key}
use Rattle.hy_session.specs.Short.{LeavesShort, statement_prunes}
use Rattle.hy_session.specs.Visitors.{IsVisitor}
use Rattle.hy_session.specs.Written.{kept_in}
use Rattle.hy_session.proofs.Dispatch.{work_needs, statement_event, prunes_as}
use Rattle.hy_session.proofs.VisitTurns.{takes_visit, place_goes}

-- the number of the chunk at which the next visit of an INSERT looks for a key, or for a position
abbrev pub number_at : Option ℕ → ℕ → Option ℕ → ℕ → ℕ
number_at None chunks key visited = visited - visits_for_key chunks key
number_at (Some sought) chunks key visited = visited

-- an open transaction after one more visit that went on, where as many rows as before are selected
abbrev pub onward : ℕ → ℕ → Open → Open
onward count visited now = record now { phase = Working (suc visited) count }

same_checks : (session : SessionData) (key : Option ℕ) → visits_for_key session.chunks key ≡ checks_of session key
same_checks session None = refl
same_checks session (Some key) = refl

-- ---- one visit

-- a visit of a statement leaves no long chain, where that holds if it prunes
pub leaves_short : (session : SessionData) (txn : Txn) (now : Open) (visited count : ℕ) (statement : Bound) → txn_at session ≡ Some txn
    → session.now ≡ Some now → now.phase ≡ Working visited count → slice_get txn.statements (length now.replies) ≡ Some statement → (chunk : ChunkData)
    → (statement_prunes session visited statement ≡ true → session.prunes ≡ true → AllShort now.cover chunk.places) → LeavesShort session session.now chunk
leaves_short session txn now visited count statement there opened works present chunk short =
    let as_statement = prunes_as session txn now there opened visited count works statement present in
    let both : LeavesShort session (Some now) chunk = λ does visits. short (sym as_statement ∙ visits) does in
    subst (λ (o : Option Open). LeavesShort session o chunk) (sym opened) both

module _ (session : SessionData) (txn : Txn) (now : Open) (visited count table : ℕ) (row : List Value) (there : txn_at session ≡ Some txn)
    (opened : session.now ≡ Some now) (works : now.phase ≡ Working visited count)
    (present : slice_get txn.statements (length now.replies) ≡ Some (Insert table row)) (chunk : ChunkData) where
  abbrev key_column : Option ℕ
  key_column = (shape_of session.shapes table).key

  abbrev next : SessionData
  next = with_open (onward 0 visited now) session

  needs : need_of session ≡ insert_need visited table (checks_of session key_column)
  needs = work_needs session txn now there opened visited count works ∙ ap (working_need session txn now visited) present

  prunes : (nat_le (checks_of session key_column) visited ≡ true → session.prunes ≡ true → AllShort now.cover chunk.places)
      → LeavesShort session session.now chunk
  prunes short = leaves_short session txn now visited count (Insert table row) there opened works present chunk short

  -- one that looks for the key
  module _ (sought : ℕ) (keyed : key_column ≡ Some sought) (few : visited < session.chunks)
      (past : GoesPast (Some sought) (viewer_of session now) row session.prunes now.cover chunk) where
    checks : nat_lt visited (checks_of session key_column) ≡ true
    checks = ap (λ (k : Option ℕ). nat_lt visited (checks_of session k)) keyed ∙ lt-ltb visited session.chunks few

    unseen : sees_key (viewer_of session now) row key_column chunk.places ≡ false
    unseen = ap (λ (k : Option ℕ). sees_key (viewer_of session now) row k chunk.places) keyed ∙ past

    check_visit : CheckVisit session now visited (Insert table row) row key_column chunk Moved next chunk
    check_visit = record {
      chunk = refl;
      turn = subst (λ (b : Bool). Takes session (check_turn session now visited (Insert table row) b) Moved next) (sym unseen)
          (takes_visit session now (onward 0 visited now) [] (Working (suc visited) 0) opened refl);
    }

    checked : IsPassed session table visited chunk next
    checked =
        let visit : StatementVisit session now visited count (Insert table row) chunk Moved next chunk =
        subst (λ (b : Bool). MatchBool b (CheckVisit session now visited (Insert table row) row key_column chunk Moved next chunk)
        (PlaceVisit session now visited (visited - checks_of session key_column) (Insert table row) table row chunk Moved next chunk)) (sym checks) check_visit in
        let no : nat_le (checks_of session key_column) visited ≡ true → ⊥ =
        λ low.
        let many : checks_of session key_column ≡ session.chunks = ap (checks_of session) keyed in
        let l = leb-true (checks_of session key_column) visited low in
        omega (arith, l, many, few) in
        record {
          needed = needs ∙ ap (λ (b : Bool). if b then Chunk table visited else Chunk table (visited - checks_of session key_column)) checks;
          event = statement_event session txn now there opened visited count works (Insert table row) present chunk chunk Moved next visit;
          short = prunes (λ low does. absurd (no low));
        }

  -- one that looks for a position
  module _ (low : visits_for_key session.chunks key_column ≤ visited) (more : suc (visited - visits_for_key session.chunks key_column) < session.chunks)
      (past : IsFull session.prunes now.cover chunk) where
    places : nat_lt visited (checks_of session key_column) ≡ false
    places = le-ltb visited (checks_of session key_column) (subst (λ (n : ℕ). n ≤ visited) (same_checks session key_column) low)

    place_visit : PlaceVisit session now visited (visited - checks_of session key_column) (Insert table row) table row chunk Moved next chunk
    place_visit =
        let others : suc (visited - checks_of session key_column) < session.chunks =
        subst (λ (n : ℕ). suc (visited - n) < session.chunks) (same_checks session key_column) more in
        record {
          between = chunk;
          prunes = past.pruned;
          chunk = subst (λ (i : Option ℕ). Comes (viewer_of session now) (label_of session) now.cover row i chunk chunk) (sym past.full) refl;
          turn = place_goes session now (onward 0 visited now) visited (Insert table row) opened (kept_in now) (visited - checks_of session key_column) table row _
              (sym (ap (option_map (λ (index : ℕ). chunk.first + index)) past.full)) refl
              (lt-ltb (suc (visited - checks_of session key_column)) session.chunks others) refl;
        }

    placed : IsPassed session table (visited - visits_for_key session.chunks key_column) chunk next
    placed =
        let visit : StatementVisit session now visited count (Insert table row) chunk Moved next chunk =
        subst (λ (b : Bool). MatchBool b (CheckVisit session now visited (Insert table row) row key_column chunk Moved next chunk)
        (PlaceVisit session now visited (visited - checks_of session key_column) (Insert table row) table row chunk Moved next chunk)) (sym places) place_visit in
        record {
          needed = needs ∙ (ap (λ (b : Bool). if b then Chunk table visited else Chunk table (visited - checks_of session key_column)) places
              ∙ ap (λ (n : ℕ). Chunk table (visited - n)) (sym (same_checks session key_column)));
          event = statement_event session txn now there opened visited count works (Insert table row) present chunk chunk Moved next visit;
          short = prunes (λ l does. past.short does);
        }

  passed : (sought : Option ℕ) (left : ℕ) → AreAlike session.chunks key_column visited sought (suc left)
      → GoesPast sought (viewer_of session now) row session.prunes now.cover chunk
      → IsPassed session table (number_at sought session.chunks key_column visited) chunk next
  passed (Some sought) left alike past = checked sought alike.0 (omega (arith, alike.1)) past
  passed None left alike past =
      let more = alike.1 (λ e. cc e) in
      placed alike.0 (omega (arith, more)) past

-- ---- visits that look for the same

pub alike_key : (chunks visited sought : ℕ) (key : Option ℕ) → key ≡ Some sought → visited < chunks
    → AreAlike chunks key visited (Some sought) (chunks - visited)
alike_key chunks visited sought key keyed few = (keyed, omega (arith, few))

alike_keyed : (chunks visited left : ℕ) (column : ℕ) → chunks ≤ visited → left ≤ (chunks + (chunks - 1)) - visited
    → AreAlike chunks (Some column) visited None left
alike_keyed chunks visited left column low few = (low, λ some. omega (arith, low, few, some))

alike_free : (chunks visited left : ℕ) → left ≤ (chunks - 1) - visited → AreAlike chunks None visited None left
alike_free chunks visited left few = (omega arith, λ some. omega (arith, few, some))

-- they look for a position, where there is a key and where there is none
pub alike_behind : (chunks visited left column : ℕ) (key : Option ℕ) → key ≡ Some column → chunks ≤ visited → left ≤ (chunks + (chunks - 1)) - visited
    → AreAlike chunks key visited None left
alike_behind chunks visited left column key keyed low few =
    subst (λ (k : Option ℕ). AreAlike chunks k visited None left) (sym keyed) (alike_keyed chunks visited left column low few)

pub alike_all : (chunks visited left : ℕ) (key : Option ℕ) → key ≡ None → left ≤ (chunks - 1) - visited → AreAlike chunks key visited None left
alike_all chunks visited left key none few =
    subst (λ (k : Option ℕ). AreAlike chunks k visited None left) (sym none) (alike_free chunks visited left few)

alike_fewer : (chunks : ℕ) (key : Option ℕ) (visited : ℕ) (sought : Option ℕ) (left count : ℕ) → AreAlike chunks key visited sought left → count ≤ left
    → AreAlike chunks key visited sought count
alike_fewer chunks key visited (Some sought) left count alike few = (alike.0, omega (arith, alike.1, few))
alike_fewer chunks key visited None left count alike few =
    let low = alike.0 in
    (low, λ some. let more = alike.1 (λ none. some (omega (arith, none, few))) in omega (arith, more, few))

pub gone_by : (count visited more : ℕ) (now : Open) → 0 < more → gone_past count visited more now ≡ record now { phase = Working (visited + more) count }
gone_by count visited zero now some = absurd (omega (arith, some))
gone_by count visited (suc more) now some = refl

-- an open transaction that goes past so many of these chunks
pub gone_to : (visitor : Visitor) (table : ℕ) (row : List Value) (visited left passed : ℕ) (sought : Option ℕ) (old new : Open) (chunks : List Whole)
    → AreAlike visitor.chunks (shape_of visitor.shapes.now table).key visited sought left → passed ≤ left → passed ≤ length chunks
    → AllByRecursion (λ (chunk : Whole). GoesPast sought (record { id = visitor.id; start = old.start }) row visitor.prunes old.cover chunk.shown)
    (take passed chunks)
    → (0 < passed → new ≡ record old { phase = Working (visited + passed) 0 }) → (passed ≡ 0 → new ≡ old)
    → GoneTo visitor table row visited old (take passed chunks) new
gone_to visitor table row visited left passed sought old new chunks alike few within past moved stayed =
    let long : length (take passed chunks) ≡ passed = length-take-le passed chunks within in
    record {
      sought = sought;
      alike = alike_fewer visitor.chunks (shape_of visitor.shapes.now table).key visited sought left (length (take passed chunks)) alike
          (omega (arith, long, few));
      past = past;
      moved = elim (cases_lt 0 passed) [
        | inl some ↦ moved some ∙ sym (ap (λ (n : ℕ). gone_past 0 visited n old) long ∙ gone_by 0 visited passed old some)
        | inr none ↦
            let zero_passed : passed ≡ 0 = omega (arith, none) in
            stayed zero_passed ∙ sym (ap (λ (n : ℕ). gone_past 0 visited n old) (long ∙ zero_passed))
      ];
    }

-- ---- one after another

alike_next : (chunks : ℕ) (key : Option ℕ) (visited : ℕ) (sought : Option ℕ) (left : ℕ) → AreAlike chunks key visited sought (suc left)
    → AreAlike chunks key (suc visited) sought left
alike_next chunks key visited (Some sought) left alike = (alike.0, omega (arith, alike.1))
alike_next chunks key visited None left alike =
    let low = alike.0 in
    let more = alike.1 (λ e. cc e) in
    (omega (arith, low), λ some. omega (arith, low, more))

number_next : (sought : Option ℕ) (chunks : ℕ) (key : Option ℕ) (visited left : ℕ) → AreAlike chunks key visited sought left
    → number_at sought chunks key (suc visited) ≡ suc (number_at sought chunks key visited)
number_next (Some sought) chunks key visited left alike = refl
number_next None chunks key visited left alike = let low = alike.0 in omega (arith, low)

pub gone_next : (count more visited : ℕ) (now : Open) → gone_past count (suc visited) more (onward count visited now) ≡ gone_past count visited (suc more) now
gone_next count zero visited now =
    let one : suc visited ≡ visited + suc zero = omega arith in
    ap (λ (n : ℕ). record now { phase = Working n count }) one
gone_next count (suc more) visited now =
    let all : suc visited + suc more ≡ visited + suc (suc more) = omega arith in
    ap (λ (n : ℕ). record now { phase = Working n count }) all

passed_from : (table : ℕ) (row : List Value) (sought : Option ℕ) (txn : Txn) (chunks : List Whole) (session : SessionData) (now : Open) (visited count : ℕ)
    → txn_at session ≡ Some txn → session.now ≡ Some now → now.phase ≡ Working visited count
    → slice_get txn.statements (length now.replies) ≡ Some (Insert table row)
    → AreAlike session.chunks (shape_of session.shapes table).key visited sought (length chunks)
    → AllByRecursion (λ (chunk : Whole). GoesPast sought (viewer_of session now) row session.prunes now.cover chunk.shown) chunks
    → Passes session table (number_at sought session.chunks (shape_of session.shapes table).key visited) chunks
    (with_open (gone_past 0 visited (length chunks) now) session)
passed_from table row sought txn [] session now visited count there opened works present alike past =
    ap (λ (o : Option Open). record session { now = o }) (sym opened)
passed_from table row sought txn (chunk ∷ chunks) session now visited count there opened works present alike past =
    let key : Option ℕ = (shape_of session.shapes table).key in
    let next : SessionData = with_open (onward 0 visited now) session in
    let all = passed_from table row sought txn chunks next (onward 0 visited now) (suc visited) 0 there refl refl present
    (alike_next session.chunks key visited sought (length chunks) alike) past.1 in
    let ended : Passes next table (number_at sought session.chunks key (suc visited)) chunks
    (with_open (gone_past 0 visited (suc (length chunks)) now) session) =
    subst (λ (o : Open). Passes next table (number_at sought session.chunks key (suc visited)) chunks (with_open o session))
    (gone_next 0 (length chunks) visited now) all in (
      next,
      passed session txn now visited count table row there opened works present chunk.shown sought (length chunks) alike past.0,
      subst (λ (n : ℕ). Passes next table n chunks (with_open (gone_past 0 visited (suc (length chunks)) now) session))
          (number_next sought session.chunks key visited (suc (length chunks)) alike) ended,
    )

-- ---- by what the session needs

-- a session that goes past a chunk needs it, and no other
pub needed_so : (session after : SessionData) (table number other at : ℕ) (chunks : List Whole) → need_of session ≡ Chunk table number
    → Passes session other at chunks after → Passes session table number chunks after
needed_so session after table number other at [] need passes = passes
needed_so session after table number other at (chunk ∷ chunks) need passes =
    let same : Chunk other at ≡ Chunk table number = sym passes.1.needed ∙ need in
    let tables : other ≡ table = cc in
    let numbers : at ≡ number = cc in
    subst (λ (t : ℕ). Passes session t number (chunk ∷ chunks) after) tables
    (subst (λ (n : ℕ). Passes session other n (chunk ∷ chunks) after) numbers passes)

pub session_passes : (session : SessionData) (visitor : Visitor) (txn : Txn) (now after : Open) (visited count table : ℕ) (row : List Value)
    (chunks : List Whole) → IsVisitor session visitor → txn_at session ≡ Some txn → session.now ≡ Some now → now.phase ≡ Working visited count
    → slice_get txn.statements (length now.replies) ≡ Some (Insert table row) → GoneTo visitor table row visited now chunks after
    → (other number : ℕ) → need_of session ≡ Chunk other number → Passes session other number chunks (with_open after session)
session_passes session visitor txn now after visited count table row chunks is there opened works present gone other number need =
    let key : List Shape → Option ℕ = λ shapes. (shape_of shapes table).key in
    let alike : AreAlike session.chunks (key session.shapes) visited gone.sought (length chunks) =
    subst (λ (n : ℕ). AreAlike n (key session.shapes) visited gone.sought (length chunks)) is.chunks
    (subst (λ (shapes : List Shape). AreAlike visitor.chunks (key shapes) visited gone.sought (length chunks)) is.shapes gone.alike) in
    let viewed : AllByRecursion (λ (chunk : Whole). GoesPast gone.sought (viewer_of session now) row visitor.prunes now.cover chunk.shown) chunks =
    subst (λ (n : ℕ). AllByRecursion (λ (chunk : Whole). GoesPast gone.sought (record { id = n; start = now.start }) row visitor.prunes now.cover chunk.shown) chunks)
    is.id gone.past in
    let past : AllByRecursion (λ (chunk : Whole). GoesPast gone.sought (viewer_of session now) row session.prunes now.cover chunk.shown) chunks =
    subst (λ (b : Bool). AllByRecursion (λ (chunk : Whole). GoesPast gone.sought (viewer_of session now) row b now.cover chunk.shown) chunks)
    is.prunes viewed in
    let all = passed_from table row gone.sought txn chunks session now visited count there opened works present alike past in
    let ended : Passes session table (number_at gone.sought session.chunks (key session.shapes) visited) chunks (with_open after session) =
    subst (λ (o : Open). Passes session table (number_at gone.sought session.chunks (key session.shapes) visited) chunks (with_open o session))
    (sym gone.moved) all in
    needed_so session (with_open after session) other number table (number_at gone.sought session.chunks (key session.shapes) visited) chunks need ended

-- ---- a single one

pub passed_one : (session after : SessionData) (table number count : ℕ) (chunk : Whole) (chunks : List Whole) → chunks ≡ chunk ∷ []
    → count ≤ length chunks → 0 < count → Passes session table number (take count chunks) after → IsPassed session table number chunk.shown after
passed_one session after table number count chunk chunks same few some passes =
    let one : count ≡ 1 = let long = ap (λ (all : List Whole). length all) same in omega (arith, few, some, long) in
    let whole : take count chunks ≡ chunk ∷ [] = ap (λ (n : ℕ). take n chunks) one ∙ ap (take 1) same in
    let both = subst (λ (all : List Whole). Passes session table number all after) whole passes in
    subst (λ (s : SessionData). IsPassed session table number chunk.shown s) (sym both.2) both.1

pub passed_none : (session after : SessionData) (table number count : ℕ) (chunks : List Whole) → count ≡ 0
    → Passes session table number (take count chunks) after → after ≡ session
passed_none session after table number count chunks none passes =
    subst (λ (n : ℕ). Passes session table number (take n chunks) after) none passes

-- ---- an open transaction

-- it stays in what it has and wrote
pub gone_keeps : (P : Open → Type 0) → ((now : Open) (visited count : ℕ) → P now → P (record now { phase = Working visited count })) → (count visited more : ℕ)
    (now : Open) → P now → P (gone_past count visited more now)
gone_keeps P step count visited zero now h = h
gone_keeps P step count visited (suc more) now h = step now (visited + suc more) count h
