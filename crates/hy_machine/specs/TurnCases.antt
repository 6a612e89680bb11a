-- What holds of the turn of an open transaction, whatever it is: it is enough that it holds of each turn that there may be.
use Rattle.std.proofs.Common.{◌≡◌, ℕ, suc, ◌+◌, ◌-◌, ◌*◌, ◌<◌, ◌≤◌, List, [], ◌∷◌, Option, None, Some, true, false, Result, Ok, Err}
use Rattle.std.proofs.Common.{length, map, drop, refl, ltb, cond}
use Rattle.std.specs.Prelude.{slice_get}
use Rattle.std.proofs.lemmas.Bool.{cond_both, ltb-true, ltb-false}
use Rattle.hy_value.specs.declared.Value.{Value}
use Rattle.hy_bound.specs.declared.Txn.{Txn}
use Rattle.hy_bound.specs.declared.Bound.{Bound}
use Rattle.hy_bound.specs.declared.Bound.TheVariants.{Select, Group, Insert, Update, Delete, Savepoint, RollbackTo, Release}
use Rattle.hy_bound.specs.declared.Reply.{Reply}
use Rattle.hy_bound.specs.declared.Reply.TheVariants as reply
use Rattle.hy_bound.specs.declared.WriteKind.{WriteKind}
use Rattle.hy_bound.specs.declared.WriteKind.TheVariants as kind
use Rattle.hy_bound.specs.Records.{shape_of}
use Rattle.hy_meaning.specs.Statement.{answer_of, grouped}
use Rattle.hy_stamp.specs.declared.Label.{Label}
use Rattle.hy_bound.specs.declared.Ending.{Ending}
use Rattle.hy_bound.specs.declared.Ending.TheVariants.{Committed, Read, RolledBack, Full}
use Rattle.hy_protocol.specs.declared.Phase.TheVariants.{Working, Stamping, Undoing}
use Rattle.hy_protocol.specs.Turns.{Turn, Waits, Visits, Saves, Enters, Ends, goes_on, refused, unless_blocked}
use Rattle.hy_protocol.specs.Statements.{told_by}
use Rattle.hy_protocol.specs.Closing.{validated_turn}
use Rattle.hy_machine.specs.declared.Setting.{Setting}
use Rattle.hy_machine.specs.States.{State, Begun}
use Rattle.hy_machine.specs.Writes.{Write, wrote_nothing, written_chunks}
use Rattle.hy_machine.specs.Sessions.{blocker, view}
use Rattle.hy_machine.specs.Validation.{committed_of, first_hit}
use Rattle.hy_machine.specs.Visits.{swept, sees_key, free_position, checks_of}
use Rattle.hy_machine.specs.Saving.{written_since, taken_back}
use Rattle.hy_machine.specs.Turns.{rows_seen, row_written, answers, read_turn, write_turn, check_turn, place_turn, insert_turn, back_turn, statement_turn}
use Rattle.hy_machine.specs.Turns.{undo_turn, stamp_turn, commit_turn, working_turn}

-- ---- what there may be

-- of a statement that reads so many tables
pub record ReadCases (setting : Setting) (begun : Begun) (P : Turn Write → Type 0) (visited tables : ℕ) (statement : Bound)
    (gathered : List (List (List Value))) (reply : Reply) : Type 0 where
  pub goes : suc visited < setting.chunks * tables → P (goes_on visited)
  pub ends : P (answers setting begun statement gathered [] reply None)

-- of an INSERT, which checks so many chunks
pub record InsertCases (setting : Setting) (state : State) (begun : Begun) (P : Turn Write → Type 0) (visited table : ℕ) (row : List Value) (checks : ℕ)
    : Type 0 where
  pub checked : visited < checks → P (goes_on visited)
  pub twice : P (answers setting begun (Insert table row) [] [] reply.Duplicate None)
  pub takes : (pos : ℕ) → free_position setting state begun table (visited - checks) ≡ Some pos
      → P (answers setting begun (Insert table row) [] (row_written table row pos ∷ []) reply.Inserted (Some pos))
  pub goes : checks ≤ visited → free_position setting state begun table (visited - checks) ≡ None → suc (visited - checks) < setting.chunks
      → P (goes_on visited)
  pub full : checks ≤ visited → free_position setting state begun table (visited - checks) ≡ None → setting.chunks ≤ suc (visited - checks)
      → P (refused (Full table))

-- of an UPDATE or a DELETE, by what it does in its chunk
pub record WriteCases (setting : Setting) (begun : Begun) (P : Turn Write → Type 0) (visited count : ℕ) (statement : Bound) (kind : WriteKind)
    (result : Result (List Write) Ending) : Type 0 where
  pub out : (cause : Ending) → result ≡ Err cause → P (refused cause)
  pub goes : (writes : List Write) → result ≡ Ok writes → suc visited < setting.chunks → P (Visits writes (Working (suc visited) (count + length writes)))
  pub ends : (writes : List Write) → result ≡ Ok writes → P (answers setting begun statement [] writes (told_by kind (count + length writes)) None)

-- of a statement that opens or closes savepoints, which is answered so
pub record SaveCases (state : State) (number : ℕ) (P : Turn Write → Type 0) (statement : Bound) (reply : Reply) : Type 0 where
  pub waits : (by : Label) → blocker state number ≡ Some by → P (Waits by)
  pub saves : blocker state number ≡ None → P (Saves statement reply)

-- of a ROLLBACK TO
pub record BackCases (setting : Setting) (state : State) (number : ℕ) (begun : Begun) (P : Turn Write → Type 0) (visited : ℕ) (name : List ℕ)
    : Type 0 where
  pub goes : (chunk : ℕ × ℕ) → slice_get (written_since setting begun name) visited ≡ Some chunk
      → P (Visits (taken_back setting state begun name chunk.0 chunk.1) (Working (suc visited) 0))
  pub ends : slice_get (written_since setting begun name) visited ≡ None → SaveCases state number P (RollbackTo name) reply.Back

abbrev pub StatementCases : Setting → State → ℕ → Begun → (Turn Write → Type 0) → ℕ → ℕ → Bound → Type 0
StatementCases setting state number begun P visited count (Select tables ons pred items) =
    ReadCases setting begun P visited (length tables) (Select tables ons pred items) (map (rows_seen (view setting state begun)) tables)
    (answer_of ons pred items (map (rows_seen (view setting state begun)) tables))
StatementCases setting state number begun P visited count (Group table pred key aggregate) =
    ReadCases setting begun P visited 1 (Group table pred key aggregate) [] (grouped pred key aggregate (rows_seen (view setting state begun) table))
StatementCases setting state number begun P visited count (Insert table row) =
    InsertCases setting state begun P visited table row (checks_of setting (shape_of setting.shapes table).key)
StatementCases setting state number begun P visited count (Update table sets pred) =
    WriteCases setting begun P visited count (Update table sets pred) (kind.Set sets) (swept setting state number begun (kind.Set sets) pred table visited)
StatementCases setting state number begun P visited count (Delete table pred) =
    WriteCases setting begun P visited count (Delete table pred) kind.Delete (swept setting state number begun kind.Delete pred table visited)
StatementCases setting state number begun P visited count (Savepoint name) = SaveCases state number P (Savepoint name) reply.Saved
StatementCases setting state number begun P visited count (RollbackTo name) = BackCases setting state number begun P visited name
StatementCases setting state number begun P visited count (Release name) = SaveCases state number P (Release name) reply.Released

-- of what was undone so far, and ends so
pub record UndoCases (setting : Setting) (state : State) (number : ℕ) (begun : Begun) (P : Turn Write → Type 0) (visited : ℕ) (cause : Ending) : Type 0 where
  pub goes : visited < length (written_chunks setting begun.own) → P (Visits [] (Undoing (suc visited) cause))
  pub waits : (by : Label) → blocker state number ≡ Some by → P (Waits by)
  pub ends : blocker state number ≡ None → P (Ends cause)

-- of a COMMIT
pub record CommitCases (state : State) (number : ℕ) (begun : Begun) (P : Turn Write → Type 0) : Type 0 where
  pub waits : (by : Label) → blocker state number ≡ Some by → P (Waits by)
  pub reads : blocker state number ≡ None → wrote_nothing begun.own ≡ true → P (Ends Read)
  pub enters : blocker state number ≡ None → wrote_nothing begun.own ≡ false
      → first_hit begun.records (map committed_of (drop begun.prefix state.order)) ≡ None → P Enters
  pub out : wrote_nothing begun.own ≡ false → (cause : Ending)
      → first_hit begun.records (map committed_of (drop begun.prefix state.order)) ≡ Some cause → P (refused cause)

-- ---- what there is

module _ (setting : Setting) (state : State) (number : ℕ) (begun : Begun) (P : Turn Write → Type 0) where
  read_cases : (visited tables : ℕ) (statement : Bound) (gathered : List (List (List Value))) (reply : Reply)
      → ReadCases setting begun P visited tables statement gathered reply → P (read_turn setting begun visited tables statement gathered reply)
  read_cases visited tables statement gathered reply h =
      cond_both (ltb (suc visited) (setting.chunks * tables)) (goes_on visited) (answers setting begun statement gathered [] reply None) P
      (λ t. h.goes (ltb-true (suc visited) (setting.chunks * tables) t)) (λ f. h.ends)

  insert_cases : (visited table : ℕ) (row : List Value) (key : Option ℕ) → InsertCases setting state begun P visited table row (checks_of setting key)
      → P (insert_turn setting state begun visited (Insert table row) table row key)
  insert_cases visited table row key h =
      cond_both (ltb visited (checks_of setting key)) (check_turn setting begun visited (Insert table row) (sees_key setting state begun table row key visited))
      (place_turn setting begun visited (visited - checks_of setting key) (Insert table row) table row
      (free_position setting state begun table (visited - checks_of setting key))) P
      (λ t. cond_both (sees_key setting state begun table row key visited) (answers setting begun (Insert table row) [] [] reply.Duplicate None)
      (goes_on visited) P (λ found. h.twice) (λ found. h.checked (ltb-true visited (checks_of setting key) t)))
      (λ f. by_free (ltb-false visited (checks_of setting key) f) (free_position setting state begun table (visited - checks_of setting key)) refl)
    where
      by_free : checks_of setting key ≤ visited → (pos : Option ℕ) → free_position setting state begun table (visited - checks_of setting key) ≡ pos
          → P (place_turn setting begun visited (visited - checks_of setting key) (Insert table row) table row pos)
      by_free past (Some pos) e = h.takes pos e
      by_free past None e =
          cond_both (ltb (suc (visited - checks_of setting key)) setting.chunks) (goes_on visited) (refused (Full table)) P
          (λ t. h.goes past e (ltb-true (suc (visited - checks_of setting key)) setting.chunks t))
          (λ f. h.full past e (ltb-false (suc (visited - checks_of setting key)) setting.chunks f))

  write_cases : (visited count : ℕ) (statement : Bound) (kind : WriteKind) (swept result : Result (List Write) Ending) → swept ≡ result
      → WriteCases setting begun P visited count statement kind swept → P (write_turn setting begun visited count statement kind result)
  write_cases visited count statement kind swept (Err cause) e h = h.out cause e
  write_cases visited count statement kind swept (Ok writes) e h =
      cond_both (ltb (suc visited) setting.chunks) (Visits writes (Working (suc visited) (count + length writes)))
      (answers setting begun statement [] writes (told_by kind (count + length writes)) None) P
      (λ t. h.goes writes e (ltb-true (suc visited) setting.chunks t)) (λ f. h.ends writes e)

  unless_cases : (turn : Turn Write) (by : Option Label) → ((other : Label) → by ≡ Some other → P (Waits other)) → (by ≡ None → P turn)
      → P (unless_blocked by turn)
  unless_cases turn None waits h = h refl
  unless_cases turn (Some by) waits h = waits by refl

  save_cases : (statement : Bound) (reply : Reply) → SaveCases state number P statement reply
      → P (unless_blocked (blocker state number) (Saves statement reply))
  save_cases statement reply h = unless_cases (Saves statement reply) (blocker state number) h.waits h.saves

  back_cases : (visited : ℕ) (name : List ℕ) (chunk : Option (ℕ × ℕ)) → slice_get (written_since setting begun name) visited ≡ chunk
      → BackCases setting state number begun P visited name → P (back_turn setting state number begun visited name chunk)
  back_cases visited name None e h = save_cases (RollbackTo name) reply.Back (h.ends e)
  back_cases visited name (Some chunk) e h = h.goes chunk e

  pub statement_cases : (visited count : ℕ) (statement : Bound) → StatementCases setting state number begun P visited count statement
      → P (statement_turn setting state number begun visited count statement)
  statement_cases visited count (Select tables ons pred items) h =
      read_cases visited (length tables) (Select tables ons pred items) (map (rows_seen (view setting state begun)) tables)
      (answer_of ons pred items (map (rows_seen (view setting state begun)) tables)) h
  statement_cases visited count (Group table pred key aggregate) h =
      read_cases visited 1 (Group table pred key aggregate) [] (grouped pred key aggregate (rows_seen (view setting state begun) table)) h
  statement_cases visited count (Insert table row) h = insert_cases visited table row (shape_of setting.shapes table).key h
  statement_cases visited count (Update table sets pred) h =
      let swept_there = swept setting state number begun (kind.Set sets) pred table visited in
      write_cases visited count (Update table sets pred) (kind.Set sets) swept_there swept_there refl h
  statement_cases visited count (Delete table pred) h =
      let swept_there = swept setting state number begun kind.Delete pred table visited in
      write_cases visited count (Delete table pred) kind.Delete swept_there swept_there refl h
  statement_cases visited count (Savepoint name) h = save_cases (Savepoint name) reply.Saved h
  statement_cases visited count (RollbackTo name) h =
      back_cases visited name (slice_get (written_since setting begun name) visited) refl h
  statement_cases visited count (Release name) h = save_cases (Release name) reply.Released h

  pub undo_cases : (visited : ℕ) (cause : Ending) → UndoCases setting state number begun P visited cause
      → P (undo_turn setting state number begun visited cause)
  undo_cases visited cause h =
      cond_both (ltb visited (length (written_chunks setting begun.own))) (Visits [] (Undoing (suc visited) cause))
      (unless_blocked (blocker state number) (Ends cause)) P (λ t. h.goes (ltb-true visited (length (written_chunks setting begun.own)) t))
      (λ f. unless_cases (Ends cause) (blocker state number) h.waits h.ends)

  pub stamp_cases : (visited : ℕ) → (visited < length (written_chunks setting begun.own) → P (Visits [] (Stamping (suc visited))))
      → P (Ends (Committed (length state.order - 1))) → P (stamp_turn setting state begun visited)
  stamp_cases visited goes ends =
      cond_both (ltb visited (length (written_chunks setting begun.own))) (Visits [] (Stamping (suc visited)))
      (Ends (Committed (length state.order - 1))) P (λ t. goes (ltb-true visited (length (written_chunks setting begun.own)) t)) (λ f. ends)

  pub commit_cases : CommitCases state number begun P → P (commit_turn setting state number begun)
  commit_cases h =
      let hit = first_hit begun.records (map committed_of (drop begun.prefix state.order)) in
      unless_cases (cond (wrote_nothing begun.own) (Ends Read) (validated_turn hit)) (blocker state number) h.waits
      (λ free. cond_both (wrote_nothing begun.own) (Ends Read) (validated_turn hit) P (h.reads free) (λ some. by_hit free some hit refl))
    where
      by_hit : blocker state number ≡ None → wrote_nothing begun.own ≡ false → (hit : Option Ending)
          → first_hit begun.records (map committed_of (drop begun.prefix state.order)) ≡ hit → P (validated_turn hit)
      by_hit free some None e = h.enters free some e
      by_hit free some (Some cause) e = h.out some cause e

  -- a transaction that works: at a statement, or at what closes it
  pub working_cases : (txn : Txn) (visited count : ℕ)
      → ((statement : Bound) → slice_get txn.statements (length begun.replies) ≡ Some statement
      → P (statement_turn setting state number begun visited count statement))
      → (slice_get txn.statements (length begun.replies) ≡ None → txn.commits ≡ true → CommitCases state number begun P)
      → (slice_get txn.statements (length begun.replies) ≡ None → txn.commits ≡ false → UndoCases setting state number begun P 0 RolledBack)
      → P (working_turn setting state number txn begun visited count (slice_get txn.statements (length begun.replies)))
  working_cases txn visited count stated commits rolls = by_statement (slice_get txn.statements (length begun.replies)) refl
    where
      by_statement : (statement : Option Bound) → slice_get txn.statements (length begun.replies) ≡ statement
          → P (working_turn setting state number txn begun visited count statement)
      by_statement None none =
          cond_both txn.commits (commit_turn setting state number begun) (undo_turn setting state number begun 0 RolledBack) P
          (λ t. commit_cases (commits none t)) (λ f. undo_cases 0 RolledBack (rolls none f))
      by_statement (Some statement) here = stated statement here
