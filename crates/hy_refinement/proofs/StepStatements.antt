-- A visit of a session's present statement is the machine's turn.
use Rattle.std.proofs.Common.{◌≡◌, ◌⊎◌, ℕ, ◌+◌, ◌-◌, ◌*◌, ◌/◌, ◌%◌, ◌<◌, List, Option, None, Some, Bool, true, false}
use Rattle.std.proofs.Common.{refl, sym, ap, ◌∙◌, subst, arith, inl, inr, cond}
use Rattle.std.specs.Prelude.{slice_get, slice_index_or, nat_lt, MatchBool}
use Rattle.std.proofs.lemmas.Bool.{ltb-true, ltb-false}
use Rattle.hy_value.specs.declared.Value.{Value}
use Rattle.hy_bound.specs.declared.Bound.{Bound}
use Rattle.hy_bound.specs.declared.Bound.TheVariants.{Select, Group, Insert, Update, Delete, Savepoint, RollbackTo, Release}
use Rattle.hy_bound.specs.declared.Shape.{Shape}
use Rattle.hy_bound.specs.Records.{shape_of}
use Rattle.hy_undo.specs.Chunks.{ChunkData}
use Rattle.hy_event.specs.declared.SessionData.{SessionData}
use Rattle.hy_event.specs.declared.Open.{Open}
use Rattle.hy_event.specs.declared.Need.TheVariants.{Core, Chunk}
use Rattle.hy_protocol.specs.declared.Progress.{Progress}
use Rattle.hy_event.specs.Sessions.{chunks_since}
use Rattle.hy_event.specs.Needs.{statement_need, insert_need, chunk_or_core, checks_of as checks_here}
use Rattle.hy_event.specs.Inserting.{CheckVisit, PlaceVisit, InsertVisit}
use Rattle.hy_event.specs.Events.{Part, ChunkPart, StatementVisit}
use Rattle.hy_machine.specs.declared.Setting.{Setting}
use Rattle.hy_machine.specs.States.{State, Open as MachineOpen}
use Rattle.hy_machine.specs.Saving.{own_since, written_since}
use Rattle.hy_machine.specs.Turns.{statement_turn, insert_turn, check_turn, place_turn, back_turn}
use Rattle.hy_machine.specs.Sessions.{view}
use Rattle.hy_machine.specs.Visits.{checks_of, sees_key, free_position}
use Rattle.hy_machine.specs.Writes.{Write}
use Rattle.hy_protocol.specs.Turns.{Turn}
use Rattle.hy_machine.specs.Kept.{visits_in}
use Rattle.hy_refinement.specs.Steps.{ReadsFit}
use Rattle.hy_refinement.specs.Taken.{AtOpen, AtChunk, AtStatement, IsTaken, chunk_number}
use Rattle.hy_refinement.proofs.NeededParts.{chunk_part, some_chunks, same_chunk, core_is_no_chunk}
use Rattle.hy_refinement.proofs.StepChunks.{needs_chunk, written_below}
use Rattle.hy_refinement.proofs.StepLaws.{StepLaws}

-- what is known where a session visits a chunk for its present statement
pub record Standing (setting : Setting) (state : State) (parts : List Part) (sessions : List SessionData) (number : ℕ)
    (session : SessionData) (now : Open) (current : MachineOpen) (visited count : ℕ) (statement : Bound) : Type 0 where
  pub at_open : AtOpen setting state parts sessions number session now current
  pub stands : AtStatement setting state number now visited count (Some statement)
  pub reads_fit : ReadsFit setting (view setting state current.begun) (Some statement)
  pub visits : (visited ≡ 0) ⊎ (visited < visits_in setting statement)
  pub since : (name : List ℕ) → chunks_since session now name ≡ written_since setting current.begun name
  pub shapes : session.shapes ≡ setting.shapes
  pub chunks : session.chunks ≡ setting.chunks

-- visits that are fewer than so many, or none, where there are some at all
fewer : (visited most : ℕ) → (visited ≡ 0) ⊎ (visited < most) → 0 < most → visited < most
fewer visited most (inl none) some = omega (arith, none, some)
fewer visited most (inr less) some = less

-- the checks are as many
same_checks : (session : SessionData) (setting : Setting) (key : Option ℕ) → session.chunks ≡ setting.chunks → checks_here session key ≡ checks_of setting key
same_checks session setting None e = refl
same_checks session setting (Some key) e = e

module _ (laws : StepLaws) (setting : Setting) (state : State) (parts : List Part) (sessions : List SessionData) (number : ℕ)
    (session : SessionData) (now : Open) (current : MachineOpen) (visited count : ℕ) (old : ChunkData)
    (progress : Progress) (after : SessionData) (new : ChunkData) where
  abbrev Stands : Bound → Type 0
  Stands statement = Standing setting state parts sessions number session now current visited count statement

  -- it visits this chunk
  abbrev IsAt : ℕ → ℕ → Type 0
  IsAt table chunk = slice_get parts (table * setting.chunks + chunk) ≡ Some (ChunkPart old)

  abbrev TurnIsTaken : Turn Write → ℕ → ℕ → Type 0
  TurnIsTaken turn table chunk = IsTaken setting state parts sessions number turn (chunk_number setting table chunk) progress after (ChunkPart new)

  -- a chunk that is visited is one
  at_chunk : (statement : Bound) (table chunk : ℕ) → Stands statement → IsAt table chunk → chunk < setting.chunks
      → AtChunk setting state parts sessions number session now current table chunk old
  at_chunk statement table chunk is found below = record {
    at_open = is.at_open;
    is_part = chunk_part setting parts is.at_open.shown.shows.core table chunk old is.at_open.shown.shows.parts_are below found;
  }

  has_chunks : (statement : Bound) (table chunk : ℕ) → Stands statement → IsAt table chunk → 0 < setting.chunks
  has_chunks statement table chunk is found =
      some_chunks setting parts is.at_open.shown.shows.core (table * setting.chunks + chunk) old is.at_open.shown.shows.parts_are found

  -- the chunk that it visits is the one that it needs
  needed : (turn : Turn Write) (table chunk other another : ℕ) → Chunk other another ≡ Chunk table chunk → IsAt table chunk
      → (IsAt other another → TurnIsTaken turn other another) → TurnIsTaken turn table chunk
  needed turn table chunk other another need found taken =
      let same = same_chunk other another table chunk need in
      subst (λ (t : ℕ). TurnIsTaken turn t chunk) same.0
      (subst (λ (c : ℕ). TurnIsTaken turn other c) same.1
      (taken (subst (λ (c : ℕ). IsAt other c) (sym same.1) (subst (λ (t : ℕ). IsAt t chunk) (sym same.0) found))))

  -- ---- INSERT

  checking : (table : ℕ) (row : List Value) → Stands (Insert table row) → (key : Option ℕ) → nat_lt visited (checks_here session key) ≡ true
      → IsAt table visited → CheckVisit session now visited (Insert table row) row key old progress after new
      → TurnIsTaken (check_turn setting current.begun visited (Insert table row) (sees_key setting state current.begun table row key visited)) table visited
  checking table row is None checks found check = absurd (let e : nat_lt visited 0 ≡ true = checks in omega (arith, ltb-true visited 0 e))
  checking table row is (Some column) checks found check =
      let less : visited < setting.chunks = subst (λ (n : ℕ). visited < n) is.chunks (ltb-true visited session.chunks checks) in
      laws.checks setting state parts sessions number session now current table visited old visited count row column progress after new
      (at_chunk (Insert table row) table visited is found less) is.stands refl check

  placing : (table : ℕ) (row : List Value) → Stands (Insert table row) → (key : Option ℕ) → nat_lt visited (checks_of setting key) ≡ false
      → (visited ≡ 0) ⊎ (visited < checks_of setting key + setting.chunks) → IsAt table (visited - checks_of setting key)
      → PlaceVisit session now visited (visited - checks_of setting key) (Insert table row) table row old progress after new
      → TurnIsTaken (place_turn setting current.begun visited (visited - checks_of setting key) (Insert table row) table row
      (free_position setting state current.begun table (visited - checks_of setting key))) table (visited - checks_of setting key)
  placing table row is key places visits found place =
      let chunk : ℕ = visited - checks_of setting key in
      let some = has_chunks (Insert table row) table chunk is found in
      let late = ltb-false visited (checks_of setting key) places in
      let most = fewer visited (checks_of setting key + setting.chunks) visits (omega (arith, some)) in
      let less : chunk < setting.chunks = omega (arith, late, most, some) in
      laws.places setting state parts sessions number session now current table chunk old visited count row progress after new
      (at_chunk (Insert table row) table chunk is found less) is.stands place

  -- a check or a position
  insert_step : (table : ℕ) (row : List Value) (key : Option ℕ) (named chunk : ℕ) → Stands (Insert table row) → IsAt named chunk
      → (visited ≡ 0) ⊎ (visited < checks_of setting key + setting.chunks)
      → insert_need visited table (checks_of setting key) ≡ Chunk named chunk
      → MatchBool (nat_lt visited (checks_of setting key)) (CheckVisit session now visited (Insert table row) row key old progress after new)
      (PlaceVisit session now visited (visited - checks_of setting key) (Insert table row) table row old progress after new)
      → TurnIsTaken (insert_turn setting state current.begun visited (Insert table row) table row key) named chunk
  insert_step table row key named chunk is found visits need visit = by_check (nat_lt visited (checks_of setting key)) refl need visit
    where
      by_check : (b : Bool) → nat_lt visited (checks_of setting key) ≡ b
          → cond b (Chunk table visited) (Chunk table (visited - checks_of setting key)) ≡ Chunk named chunk
          → MatchBool b (CheckVisit session now visited (Insert table row) row key old progress after new)
          (PlaceVisit session now visited (visited - checks_of setting key) (Insert table row) table row old progress after new)
          → TurnIsTaken (cond b
          (check_turn setting current.begun visited (Insert table row) (sees_key setting state current.begun table row key visited))
          (place_turn setting current.begun visited (visited - checks_of setting key) (Insert table row) table row
          (free_position setting state current.begun table (visited - checks_of setting key)))) named chunk
      by_check true checks need check =
          needed _ named chunk table visited need found (λ here.
          checking table row is key (ap (λ (n : ℕ). nat_lt visited n) (same_checks session setting key is.chunks) ∙ checks) here check)
      by_check false places need place =
          needed _ named chunk table (visited - checks_of setting key) need found (λ here. placing table row is key places visits here place)

  -- ---- all statements

  pub statement_step : (statement : Bound) (table chunk : ℕ) → Stands statement → IsAt table chunk → statement_need session now visited statement ≡ Chunk table chunk
      → StatementVisit session now visited count statement old progress after new
      → TurnIsTaken (statement_turn setting state number current.begun visited count statement) table chunk
  statement_step (Select tables ons pred items) table chunk is found need visit =
      let some = has_chunks (Select tables ons pred items) table chunk is found in
      let named : ℕ = slice_index_or tables (visited / session.chunks) 0 in
      let another : ℕ = visited % session.chunks in
      let same = is.chunks in
      let less : another < setting.chunks = omega (arith, same, some) in
      needed _ table chunk named another need found (λ here.
      laws.selects setting state parts sessions number session now current named another old visited count tables ons pred items progress after new
      (at_chunk (Select tables ons pred items) named another is here less) is.stands
      (ap (λ (n : ℕ). slice_index_or tables (visited / n) 0) is.chunks) (ap (λ (n : ℕ). visited % n) is.chunks)
      is.reads_fit.0 is.reads_fit.1 visit)
  statement_step (Group named pred key aggregate) table chunk is found need visit =
      needed _ table chunk named visited need found (λ here.
      laws.groups setting state parts sessions number session now current named visited old visited count pred key aggregate progress after new
      (at_chunk (Group named pred key aggregate) named visited is here
      (fewer visited setting.chunks is.visits (has_chunks (Group named pred key aggregate) table chunk is found)))
      is.stands refl is.reads_fit visit)
  statement_step (Insert named row) table chunk is found need visit =
      let key : Option ℕ = (shape_of setting.shapes named).key in
      let shape : (shape_of session.shapes named).key ≡ key = ap (λ (shapes : List Shape). (shape_of shapes named).key) is.shapes in
      let checks : checks_here session (shape_of session.shapes named).key ≡ checks_of setting key =
      ap (checks_here session) shape ∙ same_checks session setting key is.chunks in
      insert_step named row key table chunk is found is.visits
      (subst (λ (n : ℕ). insert_need visited named n ≡ Chunk table chunk) checks need)
      (subst (λ (n : ℕ). MatchBool (nat_lt visited n) (CheckVisit session now visited (Insert named row) row key old progress after new)
      (PlaceVisit session now visited (visited - n) (Insert named row) named row old progress after new)) (same_checks session setting key is.chunks)
      (subst (λ (at_key : Option ℕ). InsertVisit session now visited (Insert named row) named row at_key old progress after new) shape visit))
  statement_step (Update named sets pred) table chunk is found need visit =
      needed _ table chunk named visited need found (λ here.
      laws.writes setting state parts sessions number session now current named visited old visited count (Some sets) pred progress after new
      (at_chunk (Update named sets pred) named visited is here
      (fewer visited setting.chunks is.visits (has_chunks (Update named sets pred) table chunk is found))) is.stands refl visit)
  statement_step (Delete named pred) table chunk is found need visit =
      needed _ table chunk named visited need found (λ here.
      laws.writes setting state parts sessions number session now current named visited old visited count None pred progress after new
      (at_chunk (Delete named pred) named visited is here
      (fewer visited setting.chunks is.visits (has_chunks (Delete named pred) table chunk is found))) is.stands refl visit)
  statement_step (Savepoint name) table chunk is found need visit = absurd visit
  statement_step (RollbackTo name) table chunk is found need visit =
      let here : slice_get (written_since setting current.begun name) visited ≡ Some (table, chunk) =
      needs_chunk (slice_get (written_since setting current.begun name) visited) table chunk
      (ap (λ (chunks : List (ℕ × ℕ)). chunk_or_core (slice_get chunks visited)) (sym (is.since name)) ∙ need) in
      subst (λ (one : Option (ℕ × ℕ)). TurnIsTaken (back_turn setting state number current.begun visited name one) table chunk) (sym here)
      (laws.backs setting state parts sessions number session now current table chunk old visited count name progress after new
      (at_chunk (RollbackTo name) table chunk is found (written_below setting (own_since setting current.begun name) visited table chunk here))
      is.stands here visit)
  statement_step (Release name) table chunk is found need visit = absurd visit
