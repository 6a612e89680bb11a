-- What a session does in a visit of its present statement, by the answers to what it asks.
use Rattle.std.specs.Prelude.{ℕ, suc, ◌+◌, ◌-◌, ◌*◌, List, [], ◌∷◌, Bool, nat_lt, Option, None, Some, Result, Ok, Err, length, slice_get, if◌then◌else◌}
use Rattle.hy_value.specs.declared.Value.{Value}
use Rattle.hy_bound.specs.declared.Assign.{Assign}
use Rattle.hy_bound.specs.declared.Bound.{Bound}
use Rattle.hy_bound.specs.declared.Bound.TheVariants.{Select, Group, Insert, Update, Delete, Savepoint, RollbackTo, Release}
use Rattle.hy_bound.specs.declared.Reply.{Reply}
use Rattle.hy_bound.specs.declared.Reply.TheVariants as reply
use Rattle.hy_bound.specs.declared.WriteKind.{WriteKind}
use Rattle.hy_bound.specs.declared.WriteKind.TheVariants as kind
use Rattle.hy_bound.specs.Records.{shape_of}
use Rattle.hy_plan.specs.Reads.{records_of}
use Rattle.hy_bound.specs.declared.Ending.{Ending}
use Rattle.hy_bound.specs.declared.Ending.TheVariants.{Full}
use Rattle.hy_protocol.specs.declared.Phase.TheVariants.{Working}
use Rattle.hy_protocol.specs.Asking.{Layout, Places, InChunks, AtCore}
use Rattle.hy_protocol.specs.Turns.{Turn, Done, Visits, Answers, Saves, goes_on, refused, unless_blocked}

-- the statement behind so many that are answered is answered: its reply, and the records of what it read
abbrev pub answers : {W : Type 0} → Layout → ℕ → Bound → List (List (List Value)) → List W → Reply → Option ℕ → Turn W
answers layout answered statement gathered writes reply took =
    Answers writes reply took (records_of layout.shapes (suc answered) statement gathered)

-- a visit of a SELECT of so many tables: the last one answers
abbrev pub read_turn : {W : Type 0} → Layout → ℕ → ℕ → ℕ → Bound → List (List (List Value)) → Reply → Turn W
read_turn layout answered visited tables statement gathered reply =
    if nat_lt (suc visited) (layout.chunks * tables) then goes_on visited else answers layout answered statement gathered [] reply None

-- what a statement that sets these does with the rows that it selects; one that sets nothing removes them
abbrev pub kind_of : Option (List Assign) → WriteKind
kind_of None = kind.Delete
kind_of (Some sets) = kind.Set sets

-- the reply to a statement of this kind that selected so many rows
abbrev pub told_by : WriteKind → ℕ → Reply
told_by (kind.Set sets) count = reply.Updated count
told_by kind.Delete count = reply.Deleted count

-- a visit of an UPDATE or a DELETE, by what it does in its chunk: the last one answers
abbrev pub write_turn : {W : Type 0} → Layout → ℕ → ℕ → ℕ → Bound → WriteKind → Result (List W) Ending → Turn W
write_turn layout answered visited count statement kind (Err ending) = refused ending
write_turn layout answered visited count statement kind (Ok writes) =
    if nat_lt (suc visited) layout.chunks
    then Visits writes (Working (suc visited) (count + length writes))
    else answers layout answered statement [] writes (told_by kind (count + length writes)) None

-- how many chunks an INSERT checks for its key before it takes a position
abbrev pub checks_of : Layout → Option ℕ → ℕ
checks_of layout None = 0
checks_of layout (Some key) = layout.chunks

-- a visit of an INSERT that looks for its key
abbrev pub check_turn : {W : Type 0} → Layout → ℕ → ℕ → Bound → Bool → Turn W
check_turn layout answered visited statement found =
    if found then answers layout answered statement [] [] reply.Duplicate None else goes_on visited

-- a visit of an INSERT that looks for a free position of a chunk of its table
abbrev pub place_turn : {W : Type 0} → Layout → ℕ → ℕ → ℕ → Bound → ℕ → (ℕ → W) → Option ℕ → Turn W
place_turn layout answered visited chunk statement table put (Some pos) =
    answers layout answered statement [] (put pos ∷ []) reply.Inserted (Some pos)
place_turn layout answered visited chunk statement table put None =
    if nat_lt (suc chunk) layout.chunks then goes_on visited else refused (Full table)

-- a visit of an INSERT: the checks first
abbrev pub insert_turn : {W : Type 0} → Layout → Places W → ℕ → ℕ → Bound → ℕ → List Value → Option ℕ → Turn W
insert_turn layout places answered visited statement table row key =
    if nat_lt visited (checks_of layout key)
    then check_turn layout answered visited statement (places.sees_key table row key visited)
    else place_turn layout answered visited (visited - checks_of layout key) statement table (places.put table row)
    (places.free_position table (visited - checks_of layout key))

-- a statement that opens or closes savepoints is answered at the core; any other is done in chunks, and nothing is done for
-- it at the core
abbrev pub saving_turn : {W : Type 0} → AtCore → Bound → Turn W
saving_turn core (Select tables ons pred items) = Done
saving_turn core (Group table pred key aggregate) = Done
saving_turn core (Insert table row) = Done
saving_turn core (Update table sets pred) = Done
saving_turn core (Delete table pred) = Done
saving_turn core (Savepoint name) = unless_blocked core.blocked (Saves (Savepoint name) reply.Saved)
saving_turn core (RollbackTo name) = unless_blocked core.blocked (Saves (RollbackTo name) reply.Back)
saving_turn core (Release name) = unless_blocked core.blocked (Saves (Release name) reply.Released)

-- a visit of a ROLLBACK TO: a chunk that was written since, in which it goes back, and then the answer
abbrev pub back_turn : {W : Type 0} → InChunks W → AtCore → ℕ → List ℕ → Option (ℕ × ℕ) → Turn W
back_turn found core visited name None = saving_turn core (RollbackTo name)
back_turn found core visited name (Some chunk) = Visits (found.taken_back name chunk.0 chunk.1) (Working (suc visited) 0)

-- a visit of the present statement
abbrev pub statement_turn : {W : Type 0} → Layout → InChunks W → AtCore → ℕ → ℕ → ℕ → Bound → Turn W
statement_turn layout found core answered visited count (Select tables ons pred items) =
    read_turn layout answered visited (length tables) (Select tables ons pred items)
    (found.selected tables ons pred items).0 (found.selected tables ons pred items).1
statement_turn layout found core answered visited count (Group table pred key aggregate) =
    read_turn layout answered visited 1 (Group table pred key aggregate) [] (found.grouped table pred key aggregate)
statement_turn layout found core answered visited count (Insert table row) =
    insert_turn layout found.places answered visited (Insert table row) table row (shape_of layout.shapes table).key
statement_turn layout found core answered visited count (Update table sets pred) =
    write_turn layout answered visited count (Update table sets pred) (kind.Set sets) (found.swept (kind.Set sets) pred table visited)
statement_turn layout found core answered visited count (Delete table pred) =
    write_turn layout answered visited count (Delete table pred) kind.Delete (found.swept kind.Delete pred table visited)
statement_turn layout found core answered visited count (Savepoint name) = saving_turn core (Savepoint name)
statement_turn layout found core answered visited count (RollbackTo name) =
    back_turn found core visited name (slice_get (found.written_since name) visited)
statement_turn layout found core answered visited count (Release name) = saving_turn core (Release name)
