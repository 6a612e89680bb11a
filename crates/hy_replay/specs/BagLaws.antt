-- A transaction over tables of positions, and the same transaction alone over bags of rows.
use Rattle.std.specs.Prelude.{◌≡◌, ℕ, suc, ◌<◌, List, [], ◌∷◌, ◌++◌, Option, None, Some}
use Rattle.std.specs.List.{AllByRecursion}
use Rattle.hy_bound.specs.declared.Bound.{Bound}
use Rattle.hy_bound.specs.declared.Record.{Record}
use Rattle.hy_bound.specs.declared.Reply.{Reply}
use Rattle.hy_bound.specs.declared.Shape.{Shape}
use Rattle.hy_bound.specs.Savepoints.{Saved, saved_after, value_after}
use Rattle.hy_plan.specs.Reads.{records_of}
use Rattle.hy_meaning.specs.Statement.{Database, gathered_by, mean}
use Rattle.hy_meaning.specs.Serial.{Alone, database_back, alone_of}
use Rattle.hy_machine.specs.declared.Setting.{Setting}
use Rattle.hy_machine.specs.Tables.{Tables, capacity, over}
use Rattle.hy_replay.specs.Ran.{Ran, ran}
use Rattle.hy_replay.specs.Laws.{AreTables, bags_of}

-- a position that an INSERT took, if it took one, is one that a table has
abbrev pub IsPosition : Setting → Option ℕ → Type 0
IsPosition setting None = Unit {0}
IsPosition setting (Some pos) = pos < capacity setting

-- a transaction alone that gives what statements over tables of positions came to, and doesn't stop
abbrev pub alone_as : Tables → Ran → Alone
alone_as tables given = record { replies = given.replies; database = bags_of (over tables given.own); stop = None }

-- the records of a statement that is answered, and then those of the statements after it
abbrev pub and_logged : List Record → Option (Reply × Database) → (Database → List Record) → List Record
and_logged records None rest = []
and_logged records (Some given) rest = records ++ rest given.1

-- what a transaction logs that runs alone from a database on, with these savepoints open, its first statement having this
-- number
abbrev pub logged_from : List Shape → List (Saved Database) → ℕ → List Bound → Database → List Record
logged_from shapes saved number [] db = []
logged_from shapes saved number (statement ∷ statements) db =
    and_logged (records_of shapes number statement (gathered_by statement db)) (mean shapes statement db)
    (λ left. logged_from shapes (saved_after statement saved left) (suc number) statements (value_after database_back statement saved left))

-- what statements come to over tables of positions is what they give alone over the bags of these tables' rows
abbrev pub RunsAreAlone : Type 0
RunsAreAlone = (setting : Setting) (tables : Tables) (statements : List Bound) (took : List (Option ℕ)) (given : Ran)
    → AreTables setting tables → AllByRecursion (IsPosition setting) took → ran setting tables statements took ≡ Some given
    → alone_of setting.shapes statements (bags_of tables) ≡ alone_as tables given

-- and they log the same records
abbrev pub RunsLogAlone : Type 0
RunsLogAlone = (setting : Setting) (tables : Tables) (statements : List Bound) (took : List (Option ℕ)) (given : Ran)
    → AreTables setting tables → AllByRecursion (IsPosition setting) took → ran setting tables statements took ≡ Some given
    → given.records ≡ logged_from setting.shapes [] 1 statements (bags_of tables)
