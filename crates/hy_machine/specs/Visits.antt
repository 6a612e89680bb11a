-- What a statement does in a chunk that it visits.
use Rattle.std.specs.Prelude.{ℕ, suc, ◌*◌, List, [], ◌∷◌, ◌++◌, Bool, false, Option, None, Some, Result, Ok, Err, find, length, if◌then◌else◌}
use Rattle.std.specs.List.{list_any}
use Rattle.std.specs.Option.{option_map}
use Rattle.hy_value.specs.declared.Value.{Value}
use Rattle.hy_bound.specs.declared.Bound.{Bound}
use Rattle.hy_bound.specs.declared.Bound.TheVariants.{Select, Group, Insert, Update, Delete, Savepoint, RollbackTo, Release}
use Rattle.hy_bound.specs.declared.WriteKind.{WriteKind}
use Rattle.hy_bound.specs.declared.WriteKind.TheVariants as kind
use Rattle.hy_bound.specs.Condition.{Condition}
use Rattle.hy_bound.specs.Predicate.{truth_of}
use Rattle.hy_bound.specs.Assignment.{assigned}
use Rattle.hy_meaning.specs.Statement.{has_key_of}
use Rattle.hy_stamp.specs.declared.Label.{Label}
use Rattle.hy_bound.specs.declared.Ending.{Ending}
use Rattle.hy_bound.specs.declared.Ending.TheVariants.{Conflict, Range}
use Rattle.hy_protocol.specs.Asking.{Layout}
use Rattle.hy_protocol.specs.Statements as by_statement
use Rattle.hy_machine.specs.declared.Setting.{Setting}
use Rattle.hy_machine.specs.States.{State, Begun}
use Rattle.hy_machine.specs.Writes.{Write}
use Rattle.hy_machine.specs.Positions.{item_at}
use Rattle.hy_machine.specs.Tables.{Cell, positions_in}
use Rattle.hy_machine.specs.Sessions.{view}
use Rattle.hy_machine.specs.Holding.{opponent, is_free}

-- how the tables of a setting lie
abbrev pub layout_of : Setting → Layout
layout_of setting = record { shapes = setting.shapes; chunks = setting.chunks }

-- what a row that is selected becomes, or none where a value is out of range
abbrev pub new_cell : WriteKind → List Value → Option Cell
new_cell (kind.Set sets) row = option_map Some (assigned sets row)
new_cell kind.Delete row = Some None

-- what a position that is selected becomes, or why it is refused: a conflict first, then a value out of range
abbrev pub judged : ℕ → ℕ → Option Label → Option Cell → Result (Option Cell) Ending
judged table pos (Some other) cell = Err (Conflict table pos other)
judged table pos None None = Err (Range table pos)
judged table pos None (Some cell) = Ok (Some cell)

-- what an UPDATE or a DELETE makes of a position with this cell: nothing where there is no row or it isn't selected
abbrev pub verdict : WriteKind → Condition → ℕ → ℕ → Option Label → Cell → Result (Option Cell) Ending
verdict kind pred table pos other None = Ok None
verdict kind pred table pos other (Some row) = if truth_of pred row then judged table pos other (new_cell kind row) else Ok None

-- the write of a position's new cell, if it has one
abbrev pub write_of : ℕ → ℕ → Option Cell → List Write
write_of table pos None = []
write_of table pos (Some cell) = record { table = table; pos = pos; cell = cell } ∷ []

-- what is written at a position, and then at others; or the first refusal
abbrev pub and_write : ℕ → ℕ → Result (Option Cell) Ending → Result (List Write) Ending → Result (List Write) Ending
and_write table pos (Err cause) writes = Err cause
and_write table pos (Ok cell) (Err cause) = Err cause
and_write table pos (Ok cell) (Ok writes) = Ok (write_of table pos cell ++ writes)

-- the verdicts at positions of a table, one after another
abbrev pub sweep : ℕ → (ℕ → Result (Option Cell) Ending) → List ℕ → Result (List Write) Ending
sweep table judge [] = Ok []
sweep table judge (pos ∷ positions) = and_write table pos (judge pos) (sweep table judge positions)

-- what a session's UPDATE or DELETE makes of a position
abbrev pub verdict_at : Setting → State → ℕ → Begun → WriteKind → Condition → ℕ → ℕ → Result (Option Cell) Ending
verdict_at setting state number begun kind pred table pos =
    verdict kind pred table pos (opponent setting state number begun.prefix table pos) (item_at (view setting state begun) table pos)

-- what it does in a chunk: what it writes at the positions, ascending, or the first refusal
abbrev pub swept : Setting → State → ℕ → Begun → WriteKind → Condition → ℕ → ℕ → Result (List Write) Ending
swept setting state number begun kind pred table chunk =
    sweep table (verdict_at setting state number begun kind pred table) (positions_in setting chunk)

-- whether a row stands in a cell that has the key of another one
abbrev pub has_key_in : List Value → Option ℕ → Cell → Bool
has_key_in new key None = false
has_key_in new key (Some row) = has_key_of new key row

-- whether a transaction sees a row in a chunk that has the key of the row to insert
abbrev pub sees_key : Setting → State → Begun → ℕ → List Value → Option ℕ → ℕ → Bool
sees_key setting state begun table row key chunk =
    list_any (λ pos. has_key_in row key (item_at (view setting state begun) table pos)) (positions_in setting chunk)

-- the least position of a chunk that is free for a transaction
abbrev pub free_position : Setting → State → Begun → ℕ → ℕ → Option ℕ
free_position setting state begun table chunk = find (is_free setting state begun table) (positions_in setting chunk)

-- how many chunks an INSERT checks for its key before it takes a position
abbrev pub checks_of : Setting → Option ℕ → ℕ
checks_of setting = by_statement.checks_of (layout_of setting)

-- how many visits a statement has at most
abbrev pub visits_of : Setting → Bound → ℕ
visits_of setting (Select tables ons pred items) = setting.chunks * length tables
visits_of setting (Group table pred key aggregate) = setting.chunks
visits_of setting (Insert table row) = 2 * setting.chunks
visits_of setting (Update table sets pred) = setting.chunks
visits_of setting (Delete table pred) = setting.chunks
visits_of setting (Savepoint name) = 1
visits_of setting (RollbackTo name) = suc (setting.chunks * length setting.first)
visits_of setting (Release name) = 1
