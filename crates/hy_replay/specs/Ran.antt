-- A statement, and the statements of a transaction, over tables of positions with own writes laid over them: what an
-- engine makes of them where nobody is in the way, each INSERT at the position that it took, and savepoints.
use Rattle.std.specs.Prelude.{ℕ, suc, List, [], ◌∷◌, ◌++◌, Bool, not, ◌&&◌, Option, None, Some, is_some, Result, Ok, Err, length, map}
use Rattle.std.specs.Prelude.{if◌then◌else◌, option_and_then}
use Rattle.std.specs.List.{list_any, range_with_len}
use Rattle.std.specs.Option.{option_map}
use Rattle.hy_value.specs.declared.Value.{Value}
use Rattle.hy_bound.specs.declared.Bound.{Bound}
use Rattle.hy_bound.specs.declared.Bound.TheVariants.{Select, Group, Insert, Update, Delete, Savepoint, RollbackTo, Release}
use Rattle.hy_bound.specs.declared.WriteKind.{WriteKind}
use Rattle.hy_bound.specs.declared.WriteKind.TheVariants as kind
use Rattle.hy_bound.specs.declared.Record.{Record}
use Rattle.hy_bound.specs.declared.Reply.{Reply}
use Rattle.hy_bound.specs.declared.Reply.TheVariants as reply
use Rattle.hy_bound.specs.Condition.{Condition}
use Rattle.hy_bound.specs.Records.{shape_of}
use Rattle.hy_bound.specs.Savepoints.{Saved, saved_after, value_after}
use Rattle.hy_plan.specs.Reads.{records_of}
use Rattle.hy_meaning.specs.Statement.{answer_of, grouped}
use Rattle.hy_bound.specs.declared.Ending.{Ending}
use Rattle.hy_machine.specs.declared.Setting.{Setting}
use Rattle.hy_machine.specs.Writes.{Write, blank_own, with_write, with_writes}
use Rattle.hy_machine.specs.Positions.{item_at}
use Rattle.hy_machine.specs.Tables.{Cell, Tables, Own, capacity, over}
use Rattle.hy_machine.specs.Visits.{verdict, sweep, has_key_in}
use Rattle.hy_protocol.specs.Statements.{told_by}
use Rattle.hy_machine.specs.Turns.{rows_seen}

-- what a statement leaves: the own writes, its reply, the records of what it read
pub record One : Type 0 where
  pub own : Own
  pub reply : Reply
  pub records : List Record

-- what an UPDATE or a DELETE writes at these positions of a table, or the first value out of range
abbrev pub writes_at : WriteKind → Condition → Tables → ℕ → List ℕ → Result (List Write) Ending
writes_at kind pred view table positions = sweep table (λ pos. verdict kind pred table pos None (item_at view table pos)) positions

-- an UPDATE or a DELETE by what it writes
abbrev pub changed_by : Own → WriteKind → List Record → Result (List Write) Ending → Option One
changed_by own kind records (Err cause) = None
changed_by own kind records (Ok writes) =
    Some (record { own = with_writes own writes; reply = told_by kind (length writes); records = records })

-- whether some position of a table has the key of a row
abbrev pub has_key_at : Setting → Tables → ℕ → List Value → Bool
has_key_at setting view table row =
    list_any (λ pos. has_key_in row (shape_of setting.shapes table).key (item_at view table pos)) (range_with_len 0 (capacity setting))

-- an INSERT without a position is a duplicate; one that took a position finds nothing there, and its key nowhere
abbrev pub placed_at : Setting → Tables → Own → ℕ → List Value → List Record → Option ℕ → Option One
placed_at setting tables own table row records None =
    if has_key_at setting (over tables own) table row
    then Some (record { own = own; reply = reply.Duplicate; records = records })
    else None
placed_at setting tables own table row records (Some pos) =
    if not (has_key_at setting (over tables own) table row) && not (is_some (item_at own table pos)) && not (is_some (item_at tables table pos))
    then Some (record { own = with_write own (record { table = table; pos = pos; cell = Some row }); reply = reply.Inserted; records = records })
    else None

-- a statement of this number over tables and own writes, with the position that it took if it took one; none where a
-- value is out of range, or where an INSERT couldn't have come to this
abbrev pub one : Setting → Tables → Own → ℕ → Bound → Option ℕ → Option One
one setting tables own number (Select from ons pred items) at =
    Some (record {
      own = own;
      reply = answer_of ons pred items (map (rows_seen (over tables own)) from);
      records = records_of setting.shapes number (Select from ons pred items) (map (rows_seen (over tables own)) from);
    })
one setting tables own number (Group table pred key aggregate) at =
    Some (record {
      own = own;
      reply = grouped pred key aggregate (rows_seen (over tables own) table);
      records = records_of setting.shapes number (Group table pred key aggregate) [];
    })
one setting tables own number (Insert table row) at =
    placed_at setting tables own table row (records_of setting.shapes number (Insert table row) []) at
one setting tables own number (Update table sets pred) at =
    changed_by own (kind.Set sets) (records_of setting.shapes number (Update table sets pred) [])
    (writes_at (kind.Set sets) pred (over tables own) table (range_with_len 0 (capacity setting)))
one setting tables own number (Delete table pred) at =
    changed_by own kind.Delete (records_of setting.shapes number (Delete table pred) [])
    (writes_at kind.Delete pred (over tables own) table (range_with_len 0 (capacity setting)))
one setting tables own number (Savepoint name) at = Some (record { own = own; reply = reply.Saved; records = [] })
one setting tables own number (RollbackTo name) at = Some (record { own = own; reply = reply.Back; records = [] })
one setting tables own number (Release name) at = Some (record { own = own; reply = reply.Released; records = [] })

-- what is own at a position after going back: nothing where nothing was; else what was own there then, or the cell of the
-- tables: what was written stays one's own when it is taken back
abbrev pub back_cell : Cell → Option Cell → Option Cell → Option Cell
back_cell cell was None = None
back_cell cell (Some kept) (Some now) = Some kept
back_cell cell None (Some now) = Some cell

-- the same at the positions of a table, the first of them having this number
abbrev pub back_cells : (ℕ → Cell) → (ℕ → Option Cell) → ℕ → List (Option Cell) → List (Option Cell)
back_cells cell was pos [] = []
back_cells cell was pos (now ∷ own) = back_cell (cell pos) (was pos) now ∷ back_cells cell was (suc pos) own

-- the same in all tables, the first of them having this number
abbrev pub back_tables : Tables → Own → ℕ → Own → Own
back_tables tables was table [] = []
back_tables tables was table (cells ∷ own) =
    back_cells (item_at tables table) (item_at was table) 0 cells ∷ back_tables tables was (suc table) own

-- own writes after going back to what was own then, over the tables of the start
abbrev pub taken_back : Tables → Own → Own → Own
taken_back tables was own = back_tables tables was 0 own

-- what statements leave: the own writes, the savepoints that are open, the replies, the records
pub record Ran : Type 0 where
  pub own : Own
  pub saved : List (Saved Own)
  pub replies : List Reply
  pub records : List Record

-- a statement's reply and records before those of the statements behind it
abbrev pub after_one : One → Ran → Ran
after_one first rest =
    record { own = rest.own; saved = rest.saved; replies = first.reply ∷ rest.replies; records = first.records ++ rest.records }

-- statements over tables and own writes, with these savepoints open, the first statement having this number, each with the
-- position that it took
abbrev pub ran_from : Setting → Tables → Own → List (Saved Own) → ℕ → List Bound → List (Option ℕ) → Option Ran
ran_from setting tables own saved number [] took = Some (record { own = own; saved = saved; replies = []; records = [] })
ran_from setting tables own saved number (statement ∷ statements) [] = None
ran_from setting tables own saved number (statement ∷ statements) (at ∷ took) =
    option_and_then (λ (first : One). option_map (after_one first) (ran_from setting tables
    (value_after (taken_back tables) statement saved first.own) (saved_after statement saved first.own) (suc number) statements took))
    (one setting tables own number statement at)

-- the statements of a transaction over the tables of its start
abbrev pub ran : Setting → Tables → List Bound → List (Option ℕ) → Option Ran
ran setting tables statements took = ran_from setting tables (blank_own setting) [] 1 statements took
