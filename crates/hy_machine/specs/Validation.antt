-- The changes of an entry, and validation by precision locking: the first of them that hits what was read.
use Rattle.std.specs.Prelude.{ℕ, List, [], ◌∷◌, ◌&&◌, ◌==◌, Option, None, Some, if◌then◌else◌}
use Rattle.std.specs.Option.{option_or, option_map}
use Rattle.hy_bound.specs.declared.Record.{Record}
use Rattle.hy_bound.specs.Records.{is_hit}
use Rattle.hy_value.specs.declared.change.Change.{Change}
use Rattle.hy_render.specs.declared.Committed.{Committed}
use Rattle.hy_stamp.specs.declared.Label.{Label}
use Rattle.hy_bound.specs.declared.Ending.{Ending}
use Rattle.hy_bound.specs.declared.Ending.TheVariants.{Invalid}
use Rattle.hy_machine.specs.Tables.{Entry, Pair, Cell}
use Rattle.hy_machine.specs.Positions.{by_place}

-- the change at a position: absent before and after is none
abbrev pub change_between : ℕ → ℕ → Cell → Cell → List Change
change_between table pos None None = []
change_between table pos None (Some after) = record { table = table; pos = pos; before = None; after = Some after } ∷ []
change_between table pos (Some before) after = record { table = table; pos = pos; before = Some before; after = after } ∷ []

abbrev pub change_at : ℕ → ℕ → Pair → List Change
change_at table pos pair = change_between table pos pair.before pair.after

-- an entry's changes, by table and then position
abbrev pub committed_of : Entry → Committed
committed_of entry = record { label = entry.label; changes = by_place change_at entry.cells }

-- the statement of the first of these records on a table that a change of a row hits
abbrev pub record_hit : List Record → ℕ → Cell → Cell → Option ℕ
record_hit [] table before after = None
record_hit (of ∷ others) table before after =
    if of.table == table && is_hit of before after then Some of.statement else record_hit others table before after

-- a transaction is invalid where a change of another hits a record
abbrev pub invalid_at : Label → ℕ → ℕ → ℕ → Ending
invalid_at other table pos statement = Invalid table pos other statement

abbrev pub change_hits : List Record → Label → Change → Option Ending
change_hits records other change =
    option_map (invalid_at other change.table change.pos) (record_hit records change.table change.before change.after)

-- the first of a transaction's changes that hits a record
abbrev pub hit_among : List Record → Label → List Change → Option Ending
hit_among records other [] = None
hit_among records other (change ∷ changes) = option_or (change_hits records other change) (hit_among records other changes)

-- the first hit of records: the entries in order, the changes of one in order, the records by number
abbrev pub first_hit : List Record → List Committed → Option Ending
first_hit records [] = None
first_hit records (entry ∷ entries) = option_or (hit_among records entry.label entry.changes) (first_hit records entries)
