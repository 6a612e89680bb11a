-- Validation by precision locking: the first change since a start that hits what was read.
use Rattle.std.specs.Prelude.{ℕ, List, [], ◌∷◌, Option, None}
use Rattle.std.specs.Option.{option_or, option_map}
use Rattle.hy_bound.specs.declared.Record.{Record}
use Rattle.hy_value.specs.declared.change.Change.{Change}
use Rattle.hy_journal.specs.declared.Entry.{Entry}
use Rattle.hy_validate.specs.TreeHits.{first_hit_of}
use Rattle.hy_stamp.specs.declared.Label.{Label}
use Rattle.hy_validate.specs.declared.Invalid.{Invalid}

-- a transaction's change hits the record of a number
abbrev pub invalid_by : Label → Change → ℕ → Invalid
invalid_by other change number = record { other = other; table = change.table; pos = change.pos; number = number }

-- the hit of a change: the first record that it hits
abbrev pub change_hit : List Record → Label → Change → Option Invalid
change_hit records other change = option_map (invalid_by other change) (first_hit_of records change)

-- the first of a transaction's changes that hits a record
abbrev pub hit_among : List Record → Label → List Change → Option Invalid
hit_among records other [] = None
hit_among records other (change ∷ changes) = option_or (change_hit records other change) (hit_among records other changes)

-- the first hit of records: the entries in order, the changes of one in order, the records by number
abbrev pub first_invalid : List Record → List Entry → Option Invalid
first_invalid records [] = None
first_invalid records (entry ∷ entries) = option_or (hit_among records entry.label entry.notes) (first_invalid records entries)
