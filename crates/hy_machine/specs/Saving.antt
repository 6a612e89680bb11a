-- Going back to a savepoint: what was own when it was made, what was written since, and what is written back.
use Rattle.std.specs.Prelude.{ℕ, List, take, drop, length}
use Rattle.std.specs.List.{flat_map}
use Rattle.std.specs.Option.{option_map, unwrap_or}
use Rattle.hy_bound.specs.Savepoints.{kept_by}
use Rattle.hy_machine.specs.declared.Setting.{Setting}
use Rattle.hy_machine.specs.States.{State, Begun}
use Rattle.hy_machine.specs.Positions.{item_at}
use Rattle.hy_machine.specs.Tables.{Tables, Own, over, positions_in}
use Rattle.hy_machine.specs.Writes.{Write, blank_own, with_writes, written_chunks}
use Rattle.hy_machine.specs.Sessions.{snapshot}
use Rattle.hy_machine.specs.Visits.{write_of}

-- how much a transaction had written at its newest savepoint of a name; all of it where there is none
abbrev pub count_at : Begun → List ℕ → ℕ
count_at begun name = unwrap_or (kept_by name begun.saved) (length begun.trail)

-- what was own there then, and what was written since, taken back or not
abbrev pub own_at : Setting → Begun → List ℕ → Own
own_at setting begun name = with_writes (blank_own setting) (take (count_at begun name) begun.trail)

abbrev pub own_since : Setting → Begun → List ℕ → Own
own_since setting begun name = with_writes (blank_own setting) (drop (count_at begun name) begun.trail)

-- the chunks that were written since, by table and then chunk
abbrev pub written_since : Setting → Begun → List ℕ → List (ℕ × ℕ)
written_since setting begun name = written_chunks setting (own_since setting begun name)

-- what is written back at a position that was written since: the cell that was seen there then
abbrev pub write_back_at : Tables → Own → ℕ → ℕ → List Write
write_back_at seen since table pos = write_of table pos (option_map (λ own. item_at seen table pos) (item_at since table pos))

-- what is written in a chunk to go back
abbrev pub taken_back : Setting → State → Begun → List ℕ → ℕ → ℕ → List Write
taken_back setting state begun name table chunk =
    flat_map (write_back_at (over (snapshot setting state begun.prefix) (own_at setting begun name)) (own_since setting begun name) table)
    (positions_in setting chunk)
