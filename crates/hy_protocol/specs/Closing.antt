-- What closes a transaction: COMMIT, ROLLBACK, and the visits of the chunks that it wrote.
use Rattle.std.specs.Prelude.{ℕ, suc, List, [], Bool, nat_lt, Option, None, Some, length, if◌then◌else◌}
use Rattle.hy_bound.specs.declared.Ending.{Ending}
use Rattle.hy_bound.specs.declared.Ending.TheVariants.{Committed, Read, RolledBack}
use Rattle.hy_protocol.specs.declared.Phase.TheVariants.{Stamping, Undoing}
use Rattle.hy_protocol.specs.Asking.{AtCore}
use Rattle.hy_protocol.specs.Turns.{Turn, Visits, Enters, Ends, refused, unless_blocked}

-- an undo visit for each chunk that was written, and then the end
abbrev pub undo_turn : {W : Type 0} → AtCore → ℕ → Ending → Turn W
undo_turn core visited ending =
    if nat_lt visited (length core.written)
    then Visits [] (Undoing (suc visited) ending)
    else unless_blocked core.blocked (Ends ending)

-- a stamp visit for each of these chunks, and then the end of a transaction whose entry has this rank
abbrev pub stamp_turn : {W : Type 0} → List (ℕ × ℕ) → ℕ → ℕ → Turn W
stamp_turn written rank visited = if nat_lt visited (length written) then Visits [] (Stamping (suc visited)) else Ends (Committed rank)

-- validation refuses a transaction, or its entry goes into the commit order
abbrev pub validated_turn : {W : Type 0} → Option Ending → Turn W
validated_turn None = Enters
validated_turn (Some ending) = refused ending

-- COMMIT where nobody is in the way: a transaction that wrote nothing ends, any other is validated by the entries since its
-- start
abbrev pub free_commit_turn : {W : Type 0} → AtCore → Turn W
free_commit_turn core = if core.wrote_nothing then Ends Read else validated_turn core.hit

abbrev pub commit_turn : {W : Type 0} → AtCore → Turn W
commit_turn core = unless_blocked core.blocked (free_commit_turn core)

-- what closes a transaction: COMMIT, or ROLLBACK, which undoes from the first chunk
abbrev pub closing_turn : {W : Type 0} → AtCore → Bool → Turn W
closing_turn core commits = if commits then commit_turn core else undo_turn core 0 RolledBack
