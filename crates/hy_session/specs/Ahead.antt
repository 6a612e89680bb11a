-- What is made ahead of a session's next visit, in shares.
use Rattle.std.specs.Prelude.{ℕ, List, [], Option, None, Some, slice_index_or}
use Rattle.hy_event.specs.declared.Open.{Open}
use Rattle.hy_event.specs.declared.SessionData.{SessionData}
use Rattle.hy_gathered.specs.Shares.{IsShareOf}
use Rattle.hy_gathered.specs.declared.tally.GroupTally.{GroupTally}
use Rattle.hy_meaning.specs.Statement.{Table}

-- the rows that an open transaction gathered of the first table of its statement
abbrev pub rows_in : Option Open → Table
rows_in None = []
rows_in (Some now) = slice_index_or now.gathered 0 []

-- the rows whose totals are made
abbrev pub rows_ahead : SessionData → Table
rows_ahead session = rows_in session.now

-- what was made of the share of a number, if anything was, is its totals
abbrev pub IsShareAhead : SessionData → ℕ → Option GroupTally → Type 0
IsShareAhead session number share = IsShareOf (rows_ahead session) number share
