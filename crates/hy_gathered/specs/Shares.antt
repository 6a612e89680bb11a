-- Gathered rows in shares: runs of rows, one after another, each of which may be tallied apart from the others.
use Rattle.std.specs.Prelude.{ℕ, ◌+◌, ◌*◌, ◌/◌, ◌<◌, List, Option, None, Some, drop, if◌then◌else◌, length, min, nat_lt, slice_index_or, take}
use Rattle.hy_meaning.specs.Statement.{Table}
use Rattle.hy_gathered.specs.Groups.{IsTallyOf}
use Rattle.hy_gathered.specs.declared.tally.GroupTally.{GroupTally}
use Rattle.hy_gathered.specs.declared.shares.TheConstants.{MOST_SHARES, SHARED_ROWS}

-- how many shares so many rows make: none where they are few
abbrev pub share_count : ℕ → ℕ
share_count rows = if nat_lt rows SHARED_ROWS then 0 else MOST_SHARES

-- how many rows a share of so many has; the last ones may have fewer
abbrev pub share_size : ℕ → ℕ
share_size rows = rows / MOST_SHARES + 1

-- where the share of a number begins, and where it ends
abbrev pub share_begin : ℕ → ℕ → ℕ
share_begin rows number = min (number * share_size rows) rows

abbrev pub share_end : ℕ → ℕ → ℕ
share_end rows number = min (share_begin rows number + share_size rows) rows

-- the rows from one number on up to another
abbrev pub run_of : ℕ → ℕ → Table → Table
run_of from to rows = drop from (take to rows)

-- the rows of the share of a number
abbrev pub share_of : ℕ → Table → Table
share_of number rows = run_of (share_begin (length rows) number) (share_end (length rows) number) rows

-- totals are those of these rows, by their own grouping
abbrev pub IsGroupTallyOf : Table → GroupTally → Type 0
IsGroupTallyOf rows tallied = IsTallyOf tallied.grouping rows tallied.tally

-- what was made of the share of a number, if anything was, is its totals
abbrev pub IsShareOf : Table → ℕ → Option GroupTally → Type 0
IsShareOf rows number None = Unit {0}
IsShareOf rows number (Some tallied) = IsGroupTallyOf (share_of number rows) tallied

-- these were made of the shares of rows, in order
abbrev pub AreSharesOf : Table → List (Option GroupTally) → Type 0
AreSharesOf rows shares = (number : ℕ) (d : Option GroupTally) → number < length shares → IsShareOf rows number (slice_index_or shares number d)

-- totals that are kept are those of all rows
abbrev pub AreKeptOf : Table → Option GroupTally → Type 0
AreKeptOf rows None = Unit {0}
AreKeptOf rows (Some tallied) = IsGroupTallyOf rows tallied
