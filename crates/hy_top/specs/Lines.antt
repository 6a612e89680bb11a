-- The lines that the program writes beside the text of an outcome.
use Rattle.std.specs.Prelude.{ℕ, ◌+◌, List, [], ◌∷◌, ◌++◌, nat_lt, length, codes, if◌then◌else◌}
use Rattle.std.specs.Fmt.{decimal}
use Rattle.hy_value.specs.declared.Value.{Value}
use Rattle.hy_script.specs.Codes.{number}
use Rattle.hy_script.specs.declared.NamedTxns.{NamedTxns}
use Rattle.hy_script.specs.declared.Refused.{Refused}
use Rattle.hy_script.specs.declared.Script.{Script}

abbrev pub line : List ℕ → List ℕ
line bytes = bytes ++ 10 ∷ []

-- where the words are refused
abbrev pub usage_line : List ℕ
usage_line = line (codes "usage: hy run|check|gen")

-- a number of at least two digits; 48 is the digit 0
abbrev pub two_digits : ℕ → List ℕ
two_digits n = if nat_lt n 10 then 48 ∷ decimal n else decimal n

-- where the script is refused: the line and the cause
abbrev pub refusal_line_of : Refused → List ℕ
refusal_line_of refused = line (codes "line " ++ decimal refused.line ++ codes ": E" ++ two_digits (number refused.code))

-- how many rows all tables have
abbrev pub all_rows : List (List (List Value)) → ℕ
all_rows [] = 0
all_rows (rows ∷ tables) = length rows + all_rows tables

-- how many transactions all sessions have
abbrev pub all_txns : List NamedTxns → ℕ
all_txns [] = 0
all_txns (session ∷ sessions) = length session.txns + all_txns sessions

-- what a script has: its tables, first rows, sessions, transactions and the items of its schedule
abbrev pub checked_line : Script → List ℕ
checked_line script =
    line (codes "ok tables " ++ decimal (length script.catalog) ++ codes " rows " ++ decimal (all_rows script.rows)
    ++ codes " sessions " ++ decimal (length script.sessions) ++ codes " transactions " ++ decimal (all_txns script.sessions)
    ++ codes " items " ++ decimal (length script.schedule))

-- ---- of a redo log

-- where a log was to be made on a disk that has bytes
abbrev pub not_empty_line : List ℕ
not_empty_line = line (codes "log: not empty")

-- where the bytes of a disk are no log of the script's tables: the offset of the first part that isn't
abbrev pub damaged_line : ℕ → List ℕ
damaged_line offset = line (codes "log: damaged at " ++ decimal offset)
