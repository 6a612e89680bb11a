-- The summary of an outcome: how many transactions ended in which way, and what the final balances come to.
use Rattle.std.specs.Prelude.{ℕ, ℤ, pos, ◌+ℤ◌, List, [], ◌∷◌, ◌++◌, Bool, true, false, codes, length, ◌+◌, if◌then◌else◌}
use Rattle.std.specs.Fmt.{decimal, signed_decimal}
use Rattle.hy_value.specs.declared.Value.{Value}
use Rattle.hy_meaning.specs.Totals.{sum_of}
use Rattle.hy_bound.specs.declared.Ending.{Ending}
use Rattle.hy_bound.specs.declared.Ending.TheVariants.{Committed, Read, Conflict, Invalid}
use Rattle.hy_render.specs.declared.TxnOutcome.{TxnOutcome}
use Rattle.hy_render.specs.declared.Outcome.{Outcome}
use Rattle.hy_render.specs.Report.{line}

abbrev pub is_committed : Ending → Bool
is_committed (Committed rank) = true
is_committed _ = false

abbrev pub is_read : Ending → Bool
is_read Read = true
is_read _ = false

abbrev pub is_conflict : Ending → Bool
is_conflict (Conflict table at other) = true
is_conflict _ = false

abbrev pub is_invalid : Ending → Bool
is_invalid (Invalid table at other statement) = true
is_invalid _ = false

-- 1 where it is so, 0 where not
abbrev pub one_if : Bool → ℕ
one_if so = if so then 1 else 0

-- how many transactions ended so
abbrev pub ended_so : (Ending → Bool) → List TxnOutcome → ℕ
ended_so is [] = 0
ended_so is (txn ∷ txns) = one_if (is txn.ending) + ended_so is txns

-- the sum of the second columns of all tables: in a bank of accounts that have a number and a balance, the balances
abbrev pub balances : List (List (List Value)) → ℤ
balances [] = pos 0
balances (rows ∷ tables) = sum_of 1 rows +ℤ balances tables

-- a line of a word and a number
abbrev pub count_line : List ℕ → ℕ → List ℕ
count_line word count = line (word ++ decimal count)

-- how many transactions there are
unfoldable pub txns_line : List TxnOutcome → List ℕ
txns_line txns = count_line (codes "transactions ") (length txns)

-- how many ended in which way
unfoldable pub ending_lines : List TxnOutcome → List ℕ
ending_lines txns =
    count_line (codes "committed ") (ended_so is_committed txns)
    ++ count_line (codes "read ") (ended_so is_read txns)
    ++ count_line (codes "conflict ") (ended_so is_conflict txns)
    ++ count_line (codes "invalid ") (ended_so is_invalid txns)

unfoldable pub total_line : ℤ → List ℕ
total_line total = line (codes "total " ++ signed_decimal total)

-- the line behind all others
unfoldable pub end_line : List ℕ
end_line = line (codes "end")

-- what `gen` writes of an outcome
abbrev pub summary_of : Outcome → List ℕ
summary_of outcome = txns_line outcome.txns ++ ending_lines outcome.txns ++ total_line (balances outcome.tables) ++ end_line
