-- A worked row: the trace of a write skew, over two accounts in chunks of one position each.
use Rattle.std.specs.Prelude.{◌≡◌, ℕ, List, [], ◌∷◌, ◌++◌, true, false, codes}
use Rattle.std.specs.List.{flat_map}
use Rattle.hy_bound.specs.declared.Bound.{Bound}
use Rattle.hy_bound.specs.declared.Bound.TheVariants.{Select, Update}
use Rattle.hy_bound.specs.declared.Items.TheVariants.{Columns}
use Rattle.hy_bound.specs.declared.schedule.Item.{Item}
use Rattle.hy_bound.specs.Condition.{True}
use Rattle.hy_bound.specs.Expression.{Literal as SetTo}
use Rattle.hy_event.specs.Accounts.{account, accounts, committing, is_account, number}
use Rattle.hy_machine.specs.declared.Setting.{Setting}
use Rattle.hy_render.specs.declared.Names.{Names}
use Rattle.hy_render.specs.Report.{line}
use Rattle.hy_trace.specs.Trace.{trace_text}

-- the balances of both accounts, and a withdrawal that leaves 90 in one
abbrev pub reading : Bound
reading = Select (0 ∷ []) [] True (Columns (1 ∷ []))

abbrev pub withdrawing : ℕ → Bound
withdrawing id = Update 0 (record { column = 1; value = SetTo (number 90) } ∷ []) (is_account id)

-- each of two sessions reads both, and withdraws from one
abbrev pub owners : Setting
owners = record {
  chunks = 2;
  rows = 1;
  shapes = accounts;
  first = (account 1 100 ∷ account 2 100 ∷ []) ∷ [];
  programs = (committing (reading ∷ withdrawing 1 ∷ []) ∷ []) ∷ (committing (reading ∷ withdrawing 2 ∷ []) ∷ []) ∷ [];
}

abbrev pub named : Names
named = record { tables = codes "acc" ∷ []; sessions = codes "a" ∷ codes "b" ∷ [] }

-- the first one begins and visits a chunk, the other one begins; then they take turns
abbrev pub turns : List Item
turns = record { session = 0; whole = true } ∷ record { session = 0; whole = false } ∷ record { session = 1; whole = true } ∷ []

abbrev pub WriteSkewsAreTraced : Type 0
WriteSkewsAreTraced = trace_text named owners turns ≡ flat_map line (
    codes "1 a.1 begin: start 0"
    ∷ codes "2 a.1 statement 1 at acc 0: moved"
    ∷ codes "3 b.1 begin: start 0"
    ∷ codes "4 a.1 statement 1 at acc 1: rows 2"
    ∷ codes "5 b.1 statement 1 at acc 0: moved"
    ∷ codes "6 b.1 statement 1 at acc 1: rows 2"
    ∷ codes "7 a.1 statement 2 at acc 0: moved"
    ∷ codes "8 a.1 statement 2 at acc 1: updated 1"
    ∷ codes "9 b.1 statement 2 at acc 0: moved"
    ∷ codes "10 b.1 statement 2 at acc 1: updated 1"
    ∷ codes "11 a.1 commit at core: entered 0"
    ∷ codes "12 a.1 stamp at acc 0: moved"
    ∷ codes "13 a.1 stamp at core: committed 0"
    ∷ codes "14 b.1 commit at core: refused invalid acc 0 a.1 statement 1"
    ∷ codes "15 b.1 undo at acc 1: moved"
    ∷ codes "16 b.1 undo at core: invalid acc 0 a.1 statement 1"
    ∷ codes "end"
    ∷ [])
