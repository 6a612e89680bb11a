-- The core: what a BEGIN, the entry of a commit and an end make of the data that all transactions share.
use Rattle.std.specs.Prelude.{ℕ, suc, List, [], ◌∷◌, ◌++◌, ◌&&◌, ◌==◌, Option, None, Some, if◌then◌else◌}
use Rattle.hy_prune.specs.OpenStarts.{without}
use Rattle.hy_value.specs.declared.change.Change.{Change}
use Rattle.hy_stamp.specs.declared.Label.{Label}
use Rattle.hy_journal.specs.declared.CoreData.{CoreData}
use Rattle.hy_journal.specs.declared.Entry.{Entry}

-- the marked transaction, where it is another
abbrev pub other_than : Label → Option Label → Option Label
other_than label None = None
other_than label (Some marked) = if marked.session == label.session && marked.txn == label.txn then None else Some marked

-- the one that a transaction's core step is blocked by
abbrev pub blocked_by : CoreData → Label → Option Label
blocked_by core label = other_than label core.mark

-- BEGIN: the clock gives the start, which is open from then on
abbrev pub core_begun : CoreData → CoreData
core_begun core = record core { next = suc core.next; active = core.active ++ core.next ∷ [] }

-- the entry of a commit: the clock gives the commit time, the journal has the entry, and its transaction is marked
abbrev pub entry_of : CoreData → Label → ℕ → List Change → Entry
entry_of core label start notes = record { label = label; start = start; time = core.next; notes = notes }

abbrev pub core_entered : CoreData → Label → ℕ → List Change → CoreData
core_entered core label start notes =
    record core { next = suc core.next; entries = core.entries ++ entry_of core label start notes ∷ []; mark = Some label }

-- an end: the start is not open any more
abbrev pub core_closed : CoreData → ℕ → CoreData
core_closed core start = record core { active = without start core.active }

-- the end of a commit: nobody is marked any more
abbrev pub core_left : CoreData → ℕ → CoreData
core_left core start = record core { active = without start core.active; mark = None }
