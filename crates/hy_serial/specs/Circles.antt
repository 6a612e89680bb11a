-- The serialization graph of an outcome, by how committed transactions depend on each other (Adya 1999): it has no circle.
use Rattle.std.specs.Prelude.{◌≢◌, ℕ, ◌<◌, ◌≤◌, List, [], ◌∷◌, ◌++◌, IsTrue}
use Rattle.hy_render.specs.declared.Outcome.{Outcome}
use Rattle.hy_machine.specs.declared.Setting.{Setting}
use Rattle.hy_lawful.specs.Lawful.{Lawful}
use Rattle.hy_lawful.specs.Serial.{IsSerial}
use Rattle.hy_serial.specs.Commits.{Commit, IsCommitOf, hits_reads_of, changes_at}

-- one committed transaction depends on another, so that it has to stand behind it in every serial order
pub data Depends (setting : Setting) (outcome : Outcome) (first second : Commit) : Type 0 where
  -- both change a position, the second later
  writes_over : (table pos : ℕ) → IsTrue (changes_at first.entry table pos) → IsTrue (changes_at second.entry table pos)
      → first.rank < second.rank → Depends setting outcome first second
  -- the second reads what the first wrote, since it began behind its commit
  reads_from : IsTrue (hits_reads_of setting outcome.order second.txn first.entry) → first.rank < second.txn.start
      → Depends setting outcome first second
  -- the second wrote over what the first reads, and the first does not see it, since it began before this commit
  was_read : IsTrue (hits_reads_of setting outcome.order first.txn second.entry) → first.txn.start ≤ second.rank → first.rank ≢ second.rank
      → Depends setting outcome first second

-- the printed order is such a serial order: whoever depends on another stands behind it
abbrev pub DependenciesGoForward : Type 0
DependenciesGoForward = (setting : Setting) (outcome : Outcome) → Lawful setting outcome → IsSerial setting outcome
    → (first second : Commit) → IsCommitOf outcome first → IsCommitOf outcome second → Depends setting outcome first second
    → first.rank < second.rank

-- a path in the graph: from a transaction to the next, each depending on the one before it
abbrev pub IsPath : Setting → Outcome → Commit → List Commit → Type 0
IsPath setting outcome first [] = IsCommitOf outcome first
IsPath setting outcome first (second ∷ others) = IsCommitOf outcome first × (Depends setting outcome first second × IsPath setting outcome second others)

-- so no path leads back to where it began
abbrev pub NoCircles : Type 0
NoCircles = (setting : Setting) (outcome : Outcome) → Lawful setting outcome → IsSerial setting outcome
    → (commit : Commit) (others : List Commit) → IsPath setting outcome commit (others ++ commit ∷ []) → ⊥
