-- Whoever depends on a transaction stands behind it in the commit order, so no path of dependencies is a circle.
use Rattle.std.proofs.Common.{◌<◌, ◌≤◌, List, [], ◌∷◌, ◌++◌, arith}
use Rattle.hy_render.specs.declared.Outcome.{Outcome}
use Rattle.hy_machine.specs.declared.Setting.{Setting}
use Rattle.hy_lawful.specs.Lawful.{Lawful, StandsAt}
use Rattle.hy_lawful.specs.Serial.{IsSerial}
use Rattle.hy_serial.specs.Commits.{Commit, IsCommitOf}
use Rattle.hy_serial.specs.Circles.{writes_over, reads_from, was_read, DependenciesGoForward, IsPath, NoCircles}
use Rattle.hy_serial.proofs.Commits.{of_commit, readers_first}

-- a committed transaction began no later than at its rank
began_before : (setting : Setting) (outcome : Outcome) → Lawful setting outcome → (commit : Commit) → IsCommitOf outcome commit
    → commit.txn.start ≤ commit.rank
began_before setting outcome lawful commit is = (of_commit (StandsAt outcome.order) outcome lawful.committed commit is).later

pub goes_forward : DependenciesGoForward
goes_forward setting outcome lawful is_serial first second is is_too (writes_over table pos changes changes_too before) = before
goes_forward setting outcome lawful is_serial first second is is_too (reads_from hits before) =
    let began : second.txn.start ≤ second.rank = began_before setting outcome lawful second is_too in
    omega (arith, before, began)
goes_forward setting outcome lawful is_serial first second is is_too (was_read hits began apart) =
    readers_first setting outcome lawful is_serial first second is is_too apart began hits

path_begins : (setting : Setting) (outcome : Outcome) (first : Commit) (others : List Commit) → IsPath setting outcome first others
    → IsCommitOf outcome first
path_begins setting outcome first [] path = path
path_begins setting outcome first (second ∷ others) path = path.0

-- along a path ranks rise
path_rises : (setting : Setting) (outcome : Outcome) → Lawful setting outcome → IsSerial setting outcome → (first last : Commit) (others : List Commit)
    → IsPath setting outcome first (others ++ last ∷ []) → first.rank < last.rank
path_rises setting outcome lawful is_serial first last [] path =
    goes_forward setting outcome lawful is_serial first last path.0 path.1.1 path.1.0
path_rises setting outcome lawful is_serial first last (second ∷ others) path =
    let step : first.rank < second.rank =
    goes_forward setting outcome lawful is_serial first second path.0 (path_begins setting outcome second (others ++ last ∷ []) path.1.1) path.1.0 in
    let rest : second.rank < last.rank = path_rises setting outcome lawful is_serial second last others path.1.1 in
    omega (arith, step, rest)

pub no_circles : NoCircles
no_circles setting outcome lawful is_serial commit others path =
    let rises : commit.rank < commit.rank = path_rises setting outcome lawful is_serial commit commit others path in
    absurd (omega (arith, rises))
