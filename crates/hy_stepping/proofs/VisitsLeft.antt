-- Of the statement at which an open transaction stands a visit is left.
use Rattle.std.proofs.Common.{◌≡◌, ◌⊎◌, ℕ, ◌<◌, length, arith, inl, inr}
use Rattle.std.proofs.Math.Nat.{mul-pos}
use Rattle.hy_bound.specs.declared.Bound.{Bound}
use Rattle.hy_bound.specs.declared.Bound.TheVariants.{Select, Group, Insert, Update, Delete, Savepoint, RollbackTo, Release}
use Rattle.hy_bound.specs.Fits.{FitsStatement}
use Rattle.hy_machine.specs.declared.Setting.{Setting}
use Rattle.hy_machine.specs.Kept.{visits_in}

-- a statement has visits where a table has chunks
some_visits : (setting : Setting) (statement : Bound) → 0 < setting.chunks → FitsStatement setting.shapes statement → 0 < visits_in setting statement
some_visits setting (Select tables ons pred items) some fits = mul-pos {m = setting.chunks} {n = length tables} some
    (let many = fits.many in omega (arith, many))
some_visits setting (Group table pred key aggregate) some fits = some
some_visits setting (Insert table row) some fits = omega (arith, some)
some_visits setting (Update table sets pred) some fits = some
some_visits setting (Delete table pred) some fits = some
some_visits setting (Savepoint name) some fits = omega arith
some_visits setting (RollbackTo name) some fits = omega arith
some_visits setting (Release name) some fits = omega arith

-- so one is left where none is done, or not all
pub visit_left : (setting : Setting) (statement : Bound) (visited : ℕ) → 0 < setting.chunks → FitsStatement setting.shapes statement
    → (visited ≡ 0) ⊎ (visited < visits_in setting statement) → visited < visits_in setting statement
visit_left setting statement visited some fits (inl none) = let more = some_visits setting statement some fits in omega (arith, none, more)
visit_left setting statement visited some fits (inr less) = less
