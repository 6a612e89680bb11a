-- The savepoints that are open in a transaction, and that its statements name no others.
use Rattle.std.specs.Prelude.{List, [], ◌∷◌, Bool, true, ◌&&◌, IsTrue, is_some, length, nat_lt}
use Rattle.hy_bound.specs.declared.Bound.{Bound}
use Rattle.hy_bound.specs.declared.Bound.TheVariants.{Select, Group, Insert, Update, Delete, Savepoint, RollbackTo, Release}
use Rattle.hy_bound.specs.Savepoints.{Saved, newest, saved_after}
use Rattle.hy_limits.specs.declared.TheConstants.{MOST_SAVEPOINTS}

-- whether a statement may stand where these savepoints are open: SAVEPOINT makes one of at most so many, and one has the name
-- of ROLLBACK TO or RELEASE
abbrev pub is_opened : List (Saved (Unit {0})) → Bound → Bool
is_opened saved (Select tables ons pred items) = true
is_opened saved (Group table pred key aggregate) = true
is_opened saved (Insert table row) = true
is_opened saved (Update table sets pred) = true
is_opened saved (Delete table pred) = true
is_opened saved (Savepoint name) = nat_lt (length saved) MOST_SAVEPOINTS
is_opened saved (RollbackTo name) = is_some (newest name saved)
is_opened saved (Release name) = is_some (newest name saved)

-- whether these may, one after another
abbrev pub are_opened : List (Saved (Unit {0})) → List Bound → Bool
are_opened saved [] = true
are_opened saved (statement ∷ statements) = is_opened saved statement && are_opened (saved_after statement saved tt) statements

-- so may the statements of a transaction
abbrev pub AreOpened : List Bound → Type 0
AreOpened statements = IsTrue (are_opened [] statements)
