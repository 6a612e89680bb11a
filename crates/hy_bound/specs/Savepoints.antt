-- Savepoints: the names that are open, and what each keeps, whatever that is: a database, own writes, a cell.
use Rattle.std.specs.Prelude.{ℕ, suc, List, [], ◌∷◌, ◌++◌, Option, None, Some, slice_get, take, if◌then◌else◌, option_and_then}
use Rattle.std.specs.Option.{option_map, option_or}
use Rattle.std.specs.Str.{bytes_eq}
use Rattle.hy_bound.specs.declared.Bound.{Bound}
use Rattle.hy_bound.specs.declared.Bound.TheVariants.{Select, Group, Insert, Update, Delete, Savepoint, RollbackTo, Release}

-- an open savepoint: its name, and what there was when it was made
pub record Saved (A : Type 0) : Type 0 where
  pub name : List ℕ
  pub was : A

-- the number of the newest savepoint of a name, the oldest one having number 0
abbrev pub newest : {A : Type 0} → List ℕ → List (Saved A) → Option ℕ
newest name [] = None
newest name (one ∷ saved) = option_or (option_map suc (newest name saved)) (if bytes_eq name one.name then Some 0 else None)

-- what the newest savepoint of a name keeps, if one is open
abbrev pub kept_by : {A : Type 0} → List ℕ → List (Saved A) → Option A
kept_by name saved = option_map (λ one. one.was) (option_and_then (slice_get saved) (newest name saved))

-- so many of the oldest savepoints, or all
abbrev pub oldest : {A : Type 0} → List (Saved A) → Option ℕ → List (Saved A)
oldest saved None = saved
oldest saved (Some count) = take count saved

-- the savepoints that are open after a statement that left this: SAVEPOINT makes one, ROLLBACK TO keeps those up to the
-- newest of the name, RELEASE those before it; where no savepoint has the name all stay
abbrev pub saved_after : {A : Type 0} → Bound → List (Saved A) → A → List (Saved A)
saved_after (Select tables ons pred items) saved now = saved
saved_after (Group table pred key aggregate) saved now = saved
saved_after (Insert table row) saved now = saved
saved_after (Update table sets pred) saved now = saved
saved_after (Delete table pred) saved now = saved
saved_after (Savepoint name) saved now = saved ++ record { name = name; was = now } ∷ []
saved_after (RollbackTo name) saved now = oldest saved (option_map suc (newest name saved))
saved_after (Release name) saved now = oldest saved (newest name saved)

-- what there is then, or what going back from it to what was kept makes of it
abbrev pub back_from : {A : Type 0} → (A → A → A) → A → Option A → A
back_from back now None = now
back_from back now (Some was) = back was now

-- what there is after a statement that left this: ROLLBACK TO goes back to what the newest savepoint of the name keeps
abbrev pub value_after : {A : Type 0} → (A → A → A) → Bound → List (Saved A) → A → A
value_after back (Select tables ons pred items) saved now = now
value_after back (Group table pred key aggregate) saved now = now
value_after back (Insert table row) saved now = now
value_after back (Update table sets pred) saved now = now
value_after back (Delete table pred) saved now = now
value_after back (Savepoint name) saved now = now
value_after back (RollbackTo name) saved now = back_from back now (kept_by name saved)
value_after back (Release name) saved now = now
