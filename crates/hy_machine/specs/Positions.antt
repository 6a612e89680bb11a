-- Lists with something at some of their positions, and what is last in a list.
use Rattle.std.specs.Prelude.{ℕ, suc, List, [], ◌∷◌, ◌++◌, Option, None, Some, slice_index_or}
use Rattle.std.specs.Option.{option_or}

-- what stands at a position of a table's list; nothing where there is no such position
abbrev pub item_at : {A : Type 0} → List (List (Option A)) → ℕ → ℕ → Option A
item_at lists table pos = slice_index_or (slice_index_or lists table []) pos None

-- what the positions that have something give, ascending, the first of these positions having this number
abbrev pub by_position : {A B : Type 0} → (ℕ → A → List B) → ℕ → List (Option A) → List B
by_position f pos [] = []
by_position f pos (None ∷ items) = by_position f (suc pos) items
by_position f pos (Some item ∷ items) = f pos item ++ by_position f (suc pos) items

-- the same by table and then position, the first of these tables having this number
abbrev pub by_table : {A B : Type 0} → (ℕ → ℕ → A → List B) → ℕ → List (List (Option A)) → List B
by_table f table [] = []
by_table f table (items ∷ lists) = by_position (f table) 0 items ++ by_table f (suc table) lists

-- the same for all tables
abbrev pub by_place : {A B : Type 0} → (ℕ → ℕ → A → List B) → List (List (Option A)) → List B
by_place f lists = by_table f 0 lists

-- the last thing that a list's elements give, where they give one each or none
abbrev pub last_some : {A B : Type 0} → (A → Option B) → List A → Option B
last_some f [] = None
last_some f (x ∷ xs) = option_or (last_some f xs) (f x)
