-- Conditions as the grammar spells them.
use Rattle.std.specs.Prelude.{ℕ, List, [], ◌∷◌, ◌++◌, Bool, true, false, codes, nat_lt, if◌then◌else◌}
use Rattle.hy_value.specs.declared.Cmp.{Cmp}
use Rattle.hy_value.specs.declared.Cmp.TheVariants.{Eq, Ne, Lt, Le, Gt, Ge}
use Rattle.hy_value.specs.Print.{printed}
use Rattle.hy_schema.specs.declared.Column.{Column}
use Rattle.hy_bound.specs.declared.predicate.Side.{Side}
use Rattle.hy_bound.specs.declared.predicate.Side.TheVariants as side
use Rattle.hy_bound.specs.Condition.{Condition, True, Compare, IsNull, Not, And, Or}
use Rattle.hy_explain.specs.Words.{column_name}

abbrev pub operator_text : Cmp → List ℕ
operator_text Eq = codes " = "
operator_text Ne = codes " <> "
operator_text Lt = codes " < "
operator_text Le = codes " <= "
operator_text Gt = codes " > "
operator_text Ge = codes " >= "

-- the right side of a comparison
abbrev pub side_text : List Column → Side → List ℕ
side_text columns (side.Column column) = column_name columns column
side_text columns (side.Literal value) = printed value

-- how close a condition binds: OR, AND, NOT, and what needs no parentheses
abbrev pub level_of : Condition → ℕ
level_of True = 3
level_of (Compare column op right) = 3
level_of (IsNull column) = 3
level_of (Not c) = 2
level_of (And c d) = 1
level_of (Or c d) = 0

-- in parentheses where it binds less close than it is to
abbrev pub nested : ℕ → ℕ → List ℕ → List ℕ
nested least level text = if nat_lt level least then codes "(" ++ text ++ codes ")" else text

-- a condition over these columns; chains of AND and OR group to the left
abbrev pub condition_text : List Column → Condition → List ℕ
condition_text columns True = codes "TRUE"
condition_text columns (Compare column op right) = column_name columns column ++ operator_text op ++ side_text columns right
condition_text columns (IsNull column) = column_name columns column ++ codes " IS NULL"
condition_text columns (Not c) = codes "NOT " ++ nested 2 (level_of c) (condition_text columns c)
condition_text columns (And c d) =
    nested 1 (level_of c) (condition_text columns c) ++ codes " AND " ++ nested 2 (level_of d) (condition_text columns d)
condition_text columns (Or c d) =
    nested 0 (level_of c) (condition_text columns c) ++ codes " OR " ++ nested 1 (level_of d) (condition_text columns d)

-- whether all rows are meant
abbrev pub takes_all : Condition → Bool
takes_all True = true
takes_all (Compare column op right) = false
takes_all (IsNull column) = false
takes_all (Not c) = false
takes_all (And c d) = false
takes_all (Or c d) = false

-- WHERE and a condition, nothing where all rows are meant
abbrev pub where_text : List Column → Condition → List ℕ
where_text columns condition = if takes_all condition then [] else codes " where " ++ condition_text columns condition
