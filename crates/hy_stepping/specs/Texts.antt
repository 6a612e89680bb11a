-- When the texts that a script writes are UTF-8, so that a log can keep them.
use Rattle.std.specs.Prelude.{List}
use Rattle.std.specs.List.{All}
use Rattle.std.specs.Str.{IsUtf8}
use Rattle.hy_value.specs.declared.Kind.{Kind}
use Rattle.hy_value.specs.declared.Value.{Value}
use Rattle.hy_value.specs.declared.Value.TheVariants as values
use Rattle.hy_bound.specs.declared.Assign.{Assign}
use Rattle.hy_bound.specs.declared.Bound.{Bound}
use Rattle.hy_bound.specs.declared.Bound.TheVariants.{Select, Group, Insert, Update, Delete, Savepoint, RollbackTo, Release}
use Rattle.hy_bound.specs.declared.Txn.{Txn}
use Rattle.hy_bound.specs.Expression.{Expression, Literal, Column, Add, Sub, Mul}
use Rattle.hy_machine.specs.declared.Setting.{Setting}
use Rattle.hy_stepping.specs.Typed.{AreTyped}

-- a value is UTF-8, where it is a text
abbrev pub IsUtf8Value : Value → Type 0
IsUtf8Value values.Null = Unit {0}
IsUtf8Value (values.Int number) = Unit {0}
IsUtf8Value (values.Text text) = IsUtf8 text

abbrev pub IsUtf8Row : List Value → Type 0
IsUtf8Row row = All IsUtf8Value row

-- each text of an expression is
abbrev pub HasUtf8Texts : Expression → Type 0
HasUtf8Texts (Literal value) = IsUtf8Value value
HasUtf8Texts (Column column) = Unit {0}
HasUtf8Texts (Add left right) = HasUtf8Texts left × HasUtf8Texts right
HasUtf8Texts (Sub left right) = HasUtf8Texts left × HasUtf8Texts right
HasUtf8Texts (Mul left right) = HasUtf8Texts left × HasUtf8Texts right

-- each text that a statement writes is
abbrev pub WritesUtf8 : Bound → Type 0
WritesUtf8 (Select tables ons pred items) = Unit {0}
WritesUtf8 (Group table pred key aggregate) = Unit {0}
WritesUtf8 (Insert table row) = IsUtf8Row row
WritesUtf8 (Update table sets pred) = All (λ (set : Assign). HasUtf8Texts set.value) sets
WritesUtf8 (Delete table pred) = Unit {0}
WritesUtf8 (Savepoint name) = Unit {0}
WritesUtf8 (RollbackTo name) = Unit {0}
WritesUtf8 (Release name) = Unit {0}

-- so is each of the first rows, and each that the statements of a transaction write
pub record AreUtf8 (first : List (List (List Value))) (programs : List (List Txn)) : Type 0 where
  pub rows : All (λ (rows : List (List Value)). All IsUtf8Row rows) first
  pub statements : All (λ (txns : List Txn). All (λ (txn : Txn). All WritesUtf8 txn.statements) txns) programs

-- what is run can be kept in a log: its values are of the types of these columns, and its texts are UTF-8
pub record CanBeLogged (kinds : List (List Kind)) (setting : Setting) : Type 0 where
  pub typed : AreTyped kinds setting.shapes setting.first setting.programs
  pub texts : AreUtf8 setting.first setting.programs
