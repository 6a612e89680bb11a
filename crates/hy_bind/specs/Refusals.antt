-- The refusals of a statement and their order.
use Rattle.std.specs.Prelude.{ℕ, Bool, true, false, nat_le, Option, Some, None, if◌then◌else◌}
use Rattle.hy_value.specs.declared.Kind.{Kind}
use Rattle.hy_value.specs.declared.Kind.TheVariants as kinds
use Rattle.hy_bind.specs.declared.refusals.BindFault.{BindFault}
use Rattle.hy_bind.specs.declared.refusals.BindFault.TheVariants.{UnknownTable, UnknownColumn, Twice, WrongType, KeySet, KeyNull, GroupColumn, Limit, TooBig}

-- the order in which they are tested
abbrev pub rank : BindFault → ℕ
rank UnknownTable = 0
rank UnknownColumn = 1
rank Twice = 2
rank WrongType = 3
rank KeySet = 4
rank KeyNull = 5
rank GroupColumn = 6
rank Limit = 7
rank TooBig = 8

-- of two refusals the one that is tested first. Those of a statement are those of its parts
abbrev pub first_of : Option BindFault → Option BindFault → Option BindFault
first_of None other = other
first_of (Some fault) None = Some fault
first_of (Some fault) (Some other) = if nat_le (rank fault) (rank other) then Some fault else Some other

-- a refusal where something is so
abbrev pub fault_if : Bool → BindFault → Option BindFault
fault_if so fault = if so then Some fault else None

abbrev pub same_kind : Kind → Kind → Bool
same_kind kinds.Int kinds.Int = true
same_kind kinds.Int kinds.Str = false
same_kind kinds.Str kinds.Int = false
same_kind kinds.Str kinds.Str = true

-- whether two types are equal, NULL being of both
abbrev pub agree : Option Kind → Option Kind → Bool
agree None other = true
agree (Some kind) None = true
agree (Some kind) (Some other) = same_kind kind other
