-- The causes of refusals and their order.
use Rattle.std.specs.Prelude.{ℕ, Bool, nat_le, Option, Some, None, if◌then◌else◌}
use Rattle.hy_bind.specs.declared.refusals.BindFault.{BindFault}
use Rattle.hy_bind.specs.declared.refusals.BindFault.TheVariants as fault
use Rattle.hy_script.specs.declared.codes.Code.{Code}
use Rattle.hy_script.specs.declared.codes.Code.TheVariants.{TooLong, NotUtf8, BadToken, Syntax, UnknownTable, UnknownColumn, WrongType, Twice, Limit, NoEnd, ReadOnly, KeySet, UnknownSession, TooBig, KeyTwice, KeyNull, GroupInWriter, GroupColumn, UnknownSavepoint}

-- the number that stands behind the E
abbrev pub number : Code → ℕ
number TooLong = 1
number NotUtf8 = 2
number BadToken = 3
number Syntax = 4
number UnknownTable = 5
number UnknownColumn = 6
number WrongType = 7
number Twice = 8
number Limit = 9
number NoEnd = 10
number ReadOnly = 11
number KeySet = 12
number UnknownSession = 13
number TooBig = 14
number KeyTwice = 15
number KeyNull = 16
number GroupInWriter = 17
number GroupColumn = 18
number UnknownSavepoint = 21

-- the order in which the causes of one statement are tested
abbrev pub rank : Code → ℕ
rank TooLong = 0
rank NotUtf8 = 1
rank BadToken = 2
rank Syntax = 3
rank NoEnd = 4
rank UnknownTable = 5
rank UnknownColumn = 6
rank Twice = 7
rank UnknownSession = 8
rank UnknownSavepoint = 9
rank WrongType = 10
rank ReadOnly = 11
rank KeySet = 12
rank KeyNull = 13
rank GroupInWriter = 14
rank GroupColumn = 15
rank Limit = 16
rank TooBig = 17
rank KeyTwice = 18

-- of two causes the one that is tested first
abbrev pub first_of_two : Option Code → Option Code → Option Code
first_of_two None other = other
first_of_two (Some code) None = Some code
first_of_two (Some code) (Some other) = if nat_le (rank code) (rank other) then Some code else Some other

-- a cause where something is so
abbrev pub code_if_so : Bool → Code → Option Code
code_if_so so code = if so then Some code else None

abbrev pub code_of : BindFault → Code
code_of fault.UnknownTable = UnknownTable
code_of fault.UnknownColumn = UnknownColumn
code_of fault.Twice = Twice
code_of fault.WrongType = WrongType
code_of fault.KeySet = KeySet
code_of fault.KeyNull = KeyNull
code_of fault.GroupColumn = GroupColumn
code_of fault.Limit = Limit
code_of fault.TooBig = TooBig
