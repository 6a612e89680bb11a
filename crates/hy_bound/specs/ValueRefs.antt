-- What a right side of SET is, looked at where it stands.
use Rattle.std.specs.Prelude.{Result, Ok, Err}
use Rattle.hy_value.specs.declared.Value.{Value}
use Rattle.hy_value.specs.declared.refs.ValueRef.{ValueRef}
use Rattle.hy_value.specs.Refs.{referred}
use Rattle.hy_bound.specs.declared.Range.{Range}

-- the value that is looked at, unless a number leaves 64 bits
abbrev pub value_referred : Result ValueRef Range → Result Value Range
value_referred (Ok seen) = Ok (referred seen)
value_referred (Err range) = Err range
