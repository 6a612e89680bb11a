-- What is noted of a column, as a value.
use Rattle.std.specs.Prelude.{Option, None, Some}
use Rattle.hy_value.specs.declared.Value.{Value}
use Rattle.hy_value.specs.declared.Value.TheVariants as value
use Rattle.hy_undo.specs.declared.noted.Noted.{Noted}
use Rattle.hy_undo.specs.declared.noted.Noted.TheVariants.{Nothing, Null, Int, Text}

-- the value that was there, if it was noted
abbrev pub noted_value : Noted → Option Value
noted_value Nothing = None
noted_value Null = Some value.Null
noted_value (Int number) = Some (value.Int number)
noted_value (Text text) = Some (value.Text text.value)
