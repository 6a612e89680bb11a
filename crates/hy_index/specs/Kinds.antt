-- Which keys a column of a type may have.
use Rattle.hy_value.specs.declared.Value.{Value}
use Rattle.hy_value.specs.declared.Value.TheVariants as value
use Rattle.hy_value.specs.declared.Kind.{Kind}
use Rattle.hy_value.specs.declared.Kind.TheVariants as kind

-- a key is of a type, or NULL
abbrev pub IsOfKind : Kind → Value → Type 0
IsOfKind kind.Int value.Null = Unit {0}
IsOfKind kind.Int (value.Int number) = Unit {0}
IsOfKind kind.Int (value.Text text) = ⊥
IsOfKind kind.Str value.Null = Unit {0}
IsOfKind kind.Str (value.Int number) = ⊥
IsOfKind kind.Str (value.Text text) = Unit {0}
