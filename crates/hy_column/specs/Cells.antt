-- Values of columns' types.
use Rattle.std.specs.Prelude.{ℕ, ℤ, pos, ◌+◌, List, [], ◌∷◌, Option, None, Some}
use Rattle.hy_value.specs.declared.Value.{Value}
use Rattle.hy_value.specs.declared.Value.TheVariants as value
use Rattle.hy_value.specs.declared.Kind.{Kind}
use Rattle.hy_value.specs.declared.Kind.TheVariants as kind

abbrev pub number_value : Option ℤ → Value
number_value None = value.Null
number_value (Some number) = value.Int number

abbrev pub text_value : Option (List ℕ) → Value
text_value None = value.Null
text_value (Some text) = value.Text text

-- a value may stand in a column of a type: it is of that type, or NULL
abbrev pub FitsKind : Kind → Value → Type 0
FitsKind kind.Int value.Null = Unit {0}
FitsKind kind.Int (value.Int number) = Unit {0}
FitsKind kind.Int (value.Text text) = ⊥
FitsKind kind.Str value.Null = Unit {0}
FitsKind kind.Str (value.Int number) = ⊥
FitsKind kind.Str (value.Text text) = Unit {0}

-- what stands at a place at first
abbrev pub first_value : Kind → Value
first_value kind.Int = value.Int (pos 0)
first_value kind.Str = value.Text []

-- how many texts a column holds at a place at most, and a row of columns of these types
abbrev pub kind_texts : Kind → ℕ
kind_texts kind.Int = 0
kind_texts kind.Str = 1

abbrev pub texts_of : List Kind → ℕ
texts_of [] = 0
texts_of (kind ∷ kinds) = kind_texts kind + texts_of kinds
