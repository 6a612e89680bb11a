-- The parts of an index: the NULLs, the numbers and the texts.
use Rattle.std.specs.Prelude.{◌≤◌, ◌+◌, ◌-◌, ℕ, length, min}
use Rattle.std.specs.List.{AllByRecursion}
use Rattle.hy_value.specs.declared.Value.{Value}
use Rattle.hy_value.specs.declared.Value.TheVariants as value
use Rattle.hy_value.specs.declared.Kind.{Kind}
use Rattle.hy_value.specs.declared.Kind.TheVariants as kind
use Rattle.hy_index.specs.Indexed.{Kept}

abbrev pub IsNull : Value → Type 0
IsNull value.Null = Unit {0}
IsNull (value.Int number) = ⊥
IsNull (value.Text text) = ⊥

abbrev pub IsNumber : Value → Type 0
IsNumber value.Null = ⊥
IsNumber (value.Int number) = Unit {0}
IsNumber (value.Text text) = ⊥

abbrev pub IsText : Value → Type 0
IsText value.Null = ⊥
IsText (value.Int number) = ⊥
IsText (value.Text text) = Unit {0}

-- how many entries there are
abbrev pub count_all : Kept → Kept → Kept → ℕ
count_all nulls numbers texts = length nulls.entries + length numbers.entries + length texts.entries

-- for how many entries there is room, whichever of them are NULL
abbrev pub capacity_of : Kind → Kept → Kept → Kept → ℕ
capacity_of kind.Int nulls numbers texts = min nulls.capacity numbers.capacity
capacity_of kind.Str nulls numbers texts = min nulls.capacity texts.capacity

abbrev pub room_of : Kind → Kept → Kept → Kept → ℕ
room_of kind nulls numbers texts = capacity_of kind nulls numbers texts - count_all nulls numbers texts

-- each part has keys of its kind, and all entries have room
pub record IsParted (kind : Kind) (nulls numbers texts : Kept) : Type 0 where
  pub null_keys : AllByRecursion (λ e. IsNull e.key) nulls.entries
  pub number_keys : AllByRecursion (λ e. IsNumber e.key) numbers.entries
  pub text_keys : AllByRecursion (λ e. IsText e.key) texts.entries
  pub within : count_all nulls numbers texts ≤ capacity_of kind nulls numbers texts
