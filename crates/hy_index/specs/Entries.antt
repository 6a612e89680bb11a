-- Entries of an index, and their order.
use Rattle.std.specs.Prelude.{◌≡◌, ℕ, List, [], ◌∷◌, Bool, not, filter, if◌then◌else◌}
use Rattle.std.specs.List.{AllByRecursion}
use Rattle.std.specs.Ordering.{ordering_then, nat_cmp, is_lt, is_eq, is_gt}
use Rattle.std.specs.declared.cmp.Ordering.{Ordering}
use Rattle.std.specs.declared.cmp.Ordering.TheVariants.{Less}
use Rattle.hy_value.specs.declared.Value.{Value}
use Rattle.hy_value.specs.Order.{value_cmp}

-- a key, and a position that has it
pub record IndexEntry : Type 0 where
  pub key : Value
  pub pos : ℕ

abbrev pub entry : Value → ℕ → IndexEntry
entry key pos = record { key = key; pos = pos }

-- how an entry stands to a key and a position: by the key, and then by the position
abbrev pub order_of : IndexEntry → Value → ℕ → Ordering
order_of e key pos = ordering_then (value_cmp e.key key) (nat_cmp e.pos pos)

abbrev pub entry_cmp : IndexEntry → IndexEntry → Ordering
entry_cmp e other = order_of e other.key other.pos

-- each is below all behind it
abbrev pub Ascends : List IndexEntry → Type 0
Ascends [] = Unit {0}
Ascends (e ∷ entries) = AllByRecursion (λ later. entry_cmp e later ≡ Less) entries × Ascends entries

abbrev pub has_key : Value → IndexEntry → Bool
has_key key e = is_eq (value_cmp e.key key)

abbrev pub below_key : Value → IndexEntry → Bool
below_key key e = is_lt (value_cmp e.key key)

abbrev pub up_to_key : Value → IndexEntry → Bool
up_to_key key e = not (is_gt (value_cmp e.key key))

abbrev pub below_entry : Value → ℕ → IndexEntry → Bool
below_entry key pos e = is_lt (order_of e key pos)

-- an entry, where it belongs among others
abbrev pub with_entry : IndexEntry → List IndexEntry → List IndexEntry
with_entry added [] = added ∷ []
with_entry added (e ∷ entries) = if is_lt (entry_cmp e added) then e ∷ with_entry added entries else added ∷ e ∷ entries

-- the entries that are not this one
abbrev pub without_entry : IndexEntry → List IndexEntry → List IndexEntry
without_entry removed entries = filter (λ e. not (is_eq (entry_cmp e removed))) entries
