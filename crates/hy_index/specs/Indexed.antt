-- What contracts see of an index.
use Rattle.std.specs.Prelude.{ℕ, List, refl}
use Rattle.std.specs.Coded.{Coded, code_by, coded×, coded_list, coded_ℕ}
use Rattle.hy_value.specs.declared.Kind.{Kind}
use Rattle.hy_value.specs.declared.Value.{Value}
use Rattle.hy_value.specs.contracts.Kind as kind
use Rattle.hy_value.specs.contracts.Value as value
use Rattle.hy_index.specs.Entries.{IndexEntry}

-- the entries of one kind, ascending, and for how many there is room
pub record Kept : Type 0 where
  pub entries : List IndexEntry
  pub capacity : ℕ

-- the type of the keys, the entries, ascending, and for how many more there is room
pub record Indexed : Type 0 where
  pub kind : Kind
  pub entries : List IndexEntry
  pub room : ℕ

abbrev pub entry_code : Coded IndexEntry
entry_code =
    code_by (Value × ℕ) (coded× value.the_row.coded coded_ℕ)
    (λ e. (e.key, e.pos)) (λ p. record { key = p.0; pos = p.1 }) (λ _. refl)

abbrev pub kept_code : Coded Kept
kept_code =
    code_by (List IndexEntry × ℕ) (coded× (coded_list entry_code) coded_ℕ)
    (λ k. (k.entries, k.capacity)) (λ p. record { entries = p.0; capacity = p.1 }) (λ _. refl)

-- an index is stored as the tuple of its parts
abbrev pub indexed_code : Coded Indexed
indexed_code =
    code_by (Kind × (List IndexEntry × ℕ)) (coded× kind.the_row.coded (coded× (coded_list entry_code) coded_ℕ))
    (λ i. (i.kind, (i.entries, i.room))) (λ p. record { kind = p.0; entries = p.1.0; room = p.1.1 }) (λ _. refl)
