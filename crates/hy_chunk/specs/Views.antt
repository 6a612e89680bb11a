-- What contracts see of a chunk.
use Rattle.std.specs.Prelude.{ℕ, Bool, List, refl, Option}
use Rattle.std.specs.Coded.{Coded, code_by, coded×, coded_list, coded_ℕ, coded_bool, coded_option}
use Rattle.hy_value.specs.declared.Kind.{Kind}
use Rattle.hy_value.specs.contracts.Kind as kind
use Rattle.hy_chain.specs.Chains.{Undo}
use Rattle.hy_chain.specs.Histories.{undo_code}
use Rattle.hy_undo.specs.declared.version.Version.{Version}
use Rattle.hy_undo.specs.contracts.version.Version as version
use Rattle.hy_undo.specs.Images.{Image, image_code}
use Rattle.hy_undo.specs.Places.{Place}
use Rattle.hy_undo.specs.Chunks.{ChunkData}

-- the types of the columns, the key, the positions, and for how many more records there is room
pub record Held : Type 0 where
  pub kinds : List Kind
  pub key : Option ℕ
  pub places : List Place
  pub room : ℕ

abbrev pub place_code : Coded Place
place_code =
    code_by (Version × (Bool × (ℕ × List (Undo Image)))) (coded× version.the_row.coded (coded× coded_bool (coded× coded_ℕ (coded_list (undo_code image_code)))))
    (λ p. (p.version, (p.used, (p.death, p.chain)))) (λ q. record { version = q.0; used = q.1.0; death = q.1.1.0; chain = q.1.1.1 }) (λ _. refl)

abbrev pub held_code : Coded Held
held_code =
    code_by (List Kind × (Option ℕ × (List Place × ℕ)))
    (coded× (coded_list kind.the_row.coded) (coded× (coded_option coded_ℕ) (coded× (coded_list place_code) coded_ℕ)))
    (λ h. (h.kinds, (h.key, (h.places, h.room)))) (λ p. record { kinds = p.0; key = p.1.0; places = p.1.1.0; room = p.1.1.1 }) (λ _. refl)

-- the plain data of a chunk, the types of its columns, and for how many more records there is room
pub record Whole : Type 0 where
  pub shown : ChunkData
  pub kinds : List Kind
  pub room : ℕ

abbrev pub data_code : Coded ChunkData
data_code =
    code_by (ℕ × (ℕ × (ℕ × (Option ℕ × List Place)))) (coded× coded_ℕ (coded× coded_ℕ (coded× coded_ℕ (coded× (coded_option coded_ℕ) (coded_list place_code)))))
    (λ d. (d.table, (d.first, (d.width, (d.key, d.places)))))
    (λ p. record { table = p.0; first = p.1.0; width = p.1.1.0; key = p.1.1.1.0; places = p.1.1.1.1 }) (λ _. refl)

abbrev pub whole_code : Coded Whole
whole_code =
    code_by (ChunkData × (List Kind × ℕ)) (coded× data_code (coded× (coded_list kind.the_row.coded) coded_ℕ))
    (λ w. (w.shown, (w.kinds, w.room))) (λ p. record { shown = p.0; kinds = p.1.0; room = p.1.1 }) (λ _. refl)

-- the same table and columns, with these positions and this room
abbrev pub with_places : Whole → List Place → ℕ → Whole
with_places whole places room = record { shown = record whole.shown { places = places }; kinds = whole.kinds; room = room }
