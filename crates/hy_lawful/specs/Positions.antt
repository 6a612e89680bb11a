-- Positions of a script's tables, in order.
use Rattle.std.specs.Prelude.{◌==◌, ◌*◌, List, [], ◌∷◌, Bool, true, ◌&&◌, ◌||◌, nat_lt, IsTrue, length, map}
use Rattle.std.specs.List.{list_all}
use Rattle.hy_value.specs.declared.change.Change.{Change}
use Rattle.hy_render.specs.declared.Place.{Place}
use Rattle.hy_machine.specs.declared.Setting.{Setting}

-- the positions of changes
abbrev pub places_of : List Change → List Place
places_of changes = map (λ (change : Change). record { table = change.table; pos = change.pos }) changes

-- whether a position is one that a table of the script has
abbrev pub is_position : Setting → Place → Bool
is_position setting place = nat_lt place.table (length setting.first) && nat_lt place.pos (setting.chunks * setting.rows)

-- whether a position comes before another, and whether these come so one after another
abbrev pub comes_before : Place → Place → Bool
comes_before place other = nat_lt place.table other.table || (place.table == other.table && nat_lt place.pos other.pos)

abbrev pub ascend : List Place → Bool
ascend [] = true
ascend (place ∷ []) = true
ascend (place ∷ next ∷ places) = comes_before place next && ascend (next ∷ places)

-- positions of the script's tables, by table and then position, each once
pub record ArePositions (setting : Setting) (places : List Place) : Type 0 where
  pub there : IsTrue (list_all (is_position setting) places)
  pub ascend : IsTrue (ascend places)
