-- What a write notes in a before-image.
use Rattle.std.specs.Prelude.{ℕ, List, [], ◌∷◌, true, Option, None, Some, replicate, ◌==◌, if◌then◌else◌}
use Rattle.std.specs.Ordering.{is_eq}
use Rattle.hy_value.specs.declared.Value.{Value}
use Rattle.hy_value.specs.Order.{value_cmp}
use Rattle.hy_stamp.specs.declared.Label.{Label}
use Rattle.hy_stamp.specs.declared.Stamp.{Stamp}
use Rattle.hy_chain.specs.Chains.{Undo}
use Rattle.hy_undo.specs.Images.{Image, older_or}

-- the old value is noted where another one comes, unless an older one is noted
abbrev pub change_noted : Value → Value → Option Value → Option Value
change_noted old new noted = if is_eq (value_cmp old new) then noted else older_or (Some old) noted

-- column by column
abbrev pub changes_noted : List Value → List Value → List (Option Value) → List (Option Value)
changes_noted [] news image = image
changes_noted (old ∷ olds) [] image = image
changes_noted (old ∷ olds) (new ∷ news) [] = []
changes_noted (old ∷ olds) (new ∷ news) (noted ∷ image) = change_noted old new noted ∷ changes_noted olds news image

-- the writer's own stamp where it is the newest, else a new one
abbrev pub own_stamp : Label → ℕ → Option Stamp → Stamp
own_stamp label id None = record { owner = label; mark = id }
own_stamp label id (Some stamp) = if stamp.mark == id then stamp else record { owner = label; mark = id }

-- the writer's own before-image where it is the newest, else a blank one over a row that is there
abbrev pub own_or_blank : ℕ → ℕ → List (Undo Image) → Image
own_or_blank width id [] = record { values = replicate width None; live = true }
own_or_blank width id (undo ∷ older) = if undo.stamp.mark == id then undo.image else record { values = replicate width None; live = true }
