-- Which positions are found.
use Rattle.std.specs.Prelude.{ℕ, List, map}
use Rattle.hy_index.specs.declared.found.FoundPart.{FoundPart}
use Rattle.hy_index.specs.declared.found.FoundPart.TheVariants.{Nulls, Numbers, Texts}

-- the positions of the entries
abbrev pub positions_of : FoundPart → List ℕ
positions_of (Nulls entries) = map (λ e. e.pos) entries.now
positions_of (Numbers entries) = map (λ e. e.pos) entries.now
positions_of (Texts entries) = map (λ e. e.pos) entries.now
