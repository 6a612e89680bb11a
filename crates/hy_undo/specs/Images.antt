-- Before-images of rows.
use Rattle.std.specs.Prelude.{◌≡◌, List, [], ◌∷◌, Bool, Option, None, Some, refl}
use Rattle.std.specs.Coded.{Coded, code_by, coded×, coded_list, coded_option, coded_bool}
use Rattle.std.proofs.Common.{ap}
use Rattle.hy_value.specs.declared.Value.{Value}
use Rattle.hy_value.specs.contracts.Value as value
use Rattle.hy_undo.specs.declared.version.Version.{Version}

-- for each column the value that was there, if it was noted, and whether the row was live
pub record Image : Type 0 where
  pub values : List (Option Value)
  pub live : Bool

abbrev pub image_code : Coded Image
image_code =
    code_by (List (Option Value) × Bool) (coded× (coded_list (coded_option value.the_row.coded)) coded_bool)
    (λ i. (i.values, i.live)) (λ p. record { values = p.0; live = p.1 }) (λ _. refl)

abbrev pub old_or : Value → Option Value → Value
old_or value None = value
old_or value (Some old) = old

-- a row with the noted values put back
abbrev pub put_back : List Value → List (Option Value) → List Value
put_back [] noted = []
put_back (value ∷ row) [] = value ∷ row
put_back (value ∷ row) (old ∷ noted) = old_or value old ∷ put_back row noted

abbrev pub older_or : Option Value → Option Value → Option Value
older_or newer None = newer
older_or newer (Some old) = Some old

-- the noted values of both, those of the older first
abbrev pub with_older : List (Option Value) → List (Option Value) → List (Option Value)
with_older [] older = older
with_older (new ∷ newer) [] = new ∷ newer
with_older (new ∷ newer) (old ∷ older) = older_or new old ∷ with_older newer older

-- what stood at a position before a write
abbrev pub before : Image → Version → Version
before image version = record { row = put_back version.row image.values; live = image.live }

-- a newer and an older image as one
abbrev pub both : Image → Image → Image
both newer older = record { values = with_older newer.values older.values; live = older.live }

old_or-older_or : (value : Value) (newer older : Option Value) → old_or value (older_or newer older) ≡ old_or (old_or value newer) older
old_or-older_or value newer None = refl
old_or-older_or value newer (Some old) = refl

put_back-with_older : (row : List Value) (newer older : List (Option Value)) → put_back row (with_older newer older) ≡ put_back (put_back row newer) older
put_back-with_older [] newer older = refl
put_back-with_older (value ∷ row) [] older = refl
put_back-with_older (value ∷ row) (new ∷ newer) [] = refl
put_back-with_older (value ∷ row) (new ∷ newer) (old ∷ older) = λ i. old_or-older_or value new old i ∷ put_back-with_older row newer older i

-- both in one put back what they put back one after the other
pub before-both : (newer older : Image) (version : Version) → before (both newer older) version ≡ before older (before newer version)
before-both newer older version = ap (λ (row : List Value). record { row = row; live = older.live }) (put_back-with_older version.row newer.values older.values)
