-- How many texts a row has at most.
use Rattle.std.proofs.Common.{◌≤◌, List, [], ◌∷◌, arith}
use Rattle.hy_value.specs.declared.Value.{Value}
use Rattle.hy_value.specs.declared.Kind.{Kind}
use Rattle.hy_value.specs.Cells.{text_count, texts_in}
use Rattle.hy_column.specs.Cells.{kind_texts, texts_of}
use Rattle.hy_chunk.specs.Sound.{FitsRow, most_texts}
use Rattle.hy_chunk.proofs.TextPlaces.{fits_texts}

-- a row that fits has no more texts than there are columns of texts
pub texts_fit : (kinds : List Kind) (row : List Value) → FitsRow kinds row → texts_in row ≤ most_texts kinds
texts_fit [] [] f = omega arith
texts_fit [] (v ∷ row) f = absurd f
texts_fit (k ∷ kinds) [] f = absurd f
texts_fit (k ∷ kinds) (v ∷ row) f =
    let first : text_count v ≤ kind_texts k = fits_texts k v f.0 in
    let others : texts_in row ≤ texts_of kinds = texts_fit kinds row f.1 in
    omega arith
