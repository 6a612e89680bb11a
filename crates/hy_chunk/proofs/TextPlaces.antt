-- How many places the texts of a row take.
use Rattle.std.proofs.Common.{◌≡◌, ℕ, zero, suc, ◌+◌, ◌<◌, ◌≤◌, List, [], ◌∷◌, length, drop, get_or, refl, ap, ◌∙◌, add-one, arith, subst, sym}
use Rattle.hy_value.specs.declared.Value.{Value}
use Rattle.hy_value.specs.declared.Value.TheVariants.{Null, Text}
use Rattle.hy_value.specs.declared.Value.TheVariants as value
use Rattle.hy_value.specs.declared.Kind.{Kind}
use Rattle.hy_value.specs.declared.Kind.TheVariants.{Int, Str}
use Rattle.hy_column.specs.Cells.{FitsKind, kind_texts, texts_of}
use Rattle.hy_value.specs.Cells.{text_count}
use Rattle.hy_undo.specs.Stock.{Stock}
use Rattle.hy_chunk.specs.Sound.{AreReady}

-- a value that fits takes no more places than its column has
pub fits_texts : (kind : Kind) (v : Value) → FitsKind kind v → text_count v ≤ kind_texts kind
fits_texts Int Null f = omega arith
fits_texts Int (value.Int n) f = omega arith
fits_texts Int (Text t) f = absurd f
fits_texts Str Null f = omega arith
fits_texts Str (value.Int n) f = absurd f
fits_texts Str (Text t) f = omega arith

behind : (kinds : List Kind) (column : ℕ) (d : Kind) → column < length kinds → texts_of (drop column kinds) ≡ kind_texts (get_or kinds column d) + texts_of (drop (suc column) kinds)
behind [] column d l = absurd (omega arith)
behind (kind ∷ kinds) zero d l = refl
behind (kind ∷ kinds) (suc column) d l = behind kinds column d (omega arith)

-- the texts of the columns from one on are its own and those behind it
pub texts_behind : (kinds : List Kind) (column : ℕ) (d : Kind) → column < length kinds
    → texts_of (drop column kinds) ≡ kind_texts (get_or kinds column d) + texts_of (drop (column + 1) kinds)
texts_behind kinds column d l =
    behind kinds column d l ∙ ap (λ (n : ℕ). kind_texts (get_or kinds column d) + texts_of (drop n kinds)) (sym (add-one column))

-- as many columns and places are ready too
pub still_ready : (kinds : List Kind) (old new : Stock) → new.columns ≡ old.columns → new.texts ≡ old.texts → AreReady kinds old → AreReady kinds new
still_ready kinds old new columns texts ready = record {
  columns = columns ∙ ready.columns;
  texts = subst (λ (n : ℕ). texts_of kinds ≤ n) (sym texts) ready.texts;
}
