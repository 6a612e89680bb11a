-- How many columns are of texts.
use Rattle.std.proofs.Common.{◌≡◌, ℕ, ◌+◌, ◌<◌, ◌≤◌, List, [], ◌∷◌, length, take, get_or, suc, zero, add-one, ap, ◌∙◌, sym, arith}
use Rattle.hy_value.specs.declared.Kind.{Kind}
use Rattle.hy_value.specs.declared.Kind.TheVariants as kind
use Rattle.hy_column.specs.declared.columns.Column.{Column}
use Rattle.hy_column.specs.Cells.{kind_texts, texts_of}
use Rattle.hy_column.specs.Columns.{kind_of}
use Rattle.hy_column.specs.Rows.{kinds_of}

pub kind_small : (k : Kind) → kind_texts k ≤ 1
kind_small kind.Int = omega arith
kind_small kind.Str = omega arith

kinds_step : (columns : List Column) (i : ℕ) (d : Column) → i < length columns
    → texts_of (kinds_of (take (suc i) columns)) ≡ texts_of (kinds_of (take i columns)) + kind_texts (kind_of (get_or columns i d))
kinds_step [] i d low = absurd (omega arith)
kinds_step (c ∷ columns) zero d low = omega arith
kinds_step (c ∷ columns) (suc i) d low =
    let inner : texts_of (kinds_of (take (suc i) columns)) ≡ texts_of (kinds_of (take i columns)) + kind_texts (kind_of (get_or columns i d))
    = kinds_step columns i d (omega arith) in
    omega arith

-- one more column
pub kinds_more : (columns : List Column) (i : ℕ) (c : Column) → i < length columns → c ≡ get_or columns i c
    → texts_of (kinds_of (take (i + 1) columns)) ≡ texts_of (kinds_of (take i columns)) + kind_texts (kind_of c)
kinds_more columns i c low e =
    rw add-one (kinds_step columns i c low ∙ ap (λ d. texts_of (kinds_of (take i columns)) + kind_texts (kind_of d)) (sym e))
