-- Blank before-images that are kept ready, and room for what is noted in them.
use Rattle.std.specs.Prelude.{◌≡◌, ℕ, ◌+◌, ◌*◌, List, false, None, length, replicate, refl}
use Rattle.std.specs.List.{AllByRecursion}
use Rattle.std.specs.Coded.{Coded, code_by, coded×, coded_ℕ}
use Rattle.hy_undo.specs.Images.{Image}

-- how many there are, of how many columns; for how many texts there is room for each, and for how many more texts
pub record Stock : Type 0 where
  pub count : ℕ
  pub columns : ℕ
  pub texts : ℕ
  pub free : ℕ

-- they are stored as these
abbrev pub stock_code : Coded Stock
stock_code =
    code_by (ℕ × (ℕ × (ℕ × ℕ))) (coded× coded_ℕ (coded× coded_ℕ (coded× coded_ℕ coded_ℕ))) (λ s. (s.count, (s.columns, (s.texts, s.free))))
    (λ p. record { count = p.0; columns = p.1.0; texts = p.1.1.0; free = p.1.1.1 }) (λ _. refl)

-- a before-image of so many columns in which nothing is noted
abbrev pub blank : ℕ → Image
blank columns = record { values = replicate columns None; live = false }

-- each is blank, and each place for a text is kept for one of them or free
pub record IsStocked (images : List Image) (columns texts free places : ℕ) : Type 0 where
  pub blank : AllByRecursion (λ image. image ≡ blank columns) images
  pub kept : length images * texts + free ≡ places
