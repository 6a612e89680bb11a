-- Tables that differ unseen, with own writes over them: no record is hit at any position.
use Rattle.std.proofs.Common.{◌≡◌, ℕ, ◌⊎◌, List, Option, None, Some, refl, ap, sym, ◌∙◌, inl, inr, length}
use Rattle.hy_bound.specs.declared.Record.{Record}
use Rattle.hy_machine.specs.declared.Setting.{Setting}
use Rattle.hy_machine.specs.Positions.{item_at}
use Rattle.hy_machine.specs.Tables.{Cell, Tables, Own, capacity, covered, over}
use Rattle.hy_machine.specs.Validation.{record_hit}
use Rattle.hy_replay.specs.Laws.{AreTables, HaveWidths, IsUnseenAt, DifferUnseen}
use Rattle.hy_replay.proofs.Cells.{FitsOwn, tables_shape, over_item, over_widths}
use Rattle.hy_replay.proofs.Hits.{same_misses}
use Rattle.hy_replay.proofs.Changes.{ShapesFit, MissEach}

-- ---- tables that fit

-- each of two lists of tables is one of these settings, with rows of its tables' widths
pub record BothFit (setting : Setting) (tables others : Tables) : Type 0 where
  pub shapes : ShapesFit setting.shapes
  pub are : AreTables setting tables
  pub others_are : AreTables setting others
  pub wide : HaveWidths setting.shapes tables
  pub others_wide : HaveWidths setting.shapes others

pub widths_over : (setting : Setting) (tables others : Tables) (own : Own) → BothFit setting tables others → FitsOwn setting own
    → HaveWidths setting.shapes (over tables own)
widths_over setting tables others own fit fits = over_widths setting tables own fit.are fit.wide fits

pub others_widths_over : (setting : Setting) (tables others : Tables) (own : Own) → BothFit setting tables others → FitsOwn setting own
    → HaveWidths setting.shapes (over others own)
others_widths_over setting tables others own fit fits = over_widths setting others own fit.others_are fit.others_wide fits

-- ---- tables that differ unseen

-- cells agree, or their difference isn't seen
abbrev pub AlikeAt : Own → List Record → ℕ → ℕ → Cell → Cell → Type 0
AlikeAt own records table pos before after = (before ≡ after) ⊎ IsUnseenAt own records table pos before after

covered_alike : (later : Own) (records : List Record) (table pos : ℕ) (before after : Cell) (own : Option Cell) → AlikeAt later records table pos before after
    → AlikeAt later records table pos (covered (λ own. own) before own) (covered (λ own. own) after own)
covered_alike later records table pos before after None h = h
covered_alike later records table pos before after (Some own) h = inl refl

-- with own writes over them they differ unseen too
pub over_unseen : (setting : Setting) (tables others : Tables) (own later : Own) (records : List Record) → BothFit setting tables others → FitsOwn setting own
    → DifferUnseen tables others later records → DifferUnseen (over tables own) (over others own) later records
over_unseen setting tables others own later records fit fits h table pos =
    rw (
      over_item tables own (length setting.first) (capacity setting) table pos (tables_shape setting tables fit.are) fits.shape,
      over_item others own (length setting.first) (capacity setting) table pos (tables_shape setting others fit.others_are) fits.shape,
    ) (covered_alike later records table pos (item_at tables table pos) (item_at others table pos) (item_at own table pos) (h table pos))

alike_missed : (later : Own) (records : List Record) (table pos : ℕ) (before after : Cell) → AlikeAt later records table pos before after
    → record_hit records table before after ≡ None
alike_missed later records table pos before after (inl same) = ap (record_hit records table before) (sym same) ∙ same_misses records table before
alike_missed later records table pos before after (inr unseen) = unseen.missed

-- where tables differ unseen, no record is hit
unseen_misses : (later : Own) (records : List Record) (tables others : Tables) → DifferUnseen tables others later records → MissEach records tables others
unseen_misses later records tables others h table pos = alike_missed later records table pos (item_at tables table pos) (item_at others table pos) (h table pos)

-- so too where own writes stand over both
pub over_misses : (setting : Setting) (tables others : Tables) (own later : Own) (records : List Record) → BothFit setting tables others → FitsOwn setting own
    → DifferUnseen tables others later records → MissEach records (over tables own) (over others own)
over_misses setting tables others own later records fit fits h =
    unseen_misses later records (over tables own) (over others own) (over_unseen setting tables others own later records fit fits h)
