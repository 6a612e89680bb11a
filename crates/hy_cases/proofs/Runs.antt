-- An UPDATE of a column writes another one as it finds it, and what it writes may be read before it is taken back.
use Rattle.std.proofs.Common.{◌≡◌, zero, suc, ◌<◌, List, [], ◌∷◌, Option, Some, None, inl, inr, refl, ap, arith}
use Rattle.std.specs.List.{All}
use Rattle.hy_value.specs.declared.Value.{Value}
use Rattle.hy_value.specs.declared.Value.TheVariants.{Null}
use Rattle.hy_bound.specs.declared.Reply.{Reply}
use Rattle.hy_bound.specs.declared.Reply.TheVariants.{Rows}
use Rattle.hy_bound.specs.Fits.{FitsShape, FitsStatement}
use Rattle.hy_machine.specs.Positions.{item_at}
use Rattle.hy_plan.specs.ColumnSets.{bits_where, columns_where, named_columns}
use Rattle.hy_replay.specs.Laws.{AreTables, HaveWidths}
use Rattle.hy_replay.specs.Ran.{Ran}
use Rattle.hy_cases.specs.Examples.{number}
use Rattle.hy_cases.specs.Words.{saves, goes_back}
use Rattle.hy_cases.specs.Runs.{DifferMissed, OwnPositionsMayDiffer, one_position, standing, setting_first, first_set}
use Rattle.hy_cases.specs.Runs.{DifferLeft, TakenBackMayDiffer, reading_second, setting_and_going_back, first_set_back}

-- the second value that was written at the position
abbrev pub second : Option (Option (List Value)) → Value
second (Some (Some (one ∷ two ∷ row))) = two
second other = Null

abbrev second_own : Option Ran → Value
second_own None = Null
second_own (Some given) = second (item_at given.own 0 0)

pub only_one : {X : Type 0} (P : X → Type 0) (x : X) → P x → All P (x ∷ [])
only_one P x p zero d below = p
only_one P x p (suc k) d below = absurd (omega (arith, below))

pub shape_fits : FitsShape (record { width = 2; key = None })
shape_fits = record { some = omega arith; few = omega arith; key = λ key e. absurd cc }

are_tables : (value : Value) → AreTables one_position (standing value)
are_tables value = record { many = refl; long = (refl, tt) }

pub have_widths : (value : Value) → HaveWidths one_position.shapes (standing value)
have_widths value zero = (refl, tt)
have_widths value (suc table) = tt

update_fits : FitsStatement one_position.shapes setting_first
update_fits = (
  omega arith,
  record {
    set = only_one (λ column. column < 2) 0 (omega arith);
    once = λ i j d less below. absurd (omega (arith, less, below));
    spares_key = λ k d below e. absurd cc;
    values = λ k d below. absurd (omega (arith, below));
    filter = λ k d below. absurd (omega (arith, below));
  },
)

-- the rows of two such tables differ in a column that no record has
all_missed : DifferMissed (standing Null) (standing (number 1)) first_set.records
unfolding named_columns columns_where bits_where
all_missed zero zero = inr refl
all_missed zero (suc at) = inl refl
all_missed (suc table) at = inl refl

pub own_positions_fail : OwnPositionsMayDiffer → ⊥
own_positions_fail law =
    let same : number 1 ≡ Null = ap second_own
    (law one_position (standing Null) (standing (number 1)) (setting_first ∷ []) (None ∷ []) first_set
    (only_one FitsShape (record { width = 2; key = None }) shape_fits) (only_one (FitsStatement one_position.shapes) setting_first update_fits)
    (are_tables Null) (are_tables (number 1)) (have_widths Null) (have_widths (number 1)) refl all_missed) in absurd cc

-- ---- what is taken back

-- the first value of the rows that were told third
told_third : Option (List Reply) → Value
told_third (Some (one ∷ two ∷ Rows ((value ∷ row) ∷ rows) ∷ others)) = value
told_third other = Null

and_all : {X : Type 0} (P : X → Type 0) (x : X) (xs : List X) → P x → All P xs → All P (x ∷ xs)
and_all P x xs p h zero d below = p
and_all P x xs p h (suc k) d below = h k d (omega (arith, below))

reading_fits : FitsStatement one_position.shapes reading_second
reading_fits = record {
  many = refl;
  few = omega arith;
  there = only_one (λ table. table < 1) 0 (omega arith);
  differ = λ i j d less below. absurd (omega (arith, less, below));
  joins = λ number d below. absurd (omega (arith, below));
  filter = only_one (λ column. column < 2) 0 (omega arith);
  shown = only_one (λ column. column < 2) 1 (omega arith);
  counts_one = λ counts. refl;
}

all_fit : All (FitsStatement one_position.shapes) setting_and_going_back
all_fit =
    and_all (FitsStatement one_position.shapes) saves (setting_first ∷ reading_second ∷ goes_back ∷ []) tt
    (and_all (FitsStatement one_position.shapes) setting_first (reading_second ∷ goes_back ∷ []) update_fits
    (and_all (FitsStatement one_position.shapes) reading_second (goes_back ∷ []) reading_fits
    (only_one (FitsStatement one_position.shapes) goes_back tt)))

-- no record tells of the row that only the transaction saw
all_left : DifferLeft (standing Null) (standing (number 1)) first_set_back.own first_set_back.records
unfolding named_columns columns_where bits_where
all_left zero zero = inr (inr refl, refl)
all_left zero (suc at) = inl refl
all_left (suc table) at = inl refl

pub taken_back_fails : TakenBackMayDiffer → ⊥
unfolding named_columns columns_where bits_where told_third
taken_back_fails law =
    let same : number 1 ≡ Null = ap told_third
    (law one_position (standing Null) (standing (number 1)) setting_and_going_back (None ∷ None ∷ None ∷ None ∷ []) first_set_back
    (only_one FitsShape (record { width = 2; key = None }) shape_fits) all_fit
    (are_tables Null) (are_tables (number 1)) (have_widths Null) (have_widths (number 1)) refl all_left) in absurd cc
