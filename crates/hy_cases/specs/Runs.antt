-- Neighbours of the law that what is unseen leaves a run: tables may differ at positions that the transaction wrote, or at
-- those that it took back.
use Rattle.std.specs.Prelude.{◌≡◌, ℕ, List, [], ◌∷◌, ◌++◌, ◌⊎◌, Option, None, Some}
use Rattle.std.specs.List.{All}
use Rattle.std.specs.Option.{option_map}
use Rattle.hy_value.specs.declared.Cmp.TheVariants.{Eq}
use Rattle.hy_value.specs.declared.Value.{Value}
use Rattle.hy_value.specs.declared.Value.TheVariants.{Null}
use Rattle.hy_bound.specs.declared.Bound.{Bound}
use Rattle.hy_bound.specs.declared.Bound.TheVariants.{Select, Update}
use Rattle.hy_bound.specs.declared.Record.{Record}
use Rattle.hy_bound.specs.declared.Items.TheVariants.{Columns}
use Rattle.hy_bound.specs.declared.predicate.Side.TheVariants as side
use Rattle.hy_bound.specs.declared.Reply.TheVariants.{Rows, Updated, Saved, Back}
use Rattle.hy_bound.specs.Condition.{True, Compare}
use Rattle.hy_bound.specs.Expression.{Literal}
use Rattle.hy_bound.specs.Fits.{FitsShape, FitsStatement}
use Rattle.hy_plan.specs.Reads.{records_of}
use Rattle.hy_machine.specs.declared.Setting.{Setting}
use Rattle.hy_machine.specs.Positions.{item_at}
use Rattle.hy_machine.specs.Tables.{Tables, Own}
use Rattle.hy_machine.specs.Validation.{record_hit}
use Rattle.hy_replay.specs.Laws.{AreTables, HaveWidths}
use Rattle.hy_replay.specs.Ran.{Ran, ran}
use Rattle.hy_cases.specs.Examples.{number}
use Rattle.hy_cases.specs.Words.{the_name, saves, goes_back}

-- tables differ only by changes that hit none of the records, at whatever positions
abbrev pub DifferMissed : Tables → Tables → List Record → Type 0
DifferMissed tables others records = (table pos : ℕ)
    → (item_at tables table pos ≡ item_at others table pos) ⊎ (record_hit records table (item_at tables table pos) (item_at others table pos) ≡ None)

-- over tables that differ only so a transaction's statements come to the same
abbrev pub OwnPositionsMayDiffer : Type 0
OwnPositionsMayDiffer =
    (setting : Setting) (tables others : Tables) (statements : List Bound) (took : List (Option ℕ)) (given : Ran)
    → All FitsShape setting.shapes → All (FitsStatement setting.shapes) statements
    → AreTables setting tables → AreTables setting others → HaveWidths setting.shapes tables → HaveWidths setting.shapes others
    → ran setting tables statements took ≡ Some given → DifferMissed tables others given.records
    → ran setting others statements took ≡ Some given

-- one table with one position and two columns
abbrev pub one_position : Setting
one_position = record { chunks = 1; rows = 1; shapes = record { width = 2; key = None } ∷ []; first = [] ∷ []; programs = [] }

-- a row there with this value in its second column
abbrev pub standing : Value → Tables
standing value = (Some (number 1 ∷ value ∷ []) ∷ []) ∷ []

-- UPDATE sets the first column of every row to 2: it reads no column
abbrev pub setting_first : Bound
setting_first = Update 0 (record { column = 0; value = Literal (number 2) } ∷ []) True

-- what it comes to over a row with NULL in its second column: it writes the whole row
abbrev pub first_set : Ran
first_set = record {
  own = (Some (Some (number 2 ∷ Null ∷ [])) ∷ []) ∷ [];
  saved = [];
  replies = Updated 1 ∷ [];
  records = records_of one_position.shapes 1 setting_first [];
}

-- ---- what is taken back

-- nothing was written at a position, or what was written there was taken back: it is what the tables have
abbrev pub IsLeftAt : Tables → Own → ℕ → ℕ → Type 0
IsLeftAt tables own table pos = (item_at own table pos ≡ None) ⊎ (item_at own table pos ≡ Some (item_at tables table pos))

-- tables differ only at such positions, and by changes that hit none of the records
abbrev pub DifferLeft : Tables → Tables → Own → List Record → Type 0
DifferLeft tables others own records = (table pos : ℕ)
    → (item_at tables table pos ≡ item_at others table pos)
    ⊎ (IsLeftAt tables own table pos × (record_hit records table (item_at tables table pos) (item_at others table pos) ≡ None))

-- over tables that differ only so a transaction's statements come to the same, but for what it took back
abbrev pub TakenBackMayDiffer : Type 0
TakenBackMayDiffer =
    (setting : Setting) (tables others : Tables) (statements : List Bound) (took : List (Option ℕ)) (given : Ran)
    → All FitsShape setting.shapes → All (FitsStatement setting.shapes) statements
    → AreTables setting tables → AreTables setting others → HaveWidths setting.shapes tables → HaveWidths setting.shapes others
    → ran setting tables statements took ≡ Some given → DifferLeft tables others given.own given.records
    → option_map (λ (run : Ran). run.replies) (ran setting others statements took) ≡ Some given.replies

-- the second column of the rows that have 2 in the first
abbrev pub reading_second : Bound
reading_second = Select (0 ∷ []) [] (Compare 0 Eq (side.Literal (number 2))) (Columns (1 ∷ []))

-- the first column is set, the second is read where the first is so, and then all is taken back
abbrev pub setting_and_going_back : List Bound
setting_and_going_back = saves ∷ setting_first ∷ reading_second ∷ goes_back ∷ []

-- what it comes to over a row with NULL in its second column: the row is as it was, and the NULL was read
abbrev pub first_set_back : Ran
first_set_back = record {
  own = (Some (Some (number 1 ∷ Null ∷ [])) ∷ []) ∷ [];
  saved = record { name = the_name; was = (None ∷ []) ∷ [] } ∷ [];
  replies = Saved ∷ Updated 1 ∷ Rows ((Null ∷ []) ∷ []) ∷ Back ∷ [];
  records =
      records_of one_position.shapes 2 setting_first []
      ++ records_of one_position.shapes 3 reading_second (((number 2 ∷ Null ∷ []) ∷ []) ∷ []);
}
