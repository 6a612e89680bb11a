-- SELECT and SELECT with GROUP BY over tables of which no record is hit by the differences.
use Rattle.std.proofs.Common.{◌≡◌, ℕ, List, [], ◌∷◌, map, refl, ap, sym, ◌∙◌, subst}
use Rattle.std.specs.Option.{option_map}
use Rattle.std.proofs.lemmas.Option.{same_Some}
use Rattle.hy_bound.specs.declared.Aggregate.{Aggregate}
use Rattle.hy_bound.specs.declared.Bound.{Bound}
use Rattle.hy_bound.specs.declared.Bound.TheVariants.{Select, Group}
use Rattle.hy_bound.specs.declared.Items.{Items}
use Rattle.hy_bound.specs.declared.On.{On}
use Rattle.hy_bound.specs.declared.Record.{Record}
use Rattle.hy_bound.specs.declared.Shape.{Shape}
use Rattle.hy_bound.specs.Changes.{Change, rows_before, rows_after, Miss, FitChanges}
use Rattle.hy_bound.specs.Condition.{Condition}
use Rattle.hy_meaning.specs.Statement.{Table, rows_in, gathered_by, answer_of, grouped, mean}
use Rattle.hy_plan.specs.Reads.{records_of}
use Rattle.hy_machine.specs.Tables.{Tables}
use Rattle.hy_machine.specs.Turns.{rows_seen}
use Rattle.hy_replay.specs.Laws.{HaveWidths}
use Rattle.hy_replay.proofs.Changes.{paired, before_in, after_in, ShapesFit, MissEach, paired_fit, paired_miss}

-- changes that hit none of a statement's records leave its records
abbrev pub KeepsRecords : Type 0
KeepsRecords =
    (shapes : List Shape) (number : ℕ) (statement : Bound) (changes : List (List Change)) → FitChanges shapes changes
    → Miss (records_of shapes number statement (gathered_by statement (map rows_before changes))) changes
    → records_of shapes number statement (gathered_by statement (map rows_after changes))
    ≡ records_of shapes number statement (gathered_by statement (map rows_before changes))

-- and its reply
abbrev pub KeepsReplies : Type 0
KeepsReplies =
    (shapes : List Shape) (number : ℕ) (statement : Bound) (changes : List (List Change)) → FitChanges shapes changes
    → Miss (records_of shapes number statement (gathered_by statement (map rows_before changes))) changes
    → option_map (λ given. given.0) (mean shapes statement (map rows_after changes))
    ≡ option_map (λ given. given.0) (mean shapes statement (map rows_before changes))

all_alike : {X Y : Type 0} (f g : X → Y) → ((x : X) → f x ≡ g x) → (xs : List X) → map f xs ≡ map g xs
all_alike f g same [] = refl
all_alike f g same (x ∷ xs) = ap (λ y. y ∷ map f xs) (same x) ∙ ap (λ ys. g x ∷ ys) (all_alike f g same xs)

select_miss : (shapes : List Shape) (number : ℕ) (from : List ℕ) (ons : List On) (pred : Condition) (items : Items) (tables others : Tables)
    → MissEach (records_of shapes number (Select from ons pred items) (map (rows_seen tables) from)) tables others
    → Miss (records_of shapes number (Select from ons pred items) (map (rows_in (map rows_before (paired tables others))) from)) (paired tables others)
select_miss shapes number from ons pred items tables others miss =
    subst (λ (gathered : List Table). Miss (records_of shapes number (Select from ons pred items) gathered) (paired tables others))
    (sym (all_alike (rows_in (map rows_before (paired tables others))) (rows_seen tables) (before_in tables others) from))
    (paired_miss (records_of shapes number (Select from ons pred items) (map (rows_seen tables) from)) tables others miss)

-- a SELECT logs the same records
pub select_records : KeepsRecords → (shapes : List Shape) (number : ℕ) (from : List ℕ) (ons : List On) (pred : Condition) (items : Items)
    (tables others : Tables) → ShapesFit shapes → HaveWidths shapes tables → HaveWidths shapes others
    → MissEach (records_of shapes number (Select from ons pred items) (map (rows_seen tables) from)) tables others
    → records_of shapes number (Select from ons pred items) (map (rows_seen others) from)
    ≡ records_of shapes number (Select from ons pred items) (map (rows_seen tables) from)
select_records keeps shapes number from ons pred items tables others fit wide also miss =
    let logged : List Table → List Record = records_of shapes number (Select from ons pred items) in
    ap logged (sym (all_alike (rows_in (map rows_after (paired tables others))) (rows_seen others) (after_in tables others) from))
    ∙ (keeps shapes number (Select from ons pred items) (paired tables others) (paired_fit shapes tables others fit wide also)
    (select_miss shapes number from ons pred items tables others miss)
    ∙ ap logged (all_alike (rows_in (map rows_before (paired tables others))) (rows_seen tables) (before_in tables others) from))

-- and has the same answer
pub select_answer : KeepsReplies → (shapes : List Shape) (number : ℕ) (from : List ℕ) (ons : List On) (pred : Condition) (items : Items)
    (tables others : Tables) → ShapesFit shapes → HaveWidths shapes tables → HaveWidths shapes others
    → MissEach (records_of shapes number (Select from ons pred items) (map (rows_seen tables) from)) tables others
    → answer_of ons pred items (map (rows_seen others) from) ≡ answer_of ons pred items (map (rows_seen tables) from)
select_answer keeps shapes number from ons pred items tables others fit wide also miss =
    ap (answer_of ons pred items) (sym (all_alike (rows_in (map rows_after (paired tables others))) (rows_seen others) (after_in tables others) from))
    ∙ (same_Some (answer_of ons pred items (map (rows_in (map rows_after (paired tables others))) from))
    (answer_of ons pred items (map (rows_in (map rows_before (paired tables others))) from))
    (keeps shapes number (Select from ons pred items) (paired tables others) (paired_fit shapes tables others fit wide also)
    (select_miss shapes number from ons pred items tables others miss))
    ∙ ap (answer_of ons pred items) (all_alike (rows_in (map rows_before (paired tables others))) (rows_seen tables) (before_in tables others) from))

-- a SELECT with GROUP BY has the same answer
pub group_answer : KeepsReplies → (shapes : List Shape) (number table : ℕ) (pred : Condition) (key : ℕ) (aggregate : Aggregate) (tables others : Tables)
    → ShapesFit shapes → HaveWidths shapes tables → HaveWidths shapes others
    → MissEach (records_of shapes number (Group table pred key aggregate) []) tables others
    → grouped pred key aggregate (rows_seen others table) ≡ grouped pred key aggregate (rows_seen tables table)
group_answer keeps shapes number table pred key aggregate tables others fit wide also miss =
    ap (grouped pred key aggregate) (sym (after_in tables others table))
    ∙ (same_Some (grouped pred key aggregate (rows_in (map rows_after (paired tables others)) table))
    (grouped pred key aggregate (rows_in (map rows_before (paired tables others)) table))
    (keeps shapes number (Group table pred key aggregate) (paired tables others) (paired_fit shapes tables others fit wide also)
    (paired_miss (records_of shapes number (Group table pred key aggregate) []) tables others miss))
    ∙ ap (grouped pred key aggregate) (before_in tables others table))
