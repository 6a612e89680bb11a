-- What is looked up is gathered in turn, for each part by the columns that were gathered before it.
use Rattle.std.proofs.Common.{◌≡◌, ℕ, zero, suc, List, [], ◌∷◌, ◌++◌, length, refl, ap, sym, ◌∙◌, append_assoc, arith}
use Rattle.std.specs.Prelude.{Some, slice_get, take}
use Rattle.std.proofs.lemmas.List.{append-nil}
use Rattle.std.proofs.lemmas.Option.{same_Some}
use Rattle.hy_value.specs.declared.Value.{Value}
use Rattle.hy_meaning.specs.Statement.{Table}
use Rattle.hy_plan.specs.declared.PlanPart.{PlanPart}
use Rattle.hy_plan.specs.Reads.{columns_over}
use Rattle.hy_laws.specs.Lookups.{gathered_for, spread_of, looked_up_behind}
use Rattle.hy_laws.specs.Turns.{columns_gathered, LookedUpInTurn, LookedUpAlone}

-- the same where some columns were gathered before the first part
abbrev AreGatheredBehind : List (List Value) → List PlanPart → List Table → List Table → Type 0
AreGatheredBehind earlier parts tables gathered =
    (turn : ℕ) (part : PlanPart) (rows : Table) → slice_get parts turn ≡ Some part → slice_get tables turn ≡ Some rows
    → slice_get gathered turn ≡ Some (gathered_for part (earlier ++ columns_gathered (take turn parts) (take turn gathered)) rows)

-- for the first part nothing stands behind the columns before it
first_gathered : (earlier : List (List Value)) (part : PlanPart) (rows : Table) → gathered_for part (earlier ++ []) rows ≡ gathered_for part earlier rows
first_gathered earlier part rows = ap (λ (columns : List (List Value)). gathered_for part columns rows) (append-nil earlier)

-- for a later part the first part's columns, and those of others, stand behind these
others_gathered : (earlier own others : List (List Value)) (part : PlanPart) (rows : Table)
    → gathered_for part ((earlier ++ own) ++ others) rows ≡ gathered_for part (earlier ++ (own ++ others)) rows
others_gathered earlier own others part rows = ap (λ (columns : List (List Value)). gathered_for part columns rows) (append_assoc earlier own others)

-- what is looked up behind some columns is gathered so
gathered_behind : (earlier : List (List Value)) (parts : List PlanPart) (tables : List Table)
    → AreGatheredBehind earlier parts tables (looked_up_behind earlier parts tables)
gathered_behind earlier [] tables turn part rows of_parts of_tables = cc
gathered_behind earlier (first ∷ parts) [] turn part rows of_parts of_tables = cc
gathered_behind earlier (first ∷ parts) (own ∷ tables) zero part rows of_parts of_tables =
    ap Some
    (ap (λ (p : PlanPart). gathered_for p earlier own) (same_Some first part of_parts)
    ∙ (ap (gathered_for part earlier) (same_Some own rows of_tables) ∙ sym (first_gathered earlier part rows)))
gathered_behind earlier (first ∷ parts) (own ∷ tables) (suc turn) part rows of_parts of_tables =
    let now : List (List Value) = columns_over first.width (spread_of first (gathered_for first earlier own)) in
    let rest : List Table = looked_up_behind (earlier ++ now) parts tables in
    gathered_behind (earlier ++ now) parts tables turn part rows of_parts of_tables
    ∙ ap Some (others_gathered earlier now (columns_gathered (take turn parts) (take turn rest)) part rows)

-- and nothing else is
alone_behind : (earlier : List (List Value)) (parts : List PlanPart) (tables gathered : List Table)
    → length tables ≡ length parts → length gathered ≡ length parts → AreGatheredBehind earlier parts tables gathered
    → gathered ≡ looked_up_behind earlier parts tables
alone_behind earlier [] tables [] long as_long each = refl
alone_behind earlier [] tables (now ∷ gathered) long as_long each = absurd (omega arith)
alone_behind earlier (part ∷ parts) [] gathered long as_long each = absurd (omega arith)
alone_behind earlier (part ∷ parts) (rows ∷ tables) [] long as_long each = absurd (omega arith)
alone_behind earlier (part ∷ parts) (rows ∷ tables) (now ∷ gathered) long as_long each =
    let here : now ≡ gathered_for part earlier rows =
    same_Some now (gathered_for part (earlier ++ []) rows) (each 0 part rows refl refl) ∙ first_gathered earlier part rows in
    let more : Table → List (List Value) = λ rs. earlier ++ columns_over part.width (spread_of part rs) in
    let later : gathered ≡ looked_up_behind (more now) parts tables =
    alone_behind (more now) parts tables gathered (omega arith) (omega arith)
    (λ turn other own of_parts of_tables. each (suc turn) other own of_parts of_tables
    ∙ ap Some
    (sym (others_gathered earlier (columns_over part.width (spread_of part now)) (columns_gathered (take turn parts) (take turn gathered)) other own))) in
    ap (λ (ts : List Table). now ∷ ts) later ∙ ap (λ (rs : Table). rs ∷ looked_up_behind (more rs) parts tables) here

pub looked_up_in_turn : LookedUpInTurn
looked_up_in_turn parts tables = gathered_behind [] parts tables

pub looked_up_alone : LookedUpAlone
looked_up_alone parts tables gathered long as_long each = alone_behind [] parts tables gathered long as_long each
