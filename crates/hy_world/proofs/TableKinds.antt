-- The types of a world's tables are those of which it is a world.
use Rattle.std.proofs.Common.{◌≡◌, ℕ, zero, suc, ◌+◌, ◌*◌, ◌<◌, List, [], ◌∷◌, Bool, length, map, get_or, refl, ap, ◌∙◌, sym, subst, arith, Some}
use Rattle.std.specs.Prelude.{slice_get}
use Rattle.std.specs.List.{range_with_len}
use Rattle.std.proofs.lemmas.Nat.{mul-add-lt}
use Rattle.std.proofs.lemmas.Slice.Zip.{AllZip-long}
use Rattle.hy_value.specs.declared.Kind.{Kind}
use Rattle.hy_bound.specs.declared.Shape.{Shape}
use Rattle.hy_journal.specs.declared.CoreData.{CoreData}
use Rattle.hy_chunk.specs.Views.{Whole}
use Rattle.hy_event.specs.declared.SessionData.{SessionData}
use Rattle.hy_machine.specs.declared.Setting.{Setting}
use Rattle.hy_stepping.specs.Runnable.{IsRunnable}
use Rattle.hy_stepping.specs.Typed.{AreTyped, kinds_of}
use Rattle.hy_world.specs.declared.opening.Opened.{Opened}
use Rattle.hy_world.specs.Openings.{IsOpened}
use Rattle.hy_world.specs.Worlds.{IsWorld, HaveTypes, kinds_in, kinds_by_table}
use Rattle.hy_world.proofs.OpenedWorlds.{types_opened}
use Rattle.hy_world.proofs.OutcomesRead.{tables_are, chunks_are}

-- a list is what is told of its elements one by one
listed : {A : Type 0} (xs : List A) (told : ℕ → A) (first : ℕ) (d : A) → ((i : ℕ) → i < length xs → told (first + i) ≡ get_or xs i d)
    → map told (range_with_len first (length xs)) ≡ xs
listed [] told first d same = refl
listed (x ∷ xs) told first d same =
    let here : first ≡ first + 0 = omega arith in
    ap (λ y. y ∷ map told (range_with_len (first + 1) (length xs))) (ap told here ∙ same 0 (omega arith))
    ∙ ap (λ ys. x ∷ ys) (listed xs told (first + 1) d (λ i h.
    let next : first + 1 + i ≡ first + suc i = omega arith in
    ap told next ∙ same (suc i) (omega (arith, h))))

-- the types of a chunk
kinds_at : (chunks : List Whole) (place : ℕ) (types : List Kind) → place < length chunks
    → ((part : Whole) → slice_get chunks place ≡ Some part → part.kinds ≡ types) → get_or (kinds_in chunks) place [] ≡ types
kinds_at [] place types within each = absurd (omega (arith, within))
kinds_at (chunk ∷ chunks) zero types within each = each chunk refl
kinds_at (chunk ∷ chunks) (suc place) types within each = kinds_at chunks place types (omega (arith, within)) each

-- the types of the tables
kinds_by : (kinds : List (List Kind)) (tables per_table : ℕ) (chunks : List Whole) → tables ≡ length kinds → 0 < per_table
    → tables * per_table ≡ length chunks → HaveTypes kinds per_table chunks → kinds_by_table tables per_table (kinds_in chunks) ≡ kinds
kinds_by kinds tables per_table chunks count some all types =
    ap (λ (count : ℕ). kinds_by_table count per_table (kinds_in chunks)) count
    ∙ listed kinds (λ (table : ℕ). get_or (kinds_in chunks) (table * per_table) []) 0 [] each
  where
    each : (table : ℕ) → table < length kinds → get_or (kinds_in chunks) ((0 + table) * per_table) [] ≡ get_or kinds table []
    each table below =
        let within : table * per_table + 0 < per_table * tables = mul-add-lt table per_table 0 tables (omega (arith, below, count)) some in
        let place : (0 + table) * per_table ≡ table * per_table + 0 = omega arith in
        ap (λ (n : ℕ). get_or (kinds_in chunks) n []) place
        ∙ kinds_at chunks (table * per_table + 0) (kinds_of kinds table) (omega (arith, within, all)) (λ part found. types table 0 part some found)

-- there is a list of types for each table
long_as : (setting : Setting) (kinds : List (List Kind)) → AreTyped kinds setting.shapes setting.first setting.programs
    → length setting.shapes ≡ length kinds
long_as setting kinds typed =
    sym (AllZip-long (λ (shape : Shape) (types : List Kind). length types ≡ shape.width) setting.shapes kinds typed.tables)

-- so of a world
pub kinds_are : (shapes : List Shape) (tables per_table : ℕ) (chunks : List Whole) (core : CoreData) (sessions : List SessionData)
    → (is : IsWorld shapes tables per_table chunks core sessions) → kinds_by_table tables per_table (kinds_in chunks) ≡ is.kinds
kinds_are shapes tables per_table chunks core sessions is =
    let count : length shapes ≡ tables = tables_are shapes tables per_table chunks core sessions is in
    kinds_by is.kinds tables per_table chunks (sym is.shows.tables ∙ long_as is.setting is.kinds is.typed)
    (omega (arith, is.shows.shown.runnable.some_chunk, is.shows.per_table))
    (ap (λ (n : ℕ). n * per_table) (sym count) ∙ chunks_are shapes tables per_table chunks core sessions is) is.types

-- and of one that is opened
pub kinds_opened : (setting : Setting) (kinds : List (List Kind)) (prunes : Bool) (opened : Opened) (tables : ℕ) → IsRunnable setting
    → AreTyped kinds setting.shapes setting.first setting.programs → IsOpened setting kinds prunes opened → tables ≡ length opened.shapes
    → kinds_by_table tables opened.per_table (kinds_in opened.chunks.items) ≡ kinds
kinds_opened setting kinds prunes opened tables runnable typed is count =
    let many : tables ≡ length setting.shapes = count ∙ ap length is.shapes in
    kinds_by kinds tables opened.per_table opened.chunks.items (many ∙ long_as setting kinds typed)
    (omega (arith, runnable.some_chunk, is.per_table))
    (ap (λ (n : ℕ). n * opened.per_table) many ∙ (ap (λ (n : ℕ). length setting.shapes * n) is.per_table ∙ sym is.laid.many))
    (subst (λ (per : ℕ). HaveTypes kinds per opened.chunks.items) (sym is.per_table) (types_opened setting kinds prunes opened is))
