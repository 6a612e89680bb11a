-- The chunks that a transaction wrote, table by table.
use Rattle.std.proofs.Common.{◌≡◌, ℕ, suc, ◌+◌, ◌<◌, List, [], ◌∷◌, ◌++◌, length, drop, refl, None, false, add-one, drop-cons, map, ap, ◌∙◌}
use Rattle.std.specs.Prelude.{filter}
use Rattle.std.specs.List.{range_with_len}
use Rattle.hy_bound.specs.declared.Shape.{Shape}
use Rattle.hy_render.specs.declared.Place.{Place}
use Rattle.hy_event.specs.declared.SessionData.{SessionData}
use Rattle.hy_event.specs.Sessions.{chunks_from, chunks_in_table}

abbrev no_shape : Shape
no_shape = record { width = 0; key = None }

-- those of the tables from one on are those of that table and those of the others
pub tables_more : (session : SessionData) (places : List Place) (table : ℕ) (shapes : List Shape) → table < length shapes
    → chunks_from session places table (drop table shapes)
    ≡ chunks_in_table session places table ++ chunks_from session places (table + 1) (drop (table + 1) shapes)
tables_more session places table shapes h = rw (add-one, drop-cons shapes table no_shape h) refl

-- where nothing was written, no chunk was
none_passes : {A : Type 0} (xs : List A) → filter (λ x. false) xs ≡ []
none_passes {A = A} [] = refl
none_passes {A = A} (x ∷ xs) = none_passes xs

pub none_written : (session : SessionData) (table : ℕ) (shapes : List Shape) → chunks_from session [] table shapes ≡ []
none_written session table [] = refl
none_written session table (shape ∷ shapes) =
    ap (λ (numbers : List ℕ). map (λ (chunk : ℕ). (table, chunk)) numbers ++ chunks_from session [] (suc table) shapes)
    (none_passes (range_with_len 0 session.chunks)) ∙ none_written session (suc table) shapes
