-- The tables have the positions of the chunks.
use Rattle.std.proofs.Common.{◌≡◌, ℕ, ◌+◌, ◌*◌, ◌<◌, List, [], length, get_or, ap, ◌∙◌, arith}
use Rattle.std.specs.Prelude.{slice_get}
use Rattle.std.proofs.lemmas.List.{length-map, get_or-map}
use Rattle.std.proofs.lemmas.List.FromFn.{length-map-range_with_len}
use Rattle.hy_machine.specs.declared.Setting.{Setting}
use Rattle.hy_machine.specs.States.{State}
use Rattle.hy_machine.specs.Tables.{Cell, capacity, laid_out, opening_tables}
use Rattle.hy_refinement.specs.Free.{HasPosition}
use Rattle.hy_machine.specs.Kept.{Kept}

product_below : (chunk chunks rows index : ℕ) → chunk < chunks → index < rows → chunk * rows + index < chunks * rows
product_below chunk chunks rows index l m = grind arith

pub has_position : (setting : Setting) (state : State) (table chunk index : ℕ) → Kept setting state → table < length setting.shapes → chunk < setting.chunks
    → index < setting.rows → HasPosition (opening_tables setting) table (chunk * setting.rows + index)
has_position setting state table chunk index kept table_below chunk_below index_below =
    let shapes = kept.fits.shapes in
    let there : table < length setting.first = omega (arith, table_below, shapes) in
    let row : get_or (opening_tables setting) table [] ≡ laid_out (capacity setting) (get_or setting.first table []) =
    get_or-map (laid_out (capacity setting)) setting.first table [] [] there in
    let long : length (get_or (opening_tables setting) table []) ≡ capacity setting =
    ap (λ (cells : List Cell). length cells) row ∙ length-map-range_with_len (slice_get (get_or setting.first table [])) 0 (capacity setting) in
    let below = product_below chunk setting.chunks setting.rows index chunk_below index_below in record {
      table_below = let e = length-map setting.first (laid_out (capacity setting)) in omega (arith, e, there);
      pos_below = omega (arith, long, below);
    }
