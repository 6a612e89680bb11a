-- Which columns are told of: those of a set, those of a set in which two rows differ, those that SET takes out of 64 bits.
use Rattle.std.specs.Prelude.{ℕ, Bool}
use Rattle.hy_value.specs.Columns.{has_column}
use Rattle.hy_explain.specs.declared.choosing.Choice.{Choice}
use Rattle.hy_explain.specs.declared.choosing.Choice.TheVariants.{Of, Differing, OutOf}
use Rattle.hy_explain.specs.Found.{differs_in, goes_out_in}

abbrev pub is_chosen : Choice → ℕ → Bool
is_chosen (Of mask) = has_column mask
is_chosen (Differing mask before after) = differs_in mask before.now after.now
is_chosen (OutOf sets row) = goes_out_in sets.now row.now
