-- The first balances of a script that is made are 1000.
use Rattle.std.proofs.Common.{ℕ, zero, suc, ◌+◌, map, arith, pos}
use Rattle.std.specs.List.{range_with_len}
use Rattle.std.proofs.lemmas.Int.{ints}
use Rattle.hy_value.specs.Sorted.{sorted}
use Rattle.hy_value.specs.declared.Value.TheVariants.{Int}
use Rattle.hy_meaning.specs.Serial.{database_of}
use Rattle.hy_gen.specs.Accounts.{first_row, first_rows}
use Rattle.hy_gen.specs.Made.{made}
use Rattle.hy_bank.specs.Outcomes.{made_setting}
use Rattle.hy_bank.proofs.EndRows.{IsWithin, within, AreWithin, sorted_within, HoldsWithin, one_table}

first_balance : IsWithin 1000 (pos 1000)
first_balance = record { below = omega (arith, ints); above = omega (arith, ints) }

first_within : (from many : ℕ) → AreWithin 1000 (map first_row (range_with_len from many))
first_within from zero = tt
first_within from (suc many) = (within (Int (pos from)) (pos 1000) first_balance, first_within (from + 1) many)

rows_begin_within : AreWithin 1000 first_rows
unfolding first_rows
rows_begin_within = first_within 1 64

pub begins_within : (seed sessions txns : ℕ) → HoldsWithin 1000 (database_of (made_setting seed sessions txns).first)
unfolding made
begins_within seed sessions txns = one_table (sorted first_rows) (sorted_within 1000 first_rows rows_begin_within)
