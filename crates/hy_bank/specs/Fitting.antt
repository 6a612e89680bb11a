-- That a script which is made fits its tables.
use Rattle.std.specs.Prelude.{ℕ, ◌*◌, map}
use Rattle.hy_bound.specs.Fits.{Fits}
use Rattle.hy_bind.specs.Shapes.{catalog_shapes}
use Rattle.hy_script.specs.declared.NamedTxns.{NamedTxns}
use Rattle.hy_script.specs.declared.Script.{Script}
use Rattle.hy_gen.specs.Made.{made}

-- a script fits tables of 4 chunks of 16 rows
abbrev pub FitsSmallTables : Script → Type 0
FitsSmallTables script = Fits (catalog_shapes script.catalog) (4 * 16) script.rows (map (λ (session : NamedTxns). session.txns) script.sessions)

-- the script that is made from this seed, of so many sessions of so many transactions, fits
abbrev pub MadeFits : ℕ → ℕ → ℕ → Type 0
MadeFits seed sessions txns = FitsSmallTables (made seed sessions txns)
