-- What contracts see of a log.
use Rattle.std.specs.Prelude.{ℕ, List, refl}
use Rattle.std.specs.Coded.{Coded, code_by, coded×, coded_list, coded_ℕ}
use Rattle.hy_bound.specs.declared.Record.{Record}
use Rattle.hy_bound.specs.contracts.Record as logged

-- the records of a log, and for how many more it has room
pub record Log : Type 0 where
  pub entries : List Record
  pub room : ℕ

-- a log is stored as the pair of its fields
abbrev pub log_code : Coded Log
log_code =
    code_by (List Record × ℕ) (coded× (coded_list logged.the_row.coded) coded_ℕ)
    (λ l. (l.entries, l.room)) (λ p. record { entries = p.0; room = p.1 }) (λ _. refl)
