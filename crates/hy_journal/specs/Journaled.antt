-- What contracts see of a journal.
use Rattle.std.specs.Prelude.{ℕ, List, refl}
use Rattle.std.specs.Coded.{Coded, code_by, coded×, coded_list, coded_ℕ}
use Rattle.hy_journal.specs.declared.Entry.{Entry}
use Rattle.hy_journal.specs.contracts.Entry as entry

-- the entries, and for how many more there is room
pub record Journaled : Type 0 where
  pub entries : List Entry
  pub room : ℕ

-- a journal is stored as the pair of these
abbrev pub journaled_code : Coded Journaled
journaled_code =
    code_by (List Entry × ℕ) (coded× (coded_list entry.the_row.coded) coded_ℕ)
    (λ j. (j.entries, j.room)) (λ p. record { entries = p.0; room = p.1 }) (λ _. refl)
