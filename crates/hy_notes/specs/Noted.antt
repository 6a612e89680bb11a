-- What contracts see of a transaction's notes.
use Rattle.std.specs.Prelude.{ℕ, List, refl}
use Rattle.std.specs.Coded.{Coded, code_by, coded×, coded_list, coded_ℕ}
use Rattle.hy_value.specs.declared.change.Change.{Change}
use Rattle.hy_value.specs.contracts.change.Change as change

-- the notes, those of each level since it was opened, the first one first; for how many more there is room, for rows
-- of how many values, and of how many texts
pub record Noted : Type 0 where
  pub notes : List Change
  pub levels : List (List Change)
  pub room : ℕ
  pub width : ℕ
  pub texts : ℕ

-- they are stored as the tuple of these
abbrev pub noted_code : Coded Noted
noted_code =
    code_by (List Change × (List (List Change) × (ℕ × (ℕ × ℕ))))
    (coded× (coded_list change.the_row.coded) (coded× (coded_list (coded_list change.the_row.coded)) (coded× coded_ℕ (coded× coded_ℕ coded_ℕ))))
    (λ n. (n.notes, (n.levels, (n.room, (n.width, n.texts)))))
    (λ p. record { notes = p.0; levels = p.1.0; room = p.1.1.0; width = p.1.1.1.0; texts = p.1.1.1.1 }) (λ _. refl)
