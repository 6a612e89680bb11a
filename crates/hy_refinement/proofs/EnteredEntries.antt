-- The entry of a commit has at every position what its transaction noted.
use Rattle.std.proofs.Common.{◌≡◌, ℕ, zero, suc, ◌+◌, List, [], ◌∷◌, get_or, Option, None, refl, ap, ◌∙◌, arith}
use Rattle.hy_machine.specs.Positions.{item_at}
use Rattle.hy_machine.specs.Tables.{Cell, Tables, Own}
use Rattle.hy_machine.specs.Sessions.{pair_of, pairs_from, entry_cells}

pairs_at : (before : ℕ → Cell) (first : ℕ) (owns : List (Option Cell)) (k : ℕ)
    → get_or (pairs_from before first owns) k None ≡ pair_of (before (first + k)) (get_or owns k None)
pairs_at before first [] k = refl
pairs_at before first (own ∷ owns) zero = ap (λ (n : ℕ). pair_of (before n) own) (let e : first ≡ first + zero = omega arith in e)
pairs_at before first (own ∷ owns) (suc k) =
    pairs_at before (suc first) owns k
    ∙ ap (λ (n : ℕ). pair_of (before n) (get_or owns k None)) (let e : suc first + k ≡ first + suc k = omega arith in e)

cells_at : (tables : Tables) (first : ℕ) (own : Own) (table pos : ℕ)
    → item_at (entry_cells tables first own) table pos ≡ pair_of (item_at tables (first + table) pos) (item_at own table pos)
cells_at tables first [] table pos = refl
cells_at tables first (cells ∷ own) zero pos =
    pairs_at (item_at tables first) 0 cells pos
    ∙ (ap (λ (n : ℕ). pair_of (item_at tables first n) (get_or cells pos None)) (let e : 0 + pos ≡ pos = omega arith in e)
    ∙ ap (λ (n : ℕ). pair_of (item_at tables n pos) (get_or cells pos None)) (let e : first ≡ first + zero = omega arith in e))
cells_at tables first (cells ∷ own) (suc table) pos =
    cells_at tables (suc first) own table pos
    ∙ ap (λ (n : ℕ). pair_of (item_at tables n pos) (item_at own table pos)) (let e : suc first + table ≡ first + suc table = omega arith in e)

pub entry_at : (tables : Tables) (own : Own) (table pos : ℕ)
    → item_at (entry_cells tables 0 own) table pos ≡ pair_of (item_at tables table pos) (item_at own table pos)
entry_at tables own table pos =
    cells_at tables 0 own table pos
    ∙ ap (λ (n : ℕ). pair_of (item_at tables n pos) (item_at own table pos)) (let e : 0 + table ≡ table = omega arith in e)
