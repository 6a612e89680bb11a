-- The starts of the open transactions.
use Rattle.std.specs.Prelude.{ℕ, List, [], ◌∷◌, ◌<◌, ◌==◌, refl, if◌then◌else◌}
use Rattle.std.specs.List.{AllByRecursion}
use Rattle.std.specs.Coded.{Coded, code_by, coded×, coded_list, coded_ℕ}

-- the open starts, and for how many more there is room
pub record OpenStarts : Type 0 where
  pub starts : List ℕ
  pub room : ℕ

-- they are stored as the pair of these
abbrev pub open_starts_code : Coded OpenStarts
open_starts_code =
    code_by (List ℕ × ℕ) (coded× (coded_list coded_ℕ) coded_ℕ)
    (λ a. (a.starts, a.room)) (λ p. record { starts = p.0; room = p.1 }) (λ _. refl)

-- each is below all behind it
abbrev pub Rise : List ℕ → Type 0
Rise [] = Unit {0}
Rise (start ∷ starts) = AllByRecursion (λ later. start < later) starts × Rise starts

-- the starts without this one
abbrev pub without : ℕ → List ℕ → List ℕ
without start [] = []
without start (first ∷ starts) = if first == start then starts else first ∷ without start starts
