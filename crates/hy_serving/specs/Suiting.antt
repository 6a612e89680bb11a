-- What a line says suits the transaction that is open there.
use Rattle.std.specs.Prelude.{◌≡◌, ℕ, List, Some}
use Rattle.hy_bound.specs.declared.Bound.{Bound}
use Rattle.hy_script.specs.declared.judging.Standing.{Standing}
use Rattle.hy_script.specs.Suiting.{Suits}
use Rattle.hy_serving.specs.declared.Desk.{Desk}
use Rattle.hy_serving.specs.declared.Saying.{Saying}
use Rattle.hy_serving.specs.declared.Saying.TheVariants.{Says}
use Rattle.hy_serving.specs.Saying.{place_at}

-- a statement suits the open transaction of the session of a number
pub record SuitsSession (line : List ℕ) (desk : Desk) (number : ℕ) (bound : Bound) : Type 0 where
  pub standing : Standing
  pub there : (place_at desk number).standing ≡ Some standing
  pub suits : Suits line desk.sofar.catalog standing bound

-- so does the statement that a line says
abbrev pub SuitsDesk : List ℕ → Desk → Saying → Type 0
SuitsDesk line desk (Says number bound) = SuitsSession line desk number bound
SuitsDesk line desk _ = Unit {0}
