-- When a schedule fits the sessions of its script.
use Rattle.std.specs.Prelude.{ℕ, ◌<◌, ◌≤◌, List, length}
use Rattle.std.specs.List.{All}
use Rattle.hy_limits.specs.declared.TheConstants.{MOST_ITEMS}
use Rattle.hy_bound.specs.declared.schedule.Item.{Item}

-- a schedule has at most so many items, each of one of these many sessions
pub record FitsSchedule (sessions : ℕ) (schedule : List Item) : Type 0 where
  pub few : length schedule ≤ MOST_ITEMS
  pub known : All (λ (item : Item). item.session < sessions) schedule
