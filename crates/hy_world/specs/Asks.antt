-- Which part the session of a number needs next, and whether its open transaction has its entry.
use Rattle.std.specs.Prelude.{ℕ, List, Bool, false, Option, None, Some, slice_get}
use Rattle.hy_event.specs.declared.SessionData.{SessionData}
use Rattle.hy_event.specs.declared.Need.{Need}
use Rattle.hy_event.specs.declared.Need.TheVariants.{Done}
use Rattle.hy_event.specs.Needs.{need_of}
use Rattle.hy_session.specs.Entered.{has_entry}

-- one that is not there needs nothing
abbrev pub need_in : Option SessionData → Need
need_in None = Done
need_in (Some session) = need_of session

abbrev pub need_at : List SessionData → ℕ → Need
need_at sessions number = need_in (slice_get sessions number)

-- one that is not there has none
abbrev pub entry_in : Option SessionData → Bool
entry_in None = false
entry_in (Some session) = has_entry session

abbrev pub has_entry_at : List SessionData → ℕ → Bool
has_entry_at sessions number = entry_in (slice_get sessions number)
