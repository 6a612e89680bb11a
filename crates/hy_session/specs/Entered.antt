-- When the open transaction of a session stands between its entry and its end: others wait for that end.
use Rattle.std.specs.Prelude.{Bool, false, Option, None, Some}
use Rattle.hy_event.specs.declared.SessionData.{SessionData}
use Rattle.hy_event.specs.declared.Open.{Open}
use Rattle.hy_protocol.specs.Turns.{is_stamping}

-- so of a transaction that may be open
abbrev pub entry_in : Option Open → Bool
entry_in None = false
entry_in (Some now) = is_stamping now.phase

-- whether the open transaction of a session has its entry
abbrev pub has_entry : SessionData → Bool
has_entry session = entry_in session.now
