-- What a transaction that runs alone gives, behind replies that it had before.
use Rattle.std.proofs.Common.{List, ◌++◌}
use Rattle.hy_bound.specs.declared.Reply.{Reply}
use Rattle.hy_meaning.specs.Serial.{Alone}

-- these replies, and then what is given
abbrev pub behind : List Reply → Alone → Alone
behind replies given = record { replies = replies ++ given.replies; database = given.database; stop = given.stop }
