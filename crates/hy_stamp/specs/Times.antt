-- Labels of transactions and their identifiers.
use Rattle.std.specs.Prelude.{ℕ, ◌+◌, ◌*◌, ◌^◌, ◌<◌}
use Rattle.hy_stamp.specs.declared.Label.{Label}

-- a label that a script can have: at most 65,535 transactions of each of at most 2^32 sessions
pub record IsLabel (label : Label) : Type 0 where
  pub from_one : 0 < label.txn
  pub few : label.txn < 65536
  pub session : label.session < 2 ^ 32

-- the identifier of a label, above every time
abbrev pub id_of : Label → ℕ
id_of label = 2 ^ 63 + 65536 * label.session + label.txn
