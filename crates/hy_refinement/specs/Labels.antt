-- The labels of open transactions: within the numbers by which identifiers differ.
use Rattle.std.specs.Prelude.{List}
use Rattle.hy_stamp.specs.Times.{IsLabel}
use Rattle.hy_event.specs.declared.SessionData.{SessionData}
use Rattle.hy_event.specs.Sessions.{label_of}
use Rattle.hy_machine.specs.States.{State}
use Rattle.hy_refinement.specs.Transactions.{OfOpen}

-- every open transaction has a label whose identifier no other label has
abbrev pub HaveLabels : State → List SessionData → Type 0
HaveLabels state sessions = OfOpen state sessions (λ number session now current. IsLabel (label_of session))
