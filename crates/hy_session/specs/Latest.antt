-- What a session tells of where it stands: the transaction that it has open, the latest reply, the latest end.
use Rattle.std.specs.Prelude.{ℕ, ◌-◌, List, Option, length, slice_get}
use Rattle.std.specs.Option.{option_and_then, option_map, option_map_or}
use Rattle.hy_bound.specs.declared.Ending.{Ending}
use Rattle.hy_bound.specs.declared.Reply.{Reply}
use Rattle.hy_render.specs.declared.TxnOutcome.{TxnOutcome}
use Rattle.hy_event.specs.declared.SessionData.{SessionData}
use Rattle.hy_event.specs.declared.Open.{Open}
use Rattle.hy_protocol.specs.declared.Phase.{Phase}

-- the last of a list, if it has any
abbrev pub last_of : {A : Type 0} → List A → Option A
last_of xs = slice_get xs (length xs - 1)

-- how many entries the journal had at the BEGIN of its open transaction, if it has one
abbrev pub open_prefix : SessionData → Option ℕ
open_prefix session = option_map (λ (now : Open). now.prefix) session.now

-- the reply to the latest statement of its open transaction, if any was answered
abbrev pub latest_reply : SessionData → Option Reply
latest_reply session = option_and_then (λ (now : Open). last_of now.replies) session.now

-- how its latest transaction ended, if any has
abbrev pub latest_ending : SessionData → Option Ending
latest_ending session = option_map (λ (done : TxnOutcome). done.ending) (last_of session.done)

-- where its open transaction stands, if it has one
abbrev pub phase_of : SessionData → Option Phase
phase_of session = option_map (λ (now : Open). now.phase) session.now

-- how many statements of its open transaction are answered; none where it has none
abbrev pub answered : SessionData → ℕ
answered session = option_map_or (λ (now : Open). length now.replies) session.now 0
