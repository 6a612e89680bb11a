-- Sessions that add to one counter: what they need, and whom they wait for.
use Rattle.std.proofs.Common.{◌≡◌, ℕ, ◌<◌, List, Option, None, Some, false, refl, ap, sym, arith}
use Rattle.std.specs.Option.{option_map}
use Rattle.std.proofs.lemmas.Option.{same_Some}
use Rattle.hy_threads.specs.declared.gate.Point.{Point}
use Rattle.hy_threads.specs.declared.gate.Moment.TheVariants.{Before}
use Rattle.hy_threads.specs.Laws.{NearFollows, EventKeeps}
use Rattle.hy_threads_tests.specs.declared.counting.Adder.{Adder}
use Rattle.hy_threads_tests.specs.declared.counting.Counter.{Counter}

-- the next visit of a session of this number, with so many turns left
abbrev pub visit_at : ℕ → ℕ → Point
visit_at number turns = record { session = number; txn = 1; statement = turns; part = 0; moment = Before; answered = false }

-- the next visit of a session, none at its end
abbrev pub point_of : Adder → Option Point
point_of session = option_map (visit_at session.number) session.turns

-- the only counter has the number 0
abbrev pub width_of : Adder → ℕ
width_of session = 1

-- it waits for the counter to come so far
abbrev pub HasToWait : Adder → Counter → Type 0
HasToWait session counter = counter.count < session.awaits

-- a share of its work is the share's number
abbrev pub IsNumbered : Adder → ℕ → ℕ → Type 0
IsNumbered session number share = share ≡ number

-- nothing is claimed of counters and sessions, and any change may be made
abbrev pub Anything : List Counter → List Adder → Type 0
Anything counters sessions = Unit {0}

abbrev pub AnyNear : ℕ → Adder → Counter → Type 0
AnyNear number session counter = Unit {0}

abbrev pub AnyChange : ℕ → Adder → Counter → Adder → Counter → Type 0
AnyChange number session counter after changed = Unit {0}

pub near_follows : NearFollows Anything AnyNear
near_follows parts sessions i k s p fact at_s at_p = tt

pub change_keeps : EventKeeps Anything AnyChange
change_keeps parts sessions i k s t p q fact at_s at_p change = tt

before_by : (number : ℕ) (turns : Option ℕ) (point : Point) → option_map (visit_at number) turns ≡ Some point → (point.moment ≡ Before) × (point.answered ≡ false)
before_by number None point e = absurd (cc e)
before_by number (Some turns) point e =
    let same = same_Some (visit_at number turns) point e in (ap (λ (p : Point). p.moment) (sym same), ap (λ (p : Point). p.answered) (sym same))

-- a visit that is needed has not begun
pub points_come_before : (session : Adder) (point : Point) → point_of session ≡ Some point → (point.moment ≡ Before) × (point.answered ≡ false)
points_come_before session point e = before_by session.number session.turns point e

part_by : (number : ℕ) (turns : Option ℕ) (point : Point) → option_map (visit_at number) turns ≡ Some point → point.part < 1
part_by number None point e = absurd (cc e)
part_by number (Some turns) point e = let same = ap (λ (p : Point). p.part) (sym (same_Some (visit_at number turns) point e)) in omega (arith, same)

-- it is of the only counter
pub points_lie_within : (session : Adder) (point : Point) → point_of session ≡ Some point → point.part < width_of session
points_lie_within session point e = part_by session.number session.turns point e

pub changes_keep_width : (number : ℕ) (session after : Adder) (old new : Counter) → AnyChange number session old after new → width_of after ≡ width_of session
changes_keep_width number session after old new change = refl
