-- The next visit of a session as a gate is told of it, and what a visit comes to.
use Rattle.std.proofs.Common.{◌≡◌, ℕ, ◌<◌, Option, None, Some, Bool, true, false, refl, ap, sym, subst, arith}
use Rattle.std.specs.Prelude.{nat_lt, if◌then◌else◌}
use Rattle.std.specs.Option.{option_map}
use Rattle.std.proofs.lemmas.Bool.{ltb-true}
use Rattle.std.proofs.lemmas.Option.{same_Some}
use Rattle.hy_event.specs.declared.SessionData.{SessionData}
use Rattle.hy_protocol.specs.declared.Progress.{Progress}
use Rattle.hy_protocol.specs.declared.Progress.TheVariants as progress
use Rattle.hy_event.specs.Events.{part_number}
use Rattle.hy_event.specs.Needs.{need_of}
use Rattle.hy_session.specs.Standing.{standing_of, needed_number, number_within, width_of}
use Rattle.hy_threads.specs.declared.gate.Point.{Point}
use Rattle.hy_threads.specs.declared.gate.Moment.TheVariants.{Before}
use Rattle.hy_threads.specs.declared.worked.Visited.{Visited}
use Rattle.hy_threads.specs.declared.worked.Visited.TheVariants.{Moved, Answered, Blocked}
use Rattle.hy_world.specs.Shared.{SharedData, IsVisit}

-- a visit of a part by a session that stands here in its script, before the part is taken
abbrev pub visit_at : SessionData → ℕ → Point
visit_at session part = record {
  session = (standing_of session).session;
  txn = (standing_of session).txn;
  statement = (standing_of session).statement;
  part = part;
  moment = Before;
  answered = false;
}

-- the next visit of a session, none at the end of its script
abbrev pub point_of : SessionData → Option Point
point_of session = option_map (visit_at session) (needed_number session)

-- what a visit came to, as a gate is told
abbrev pub visited_of : Progress → Visited
visited_of progress.Moved = Moved
visited_of progress.Ended = Moved
visited_of progress.Answered = Answered
visited_of (progress.Blocked by) = Blocked

-- ---- the laws of points

before_by : (session : SessionData) (found : Option ℕ) (point : Point) → option_map (visit_at session) found ≡ Some point
    → (point.moment ≡ Before) × (point.answered ≡ false)
before_by session None point e = absurd (cc e)
before_by session (Some number) point e = let same = same_Some (visit_at session number) point e in (ap (λ (p : Point). p.moment) (sym same), ap (λ (p : Point). p.answered) (sym same))

-- a visit that is needed has not begun
pub points_come_before : (session : SessionData) (point : Point) → point_of session ≡ Some point → (point.moment ≡ Before) × (point.answered ≡ false)
points_come_before session point e = before_by session (needed_number session) point e

within_by : (count number found : ℕ) (is_less : Bool) → nat_lt number count ≡ is_less → (if is_less then Some number else None) ≡ Some found → found < count
within_by count number found true h e = let same = same_Some number found e in let less = ltb-true number count h in omega (arith, same, less)
within_by count number found false h e = absurd (cc e)

number_below : (count : ℕ) (given : Option ℕ) (found : ℕ) → number_within count given ≡ Some found → found < count
number_below count None found e = absurd (cc e)
number_below count (Some number) found e = within_by count number found (nat_lt number count) refl e

part_below : (session : SessionData) (count : ℕ) (given found : Option ℕ) (point : Point) → number_within count given ≡ found
    → option_map (visit_at session) found ≡ Some point → point.part < count
part_below session count given None point h e = absurd (cc e)
part_below session count given (Some number) point h e =
    let same = same_Some (visit_at session number) point e in
    subst (λ (n : ℕ). n < count) (ap (λ (p : Point). p.part) same) (number_below count given number h)

-- its part is one of the parts
pub points_lie_within : (session : SessionData) (point : Point) → point_of session ≡ Some point → point.part < width_of session
points_lie_within session point e =
    part_below session (width_of session) (part_number session (need_of session)) (needed_number session) point refl e

-- and a visit leaves how many there are
pub visits_keep_width : (number : ℕ) (session after : SessionData) (old new : SharedData) → IsVisit number session old after new
    → width_of after ≡ width_of session
visits_keep_width number session after old new visit = rw (visit.layout.shapes, visit.layout.chunks) refl
