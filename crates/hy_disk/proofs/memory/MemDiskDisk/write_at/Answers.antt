use Rattle.std.proofs.Common.{◌≡◌, ◌∙◌, ℕ, ◌+◌, ◌≤◌, ◌++◌, [], ◌∷◌, List, length, vec_capacity, ap, subst, sym, false, is_err, IsErr, Contains, arith}
use Rattle.hy_disk.specs.declared.memory.Event.{Event}
use Rattle.hy_disk.specs.declared.memory.Event.TheVariants.{Write}
use Rattle.hy_disk.specs.Memory.{MemoryDisk, wrote, moments}
use Rattle.hy_disk.specs.Replay.{history_of}
use Rattle.hy_disk.proofs.Crashes.{writes_to}
use Rattle.hy_disk.proofs.Replays.{moment_is, earlier_is, matches_written, one_is_left}
use Rattle.hy_disk.proofs.memory.MemDiskDisk.write_at.Goals as goal

-- the event that joins those that were
abbrev event : goal.After-self-1 → Event
event c = Write c.args.at c.in_ok-written.written

pushed : (c : goal.After-self-1) → c.push.new.self.items ≡ c.self.inside.events.items ++ event c ∷ []
pushed c = rw c.unwrap.ensures at c.push.ensures.items ∙ ap (λ (events : List Event). events ++ event c ∷ []) c.reserve.ensures.items

-- what the disk shows after the call
abbrev after : goal.After-self-1 → MemoryDisk
after c =
    let history = history_of c.self.inside.start.items c.push.new.self.items in
    record {
      present = history.present;
      earlier = history.earlier;
      failing = c.self.inside.fails.items;
      calls = c.self.inside.calls;
      faults = c.self.inside.faults;
    }

present_was : (c : goal.After-self-1) → (history_of c.self.inside.start.items c.self.inside.events.items).present ≡ c.args.self.now.present
present_was c = ap (λ (d : MemoryDisk). d.present) (c.self.view_is ∙ c.count_call.ensures.call)

present_is : (c : goal.After-self-1) → (after c).present ≡ wrote c.args.self.now.present c.args.at c.args.from.now
present_is c =
    moment_is c.self.inside.start.items c.self.inside.events.items _ (event c) (pushed c) c.args.self.now (present_was c)
    ∙ ap (λ (bytes : List ℕ). wrote c.args.self.now.present c.args.at bytes) c.in_ok-written.ensures.items

earlier_are : (c : goal.After-self-1) → (after c).earlier ≡ moments c.args.self.now
earlier_are c =
    earlier_is c.self.inside.start.items c.self.inside.events.items _ (event c) (pushed c) c.args.self.now (present_was c)
    (ap (λ (d : MemoryDisk). d.earlier) (c.self.view_is ∙ c.count_call.ensures.call))

pub invariant_of-self-2 : goal.invariant_of-self-2
invariant_of-self-2 c = (
  matches_written c.self.inside.start.items c.self.inside.events.items _ c.self.inside.bytes.items _ _ c.args.at c.in_ok-written.written c.args.from.now
      (pushed c) c.in_ok-written.ensures.items c.in_ok-overwrite.ensures.done c.self.invariant.0,
  λ _.
      let two : length c.self.inside.events.items + 2 ≤ vec_capacity c.push.new.self =
      omega (arith, c.in_ok-reserve.ensures.ok, c.push.ensures.capacity, ap length c.reserve.ensures.items) in
      one_is_left c.self.inside.events.items _ (event c) _ (pushed c) two,
  c.self.invariant.2,
)

pub returns-clause-done : goal.returns-clause-done
returns-clause-done c = (present_is c, earlier_are c)

pub returns-clause-fails : goal.returns-clause-fails
returns-clause-fails c = (
  λ is_failed. cc,
  λ stands.
      let failed : IsErr c.count_call.result =
      c.count_call.ensures.fails.1 (subst (Contains c.args.self.now.failing) (ap (λ (d : MemoryDisk). d.calls) c.self.view_is) stands) in
      let did_not : is_err c.count_call.result ≡ false = sym c.is_err.ensures.value ∙ c.if-is_err.false in
      cc,
)

pub returns-clause-writes : goal.returns-clause-writes
returns-clause-writes c = writes_to c.args.self.now (after c) c.args.at c.args.from.now (present_is c) (earlier_are c)
