use Rattle.std.proofs.Common.{◌≡◌, ◌∙◌, ◌++◌, [], ◌∷◌, ap, sym}
use Rattle.hy_disk.specs.declared.memory.Event.TheVariants.{Sync}
use Rattle.hy_disk.specs.Memory.{MemoryDisk, synced, moments}
use Rattle.hy_disk.specs.Replay.{history_of}
use Rattle.hy_disk.proofs.Crashes.{held_after_sync, durable_after_sync, syncs_to, durable_if_none}
use Rattle.hy_disk.proofs.Replays.{moment_is, earlier_is, matches_synced}
use Rattle.hy_disk.proofs.memory.MemDiskDisk.sync.Goals as goal

pushed : (c : goal.After-self-1) → c.push.new.self.items ≡ c.self.inside.events.items ++ Sync ∷ []
pushed c = rw c.unwrap.ensures at c.push.ensures.items

present_is : (c : goal.After-self-1) → (history_of c.self.inside.start.items c.push.new.self.items).present ≡ synced c.args.self.now.present
present_is c =
    moment_is c.self.inside.start.items c.self.inside.events.items _ Sync (pushed c) c.args.self.now
    (ap (λ (d : MemoryDisk). d.present) (c.self.view_is ∙ c.count_call.ensures.call))

earlier_are : (c : goal.After-self-1) → (history_of c.self.inside.start.items c.push.new.self.items).earlier ≡ moments c.args.self.now
earlier_are c =
    earlier_is c.self.inside.start.items c.self.inside.events.items _ Sync (pushed c) c.args.self.now
    (ap (λ (d : MemoryDisk). d.present) (c.self.view_is ∙ c.count_call.ensures.call))
    (ap (λ (d : MemoryDisk). d.earlier) (c.self.view_is ∙ c.count_call.ensures.call))

-- what the disk shows after the call
abbrev after : goal.After-self-1 → MemoryDisk
after c =
    let history = history_of c.self.inside.start.items c.push.new.self.items in
    record {
      present = history.present;
      earlier = history.earlier;
      failing = c.self.inside.fails.items;
      calls = c.self.inside.calls;
      faults = c.self.inside.faults;
    }

pub invariant_of-self : goal.invariant_of-self
invariant_of-self c = (
  matches_synced c.self.inside.start.items c.self.inside.events.items _ c.self.inside.bytes.items _ (pushed c) c.self.invariant.0,
  λ no. cc,
  c.self.invariant.2,
)

pub returns-then-self-clause-done : goal.returns-then-self-clause-done
returns-then-self-clause-done c = λ _. (present_is c, earlier_are c)

pub returns-then-self-clause-durable : goal.returns-then-self-clause-durable
returns-then-self-clause-durable c = durable_after_sync c.args.self.now (after c) (present_is c) (earlier_are c)

pub returns-then-self-clause-held : goal.returns-then-self-clause-held
returns-then-self-clause-held c = held_after_sync c.args.self.now (after c) (present_is c) (earlier_are c)

pub returns-then-self-clause-syncs : goal.returns-then-self-clause-syncs
returns-then-self-clause-syncs c = syncs_to c.args.self.now (after c) (present_is c) (earlier_are c)

pub returns-else-self-clause-durable : goal.returns-else-self-clause-durable
returns-else-self-clause-durable c =
    durable_if_none c.count_call.new.self
    (sym (ap (λ (d : MemoryDisk). d.present.pending) c.self.view_is) ∙ c.self.invariant.0.unmarked c.if-self.false)
