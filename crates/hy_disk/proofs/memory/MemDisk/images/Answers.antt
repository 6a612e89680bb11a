use Rattle.std.proofs.Common.{◌≡◌, ◌∙◌, ◌<◌, ◌≤◌, ◌++◌, [], ◌∷◌, ℕ, ◌+◌, List, length, get_or, take, ap, subst, sym, arith, length-take}
use Rattle.std.specs.List.{All}
use Rattle.std.proofs.lemmas.List.{take_more, take_all}
use Rattle.std.proofs.lemmas.List.Elements.{All-from_recursion}
use Rattle.hy_disk.specs.declared.memory.Event.{Event}
use Rattle.hy_disk.specs.Memory.{MemoryDisk, moments, IsLeftSince}
use Rattle.hy_disk.specs.Offered.{StandsAt, each_items, offered_since}
use Rattle.hy_disk.specs.Replay.{History, fresh, after_event, history_of}
use Rattle.hy_disk.proofs.Offers.{offered_more, offered_left}
use Rattle.hy_disk.proofs.Replays.{joins, length-after}
use Rattle.hy_disk.proofs.memory.MemDisk.images.Goals as goal

-- as many moments stand before as events were taken
count : (start : List ℕ) (events : List Event) (time : ℕ) → time ≤ length events → time ≡ length (history_of start (take time events)).earlier
count start events time le = omega (arith, le, length-after (fresh start) (take time events), length-take time events)

pub events-preserved : goal.events-preserved
events-preserved c =
    let start = c.self.inside.start.items in
    let events = c.self.inside.events.items in
    let history = history_of start (take c.events.time events) in
    let event : Event = c.event-item.result in
    let less : c.events.time < length events = subst (λ (es : List Event). c.events.time < length es) c.deref-event-items.ensures.value c.events-test.true in
    let is : event ≡ get_or events c.events.time event =
    c.event-item.is ∙ ap (λ (es : List Event). get_or es c.events.time event) c.deref-event-items.ensures.value in
    let pushed : take (c.events.time + 1) events ≡ take c.events.time events ++ event ∷ [] =
    take_more events c.events.time event less ∙ ap (λ (e : Event). take c.events.time events ++ e ∷ []) (sym is) in
    let goes_on : history_of start (take (c.events.time + 1) events) ≡ after_event history event =
    joins start (take c.events.time events) _ event pushed in record {
      stands =
          subst (λ (h : History). StandsAt h.present c.follow.new.self.bytes.items (each_items c.follow.new.self.ways.items) c.follow.new.self.left)
          (sym goes_on)
          (c.in_ok-follow.ensures history.present c.events.invariant.stands);
      offered =
          offered_more history.present history.earlier c.args.since c.events.time _ _ _ (count start events c.events.time (omega (arith, less)))
          c.events.invariant.offered c.events.invariant.stands.ways_are c.in_ok-offer.ensures
          ∙ sym (ap (λ (h : History). offered_since h.earlier c.args.since) goes_on);
    }

pub returns-clause-offered : goal.returns-clause-offered
returns-clause-offered c =
    let start = c.self.inside.start.items in
    let events = c.self.inside.events.items in
    let reached : length events ≤ c.events.time =
    subst (λ (es : List Event). length es ≤ c.events.time) c.deref-event-items.ensures.value c.events-test.false in
    let all : take c.events.time events ≡ events = take_all c.events.time events reached in
    let history = history_of start (take c.events.time events) in
    let before : c.len.result ≡ length history.earlier = omega (arith, c.len.ensures, length-after (fresh start) (take c.events.time events), ap length all) in
    offered_more history.present history.earlier c.args.since c.len.result _ _ _ before
    c.events.invariant.offered c.events.invariant.stands.ways_are c.in_ok-offer-2.ensures
    ∙ ap (λ (es : List Event). let h = history_of start es in offered_since (h.present ∷ h.earlier) c.args.since) all
    ∙ ap (λ (d : MemoryDisk). offered_since (moments d) c.args.since) c.self.view_is

pub returns-clause-left : goal.returns-clause-left
returns-clause-left c =
    let P : List ℕ → Type 0 = IsLeftSince c.args.self.now c.args.since in
    subst (All P) (sym (returns-clause-offered c)) (All-from_recursion P _ (offered_left (moments c.args.self.now) c.args.since))
