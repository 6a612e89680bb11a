-- A session awaits a line exactly where the machine's is ready for it.
use Rattle.std.proofs.Common.{◌≡◌, ℕ, suc, List, length, Option, None, Some, refl, sym, ap, ◌∙◌, subst}
use Rattle.hy_bound.specs.declared.Reply.{Reply}
use Rattle.hy_bound.specs.declared.Txn.{Txn}
use Rattle.hy_journal.specs.declared.CoreData.{CoreData}
use Rattle.hy_event.specs.declared.SessionData.{SessionData}
use Rattle.hy_event.specs.declared.Open.{Open}
use Rattle.hy_protocol.specs.declared.Phase.{Phase}
use Rattle.hy_protocol.specs.declared.Phase.TheVariants.{Working}
use Rattle.hy_machine.specs.declared.Setting.{Setting}
use Rattle.hy_machine.specs.States.{State, Open as MachineOpen}
use Rattle.hy_machine.specs.Sessions.{session_at, program_of}
use Rattle.hy_event.specs.declared.lines.SessionLine.{SessionLine}
use Rattle.hy_event.specs.declared.lines.SessionLine.TheVariants.{Begin, Statement, Commit, Rollback}
use Rattle.hy_growing.specs.Growing.{IsAtEnd, IsWaiting, IsReady}
use Rattle.hy_refinement.specs.Sessions.{OpenShows, NowShows, SessionShows}
use Rattle.hy_stepping.specs.Pushed.{HasEnded, Waits, AwaitsLine, AwaitedIsReady}
use Rattle.hy_stepping.proofs.OpenOnes.{same_ended, same_txn}

module _ (setting : Setting) (state : State) (core : CoreData) (number : ℕ) (session : SessionData)
    (shows : SessionShows setting state core number session) where
  as_long : length session.program ≡ length (program_of setting number)
  as_long = ap (λ (txns : List Txn). length txns) shows.session_is.program

  none_there : (there : Option MachineOpen) → NowShows setting state core number None there → there ≡ None
  none_there None shown = refl
  none_there (Some current) shown = absurd shown

  none_here : (here : Option Open) → NowShows setting state core number here None → here ≡ None
  none_here None shown = refl
  none_here (Some now) shown = absurd shown

  some_there : (now : Open) (there : Option MachineOpen) → NowShows setting state core number (Some now) there
      → (current : MachineOpen) × (there ≡ Some current) × OpenShows setting state core number now current
  some_there now None shown = absurd shown
  some_there now (Some current) shown = (current, refl, shown)

  some_here : (current : MachineOpen) (here : Option Open) → NowShows setting state core number here (Some current)
      → (now : Open) × (here ≡ Some now) × OpenShows setting state core number now current
  some_here current None shown = absurd shown
  some_here current (Some now) shown = (now, refl, shown)

  end_there : HasEnded session → IsAtEnd setting state number
  end_there ended = record {
    closed = none_there (session_at state number).now
        (subst (λ (here : Option Open). NowShows setting state core number here (session_at state number).now) ended.closed shows.now_shows);
    all = sym (same_ended setting state core number session shows) ∙ (ended.all ∙ as_long);
  }

  end_here : IsAtEnd setting state number → HasEnded session
  end_here ended = record {
    closed = none_here session.now (subst (NowShows setting state core number session.now) ended.closed shows.now_shows);
    all = same_ended setting state core number session shows ∙ (ended.all ∙ sym as_long);
  }

  waits_there : Waits session → IsWaiting setting state number
  waits_there waits =
      let one = some_there waits.now (session_at state number).now
      (subst (λ (here : Option Open). NowShows setting state core number here (session_at state number).now) waits.open_now shows.now_shows) in
      let phase = sym one.2.open_shows.phase ∙ waits.works in
      record {
        begun = one.0.begun;
        visited = waits.visited;
        count = waits.count;
        txn = waits.txn;
        open_now = one.1 ∙ ap (λ (p : Phase). let current : MachineOpen = record { begun = one.0.begun; phase = p } in Some current) phase;
        last = ap suc (sym (same_ended setting state core number session shows)) ∙ (waits.last ∙ as_long);
        here = sym (same_txn setting state core number session shows) ∙ waits.here;
        answered = ap (λ (replies : List Reply). length replies) (sym one.2.open_shows.replies) ∙ waits.answered;
      }

  waits_here : IsWaiting setting state number → Waits session
  waits_here waits =
      let current : MachineOpen = record { begun = waits.begun; phase = Working waits.visited waits.count } in
      let one = some_here current session.now (subst (NowShows setting state core number session.now) waits.open_now shows.now_shows) in
      record {
        now = one.0;
        visited = waits.visited;
        count = waits.count;
        txn = waits.txn;
        open_now = one.1;
        works = one.2.open_shows.phase;
        last = ap suc (same_ended setting state core number session shows) ∙ (waits.last ∙ sym as_long);
        here = same_txn setting state core number session shows ∙ waits.here;
        answered = ap (λ (replies : List Reply). length replies) one.2.open_shows.replies ∙ waits.answered;
      }

  line_there : (line : SessionLine) → AwaitsLine session line → IsReady setting state number line
  line_there (Begin read_only) awaits = end_there awaits
  line_there (Statement statement) awaits = waits_there awaits
  line_there Commit awaits = waits_there awaits
  line_there Rollback awaits = waits_there awaits

  line_here : (line : SessionLine) → IsReady setting state number line → AwaitsLine session line
  line_here (Begin read_only) ready = end_here ready
  line_here (Statement statement) ready = waits_here ready
  line_here Commit ready = waits_here ready
  line_here Rollback ready = waits_here ready

pub awaited_ready : AwaitedIsReady
awaited_ready = record {
  ready = λ setting state parts sessions number session line shown found.
      line_there setting state shown.shows.core number session (shown.shows.sessions_show.each number session found) line;
  awaited = λ setting state parts sessions number session line shown found.
      line_here setting state shown.shows.core number session (shown.shows.sessions_show.each number session found) line;
}
