-- The clock of a state that is shown is far below the identifiers, and ranks are of 32 bits: only so many transactions of a script
-- begin.
use Rattle.std.proofs.Common.{◌+◌, ◌*◌, ◌^◌, ◌<◌, ◌≤◌, List, [], length, Option, None, Some, subst, arith}
use Rattle.std.specs.List.{All}
use Rattle.std.proofs.lemmas.List.{get_or_default}
use Rattle.std.proofs.lemmas.List.Sums.{sum_by-le}
use Rattle.hy_journal.specs.declared.CoreData.{CoreData}
use Rattle.hy_event.specs.declared.SessionData.{SessionData}
use Rattle.hy_machine.specs.declared.Setting.{Setting}
use Rattle.hy_machine.specs.States.{State, Session, Open as MachineOpen}
use Rattle.hy_machine.specs.Sessions.{fresh, session_at, program_of}
use Rattle.hy_machine.specs.Begun.{count_open, count_begun}
use Rattle.hy_machine.specs.Kept.{Kept}
use Rattle.hy_refinement.specs.Numbers.{CoreShows}
use Rattle.hy_stepping.specs.Runnable.{IsRunnable}

one_open : (now : Option MachineOpen) → count_open now ≤ 1
one_open None = omega arith
one_open (Some current) = omega arith

-- a session has begun at most the transactions that it may have, and one
few_begun : (setting : Setting) (state : State) → IsRunnable setting → Kept setting state
    → All (λ (session : Session). length session.done + count_open session.now ≤ 65536) state.sessions
few_begun setting state runnable kept k d below =
    subst (λ (session : Session). length session.done + count_open session.now ≤ 65536) (get_or_default state.sessions k fresh d below)
    (let within : length (session_at state k).done ≤ length (program_of setting k) = kept.fits.within k in
    let there : k < length setting.programs = omega (arith, below, kept.fits.count) in
    let few : length (program_of setting k) ≤ 65535 = (runnable.fits.sessions k [] there).few in
    let one = one_open (session_at state k).now in
    omega (arith, within, few, one))

few_begun_in_all : (setting : Setting) (state : State) → IsRunnable setting → Kept setting state → count_begun state ≤ 64 * 65536
few_begun_in_all setting state runnable kept =
    let sum = sum_by-le (λ (session : Session). length session.done + count_open session.now) 65536 state.sessions (few_begun setting state runnable kept) in
    let few : length setting.programs ≤ 64 = runnable.fits.few_sessions in
    let count = kept.fits.count in
    omega (arith, sum, few, count)

-- the clock has times left
pub clock_below : (setting : Setting) (state : State) (core : CoreData) (sessions : List SessionData) → IsRunnable setting → Kept setting state
    → CoreShows state core sessions → core.next < 2 ^ 63
clock_below setting state core sessions runnable kept shows =
    let next = shows.times_apart.next in
    let begun = few_begun_in_all setting state runnable kept in
    let few = kept.few in
    omega (arith, next, begun, few)

-- there are fewer entries than numbers of 32 bits
pub entries_below : (setting : Setting) (state : State) (core : CoreData) (sessions : List SessionData) → IsRunnable setting → Kept setting state
    → CoreShows state core sessions → length core.entries < 2 ^ 32
entries_below setting state core sessions runnable kept shows =
    let count = shows.entries_show.count in
    let begun = few_begun_in_all setting state runnable kept in
    let few = kept.few in
    omega (arith, count, begun, few)
