-- What a world shows of a session is what the machine has of it: where it stands, and what is told of it.
use Rattle.std.proofs.Common.{◌≡◌, ℕ, zero, suc, ◌+◌, ◌*◌, ◌≤◌, List, [], ◌∷◌, ◌++◌, length, map, Option, None, Some, refl, ap, sym, ◌∙◌, subst, arith, inl, inr}
use Rattle.std.specs.Prelude.{is_none, option_and_then, slice_get}
use Rattle.std.specs.Option.{option_map}
use Rattle.std.proofs.lemmas.List.{get_or_past}
use Rattle.std.proofs.lemmas.Slice.Zip.{AllZip-long}
use Rattle.hy_bound.specs.Fits.{FitsRows}
use Rattle.hy_bound.specs.declared.Ending.{Ending}
use Rattle.hy_bound.specs.declared.Reply.{Reply}
use Rattle.hy_bound.specs.declared.Txn.{Txn}
use Rattle.hy_stamp.specs.declared.Label.{Label}
use Rattle.hy_event.specs.declared.Need.{Need}
use Rattle.hy_event.specs.declared.SessionData.{SessionData}
use Rattle.hy_event.specs.Needs.{need_of}
use Rattle.hy_event.specs.Sessions.{txn_at as txn_of}
use Rattle.hy_event.specs.Events.{Part, ChunkPart, CorePart}
use Rattle.hy_protocol.specs.declared.Phase.{Phase}
use Rattle.hy_machine.specs.declared.Setting.{Setting}
use Rattle.hy_machine.specs.States.{State, Session, Open, Finished}
use Rattle.hy_machine.specs.Sessions.{fresh, label_of, program_of, session_at, txn_at}
use Rattle.hy_machine.specs.Kept.{Kept}
use Rattle.hy_lawful.specs.Kept.{ReachedAreKept}
use Rattle.hy_session.specs.Latest.{answered, last_of, latest_ending, latest_reply, open_prefix, phase_of}
use Rattle.hy_stepping.specs.Standing.{SessionsStand, StandsAs, answered_in, part_at, phase_in, session_part}
use Rattle.hy_stepping.specs.Told.{SessionsTell}
use Rattle.hy_world.specs.Worlds.{WorldData, ShowsState, parts_of}
use Rattle.hy_trace.specs.declared.standing.At.{At}
use Rattle.hy_trace.specs.declared.standing.Work.{Work}
use Rattle.hy_trace.specs.Standing.{Told, at_of, session_work, told_of}
use Rattle.hy_trace.specs.Traced.{is_over_in, stands_by, stands_in, told_in}

-- ---- a session that is not there

past : {A : Type 0} (xs : List A) (i : ℕ) → slice_get xs i ≡ None → length xs ≤ i
past [] i e = omega arith
past (x ∷ xs) zero e = absurd (cc e)
past (x ∷ xs) (suc i) e = let most = past xs i e in omega (arith, most)

pub kept_in : ReachedAreKept → (setting : Setting) (state : State) (world : WorldData) → ShowsState setting state world → Kept setting state
kept_in law setting state world shows =
    law setting state (AllZip-long (FitsRows (setting.chunks * setting.rows)) setting.shapes setting.first shows.shown.runnable.fits.first_rows)
    shows.shown.reached

-- the machine has none either
pub record IsAway (setting : Setting) (state : State) (number : ℕ) : Type 0 where
  pub session : session_at state number ≡ fresh
  pub program : program_of setting number ≡ []

away : ReachedAreKept → (setting : Setting) (state : State) (world : WorldData) (number : ℕ) → ShowsState setting state world
    → slice_get world.sessions number ≡ None → IsAway setting state number
away law setting state world number shows none =
    let beyond = past world.sessions number none in
    let count = shows.shown.shows.sessions_show.count in
    let there = (kept_in law setting state world shows).fits.count in
    record {
      session = get_or_past state.sessions number fresh (omega (arith, beyond, count, there));
      program = get_or_past setting.programs number [] (omega (arith, beyond, count));
    }

-- ---- where a session stands

abbrev at_with : Label → Work → Need → At
at_with label work part = record { label = label; work = work; part = part }

abbrev label_with : ℕ → ℕ → Label
label_with session txn = record { session = session; txn = txn }

at_same : (label other : Label) (work another : Work) (part last : Need) → label ≡ other → work ≡ another → part ≡ last
    → at_with label work part ≡ at_with other another last
at_same label other work another part last l w p =
    ap (λ (one : Label). at_with one work part) l ∙ (ap (λ (one : Work). at_with other one part) w ∙ ap (λ (one : Need). at_with other another one) p)

work_same : (txn : Option Txn) (phase : Option Phase) (count : ℕ) (there : Option Txn) (stands : Option Phase) (many : ℕ)
    → txn ≡ there → phase ≡ stands → count ≡ many → session_work txn phase count ≡ session_work there stands many
work_same txn phase count there stands many t p c =
    ap (λ (one : Option Txn). session_work one phase count) t
    ∙ (ap (λ (one : Option Phase). session_work there one count) p ∙ ap (λ (one : ℕ). session_work there stands one) c)

stands_there : (setting : Setting) (state : State) (number : ℕ) (session : SessionData) → StandsAs setting state number session
    → stands_by number (Some session) ≡ at_of setting state number
stands_there setting state number session alike =
    let now : Option Open = (session_at state number).now in
    at_same (label_with session.number (suc (length session.done))) (label_of number (session_at state number))
    (session_work (slice_get session.program (length session.done)) (phase_of session) (answered session))
    (session_work (txn_at setting number (session_at state number)) (phase_in now) (answered_in now)) (need_of session) (part_at setting state number)
    (ap (λ (n : ℕ). label_with n (suc (length session.done))) alike.number_is ∙ ap (λ (n : ℕ). label_with number (suc n)) alike.ended)
    (work_same (slice_get session.program (length session.done)) (phase_of session) (answered session)
    (txn_at setting number (session_at state number)) (phase_in now) (answered_in now) alike.txn alike.phase alike.answers)
    alike.part

-- one that has done nothing, and has nothing to do
nothing_at : (setting : Setting) (number : ℕ) (session : Session) (program : List Txn) → session ≡ fresh → program ≡ []
    → stands_by number None ≡ at_with (label_of number session)
    (session_work (slice_get program (length session.done)) (phase_in session.now) (answered_in session.now))
    (session_part setting (slice_get program (length session.done)) session.now)
nothing_at setting number session program s p =
    let P : Session → List Txn → Type 0 = λ one txns. stands_by number None ≡ at_with (label_of number one)
    (session_work (slice_get txns (length one.done)) (phase_in one.now) (answered_in one.now))
    (session_part setting (slice_get txns (length one.done)) one.now) in
    subst (λ (txns : List Txn). P session txns) (sym p) (subst (λ (one : Session). P one []) (sym s) refl)

pub stands_shown : SessionsStand → ReachedAreKept → (setting : Setting) (state : State) (world : WorldData) (number : ℕ)
    → ShowsState setting state world → stands_in world number ≡ at_of setting state number
stands_shown law kept setting state world number shows = by (slice_get world.sessions number) refl
  where
    by : (found : Option SessionData) → slice_get world.sessions number ≡ found → stands_by number found ≡ at_of setting state number
    by None e =
        let none = away kept setting state world number shows e in
        nothing_at setting number (session_at state number) (program_of setting number) none.session none.program
    by (Some session) e =
        stands_there setting state number session
        (law.sessions setting state (parts_of world.chunks world.core) world.sessions number session shows.shown e)

-- ---- whether it is at the end of its script

pub over_shown : SessionsStand → ReachedAreKept → (setting : Setting) (state : State) (world : WorldData) (number : ℕ)
    → ShowsState setting state world → is_over_in world number ≡ is_none (txn_at setting number (session_at state number))
over_shown law kept setting state world number shows = by (slice_get world.sessions number) refl
  where
    nothing : (program : List Txn) (n : ℕ) → program ≡ [] → None ≡ slice_get program n
    nothing program n e = sym (ap (λ (txns : List Txn). slice_get txns n) e)

    by : (found : Option SessionData) → slice_get world.sessions number ≡ found
        → is_none (option_and_then txn_of found) ≡ is_none (txn_at setting number (session_at state number))
    by None e =
        let none = away kept setting state world number shows e in
        ap (λ (txn : Option Txn). is_none txn) (nothing (program_of setting number) (length (session_at state number).done) none.program)
    by (Some session) e =
        let alike = law.sessions setting state (parts_of world.chunks world.core) world.sessions number session shows.shown e in
        ap (λ (txn : Option Txn). is_none txn) alike.txn

-- ---- what is told of it

-- the core is the last of the parts
last_part : (chunks : List Part) (last : Part) (n : ℕ) → length (chunks ++ last ∷ []) ≡ suc n → slice_get (chunks ++ last ∷ []) n ≡ Some last
last_part [] last zero e = refl
last_part [] last (suc n) e = absurd (omega (arith, e))
last_part (chunk ∷ chunks) last zero e = absurd (no_room chunks e)
  where
    no_room : (others : List Part) → suc (length (others ++ last ∷ [])) ≡ 1 → ⊥
    no_room [] e = omega (arith, e)
    no_room (other ∷ others) e = omega (arith, e)
last_part (chunk ∷ chunks) last (suc n) e = last_part chunks last n (omega (arith, e))

entries_shown : SessionsStand → (setting : Setting) (state : State) (world : WorldData) → ShowsState setting state world
    → length world.core.entries ≡ length state.order
entries_shown law setting state world shows =
    law.entries setting state (parts_of world.chunks world.core) world.sessions world.core shows.shown
    (last_part (map ChunkPart world.chunks) (CorePart world.core) (length setting.shapes * setting.chunks) shows.shown.shows.parts_are.count)

abbrev told_with : Option ℕ → Option Reply → Option Phase → Option Ending → ℕ → Told
told_with prefix reply phase ending entries = record { prefix = prefix; reply = reply; phase = phase; ending = ending; entries = entries }

told_same : (prefix a : Option ℕ) (reply b : Option Reply) (phase c : Option Phase) (ending d : Option Ending) (entries e : ℕ)
    → prefix ≡ a → reply ≡ b → phase ≡ c → ending ≡ d → entries ≡ e → told_with prefix reply phase ending entries ≡ told_with a b c d e
told_same prefix a reply b phase c ending d entries e p r s f n =
    ap (λ (x : Option ℕ). told_with x reply phase ending entries) p ∙ (ap (λ (x : Option Reply). told_with a x phase ending entries) r
    ∙ (ap (λ (x : Option Phase). told_with a b x ending entries) s
    ∙ (ap (λ (x : Option Ending). told_with a b c x entries) f ∙ ap (λ (x : ℕ). told_with a b c d x) n)))

-- what is told of a session that was looked up, and of one of the machine
abbrev found_told : Option SessionData → ℕ → Told
found_told found entries =
    told_with (option_and_then open_prefix found) (option_and_then latest_reply found) (option_and_then phase_of found)
    (option_and_then latest_ending found) entries

abbrev session_told : Session → ℕ → Told
session_told session entries =
    told_with (option_map (λ (current : Open). current.begun.prefix) session.now)
    (option_and_then (λ (current : Open). last_of current.begun.replies) session.now) (phase_in session.now)
    (option_map (λ (finished : Finished). finished.ending) (last_of session.done)) entries

nothing_told : (session : Session) (entries there : ℕ) → session ≡ fresh → entries ≡ there → found_told None entries ≡ session_told session there
nothing_told session entries there s n =
    subst (λ (one : Session). found_told None entries ≡ session_told one there) (sym s) (ap (λ (x : ℕ). found_told None x) n)

pub told_shown : SessionsStand → SessionsTell → ReachedAreKept → (setting : Setting) (state : State) (world : WorldData) (number : ℕ)
    → ShowsState setting state world → told_in world number ≡ told_of state number
told_shown stand tell kept setting state world number shows = by (slice_get world.sessions number) refl
  where
    parts : List Part
    parts = parts_of world.chunks world.core

    count : length world.core.entries ≡ length state.order
    count = entries_shown stand setting state world shows

    by : (found : Option SessionData) → slice_get world.sessions number ≡ found
        → found_told found (length world.core.entries) ≡ session_told (session_at state number) (length state.order)
    by None e =
        nothing_told (session_at state number) (length world.core.entries) (length state.order)
        (away kept setting state world number shows e).session count
    by (Some session) e =
        let alike = stand.sessions setting state parts world.sessions number session shows.shown e in
        let tells = tell setting state parts world.sessions number session shows.shown e in
        let there : Session = session_at state number in
        told_same (open_prefix session) (option_map (λ (current : Open). current.begun.prefix) there.now)
        (latest_reply session) (option_and_then (λ (current : Open). last_of current.begun.replies) there.now)
        (phase_of session) (phase_in there.now) (latest_ending session) (option_map (λ (finished : Finished). finished.ending) (last_of there.done))
        (length world.core.entries) (length state.order) tells.prefix tells.reply alike.phase tells.ending count
