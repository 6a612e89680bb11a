-- A line that comes to a session of a world: it may come, the world stays one, and what was shown is shown in the setting with the line.
use Rattle.std.proofs.Common.{◌≡◌, ℕ, suc, ◌<◌, ◌≤◌, List, [], ◌∷◌, length, get_or, refl, ap, ◌∙◌, sym, subst, arith, Some, Result, Ok, Err}
use Rattle.std.proofs.Math.ListN.{set}
use Rattle.std.specs.Prelude.{slice_get, OnOk, OnErr}
use Rattle.std.proofs.lemmas.List.{length-append}
use Rattle.std.proofs.lemmas.Option.{same_Some, slice_get_read, slice_get_within}
use Rattle.hy_limits.specs.declared.TheConstants.{MOST_TXNS}
use Rattle.hy_value.specs.declared.Kind.{Kind}
use Rattle.hy_bound.specs.declared.Shape.{Shape}
use Rattle.hy_bound.specs.declared.Txn.{Txn}
use Rattle.hy_event.specs.declared.SessionData.{SessionData}
use Rattle.hy_event.specs.declared.lines.SessionLine.{SessionLine}
use Rattle.hy_event.specs.declared.lines.SessionLine.TheVariants.{Begin, Statement, Commit, Rollback}
use Rattle.hy_event.specs.Lines.{with_last, opened, with_statement, committing, grown, with_line}
use Rattle.hy_machine.specs.declared.Setting.{Setting}
use Rattle.hy_machine.specs.States.{State}
use Rattle.hy_growing.specs.Growing.{pushed}
use Rattle.hy_refinement.specs.Sessions.{SessionIs}
use Rattle.hy_stepping.specs.Pushed.{AwaitsLine, FitsLine, IsTypedLine, LinesAreShown, LinesAreTyped, AwaitedIsReady}
use Rattle.hy_world.specs.Lines.{Awaits, Grows, HasLine}
use Rattle.hy_world.specs.Worlds.{WorldData, ShowsState, parts_of}
use Rattle.hy_world.proofs.KeptWorlds.{Fields, Holds, world_of}
use Rattle.hy_world.proofs.Parts.{set_got}
use Rattle.hy_world.proofs.TableKinds.{kinds_are}

-- ---- the session of the line

-- it awaits the line, which fits and is of its table's types
pub record IsAwaiting (fields : Fields) (number : ℕ) (session : SessionData) (line : SessionLine) : Type 0 where
  pub found : slice_get fields.sessions number ≡ Some session
  pub awaits : AwaitsLine session line
  pub fits : FitsLine session.shapes session.program line
  pub typed : IsTypedLine (world_of fields).kinds session.shapes line

here : (fields : Fields) (world : WorldData) (number : ℕ) (line : SessionLine) → world_of fields ≡ world → Awaits world number line
    → Awaits (world_of fields) number line
here fields world number line view is = subst (λ (seen : WorldData). Awaits seen number line) (sym view) is

pub session_there : (fields : Fields) (world : WorldData) (number : ℕ) (line : SessionLine) → world_of fields ≡ world → Awaits world number line
    → number < length fields.sessions
session_there fields world number line view is =
    let at = here fields world number line view is in
    slice_get_within fields.sessions number at.session at.found

pub is_awaiting : (fields : Fields) (world : WorldData) (number : ℕ) (session : SessionData) (line : SessionLine) → world_of fields ≡ world
    → Awaits world number line → session ≡ get_or fields.sessions number session → IsAwaiting fields number session line
is_awaiting fields world number session line view is read =
    let at = here fields world number line view is in
    let found = slice_get_read fields.sessions (length fields.sessions) number session refl (session_there fields world number line view is) read in
    let same : at.session ≡ session = same_Some at.session session (sym at.found ∙ found) in
    record {
      found = found;
      awaits = subst (λ (one : SessionData). AwaitsLine one line) same at.awaits;
      fits = subst (λ (one : SessionData). FitsLine one.shapes one.program line) same at.fits;
      typed = subst (λ (one : SessionData). IsTypedLine (world_of fields).kinds one.shapes line) same at.typed;
    }

-- ---- room

last_length : {A : Type 0} (change : A → A) (xs : List A) → length (with_last change xs) ≡ length xs
last_length change [] = refl
last_length change (x ∷ []) = refl
last_length change (x ∷ y ∷ xs) = ap suc (last_length change (y ∷ xs))

room_for : (shapes : List Shape) (txns : List Txn) (line : SessionLine) → FitsLine shapes txns line → length txns ≤ MOST_TXNS
    → length (grown line txns) ≤ MOST_TXNS
room_for shapes txns (Begin read_only) fits few = omega (arith, length-append txns (opened read_only ∷ []), fits)
room_for shapes txns (Statement statement) fits few = omega (arith, last_length (with_statement statement) txns, few)
room_for shapes txns Commit fits few = omega (arith, last_length committing txns, few)
room_for shapes txns Rollback fits few = few

session_is : (fields : Fields) (number : ℕ) (session : SessionData) → (w : Holds fields) → slice_get fields.sessions number ≡ Some session
    → SessionIs w.setting number session
session_is fields number session w found = (w.shows.shown.shows.sessions_show.each number session found).session_is

-- the script has room for the line
pub has_room : (fields : Fields) (number : ℕ) (session : SessionData) (line : SessionLine) → Holds fields → IsAwaiting fields number session line
    → length (grown line session.program) ≤ MOST_TXNS
has_room fields number session line w at =
    let is = session_is fields number session w at.found in
    let below : number < length w.setting.programs =
    omega (arith, slice_get_within fields.sessions number session at.found, w.shows.shown.shows.sessions_show.count) in
    let few : length session.program ≤ MOST_TXNS =
    omega (arith, ap length is.program, (w.shows.shown.runnable.fits.sessions number [] below).few) in
    room_for session.shapes session.program line at.fits few

-- ---- what is shown

-- the world whose session this is
abbrev pub with_session : WorldData → ℕ → SessionData → WorldData
with_session world number after = record world { sessions = set world.sessions number after }

line_shown : AwaitedIsReady → LinesAreShown → (setting : Setting) (state : State) (world : WorldData) (number : ℕ) (session : SessionData) (line : SessionLine)
    → slice_get world.sessions number ≡ Some session → AwaitsLine session line → FitsLine session.shapes session.program line → ShowsState setting state world
    → ShowsState (pushed setting number line) state (with_session world number (with_line session line))
line_shown ready law setting state world number session line found awaits fits shows = record {
  tables = shows.tables;
  per_table = shows.per_table;
  shown = law setting state (parts_of world.chunks world.core) world.sessions number session line shows.shown found
      (ready.ready setting state (parts_of world.chunks world.core) world.sessions number session line shows.shown found awaits)
      (subst (λ (shapes : List Shape). FitsLine shapes session.program line) (shows.shown.shows.sessions_show.each number session found).session_is.shapes fits);
}

-- the fields whose session this is
abbrev pub session_put : Fields → ℕ → SessionData → Fields
session_put fields number after = record fields { sessions = set fields.sessions number after }

same_put : (fields : Fields) (number : ℕ) (session after : SessionData) → slice_get fields.sessions number ≡ Some session → after ≡ session
    → session_put fields number after ≡ fields
same_put fields number session after found same =
    ap (λ (sessions : List SessionData). record fields { sessions = sessions })
    (ap (set fields.sessions number) same ∙ set_got fields.sessions number session found)

grown_holds : AwaitedIsReady → LinesAreShown → LinesAreTyped → (fields : Fields) (number : ℕ) (session : SessionData) (line : SessionLine)
    → IsAwaiting fields number session line → Holds fields → Holds (session_put fields number (with_line session line))
grown_holds ready shown typed fields number session line at w = record {
  setting = pushed w.setting number line;
  kinds = w.kinds;
  state = w.state;
  shapes_are = w.shapes_are;
  typed = typed w.setting w.kinds number line w.typed
      (subst (λ (shapes : List Shape). IsTypedLine w.kinds shapes line) (session_is fields number session w at.found).shapes
      (subst (λ (kinds : List (List Kind)). IsTypedLine kinds session.shapes line)
      (kinds_are fields.shapes fields.tables fields.per_table fields.chunks fields.core fields.sessions w) at.typed));
  types = w.types;
  shows = line_shown ready shown w.setting w.state (world_of fields) number session line at.found at.awaits at.fits w.shows;
}

-- ---- after the line

-- the script is longer, or nothing changed
pub record HasGrown {T E : Type 0} (r : Result T E) (session after : SessionData) (line : SessionLine) : Type 0 where
  pub ok : OnOk r (after ≡ with_line session line)
  pub err : OnErr r (after ≡ session)

pub holds_still : {T E : Type 0} (r : Result T E) → AwaitedIsReady → LinesAreShown → LinesAreTyped → (fields : Fields) (number : ℕ)
    (session after : SessionData) (line : SessionLine) → IsAwaiting fields number session line → HasGrown r session after line → Holds fields
    → Holds (session_put fields number after)
holds_still (Ok x) ready shown typed fields number session after line at grows w =
    subst (λ (one : SessionData). Holds (session_put fields number one)) (sym grows.ok) (grown_holds ready shown typed fields number session line at w)
holds_still (Err e) ready shown typed fields number session after line at grows w =
    subst Holds (sym (same_put fields number session after at.found grows.err)) w

pub grows_shown : {T E : Type 0} (r : Result T E) → AwaitedIsReady → LinesAreShown → (fields : Fields) (number : ℕ) (session after : SessionData)
    (line : SessionLine) → IsAwaiting fields number session line → HasGrown r session after line
    → OnOk r (Grows number line (world_of fields) (world_of (session_put fields number after)))
grows_shown (Ok x) ready shown fields number session after line at grows = λ setting state shows.
    subst (λ (one : SessionData). ShowsState (pushed setting number line) state (world_of (session_put fields number one))) (sym grows.ok)
    (line_shown ready shown setting state (world_of fields) number session line at.found at.awaits at.fits shows)
grows_shown (Err e) ready shown fields number session after line at grows = tt

pub has_line : {T E : Type 0} (r : Result T E) (fields : Fields) (number : ℕ) (session after : SessionData) (line : SessionLine)
    → IsAwaiting fields number session line → HasGrown r session after line
    → OnOk r (HasLine number line (world_of fields) (world_of (session_put fields number after)))
has_line (Ok x) fields number session after line at grows = λ one found.
    let same : session ≡ one = same_Some session one (sym at.found ∙ found) in
    ap (λ (new : SessionData). world_of (session_put fields number new)) (grows.ok ∙ ap (λ (s : SessionData). with_line s line) same)
has_line (Err e) fields number session after line at grows = tt

pub stays_so : {T E : Type 0} (r : Result T E) (fields : Fields) (number : ℕ) (session after : SessionData) (line : SessionLine)
    → IsAwaiting fields number session line → HasGrown r session after line → OnErr r (world_of (session_put fields number after) ≡ world_of fields)
stays_so (Ok x) fields number session after line at grows = tt
stays_so (Err e) fields number session after line at grows = ap world_of (same_put fields number session after at.found grows.err)
