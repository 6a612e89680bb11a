-- A line that a session takes: the world awaits it, and what the session is told of its turn is what the service tells.
use Rattle.std.specs.Prelude.{slice_get, slice_index_or, is_some}
use Rattle.std.specs.Option.{option_and_then, option_map, option_map_or}
use Rattle.std.proofs.Common.{◌≡◌, ℕ, zero, suc, ◌<◌, Bool, true, false, cond, List, [], ◌∷◌, Option, None, Some, length, refl, sym, ap, ◌∙◌, subst, arith, length-set}
use Rattle.hy_limits.specs.declared.TheConstants.{MOST_SESSIONS}
use Rattle.hy_value.specs.declared.Kind.{Kind}
use Rattle.hy_bound.specs.declared.Ending.{Ending}
use Rattle.hy_bound.specs.declared.Reply.{Reply}
use Rattle.hy_bound.specs.declared.Shape.{Shape}
use Rattle.hy_bound.specs.declared.Txn.{Txn}
use Rattle.hy_event.specs.declared.SessionData.{SessionData}
use Rattle.hy_event.specs.declared.Open.{Open as Seen}
use Rattle.hy_event.specs.declared.lines.SessionLine.{SessionLine}
use Rattle.hy_event.specs.Lines.{grown}
use Rattle.hy_growing.specs.Growing.{pushed}
use Rattle.hy_machine.specs.declared.Setting.{Setting}
use Rattle.hy_machine.specs.States.{State, Session, Open, Finished}
use Rattle.hy_machine.specs.Sessions.{program_of, session_at}
use Rattle.hy_machine.specs.Runs.{whole_of}
use Rattle.hy_render.specs.declared.Names.{Names}
use Rattle.hy_script.specs.declared.Options.{Options}
use Rattle.hy_serving.specs.declared.Desk.{Desk}
use Rattle.hy_serving.specs.Answers.{fronted, prefix}
use Rattle.hy_serving.specs.Saying.{ended, without_rows}
use Rattle.hy_session.specs.Latest.{last_of, latest_ending, latest_reply, open_prefix}
use Rattle.hy_setting.specs.Kinds.{catalog_kinds}
use Rattle.hy_stepping.specs.Pushed.{AwaitedIsReady, FitsLine, IsTypedLine}
use Rattle.hy_stepping.specs.Told.{SessionsTell}
use Rattle.hy_world.specs.Lines.{Awaits, is_open_at, open_prefix_at, latest_reply_at, latest_ending_at}
use Rattle.hy_world.specs.Worlds.{WorldData, ShowsState, parts_of}
use Rattle.hy_service.specs.Knowing.{HasAnswered, KnowsBy, KnowsSessions, ServerData, Takes, told_of}
use Rattle.hy_service.specs.Service.{Service, after_turn, is_begin, names_of, setting_of, settled, taken, told_at, told_by, told_in}
use Rattle.hy_service.specs.Sound.{CanTake}

-- ---- a session of a world

-- it is there
found_at : {A : Type 0} (xs : List A) (i : ℕ) → i < length xs → (x : A) × (slice_get xs i ≡ Some x)
found_at [] i within = absurd (omega (arith, within))
found_at (x ∷ xs) zero within = (x, refl)
found_at (x ∷ xs) (suc i) within = found_at xs i (omega (arith, within))

pub session_there : (setting : Setting) (state : State) (world : WorldData) (number : ℕ) → ShowsState setting state world → number < length setting.programs
    → (session : SessionData) × (slice_get world.sessions number ≡ Some session)
session_there setting state world number shows within =
    found_at world.sessions number (omega (arith, shows.shown.shows.sessions_show.count, within))

-- ---- the line may come

pub awaits_there : AwaitedIsReady → (options : Options) (service : Service) (number : ℕ) (line : SessionLine) (desk : Desk) (names : Names) (world : WorldData)
    → CanTake options service number line → KnowsSessions options service desk names world → Awaits world number line
awaits_there law options service number line desk names world can knows =
    let setting : Setting = setting_of options service in
    let there = session_there setting service.state world number knows.shows (omega (arith, can.all, can.within)) in
    let session : SessionData = there.0 in
    let is = (knows.shows.shown.shows.sessions_show.each number session there.1).session_is in
    record {
      session = session;
      found = there.1;
      awaits = law.awaited setting service.state (parts_of world.chunks world.core) world.sessions number session line knows.shows.shown there.1 can.ready;
      fits = subst (λ (shapes : List Shape). FitsLine shapes session.program line) (sym is.shapes)
          (subst (λ (txns : List Txn). FitsLine setting.shapes txns line) (sym is.program) can.fits);
      typed = subst (λ (shapes : List Shape). IsTypedLine world.kinds shapes line) (sym is.shapes)
          (subst (λ (kinds : List (List Kind)). IsTypedLine kinds setting.shapes line) (sym knows.kinds) can.typed_line);
    }

-- ---- what a session tells

-- what a world tells of a session is what the machine's tells
pub record TellsOf (sessions : List SessionData) (number : ℕ) (session : Session) : Type 0 where
  pub open_there : is_open_at sessions number ≡ is_some session.now
  pub prefix : open_prefix_at sessions number ≡ option_map (λ (current : Open). current.begun.prefix) session.now
  pub reply : latest_reply_at sessions number ≡ option_and_then (λ (current : Open). last_of current.begun.replies) session.now
  pub ending : latest_ending_at sessions number ≡ option_map (λ (finished : Finished). finished.ending) (last_of session.done)

some_of : {A B : Type 0} (f : A → B) (x : Option A) → is_some (option_map f x) ≡ is_some x
some_of f None = refl
some_of f (Some x) = refl

some_same : {A C B : Type 0} (f : A → B) (g : C → B) (x : Option A) (y : Option C) → option_map f x ≡ option_map g y → is_some x ≡ is_some y
some_same f g x y same = sym (some_of f x) ∙ ap is_some same ∙ some_of g y

pub tells_of : SessionsTell → (setting : Setting) (state : State) (world : WorldData) (number : ℕ) → ShowsState setting state world
    → number < length setting.programs → TellsOf world.sessions number (session_at state number)
tells_of law setting state world number shows within =
    let there = session_there setting state world number shows within in
    let session : SessionData = there.0 in
    let now : Option Open = (session_at state number).now in
    let tells = law setting state (parts_of world.chunks world.core) world.sessions number session shows.shown there.1 in
    record {
      open_there = ap (λ (found : Option SessionData). option_map_or (λ (one : SessionData). is_some one.now) found false) there.1
          ∙ some_same (λ (one : Seen). one.prefix) (λ (current : Open). current.begun.prefix) session.now now tells.prefix;
      prefix = ap (λ (found : Option SessionData). option_and_then open_prefix found) there.1 ∙ tells.prefix;
      reply = ap (λ (found : Option SessionData). option_and_then latest_reply found) there.1 ∙ tells.reply;
      ending = ap (λ (found : Option SessionData). option_and_then latest_ending found) there.1 ∙ tells.ending;
    }

-- so it is told the same
told_same : (names : Names) (begins : Bool) (sessions : List SessionData) (number : ℕ) (session : Session) → TellsOf sessions number session
    → told_by names begins (open_prefix_at sessions number) (latest_reply_at sessions number) (latest_ending_at sessions number)
    ≡ told_in names begins session
told_same names begins sessions number session tells =
    ap (λ (prefix : Option ℕ). told_by names begins prefix (latest_reply_at sessions number) (latest_ending_at sessions number)) tells.prefix
    ∙ ap (λ (reply : Option Reply). told_by names begins (option_map (λ (current : Open). current.begun.prefix) session.now) reply
    (latest_ending_at sessions number)) tells.reply
    ∙ ap (λ (ending : Option Ending). told_by names begins (option_map (λ (current : Open). current.begun.prefix) session.now)
    (option_and_then (λ (current : Open). last_of current.begun.replies) session.now) ending) tells.ending

-- ---- the service after the line

-- a service, or the same where a transaction has none open on the desk
abbrev pub either_service : Bool → ℕ → Service → Service
either_service so number service = cond so service (record service { desk = ended number service.desk })

told_either : (so : Bool) (service : Service) (number : ℕ) (begins : Bool) → told_at (either_service so number service) number begins ≡ told_at service
    number begins
told_either true service number begins = refl
told_either false service number begins = refl

knows_either : (so : Bool) (options : Options) (service : Service) (number : ℕ) (desk left : Desk) (names : Names) (world : WorldData)
    → KnowsBy options service desk names (Some world) → left ≡ cond so desk (ended number desk)
    → KnowsBy options (either_service so number service) left names (Some world)
knows_either true options service number desk left names world knows left_is =
    (knows.0, record { desk_is = left_is ∙ knows.1.desk_is; names_are = knows.1.names_are; kinds = knows.1.kinds; shows = knows.1.shows })
knows_either false options service number desk left names world knows left_is = (
  knows.0,
  record {
    desk_is = left_is ∙ ap (ended number) knows.1.desk_is;
    names_are = knows.1.names_are;
    kinds = knows.1.kinds;
    shows = knows.1.shows;
  },
)

knows_turned : (options : Options) (service : Service) (number : ℕ) (line : SessionLine) (desk : Desk) (names : Names) (old now : WorldData)
    → CanTake options service number line → KnowsSessions options service desk names old → HasAnswered number line old now
    → KnowsBy options (after_turn (pushed (setting_of options service) number line) service number) desk names (Some now)
knows_turned options service number line desk names old now can knows answered = (
  can.named,
  record {
    desk_is = knows.desk_is;
    names_are = knows.names_are;
    kinds = answered.kinds ∙ knows.kinds;
    shows = answered.shows (setting_of options service) service.state knows.shows;
  },
)

tells_turned : SessionsTell → (options : Options) (service : Service) (number : ℕ) (line : SessionLine) (desk : Desk) (names : Names) (now : WorldData)
    → CanTake options service number line
    → KnowsBy options (after_turn (pushed (setting_of options service) number line) service number) desk names (Some now)
    → TellsOf now.sessions number (session_at (whole_of (pushed (setting_of options service) number line) service.state number) number)
tells_turned law options service number line desk names now can knows =
    let setting : Setting = setting_of options service in
    let next : Setting = pushed setting number line in
    let many = length-set setting.programs number (grown line (program_of setting number)) in
    tells_of law next (whole_of next service.state number) now number knows.1.shows (omega (arith, many, can.all, can.within))

-- a session takes a line
pub took : SessionsTell → (options : Options) (service : Service) (number : ℕ) (line : SessionLine) (desk left : Desk) (names : Names)
    (old now : WorldData) (server : ServerData) → CanTake options service number line → KnowsSessions options service desk names old
    → HasAnswered number line old now → left ≡ cond (is_open_at now.sessions number) desk (ended number desk)
    → Takes service number line (fronted (prefix (slice_index_or names.sessions number [])) true (told_of names (is_begin line) now number))
    (record server { options = options; desk = left; names = names; world = Some now })
took law options service number line desk left names old now server can knows answered left_is =
    let next : Setting = pushed (setting_of options service) number line in
    let turned : Service = after_turn next service number in
    let session : Session = session_at turned.state number in
    let so : Bool = is_some session.now in
    let known = knows_turned options service number line desk names old now can knows answered in
    let tells = tells_turned law options service number line desk names now can known in
    let front : Names → List ℕ → List ℕ = λ (n : Names) (told : List ℕ). fronted (prefix (slice_index_or n.sessions number [])) true told in
    record {
      told_is = ap (front names) (told_same names (is_begin line) now.sessions number session tells)
          ∙ ap (λ (n : Names). front n (told_in n (is_begin line) session)) knows.names_are
          ∙ sym (told_either so turned number (is_begin line));
      knows = knows_either so options turned number desk left names now known
          (left_is ∙ ap (λ (is : Bool). cond is desk (ended number desk)) tells.open_there);
    }

-- ---- by the steps of a server

-- where the desk was settled, and the answer told, the server has taken the line
pub takes_line : SessionsTell → (options : Options) (service : Service) (number : ℕ) (line : SessionLine) (server after : ServerData)
    (old now : WorldData) (begins : Bool) (told : List ℕ) → CanTake options service number line
    → KnowsSessions options service server.desk server.names old → HasAnswered number line old now
    → after.options ≡ options → after.names ≡ server.names
    → after.desk ≡ cond (is_open_at now.sessions number) server.desk (ended number server.desk) → begins ≡ is_begin line
    → told ≡ fronted (prefix (slice_index_or after.names.sessions number [])) true (told_of after.names begins now number)
    → Takes service number line told (record after { world = Some now })
takes_line law options service number line server after old now begins told can knows answered same names desk begins_is told_is =
    let text : Names → Bool → List ℕ =
    λ (names : Names) (is : Bool). fronted (prefix (slice_index_or names.sessions number [])) true (told_of names is now number) in
    let words : told ≡ text server.names (is_begin line) =
    told_is ∙ ap (λ (n : Names). text n begins) names ∙ ap (text server.names) begins_is in
    let takes = took law options service number line server.desk after.desk server.names old now after can knows answered desk in
    let here : Takes service number line told (record after { options = options; names = server.names; world = Some now }) =
    subst (λ (t : List ℕ). Takes service number line t (record after { options = options; names = server.names; world = Some now })) (sym words) takes in
    subst (λ (n : Names). Takes service number line told (record after { names = n; world = Some now })) (sym names)
    (subst (λ (o : Options). Takes service number line told (record after { options = o; names = server.names; world = Some now })) (sym same) here)
