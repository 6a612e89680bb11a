-- What a server knows after a line, and that its answer is the answer to it.
use Rattle.std.specs.Prelude.{◌==◌, IfOk, IfSome, IsSome, option_map}
use Rattle.std.proofs.Common.{◌≡◌, ℕ, Bool, true, false, cond, not, List, [], ◌∷◌, ◌++◌, Option, None, Some, Result, Ok, Err, map, length, refl, sym, ap, ◌∙◌, subst, append-nil, arith, ne_eqb}
use Rattle.std.proofs.lemmas.Bool.{false≢true}
use Rattle.hy_bind.specs.Shapes.{catalog_shapes}
use Rattle.hy_bound.specs.declared.Txn.{Txn}
use Rattle.hy_event.specs.declared.lines.SessionLine.{SessionLine}
use Rattle.hy_event.specs.declared.lines.SessionLine.TheVariants.{Commit, Rollback}
use Rattle.hy_machine.specs.declared.Setting.{Setting}
use Rattle.hy_render.specs.declared.Names.{Names}
use Rattle.hy_schema.specs.declared.TableDef.{TableDef}
use Rattle.hy_script.specs.declared.Options.{Options}
use Rattle.hy_script.specs.declared.stocks.Stock.{Stock}
use Rattle.hy_serving.specs.declared.Desk.{Desk}
use Rattle.hy_serving.specs.declared.Saying.{Saying}
use Rattle.hy_serving.specs.declared.Saying.TheVariants.{Nothing, Ends, Defines, Begins, Says, Closes, Refused}
use Rattle.hy_serving.specs.Answers.{own_answer}
use Rattle.hy_serving.specs.Saying.{desk_after, saying, without_rows}
use Rattle.hy_serving.specs.Saying as desks
use Rattle.hy_setting.specs.Kinds.{catalog_kinds}
use Rattle.hy_world.specs.Logged.{IsKept}
use Rattle.hy_world.specs.Worlds.{WorldData, ShowsState}
use Rattle.hy_service.specs.Knowing.{HasNoted, Hears, IsAnswer, IsToTake, Knows, KnowsBy, KnowsDefinitions, KnowsSessions, ServerData, Takes, listed}
use Rattle.hy_service.specs.Laws.{LinesAreHeard, LinesCanBeTaken, ServicesAreSound, ServicesCanBeLogged}
use Rattle.hy_service.specs.Logging.{CanLog, KeepsUp, LogsAt, entries_in}
use Rattle.hy_service.specs.Service.{IsSized, Service, after, answer, answered, ends, heard, is_begin, is_ended_by, names_of, noted, opening, session_line, setting_of, taken, told_at}
use Rattle.hy_service.specs.Sound.{CanTake, has_sessions}
use Rattle.hy_service.specs.declared.Next.{Next}
use Rattle.hy_service.specs.declared.Next.TheVariants as nexts
use Rattle.hy_service.proofs.Leaves.{line_leaves, new_names}

-- what the law on first rows says
abbrev pub RowsLaw : Type 0
RowsLaw = (options : Options) (desk : Desk) (line : List ℕ) → (length desk.sofar.names == 0) ≡ false
    → (saying options (without_rows desk) line ≡ saying options desk line)
    × (desk_after options (without_rows desk) line ≡ without_rows (desk_after options desk line))

-- ---- a line that is noted

-- a line says this to a service, and what is known is the service that has noted it
pub record Notes (options : Options) (service : Service) (line : List ℕ) (said : Saying) (desk : Desk) (names : Names) (world : Option WorldData) : Type 0
  where
    pub said_is : saying options service.desk line ≡ said
    pub knows : KnowsBy options (noted options service line) desk names world

-- names with those that a line brings
pub record AreMore (said : Saying) (names now : Names) : Type 0 where
  pub tables : now.tables ≡ names.tables
  pub sessions : now.sessions ≡ names.sessions ++ new_names said

is_not : (so : Bool) → not so ≡ true → so ≡ false
is_not true h = absurd (false≢true h)
is_not false h = refl

still_some : (xs ys : List (List ℕ)) → not (length xs == 0) ≡ true → not (length (xs ++ ys) == 0) ≡ true
still_some [] ys there = absurd (false≢true there)
still_some (x ∷ xs) ys there = ap not (ne_eqb (length (x ∷ (xs ++ ys))) 0 (λ e. omega (arith, e)))

-- before there is a world
noted_first : (options : Options) (service : Service) (line : List ℕ) (said : Saying) (desk left : Desk) (names now : Names)
    → KnowsDefinitions service desk names → desks.heard options desk line ≡ (said, left) → AreMore said names now
    → Notes options service line said left now None
noted_first options service line said desk left names now knows is more =
    let at : desks.heard options service.desk line ≡ (said, left) = subst (λ (one : Desk). desks.heard options one line ≡ (said, left)) knows.desk_is is in
    let said_is : saying options service.desk line ≡ said = ap (λ (given : Saying × Desk). given.0) at in
    record {
      said_is = said_is;
      knows = record {
        desk_is = sym (ap (λ (given : Saying × Desk). given.1) at);
        sessions = more.sessions ∙ ap (λ (some : List (List ℕ)). some ++ new_names said) knows.sessions
            ∙ ap (λ (s : Saying). service.desk.sofar.names ++ new_names s) (sym said_is) ∙ sym (line_leaves options service.desk line).names;
        turns = knows.turns;
      };
    }

-- the setting of tables and first rows
abbrev setting_by : Options → List TableDef → List Stock → List (List Txn) → Setting
setting_by options catalog stocks programs = record {
  chunks = options.chunks;
  rows = options.rows;
  shapes = catalog_shapes catalog;
  first = map (λ (stock : Stock). stock.rows) stocks;
  programs = programs;
}

-- the names that are printed
abbrev names_by : List (List ℕ) → List (List ℕ) → Names
names_by tables sessions = record { tables = tables; sessions = sessions }

same_names : (names now : Names) (desk next : Desk) (said : Saying) → names ≡ names_of desk → AreMore said names now → next.sofar.catalog ≡ desk.sofar.catalog
    → next.sofar.names ≡ desk.sofar.names ++ new_names said → now ≡ names_of next
same_names names now desk next said is more catalog next_names =
    let tables : now.tables ≡ map (λ (table : TableDef). table.name) next.sofar.catalog =
    more.tables ∙ ap (λ (n : Names). n.tables) is ∙ ap (λ (c : List TableDef). map (λ (table : TableDef). table.name) c) (sym catalog) in
    let sessions : now.sessions ≡ next.sofar.names =
    more.sessions ∙ ap (λ (n : Names). n.sessions ++ new_names said) is ∙ sym next_names in
    ap (λ (t : List (List ℕ)). names_by t now.sessions) tables ∙ ap (names_by (map (λ (table : TableDef). table.name) next.sofar.catalog)) sessions

-- and from then on
noted_later : RowsLaw → (options : Options) (service : Service) (line : List ℕ) (said : Saying) (desk left : Desk) (names now : Names) (world : WorldData)
    → has_sessions service.desk ≡ true → KnowsSessions options service desk names world → desks.heard options desk line ≡ (said, left) → AreMore said names now
    → Notes options service line said left now (Some world)
noted_later law options service line said desk left names now world there knows is more =
    let at : desks.heard options (without_rows service.desk) line ≡ (said, left) =
    subst (λ (one : Desk). desks.heard options one line ≡ (said, left)) knows.desk_is is in
    let laws = law options service.desk line (is_not (length service.desk.sofar.names == 0) there) in
    let said_is : saying options service.desk line ≡ said = sym laws.0 ∙ ap (λ (given : Saying × Desk). given.0) at in
    let next : Desk = desk_after options service.desk line in
    let leaves = line_leaves options service.desk line in
    let same = leaves.tables there in
    let next_names : next.sofar.names ≡ service.desk.sofar.names ++ new_names said =
    leaves.names ∙ ap (λ (s : Saying). service.desk.sofar.names ++ new_names s) said_is in
    record {
      said_is = said_is;
      knows = (
        subst (λ (some : List (List ℕ)). not (length some == 0) ≡ true) (sym next_names) (still_some service.desk.sofar.names (new_names said) there),
        record {
          desk_is = sym (ap (λ (given : Saying × Desk). given.1) at) ∙ laws.1;
          names_are = same_names names now service.desk next said knows.names_are more same.0 next_names;
          kinds = knows.kinds ∙ ap catalog_kinds (sym same.0);
          shows = subst (λ (stocks : List Stock). ShowsState (setting_by options next.sofar.catalog stocks service.programs) service.state world) (sym same.1)
              (subst (λ (catalog : List TableDef). ShowsState (setting_by options catalog service.desk.sofar.stocks service.programs) service.state world)
              (sym same.0) knows.shows);
        },
      );
    }

pub line_noted : RowsLaw → (options : Options) (service : Service) (line : List ℕ) (said : Saying) (desk left : Desk) (names now : Names)
    (world : Option WorldData)
    → KnowsBy options service desk names world → desks.heard options desk line ≡ (said, left) → AreMore said names now
    → Notes options service line said left now world
line_noted law options service line said desk left names now None knows is more = noted_first options service line said desk left names now knows is more
line_noted law options service line said desk left names now (Some world) knows is more =
    noted_later law options service line said desk left names now world knows.0 knows.1 is more

-- the names are as they were, where no session is new
pub no_names : (said : Saying) (names : Names) → new_names said ≡ [] → AreMore said names names
no_names said names none = record {
  tables = refl;
  sessions = sym (append-nil names.sessions) ∙ ap (λ (more : List (List ℕ)). names.sessions ++ more) (sym none);
}

-- ---- END

pub hears_end : RowsLaw → (lines : List (List ℕ)) (line : List ℕ) (old : ServerData) (left : Desk) → Knows lines old
    → desks.heard old.options old.desk line ≡ (Ends, left) → Hears lines line old (record old { desk = left }) None
hears_end law lines line old left known is =
    let service : Service = after old.options lines in
    let notes = line_noted law old.options service line Ends old.desk left old.names old.names old.world known.knows is (no_names Ends old.names refl) in
    let ended : ends (saying old.options service.desk line) ≡ true = ap ends notes.said_is in
    let same : noted old.options service line ≡ service =
    ap (λ (desk : Desk). record service { desk = desk }) ((line_leaves old.options service.desk line).unchanged ended) in (
      ended,
      record {
        sized = known.sized;
        no_end = known.no_end;
        knows = subst (λ (one : Service). KnowsBy old.options one left old.names old.world) same notes.knows;
      },
    )

-- ---- a line more

-- the service after the line is the one that has heard it
after_line : LinesAreHeard → (options : Options) (lines : List (List ℕ)) (line : List ℕ) → is_ended_by options lines ≡ false
    → ends (saying options (after options lines).desk line) ≡ false
    → after options (lines ++ line ∷ []) ≡ heard options (after options lines) line
after_line law options lines line no_end goes =
    law.service options (opening options) lines (line ∷ []) no_end
    ∙ ap (λ (is : Bool). cond is (after options lines) (heard options (after options lines) line)) goes

known_more : LinesAreHeard → (lines : List (List ℕ)) (line : List ℕ) (server : ServerData) → IsSized server.options
    → is_ended_by server.options lines ≡ false → ends (saying server.options (after server.options lines).desk line) ≡ false
    → KnowsBy server.options (heard server.options (after server.options lines) line) server.desk server.names server.world
    → Knows (lines ++ line ∷ []) server
known_more law lines line server sized no_end goes knows =
    let options : Options = server.options in
    record {
      sized = sized;
      no_end = law.end options (opening options) lines (line ∷ []) no_end ∙ ap (λ (is : Bool). cond is true false) goes;
      knows = subst (λ (one : Service). KnowsBy options one server.desk server.names server.world) (sym (after_line law options lines line no_end goes)) knows;
    }

-- ---- a line that its text alone answers

pub hears_alone : LinesAreHeard → (lines : List (List ℕ)) (line : List ℕ) (old : ServerData) (said : Saying) (told : List ℕ) (desk : Desk) (names : Names)
    → Knows lines old → Notes old.options (after old.options lines) line said desk names old.world → session_line said ≡ None → ends said ≡ false
    → told ≡ own_answer said → Hears lines line old (record old { desk = desk; names = names }) (Some told)
hears_alone law lines line old said told desk names known notes alone goes told_is =
    let service : Service = after old.options lines in
    let next : Service = noted old.options service line in
    let none : session_line (saying old.options service.desk line) ≡ None = ap session_line notes.said_is ∙ alone in
    let same : heard old.options service line ≡ next = ap (λ (one : Option (ℕ × SessionLine)). taken old.options next one) none in (
      told_is ∙ ap own_answer (sym notes.said_is)
          ∙ sym (ap (λ (one : Option (ℕ × SessionLine)). answered (heard old.options service line) (saying old.options service.desk line) one) none),
      known_more law lines line (record old { desk = desk; names = names }) known.sized known.no_end (ap ends notes.said_is ∙ goes)
          (subst (λ (one : Service). KnowsBy old.options one desk names old.world) (sym same) notes.knows),
    )

-- ---- a line that its session takes

can_take : LinesCanBeTaken → ServicesAreSound → (lines : List (List ℕ)) (line : List ℕ) (old : ServerData) (said : Saying) (number : ℕ)
    (taken_line : SessionLine)
    (desk : Desk) (names : Names) → Knows lines old → Notes old.options (after old.options lines) line said desk names old.world
    → session_line said ≡ Some (number, taken_line) → CanTake old.options (noted old.options (after old.options lines) line) number taken_line
can_take law sound lines line old said number taken_line desk names known notes is =
    law old.options (after old.options lines) line number taken_line (sound old.options lines known.sized) (ap session_line notes.said_is ∙ is)

-- ---- a line that is to be taken

-- a line of a session is not END
of_session : (said : Saying) (number : ℕ) (told : SessionLine) → session_line said ≡ Some (number, told) → ends said ≡ false
of_session Nothing number told is = absurd cc
of_session Ends number told is = absurd cc
of_session Defines number told is = absurd cc
of_session (Begins at read_only name) number told is = refl
of_session (Says at bound) number told is = refl
of_session (Closes at commits) number told is = refl
of_session (Refused name cause) number told is = absurd cc

-- a server that has noted it may take it
pub may_take : (lines : List (List ℕ)) (line : List ℕ) (old server : ServerData) (number : ℕ) (told : SessionLine)
    → IsToTake lines line old server number told → server.options ≡ old.options
    → (service : Service) × CanTake server.options service number told × KnowsBy server.options service server.desk server.names server.world
may_take lines line old server number told due same =
    let service : Service = noted old.options (after old.options lines) line in (
      service,
      subst (λ (o : Options). CanTake o service number told) (sym same) due.can,
      subst (λ (o : Options). KnowsBy o service server.desk server.names server.world) (sym same) due.knows,
    )

-- and when it did, what it told is the answer
pub hears_turn : LinesAreHeard → (lines : List (List ℕ)) (line : List ℕ) (old server now : ServerData) (number : ℕ) (told : SessionLine) (text : List ℕ)
    → Knows lines old → IsToTake lines line old server number told → server.options ≡ old.options → now.options ≡ server.options
    → ((service : Service) → CanTake server.options service number told → KnowsBy server.options service server.desk server.names server.world
    → Takes service number told text now) → Hears lines line old now (Some text)
unfolding may_take
hears_turn law lines line old server now number told text known due same stays takes =
    let service : Service = after old.options lines in
    let next : Service = noted old.options service line in
    let may = may_take lines line old server number told due same in
    let took : Takes next number told text now = takes may.0 may.1 may.2 in
    let options_are : now.options ≡ old.options = stays ∙ same in
    let goes : ends (saying old.options service.desk line) ≡ false = of_session (saying old.options service.desk line) number told due.says in
    let heard_is : heard old.options service line ≡ taken old.options next (Some (number, told)) =
    ap (λ (one : Option (ℕ × SessionLine)). taken old.options next one) due.says in (
      subst (λ (o : Options). text ≡ told_at (taken o next (Some (number, told))) number (is_begin told)) options_are took.told_is
          ∙ sym (ap (λ (one : Option (ℕ × SessionLine)). answered (taken old.options next one) (saying old.options service.desk line) one) due.says),
      subst (λ (o : Options). Knows (lines ++ line ∷ []) (record now { options = o })) (sym options_are)
          (known_more law lines line (record now { options = old.options }) known.sized known.no_end goes
          (subst (λ (one : Service). KnowsBy old.options one now.desk now.names now.world) (sym heard_is)
          (subst (λ (o : Options). KnowsBy o (taken o next (Some (number, told))) now.desk now.names now.world) options_are took.knows))),
    )

-- and the log has what the line commits
pub logs_turn : {D : Type 0} (clock : D → ℕ) (image_since : D → ℕ → List ℕ → Type 0) → LinesAreHeard → ServicesCanBeLogged → (lines : List (List ℕ))
    (line : List ℕ) (old server : ServerData) (number : ℕ) (told : SessionLine) (before now : D) → Knows lines old
    → IsToTake lines line old server number told → server.options ≡ old.options
    → ((service : Service) → CanTake server.options service number told → KnowsBy server.options service server.desk server.names server.world
    → CanLog server.options (taken server.options service (Some (number, told)))
    → LogsAt clock image_since server.options (taken server.options service (Some (number, told))) before now)
    → LogsAt clock image_since old.options (after old.options (lines ++ line ∷ [])) before now
unfolding may_take
logs_turn clock image_since law can lines line old server number told before now known due same logs =
    let service : Service = after old.options lines in
    let next : Service = noted old.options service line in
    let may = may_take lines line old server number told due same in
    let goes : ends (saying old.options service.desk line) ≡ false = of_session (saying old.options service.desk line) number told due.says in
    let is : after old.options (lines ++ line ∷ []) ≡ taken old.options next (Some (number, told)) =
    after_line law old.options lines line known.no_end goes ∙ ap (λ (one : Option (ℕ × SessionLine)). taken old.options next one) due.says in
    let here : CanLog old.options (taken old.options next (Some (number, told))) =
    subst (CanLog old.options) is (can old.options (lines ++ line ∷ []) known.sized) in
    let there : LogsAt clock image_since server.options (taken server.options next (Some (number, told))) before now =
    logs next may.1 may.2 (subst (λ (o : Options). CanLog o (taken o next (Some (number, told)))) (sym same) here) in
    subst (λ (one : Service). LogsAt clock image_since old.options one before now) (sym is)
    (subst (λ (o : Options). LogsAt clock image_since o (taken o next (Some (number, told))) before now) same there)

-- ---- by the steps of a server

-- what was found is this
pub heard_so : (options : Options) (desk left : Desk) (line : List ℕ) (found said : Saying) → desks.heard options desk line ≡ (found, left) → found ≡ said
    → desks.heard options desk line ≡ (said, left)
heard_so options desk left line found said is same = subst (λ (s : Saying). desks.heard options desk line ≡ (s, left)) same is

-- the line of COMMIT or ROLLBACK
pub closing_is : (number : ℕ) (commits : Bool) (line : SessionLine) → line ≡ cond commits Commit Rollback
    → session_line (Closes number commits) ≡ Some (number, line)
closing_is number true line is = ap (λ (l : SessionLine). Some (number, l)) (sym is)
closing_is number false line is = ap (λ (l : SessionLine). Some (number, l)) (sym is)

-- the desk has heard a line, and a name was added
pub named_server : (old noting after : ServerData) (name : Option (List ℕ)) → noting ≡ record old { desk = noting.desk }
    → after ≡ record noting { names = record noting.names { sessions = noting.names.sessions ++ listed name } }
    → after ≡ record old { desk = noting.desk; names = record old.names { sessions = old.names.sessions ++ listed name } }
named_server old noting after name rest added =
    added ∙ ap (λ (s : ServerData). record s { names = record s.names { sessions = s.names.sessions ++ listed name } }) rest

-- END was heard
pub server_ends : RowsLaw → (lines : List (List ℕ)) (line : List ℕ) (old noting : ServerData) → Knows lines old
    → desks.heard old.options old.desk line ≡ (Ends, noting.desk) → noting ≡ record old { desk = noting.desk } → Hears lines line old noting None
server_ends law lines line old noting known is rest =
    subst (λ (s : ServerData). Hears lines line old s None) (sym rest) (hears_end law lines line old noting.desk known is)

-- the text of the line alone gave the answer
pub server_answers : {E : Type 0} (r : Result Next E) → RowsLaw → LinesAreHeard → (lines : List (List ℕ)) (line : List ℕ)
    (old noting : ServerData) (said : Saying) → Knows lines old → desks.heard old.options old.desk line ≡ (said, noting.desk)
    → noting ≡ record old { desk = noting.desk } → new_names said ≡ [] → session_line said ≡ None → ends said ≡ false
    → IfOk r (IsAnswer (own_answer said)) → IfOk r (λ (noted : Next). HasNoted lines line old noting noted)
server_answers (Err e) rows law lines line old noting said known is rest none alone goes told = tt
server_answers (Ok nexts.End) rows law lines line old noting said known is rest none alone goes told = absurd told
server_answers (Ok (nexts.Turn number turn)) rows law lines line old noting said known is rest none alone goes told = absurd told
server_answers (Ok (nexts.Answer text)) rows law lines line old noting said known is rest none alone goes told =
    let notes = line_noted rows old.options (after old.options lines) line said old.desk noting.desk old.names old.names old.world known.knows is
    (no_names said old.names none) in
    subst (λ (s : ServerData). Hears lines line old s (Some text.items)) (sym rest)
    (hears_alone law lines line old said text.items noting.desk old.names known notes alone goes told)

-- the laws by which a line is taken
pub record TakingLaws : Type 0 where
  pub rows : RowsLaw
  pub sound : ServicesAreSound
  pub can : LinesCanBeTaken
  pub heard : LinesAreHeard

-- a server that has noted what a session's line says is to take it
pub server_due : TakingLaws → (lines : List (List ℕ)) (line : List ℕ) (old server : ServerData) (left : Desk) (names : Names) (said : Saying) (number : ℕ)
    (told : SessionLine) → Knows lines old → desks.heard old.options old.desk line ≡ (said, left) → AreMore said old.names names
    → session_line said ≡ Some (number, told) → server ≡ record old { desk = left; names = names }
    → IsToTake lines line old server number told
server_due laws lines line old server left names said number told known is more is_line server_is =
    let notes = line_noted laws.rows old.options (after old.options lines) line said old.desk left old.names names old.world known.knows is more in
    subst (λ (s : ServerData). IsToTake lines line old s number told) (sym server_is) (record {
      says = ap session_line notes.said_is ∙ is_line;
      can = can_take laws.can laws.sound lines line old said number told left names known notes is_line;
      knows = notes.knows;
    })

-- a server that has the world and the log which it had keeps up as it did
pub kept_same : {D : Type 0} (image : D → List ℕ → Type 0) (old new : ServerData) (disk : D) → new.world ≡ old.world → new.log ≡ old.log
    → KeepsUp image old disk → KeepsUp image new disk
kept_same image old new disk world log kept =
    subst (λ (w : Option WorldData). IsKept image (entries_in w) new.log disk) (sym world)
    (subst (λ (l : Option ℕ). IsKept image (entries_in old.world) l disk) (sym log) kept)
