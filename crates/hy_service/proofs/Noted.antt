-- What a line of a session says could come there, and what is known after it.
use Rattle.std.specs.Option.{option_map}
use Rattle.std.specs.Str.{bytes_eq, is_utf8}
use Rattle.std.specs.Prelude.{◌==◌, nat_le, is_some, not}
use Rattle.std.proofs.Common.{◌≡◌, ◌≢◌, ℕ, ◌+◌, ◌<◌, Bool, true, false, cond, List, [], ◌∷◌, ◌++◌, Option, Some, None, Result, Ok, Err, length, get_or, refl, sym, ap, ◌∙◌, subst, arith, length-set, inl, inr}
use Rattle.std.proofs.lemmas.Bool.{cases_lt, leb-false, ne_eqb}
use Rattle.std.proofs.lemmas.List.{get_or_append_left, get_or_past, get_or-set_other, get_or-set_same, length_push}
use Rattle.std.proofs.lemmas.List.Quantifiers.{position-Some}
use Rattle.std.proofs.Math.Seq.{get_or-append_seam}
use Rattle.hy_token.specs.Token.{token_at}
use Rattle.hy_ast.specs.Trees.{Statement}
use Rattle.hy_ast.specs.Trees as tree
use Rattle.hy_schema.specs.Names.{number_of}
use Rattle.hy_bound.specs.declared.Bound.{Bound}
use Rattle.hy_bind.specs.Statements.{bound_of}
use Rattle.hy_event.specs.declared.lines.SessionLine.{SessionLine}
use Rattle.hy_event.specs.declared.lines.SessionLine.TheVariants as said
use Rattle.hy_script.specs.declared.Options.{Options}
use Rattle.hy_script.specs.declared.codes.Code.{Code}
use Rattle.hy_script.specs.declared.codes.Code.TheVariants as code
use Rattle.hy_script.specs.declared.judging.Standing.{Standing}
use Rattle.hy_script.specs.Growing.{table_def, with_table, with_first_row}
use Rattle.hy_script.specs.Refusals.{create_code, first_row_code, name_in, no_statements, statement_code, with_bound}
use Rattle.hy_serving.specs.declared.Cause.{Cause}
use Rattle.hy_serving.specs.declared.Cause.TheVariants.{Script, IsOpen, NoneOpen}
use Rattle.hy_serving.specs.declared.Desk.{Desk}
use Rattle.hy_serving.specs.declared.Place.{Place}
use Rattle.hy_serving.specs.declared.Saying.{Saying}
use Rattle.hy_serving.specs.declared.Saying.TheVariants.{Defines, Begins, Says, Closes}
use Rattle.hy_serving.specs.declared.lines.Heading.{Heading}
use Rattle.hy_serving.specs.declared.lines.Heading.TheVariants as heading
use Rattle.hy_serving.specs.declared.lines.Words.TheVariants as words
use Rattle.hy_serving.specs.Lines.{heading_of, one_statement}
use Rattle.hy_serving.specs.Fitting.{FitsDesk}
use Rattle.hy_serving.specs.Saying.{begin_cause, begins, begun_in, closes, defines, defines_if_one, desk_after, ended, ends_if_one, heard, heard_at, no_txns, place_at, refuses, saying, says, says_at, says_if_one, says_of, unless_refused, with_place, with_session}
use Rattle.hy_limits.specs.declared.TheConstants.{MOST_SESSIONS, MOST_TXNS}
use Rattle.hy_service.specs.Service.{session_line}
use Rattle.hy_service.specs.Sound.{has_sessions}

-- ---- what is known of a session

-- how many transactions it has begun after its line
abbrev pub txns_with : SessionLine → ℕ → ℕ
txns_with (said.Begin read_only) txns = txns + 1
txns_with (said.Statement bound) txns = txns
txns_with said.Commit txns = txns
txns_with said.Rollback txns = txns

-- what the next statement of its open transaction is judged by then
abbrev pub standing_with : SessionLine → Option Standing → Option Standing
standing_with (said.Begin read_only) standing = Some (no_statements read_only)
standing_with (said.Statement bound) standing = option_map (λ (one : Standing). with_bound one bound) standing
standing_with said.Commit standing = None
standing_with said.Rollback standing = None

abbrev pub place_with : SessionLine → Place → Place
place_with line place = record { txns = txns_with line place.txns; standing = standing_with line place.standing }

-- BEGIN comes where none of its transactions is open and there is room for one more, any other line where one is open
abbrev pub MayCome : SessionLine → Place → Type 0
MayCome (said.Begin read_only) place = (place.standing ≡ None) × (place.txns < MOST_TXNS)
MayCome (said.Statement bound) place = (standing : Standing) × (place.standing ≡ Some standing)
MayCome said.Commit place = (standing : Standing) × (place.standing ≡ Some standing)
MayCome said.Rollback place = (standing : Standing) × (place.standing ≡ Some standing)

-- A line of a session came where it may. It changes what is known of this session, and makes it one where it is new.
pub record IsNoted (desk after : Desk) (number : ℕ) (line : SessionLine) : Type 0 where
  pub catalog : after.sofar.catalog ≡ desk.sofar.catalog
  pub stocks : after.sofar.stocks ≡ desk.sofar.stocks
  pub named : has_sessions after ≡ true
  pub within : number < MOST_SESSIONS
  pub known : number < length after.places
  pub came : MayCome line (place_at desk number)
  pub place : place_at after number ≡ place_with line (place_at desk number)
  pub others : (other : ℕ) → other ≢ number → place_at after other ≡ place_at desk other

-- what a line that says this leaves, where it is a line of a session
abbrev pub IsNotedIf : Desk → Desk → Option (ℕ × SessionLine) → Type 0
IsNotedIf desk after None = Unit {0}
IsNotedIf desk after (Some (number, line)) = IsNoted desk after number line

abbrev pub Notes : Desk → Saying × Desk → Type 0
Notes desk heard = IsNotedIf desk heard.1 (session_line heard.0)

-- ---- one of two, and refusals

either : (desk : Desk) (so : Bool) (one other : Saying × Desk) → (so ≡ true → Notes desk one) → (so ≡ false → Notes desk other) → Notes desk (cond so one other)
either desk true one other first second = first refl
either desk false one other first second = second refl

unless : (desk : Desk) (name : Option (List ℕ)) (cause : Option Cause) (done : Saying × Desk) → (cause ≡ None → Notes desk done)
    → Notes desk (unless_refused desk name cause done)
unless desk name None done notes = notes refl
unless desk name (Some cause) done notes = tt

-- ---- a place

there : (names : List (List ℕ)) → 0 < length names → not (length names == 0) ≡ true
there names some = ap not (ne_eqb (length names) 0 (λ none. omega (arith, some, none)))

-- what is known of a session that there is changes
placed : (options : Options) (desk : Desk) (number : ℕ) (line : SessionLine) (place : Place) → FitsDesk options desk → number < length desk.sofar.names
    → MayCome line (place_at desk number) → place ≡ place_with line (place_at desk number) → IsNoted desk (with_place desk number place) number line
placed options desk number line place fits here came is = record {
  catalog = refl;
  stocks = refl;
  named = there desk.sofar.names (omega (arith, here));
  within = let few = fits.few_sessions in omega (arith, here, few);
  known = let many = length-set desk.places number place in let places = fits.places in omega (arith, here, many, places);
  came = came;
  place = get_or-set_same desk.places number place no_txns (let places = fits.places in omega (arith, here, places)) ∙ is;
  others = λ other apart. get_or-set_other desk.places number other place no_txns apart;
}

-- where a session more is known the others are known as before
left : (places : List Place) (place : Place) (other : ℕ) → other ≢ length places → get_or (places ++ place ∷ []) other no_txns ≡ get_or places other no_txns
left places place other apart = elim (cases_lt other (length places)) [
  | inl before ↦ get_or_append_left places (place ∷ []) no_txns other before
  | inr past ↦
      let many = length_push places place in
      get_or_past (places ++ place ∷ []) other no_txns (omega (arith, many, past, apart)) ∙ sym (get_or_past places other no_txns past)
]

-- a session is new
newly : (options : Options) (desk : Desk) (name : List ℕ) (read_only : Bool) → FitsDesk options desk → length desk.sofar.names < MOST_SESSIONS
    → IsNoted desk (with_session desk name read_only) (length desk.sofar.names) (said.Begin read_only)
newly options desk name read_only fits room = record {
  catalog = refl;
  stocks = refl;
  named = there (desk.sofar.names ++ name ∷ []) (let many = length_push desk.sofar.names name in omega (arith, many));
  within = room;
  known = let many = length_push desk.places first in let places = fits.places in omega (arith, many, places);
  came = subst (λ (place : Place). (place.standing ≡ None) × (place.txns < MOST_TXNS)) (sym none) (refl, omega arith);
  place = ap (λ number. get_or (desk.places ++ first ∷ []) number no_txns) (sym fits.places) ∙ get_or-append_seam desk.places first [] no_txns
      ∙ ap (place_with (said.Begin read_only)) (sym none);
  others = λ other apart. left desk.places first other (λ is. apart (is ∙ fits.places));
}
  where
    first : Place
    first = record { txns = 1; standing = Some (no_statements read_only) }

    none : place_at desk (length desk.sofar.names) ≡ no_txns
    none = get_or_past desk.places (length desk.sofar.names) no_txns (let places = fits.places in omega (arith, places))

-- ---- BEGIN

is_free : (standing : Option Standing) (full : Bool) → cond (is_some standing) (Some IsOpen) (cond full (Some (Script code.Limit)) None) ≡ None
    → (standing ≡ None) × (full ≡ false)
is_free (Some standing) full h = absurd cc
is_free None true h = absurd cc
is_free None false h = (refl, refl)

again : (options : Options) (desk : Desk) (number : ℕ) (read_only : Bool) → FitsDesk options desk → number < length desk.sofar.names
    → begin_cause (place_at desk number) ≡ None → IsNoted desk (begun_in desk number read_only) number (said.Begin read_only)
again options desk number read_only fits here free =
    let place : Place = place_at desk number in
    let may = is_free place.standing (nat_le MOST_TXNS place.txns) free in
    placed options desk number (said.Begin read_only) (record { txns = place.txns + 1; standing = Some (no_statements read_only) }) fits here
    (may.0, leb-false MOST_TXNS place.txns may.1) refl

begun : (options : Options) (desk : Desk) (name : List ℕ) (read_only : Bool) (found : Option ℕ) → FitsDesk options desk
    → ((number : ℕ) → found ≡ Some number → number < length desk.sofar.names) → Notes desk (begins desk name read_only found)
begun options desk name read_only None fits here =
    let number : ℕ = length desk.sofar.names in
    either desk (nat_le MOST_SESSIONS number) (refuses desk (Some name) (Script code.Limit))
    (Begins number read_only (Some name), with_session desk name read_only)
    (λ full. tt) (λ free. newly options desk name read_only fits (leb-false MOST_SESSIONS number free))
begun options desk name read_only (Some number) fits here =
    unless desk (Some name) (begin_cause (place_at desk number)) (Begins number read_only None, begun_in desk number read_only)
    (λ free. again options desk number read_only fits (here number refl) free)

-- ---- COMMIT and ROLLBACK

is_there : (standing : Option Standing) → is_some standing ≡ true → (one : Standing) × (standing ≡ Some one)
is_there None h = absurd cc
is_there (Some standing) h = (standing, refl)

closed_at : (options : Options) (desk : Desk) (number : ℕ) (commits : Bool) → FitsDesk options desk → number < length desk.sofar.names
    → is_some (place_at desk number).standing ≡ true → Notes desk (Closes number commits, ended number desk)
closed_at options desk number true fits here now =
    placed options desk number said.Commit (record { txns = (place_at desk number).txns; standing = None }) fits here
    (is_there (place_at desk number).standing now) refl
closed_at options desk number false fits here now =
    placed options desk number said.Rollback (record { txns = (place_at desk number).txns; standing = None }) fits here
    (is_there (place_at desk number).standing now) refl

closed : (options : Options) (desk : Desk) (name : List ℕ) (commits : Bool) (found : Option ℕ) → FitsDesk options desk
    → ((number : ℕ) → found ≡ Some number → number < length desk.sofar.names) → Notes desk (closes desk name commits found)
closed options desk name commits None fits here = tt
closed options desk name commits (Some number) fits here =
    either desk (is_some (place_at desk number).standing) (Closes number commits, ended number desk) (refuses desk (Some name) NoneOpen)
    (closed_at options desk number commits fits (here number refl)) (λ none. tt)

-- ---- a statement of a transaction

abbrev place_of : ℕ → Option Standing → Place
place_of txns standing = record { txns = txns; standing = standing }

at : (options : Options) (desk : Desk) (line name : List ℕ) (number : ℕ) (statement : Statement) (found : Option Standing) → FitsDesk options desk
    → number < length desk.sofar.names → (place_at desk number).standing ≡ found → Notes desk (says_at desk line name number statement found)
at options desk line name number statement None fits here is = tt
at options desk line name number statement (Some standing) fits here is =
    let bound : Bound = bound_of line desk.sofar.catalog statement in
    let txns : ℕ = (place_at desk number).txns in
    let place : Place = place_of txns (Some (with_bound standing bound)) in
    unless desk (Some name) (option_map Script (statement_code line desk.sofar.catalog standing statement)) (Says number bound, with_place desk number place)
    (λ free. placed options desk number (said.Statement bound) place fits here (standing, is)
    (ap (λ (one : Option Standing). place_of txns (option_map (λ (s : Standing). with_bound s bound) one)) (sym is)))

of : (options : Options) (desk : Desk) (line name : List ℕ) (statement : Statement) (found : Option ℕ) → FitsDesk options desk
    → ((number : ℕ) → found ≡ Some number → number < length desk.sofar.names) → Notes desk (says_of desk line name statement found)
of options desk line name statement None fits here = tt
of options desk line name statement (Some number) fits here =
    at options desk line name number statement (place_at desk number).standing fits (here number refl) refl

-- ---- a line

-- a session that has a name is one of those that there are
found_within : (names : List (List ℕ)) (name : List ℕ) (number : ℕ) → number_of names name ≡ Some number → number < length names
found_within names name number found = (position-Some (bytes_eq name) names number [] found).0

spoken : (options : Options) (desk : Desk) (line name : List ℕ) (statement : Statement) → FitsDesk options desk → Notes desk (says desk line name statement)
spoken options desk line name (tree.Begin read_only) fits =
    begun options desk name read_only (number_of desk.sofar.names name) fits (found_within desk.sofar.names name)
spoken options desk line name tree.Commit fits = closed options desk name true (number_of desk.sofar.names name) fits (found_within desk.sofar.names name)
spoken options desk line name tree.Rollback fits = closed options desk name false (number_of desk.sofar.names name) fits (found_within desk.sofar.names name)
spoken options desk line name (tree.Create table columns) fits = tt
spoken options desk line name (tree.Session other) fits = tt
spoken options desk line name (tree.Schedule turns) fits = tt
spoken options desk line name tree.End fits = tt
spoken options desk line name (tree.Select selection) fits =
    of options desk line name (tree.Select selection) (number_of desk.sofar.names name) fits (found_within desk.sofar.names name)
spoken options desk line name (tree.Insert table values) fits =
    of options desk line name (tree.Insert table values) (number_of desk.sofar.names name) fits (found_within desk.sofar.names name)
spoken options desk line name (tree.Update table sets test) fits =
    of options desk line name (tree.Update table sets test) (number_of desk.sofar.names name) fits (found_within desk.sofar.names name)
spoken options desk line name (tree.Delete table test) fits =
    of options desk line name (tree.Delete table test) (number_of desk.sofar.names name) fits (found_within desk.sofar.names name)
spoken options desk line name (tree.Savepoint saved) fits =
    of options desk line name (tree.Savepoint saved) (number_of desk.sofar.names name) fits (found_within desk.sofar.names name)
spoken options desk line name (tree.RollbackTo saved) fits =
    of options desk line name (tree.RollbackTo saved) (number_of desk.sofar.names name) fits (found_within desk.sofar.names name)
spoken options desk line name (tree.Release saved) fits =
    of options desk line name (tree.Release saved) (number_of desk.sofar.names name) fits (found_within desk.sofar.names name)

spoken_if_one : (options : Options) (desk : Desk) (line name : List ℕ) (found : Result Statement Code) → FitsDesk options desk
    → Notes desk (says_if_one desk line name found)
spoken_if_one options desk line name (Ok statement) fits = spoken options desk line name statement fits
spoken_if_one options desk line name (Err cause) fits = tt

-- lines without a name are none of a session
defined : (options : Options) (desk : Desk) (line : List ℕ) (statement : Statement) → Notes desk (defines options desk line statement)
defined options desk line (tree.Create table columns) =
    unless desk None (option_map Script (create_code line desk.sofar table columns))
    (Defines, record desk { sofar = with_table desk.sofar (table_def line table columns) }) (λ free. tt)
defined options desk line (tree.Insert table values) =
    unless desk None (option_map Script (first_row_code line options desk.sofar (tree.Insert table values) table values))
    (Defines, record desk { sofar = with_first_row line desk.sofar table values }) (λ free. tt)
defined options desk line _ = tt

defined_if_one : (options : Options) (desk : Desk) (line : List ℕ) (found : Result Statement Code) → Notes desk (defines_if_one options desk line found)
defined_if_one options desk line (Ok statement) = defined options desk line statement
defined_if_one options desk line (Err cause) = tt

ending : (desk : Desk) (found : Result Statement Code) → Notes desk (ends_if_one found, desk)
ending desk (Ok tree.End) = tt
ending desk (Ok _) = tt
ending desk (Err cause) = tt

headed : (options : Options) (desk : Desk) (line : List ℕ) (first : Heading) → FitsDesk options desk → Notes desk (heard_at options desk line first)
headed options desk line heading.Blank fits = tt
headed options desk line heading.Bad fits = tt
headed options desk line heading.Bare fits =
    either desk (length desk.sofar.names == 0) (defines_if_one options desk line (one_statement words.Defining line 0))
    (ends_if_one (one_statement words.Ending line 0), desk)
    (λ none. defined_if_one options desk line (one_statement words.Defining line 0)) (λ some. ending desk (one_statement words.Ending line 0))
headed options desk line (heading.Named span) fits = spoken_if_one options desk line (name_in line span) (one_statement words.Session line (span.end + 1)) fits

heard_notes : (options : Options) (desk : Desk) (line : List ℕ) → FitsDesk options desk → Notes desk (heard options desk line)
heard_notes options desk line fits =
    either desk (is_utf8 line) (heard_at options desk line (heading_of line (token_at line 0))) (refuses desk None (Script code.NotUtf8))
    (λ text. headed options desk line (heading_of line (token_at line 0)) fits) (λ none. tt)

-- what is known after a line of a session
pub line_noted : (options : Options) (desk : Desk) (line : List ℕ) (number : ℕ) (told : SessionLine) → FitsDesk options desk
    → session_line (saying options desk line) ≡ Some (number, told) → IsNoted desk (desk_after options desk line) number told
line_noted options desk line number told fits is = subst (IsNotedIf desk (desk_after options desk line)) is (heard_notes options desk line fits)

-- ---- where its transaction has ended

abbrev pub closed_place : Place → Place
closed_place place = record { txns = place.txns; standing = None }

pub ended_own : (desk : Desk) (number : ℕ) → place_at (ended number desk) number ≡ closed_place (place_at desk number)
ended_own desk number = elim (cases_lt number (length desk.places)) [
  | inl here ↦ get_or-set_same desk.places number (closed_place (place_at desk number)) no_txns here
  | inr past ↦
      let many = length-set desk.places number (closed_place (place_at desk number)) in
      get_or_past (ended number desk).places number no_txns (omega (arith, past, many)) ∙ ap closed_place (sym (get_or_past desk.places number no_txns past))
]

pub ended_other : (desk : Desk) (number other : ℕ) → other ≢ number → place_at (ended number desk) other ≡ place_at desk other
ended_other desk number other apart = get_or-set_other desk.places number other (closed_place (place_at desk number)) no_txns apart
