-- A script is accepted just where its bytes spell a sentence of the grammar, none of whose statements is refused.
use Rattle.std.specs.Str.{IsUtf8}
use Rattle.std.specs.Result.{IsErr}
use Rattle.std.proofs.Common.{◌≡◌, Bool, true, false, cond, ℕ, zero, suc, ◌≤◌, List, [], ◌∷◌, length, Option, None, Some, Result, Ok, Err, refl, sym, subst, ap, ◌∙◌}
use Rattle.hy_ast.specs.Trees.{Statement}
use Rattle.hy_ast.specs.Trees as tree
use Rattle.hy_parse.specs.Parsing.{parsed}
use Rattle.hy_script.specs.declared.Options.{Options}
use Rattle.hy_script.specs.declared.Refused.{Refused}
use Rattle.hy_script.specs.declared.Script.{Script}
use Rattle.hy_script.specs.declared.codes.Code.{Code}
use Rattle.hy_script.specs.declared.codes.Code.TheVariants as code
use Rattle.hy_script.specs.declared.sofar.Section.{Section}
use Rattle.hy_script.specs.declared.sofar.Section.TheVariants as section
use Rattle.hy_script.specs.declared.sofar.SoFar.{SoFar}
use Rattle.hy_script.specs.Growing.{nothing, after, script_of}
use Rattle.hy_script.specs.Reading.{Stop, stop, Next, Read, Refuse, GoOn, may_stand_at, is_last_of, at_end_of, taken, unless_refused, judged, next_from, next_at, answer_within, answered, IsRead, Reads, too_long, not_utf8, statements}
use Rattle.hy_limits.specs.declared.TheConstants.{MOST_BYTES}
use Rattle.hy_script.specs.Refusals.{refusal_in}
use Rattle.hy_script.specs.Sentences.{SpellsFrom, SpellsScript, after_all, NoneIsRefused, IsAccepted}
use Rattle.hy_script.proofs.Phases.{Phase, Defining, Between, Within, Scheduled, Follows, is_sentence, sentence_follows}
use Rattle.hy_script.proofs.Runs.{read_on, read_last}
use Rattle.hy_script.proofs.Spaces.{found_again, parsed_again}
use Rattle.hy_script.proofs.Steps.{Stands, Step, refuses, goes_on, ends, stepped}
use Rattle.hy_script.proofs.Words.{ParsesSentences, word_of, word_first, same_token, same_word}
use Rattle.hy_token.specs.declared.Bad.{Bad}
use Rattle.hy_token.specs.declared.Span.{Span}
use Rattle.hy_token.specs.declared.Token.{Token}
use Rattle.hy_token.specs.declared.Token.TheVariants as token
use Rattle.hy_token.specs.Token.{token_at}

-- ---- what may stand at an offset is what may follow there

-- the phase of a section
abbrev phase_of : Section → Phase
phase_of section.Defining = Defining
phase_of (section.Between session) = Between
phase_of (section.Within session txn) = Within
phase_of section.Scheduled = Scheduled

-- where a script stands behind one statement more
abbrev phase_after : List ℕ → SoFar → Section → Statement → Phase
phase_after bytes sofar at statement = phase_of (after bytes (record sofar { section = at }) statement).section

-- what may stand there may follow there
may_follow : (bytes : List ℕ) (sofar : SoFar) (at : Section) (s : Statement) (rest : List Statement) → may_stand_at at (word_of s) ≡ true → is_last_of s ≡ false
    → Follows (phase_after bytes sofar at s) rest → Follows (phase_of at) (s ∷ rest)
may_follow bytes sofar section.Defining (tree.Create table columns) rest allowed last f = f
may_follow bytes sofar section.Defining (tree.Insert table values) rest allowed last f = f
may_follow bytes sofar section.Defining (tree.Session name) rest allowed last f = f
may_follow bytes sofar section.Defining (tree.Schedule turns) rest allowed last f = f
may_follow bytes sofar section.Defining other rest allowed last f = absurd cc
may_follow bytes sofar (section.Between session) (tree.Begin read_only) rest allowed last f = f
may_follow bytes sofar (section.Between session) (tree.Session name) rest allowed last f = f
may_follow bytes sofar (section.Between session) (tree.Schedule turns) rest allowed last f = f
may_follow bytes sofar (section.Between session) other rest allowed last f = absurd cc
may_follow bytes sofar (section.Within session txn) (tree.Select selection) rest allowed last f = f
may_follow bytes sofar (section.Within session txn) (tree.Insert table values) rest allowed last f = f
may_follow bytes sofar (section.Within session txn) (tree.Update table sets test) rest allowed last f = f
may_follow bytes sofar (section.Within session txn) (tree.Delete table test) rest allowed last f = f
may_follow bytes sofar (section.Within session txn) (tree.Savepoint name) rest allowed last f = f
may_follow bytes sofar (section.Within session txn) (tree.RollbackTo name) rest allowed last f = f
may_follow bytes sofar (section.Within session txn) (tree.Release name) rest allowed last f = f
may_follow bytes sofar (section.Within session txn) tree.Commit rest allowed last f = f
may_follow bytes sofar (section.Within session txn) tree.Rollback rest allowed last f = f
may_follow bytes sofar (section.Within session txn) other rest allowed last f = absurd cc
may_follow bytes sofar section.Scheduled tree.End rest allowed last f = absurd cc
may_follow bytes sofar section.Scheduled other rest allowed last f = absurd cc

-- END that may stand there may follow there
may_end : (at : Section) (s : Statement) → may_stand_at at (word_of s) ≡ true → is_last_of s ≡ true → (s ≡ tree.End) × Follows (phase_of at) (s ∷ [])
may_end section.Defining tree.End allowed last = (refl, refl)
may_end (section.Between session) tree.End allowed last = (refl, refl)
may_end (section.Within session txn) tree.End allowed last = absurd cc
may_end section.Scheduled tree.End allowed last = (refl, refl)
may_end at other allowed last = absurd cc

-- what may follow there may stand there
may_stand_there : (bytes : List ℕ) (sofar : SoFar) (at : Section) (s : Statement) (rest : List Statement) → is_last_of s ≡ false → Follows (phase_of at) (s ∷ rest)
    → (may_stand_at at (word_of s) ≡ true) × Follows (phase_after bytes sofar at s) rest
may_stand_there bytes sofar section.Defining (tree.Create table columns) rest last f = (refl, f)
may_stand_there bytes sofar section.Defining (tree.Insert table values) rest last f = (refl, f)
may_stand_there bytes sofar section.Defining (tree.Session name) rest last f = (refl, f)
may_stand_there bytes sofar section.Defining (tree.Schedule turns) rest last f = (refl, f)
may_stand_there bytes sofar section.Defining tree.End rest last f = absurd cc
may_stand_there bytes sofar section.Defining other rest last f = absurd f
may_stand_there bytes sofar (section.Between session) (tree.Begin read_only) rest last f = (refl, f)
may_stand_there bytes sofar (section.Between session) (tree.Session name) rest last f = (refl, f)
may_stand_there bytes sofar (section.Between session) (tree.Schedule turns) rest last f = (refl, f)
may_stand_there bytes sofar (section.Between session) tree.End rest last f = absurd cc
may_stand_there bytes sofar (section.Between session) other rest last f = absurd f
may_stand_there bytes sofar (section.Within session txn) (tree.Select selection) rest last f = (refl, f)
may_stand_there bytes sofar (section.Within session txn) (tree.Insert table values) rest last f = (refl, f)
may_stand_there bytes sofar (section.Within session txn) (tree.Update table sets test) rest last f = (refl, f)
may_stand_there bytes sofar (section.Within session txn) (tree.Delete table test) rest last f = (refl, f)
may_stand_there bytes sofar (section.Within session txn) (tree.Savepoint name) rest last f = (refl, f)
may_stand_there bytes sofar (section.Within session txn) (tree.RollbackTo name) rest last f = (refl, f)
may_stand_there bytes sofar (section.Within session txn) (tree.Release name) rest last f = (refl, f)
may_stand_there bytes sofar (section.Within session txn) tree.Commit rest last f = (refl, f)
may_stand_there bytes sofar (section.Within session txn) tree.Rollback rest last f = (refl, f)
may_stand_there bytes sofar (section.Within session txn) other rest last f = absurd f
may_stand_there bytes sofar section.Scheduled tree.End rest last f = absurd cc
may_stand_there bytes sofar section.Scheduled other rest last f = absurd f

-- END that may follow there may stand there, and is the last
ends_there : (at : Section) (s : Statement) (rest : List Statement) → is_last_of s ≡ true → Follows (phase_of at) (s ∷ rest) → (s ≡ tree.End) × (may_stand_at at (word_of s) ≡ true) × (rest ≡ [])
ends_there section.Defining tree.End rest last f = (refl, refl, f)
ends_there (section.Between session) tree.End rest last f = (refl, refl, f)
ends_there (section.Within session txn) tree.End rest last f = absurd f
ends_there section.Scheduled tree.End rest last f = (refl, refl, f)
ends_there at other rest last f = absurd cc

-- ---- what is accepted is a sentence

-- from an offset on the bytes spell statements that may follow there, and say this script
record ReadsFrom (bytes : List ℕ) (options : Options) (sofar : SoFar) (at : ℕ) (read : Script) : Type 0 where
  statements : List Statement
  spelled : SpellsFrom bytes at statements
  follow : Follows (phase_of sofar.section) statements
  free : NoneIsRefused bytes options sofar statements
  says : read ≡ script_of options (after_all bytes sofar statements)

module _ (sentences : ParsesSentences) (bytes : List ℕ) (options : Options) where
  -- what stands at an offset is parsed there
  parsed_here : (sofar : SoFar) (at : ℕ) (s : Statement) (end : ℕ) → Stands bytes options sofar at s end → parsed bytes at ≡ Ok (s, end)
  parsed_here sofar at s end stands = sym (parsed_again bytes stands.span.start at (found_again bytes at (token.Reserved stands.keyword) stands.span stands.begun)) ∙ stands.parses

  -- the statement's word may stand there
  allowed_here : (sofar : SoFar) (at : ℕ) (s : Statement) (end : ℕ) → Stands bytes options sofar at s end → may_stand_at sofar.section (word_of s) ≡ true
  allowed_here sofar at s end stands =
      ap (may_stand_at sofar.section) (sym (same_word sentences bytes at s end stands.keyword stands.span (parsed_here sofar at s end stands) stands.begun)) ∙ stands.allowed

  -- a statement, and what is read behind it
  read_more : (sofar : SoFar) (at : ℕ) (s : Statement) (end : ℕ) (read : Script) → Stands bytes options sofar at s end → is_last_of s ≡ false
      → ReadsFrom bytes options (after bytes sofar s) end read → ReadsFrom bytes options sofar at read
  read_more sofar at s end read stands last rest = record {
    statements = s ∷ rest.statements;
    spelled = (end, parsed_here sofar at s end stands, rest.spelled);
    follow = may_follow bytes sofar sofar.section s rest.statements (allowed_here sofar at s end stands) last rest.follow;
    free = (stands.free, rest.free);
    says = rest.says;
  }

  -- END
  read_end : (sofar : SoFar) (at : ℕ) (s : Statement) (end : ℕ) (span : Span) (read : Script) → Stands bytes options sofar at s end → is_last_of s ≡ true
      → token_at bytes end ≡ Ok (token.End, span) → read ≡ script_of options sofar → ReadsFrom bytes options sofar at read
  read_end sofar at s end span read stands last behind says =
      let ended = may_end sofar.section s (allowed_here sofar at s end stands) last in
      record {
        statements = s ∷ [];
        spelled = (end, parsed_here sofar at s end stands, (span, behind));
        follow = ended.1;
        free = (stands.free, tt);
        says = says ∙ ap (λ (s : Statement). script_of options (after bytes sofar s)) (sym ended.0);
      }

  -- what was read from an offset on
  read_from : (most : ℕ) (sofar : SoFar) (at : ℕ) (read : Script) → answer_within most bytes options (GoOn sofar at) ≡ Some (Ok read) → ReadsFrom bytes options sofar at read
  unfolding answer_within
  read_from zero sofar at read is = absurd cc
  read_from (suc most) sofar at read is = go (next_at bytes options sofar at) (stepped bytes options sofar at) is (read_from most)
    where
      go : (next : Next) → Step bytes options sofar at next → answer_within most bytes options next ≡ Some (Ok read)
          → ((new : SoFar) (end : ℕ) (read : Script) → answer_within most bytes options (GoOn new end) ≡ Some (Ok read) → ReadsFrom bytes options new end read)
          → ReadsFrom bytes options sofar at read
      go _ (refuses why) is rest = absurd (cc is)
      go _ (goes_on s end stands last) is rest = read_more sofar at s end read stands last (rest (after bytes sofar s) end read is)
      go _ (ends s end span stands last behind) is rest =
          let says : read ≡ script_of options sofar = cc is in
          read_end sofar at s end span read stands last behind says

  -- what was read of all the statements
  read_accepts : (read : Script) → length bytes ≤ MOST_BYTES → IsUtf8 bytes → IsRead bytes options (Ok read) → IsAccepted bytes options read
  read_accepts read short good is = by_found is.found is.reads is.is
    where
      by_found : (found : Result Script Stop) → answer_within is.statements bytes options (GoOn nothing 0) ≡ Some found → Ok read ≡ answered bytes found → IsAccepted bytes options read
      by_found (Err why) reads same = absurd (cc same)
      by_found (Ok other) reads same =
          let same_read : other ≡ read = cc same in
          let all = read_from is.statements nothing 0 read (reads ∙ ap (λ (s : Script). Some (Ok s)) same_read) in
          record { short = short; utf8 = good; statements = all.statements; spelled = all.spelled; sentence = is_sentence all.statements all.follow; free = all.free; says = all.says }

-- what is accepted is a sentence, and says this script
pub accepted : ParsesSentences → (bytes : List ℕ) (options : Options) (read : Script) → Reads bytes options (Ok read) → IsAccepted bytes options read
accepted sentences bytes options read reads = by_reads (Ok read) reads refl
  where
    by_reads : (answer : Result Script Refused) → Reads bytes options answer → answer ≡ Ok read → IsAccepted bytes options read
    by_reads _ (too_long long) same = absurd (cc same)
    by_reads _ (not_utf8 short bad) same = absurd (cc same)
    by_reads answer (statements _ short good is) same = read_accepts sentences bytes options read short good (subst (IsRead bytes options) same is)

-- what is accepted spells a sentence
pub spells_sentence : ParsesSentences → (bytes : List ℕ) (options : Options) (read : Script) → Reads bytes options (Ok read) → SpellsScript bytes
spells_sentence sentences bytes options read reads = let is = accepted sentences bytes options read reads in (is.statements, is.spelled, is.sentence)

-- ---- a sentence is accepted

module _ (sentences : ParsesSentences) (bytes : List ℕ) (options : Options) where
  -- a statement that is parsed, may stand there and has no cause stands there
  stands_here : (sofar : SoFar) (at : ℕ) (s : Statement) (end : ℕ) → parsed bytes at ≡ Ok (s, end) → may_stand_at sofar.section (word_of s) ≡ true → refusal_in bytes options sofar s ≡ None
      → Stands bytes options sofar at s end
  stands_here sofar at s end parses allowed free =
      let first = word_first sentences bytes at s end parses in
      record {
        keyword = word_of s;
        span = first.0;
        begun = first.1;
        allowed = allowed;
        parses = parsed_again bytes first.0.start at (found_again bytes at (token.Reserved (word_of s)) first.0 first.1) ∙ parses;
        free = free;
      }

  -- what stands at an offset is taken
  taken_here : (sofar : SoFar) (at : ℕ) (s : Statement) (end : ℕ) → Stands bytes options sofar at s end → next_at bytes options sofar at ≡ taken bytes options sofar s end
  taken_here sofar at s end stands =
      ap (next_from bytes options sofar) stands.begun
      ∙ ap (λ (b : Bool). cond b (judged bytes options sofar stands.span.start (parsed bytes stands.span.start)) (Refuse (stop code.Syntax stands.span.start))) stands.allowed
      ∙ ap (judged bytes options sofar stands.span.start) stands.parses
      ∙ ap (λ (c : Option Code). unless_refused c stands.span.start (taken bytes options sofar s end)) stands.free

  -- statements that may follow and have no cause are read
  abbrev Answers : SoFar → ℕ → List Statement → Type 0
  Answers sofar at all = (most : ℕ) × (answer_within most bytes options (GoOn sofar at) ≡ Some (Ok (script_of options (after_all bytes sofar all))))

  -- END is answered by the script
  answer_end : (sofar : SoFar) (at : ℕ) (s : Statement) (rest : List Statement) → is_last_of s ≡ true → SpellsFrom bytes at (s ∷ rest) → Follows (phase_of sofar.section) (s ∷ rest)
      → NoneIsRefused bytes options sofar (s ∷ rest) → Answers sofar at (s ∷ rest)
  answer_end sofar at s rest last spelled follow free =
      let ended = ends_there sofar.section s rest last follow in
      let behind = subst (SpellsFrom bytes spelled.0) ended.2 spelled.2 in
      let stands = stands_here sofar at s spelled.0 spelled.1 ended.1 free.0 in
      let next : next_at bytes options sofar at ≡ Read (script_of options sofar) =
      taken_here sofar at s spelled.0 stands
      ∙ ap (λ (b : Bool). cond b (at_end_of (token_at bytes spelled.0) (script_of options sofar)) (GoOn (after bytes sofar s) spelled.0)) last
      ∙ ap (λ (r : Result (Token × Span) Bad). at_end_of r (script_of options sofar)) behind.1 in
      let same : sofar ≡ after_all bytes (after bytes sofar s) rest =
      ap (λ (s : Statement). after bytes sofar s) (sym ended.0) ∙ ap (after_all bytes (after bytes sofar s)) (sym ended.2) in
      (1, read_last bytes options sofar at (script_of options sofar) next ∙ ap (λ (f : SoFar). Some (Ok (script_of options f))) same)

  -- and so are statements up to END
  answer_all : (all : List Statement) (sofar : SoFar) (at : ℕ) → SpellsFrom bytes at all → Follows (phase_of sofar.section) all → NoneIsRefused bytes options sofar all → Answers sofar at all
  answer_all [] sofar at spelled follow free = absurd follow
  answer_all (s ∷ rest) sofar at spelled follow free = by_last (is_last_of s) refl (answer_all rest)
    where
      by_last : (last : Bool) → is_last_of s ≡ last
          → ((new : SoFar) (end : ℕ) → SpellsFrom bytes end rest → Follows (phase_of new.section) rest → NoneIsRefused bytes options new rest → Answers new end rest)
          → Answers sofar at (s ∷ rest)
      by_last true last others = answer_end sofar at s rest last spelled follow free
      by_last false last others =
          let there = may_stand_there bytes sofar sofar.section s rest last follow in
          let stands = stands_here sofar at s spelled.0 spelled.1 there.0 free.0 in
          let next : next_at bytes options sofar at ≡ GoOn (after bytes sofar s) spelled.0 =
          taken_here sofar at s spelled.0 stands
          ∙ ap (λ (b : Bool). cond b (at_end_of (token_at bytes spelled.0) (script_of options sofar)) (GoOn (after bytes sofar s) spelled.0)) last in
          let more = others (after bytes sofar s) spelled.0 spelled.2 there.1 free.1 in
          (suc more.0, read_on more.0 bytes options sofar at (GoOn (after bytes sofar s) spelled.0) _ next more.1)

-- a sentence none of whose statements is refused is accepted
pub accepts : ParsesSentences → (bytes : List ℕ) (options : Options) (read : Script) → IsAccepted bytes options read → Reads bytes options (Ok read)
accepts sentences bytes options read is =
    let all = answer_all sentences bytes options is.statements nothing 0 is.spelled (sentence_follows is.statements is.sentence) is.free in
    statements (Ok read) is.short is.utf8 (record { statements = all.0; found = _; reads = all.1; is = ap (λ (s : Script). Ok s) is.says })

-- ---- what is no sentence is refused

-- bytes spell one list of statements
pub spelled_once : ParsesSentences → (bytes : List ℕ) (at : ℕ) (one other : List Statement) → SpellsFrom bytes at one → SpellsFrom bytes at other → one ≡ other
spelled_once sentences bytes at [] [] h g = refl
spelled_once sentences bytes at [] (s ∷ other) h g =
    let first = word_first sentences bytes at s g.0 g.1 in
    let same = same_token (token_at bytes at) token.End (token.Reserved (word_of s)) h.0 first.0 h.1 first.1 in
    absurd (cc same)
spelled_once sentences bytes at (s ∷ one) [] h g =
    let first = word_first sentences bytes at s h.0 h.1 in
    let same = same_token (token_at bytes at) token.End (token.Reserved (word_of s)) g.0 first.0 g.1 first.1 in
    absurd (cc same)
spelled_once sentences bytes at (s ∷ one) (t ∷ other) h g =
    let found : Statement × ℕ = (s, h.0) in
    let again : Statement × ℕ = (t, g.0) in
    let both = sym h.1 ∙ g.1 in
    let same : found ≡ again = cc both in
    let here = ap (λ (p : Statement × ℕ). p.0) same in
    let ends = ap (λ (p : Statement × ℕ). p.1) same in
    let rest = spelled_once sentences bytes h.0 one other h.2 (subst (λ (end : ℕ). SpellsFrom bytes end other) (sym ends) g.2) in
    ap (λ (s : Statement). s ∷ one) here ∙ ap (λ (l : List Statement). t ∷ l) rest

-- what spells no sentence is refused
pub no_sentence : ParsesSentences → (bytes : List ℕ) (options : Options) (answer : Result Script Refused) → (SpellsScript bytes → ⊥) → Reads bytes options answer → IsErr answer
no_sentence sentences bytes options (Err refused) none reads = refl
no_sentence sentences bytes options (Ok read) none reads = absurd (none (spells_sentence sentences bytes options read reads))
