-- What the words are, by what a parse of them comes to.
use Rattle.std.proofs.Common.{◌≡◌, ◌⊎◌, inl, inr, ◌∙◌, true, false, List, [], ◌∷◌, Option, Some, None, Result, Ok, Err, refl, rules, sym, ap, subst}
use Rattle.std.specs.Prelude.{IfOk, if◌then◌else◌}
use Rattle.std.specs.Result.{result_ok}
use Rattle.clap.specs.Faults.{fault_of, is_simple_and_free}
use Rattle.clap.specs.Kinds.{IsAmong, Kinds}
use Rattle.clap.specs.Simple.{App, HasMatchesOf, is_simple, subcommand_of, subcommand_rows_of}
use Rattle.clap.specs.Walk.{Text, is_empty}
use Rattle.clap.specs.declared.error.kind.ErrorKind.{ErrorKind}
use Rattle.clap.specs.declared.error.kind.ErrorKind.TheVariants as kind
use Rattle.clap.specs.declared.parser.matches.ArgMatches.{ArgMatches}
use Rattle.hy_words.specs.Grammar.{hy}
use Rattle.hy_words.specs.Words.{asked_by, command_of, refusal_of}
use Rattle.hy_words.specs.declared.Command.{Command}
use Rattle.hy_words.specs.declared.WordsError.{WordsError}
use Rattle.hy_words.specs.declared.WordsError.TheVariants.{Refused, OutOfMemory}

-- what words ask of a program
abbrev asked_of : App → List Text → Option Command
asked_of app words = if is_empty (fault_of app words) then asked_by (subcommand_of app words) else None

asked_where_taken : (app : App) (words : List Text) (m : ArgMatches) → is_simple app ≡ true → is_simple_and_free app ≡ true
    → HasMatchesOf app words m → (is_simple_and_free app ≡ true → fault_of app words ≡ []) → asked_of app words ≡ asked_by (subcommand_rows_of m)
asked_where_taken app words m simple free has faultless = rw (faultless free, (has simple).1) refl

-- a parse that succeeds has the matches of the words, and they have no fault
pub taken : (app : App) (words : List Text) (m : ArgMatches) → app ≡ hy → HasMatchesOf app words m
    → (is_simple_and_free app ≡ true → fault_of app words ≡ []) → command_of words ≡ asked_by (subcommand_rows_of m)
taken app words m is has faultless =
    asked_where_taken hy words m refl refl (subst (λ a. HasMatchesOf a words m) is has)
    (subst (λ a. is_simple_and_free a ≡ true → fault_of a words ≡ []) is faultless)

some_kind : (k : ErrorKind) (kinds : Kinds) → IsAmong k kinds → is_empty kinds ≡ false
some_kind k [] among = absurd among
some_kind k (first ∷ rest) among = search rules

-- a parse that fails for another reason than memory has a fault of the words
pub left : (app : App) (words : List Text) (k : ErrorKind) → app ≡ hy
    → (is_simple_and_free app ≡ true → (k ≡ kind.OutOfMemory) ⊎ IsAmong k (fault_of app words)) → refusal_of k ≡ Refused
    → command_of words ≡ None
left app words k is fails refused =
    go (subst (λ a. is_simple_and_free a ≡ true → (k ≡ kind.OutOfMemory) ⊎ IsAmong k (fault_of a words)) is fails refl)
  where
    go : (k ≡ kind.OutOfMemory) ⊎ IsAmong k (fault_of hy words) → command_of words ≡ None
    go (inl memory) =
        let bad : OutOfMemory ≡ Refused = sym (ap refusal_of memory) ∙ refused in absurd (search rules)
    go (inr among) = ap (λ b. if b then asked_by (subcommand_of hy words) else None) (some_kind k (fault_of hy words) among)

-- where the words are the command of a result, they are that of its `Ok`
pub ok_is : (r : Result Command WordsError) (asked : Option Command) → asked ≡ result_ok r → IfOk r (λ command. asked ≡ Some command)
ok_is (Ok command) asked is = is
ok_is (Err error) asked is = tt
