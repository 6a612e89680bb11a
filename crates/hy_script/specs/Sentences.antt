-- The grammar of whole scripts, over their statements, and the statements that bytes spell.
use Rattle.std.specs.Prelude.{◌≡◌, ℕ, ◌≤◌, Bool, List, [], ◌∷◌, ◌++◌, length, None, Ok}
use Rattle.std.specs.List.{AllByRecursion}
use Rattle.std.specs.Str.{IsUtf8}
use Rattle.hy_ast.specs.declared.Turn.{Turn}
use Rattle.hy_ast.specs.Trees.{Statement}
use Rattle.hy_ast.specs.Trees as tree
use Rattle.hy_parse.specs.Parsing.{parsed}
use Rattle.hy_script.specs.declared.Options.{Options}
use Rattle.hy_script.specs.declared.Script.{Script}
use Rattle.hy_script.specs.declared.sofar.SoFar.{SoFar}
use Rattle.hy_script.specs.Growing.{nothing, after, script_of}
use Rattle.hy_limits.specs.declared.TheConstants.{MOST_BYTES}
use Rattle.hy_script.specs.Refusals.{refusal_in}
use Rattle.hy_token.specs.declared.Span.{Span}
use Rattle.hy_token.specs.declared.Token.TheVariants as token
use Rattle.hy_token.specs.Token.{token_at}

-- ---- the grammar

-- a definition: CREATE TABLE, or INSERT of a first row
abbrev pub IsDefinition : Statement → Type 0
IsDefinition (tree.Create table columns) = Unit {0}
IsDefinition (tree.Insert table values) = Unit {0}
IsDefinition _ = ⊥

-- a statement that stands in a transaction: SELECT, INSERT, UPDATE, DELETE, SAVEPOINT, ROLLBACK TO or RELEASE
abbrev pub IsTransactional : Statement → Type 0
IsTransactional (tree.Select selection) = Unit {0}
IsTransactional (tree.Insert table values) = Unit {0}
IsTransactional (tree.Update table sets test) = Unit {0}
IsTransactional (tree.Delete table test) = Unit {0}
IsTransactional (tree.Savepoint name) = Unit {0}
IsTransactional (tree.RollbackTo name) = Unit {0}
IsTransactional (tree.Release name) = Unit {0}
IsTransactional _ = ⊥

-- what closes a transaction: COMMIT or ROLLBACK
abbrev pub IsClosing : Statement → Type 0
IsClosing tree.Commit = Unit {0}
IsClosing tree.Rollback = Unit {0}
IsClosing _ = ⊥

-- any number of parts, one behind another
pub data Many (IsPart : List Statement → Type 0) : List Statement → Type 0 where
  none : Many IsPart []
  more : (part rest : List Statement) → IsPart part → Many IsPart rest → Many IsPart (part ++ rest)

-- txn := BEGIN [READ ONLY] ; stmt* (COMMIT | ROLLBACK) ;
pub data IsTransaction : List Statement → Type 0 where
  transaction : (read_only : Bool) (body : List Statement) (closing : Statement) → AllByRecursion IsTransactional body → IsClosing closing
      → IsTransaction (tree.Begin read_only ∷ (body ++ closing ∷ []))

-- session := SESSION name ; txn*
pub data IsSession : List Statement → Type 0 where
  session : (name : Span) (transactions : List Statement) → Many IsTransaction transactions → IsSession (tree.Session name ∷ transactions)

-- [schedule]
pub data IsSchedule : List Statement → Type 0 where
  no_schedule : IsSchedule []
  schedule : (turns : List Turn) → IsSchedule (tree.Schedule turns ∷ [])

-- script := def* session* [schedule] END ;
pub data IsScript : List Statement → Type 0 where
  script : (definitions sessions schedule : List Statement) → AllByRecursion IsDefinition definitions → Many IsSession sessions → IsSchedule schedule
      → IsScript (definitions ++ (sessions ++ (schedule ++ tree.End ∷ [])))

-- ---- the statements of a script

-- From an offset on the bytes spell these statements: each is parsed where the one before it ended, and behind
-- the last there is nothing but space and comments.
abbrev pub SpellsFrom : List ℕ → ℕ → List Statement → Type 0
SpellsFrom bytes at [] = (span : Span) × (token_at bytes at ≡ Ok (token.End, span))
SpellsFrom bytes at (statement ∷ rest) = (end : ℕ) × (parsed bytes at ≡ Ok (statement, end)) × SpellsFrom bytes end rest

-- the statements that bytes spell
abbrev pub Spells : List ℕ → List Statement → Type 0
Spells bytes statements = SpellsFrom bytes 0 statements

-- the bytes spell a sentence of the grammar
abbrev pub SpellsScript : List ℕ → Type 0
SpellsScript bytes = (statements : List Statement) × Spells bytes statements × IsScript statements

-- ---- what a script says, statement by statement

-- what the script says after these statements more
abbrev pub after_all : List ℕ → SoFar → List Statement → SoFar
after_all bytes sofar [] = sofar
after_all bytes sofar (statement ∷ rest) = after_all bytes (after bytes sofar statement) rest

-- none of these statements has a cause to be refused where it stands
abbrev pub NoneIsRefused : List ℕ → Options → SoFar → List Statement → Type 0
NoneIsRefused bytes options sofar [] = Unit {0}
NoneIsRefused bytes options sofar (statement ∷ rest) = (refusal_in bytes options sofar statement ≡ None) × NoneIsRefused bytes options (after bytes sofar statement) rest

-- The bytes are not too many and UTF-8. They spell a sentence of the grammar, none of whose statements is
-- refused, and the script is what these say one after another.
pub record IsAccepted (bytes : List ℕ) (options : Options) (read : Script) : Type 0 where
  pub short : length bytes ≤ MOST_BYTES
  pub utf8 : IsUtf8 bytes
  pub statements : List Statement
  pub spelled : Spells bytes statements
  pub sentence : IsScript statements
  pub free : NoneIsRefused bytes options nothing statements
  pub says : read ≡ script_of options (after_all bytes nothing statements)
