-- Once there is a session no line asks for first rows.
use Rattle.std.specs.Option.{option_map}
use Rattle.std.specs.Str.{is_utf8}
use Rattle.std.specs.Prelude.{◌==◌, nat_le, is_some}
use Rattle.std.proofs.Common.{◌≡◌, ℕ, ◌+◌, Bool, true, false, cond, List, Option, Some, None, Result, Ok, Err, length, refl}
use Rattle.hy_token.specs.Token.{token_at}
use Rattle.hy_ast.specs.Trees.{Statement}
use Rattle.hy_ast.specs.Trees as tree
use Rattle.hy_schema.specs.Names.{number_of}
use Rattle.hy_bound.specs.declared.Bound.{Bound}
use Rattle.hy_bind.specs.Statements.{bound_of}
use Rattle.hy_script.specs.declared.Options.{Options}
use Rattle.hy_script.specs.declared.codes.Code.{Code}
use Rattle.hy_script.specs.declared.codes.Code.TheVariants as code
use Rattle.hy_script.specs.declared.judging.Standing.{Standing}
use Rattle.hy_script.specs.Refusals.{name_in, statement_code, with_bound}
use Rattle.hy_serving.specs.declared.Cause.{Cause}
use Rattle.hy_serving.specs.declared.Cause.TheVariants.{Script, NoneOpen}
use Rattle.hy_serving.specs.declared.Desk.{Desk}
use Rattle.hy_serving.specs.declared.Saying.{Saying}
use Rattle.hy_serving.specs.declared.Saying.TheVariants.{Begins, Says, Closes}
use Rattle.hy_serving.specs.declared.lines.Heading.{Heading}
use Rattle.hy_serving.specs.declared.lines.Heading.TheVariants as heading
use Rattle.hy_serving.specs.declared.lines.Words.TheVariants as words
use Rattle.hy_serving.specs.Lines.{heading_of, one_statement}
use Rattle.hy_serving.specs.Saying.{begin_cause, begins, begun_in, closes, defines_if_one, ended, ends_if_one, heard, heard_at, place_at, refuses, says, says_at, says_if_one, says_of, unless_refused, with_session, with_standing, without_rows}
use Rattle.hy_limits.specs.declared.TheConstants.{MOST_SESSIONS}

-- the same is said, and what is left is the same without first rows
abbrev pub IsSame : Saying × Desk → Saying × Desk → Type 0
IsSame one other = (one.0 ≡ other.0) × (one.1 ≡ without_rows other.1)

either : (so : Bool) (a b c d : Saying × Desk) → IsSame a c → IsSame b d → IsSame (cond so a b) (cond so c d)
either true a b c d first second = first
either false a b c d first second = second

unless : (desk : Desk) (name : Option (List ℕ)) (cause : Option Cause) (one other : Saying × Desk) → IsSame one other
    → IsSame (unless_refused (without_rows desk) name cause one) (unless_refused desk name cause other)
unless desk name None one other is = is
unless desk name (Some cause) one other is = (refl, refl)

at : (desk : Desk) (line name : List ℕ) (number : ℕ) (statement : Statement) (found : Option Standing)
    → IsSame (says_at (without_rows desk) line name number statement found) (says_at desk line name number statement found)
at desk line name number statement None = (refl, refl)
at desk line name number statement (Some standing) =
    let bound : Bound = bound_of line desk.sofar.catalog statement in
    let done : Desk → Saying × Desk = λ (d : Desk). (Says number bound, with_standing d number (Some (with_bound standing bound))) in
    unless desk (Some name) (option_map Script (statement_code line desk.sofar.catalog standing statement)) (done (without_rows desk)) (done desk) (refl, refl)

of : (desk : Desk) (line name : List ℕ) (statement : Statement) (found : Option ℕ)
    → IsSame (says_of (without_rows desk) line name statement found) (says_of desk line name statement found)
of desk line name statement None = (refl, refl)
of desk line name statement (Some number) = at desk line name number statement (place_at desk number).standing

begun : (desk : Desk) (name : List ℕ) (read_only : Bool) (found : Option ℕ) → IsSame (begins (without_rows desk) name read_only found) (begins desk name read_only found)
begun desk name read_only None =
    let full : Desk → Saying × Desk = λ (d : Desk). refuses d (Some name) (Script code.Limit) in
    let done : Desk → Saying × Desk = λ (d : Desk). (Begins (length d.sofar.names) read_only (Some name), with_session d name read_only) in
    either (nat_le MOST_SESSIONS (length desk.sofar.names)) (full (without_rows desk)) (done (without_rows desk)) (full desk) (done desk) (refl, refl) (refl, refl)
begun desk name read_only (Some number) =
    let done : Desk → Saying × Desk = λ (d : Desk). (Begins number read_only None, begun_in d number read_only) in
    unless desk (Some name) (begin_cause (place_at desk number)) (done (without_rows desk)) (done desk) (refl, refl)

closed : (desk : Desk) (name : List ℕ) (commits : Bool) (found : Option ℕ) → IsSame (closes (without_rows desk) name commits found) (closes desk name commits found)
closed desk name commits None = (refl, refl)
closed desk name commits (Some number) =
    let none : Desk → Saying × Desk = λ (d : Desk). refuses d (Some name) NoneOpen in
    let done : Desk → Saying × Desk = λ (d : Desk). (Closes number commits, ended number d) in
    either (is_some (place_at desk number).standing) (done (without_rows desk)) (none (without_rows desk)) (done desk) (none desk) (refl, refl) (refl, refl)

said : (desk : Desk) (line name : List ℕ) (statement : Statement) → IsSame (says (without_rows desk) line name statement) (says desk line name statement)
said desk line name (tree.Begin read_only) = begun desk name read_only (number_of desk.sofar.names name)
said desk line name tree.Commit = closed desk name true (number_of desk.sofar.names name)
said desk line name tree.Rollback = closed desk name false (number_of desk.sofar.names name)
said desk line name (tree.Create table columns) = (refl, refl)
said desk line name (tree.Session other) = (refl, refl)
said desk line name (tree.Schedule turns) = (refl, refl)
said desk line name tree.End = (refl, refl)
said desk line name (tree.Select selection) = of desk line name (tree.Select selection) (number_of desk.sofar.names name)
said desk line name (tree.Insert table values) = of desk line name (tree.Insert table values) (number_of desk.sofar.names name)
said desk line name (tree.Update table sets test) = of desk line name (tree.Update table sets test) (number_of desk.sofar.names name)
said desk line name (tree.Delete table test) = of desk line name (tree.Delete table test) (number_of desk.sofar.names name)
said desk line name (tree.Savepoint saved) = of desk line name (tree.Savepoint saved) (number_of desk.sofar.names name)
said desk line name (tree.RollbackTo saved) = of desk line name (tree.RollbackTo saved) (number_of desk.sofar.names name)
said desk line name (tree.Release saved) = of desk line name (tree.Release saved) (number_of desk.sofar.names name)

said_if_one : (desk : Desk) (line name : List ℕ) (found : Result Statement Code) → IsSame (says_if_one (without_rows desk) line name found) (says_if_one desk line name found)
said_if_one desk line name (Ok statement) = said desk line name statement
said_if_one desk line name (Err cause) = (refl, refl)

bare : (options : Options) (desk : Desk) (line : List ℕ) (none : Bool) (found : Result Statement Code) (ending : Saying) → none ≡ false
    → IsSame (cond none (defines_if_one options (without_rows desk) line found) (ending, without_rows desk)) (cond none (defines_if_one options desk line found) (ending, desk))
bare options desk line true found ending is = absurd cc
bare options desk line false found ending is = (refl, refl)

headed : (options : Options) (desk : Desk) (line : List ℕ) (first : Heading) → (length desk.sofar.names == 0) ≡ false
    → IsSame (heard_at options (without_rows desk) line first) (heard_at options desk line first)
headed options desk line heading.Blank there = (refl, refl)
headed options desk line heading.Bad there = (refl, refl)
headed options desk line heading.Bare there =
    bare options desk line (length desk.sofar.names == 0) (one_statement words.Defining line 0) (ends_if_one (one_statement words.Ending line 0)) there
headed options desk line (heading.Named span) there = said_if_one desk line (name_in line span) (one_statement words.Session line (span.end + 1))

pub same : (options : Options) (desk : Desk) (line : List ℕ) → (length desk.sofar.names == 0) ≡ false → IsSame (heard options (without_rows desk) line) (heard options desk line)
same options desk line there =
    let first : Heading = heading_of line (token_at line 0) in
    let other : Desk → Saying × Desk = λ (d : Desk). refuses d None (Script code.NotUtf8) in
    either (is_utf8 line) (heard_at options (without_rows desk) line first) (other (without_rows desk)) (heard_at options desk line first) (other desk)
    (headed options desk line first there) (refl, refl)
