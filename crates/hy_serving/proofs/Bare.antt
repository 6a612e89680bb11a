-- What a line without a name comes to before there is a session.
use Rattle.std.specs.Prelude.{◌==◌, IfOk}
use Rattle.std.proofs.Common.{◌≡◌, ℕ, Bool, true, cond, List, Result, Ok, length, sym, ap, ◌∙◌, subst}
use Rattle.hy_ast.specs.Trees.{Statement, statement_of}
use Rattle.hy_ast.specs.declared.Statement.{Statement as Ast}
use Rattle.hy_script.specs.declared.Options.{Options}
use Rattle.hy_script.specs.declared.codes.Code.{Code}
use Rattle.hy_serving.specs.declared.Desk.{Desk}
use Rattle.hy_serving.specs.declared.Saying.{Saying}
use Rattle.hy_serving.specs.declared.lines.Words.TheVariants as words
use Rattle.hy_serving.specs.Lines.{Finds, one_statement}
use Rattle.hy_serving.specs.Saying.{defines, defines_if_one, ends_if_one, heard_bare}

-- it is what its one statement defines
defined_there : (options : Options) (desk : Desk) (line : List ℕ) (statement : Statement) → length desk.sofar.names ≡ 0
    → one_statement words.Defining line 0 ≡ Ok statement → heard_bare options desk line ≡ defines options desk line statement
defined_there options desk line statement none found =
    let one : Saying × Desk = defines_if_one options desk line (one_statement words.Defining line 0) in
    let other : Saying × Desk = (ends_if_one (one_statement words.Ending line 0), desk) in
    let so : (length desk.sofar.names == 0) ≡ true = ap (λ (many : ℕ). many == 0) none in
    ap (λ (b : Bool). cond b one other) so ∙ ap (λ (f : Result Statement Code). defines_if_one options desk line f) found

-- so where the program finds one, and says what it defines
pub heard_there : {E : Type 0} (options : Options) (desk : Desk) (line : List ℕ) (found : Result Ast Code) (ast : Ast) (result : Result Saying E) (left : Desk)
    → length desk.sofar.names ≡ 0 → Finds found (one_statement words.Defining line 0) → found ≡ Ok ast
    → IfOk result (λ saying. defines options desk line (statement_of ast) ≡ (saying, left))
    → IfOk result (λ saying. heard_bare options desk line ≡ (saying, left))
heard_there options desk line found ast result left none finds is said =
    let one = subst (λ (f : Result Ast Code). Finds f (one_statement words.Defining line 0)) is finds in
    subst (λ (heard : Saying × Desk). IfOk result (λ saying. heard ≡ (saying, left))) (sym (defined_there options desk line (statement_of ast) none one)) said
