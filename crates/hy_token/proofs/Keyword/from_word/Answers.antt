use Rattle.std.proofs.Common.{ap, ◌∙◌, None, Some}
use Rattle.std.specs.Bool.{then_some}
use Rattle.hy_token.specs.Keyword.{same_but_case}
use Rattle.hy_token.proofs.ByShape.{of_its_shape, too_short}
use Rattle.hy_token.proofs.Keyword.from_word.Goals as goal

pub returns-in_default : goal.returns-in_default
returns-in_default c = too_short c.args.word.now c.in_default.len_below

pub returns-in_err-keyword : goal.returns-in_err-keyword
returns-in_err-keyword c = c.from_residual.ensures ∙ of_its_shape c.args.word.now None c.in-len2-up.len_at_least c.in_err-keyword.ensures

pub returns : goal.returns
returns c =
    let word = c.args.word.now in
    let keyword = c.in_ok-keyword.keyword in
    let same = c.is_same_but_case.ensures ∙ ap (λ spelling. same_but_case spelling word) (c.as_bytes.ensures.value ∙ c.spelling.ensures) in
    c.then_some.ensures ∙ ap (λ t. then_some t keyword) same ∙ of_its_shape word (Some keyword) c.in-len2-up.len_at_least c.in_ok-keyword.ensures
