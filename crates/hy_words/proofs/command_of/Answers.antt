use Rattle.std.proofs.Common.{◌≡◌, ◌∙◌, ap, map, rules, sym}
use Rattle.std.specs.Result.{result_ok}
use Rattle.std.specs.String.{string_bytes}
use Rattle.hy_words.specs.Words.{command_of}
use Rattle.hy_words.proofs.Taken.{left, ok_is, taken}
use Rattle.hy_words.proofs.command_of.Goals as goal

pub returns-in-Ok : goal.returns-in-Ok
returns-in-Ok c =
    let is : command_of (map string_bytes c.args.words.now) ≡ result_ok c.ok_or.result =
    taken _ _ c.in-Ok.matches c.in_ok-hy.ensures c.in-Ok.ensures.matches c.in-Ok.ensures.kinds
    ∙ sym c.asked.ensures.asked ∙ c.ok_or.ensures.ok_part in
    record { accepted = ok_is c.ok_or.result _ is; within = search rules; refused = λ refused. is ∙ ap result_ok refused }

pub returns-in-Err-clause-refused : goal.returns-in-Err-clause-refused
returns-in-Err-clause-refused c = λ refused. left _ _ _ c.in_ok-hy.ensures c.in-Err.ensures.kinds (search rules)
