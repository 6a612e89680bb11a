-- What a command takes once arguments are added to it.
use Rattle.std.proofs.Common.{◌≡◌, ◌∙◌, [], ◌∷◌, ◌++◌, false, ap, append_assoc}
use Rattle.clap.specs.Words.{AddsArg, App, rule_of, shape_of, with_rule}
use Rattle.clap.specs.declared.builder.arg.Arg.{Arg}
use Rattle.clap.specs.declared.builder.command.Command.{Command}

-- two arguments, one after the other
pub added_twice : (old mid new : Command) (first second : Arg) → AddsArg old first mid → AddsArg mid second new
    → first.global ≡ false → second.global ≡ false
    → shape_of new ≡ record (shape_of old) { rules = (shape_of old).rules ++ rule_of first ∷ rule_of second ∷ [] }
added_twice old mid new first second one two is same =
    ap (λ (a : App). a.top) (two.shape same)
    ∙ ap (λ (a : App). (with_rule a (rule_of second)).top) (one.shape is)
    ∙ ap (λ rules. record (shape_of old) { rules = rules }) (append_assoc (shape_of old).rules (rule_of first ∷ []) (rule_of second ∷ []))
