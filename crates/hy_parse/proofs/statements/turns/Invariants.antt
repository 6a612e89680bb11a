use Rattle.std.proofs.Common.{◌≡◌, ◌-◌, ◌++◌, [], ◌∷◌}
use Rattle.hy_token.specs.declared.Sign.TheVariants.{Bang}
use Rattle.hy_token.specs.declared.Token.TheVariants.{Name}
use Rattle.hy_parse.specs.Reading.{sign, span_of, links_within, flag_at, turns_at}
use Rattle.hy_parse.proofs.statements.turns.Given as goal

abbrev pub invariant-loop : goal.invariant-loop
invariant-loop l =
    links_within (span_of Name) (λ turns session whole. turns ++ record { session = session; whole = whole } ∷ []) (flag_at (sign Bang) []) (l.end - l.counter) l.turns l.rest ≡ turns_at l.pieces
