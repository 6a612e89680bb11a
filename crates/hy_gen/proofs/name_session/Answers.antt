use Rattle.std.proofs.Common.{◌≡◌, true, sym, ◌∙◌, subst, arith, ℕ, List}
use Rattle.hy_value.specs.TextBytes.{is_text}
use Rattle.hy_gen.specs.Made.{session_name}
use Rattle.hy_gen.proofs.Names.{is_text-name}
use Rattle.hy_gen.proofs.name_session.Goals as goal

pub name-requires : goal.name-requires
name-requires c =
    let named : is_text (session_name c.args.number) ≡ true = is_text-name c.args.number (omega arith) in
    subst (λ (text : List ℕ). is_text text ≡ true) (sym (c.as_bytes.ensures.value ∙ c.in_ok-bytes.ensures.ok)) named
