use Rattle.std.proofs.Common.{◌≡◌, ℕ, List, [], ◌∷◌, Option, None, false, refl, sym, ap, ◌∙◌}
use Rattle.std.specs.List.{list_any}
use Rattle.hy_value.specs.declared.Value.{Value}
use Rattle.hy_meaning.specs.Statement.{has_key_of}
use Rattle.hy_alone.proofs.writes.finds_key.Goals as goal

-- without a key nothing is found
none_found : (new : List Value) (rows : List (List Value)) → list_any (has_key_of new None) rows ≡ false
none_found new [] = refl
none_found new (row ∷ rows) = none_found new rows

pub returns-in-None : goal.returns-in-None
returns-in-None c = sym (ap (λ (key : Option ℕ). list_any (has_key_of c.args.new.now key) c.args.rows.now) c.in-None.is ∙ none_found c.args.new.now c.args.rows.now)
