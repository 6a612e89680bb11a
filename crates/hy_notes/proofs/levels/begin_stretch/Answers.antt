use Rattle.std.proofs.Common.{◌≡◌, ◌++◌, ◌∷◌, [], List, drop, map, ap, ◌∙◌}
use Rattle.hy_notes.specs.declared.blocks.Blocks.{Blocks}
use Rattle.hy_notes.specs.Blocks.{notes_in}
use Rattle.hy_notes.specs.Levels.{was_at}
use Rattle.hy_notes.proofs.Opened.{was_blank}
use Rattle.hy_notes.proofs.levels.begin_stretch.Goals as goal

pub returns-then-len-gt0-clause-told : goal.returns-then-len-gt0-clause-told
returns-then-len-gt0-clause-told c = λ begin table pos le.
    let older = c.args.older.now.items in
    let items : c.push_reserved.new.self.items ≡ older ++ c.args.newest.now ∷ [] = c.push_reserved.ensures.items ∙ ap (λ (b : Blocks). older ++ b ∷ []) c.replace.ensures.value in
    ap (λ (p : List Blocks × Blocks). was_at (drop begin (map notes_in p.0 ++ notes_in p.1 ∷ [])) table pos) (λ i. (items i, c.replace.ensures.after i))
    ∙ was_blank older c.args.newest.now c.new.result begin table pos le c.new.ensures.none
