use Rattle.std.proofs.Common.{◌∷◌, get_or, [], ap, ◌∙◌}
use Rattle.hy_chain.proofs.Edits.{joined_after}
use Rattle.std.proofs.Math.ListN.{set}
use Rattle.hy_chain.proofs.lists.Lists.join_newest.Goals as goal

pub returns-clause-chains : goal.returns-clause-chains
returns-clause-chains g c =
    let twice = c.take_newest-older_image.new.self.chains in
    let newer = c.take_newest-newer_image.result in
    let older = c.take_newest-older_image.result in
    joined_after g.D.Image.merged c.args.self.now.chains c.take_newest-newer_image.new.self.chains twice c.push_reserved.new.self.chains c.args.list
    (record { stamp = newer.0; image = newer.1 }) (record { stamp = older.0; image = older.1 }) c.requires.within
    c.take_newest-newer_image.ensures.first c.take_newest-newer_image.ensures.chains
    c.take_newest-older_image.ensures.first c.take_newest-older_image.ensures.chains
    (c.push_reserved.ensures.chains
    ∙ ap (λ (image : g.row.D.Denot). set twice c.args.list (record { stamp = newer.0; image = image } ∷ get_or twice c.args.list [])) c.merge_older.ensures)
