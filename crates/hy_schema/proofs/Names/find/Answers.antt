use Rattle.std.proofs.Common.{sym, ap, ◌∙◌}
use Rattle.std.specs.Str.{bytes_eq}
use Rattle.hy_schema.specs.Names.{number_of}
use Rattle.hy_schema.specs.Indexes.{position_map}
use Rattle.hy_schema.proofs.Names.find.Goals as goal

pub returns : goal.returns
returns c = c.get_index_of.ensures.index ∙ sym (position_map (bytes_eq c.args.name.now) (λ name. name.items) c.self.inside.names.keys) ∙ ap (λ names. number_of names c.args.name.now) c.self.view_is
