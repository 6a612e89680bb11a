use Rattle.std.proofs.Common.{◌∙◌, ap, is_some}
use Rattle.hy_value.specs.TextBytes.{text_of}
use Rattle.hy_schema.specs.Names.{table_number}
use Rattle.hy_script.proofs.sofar.SoFar.has_table.Goals as goal

pub returns : goal.returns
returns c =
    c.is_some.ensures
    ∙ ap is_some (c.find.ensures ∙ ap (table_number c.args.self.now.catalog) (c.as_bytes.ensures.bytes ∙ (c.text-name.ensures ∙ ap text_of c.text_in.ensures)))
