use Rattle.std.proofs.Common.{◌≡◌, [], ◌∷◌, ◌++◌, None, map, sym, ap, ◌∙◌}
use Rattle.std.specs.List.{position}
use Rattle.std.specs.Str.{bytes_eq}
use Rattle.std.proofs.lemmas.List.{map-append}
use Rattle.hy_schema.specs.Names.{number_of}
use Rattle.hy_schema.specs.Indexes.{position_map}
use Rattle.hy_schema.proofs.Indexes.{comes_last}
use Rattle.hy_schema.proofs.Names.add.Goals as goal

pub returns-clause-added : goal.returns-clause-added
returns-clause-added c =
    let name = c.args.name.now in
    let keys = c.self.inside.names.keys in
    let added = c.in_ok-name.name in
    let kept : added.items ≡ name = c.in_ok-name.ensures.items in
    let missing : position (λ k. bytes_eq name k.items) keys ≡ None = sym (position_map (bytes_eq name) (λ k. k.items) keys) ∙ ap (λ names. number_of names name) c.self.view_is ∙ c.requires in
    let absent = ap (λ bytes. position (λ k. bytes_eq bytes k.items) keys) kept ∙ missing in
    ap (λ ks. map (λ k. k.items) ks) (c.in_ok-insert.ensures.keys ∙ comes_last (λ k. bytes_eq added.items k.items) keys added absent)
    ∙ map-append (λ k. k.items) keys (added ∷ [])
    ∙ ap (λ names. names ++ added.items ∷ []) c.self.view_is
    ∙ ap (λ bytes. c.args.self.now ++ bytes ∷ []) kept
