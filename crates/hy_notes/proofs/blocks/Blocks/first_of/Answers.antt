use Rattle.std.proofs.Common.{◌≡◌, ◌<◌, List, length, ap, ◌∙◌, arith, option_map, slice_get, vec_len}
use Rattle.hy_value.specs.declared.change.Change.{Change}
use Rattle.hy_notes.specs.Notes.{place_of}
use Rattle.hy_notes.proofs.Finding.{first_at}
use Rattle.hy_notes.proofs.blocks.Blocks.first_of.Goals as goal

pub returns-then-block-len : goal.returns-then-block-len
returns-then-block-len c =
    let self = c.args.self.now in
    let len : vec_len self.later ≡ length self.later.items = self.later.ok.0 in
    let within : c.args.block < length self.later.items = omega (arith, c.if-block-len.true, c.len.ensures, len) in
    c.place_at.ensures
    ∙ (ap (λ (ns : List Change). option_map place_of (slice_get ns 0)) c.notes.ensures
    ∙ ap (option_map place_of) (first_at self.later.items c.args.block self.first c.requires.later within))
