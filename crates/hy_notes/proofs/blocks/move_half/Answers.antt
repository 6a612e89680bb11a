use Rattle.std.proofs.Common.{◌≡◌, ℕ, ◌-◌, ◌++◌, List, [], take, drop, sym, ap, ◌∙◌, rules, vec_len}
use Rattle.std.specs.Vec.Iter.{drain_items}
use Rattle.std.proofs.lemmas.List.{append-nil, take_rest}
use Rattle.hy_value.specs.declared.change.Change.{Change}
use Rattle.hy_notes.proofs.blocks.move_half.Goals as goal

pub returns-clause-moved : goal.returns-clause-moved
returns-clause-moved c =
    let block = c.args.block.now in
    let none : drain_items c.loop-note.note-iterator ≡ [] = search rules in
    let all : c.loop-note.empty.items ++ drain_items c.loop-note.note-iterator ≡ drain_items c.into_iter-note-iterator.result = search rules in
    let first : drain_items c.into_iter-note-iterator.result ≡ take (vec_len block - 64) (drop 64 block.items) = search rules in
    sym (append-nil c.loop-note.empty.items)
    ∙ (ap (λ (ns : List Change). c.loop-note.empty.items ++ ns) (sym none)
    ∙ (all ∙ (first ∙ (ap (λ (n : ℕ). take (n - 64) (drop 64 block.items)) block.ok.0 ∙ take_rest block.items 64))))
