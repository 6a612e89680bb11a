use Rattle.std.proofs.Common.{◌≡◌, ◌+◌, List, None, Some, drop, option_map, slice_get, sym, ap, ◌∙◌, rules}
use Rattle.hy_value.specs.declared.change.Change.{Change}
use Rattle.hy_notes.specs.Notes.{place_of}
use Rattle.hy_notes.specs.Blocks.{joined}
use Rattle.hy_notes.specs.Levels.{noted_since, stretches_in}
use Rattle.hy_notes.proofs.Reading.{blocks_next, head_left, none_left}
use Rattle.hy_notes.proofs.levels.Levels.first_of_blocks.Goals as goal

pub returns-in-Some : goal.returns-in-Some
returns-in-Some c =
    let stretches = drop c.args.begin (stretches_in c.args.self.now) in
    let block = c.block-item.result in
    let rest = noted_since stretches (joined (drop (c.loop-block.block-index + 1) c.args.blocks.now)) in
    let here : option_map place_of (slice_get (noted_since stretches block.items) 0) ≡ Some c.in-Some.place =
    sym (c.first_of.ensures ∙ ap (λ (ns : List Change). option_map place_of (slice_get (noted_since stretches ns) 0)) c.as_slice.ensures.value) ∙ c.in-Some.is in
    sym (head_left (noted_since stretches block.items) rest c.in-Some.place here)
    ∙ ap (λ (ns : List Change). option_map place_of (slice_get ns 0))
    (sym (blocks_next stretches c.args.blocks.now c.loop-block.block-index block c.loop-block-test.true c.block-item.is) ∙ c.loop-block.invariant)

pub loop-block-preserved : goal.loop-block-preserved
loop-block-preserved c =
    let stretches = drop c.args.begin (stretches_in c.args.self.now) in
    let block = c.block-item.result in
    let rest = noted_since stretches (joined (drop (c.loop-block.block-index + 1) c.args.blocks.now)) in
    let none : c.first_of.result ≡ None = search rules in
    let here : option_map place_of (slice_get (noted_since stretches block.items) 0) ≡ None =
    sym (c.first_of.ensures ∙ ap (λ (ns : List Change). option_map place_of (slice_get (noted_since stretches ns) 0)) c.as_slice.ensures.value) ∙ none in
    sym (none_left (noted_since stretches block.items) rest here)
    ∙ (sym (blocks_next stretches c.args.blocks.now c.loop-block.block-index block c.loop-block-test.true c.block-item.is) ∙ c.loop-block.invariant)
