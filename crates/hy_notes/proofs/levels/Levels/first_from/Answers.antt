use Rattle.std.proofs.Common.{◌≡◌, ℕ, ◌-◌, List, Option, length, drop, take, sym, ap, ◌∙◌, subst, option_map, slice_get}
use Rattle.std.specs.List.{prefix_len}
use Rattle.std.proofs.lemmas.List.{take_rest}
use Rattle.hy_value.specs.declared.change.Change.{Change}
use Rattle.hy_notes.specs.declared.NotedPlace.{NotedPlace}
use Rattle.hy_notes.specs.Notes.{Ascends, below, place_of}
use Rattle.hy_notes.specs.Blocks.{notes_at, notes_before, notes_behind}
use Rattle.hy_notes.specs.Levels.{noted_since, stretches_in}
use Rattle.hy_notes.proofs.Placing.{ascends_within}
use Rattle.hy_notes.proofs.Edits.{all_at}
use Rattle.hy_notes.proofs.Finding.{or_else, found}
use Rattle.hy_notes.proofs.Reading.{found_since}
use Rattle.hy_notes.proofs.levels.Levels.first_from.Goals as goal

pub count_below-from-requires : goal.count_below-from-requires
count_below-from-requires c =
    let b = c.args.notes.now in
    let block = c.find-block.result in
    subst Ascends (sym c.notes-own.ensures)
    (ascends_within (notes_before b block) (notes_at b block) (notes_behind b block) (subst Ascends (all_at b block c.find-block.ensures.within) c.requires.notes.ascends))

pub returns-in-Some : goal.returns-in-Some
returns-in-Some c =
    let b = c.args.notes.now in
    let block = c.find-block.result in
    let stretches = drop c.args.begin (stretches_in c.args.self.now) in
    let own = c.notes-own.result.now in
    let from = c.count_below-from.result in
    let left : take (length own - from) (drop from own) ≡ drop (prefix_len (below c.args.table c.args.pos) (notes_at b block)) (notes_at b block) =
    take_rest own from ∙ (ap (λ (n : ℕ). drop n own) c.count_below-from.ensures.count
    ∙ ap (λ (ns : List Change). drop (prefix_len (below c.args.table c.args.pos) ns) ns) c.notes-own.ensures) in
    let here = sym (c.first_of.ensures ∙ ap (λ (ns : List Change). option_map place_of (slice_get (noted_since stretches ns) 0)) left) in
    let up : Ascends (notes_at b block) =
    ascends_within (notes_before b block) (notes_at b block) (notes_behind b block) (subst Ascends (all_at b block c.find-block.ensures.within) c.requires.notes.ascends) in
    sym (ap (λ (ns : List Change). option_map place_of (found c.args.table c.args.pos (noted_since stretches ns))) (all_at b block c.find-block.ensures.within)
    ∙ (found_since stretches (notes_before b block) (notes_at b block) (notes_behind b block) c.args.table c.args.pos c.find-block.ensures.before up c.find-block.ensures.behind
    ∙ ap (λ (o : Option NotedPlace). or_else o (option_map place_of (slice_get (noted_since stretches (notes_behind b block)) 0))) (here ∙ c.in-Some.is)))

pub returns-in-None : goal.returns-in-None
returns-in-None c =
    let b = c.args.notes.now in
    let block = c.find-block.result in
    let stretches = drop c.args.begin (stretches_in c.args.self.now) in
    let own = c.notes-own.result.now in
    let from = c.count_below-from.result in
    let left : take (length own - from) (drop from own) ≡ drop (prefix_len (below c.args.table c.args.pos) (notes_at b block)) (notes_at b block) =
    take_rest own from ∙ (ap (λ (n : ℕ). drop n own) c.count_below-from.ensures.count
    ∙ ap (λ (ns : List Change). drop (prefix_len (below c.args.table c.args.pos) ns) ns) c.notes-own.ensures) in
    let here = sym (c.first_of.ensures ∙ ap (λ (ns : List Change). option_map place_of (slice_get (noted_since stretches ns) 0)) left) in
    let up : Ascends (notes_at b block) =
    ascends_within (notes_before b block) (notes_at b block) (notes_behind b block) (subst Ascends (all_at b block c.find-block.ensures.within) c.requires.notes.ascends) in
    c.first_of_blocks.ensures
    ∙ (ap (λ (ns : List Change). option_map place_of (slice_get (noted_since stretches ns) 0)) c.behind.ensures
    ∙ sym (ap (λ (ns : List Change). option_map place_of (found c.args.table c.args.pos (noted_since stretches ns))) (all_at b block c.find-block.ensures.within)
    ∙ (found_since stretches (notes_before b block) (notes_at b block) (notes_behind b block) c.args.table c.args.pos c.find-block.ensures.before up c.find-block.ensures.behind
    ∙ ap (λ (o : Option NotedPlace). or_else o (option_map place_of (slice_get (noted_since stretches (notes_behind b block)) 0))) (here ∙ c.in-None.is))))
