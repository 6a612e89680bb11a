use Rattle.std.proofs.Common.{◌≡◌, ℕ, List, Option, drop, sym, ap, ◌∙◌, subst, option_map, slice_get}
use Rattle.std.specs.List.{prefix_len}
use Rattle.hy_value.specs.declared.change.Change.{Change}
use Rattle.hy_notes.specs.declared.NotedPlace.{NotedPlace}
use Rattle.hy_notes.specs.Notes.{Ascends, below, place_of}
use Rattle.hy_notes.specs.Blocks.{joined, notes_at, notes_before, notes_behind}
use Rattle.hy_notes.proofs.Placing.{ascends_within}
use Rattle.hy_notes.proofs.Edits.{all_at}
use Rattle.hy_notes.proofs.Finding.{or_else, behind_is, first_found}
use Rattle.hy_notes.proofs.blocks.Blocks.first_from.Goals as goal

pub count_below-requires : goal.count_below-requires
count_below-requires c =
    let b = c.args.self.now in
    let block = c.find-block.result in
    subst Ascends (sym c.notes-notes.ensures)
    (ascends_within (notes_before b block) (notes_at b block) (notes_behind b block) (subst Ascends (all_at b block c.find-block.ensures.within) c.requires.ascends))

pub returns-in-Some : goal.returns-in-Some
returns-in-Some c =
    let b = c.args.self.now in
    let block = c.find-block.result in
    let here : c.place_at.result ≡ option_map place_of (slice_get (notes_at b block) (prefix_len (below c.args.table c.args.pos) (notes_at b block))) =
    c.place_at.ensures ∙ (ap (λ (n : ℕ). option_map place_of (slice_get c.notes-notes.result.now n)) c.count_below.ensures.count
    ∙ ap (λ (ns : List Change). option_map place_of (slice_get ns (prefix_len (below c.args.table c.args.pos) ns))) c.notes-notes.ensures) in
    sym (first_found b block c.args.table c.args.pos c.find-block.ensures
    ∙ ap (λ (o : Option NotedPlace). or_else o (option_map place_of (slice_get (notes_behind b block) 0))) (sym here ∙ c.in-Some.is))

pub returns-in-None : goal.returns-in-None
returns-in-None c =
    let b = c.args.self.now in
    let block = c.find-block.result in
    let here : c.place_at.result ≡ option_map place_of (slice_get (notes_at b block) (prefix_len (below c.args.table c.args.pos) (notes_at b block))) =
    c.place_at.ensures ∙ (ap (λ (n : ℕ). option_map place_of (slice_get c.notes-notes.result.now n)) c.count_below.ensures.count
    ∙ ap (λ (ns : List Change). option_map place_of (slice_get ns (prefix_len (below c.args.table c.args.pos) ns))) c.notes-notes.ensures) in
    c.first_of.ensures
    ∙ (ap (λ (n : ℕ). option_map place_of (slice_get (joined (drop n b.later.items)) 0)) c.behind.ensures
    ∙ (ap (λ (ns : List Change). option_map place_of (slice_get ns 0)) (sym (behind_is b block))
    ∙ sym (first_found b block c.args.table c.args.pos c.find-block.ensures
    ∙ ap (λ (o : Option NotedPlace). or_else o (option_map place_of (slice_get (notes_behind b block) 0))) (sym here ∙ c.in-None.is))))
