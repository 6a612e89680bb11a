use Rattle.std.proofs.Common.{◌≡◌, ◌++◌, [], List, drop, filter, sym, ap, ◌∙◌, arith}
use Rattle.std.specs.Global.{Vec}
use Rattle.std.proofs.lemmas.List.{append-nil}
use Rattle.hy_value.specs.declared.change.Change.{Change}
use Rattle.hy_notes.specs.Notes.{is_between}
use Rattle.hy_notes.specs.Blocks.{joined, notes_in, notes_at, notes_before}
use Rattle.hy_notes.specs.Levels.{noted_since, stretches_in}
use Rattle.hy_notes.proofs.Edits.{all_at}
use Rattle.hy_notes.proofs.Reading.{drop_past, wanted_within}
use Rattle.hy_notes.proofs.levels.Levels.notes_between.Goals as goal

pub returns : goal.returns
returns c =
    let b = c.args.notes.now in
    let block = c.find-first.result in
    let wanted = c.args.wanted.now in
    let f = is_between wanted.table wanted.from wanted.to in
    let since = noted_since (drop c.args.begin (stretches_in c.args.self.now)) in
    let later = c.behind_up_to-later.result.now in
    let rest = c.behind_up_to-later.ensures.0 in
    let done : drop c.loop-block.block-index later ≡ [] = drop_past later c.loop-block.block-index (omega (arith, c.loop-block-test.false)) in
    let all : c.loop-block.list.items ≡ c.push_between.new.list.items ++ filter f (since (joined later)) =
    sym (append-nil c.loop-block.list.items)
    ∙ (ap (λ (blocks : List (Vec Change)). c.loop-block.list.items ++ filter f (since (joined blocks))) (sym done) ∙ c.loop-block.invariant) in
    let first : c.push_between.new.list.items ≡ filter f (since (notes_at b block)) =
    c.in_ok-push_between.ensures
    ∙ (ap (λ (ns : List Change). ns ++ filter f (since c.notes.result.now)) c.new-list.ensures.items ∙ ap (λ (ns : List Change). filter f (since ns)) c.notes.ensures) in
    let parts : notes_before b block ++ (notes_at b block ++ (joined later ++ rest)) ≡ notes_in b =
    sym (all_at b block c.find-first.ensures.within ∙ ap (λ (ns : List Change). notes_before b block ++ (notes_at b block ++ ns)) c.behind_up_to-later.ensures.1) in
    all ∙ (ap (λ (ns : List Change). ns ++ filter f (since (joined later))) first
    ∙ (sym (wanted_within (drop c.args.begin (stretches_in c.args.self.now)) (notes_before b block) (notes_at b block) (joined later) rest wanted.table wanted.from wanted.to
    c.find-first.ensures.before c.behind_up_to-later.ensures.2)
    ∙ ap (λ (ns : List Change). filter f (since ns)) parts))
