use Rattle.std.proofs.Common.{◌≡◌, ◌<◌, List, [], ap, sym, subst, ◌∙◌, arith}
use Rattle.std.specs.Prelude.{slice_index_or}
use Rattle.std.specs.List.{All}
use Rattle.std.proofs.lemmas.Bool.{ltb-true, ltb-false}
use Rattle.std.proofs.lemmas.List.Elements.{All-cons, All-nil}
use Rattle.hy_chunk.specs.Views.{Whole}
use Rattle.hy_protocol.specs.declared.Progress.TheVariants.{Moved}
use Rattle.hy_event.specs.Events.{ChunkEvent}
use Rattle.hy_session.specs.Passing.{IsPassed, MayBePassed}
use Rattle.hy_session.specs.Short.{LeavesShort}
use Rattle.hy_session.proofs.PassedChunks.{passed_none, passed_one}
use Rattle.hy_session.proofs.Session.pass_one.Goals as goal

pub pass-requires : goal.pass-requires
pass-requires c = subst (All MayBePassed) (sym c.from_mut.ensures.value) (All-cons MayBePassed c.args.chunk.now [] c.requires.falls (All-nil MayBePassed))

-- the chunk is as it was
same_chunk : (c : goal.After-chunk-1) → slice_index_or c.pass.new.chunks 0 c.args.chunk.now ≡ c.args.chunk.now
same_chunk c = ap (λ (all : List Whole). slice_index_or all 0 c.args.chunk.now) (c.pass.ensures.all ∙ c.from_mut.ensures.value)

one : (c : goal.After-chunk-1) → 0 < c.pass.result
    → IsPassed c.args.self.now c.args.chunk.now.shown.table c.requires.number c.args.chunk.now.shown c.pass.new.self
one c some =
    passed_one c.args.self.now c.pass.new.self c.args.chunk.now.shown.table c.requires.number c.pass.result c.args.chunk.now c.from_mut.result.now
    c.from_mut.ensures.value c.pass.ensures.few some (c.pass.ensures.passes c.args.chunk.now.shown.table c.requires.number c.requires.needed)

pub returns-clause-event : goal.returns-clause-event
returns-clause-event c = λ passed.
    subst (λ (w : Whole). ChunkEvent c.args.self.now c.args.chunk.now.shown Moved c.pass.new.self w.shown) (sym (same_chunk c))
    (one c (ltb-true 0 c.pass.result passed)).event

pub returns-clause-short : goal.returns-clause-short
returns-clause-short c = λ passed.
    subst (λ (w : Whole). LeavesShort c.args.self.now c.args.self.now.now w.shown) (sym (same_chunk c)) (one c (ltb-true 0 c.pass.result passed)).short

pub returns-clause-kept : goal.returns-clause-kept
returns-clause-kept c = λ stayed.
    let none : c.pass.result ≡ 0 = let l = ltb-false 0 c.pass.result stayed in omega (arith, l) in
    passed_none c.args.self.now c.pass.new.self c.args.chunk.now.shown.table c.requires.number c.pass.result c.from_mut.result.now none
    (c.pass.ensures.passes c.args.chunk.now.shown.table c.requires.number c.requires.needed)

pub returns-clause-all : goal.returns-clause-all
returns-clause-all c = same_chunk c
