use Rattle.std.proofs.Common.{◌≡◌, ℕ, suc, ◌+◌, ◌<◌, ◌≤◌, List, Option, get_or, length, take, drop, sym, ap, ◌∙◌, arith, subst, vec_capacity}
use Rattle.std.specs.Global.{Vec}
use Rattle.std.specs.List.{insert}
use Rattle.std.proofs.Math.ListN.{set}
use Rattle.std.proofs.lemmas.List.{get_or_default}
use Rattle.hy_value.specs.declared.change.Change.{Change}
use Rattle.hy_notes.specs.Blocks.{joined, notes_at, notes_behind, next_block, IsWithin}
use Rattle.hy_notes.proofs.Joined.{halved_drop}
use Rattle.hy_notes.proofs.Edits.{blank_left}
use Rattle.hy_notes.proofs.Halves.{first_halved, later_halved}
use Rattle.hy_notes.proofs.blocks.Blocks.split.Goals as goal

pub take_half-half-requires-clause-some : goal.take_half-half-requires-clause-some
take_half-half-requires-clause-some c = blank_left c.args.self.now c.args.block c.requires.sound c.requires.room c.requires.block c.requires.full

pub take_half-half-requires-in-Some-clause-some : goal.take_half-half-requires-in-Some-clause-some
take_half-half-requires-in-Some-clause-some c = blank_left c.args.self.now c.args.block c.requires.sound c.requires.room c.requires.block c.requires.full

pub returns-in-None-clause-sound : goal.returns-in-None-clause-sound
returns-in-None-clause-sound c =
    let self = c.args.self.now in
    let half = c.take_half-half in
    let full : 128 ≤ length self.first.items = subst (λ (b : Option ℕ). 128 ≤ length (notes_at self b)) c.in-None.is c.requires.full in
    first_halved self half.new.block half.result c.put_block.new.later half.new.blank c.requires.sound half.ensures.wide c.put_block.ensures.len c.put_block.ensures.capacity
    half.ensures.blank half.ensures.blank_len half.ensures.blank_capacity full half.ensures.kept half.ensures.capacity half.ensures.taken c.put_block.ensures.items

pub returns-in-Some-clause-behind : goal.returns-in-Some-clause-behind
returns-in-Some-clause-behind c =
    let self = c.args.self.now in
    let k = c.in-Some.block in
    let half = c.take_half-half-in-Some in
    let within : k < length self.later.items = subst (IsWithin self) c.in-Some.is c.requires.block in
    let one : k + 1 ≡ suc k = omega arith in
    let items : c.put_block-in-Some.new.later.items ≡ insert (set self.later.items k half.new.block) (suc k) half.result =
    c.put_block-in-Some.ensures.items ∙ ap (λ (n : ℕ). insert (set self.later.items k half.new.block) n half.result) one in
    subst (λ (b : Option ℕ). joined (drop (suc (next_block b)) c.put_block-in-Some.new.later.items) ≡ notes_behind self b) (sym c.in-Some.is)
    (ap (λ (xs : List (Vec Change)). joined (drop (suc (suc k)) xs)) items ∙ ap joined (halved_drop half.new.block half.result self.later.items k within))

pub returns-in-Some-clause-sound : goal.returns-in-Some-clause-sound
returns-in-Some-clause-sound c =
    let self = c.args.self.now in
    let k = c.in-Some.block in
    let half = c.take_half-half-in-Some in
    let within : k < length self.later.items = subst (IsWithin self) c.in-Some.is c.requires.block in
    let one : k + 1 ≡ suc k = omega arith in
    let items : c.put_block-in-Some.new.later.items ≡ insert (set self.later.items k half.new.block) (suc k) half.result =
    c.put_block-in-Some.ensures.items ∙ ap (λ (n : ℕ). insert (set self.later.items k half.new.block) n half.result) one in
    let read : c.index_mut.result.now ≡ get_or self.later.items k self.first = c.index_mut.ensures.value ∙ get_or_default self.later.items k _ self.first within in
    let full : 128 ≤ length (get_or self.later.items k self.first).items = subst (λ (b : Option ℕ). 128 ≤ length (notes_at self b)) c.in-Some.is c.requires.full in
    let kept : half.new.block.items ≡ take 64 (get_or self.later.items k self.first).items = half.ensures.kept ∙ ap (λ (v : Vec Change). take 64 v.items) read in
    let moved : half.result.items ≡ drop 64 (get_or self.later.items k self.first).items = half.ensures.taken ∙ ap (λ (v : Vec Change). drop 64 v.items) read in
    let same : vec_capacity half.new.block ≡ vec_capacity (get_or self.later.items k self.first) = half.ensures.capacity ∙ ap (λ (v : Vec Change). vec_capacity v) read in
    later_halved self half.new.block half.result c.put_block-in-Some.new.later half.new.blank c.requires.sound half.ensures.wide c.put_block-in-Some.ensures.len c.put_block-in-Some.ensures.capacity
    half.ensures.blank half.ensures.blank_len half.ensures.blank_capacity k within full kept same moved items
