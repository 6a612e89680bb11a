use Rattle.std.proofs.Common.{◌≡◌, ◌++◌, ◌<◌, ◌≤◌, ℕ, Option, Some, get_or, length, sym, ap, ◌∙◌, arith, subst, vec_capacity}
use Rattle.std.specs.Global.{Vec}
use Rattle.std.proofs.Math.ListN.{set}
use Rattle.std.proofs.lemmas.List.{get_or_default}
use Rattle.hy_value.specs.declared.change.Change.{Change}
use Rattle.hy_notes.specs.Notes.{with_after}
use Rattle.hy_notes.specs.Blocks.{joined, notes_at, notes_before, notes_behind, IsWithin, IsLater}
use Rattle.hy_notes.proofs.Joined.{all_get}
use Rattle.hy_notes.proofs.Edits.{later_notes, later_sound}
use Rattle.hy_notes.proofs.blocks.Blocks.put_after.Goals as goal

pub returns-in-Some-clause-notes : goal.returns-in-Some-clause-notes
returns-in-Some-clause-notes c = λ d.
    let self = c.args.self.now in
    let k = c.in-Some.block in
    let within : k < length self.later.items = subst (IsWithin self) c.in-Some.is c.requires.block in
    let read : c.index_mut.result.now ≡ get_or self.later.items k self.first = c.index_mut.ensures.value ∙ get_or_default self.later.items k _ self.first within in
    let put = c.put_after-in-Some.new.notes in
    let own : put.items ≡ set (notes_at self (Some k)) c.args.at (with_after (get_or (notes_at self (Some k)) c.args.at d) c.args.after) =
    c.put_after-in-Some.ensures.items d ∙ ap (λ (v : Vec Change). set v.items c.args.at (with_after (get_or v.items c.args.at d) c.args.after)) read in
    subst (λ (b : Option ℕ). self.first.items ++ joined (set self.later.items k put)
    ≡ notes_before self b ++ (set (notes_at self b) c.args.at (with_after (get_or (notes_at self b) c.args.at d) c.args.after) ++ notes_behind self b))
    (sym c.in-Some.is) (later_notes self k put _ within own)

pub returns-in-Some-clause-sound : goal.returns-in-Some-clause-sound
returns-in-Some-clause-sound c =
    let self = c.args.self.now in
    let k = c.in-Some.block in
    let within : k < length self.later.items = subst (IsWithin self) c.in-Some.is c.requires.block in
    let read : c.index_mut.result.now ≡ get_or self.later.items k self.first = c.index_mut.ensures.value ∙ get_or_default self.later.items k _ self.first within in
    let put = c.put_after-in-Some.new.notes in
    let was : IsLater (get_or self.later.items k self.first) = all_get IsLater self.later.items k self.first c.requires.sound.later within in
    let len : length put.items ≡ length (get_or self.later.items k self.first).items =
    sym put.ok.0 ∙ (c.put_after-in-Some.ensures.len ∙ (c.index_mut.result.now.ok.0 ∙ ap (λ (v : Vec Change). length v.items) read)) in
    let room : vec_capacity put ≡ vec_capacity (get_or self.later.items k self.first) = c.put_after-in-Some.ensures.capacity ∙ ap (λ (v : Vec Change). vec_capacity v) read in
    let most : length (get_or self.later.items k self.first).items ≤ 128 = was.most in
    let least : 64 ≤ length (get_or self.later.items k self.first).items = was.least in
    let wide : 128 ≤ vec_capacity (get_or self.later.items k self.first) = was.wide in
    let most' : length put.items ≤ 128 = omega (arith, len, most) in
    let least' : 64 ≤ length put.items = omega (arith, len, least) in
    let wide' : 128 ≤ vec_capacity put = omega (arith, room, wide) in
    let is : IsLater put = record { least = least'; most = most'; wide = wide' } in
    later_sound self k put 0 self.count c.requires.sound within is (omega (arith, len)) (omega arith) c.requires.sound.within
