use Rattle.std.proofs.Common.{◌≡◌, ◌+◌, ◌++◌, ◌<◌, ◌≤◌, ℕ, List, Option, Some, get_or, length, refl, sym, ap, ◌∙◌, arith, subst, vec_len, vec_capacity}
use Rattle.std.specs.Global.{Vec}
use Rattle.std.specs.List.{insert}
use Rattle.std.proofs.Math.ListN.{set}
use Rattle.std.proofs.lemmas.List.{get_or_default}
use Rattle.hy_value.specs.declared.change.Change.{Change}
use Rattle.hy_notes.specs.Blocks.{joined, notes_at, notes_before, notes_behind, IsWithin, IsLater}
use Rattle.hy_notes.proofs.Joined.{all_get}
use Rattle.hy_notes.proofs.Edits.{later_notes, later_sound, first_sound}
use Rattle.hy_notes.proofs.blocks.Blocks.put_within.Goals as goal

pub returns-in-None-clause-notes : goal.returns-in-None-clause-notes
returns-in-None-clause-notes c =
    let self = c.args.self.now in
    let put = c.put_note.new.notes in
    subst (λ (b : Option ℕ). put.items ++ joined self.later.items ≡ notes_before self b ++ (insert (notes_at self b) c.args.at c.args.note ++ notes_behind self b))
    (sym c.in-None.is) (ap (λ (ns : List Change). ns ++ joined self.later.items) c.put_note.ensures.items)

pub returns-in-None-clause-sound : goal.returns-in-None-clause-sound
returns-in-None-clause-sound c =
    let self = c.args.self.now in
    let put = c.put_note.new.notes in
    let most : length self.first.items < 128 = subst (λ (b : Option ℕ). length (notes_at self b) < 128) c.in-None.is c.requires.most in
    let len : length put.items ≡ length self.first.items + 1 =
    let a : vec_len put ≡ vec_len self.first + 1 = c.put_note.ensures.len in
    let p : vec_len put ≡ length put.items = put.ok.0 in
    let q : vec_len self.first ≡ length self.first.items = self.first.ok.0 in
    omega (arith, a, p, q) in
    let room : self.count + 1 ≤ self.limit = omega (arith, c.requires.room) in
    first_sound self put 1 (self.count + 1) c.requires.sound (omega (arith, most, len)) c.put_note.ensures.capacity len refl room

pub returns-in-Some-clause-notes : goal.returns-in-Some-clause-notes
returns-in-Some-clause-notes c =
    let self = c.args.self.now in
    let k = c.in-Some.block in
    let within : k < length self.later.items = subst (IsWithin self) c.in-Some.is c.requires.block in
    let read : c.index_mut.result.now ≡ get_or self.later.items k self.first = c.index_mut.ensures.value ∙ get_or_default self.later.items k _ self.first within in
    let put = c.put_note-in-Some.new.notes in
    let own : put.items ≡ insert (notes_at self (Some k)) c.args.at c.args.note =
    c.put_note-in-Some.ensures.items ∙ ap (λ (v : Vec Change). insert v.items c.args.at c.args.note) read in
    subst (λ (b : Option ℕ). self.first.items ++ joined (set self.later.items k put) ≡ notes_before self b ++ (insert (notes_at self b) c.args.at c.args.note ++ notes_behind self b))
    (sym c.in-Some.is) (later_notes self k put _ within own)

pub returns-in-Some-clause-sound : goal.returns-in-Some-clause-sound
returns-in-Some-clause-sound c =
    let self = c.args.self.now in
    let k = c.in-Some.block in
    let within : k < length self.later.items = subst (IsWithin self) c.in-Some.is c.requires.block in
    let read : c.index_mut.result.now ≡ get_or self.later.items k self.first = c.index_mut.ensures.value ∙ get_or_default self.later.items k _ self.first within in
    let put = c.put_note-in-Some.new.notes in
    let was : IsLater (get_or self.later.items k self.first) = all_get IsLater self.later.items k self.first c.requires.sound.later within in
    let len : length put.items ≡ length (get_or self.later.items k self.first).items + 1 =
    let a : vec_len put ≡ vec_len c.index_mut.result.now + 1 = c.put_note-in-Some.ensures.len in
    let p : vec_len put ≡ length put.items = put.ok.0 in
    let q : vec_len c.index_mut.result.now ≡ length (get_or self.later.items k self.first).items = c.index_mut.result.now.ok.0 ∙ ap (λ (v : Vec Change). length v.items) read in
    omega (arith, a, p, q) in
    let same : vec_capacity c.index_mut.result.now ≡ vec_capacity (get_or self.later.items k self.first) = ap (λ (v : Vec Change). vec_capacity v) read in
    let most : length (get_or self.later.items k self.first).items < 128 = subst (λ (b : Option ℕ). length (notes_at self b) < 128) c.in-Some.is c.requires.most in
    let least : 64 ≤ length (get_or self.later.items k self.first).items = was.least in
    let wide : 128 ≤ vec_capacity (get_or self.later.items k self.first) = was.wide in
    let more : vec_capacity c.index_mut.result.now ≤ vec_capacity put = c.put_note-in-Some.ensures.capacity in
    let most' : length put.items ≤ 128 = omega (arith, len, most) in
    let least' : 64 ≤ length put.items = omega (arith, len, least) in
    let wide' : 128 ≤ vec_capacity put = omega (arith, same, wide, more) in
    let is : IsLater put = record { least = least'; most = most'; wide = wide' } in
    let room : self.count + 1 ≤ self.limit = omega (arith, c.requires.room) in
    later_sound self k put 1 (self.count + 1) c.requires.sound within is len refl room
