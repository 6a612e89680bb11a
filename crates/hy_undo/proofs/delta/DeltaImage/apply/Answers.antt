use Rattle.std.proofs.Common.{◌≡◌, ◌⊎◌, List, ◌<◌, ◌≤◌, length, map, get_or, None, sym, ap, ◌∙◌, inl, inr, arith}
use Rattle.std.proofs.lemmas.Bool.{cases_lt}
use Rattle.std.proofs.lemmas.List.{same_lists, get_or_past}
use Rattle.hy_value.specs.declared.Value.{Value}
use Rattle.hy_undo.specs.Images.{Image, put_back, old_or, before}
use Rattle.hy_undo.specs.declared.noted.Noted.{Noted}
use Rattle.hy_undo.specs.Noted.{noted_value}
use Rattle.hy_undo.proofs.NotedLists.{noted_length, here_noted}
use Rattle.hy_undo.proofs.Putting.{length-put_back, put_back-at, put_more}
use Rattle.hy_undo.proofs.delta.DeltaImage.apply.Goals as goal

pub returns : goal.returns
returns c =
    let notes = c.self.inside.notes.items in
    let olds = map noted_value notes in
    let first = c.args.base.now.row in
    let few : length olds ≤ c.loop-column.column ⊎ length first ≤ c.loop-column.column =
    grind (arith, noted_length notes, c.min-count.ensures, c.len.ensures, c.len-2.ensures, c.loop-column-test.false) in
    let row : c.loop-column.base.row ≡ put_back first olds = same_lists c.loop-column.base.row (put_back first olds) (c.loop-column.invariant.size ∙ sym (length-put_back first olds))
    (λ k d l.
    let size = c.loop-column.invariant.size in
    let within : k < length first = omega (arith, l, size) in
    elim (cases_lt k c.loop-column.column) [
      | inl less ↦ c.loop-column.invariant.done k d less ∙ sym (put_back-at first olds k d within)
      | inr more ↦
          let none : get_or olds k None ≡ None = elim few [ inl a ↦ get_or_past olds k None (omega arith) | inr b ↦ absurd (omega arith) ] in
          c.loop-column.invariant.rest k d more ∙ sym (put_back-at first olds k d within ∙ ap (old_or (get_or first k d)) none)
    ]) in
    ap (λ (r : List Value). record { row = r; live = c.self.inside.was_live }) row ∙ ap (λ (image : Image). before image c.args.base.now) c.self.view_is

pub loop-column-preserved : goal.loop-column-preserved
loop-column-preserved c =
    let notes = c.self.inside.notes.items in
    let olds = map noted_value notes in
    let within : c.loop-column.column < length olds = grind (arith, noted_length notes, c.min-count.ensures, c.len.ensures, c.loop-column-test.true) in
    let size = c.loop-column.invariant.size in
    let there : c.loop-column.column < length c.loop-column.base.row = grind (arith, noted_length notes, c.min-count.ensures, c.len-2.ensures, c.loop-column-test.true, size) in
    put_more olds c.args.base.now.row c.loop-column.base.row c.put_back_at.new.row c.loop-column.column (noted_value c.index-as_slice-column.result) c.loop-column.invariant within there
    (here_noted notes c.loop-column.column c.index-as_slice-column.result (omega (arith, within, noted_length notes))
    (c.index-as_slice-column.is ∙ ap (λ (xs : List Noted). get_or xs c.loop-column.column c.index-as_slice-column.result) c.as_slice.ensures)) c.put_back_at.ensures
