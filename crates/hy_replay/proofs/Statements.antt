-- One statement over tables that differ unseen comes to the same.
use Rattle.std.proofs.Common.{◌≡◌, ℕ, List, [], Option, Some, map, ap, sym, ◌∙◌, subst}
use Rattle.std.proofs.lemmas.Option.{same_Some}
use Rattle.hy_bound.specs.declared.Bound.{Bound}
use Rattle.hy_bound.specs.declared.Bound.TheVariants.{Select, Group, Insert, Update, Delete, Savepoint, RollbackTo, Release}
use Rattle.hy_bound.specs.declared.Record.{Record}
use Rattle.hy_bound.specs.declared.Reply.{Reply}
use Rattle.hy_bound.specs.declared.WriteKind.TheVariants as kind
use Rattle.hy_bound.specs.Fits.{FitsStatement}
use Rattle.hy_meaning.specs.Statement.{answer_of, grouped}
use Rattle.hy_plan.specs.Reads.{records_of}
use Rattle.hy_machine.specs.declared.Setting.{Setting}
use Rattle.hy_machine.specs.Tables.{Tables, Own, over}
use Rattle.hy_machine.specs.Turns.{rows_seen}
use Rattle.hy_replay.specs.Laws.{AreTables, HaveWidths, DifferUnseen}
use Rattle.hy_replay.specs.Ran.{One, one}
use Rattle.hy_replay.proofs.Cells.{FitsOwn}
use Rattle.hy_replay.proofs.Changes.{MissEach}
use Rattle.hy_replay.proofs.Truths.{SelectsByRead}
use Rattle.hy_replay.proofs.Views.{BothFit, widths_over, others_widths_over, over_misses}
use Rattle.hy_replay.proofs.Selects.{KeepsRecords, KeepsReplies, select_records, select_answer, group_answer}
use Rattle.hy_replay.proofs.Writes.{LeavesWrites, changed_leaves, changed_again}
use Rattle.hy_replay.proofs.Inserts.{placed_leaves, placed_again}

-- a statement leaves one's own writes, and more that fit
pub one_leaves : (setting : Setting) (tables : Tables) (own : Own) (number : ℕ) (statement : Bound) (at : Option ℕ) (given : One)
    → AreTables setting tables → HaveWidths setting.shapes tables → FitsOwn setting own → FitsStatement setting.shapes statement
    → one setting tables own number statement at ≡ Some given → LeavesWrites setting own given
one_leaves setting tables own number (Select from ons pred items) at given are wide fits stands e =
    record { writes = []; is = ap (λ (one : One). one.own) (sym (same_Some _ given e)); fit = tt }
one_leaves setting tables own number (Group table pred key aggregate) at given are wide fits stands e =
    record { writes = []; is = ap (λ (one : One). one.own) (sym (same_Some _ given e)); fit = tt }
one_leaves setting tables own number (Insert table row) at given are wide fits stands e =
    placed_leaves setting tables own table row (records_of setting.shapes number (Insert table row) []) at given stands.1.width e
one_leaves setting tables own number (Update table sets pred) at given are wide fits stands e =
    changed_leaves setting tables own (kind.Set sets) pred table (records_of setting.shapes number (Update table sets pred) []) given are wide fits e
one_leaves setting tables own number (Delete table pred) at given are wide fits stands e =
    changed_leaves setting tables own kind.Delete pred table (records_of setting.shapes number (Delete table pred) []) given are wide fits e
one_leaves setting tables own number (Savepoint name) at given are wide fits stands e =
    record { writes = []; is = ap (λ (one : One). one.own) (sym (same_Some _ given e)); fit = tt }
one_leaves setting tables own number (RollbackTo name) at given are wide fits stands e =
    record { writes = []; is = ap (λ (one : One). one.own) (sym (same_Some _ given e)); fit = tt }
one_leaves setting tables own number (Release name) at given are wide fits stands e =
    record { writes = []; is = ap (λ (one : One). one.own) (sym (same_Some _ given e)); fit = tt }

-- over tables that differ unseen a statement comes to the same
pub one_again : KeepsRecords → KeepsReplies → SelectsByRead
    → (setting : Setting) (tables others : Tables) (own : Own) (number : ℕ) (statement : Bound) (at : Option ℕ) (given : One)
    → BothFit setting tables others → FitsOwn setting own → one setting tables own number statement at ≡ Some given
    → DifferUnseen tables others given.own given.records → one setting others own number statement at ≡ Some given
one_again keeps replies selects setting tables others own number (Select from ons pred items) at given fit fits e unseen =
    let records : List Record = records_of setting.shapes number (Select from ons pred items) (map (rows_seen (over tables own)) from) in
    let left : One = record { own = own; reply = answer_of ons pred items (map (rows_seen (over tables own)) from); records = records } in
    let miss : MissEach records (over tables own) (over others own) = over_misses setting tables others own own records fit fits
    (subst (λ (one : One). DifferUnseen tables others one.own one.records) (sym (same_Some left given e)) unseen) in
    let here : HaveWidths setting.shapes (over tables own) = widths_over setting tables others own fit fits in
    let there : HaveWidths setting.shapes (over others own) = others_widths_over setting tables others own fit fits in
    rw (
      select_answer replies setting.shapes number from ons pred items (over tables own) (over others own) fit.shapes here there miss,
      select_records keeps setting.shapes number from ons pred items (over tables own) (over others own) fit.shapes here there miss,
    ) e
one_again keeps replies selects setting tables others own number (Group table pred key aggregate) at given fit fits e unseen =
    let records : List Record = records_of setting.shapes number (Group table pred key aggregate) [] in
    let left : One = record { own = own; reply = grouped pred key aggregate (rows_seen (over tables own) table); records = records } in
    let miss : MissEach records (over tables own) (over others own) = over_misses setting tables others own own records fit fits
    (subst (λ (one : One). DifferUnseen tables others one.own one.records) (sym (same_Some left given e)) unseen) in
    let here : HaveWidths setting.shapes (over tables own) = widths_over setting tables others own fit fits in
    let there : HaveWidths setting.shapes (over others own) = others_widths_over setting tables others own fit fits in
    ap (λ (told : Reply). Some (record { own = own; reply = told; records = records }))
    (group_answer replies setting.shapes number table pred key aggregate (over tables own) (over others own) fit.shapes here there miss)
    ∙ e
one_again keeps replies selects setting tables others own number (Insert table row) at given fit fits e unseen =
    placed_again selects setting tables others own number table row at given fit fits e unseen
one_again keeps replies selects setting tables others own number (Update table sets pred) at given fit fits e unseen =
    changed_again selects setting tables others own (kind.Set sets) number table sets pred given fit fits e unseen
one_again keeps replies selects setting tables others own number (Delete table pred) at given fit fits e unseen =
    changed_again selects setting tables others own kind.Delete number table [] pred given fit fits e unseen
one_again keeps replies selects setting tables others own number (Savepoint name) at given fit fits e unseen = e
one_again keeps replies selects setting tables others own number (RollbackTo name) at given fit fits e unseen = e
one_again keeps replies selects setting tables others own number (Release name) at given fit fits e unseen = e
