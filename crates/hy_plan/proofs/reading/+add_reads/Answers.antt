use Rattle.std.proofs.Common.{rules, ◌≡◌, length, sym, [], ◌∷◌, ◌++◌, ◌∙◌}
use Rattle.std.specs.Prelude.{slice_get, slice_index_or}
use Rattle.std.proofs.lemmas.Bool.{eqb-true}
use Rattle.std.proofs.lemmas.List.{nil_from_length}
use Rattle.std.proofs.lemmas.Result.{on_ok_weaker}
use Rattle.hy_bound.specs.Records.{shape_of}
use Rattle.hy_bound.specs.Records.{select_conditions}
use Rattle.hy_plan.specs.Reads.{rows_read_of, columns_over, table_read_of, select_named}
use Rattle.hy_plan.proofs.More.{reads_last, reads_more}
use Rattle.hy_plan.proofs.reading.+add_reads.Goals as goal

pub returns : goal.returns
returns t c =
    let q = c.args.query.now in
    let conditions = select_conditions q.ons.now q.pred.now in
    let named = select_named q.ons.now q.pred.now q.items.now in
    let read = c.in_ok-read.read in
    let rows = c.in_ok-rows.rows.items in
    let tables : c.args.left.tables.now ≡ c.in-Some.table.now ∷ c.in-Some.later.now = search rules in
    let is : read ≡ table_read_of (shape_of c.args.shapes.now c.in-Some.table.now) c.in-Some.table.now c.args.left.on conditions named c.args.sofar.now.earlier.items = search rules in
    let those : rows ≡ rows_read_of read (slice_index_or c.args.left.gathered.now 0 []) = search rules in
    let columns : c.add_columns_of.new.columns.items ≡ c.args.sofar.now.earlier.items ++ columns_over (shape_of c.args.shapes.now c.in-Some.table.now).width rows = search rules in
    let put : c.push-2.new.self ≡ c.args.sofar.now.all ++ read ∷ [] = search rules in
    let next : c.copied.result ≡ slice_get c.args.left.ons.now 0 = search rules in
    on_ok_weaker c.add_reads.result (λ d. d ∙
    reads_more c.args.shapes.now conditions named c.args.sofar.now.earlier.items c.add_columns_of.new.columns.items c.args.left.on c.args.left.ons.now c.in-Some.table.now c.in-Some.later.now c.args.left.tables.now
    c.args.left.gathered.now c.args.sofar.now.all c.push-2.new.self read rows tables is those columns put c.copied.result c.behind.result.now c.behind-2.result.now next c.behind.ensures c.behind-2.ensures)
    c.add_reads.ensures

pub returns-then-is_empty : goal.returns-then-is_empty
returns-then-is_empty t c =
    let q = c.args.query.now in
    let conditions = select_conditions q.ons.now q.pred.now in
    let named = select_named q.ons.now q.pred.now q.items.now in
    let read = c.in_ok-read.read in
    let tables : c.args.left.tables.now ≡ c.in-Some.table.now ∷ c.in-Some.later.now = search rules in
    let none : c.in-Some.later.now ≡ [] = nil_from_length c.in-Some.later.now (eqb-true (length c.in-Some.later.now) 0 (sym c.is_empty.ensures ∙ c.if-is_empty.true)) in
    let is : read ≡ table_read_of (shape_of c.args.shapes.now c.in-Some.table.now) c.in-Some.table.now c.args.left.on conditions named c.args.sofar.now.earlier.items = search rules in
    let put : c.push.new.self ≡ c.args.sofar.now.all ++ read ∷ [] = search rules in
    reads_last c.args.shapes.now conditions named c.args.sofar.now.earlier.items c.args.left.on c.args.left.ons.now c.in-Some.table.now c.in-Some.later.now c.args.left.tables.now
    c.args.left.gathered.now c.args.sofar.now.all c.push.new.self read tables none is put
