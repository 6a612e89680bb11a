use Rattle.std.proofs.Common.{List, None, ap, ◌∙◌, arith}
use Rattle.std.specs.Prelude.{slice_set}
use Rattle.hy_script.specs.declared.stocks.Stock.{Stock}
use Rattle.hy_script.specs.Stocks.{no_rows, with_row}
use Rattle.hy_script.proofs.Tables.{set-set}
use Rattle.std.proofs.lemmas.List.{get_or_default}
use Rattle.hy_script.proofs.sofar.SoFar.add_row.Goals as goal

pub returns-in_ok-add : goal.returns-in_ok-add
returns-in_ok-add c =
    let stocks = c.args.self.now.stocks in
    let number = c.args.number in
    let row = c.args.row in
    let before = c.replace-stock.ensures.before ∙ get_or_default stocks number c.replace-stock.result (no_rows None) (omega (arith, c.if-number-len.true)) in
    let put =
    c.replace.ensures.after
    ∙ ap (λ (ss : List Stock). slice_set ss number c.add.new.self) c.replace-stock.ensures.after
    ∙ set-set stocks number c.new.result c.add.new.self
    ∙ ap (slice_set stocks number) (c.in_ok-add.ensures ∙ ap (λ (stock : Stock). with_row stock row) before) in
    ap (λ (ss : List Stock). record c.args.self.now { stocks = ss }) put
