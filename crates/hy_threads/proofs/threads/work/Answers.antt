use Rattle.std.proofs.Common.{rules, ◌≡◌, length, sym, ◌∙◌}
use Rattle.hy_threads.specs.Tasks.{IsSameWorker}
use Rattle.hy_threads.proofs.WorkerRows.{zip_from, stopped_all, all_ended, one_starved}
use Rattle.hy_threads.proofs.threads.work.Goals as goal

pub returns-then-any_starved-clause-same : goal.returns-then-any_starved-clause-same
returns-then-any_starved-clause-same g c =
    let olds = c.args.workers.now in let news = c.run_each.new.workers in
    let as_many : length news ≡ length olds = search rules in
    zip_from (IsSameWorker g.P.Worked.width_of) olds news as_many (λ k d below. (c.run_each.ensures k d below).0)

pub returns-then-any_starved-clause-stopped : goal.returns-then-any_starved-clause-stopped
returns-then-any_starved-clause-stopped g c =
    let olds = c.args.workers.now in let news = c.run_each.new.workers in
    let as_many : length news ≡ length olds = search rules in
    stopped_all g.P.Worked.point_of g.P.Worked.width_of olds news as_many c.run_each.ensures

pub returns-then-any_starved-clause-starved : goal.returns-then-any_starved-clause-starved
returns-then-any_starved-clause-starved g c =
    let olds = c.args.workers.now in let news = c.run_each.new.workers in let point_of = g.P.Worked.point_of in
    let as_many : length news ≡ length olds = search rules in
    one_starved point_of news (stopped_all point_of g.P.Worked.width_of olds news as_many c.run_each.ensures)
    (sym c.any_starved.ensures ∙ c.if-any_starved.true)

pub returns-clause-same : goal.returns-clause-same
returns-clause-same g c =
    let olds = c.args.workers.now in let news = c.run_each.new.workers in
    let as_many : length news ≡ length olds = search rules in
    zip_from (IsSameWorker g.P.Worked.width_of) olds news as_many (λ k d below. (c.run_each.ensures k d below).0)

pub returns-clause-stopped : goal.returns-clause-stopped
returns-clause-stopped g c =
    let olds = c.args.workers.now in let news = c.run_each.new.workers in
    let as_many : length news ≡ length olds = search rules in
    stopped_all g.P.Worked.point_of g.P.Worked.width_of olds news as_many c.run_each.ensures

pub returns-clause-ended : goal.returns-clause-ended
returns-clause-ended g c =
    let olds = c.args.workers.now in let news = c.run_each.new.workers in let point_of = g.P.Worked.point_of in
    let as_many : length news ≡ length olds = search rules in
    all_ended point_of news (stopped_all point_of g.P.Worked.width_of olds news as_many c.run_each.ensures)
    (sym c.any_starved.ensures ∙ c.if-any_starved.false)
