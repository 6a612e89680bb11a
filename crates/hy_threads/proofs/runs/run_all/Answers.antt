use Rattle.std.proofs.Common.{rules, arith, ◌≡◌, ◌≤◌, All, length, None, refl, sym, ◌∙◌, subst, vec_len}
use Rattle.std.specs.List.{AllZip}
use Rattle.hy_threads.specs.Tasks.{Fits, IsSameWorker, HasEnded}
use Rattle.hy_threads.proofs.WorkerRows.{all_fit, back_of_home, back_ended, where_done}
use Rattle.hy_threads.proofs.runs.run_all.Goals as goal

pub work-ended-requires-after_bounds : goal.work-ended-requires-after_bounds
work-ended-requires-after_bounds g c κs within =
    let home = c.in-Ok-new.made.0 in let ws = c.seat_all-workers.result.items in let made = c.seat_all-workers.ensures.workers in
    let width_of = g.P.Worked.width_of in let count = vec_len c.args.parts in
    let slots = c.in-Ok-new.ensures.ok.0 in let within' : count ≤ home.slots = omega arith in
    subst (All (Fits width_of home)) (sym c.as_mut_slice.ensures.value)
    (all_fit home width_of 0 count ws made.0 within' (subst (All (λ s. width_of s ≤ count)) (sym made.1) c.requires.wide))

pub join_all-sessions-requires-clause-workers : goal.join_all-sessions-requires-clause-workers
join_all-sessions-requires-clause-workers g c κs within =
    let workers = c.seat_all-workers.result in let news = c.work-ended.new.workers in
    let same = subst (λ xs. AllZip (IsSameWorker g.P.Worked.width_of) xs news) c.as_mut_slice.ensures.value c.work-ended.ensures.same in
    let all : workers.len ≡ length workers.items = search rules in
    back_of_home g.P.Worked.width_of g.P.Worked.point_of workers.items news workers.len all same c.in-Ok-new.made.0 c.seat_all-workers.ensures.workers.0

pub returns-clause-fact : goal.returns-clause-fact
returns-clause-fact g c = c.close.ensures.fact _ c.join_all-sessions.result.items c.join_all-sessions.ensures.first refl

pub returns-clause-ended : goal.returns-clause-ended
returns-clause-ended g c fed =
    let point_of = g.P.Worked.point_of in
    let workers = c.seat_all-workers.result in let news = c.work-ended.new.workers in
    let same = subst (λ xs. AllZip (IsSameWorker g.P.Worked.width_of) xs news) c.as_mut_slice.ensures.value c.work-ended.ensures.same in
    let all : workers.len ≡ length workers.items = search rules in
    let ended = where_done c.work-ended.result (All (HasEnded point_of) news) (sym c.is_err.ensures.value ∙ fed) c.work-ended.ensures.ended in
    subst (All (λ s. point_of s ≡ None)) (sym c.join_all-sessions.ensures.sessions)
    (back_ended g.P.Worked.width_of point_of workers.items news workers.len all same ended)
