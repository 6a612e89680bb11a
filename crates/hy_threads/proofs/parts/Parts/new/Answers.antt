use Rattle.std.proofs.Common.{rules, ◌≡◌, ◌*◌, length, map, replicate, get_or, sym, ap, ◌∙◌}
use Rattle.std.proofs.lemmas.List.{length-replicate}
use Rattle.hy_threads.specs.Knowledge.{First, keeper}
use Rattle.hy_threads.specs.Rule.{content}
use Rattle.hy_threads.proofs.Lists.{map_kept_of, map_some_inj, zeros}
use Rattle.hy_threads.proofs.SplitKeeps.{make_keeps}
use Rattle.hy_threads.proofs.parts.Parts.new.Goals as goal

pub new-requires : goal.new-requires
new-requires g c =
    let opening = c.in-Ok.rooms.opening.items in let sessions = c.args.sessions.now in let count = c.args.parts.len in
    let words : c.as_slice.result.now ≡ replicate (8 * count) 0 = search rules in
    let wide : length c.as_slice.result.now ≡ 8 * length c.args.parts.items = ap length words ∙ (length-replicate (8 * count) 0 ∙ search rules) in
    make_keeps g.P.Parted.fact c.as_slice.result.now c.put_in_slots-slots.result.items opening c.args.parts.items sessions
    wide (search rules) (λ k. ap (λ l. get_or l k 0) words ∙ zeros (8 * count) k) c.put_in_slots-slots.ensures.1
    (map_kept_of opening sessions c.in-Ok.ensures.opening) c.requires.fact

pub returns-in-Ok-new-clause-ok : goal.returns-in-Ok-new-clause-ok
returns-in-Ok-new-clause-ok g c =
    let opening = c.in-Ok.rooms.opening.items in let sessions = c.args.sessions.now in
    (search rules, search rules, ap (λ m. m.0) c.in-Ok-new.ensures.ok.4 ∙ ap (λ l. First (keeper 0 l)) (map_kept_of opening sessions c.in-Ok.ensures.opening))

pub take_from_slots-requires-clause-home : goal.take_from_slots-requires-clause-home
take_from_slots-requires-clause-home g c = (c.args.parts.items, ap (map content) c.in-Err.ensures.err ∙ c.put_in_slots-slots.ensures.1)

pub returns-clause-err : goal.returns-clause-err
returns-clause-err g c =
    let home = ap (map content) c.in-Err.ensures.err ∙ c.put_in_slots-slots.ensures.1 in
    map_some_inj c.take_from_slots.result.items c.args.parts.items (sym c.take_from_slots.ensures ∙ home)
