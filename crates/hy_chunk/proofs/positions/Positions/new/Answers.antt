use Rattle.std.proofs.Common.{false, length, map, replicate, refl, sym, ap, ◌∙◌, List, arith}
use Rattle.hy_value.specs.declared.Kind.{Kind}
use Rattle.hy_chunk.specs.Keyed.{key_kind}
use Rattle.hy_undo.specs.Stock.{Stock}
use Rattle.hy_chunk.proofs.Indexing.{same_fields}
use Rattle.hy_chunk.proofs.Spared.{spares_blank}
use Rattle.std.proofs.lemmas.List.{length-replicate}
use Rattle.hy_column.specs.Cells.{first_value, texts_of}
use Rattle.hy_chunk.proofs.Ranges.{covers_blank}
use Rattle.hy_chunk.proofs.Places.{Fields, all_blank, sound_blank}
use Rattle.hy_chunk.proofs.Vacating.{shows_blank}
use Rattle.hy_chunk.proofs.positions.Positions.new.Goals as goal

pub invariant_of-result : goal.invariant_of-result
invariant_of-result c =
    let f : Fields = record {
      rows = c.in_ok-columns.columns.rows;
      live = c.in_ok-live.live.items;
      used = c.in_ok-used.used.items;
      deaths = c.in_ok-deaths.deaths.items;
      chains = c.in_ok-chains.chains.chains;
    } in
    record {
      sound = sound_blank f c.args.rows c.args.kinds.now c.in_ok-columns.ensures.rows (c.in_ok-live.ensures.items_if_clones_equal (λ y e. e))
          (c.in_ok-used.ensures.items_if_clones_equal (λ y e. e))
          (c.in_ok-deaths.ensures.items_if_clones_equal (λ y e. e)) c.in_ok-chains.ensures c.in_ok-columns.columns.kinds c.new-spare.result
          c.in_ok-columns.ensures.kinds (record {
            columns = ap (λ (s : Stock). s.columns) c.new-spare.ensures;
            texts = let e = ap (λ (s : Stock). s.texts) c.new-spare.ensures in omega (arith, e, c.texts.ensures, ap texts_of c.in_ok-columns.ensures.kinds);
          });
      vacated = shows_blank c.args.rows f.used f.live c.in_ok-vacant.vacant (c.in_ok-used.ensures.items_if_clones_equal (λ y e. e))
          (c.in_ok-live.ensures.items_if_clones_equal (λ y e. e)) c.in_ok-vacant.ensures;
      numbered = omega (arith, ap length c.in_ok-columns.ensures.rows, length-replicate c.args.rows (map first_value c.args.kinds.now), c.requires);
      keyed = c.in_ok-index.ensures.kind ∙ ap (λ (ks : List Kind). key_kind ks c.args.key) (sym c.in_ok-columns.ensures.kinds);
      indexed = same_fields c.args.key f.rows f.rows (replicate c.args.rows false) f.used c.in_ok-index.index refl
          (c.in_ok-used.ensures.items_if_clones_equal (λ y e. e)) (c.in_ok-index.ensures.indexed f.rows);
      spared = spares_blank c.args.key c.args.rows c.in_ok-chains.chains.chains c.in_ok-chains.ensures;
      covered = covers_blank c.none.result c.args.rows c.in_ok-chains.chains.chains c.in_ok-chains.ensures;
    }

pub returns-clause-places : goal.returns-clause-places
returns-clause-places c =
    let f : Fields = record {
      rows = c.in_ok-columns.columns.rows;
      live = c.in_ok-live.live.items;
      used = c.in_ok-used.used.items;
      deaths = c.in_ok-deaths.deaths.items;
      chains = c.in_ok-chains.chains.chains;
    } in
    all_blank f c.args.rows c.args.kinds.now c.in_ok-columns.ensures.rows (c.in_ok-live.ensures.items_if_clones_equal (λ y e. e))
    (c.in_ok-used.ensures.items_if_clones_equal (λ y e. e))
    (c.in_ok-deaths.ensures.items_if_clones_equal (λ y e. e)) c.in_ok-chains.ensures
