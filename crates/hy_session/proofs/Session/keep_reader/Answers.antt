use Rattle.std.proofs.Common.{◌≡◌, ℕ, Some, length, subst, sym, arith}
use Rattle.hy_event.specs.declared.SessionData.{SessionData}
use Rattle.hy_session.specs.contracts.Session.{the_view}
use Rattle.hy_session.specs.Preparing.{IsPlanAt, RunsAt}
use Rattle.hy_session.specs.declared.prepared.Prepared.{Prepared}
use Rattle.std.proofs.lemmas.Option.{same_Some}
use Rattle.hy_session.proofs.Session.keep_reader.Goals as goal

pub invariant_of-self : goal.invariant_of-self
invariant_of-self c =
    let inside = c.self.inside in
    let limited = c.self.invariant.0 in
    let planned : IsPlanAt (the_view inside) c.args.number c.args.reader =
    subst (λ (s : SessionData). IsPlanAt s c.args.number c.args.reader) (sym c.self.view_is) c.requires in
    let ended : length inside.done.items ≡ c.len.result = omega (arith, c.len.ensures, inside.done.ok.0) in (
      record {
        some_chunk = limited.some_chunk;
        few_chunks = limited.few_chunks;
        few_tables = limited.few_tables;
        few_txns = limited.few_txns;
        few_ended = limited.few_ended;
        none_noted = limited.none_noted;
        none_saved = limited.none_saved;
        kept = record {
          runs = λ kept same. subst (λ (one : Prepared). RunsAt inside.shapes inside.program one) (same_Some _ kept same)
              (subst (λ (txn : ℕ). RunsAt inside.shapes inside.program (record { txn = txn; statement = c.args.number; reader = c.args.reader })) ended planned);
        };
      },
      c.self.invariant.1,
      c.self.invariant.2,
    )
