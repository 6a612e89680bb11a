-- What a statement over tables of positions comes to is its meaning over their rows.
use Rattle.std.proofs.Common.{◌≡◌, ℕ, List, [], ◌∷◌, Option, Some, map}
use Rattle.std.proofs.Common.{refl, ap, sym, ◌∙◌, subst}
use Rattle.std.proofs.lemmas.Option.{same_Some}
use Rattle.hy_bound.specs.declared.Bound.{Bound}
use Rattle.hy_bound.specs.declared.Bound.TheVariants.{Select, Group, Insert, Update, Delete, Savepoint, RollbackTo, Release}
use Rattle.hy_bound.specs.declared.Reply.{Reply}
use Rattle.hy_bound.specs.declared.Reply.TheVariants as reply
use Rattle.hy_plan.specs.Reads.{records_of}
use Rattle.hy_meaning.specs.Statement.{Table, rows_in, gathered_by, answer_of, grouped, mean}
use Rattle.hy_machine.specs.declared.Setting.{Setting}
use Rattle.hy_machine.specs.Tables.{Tables, Own, capacity, over}
use Rattle.hy_machine.specs.Turns.{rows_seen}
use Rattle.hy_replay.specs.Ran.{One, one}
use Rattle.hy_replay.specs.BagLaws.{IsPosition}
use Rattle.hy_replay.proofs.OverCells.{Alike, HavePositions, over_positions}
use Rattle.hy_replay.proofs.Presents.{rows_of, rows_at}
use Rattle.hy_replay.proofs.BagMeanings.{Steps, same_means}
use Rattle.hy_replay.proofs.BagUpdates.{updated_steps, deleted_steps}
use Rattle.hy_replay.proofs.BagInserts.{inserted_steps}

-- the rows that a SELECT gathers
seen_all : (view : Tables) (from : List ℕ) → map (rows_in (rows_of view)) from ≡ map (rows_seen view) from
seen_all view [] = refl
seen_all view (table ∷ from) =
    ap (λ (rows : Table). rows ∷ map (rows_in (rows_of view)) from) (rows_at view table)
    ∙ ap (λ (more : List Table). rows_seen view table ∷ more) (seen_all view from)

-- a statement that reads and writes nothing
saved_steps : (setting : Setting) (tables : Tables) (own : Own) (number : ℕ) (statement : Bound) (told : Reply) (first : One) → Alike tables own
    → mean setting.shapes statement (rows_of (over tables own)) ≡ Some (told, rows_of (over tables own))
    → records_of setting.shapes number statement (gathered_by statement (rows_of (over tables own))) ≡ []
    → Some (record { own = own; reply = told; records = [] }) ≡ Some first → Steps setting tables own number statement first
saved_steps setting tables own number statement told first alike m none e =
    subst (Steps setting tables own number statement) (same_Some (record { own = own; reply = told; records = [] }) first e)
    (record {
      alike = alike;
      adds = record { writes = []; is = refl };
      means = same_means setting.shapes statement (over tables own) told m;
      logs = sym none;
    })

-- what a statement comes to over tables of positions is its meaning over their rows
pub one_steps : (setting : Setting) (tables : Tables) (own : Own) (number : ℕ) (statement : Bound) (at : Option ℕ) (first : One) → Alike tables own
    → HavePositions (capacity setting) tables → IsPosition setting at → one setting tables own number statement at ≡ Some first
    → Steps setting tables own number statement first
one_steps setting tables own number (Select from ons pred items) at first alike h within e =
    let view : Tables = over tables own in
    let rows : map (rows_in (rows_of view)) from ≡ map (rows_seen view) from = seen_all view from in
    subst (Steps setting tables own number (Select from ons pred items)) (same_Some _ first e)
    (record {
      alike = alike;
      adds = record { writes = []; is = refl };
      means = same_means setting.shapes (Select from ons pred items) view (answer_of ons pred items (map (rows_seen view) from))
          (ap (λ gathered. Some (answer_of ons pred items gathered, rows_of view)) rows);
      logs = ap (records_of setting.shapes number (Select from ons pred items)) (sym rows);
    })
one_steps setting tables own number (Group table pred key aggregate) at first alike h within e =
    let view : Tables = over tables own in
    subst (Steps setting tables own number (Group table pred key aggregate)) (same_Some _ first e)
    (record {
      alike = alike;
      adds = record { writes = []; is = refl };
      means = same_means setting.shapes (Group table pred key aggregate) view (grouped pred key aggregate (rows_seen view table))
          (ap (λ rows. Some (grouped pred key aggregate rows, rows_of view)) (rows_at view table));
      logs = refl;
    })
one_steps setting tables own number (Insert table row) at first alike h within e =
    inserted_steps setting tables own number table row at first alike (over_positions (capacity setting) tables own h) within e
one_steps setting tables own number (Update table sets pred) at first alike h within e =
    updated_steps setting tables own number table sets pred first alike (over_positions (capacity setting) tables own h) e
one_steps setting tables own number (Delete table pred) at first alike h within e =
    deleted_steps setting tables own number table pred first alike (over_positions (capacity setting) tables own h) e
one_steps setting tables own number (Savepoint name) at first alike h within e =
    saved_steps setting tables own number (Savepoint name) reply.Saved first alike refl refl e
one_steps setting tables own number (RollbackTo name) at first alike h within e =
    saved_steps setting tables own number (RollbackTo name) reply.Back first alike refl refl e
one_steps setting tables own number (Release name) at first alike h within e =
    saved_steps setting tables own number (Release name) reply.Released first alike refl refl e
