use Rattle.std.proofs.Common.{ap, ◌∙◌}
use Rattle.std.specs.List.{flat_map}
use Rattle.hy_plan.specs.Reads.{recorded, select_reads_of}
use Rattle.hy_laws.proofs.AsRead.{looked_up_read}
use Rattle.hy_laws.proofs.look_ups.looked_up_rows_log_the_same.Goals as goal

-- the same is read of what is read
pub returns : goal.returns
returns c shapes number numbers ons pred items tables fits =
    ap (λ gathered. flat_map (recorded number) (select_reads_of shapes numbers ons pred items gathered))
    (looked_up_read shapes numbers ons pred items tables fits)
    ∙ ap (flat_map (recorded number)) (c.what_is_read_is_read_again.ensures shapes numbers ons pred items tables fits)
