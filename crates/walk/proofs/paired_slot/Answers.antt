use Rattle.numbers.specs.Sectors.{next_sector}
use Rattle.records.specs.Bytes.{report_of}
use Rattle.records.specs.Fields.{WellFormed}
use Rattle.walk.proofs.Slots.{speeds_fit}
use Rattle.walk.specs.Table.{paired_slot}
use Rattle.settling.proofs.HandedOn.{updated_served}
use Rattle.walk.proofs.paired_slot.Goals as goal

pub pack-requires : goal.pack-requires
pack-requires c =
    let w : WellFormed c.updated.result (next_sector c.args.sector) = rw (c.updated.ensures, c.unpack_report-p.ensures) (updated_served c.unpack-t.result (report_of c.args.report) c.args.sector c.requires.sector_in c.requires.sound).well in
    speeds_fit w

pub returns : goal.returns
unfolding paired_slot
returns c = rw (← c.unpack-t.ensures, ← c.unpack_report-p.ensures, ← c.updated.ensures) c.pack.ensures
