use Rattle.records.specs.Bytes.{freed, track_of}
use Rattle.walk.proofs.Slots.{missed_kept, missed_dropped, speeds_fit}
use Rattle.std.specs.Prelude.{Some, None}
use Rattle.settling.specs.Settle.{without_pair}
use mathlib.Core.Path.{◌≡◌, ◌∙◌, sym}
use Rattle.settling.proofs.HandedOn.{coasted_served}
use Rattle.walk.proofs.missed_slot.Goals as goal

pub pack-requires : goal.pack-requires
pack-requires c =
    let k : without_pair (track_of c.args.slot) c.args.sector ≡ Some c.in-Some.t = cc in
    speeds_fit (coasted_served _ _ _ c.requires.sector_in c.requires.well_formed k).well

pub returns-in-Some : goal.returns-in-Some
returns-in-Some c =
    let k : without_pair (track_of c.args.slot) c.args.sector ≡ Some c.in-Some.t = cc in
    c.pack.ensures ∙ sym (missed_kept _ _ _ k)

pub returns-in-None : goal.returns-in-None
unfolding freed
returns-in-None c =
    let k : without_pair (track_of c.args.slot) c.args.sector ≡ None = cc in
    sym (missed_dropped _ _ k)
