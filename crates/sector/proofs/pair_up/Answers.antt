use Rattle.sector.proofs.Choosing.{rows_room, paired_off}
use Rattle.sector.proofs.pair_up.Goals as goal

pub fill_rows-requires-clause-rows_ready : goal.fill_rows-requires-clause-rows_ready
fill_rows-requires-clause-rows_ready c = rows_room _ _ _ _ _ _ c.requires.ready c.requires.pairable

pub returns : goal.returns
returns c =
    paired_off _ _ _ _ _ _ c.requires.ready c.requires.pairable _ _ _ _ _ c.fill_rows.ensures c.pair_sheet.auto.pairing c.pair_sheet.auto.prices c.pair_sheet.ensures
