use Rattle.paths.proofs.Finished.{flips_leaver, finished_leaver}
use Rattle.paths.proofs.finish.Goals as goal

pub flip-requires-in-LeftOut : goal.flip-requires-in-LeftOut
flip-requires-in-LeftOut c = flips_leaver (rw c.in-LeftOut.is at c.requires) c.if-leaver-track.false

pub returns-else-leaver-track : goal.returns-else-leaver-track
returns-else-leaver-track c =
    let F = c.flip-in-LeftOut.ensures in
    (F.0, (finished_leaver (rw c.in-LeftOut.is at c.requires) c.if-leaver-track.false F.1.0, F.1.1))
