use Rattle.paths.proofs.Swap.{flip_step}
use Rattle.paths.proofs.flip.Goals as goal

pub loop-vacant-preserved : goal.loop-vacant-preserved
loop-vacant-preserved c =
    let I = c.loop-vacant.invariant in
    (I.0, (I.1.0, flip_step I.1.1 c.loop-vacant-test.true))
