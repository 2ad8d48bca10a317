use Rattle.plotunit.proofs.Telling.{serve_refused, serve_done}
use Rattle.plotunit.proofs.plot_serve_sector.Goals as goal

pub returns-in-Err : goal.returns-in-Err
returns-in-Err c = rw c.number.ensures (serve_refused c.serve_sector-answer.ensures c.in-Err.is)

pub returns-in-Ok : goal.returns-in-Ok
returns-in-Ok c = serve_done c.serve_sector-answer.ensures c.in-Ok.is c.write_counts.ensures
