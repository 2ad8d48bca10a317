use borrow.Author.Rules.{rules}
use mathlib.Core.Path.{sym, ◌∙◌}
use Rattle.intake.proofs.Readiness.{ready}
use Rattle.scoresheet.specs.Cells.{reports_of}
use Rattle.sector.specs.Serve.{room_for}
use Rattle.std.proofs.lemmas.Result.{err_from_is_err_and}
use Rattle.sector.proofs.Answering.{written, room_facts, by_fault, by_room, by_serving}
use Rattle.sector.proofs.serve_sector.Goals as goal

pub returns-in_err-tracks : goal.returns-in_err-tracks
returns-in_err-tracks c =
    let p = err_from_is_err_and c.from_residual.result c.from_residual.ensures.1 in
    rw (p.1, p.2) (by_fault _ _ _ c.in_err-tracks.ensures.fault)

pub returns-then-not-has_room : goal.returns-then-not-has_room
unfolding room_for reports_of
returns-then-not-has_room c = by_room _ _ (sym c.in_ok-tracks.ensures.fault) (sym c.has_room.ensures ∙ c.if-not-has_room.true)

pub serve-counts-requires-clause-ready : goal.serve-counts-requires-clause-ready
serve-counts-requires-clause-ready c = ready _ (sym c.in_ok-tracks.ensures.fault)

pub serve-counts-requires-clause-room : goal.serve-counts-requires-clause-room
serve-counts-requires-clause-room c = room_facts (sym c.has_room.ensures ∙ c.if-not-has_room.false)

pub next_sector-requires : goal.next_sector-requires
next_sector-requires c = (ready _ (sym c.in_ok-tracks.ensures.fault)).sector_in

pub returns : goal.returns
unfolding room_for reports_of
returns c =
    let same = c.serve-counts.ensures.same_lists in
    by_serving _ _ _ _ (sym c.in_ok-tracks.ensures.fault) (sym c.has_room.ensures ∙ c.if-not-has_room.false)
    (rw c.next_sector.ensures.0 (written c.serve-counts.ensures.served (search rules) (search rules) (search rules) (search rules) (search rules)))
