use Rattle.scoresheet.proofs.Answers.{by_fault, Listed, listed, few_cells, rows_ready, too_short, served}
use Rattle.intake.specs.Refusals.{Input, input}
use native.Mathlib.Omega.{arith}
use mathlib.Core.Path.{sym}
use Rattle.std.proofs.lemmas.Result.{err_from_is_err_and}
use Rattle.scoresheet.proofs.score_sheet.Goals as goal
use Rattle.scoresheet.proofs.score_sheet.Goals.{In_ok-tracks}

-- what the call is handed
abbrev handed : In_ok-tracks → Input
handed c =
    let s = c.args in
    input s.table.now s.sector s.site s.batch.now

-- nothing of 1 to 8 applies, and the due slots are listed
counts : (c : In_ok-tracks) → Listed (handed c) c.in_ok-tracks.tracks c.take_in.new.due
counts c = listed (sym c.in_ok-tracks.ensures.fault) c.in_ok-tracks.ensures.due_listed.0 c.in_ok-tracks.ensures.due_listed.1

pub returns-in_err-tracks : goal.returns-in_err-tracks
returns-in_err-tracks c =
    let p = err_from_is_err_and c.from_residual.result c.from_residual.ensures.1 in
    let w = by_fault _ _ c.args.sheet.now c.in_err-tracks.ensures.fault in
    rw (p.1, p.2) (record { answer = w.0; sheet_after = w.1 })

pub overflow_mul-tracks : goal.overflow_mul-tracks
overflow_mul-tracks c = omega (arith, few_cells (counts (goal.at.overflow_mul-tracks c).In_ok-tracks))

pub returns-then-sheet-tracks : goal.returns-then-sheet-tracks
returns-then-sheet-tracks c =
    let w = too_short _ (counts (goal.at.returns-then-sheet-tracks c).In_ok-tracks) c.if-sheet-tracks.true in
    record { answer = w.0; sheet_after = w.1 }

pub fill_rows-requires : goal.fill_rows-requires
fill_rows-requires c = record { ready = (counts (goal.at.fill_rows-requires c).In_ok-tracks).good; rows_ready = rows_ready (counts (goal.at.fill_rows-requires c).In_ok-tracks) c.if-sheet-tracks.false }

pub returns : goal.returns
returns c =
    let w = served _ _ (counts (goal.at.returns c).In_ok-tracks) c.if-sheet-tracks.false c.fill_rows.ensures in
    record { answer = w.0; sheet_after = w.1 }
