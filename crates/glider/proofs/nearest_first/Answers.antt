use Rattle.glider.specs.Nearest.{nearest_of, nearest_for, taken_after, nearest_first}
use lib.ListN.{set, length-set, length}
use mathlib.Core.Bool.{true}
use mathlib.Core.Path.{ap, ◌∙◌}
use Prim.Native.Nat.{ℕ, ◌≤◌, ◌<◌}
use native.Mathlib.Omega.{arith}
use mathlib.Core.List.{List, append-nil}
use lib.Seq.{drop-length}
use Rattle.laws.proofs.Rounds.{told_more, told_end}
use Rattle.glider.proofs.Filter.{part_is_row}
use Rattle.glider.proofs.nearest_first.Goals as goal

pub loop-track-preserved : goal.loop-track-preserved
unfolding taken_after nearest_for
loop-track-preserved c =
    let i = c.loop-track.invariant in
    let taken = c.loop-track.taken in
    let track = c.loop-track.track in
    let start = c.args in
    let e = c.nearest_free.ensures ∙ ap (λ (r : List ℕ). nearest_of r taken) (part_is_row start.reports track start.sheet.now) in
    let t = c.take_report.ensures in
    let n = length start.pairing.now in
    let h : track < n = omega (arith, i.so.so.same) in
    let r : n ≤ n = omega arith in
    record {
      upto = omega arith;
      marks = ap length t ∙ simp length-set i.marks;
      so = told_more _ _ i.so h r (t ∙ ap (λ (k : ℕ). set taken k true) e) e;
    }

pub returns : goal.returns
unfolding nearest_first
returns c = told_end _ _ c.loop-track.invariant.so (omega (arith, c.loop-track.invariant.so.so.same)) c.loop-track.invariant.upto ∙ rw (drop-length, append-nil)
