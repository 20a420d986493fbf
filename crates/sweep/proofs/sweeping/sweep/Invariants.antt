-- The steps so far, counted.
use Rattle.std.proofs.Common.{◌≡◌}
use Rattle.sweep.specs.Kinds.{snapshot_meaning}
use Rattle.sweep.specs.Swept.{report_of}
use Rattle.sweep.proofs.sweeping.sweep.Given as goal

abbrev pub invariant-loop-kept : goal.invariant-loop-kept
invariant-loop-kept g l = l.report ≡ report_of l.every l.plan.cut.items l.plan.again.items (snapshot_meaning g.M.Kept.clear l.old) l.kept
