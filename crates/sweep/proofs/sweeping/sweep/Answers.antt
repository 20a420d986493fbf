use Rattle.std.proofs.Common.{◌≡◌, ap, ◌∙◌, arith}
use Rattle.sweep.specs.Cuts.{steps_of}
use Rattle.sweep.specs.Kinds.{snapshot_meaning}
use Rattle.sweep.specs.Swept.{report_of}
use Rattle.sweep.proofs.Counting.{counted_more, counted_none}
use Rattle.sweep.proofs.sweeping.sweep.Goals as goal

pub loop-kept-init : goal.loop-kept-init
loop-kept-init g c =
    let m = snapshot_meaning g.M.Kept.clear c.args.old.now in
    counted_none _ _ _ _ m _ c.new-report.ensures (c.in_ok-steps.ensures ∙ ap (λ calls. steps_of calls m) c.deref.ensures.value)

pub loop-kept-preserved : goal.loop-kept-preserved
loop-kept-preserved g c = counted_more _ _ _ _ _ _ _ c.loop-kept.invariant c.in_ok-memory.ensures

pub returns-clause-report : goal.returns-clause-report
returns-clause-report g c =
    let m = snapshot_meaning g.M.Kept.clear c.args.old.now in
    let all : c.loop-kept.kept ≡ c.in_ok-steps.steps = omega (arith, c.loop-kept-test.false) in
    c.loop-kept.invariant ∙ ap (report_of c.args.every c.args.plan.now.cut.items c.args.plan.now.again.items m) (all ∙ c.in_ok-steps.ensures ∙ ap (λ calls. steps_of calls m) c.deref.ensures.value)
