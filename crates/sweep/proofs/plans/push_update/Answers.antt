use Rattle.std.proofs.Common.{◌∙◌, arith}
use Rattle.sweep.proofs.Sending.{parts_more, parts_none}
use Rattle.sweep.proofs.plans.push_update.Goals as goal

pub loop-number-init : goal.loop-number-init
loop-number-init c = parts_none c.args.key.now c.args.events.now.items

pub loop-number-preserved : goal.loop-number-preserved
loop-number-preserved c =
    parts_more c.args.key.now c.as_slice.result.now c.loop-number.number _ _ _ (omega arith) c.loop-number.invariant c.in_ok-push_frame.ensures
    (c.as_slice.ensures.bytes ∙ c.in_ok-frame.ensures.made)
