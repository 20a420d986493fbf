use Rattle.std.proofs.Common.{◌∙◌, arith}
use Rattle.demo.proofs.Parts.{none, one_more}
use Rattle.demo.proofs.update.Goals as goal

pub loop-number-init : goal.loop-number-init
loop-number-init c = c.new-frames.ensures.items ∙ none c.args.key.now

pub loop-number-preserved : goal.loop-number-preserved
loop-number-preserved c =
    c.in_ok-push.ensures.items ∙ one_more c.args.key.now c.in_ok-pack_part.field-0 c.loop-number.number _ (omega arith) c.loop-number.invariant c.in_ok-pack_part.ensures.made
