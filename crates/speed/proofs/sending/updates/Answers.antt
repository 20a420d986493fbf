use Rattle.std.proofs.Common.{◌++◌, ap₂, ◌∙◌}
use Rattle.example.specs.Frames.{calls}
use Rattle.speed.proofs.Sendings.{update_more}
use Rattle.speed.proofs.sending.updates.Goals as goal

pub loop-number-preserved : goal.loop-number-preserved
loop-number-preserved c =
    c.in_ok-push_frame.ensures
    ∙ ap₂ (λ es bs. es ++ calls bs) c.loop-number.invariant (c.as_slice.ensures.bytes ∙ c.in_ok-frame.ensures.made)
    ∙ update_more c.args.key.now c.loop-number.number
