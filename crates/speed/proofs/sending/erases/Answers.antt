use Rattle.std.proofs.Common.{◌++◌, ap, ◌∙◌}
use Rattle.example.specs.Frames.{erase_calls}
use Rattle.speed.proofs.Sendings.{erase_more}
use Rattle.speed.proofs.sending.erases.Goals as goal

pub loop-preserved : goal.loop-preserved
loop-preserved c =
    c.in_ok-push_erase.ensures
    ∙ ap (λ es. es ++ erase_calls) c.loop.invariant
    ∙ erase_more c.loop.counter
