use Rattle.std.proofs.Common.{ap, ◌∙◌}
use Rattle.rules.specs.Board.{Outcome}
use Rattle.sweep.specs.Cuts.{board_on}
use Rattle.sweep.proofs.Cutting.{steps_joined}
use Rattle.sweep.proofs.cut.count_steps.Goals as goal

pub returns : goal.returns
returns g c =
    steps_joined c.args.calls.now _ _ _ _ _ _ _ (c.new-board.ensures.state ∙ ap board_on c.restored.ensures) (ap (λ (o : Outcome). o.state) c.power_up.ensures)
    c.in_ok-run.ensures.answered.0 c.into_memory-memory.ensures c.supply-left.ensures.value c.steps_taken.ensures
