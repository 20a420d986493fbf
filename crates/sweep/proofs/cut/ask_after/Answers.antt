use Rattle.std.proofs.Common.{ap, ◌∙◌}
use Rattle.rules.specs.Board.{Outcome}
use Rattle.sweep.proofs.Asking.{question_stays}
use Rattle.sweep.proofs.cut.ask_after.Goals as goal

pub returns-clause-left : goal.returns-clause-left
returns-clause-left g c = ap (λ (o : Outcome). o.state) c.boot.ensures ∙ question_stays _ _ ∙ c.in_ok-run.ensures.answered.0
