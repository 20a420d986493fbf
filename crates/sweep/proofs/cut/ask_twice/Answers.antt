use Rattle.std.proofs.Common.{ap, ◌∙◌}
use Rattle.memory.specs.declared.supply.Supply.TheVariants.{NoEnd}
use Rattle.rules.specs.Board.{Outcome, State, run, step}
use Rattle.rules.specs.declared.Event.TheVariants.{PowerUp, Question}
use Rattle.sweep.proofs.Asking.{question_stays}
use Rattle.sweep.proofs.cut.ask_twice.Goals as goal

pub returns-clause-left : goal.returns-clause-left
returns-clause-left g c =
    let C = g.C.PacketCipher.cipher in
    let state = λ (o : Outcome). o.state in
    let cut = c.in_ok-run.ensures.answered.0 ∙ ap (λ (s : State). run C s c.args.calls.now) (ap state c.power_up.ensures) in
    let asked = ap state c.boot.ensures ∙ ap (λ (s : State). (step C s Question).state) cut in
    ap state c.boot-2.ensures ∙ question_stays _ _ ∙ ap state c.power_up-2.ensures ∙ ap (λ (s : State). (step C s (PowerUp NoEnd)).state) asked
