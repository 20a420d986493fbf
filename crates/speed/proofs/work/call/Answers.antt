use Rattle.std.proofs.Common.{◌≡◌, ◌∙◌, count_by, ap}
use Rattle.cipher.specs.Aes.{aes}
use Rattle.cipher.specs.Ccm.{ccm}
use Rattle.rules.specs.Board.{State, history}
use Rattle.rules.specs.Promises.{start}
use Rattle.board.specs.Running.{answers}
use Rattle.speed.specs.Sending.{obeyed}
use Rattle.speed.proofs.work.call.Goals as goal

pub returns : goal.returns
returns c =
    λ g i d k.
    let e = c.fresh-board.ensures.fresh g i d k in
    c.in_ok-done.ensures.count ∙ ap (λ (s : State). count_by obeyed (answers (history (ccm aes) s c.args.calls.now))) e
