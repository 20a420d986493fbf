use Rattle.std.proofs.Common.{false, ap, ◌∙◌, ap₂}
use Rattle.board.specs.Outcomes.{lit_board}
use Rattle.board.specs.State.{board_of}
use Rattle.rules.specs.declared.Session.TheVariants.{Closed}
use Rattle.rules.specs.Board.{fresh}
use Rattle.board.proofs.board.Board.new.Goals as goal

pub returns : goal.returns
unfolding fresh
returns g c =
    let e = ap₂ (λ w r. board_of w r false) c.new.ensures c.idle.ensures.idle in
    record { state = e; fresh = λ k h. e ∙ ap (λ x. lit_board x Closed) h }
