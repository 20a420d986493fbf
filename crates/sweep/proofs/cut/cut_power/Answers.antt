use Rattle.std.proofs.Common.{ap, ap₂, sym, ◌∙◌}
use Rattle.sweep.specs.Cuts.{board_on, cut_of}
use Rattle.sweep.specs.Kinds.{snapshot_meaning}
use Rattle.sweep.proofs.Cutting.{cut_joined}
use Rattle.sweep.proofs.cut.cut_power.Goals as goal

pub returns : goal.returns
returns g c =
    let m = snapshot_meaning g.M.Kept.clear c.args.old.now in
    let first = c.in_ok-memory.ensures in
    cut_joined c.args.steps c.deref.result.now c.deref-2.result.now m _ _ _ _ _ _ _ _ _ _ _
    (c.new-board.ensures.state ∙ ap board_on c.restored.ensures)
    c.in_ok-gone.ensures.left
    c.in_ok-gone.ensures.gone
    c.in_ok-gone.ensures.back
    (first.saved ∙ c.into_memory.ensures)
    (c.new-board-2.ensures.state ∙ ap board_on (first.stays ∙ sym first.saved))
    c.in_ok-again.ensures.left
    c.in_ok-again.ensures.said
    (c.in_ok-memory-2.ensures.saved ∙ c.into_memory-2.ensures)
    c.in_ok-half_back.ensures
    c.in_ok-half_again.ensures
    ∙ ap₂ (λ calls more. cut_of c.args.steps calls more m) c.deref.ensures.value c.deref-2.ensures.value
