use Rattle.std.proofs.Common.{Ok, refl, ap, ◌∙◌}
use Rattle.memory.proofs.Exits.{passed_on}
use Rattle.board.specs.Keys.{key_in, key_step, steps_of}
use Rattle.board.specs.Opening.{with_work}
use Rattle.board.proofs.KeyJudging.{bad_type, key_passes, old_key, slot_is, step_is}
use Rattle.board.proofs.key.OpenedKey.judge.Goals as goal

pub returns-in_err-slot : goal.returns-in_err-slot
returns-in_err-slot c = λ work.
    let p = key_in c.args.self work in
    ap (with_work key_step work) (passed_on _ _ c.from_residual.ensures.1) ∙ ap steps_of (bad_type c.args.held.now p _ refl _ c.in_err-slot.ensures)

pub returns-then-self-old : goal.returns-then-self-old
returns-then-self-old c = λ work.
    let p = key_in c.args.self work in
    ap steps_of (old_key c.args.held.now p _ refl _ c.in_ok-slot.ensures _ _ _ c.place.ensures refl refl c.if-self-old.true)

pub returns : goal.returns
returns c = λ work.
    let p = key_in c.args.self work in
    ap Ok (step_is p _ (slot_is c.args.held.now p _ refl _ c.in_ok-slot.ensures))
    ∙ ap steps_of (key_passes c.args.held.now p _ refl _ c.in_ok-slot.ensures _ _ 0 c.place.ensures refl c.if-self-old.false)
