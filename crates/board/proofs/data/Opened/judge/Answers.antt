use Rattle.std.proofs.Common.{length, sym, ap, ◌∙◌}
use Rattle.memory.proofs.Exits.{passed_on}
use Rattle.memory.specs.Areas.{range_checked}
use Rattle.rules.specs.Board.{judge_fields, numbers_checked, turn_checked}
use Rattle.board.specs.Judging.{seen}
use Rattle.board.specs.Opening.{with_work}
use Rattle.board.specs.States.{judged_in, packet_in}
use Rattle.board.proofs.Exits.{all_passed, failed_first, failed_second, failed_third}
use Rattle.board.proofs.Stepping.{data_long}
use Rattle.board.proofs.data.Opened.judge.Goals as goal

pub returns-in_err-check_numbers : goal.returns-in_err-check_numbers
unfolding judge_fields
returns-in_err-check_numbers c = λ work h.
    let p = packet_in c.args.self work in
    let v = turn_checked (seen c.args.session.now c.args.held.now) p in
    let w = range_checked p.address (length p.bytes) in
    ap (with_work judged_in work) (passed_on _ _ c.from_residual.ensures.1) ∙ failed_first (numbers_checked p) v w p _ (c.in_err-check_numbers.ensures)

pub returns-in_err-check_turn : goal.returns-in_err-check_turn
unfolding judge_fields
returns-in_err-check_turn c = λ work h.
    let p = packet_in c.args.self work in
    let v = turn_checked (seen c.args.session.now c.args.held.now) p in
    let w = range_checked p.address (length p.bytes) in
    ap (with_work judged_in work) (passed_on _ _ c.from_residual-in_err-check_turn.ensures.1)
    ∙ failed_second (numbers_checked p) v w p _ (c.in_ok-check_numbers.ensures) (c.in_err-check_turn.ensures p.bytes)

pub returns-in_err-check_range : goal.returns-in_err-check_range
unfolding judge_fields
returns-in_err-check_range c = λ work h.
    let p = packet_in c.args.self work in
    let v = turn_checked (seen c.args.session.now c.args.held.now) p in
    let w = range_checked p.address (length p.bytes) in
    ap (with_work judged_in work) (passed_on _ _ c.from_residual-in_err-check_range.ensures.1)
    ∙ failed_third (numbers_checked p) v w p _ (c.in_ok-check_numbers.ensures) (c.in_ok-check_turn.ensures p.bytes)
    (c.in_err-check_range.ensures.value ∙ ap (range_checked p.address) (sym (data_long c.args.self work h)))

pub returns : goal.returns
unfolding judge_fields
returns c = λ work h.
    let p = packet_in c.args.self work in
    let v = turn_checked (seen c.args.session.now c.args.held.now) p in
    let w = range_checked p.address (length p.bytes) in
    all_passed (numbers_checked p) v w p (c.in_ok-check_numbers.ensures) (c.in_ok-check_turn.ensures p.bytes)
    (c.in_ok-check_range.ensures.value ∙ ap (range_checked p.address) (sym (data_long c.args.self work h)))
