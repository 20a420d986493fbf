use Rattle.std.proofs.Common.{◌≡◌, take, Ok, ap, ◌∙◌, arith}
use Rattle.memory.proofs.Exits.{passed_on}
use Rattle.rules.specs.Board.{key_fields}
use Rattle.board.specs.Keys.{key_in}
use Rattle.board.specs.Opening.{with_work}
use Rattle.board.proofs.Opening.{key_lies, open_fails, open_reads}
use Rattle.board.proofs.key.OpenedKey.open.Goals as goal

pub returns-in_err-open : goal.returns-in_err-open
returns-in_err-open g c = ap (with_work key_in c.open.new.work) (passed_on _ _ c.from_residual.ensures.1) ∙ open_fails key_fields _ _ _ c.in_err-open.ensures.value

pub returns : goal.returns
returns g c =
    let e = c.in_ok-open.ensures in
    let work = c.open.new.work in
    let n = c.in_ok-open.field-0 in
    let z : 18 ≡ n = omega (arith, e.long, c.args.sealed.sized) in
    ap Ok (key_lies work) ∙ ap (λ k. Ok (key_fields (take k work))) z ∙ open_reads key_fields _ _ _ e.value
