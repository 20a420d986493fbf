use Rattle.std.proofs.Common.{Ok, ap, ◌∙◌, arith}
use Rattle.memory.proofs.Exits.{passed_on}
use Rattle.rules.specs.Board.{fields}
use Rattle.board.specs.Opening.{with_work}
use Rattle.board.specs.States.{packet_in}
use Rattle.board.proofs.Opening.{open_fails, open_reads, packet_lies}
use Rattle.board.proofs.data.Opened.open.Goals as goal

pub returns-in_err-n : goal.returns-in_err-n
returns-in_err-n g c = ap (with_work packet_in c.open.new.work) (passed_on _ _ c.from_residual.ensures.1) ∙ open_fails fields _ _ _ c.in_err-n.ensures.value

pub returns : goal.returns
returns g c =
    let e = c.in_ok-n.ensures in
    ap Ok (packet_lies c.read.result _ c.open.new.work _ c.read.ensures.fields c.read.ensures.place c.read.ensures.count c.over.ensures (omega (arith, e.long, c.args.sealed.sized)) (omega (arith, e.long, c.args.sealed.sized)))
    ∙ open_reads fields _ _ _ e.value
