use Rattle.std.proofs.Common.{Ok, ap, ◌∙◌, arith}
use Rattle.fault.specs.declared.Fault.TheVariants.{BadIv}
use Rattle.vectors.proofs.Fronts.{opened_front}
use Rattle.vectors.proofs.answers.open_answer.Goals as goal

pub returns : goal.returns
returns g c =
    let C = g.C.PacketCipher.cipher in
    let iv = c.args.iv.now in
    let o = C.opened c.args.key.now iv c.args.body.now in
    ap Ok c.from_slice.ensures
    ∙ opened_front (C.well_formed iv) (BadIv (C.first_wrong iv)) o c.in_ok-n.n c.open.new.work c.in_ok-n.ensures.answer c.open.ensures.work (omega arith)
