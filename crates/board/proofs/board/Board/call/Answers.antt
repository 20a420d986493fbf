use Rattle.std.proofs.Common.{◌≡◌, length, take, sym, ap, ◌∙◌, ap₂, arith}
use Rattle.std.proofs.lemmas.List.{length-take-le, take-append-le}
use Rattle.rules.specs.declared.Event.TheVariants.{Byte}
use Rattle.rules.specs.Board.{step}
use Rattle.board.specs.Answers.{answer_that, call_of}
use Rattle.board.proofs.Histories.{capped_step}
use Rattle.board.proofs.board.Board.call.Goals as goal

pub returns-in-Byte : goal.returns-in-Byte
returns-in-Byte g c =
    let C = g.C.PacketCipher.cipher in
    let s = c.args.self.now in
    let b = c.in-Byte.byte in
    let n = c.min-n.result in
    let k = c.min-k.result in
    let lr : length (take n c.args.reply.now) ≡ n = length-take-le n c.args.reply.now (omega (arith, c.min-n.ensures, c.told-reply)) in
    let lw : length (take k c.args.work.now) ≡ k = length-take-le k c.args.work.now (omega (arith, c.min-k.ensures, c.told-work)) in
    let same =
    ap₂ (λ x y. step C s (Byte b x y)) (lr ∙ c.min-n.ensures) (lw ∙ c.min-k.ensures)
    ∙ capped_step C s b c.in-Byte.reply_length c.in-Byte.work_length ∙ ap (step C s) (sym c.in-Byte.is) in
    let a = c.byte-answer in
    let front = take-append-le a.result.sent a.new.reply _ (omega (arith, a.ensures.bound, a.auto.reply)) in
    ap (call_of a.new.self) (c.of_byte.ensures ∙ ap (answer_that a.result.refusal) front) ∙ a.ensures.call ∙ same
