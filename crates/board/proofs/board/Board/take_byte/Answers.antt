use Rattle.std.proofs.Common.{sym, ap, ◌∙◌}
use Rattle.wire.specs.Frame.{over}
use Rattle.rules.specs.Board.{Answer, Outcome, State}
use Rattle.board.specs.Answers.{byte_answer, call_of}
use Rattle.board.specs.Reading.{receiver_of}
use Rattle.board.proofs.Calling.{called_on, replied_on, step_dark}
use Rattle.board.proofs.board.Board.take_byte.Goals as goal

pub returns-then-self-clause-call : goal.returns-then-self-clause-call
returns-then-self-clause-call g c =
    let s = c.args.self.now in
    ap (λ a. call_of s (byte_answer a c.args.reply.now)) c.refused.ensures
    ∙ step_dark g.C.PacketCipher.cipher s c.args.byte (ap (λ (x : State). x.dark) (sym c.self.view_is) ∙ c.if-self.true)

pub returns-then-self-clause-reply : goal.returns-then-self-clause-reply
returns-then-self-clause-reply g c =
    ap (λ (o : Outcome). over o.answer.sent c.args.reply.now)
    (step_dark g.C.PacketCipher.cipher c.args.self.now c.args.byte (ap (λ (x : State). x.dark) (sym c.self.view_is) ∙ c.if-self.true))

pub returns-clause-call : goal.returns-clause-call
returns-clause-call g c =
    let lit = ap (λ (x : State). x.dark) (sym c.self.view_is) ∙ c.if-self.false in
    let b = c.self-2.inside in
    called_on g.C.PacketCipher.cipher c.args.self.now c.args.byte c.hear-done.result lit c.hear-done.new.self c.hear-done.ensures b.device (receiver_of b.receiver) b.dark _ _ c.self-2.view_is
    c.went_dark-self-inside.ensures c.answered.ensures.answer

pub returns-clause-reply : goal.returns-clause-reply
returns-clause-reply g c =
    let lit = ap (λ (x : State). x.dark) (sym c.self.view_is) ∙ c.if-self.false in
    c.answered.ensures.reply ∙ ap (λ (a : Answer). over a.sent c.args.reply.now) (replied_on g.C.PacketCipher.cipher c.args.self.now c.args.byte c.hear-done.result lit c.hear-done.new.self c.hear-done.ensures)
