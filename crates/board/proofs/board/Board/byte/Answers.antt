use Rattle.std.proofs.Common.{◌++◌, length, drop, ap, ◌∙◌}
use Rattle.wire.specs.Frame.{over}
use Rattle.rules.specs.Board.{Outcome}
use Rattle.board.specs.Answers.{answer_that, byte_answer, call_of}
use Rattle.board.proofs.Buffers.{over_front, sent_front, unwritten}
use Rattle.board.proofs.Calling.{step_reply, step_work, work_wiped}
use Rattle.board.proofs.Histories.{long_step}
use Rattle.board.proofs.board.Board.byte.Goals as goal

pub returns-in_default-clause-call : goal.returns-in_default-clause-call
returns-in_default-clause-call g c =
    ap (λ a. call_of c.args.self.now (byte_answer a c.args.reply.now)) c.refused.ensures
    ∙ step_reply g.C.PacketCipher.cipher c.args.self.now c.args.byte (length c.args.reply.now) (length c.args.work.now) c.in_default.ensures.cases

pub returns-in_default-clause-reply : goal.returns-in_default-clause-reply
returns-in_default-clause-reply g c =
    ap (λ (o : Outcome). over o.answer.sent c.args.reply.now)
    (step_reply g.C.PacketCipher.cipher c.args.self.now c.args.byte (length c.args.reply.now) (length c.args.work.now) c.in_default.ensures.cases)

pub returns-in_default-first_chunk_mut-clause-call : goal.returns-in_default-first_chunk_mut-clause-call
returns-in_default-first_chunk_mut-clause-call g c =
    ap (λ a. call_of c.args.self.now (byte_answer a (c.in-Some.reply.now ++ drop 11 c.args.reply.now))) c.refused-in_default-first_chunk_mut.ensures
    ∙ step_work g.C.PacketCipher.cipher c.args.self.now c.args.byte (length c.args.reply.now) (length c.args.work.now) c.in-Some.ensures.cases.enough
    c.in_default-first_chunk_mut.ensures.cases

pub returns-in_default-first_chunk_mut-clause-reply : goal.returns-in_default-first_chunk_mut-clause-reply
returns-in_default-first_chunk_mut-clause-reply g c =
    unwritten c.args.reply.now c.in-Some.reply.now c.in-Some.ensures.cases
    ∙ ap (λ (o : Outcome). over o.answer.sent c.args.reply.now)
    (step_work g.C.PacketCipher.cipher c.args.self.now c.args.byte (length c.args.reply.now) (length c.args.work.now) c.in-Some.ensures.cases.enough
    c.in_default-first_chunk_mut.ensures.cases)

pub returns-clause-call : goal.returns-clause-call
returns-clause-call g c =
    let e = c.take_byte.ensures in
    let long = long_step g.C.PacketCipher.cipher c.args.self.now c.args.byte (length c.args.reply.now) (length c.args.work.now) c.in-Some.ensures.cases.enough
    c.in-Some-first_chunk_mut.ensures.cases.enough in
    let front = sent_front c.args.reply.now c.in-Some.reply.now c.take_byte.new.reply _ c.take_byte.result.sent c.in-Some.ensures.cases e.reply
    (ap (λ (o : Outcome). o.answer.sent) e.call) e.bound in
    ap (λ bs. call_of c.take_byte.new.self (answer_that c.take_byte.result.refusal bs)) front ∙ e.call ∙ long

pub returns-clause-reply : goal.returns-clause-reply
returns-clause-reply g c =
    let e = c.take_byte.ensures in
    let long = long_step g.C.PacketCipher.cipher c.args.self.now c.args.byte (length c.args.reply.now) (length c.args.work.now) c.in-Some.ensures.cases.enough
    c.in-Some-first_chunk_mut.ensures.cases.enough in
    over_front c.args.reply.now c.in-Some.reply.now c.take_byte.new.reply _ c.take_byte.result.sent c.in-Some.ensures.cases e.reply
    (ap (λ (o : Outcome). o.answer.sent) e.call) e.bound
    ∙ ap (λ (o : Outcome). over o.answer.sent c.args.reply.now) long

pub returns-clause-work : goal.returns-clause-work
returns-clause-work g c =
    work_wiped (length c.args.reply.now) c.args.work.now c.in-Some.ensures.cases.enough c.in-Some-first_chunk_mut.ensures.cases.enough _ c.take_byte.ensures.work
