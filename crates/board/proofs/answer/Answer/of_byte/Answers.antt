use Rattle.std.proofs.Common.{ap, ◌∙◌, arith}
use Rattle.buffer.proofs.Fronts.{front_whole}
use Rattle.board.specs.Answers.{answer_that}
use Rattle.board.proofs.answer.Answer.of_byte.Goals as goal

pub returns : goal.returns
returns c = ap (answer_that c.args.answer.refusal) (c.front.ensures ∙ front_whole 11 c.args.answer.sent c.args.reply.now (omega arith))
