use Rattle.std.proofs.Common.{ap, ◌∙◌, arith}
use Rattle.rules.specs.Commands.{command}
use Rattle.board.proofs.Commanding.{command_alone, command_data, command_key, command_longer}
use Rattle.board.proofs.receiver.core_command.CoreCommand.command.Goals as goal

pub returns-in-48 : goal.returns-in-48
returns-in-48 c = command_data c.bytes.result.now (omega arith) (cc) ∙ ap command c.bytes.ensures.bytes

pub returns-in-48-2 : goal.returns-in-48-2
returns-in-48-2 c = command_data c.bytes.result.now (omega arith) (cc) ∙ ap command c.bytes.ensures.bytes

pub returns-in-49 : goal.returns-in-49
returns-in-49 c = command_key c.bytes.result.now (omega arith) (cc) ∙ ap command c.bytes.ensures.bytes

pub returns-in-49-2 : goal.returns-in-49-2
returns-in-49-2 c = command_key c.bytes.result.now (omega arith) (cc) ∙ ap command c.bytes.ensures.bytes

pub returns-in-len1 : goal.returns-in-len1
returns-in-len1 c = c.alone.ensures ∙ command_alone c.bytes.result.now (omega arith) (λ e. omega (arith, e)) (λ e. omega (arith, e)) ∙ ap command c.bytes.ensures.bytes

pub returns-in-len1-up : goal.returns-in-len1-up
returns-in-len1-up c = command_longer c.bytes.result.now (omega arith) (λ e. omega (arith, e)) (λ e. omega (arith, e)) ∙ ap command c.bytes.ensures.bytes
