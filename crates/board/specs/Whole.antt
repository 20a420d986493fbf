-- Structs made anew of their fields: they have no others, so that nothing stands in them that their meanings and invariants do not speak of.
use Rattle.board.specs.declared.receiver.Receiver.{Receiver}
use Rattle.board.specs.declared.receiver.core_command.CoreCommand.{CoreCommand}

abbrev pub core_whole : CoreCommand → CoreCommand
core_whole c = record { buffer = c.buffer; sized = c.sized }

abbrev pub receiver_whole : Receiver → Receiver
receiver_whole r = record { progress = r.progress; core = r.core; sound = r.sound }
