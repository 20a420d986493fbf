-- The versions so far.
use Rattle.std.proofs.Common.{◌≡◌, vec_items}
use Rattle.speed.specs.Sending.{first_packet_calls}
use Rattle.speed.proofs.sending.updates.Given as goal

abbrev pub invariant-loop-number : goal.invariant-loop-number
invariant-loop-number l = vec_items l.events ≡ first_packet_calls l.key l.number
