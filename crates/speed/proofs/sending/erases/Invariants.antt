-- The erases so far.
use Rattle.std.proofs.Common.{◌≡◌, vec_items}
use Rattle.speed.specs.Sending.{erases_calls}
use Rattle.speed.proofs.sending.erases.Given as goal

abbrev pub invariant-loop : goal.invariant-loop
invariant-loop l = vec_items l.events ≡ erases_calls l.counter
