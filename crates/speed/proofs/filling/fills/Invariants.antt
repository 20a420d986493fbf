-- Filled from the first turn on, with the byte of the last.
use Rattle.std.proofs.Common.{◌≡◌, ◌==◌, ◌%◌, cond, length, replicate}
use Rattle.speed.proofs.filling.fills.Given as goal

abbrev pub invariant-loop-turn : goal.invariant-loop-turn
invariant-loop-turn l = l.image ≡ cond (l.turn == 0) l.initial.image (replicate (length l.initial.image) (l.turn % 256))
