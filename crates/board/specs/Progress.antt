-- How far a receiver can be.
use Rattle.std.specs.Prelude.{ℕ, Bool, ◌&&◌, ◌==◌, nat_le, nat_lt}
use Rattle.board.specs.declared.receiver.Progress.{Progress}
use Rattle.board.specs.declared.receiver.Progress.TheVariants.{Idle, LengthLow, LengthHigh, Body, CheckLow, CheckHigh}

-- whether a receiver can have come this far with k bytes of a core command: none before its body; fewer than its length in the body, and that
-- is at most 299; 1 to 299 behind it
abbrev pub sound : Progress → ℕ → Bool
sound Idle k = k == 0
sound LengthLow k = k == 0
sound (LengthHigh low) k = k == 0
sound (Body n) k = nat_lt k n && nat_le n 299
sound CheckLow k = nat_lt 0 k && nat_le k 299
sound (CheckHigh low) k = nat_lt 0 k && nat_le k 299
