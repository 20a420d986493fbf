-- Reading a blank byte.
use Rattle.std.specs.Prelude.{ℕ, Bool, false, Ok, Err, Result, ◌==◌}
use Rattle.fault.specs.declared.Fault.{Fault}

-- whether what is read is a blank byte
abbrev pub reads_blank : Result ℕ Fault → Bool
reads_blank (Ok b) = b == 0xFF
reads_blank (Err f) = false
