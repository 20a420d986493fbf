-- The work buffer after a byte call, and the power check.
use Rattle.std.specs.Prelude.{ℕ, Bool, cond, not, List, length, Result, nat_lt}
use Rattle.fault.specs.Checks.{check}
use Rattle.fault.specs.declared.Fault.{Fault}
use Rattle.fault.specs.declared.Fault.TheVariants.{Dark}
use Rattle.board.specs.Wiped.{wiped}

-- unchanged where the reply buffer, of so many bytes, or the work buffer is too short; else wiped
abbrev pub work_after : ℕ → List ℕ → List ℕ
work_after reply work = cond (nat_lt reply 11) work (cond (nat_lt (length work) 266) work (wiped work))

-- refused on a dark board
abbrev pub power_checked : Bool → Result (Unit {0}) Fault
power_checked dark = check (not dark) Dark
