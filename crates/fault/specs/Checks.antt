-- Checks in their order: the first that fails refuses.
use Rattle.std.specs.Prelude.{Bool, cond, Ok, Err, Result}
use Rattle.fault.specs.declared.Fault.{Fault}

-- a check: it refuses where its test fails
abbrev pub check : Bool → Fault → Result (Unit {0}) Fault
check t f = cond t (Ok tt) (Err f)

-- a check, and what follows where it passes
abbrev pub then : {X : Type 0} → Result (Unit {0}) Fault → Result X Fault → Result X Fault
then (Ok u) r = r
then (Err f) r = Err f
