-- The supply: how many storing steps will still be kept.
use Rattle.std.specs.Prelude.{◌-◌, Bool, true, nat_lt}
use Rattle.memory.specs.declared.supply.Supply.{Supply}
use Rattle.memory.specs.declared.supply.Supply.TheVariants.{NoEnd, Steps}

-- whether one more step will be kept
abbrev pub lit : Supply → Bool
lit NoEnd = true
lit (Steps n) = nat_lt 0 n

-- what is left after one step
abbrev pub spent : Supply → Supply
spent NoEnd = NoEnd
spent (Steps n) = Steps (n - 1)
